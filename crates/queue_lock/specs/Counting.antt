-- A slot moves the count with its standing: its share changes by as much.
use Rattle.std.proofs.Common.{◌≡◌, ℕ, ◌+◌, ◌-◌, ◌<◌, ◌≤◌, refl, ap, ◌∙◌, arith}
use Rattle.std.proofs.lemmas.Bool.{both_ways}
use Rattle.queue_words.specs.declared.standing.Standing.TheVariants.{I, V5, V6, R7, R8, R12, R13, E6, E7}
use Rattle.queue_lock.specs.Config.{Config}
use Rattle.queue_lock.specs.Invariant.{Inv, share, share_of, next_share, one_if}
use Rattle.queue_lock.specs.Facts as fact
use Rattle.queue_lock.specs.Looks.{handed, line_seen, roles as looks-roles}
use Rattle.queue_lock.specs.Move.{moved, Unlinked, relabel, was_unlinked}
use Rattle.queue_lock.specs.Plain.{plain}
use Rattle.queue_lock.specs.Rows.{row, row_of}
use Rattle.queue_lock.specs.Shares.{share_none}
use Rattle.lined_lock.specs.Totals.{total_at}

module _ (w : Config) (i : ℕ) (v : Inv w) (lt : i < 32) where
  -- the reader that a writer is about to wake
  pub v5 : (w.at i).standing ≡ V5 → Inv (moved w i V6 (w.reader_count + 1))
  v5 e =
      let o = row_of e in
      let m = fact.the_slot (w.at i).next ((v.own i).linked o.linked) in
      let none = share_none (w.at i) (next_share w (w.at i).next) o.counts_two o.counts_one o.sleeping_r o.handing in
      let next = handed w i (w.reader_count + 1) m.0 m.1 ∙ ap one_if (v.fetched i m.0 o.fetching m.1) in
      relabel w i V6 v (plain w i V5 V6 v o (row V6) refl refl) (w.reader_count + 1) lt (omega arith)

  r7_share : (w.at i).standing ≡ R7 → (w.reader_count + 1) + share_of w i ≡ w.reader_count + share_of (moved w i R8 (w.reader_count + 1)) i
  unfolding share
  r7_share e = grind (arith, row_of e, row R8)

  pub r7 : (w.at i).standing ≡ R7 → Inv (moved w i R8 (w.reader_count + 1))
  r7 e =
      let o = row_of e in
      let n = row R8 in
      let u : Unlinked w i R8 = was_unlinked w i R8 v o.unlinked (λ k z b. record { next = b.next; standing = b.standing; plain = λ _. b.plain o.plain; noted = λ h. absurd (both_ways _ n.noted h); reads = λ _. b.reads o.behind_reader; free = λ _. b.free o.behind_open; linking = λ h. absurd (both_ways _ n.linking h) }) in
      relabel w i R8 v (looks-roles w i R7 R8 v o n refl (line_seen w i R7 R8 v o n (grind (arith, o, n, v.own i)) (λ p k z. both_ways _ o.sleeping (v.owed p i k z).standing) u (λ _ _. n.arriving) refl refl refl refl)) (w.reader_count + 1) lt (r7_share e)

  r12_share : (w.at i).standing ≡ R12 → (w.reader_count + 1) + share_of w i ≡ w.reader_count + share_of (moved w i R13 (w.reader_count + 1)) i
  unfolding share
  r12_share e = grind (arith, row_of e, row R13)

  pub r12 : (w.at i).standing ≡ R12 → Inv (moved w i R13 (w.reader_count + 1))
  r12 e = relabel w i R13 v (plain w i R12 R13 v (row_of e) (row R13) refl refl) (w.reader_count + 1) lt (r12_share e)

  -- a leaving reader counts itself out
  e6_share : (w.at i).standing ≡ E6 → share_of w i ≡ 1
  unfolding share
  e6_share e = grind (arith, row_of e)

  enough : (w.at i).standing ≡ E6 → 1 ≤ w.reader_count
  enough e = let t = total_at (share_of w) i 32 lt in omega (arith, v.counted, e6_share e)

  e7_share : share_of (moved w i E7 (w.reader_count - 1)) i ≡ 0
  unfolding share
  e7_share = grind (arith, row E7)

  pub e6_last : (w.at i).standing ≡ E6 → Inv (moved w i E7 (w.reader_count - 1))
  e6_last e = relabel w i E7 v (plain w i E6 E7 v (row_of e) (row E7) refl refl) (w.reader_count - 1) lt (omega (arith, enough e, e6_share e, e7_share))

  idle_share : share_of (moved w i I (w.reader_count - 1)) i ≡ 0
  unfolding share
  idle_share = grind (arith, row I)

  pub e6_more : (w.at i).standing ≡ E6 → Inv (moved w i I (w.reader_count - 1))
  e6_more e = relabel w i I v (plain w i E6 I v (row_of e) (row I) refl refl) (w.reader_count - 1) lt (omega (arith, enough e, e6_share e, idle_share))
