-- R5: a reader links itself behind a writer or a blocked reader, and waits.
use Rattle.std.proofs.Common.{◌≡◌, ℕ, ◌<◌, true, Some, sym, refl, ◌∙◌, inl, inr, arith}
use Rattle.std.proofs.lemmas.Bool.{both_ways}
use Rattle.queue_words.specs.Records.{relabelled}
use Rattle.queue_words.specs.declared.standing.Standing.TheVariants.{R5, R6}
use Rattle.queue_lock.specs.Config.{Config}
use Rattle.queue_lock.specs.Invariant.{Inv, Owed, share, share_of, next_share}
use Rattle.queue_lock.specs.Alter as alter
use Rattle.queue_lock.specs.Facts as fact
use Rattle.queue_lock.specs.Join.{join}
use Rattle.queue_lock.specs.Looks.{line_seen, roles as looks-roles}
use Rattle.queue_lock.specs.Move.{Roles, no_unlinked}
use Rattle.queue_lock.specs.Rows.{Row, row, row_of}
use Rattle.queue_lock.specs.Shares.{share_asleep, share_none}
use Rattle.queue_lock.specs.Turn.{stood, joined}

module _ (w : Config) (i : ℕ) (v : Inv w) (lt : i < 32) (e : (w.at i).standing ≡ R5) (p : ℕ) (q : (w.at i).pred ≡ Some p) where
  o : Row (w.at i).standing R5
  o = row_of e

  on : (w.at i).state.blocked ≡ true
  on = (v.own i).on o.on

  roles : Roles w i R6
  roles = let n = row R6 in looks-roles w i R5 R6 v o n refl (line_seen w i R5 R6 v o n (grind (arith, o, n, v.own i)) (λ k h z. both_ways _ o.sleeping (v.owed k i h z).standing) (no_unlinked n.unlinked) (λ _ _. n.arriving) refl refl refl refl)

  -- slot i has no share, before and after
  count : share_of (stood w i R6) i ≡ share_of w i
  count = alter.to_here w i (relabelled (w.at i) R6) w.reader_count (λ y. share y (next_share (stood w i R6) y.next) ≡ share_of w i) i refl (share_asleep (relabelled (w.at i) R6) _ (row R6).sleeping_r on ∙ sym (share_none (w.at i) _ o.counts_two o.counts_one o.sleeping_r o.handing))

  owed : Owed p (w.at p) (relabelled (w.at i) R6)
  owed = let n = row R6 in record {
    pred = q;
    on = on;
    standing = n.sleeping;
    writes = λ a b. absurd (elim ((v.behind i p o.unlinked q).linking o.linking) [ inl z ↦ fact.one_class (w.at p) a z | inr z ↦ fact.one_after (w.at p) b z.0 ]);
    reads = λ _ _. n.sleeping_r;
  }

  pub kept : Inv (joined (stood w i R6) p i)
  kept = join w i p R6 v lt o.unlinked q o.waiting roles (row R6).unlinked count (λ _. owed)
