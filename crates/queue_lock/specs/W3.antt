-- W3: a writer reads the count; 0 makes it the only one, any other count makes it wait.
use Rattle.std.proofs.Common.{◌≡◌, ℕ, ◌+◌, ◌<◌, refl, arith}
use Rattle.std.proofs.lemmas.Bool.{both_ways}
use Rattle.queue_words.specs.declared.standing.Standing.TheVariants.{W3, W4, W8}
use Rattle.queue_lock.specs.Config.{Config}
use Rattle.queue_lock.specs.Invariant.{Inv, share_of, share}
use Rattle.queue_lock.specs.Rows.{row, row_of}
use Rattle.queue_lock.specs.Facts.{empty_alone}
use Rattle.queue_lock.specs.Move.{moved, Roles, relabel}
use Rattle.queue_lock.specs.Plain.{plain, nearly}

module _ (w : Config) (i : ℕ) (v : Inv w) (lt : i < 32) (e : (w.at i).standing ≡ W3) where
  count : w.reader_count + share_of w i ≡ w.reader_count + share_of (moved w i W8 w.reader_count) i
  unfolding share
  count = grind (arith, row_of e, row W8)

  pub kept_other : Inv (moved w i W8 w.reader_count)
  kept_other = relabel w i W8 v (plain w i W3 W8 v (row_of e) (row W8) refl refl) w.reader_count lt count

  -- W4 asks more than W3: that the slot is alone
  tries : w.reader_count ≡ 0 → Roles w i W4
  tries z =
      let o = row_of e in
      let n = row W4 in
      nearly w i W3 W4 v o n refl (grind (arith, o, n, v.own i)) (λ q. absurd (both_ways _ n.fetching q)) (λ h a. v.front i h (grind (arith, o, n))) (λ h k a. empty_alone w v z i (v.front i h (grind (arith, o, n))))

  count_0 : w.reader_count + share_of w i ≡ w.reader_count + share_of (moved w i W4 w.reader_count) i
  unfolding share
  count_0 = grind (arith, row_of e, row W4)

  pub kept_0 : w.reader_count ≡ 0 → Inv (moved w i W4 w.reader_count)
  kept_0 z = relabel w i W4 v (tries z) w.reader_count lt count_0
