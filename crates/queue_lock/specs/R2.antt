-- R2: a reader that finds nobody before it counts itself.
use Rattle.std.proofs.Common.{◌≡◌, ℕ, ◌+◌, ◌<◌, refl, arith}
use Rattle.queue_words.specs.declared.standing.Standing.TheVariants.{R2, R9}
use Rattle.queue_lock.specs.Config.{Config}
use Rattle.queue_lock.specs.Invariant.{Inv, share_of, share}
use Rattle.queue_lock.specs.Rows.{row, row_of}
use Rattle.queue_lock.specs.Move.{moved, relabel}
use Rattle.queue_lock.specs.Plain.{plain}

module _ (w : Config) (i : ℕ) (v : Inv w) (lt : i < 32) (e : (w.at i).standing ≡ R2) where
  count : (w.reader_count + 1) + share_of w i ≡ w.reader_count + share_of (moved w i R9 (w.reader_count + 1)) i
  unfolding share
  count = grind (arith, row_of e, row R9)

  pub kept : Inv (moved w i R9 (w.reader_count + 1))
  kept = relabel w i R9 v (plain w i R2 R9 v (row_of e) (row R9) refl refl) (w.reader_count + 1) lt count
