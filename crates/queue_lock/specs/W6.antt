-- W6: a writer notes itself behind its predecessor.
use Rattle.std.proofs.Common.{◌≡◌, ℕ, ◌<◌, Some, refl, arith}
use Rattle.std.proofs.lemmas.Bool.{both_ways}
use Rattle.queue_words.specs.Records.{noted, relabelled}
use Rattle.queue_words.specs.declared.record.Successor.TheVariants.{Writer}
use Rattle.queue_words.specs.declared.standing.Standing.TheVariants.{W6, W7, W8}
use Rattle.queue_lock.specs.Config.{Config}
use Rattle.queue_lock.specs.Invariant.{Inv, Behind}
use Rattle.queue_lock.specs.Mark.{mark}
use Rattle.queue_lock.specs.Rows.{Row, row, row_of}
use Rattle.queue_lock.specs.Shares.{share_none}
use Rattle.queue_lock.specs.Turn.{stood, marked}

module _ (w : Config) (i : ℕ) (v : Inv w) (lt : i < 32) (e : (w.at i).standing ≡ W6) (p : ℕ) (q : (w.at i).pred ≡ Some p) where
  o : Row (w.at i).standing W6
  o = row_of e

  after : Behind (relabelled (w.at i) W7) (noted (w.at p) Writer)
  after =
      let n = row W7 in
      let b = v.behind i p o.unlinked q in
      record { next = b.next; standing = b.standing; plain = λ h. absurd (both_ways _ n.plain h); noted = λ _. refl; reads = λ h. absurd (both_ways _ n.behind_reader h); free = λ h. absurd (both_ways _ n.behind_open h); linking = λ h. absurd (both_ways _ n.linking h) }

  pub kept : Inv (marked (stood w i W7) p Writer)
  kept =
      let k = row W8 in
      let n = row W7 in
      mark w i p W6 W8 W7 Writer v lt o k n q refl refl (grind (arith, o, k, v.own i)) (grind (arith, o, n, v.own i)) after
      (λ j. share_none (w.at i) j o.counts_two o.counts_one o.sleeping_r o.handing)
      (λ j. share_none (relabelled (w.at i) W8) j k.counts_two k.counts_one k.sleeping_r k.handing)
      (λ j. share_none (relabelled (w.at i) W7) j n.counts_two n.counts_one n.sleeping_r n.handing)
