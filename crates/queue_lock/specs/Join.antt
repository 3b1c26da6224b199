-- A slot links itself behind its predecessor: first its standing moves, then next of the predecessor is written.
use Rattle.std.proofs.Common.{◌≡◌, ℕ, ◌<◌, true, false, Some, sym, ap, ◌∙◌, subst, inl, inr, arith}
use Rattle.std.proofs.lemmas.Bool.{both_ways, cases_eq}
use Rattle.queue_words.specs.Records.{relabelled}
use Rattle.queue_words.specs.declared.standing.Standing.{Standing}
use Rattle.queue_words.specs.declared.standing.Standing.TheVariants.{I}
use Rattle.queue_lock.specs.Sets as is
use Rattle.queue_lock.specs.Config.{Config}
use Rattle.queue_lock.specs.Invariant.{Inv, Behind, Owed, owes, share_of}
use Rattle.queue_lock.specs.Alter as alter
use Rattle.queue_lock.specs.Facts as fact
use Rattle.queue_lock.specs.Link.{Links, link}
use Rattle.queue_lock.specs.Move.{Roles, relabel, there, at_here, at_there, to_there, roles as move-roles}
use Rattle.queue_lock.specs.Rows.{row}
use Rattle.queue_lock.specs.Turn.{stood, joined}

module _ (w : Config) (i p : ℕ) (l : Standing) (v : Inv w) (lt : i < 32) (u : is.unlinked (w.at i).standing ≡ true) (q : (w.at i).pred ≡ Some p) (d : is.waiting (w.at i).standing ≡ false) (r : Roles w i l) (n : is.unlinked l ≡ false) (count : share_of (stood w i l) i ≡ share_of w i) where
  before : Behind (w.at i) (w.at p)
  before = v.behind i p u q

  apart_p : p ≡ i → ⊥
  apart_p z = v.behind_other i u (q ∙ ap Some z)

  abbrev mid : Config
  mid = stood w i l

  mid_inv : Inv mid
  mid_inv = relabel w i l v r w.reader_count lt (omega (arith, count))

  same_p : mid.at p ≡ w.at p
  same_p = there w i l w.reader_count p apart_p

  same_i : mid.at i ≡ relabelled (w.at i) l
  same_i = alter.here w i (relabelled (w.at i) l) w.reader_count

  module _ (owed : owes (w.at p) ≡ true → Owed p (w.at p) (relabelled (w.at i) l)) where
    links : Links mid p i
    links = record {
      apart = λ z. apart_p (sym z);
      fetching = to_there w i l w.reader_count (λ y. is.fetching y.standing ≡ false) p apart_p (fact.not_fetching _ before.standing);
      handing = to_there w i l w.reader_count (λ y. is.handing y.standing ≡ false) p apart_p (fact.not_handing _ before.standing);
      alone = λ s h z. elim (cases_eq s i) [
        | inl k ↦ both_ways _ n (at_here w i l w.reader_count (λ y. is.unlinked y.standing ≡ true) s k h)
        | inr g ↦ g (fact.one_successor w v s i p (at_there w i l w.reader_count (λ y. is.unlinked y.standing ≡ true) s g h) u (at_there w i l w.reader_count (λ y. y.pred ≡ Some p) s g z) q)
      ];
      tail = v.behind_tail i p u q;
      owing = λ h.
          let y = owed (subst (λ x. owes x ≡ true) same_p h) in
          (subst (Owed p (mid.at p)) (sym same_i) (subst (λ x. Owed p x (relabelled (w.at i) l)) (sym same_p) y), (λ z. both_ways _ d (v.named i z).0.standing), alter.next w i (relabelled (w.at i) l) w.reader_count v (move-roles w i l v r) p i (v.pairs p i (q, inl u)));
    }

    pub join : Inv (joined mid p i)
    join = link mid p i mid_inv links (fact.near w v is.followed (row I).followed p before.standing)
