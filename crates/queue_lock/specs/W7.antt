-- W7: a writer links itself behind its predecessor, and waits.
use Rattle.std.proofs.Common.{◌≡◌, ℕ, ◌<◌, true, false, Some, sym, refl, ap, ◌∙◌, inl, inr, arith}
use Rattle.std.proofs.lemmas.Bool.{cases_eq, both_ways}
use Rattle.queue_words.specs.declared.standing.Standing.TheVariants.{W7, W8, I}
use Rattle.lock.specs.declared.words.Class.TheVariants.{Writing}
use Rattle.queue_words.specs.declared.record.Successor.TheVariants.{Reader}
use Rattle.queue_lock.specs.Sets as is
use Rattle.queue_lock.specs.Config.{Config}
use Rattle.queue_words.specs.Records.{relabelled}
use Rattle.queue_lock.specs.Invariant.{Inv, Behind, Owed, share_of, share, next_share}
use Rattle.queue_lock.specs.Rows.{Row, row, row_of}
use Rattle.queue_words.specs.Records.{linked}
use Rattle.queue_lock.specs.Facts as fact
use Rattle.queue_lock.specs.Shares.{owing_writer, share_none}
use Rattle.queue_lock.specs.Link.{Links, link}
use Rattle.queue_lock.specs.Move.{moved, Roles, relabel, no_waking, no_unlinked, there, at_here, at_there, to_there, roles as move-roles}
use Rattle.queue_lock.specs.Alter.{altered}
use Rattle.queue_lock.specs.Alter as alter

module _ (w : Config) (i : ℕ) (v : Inv w) (lt : i < 32) (e : (w.at i).standing ≡ W7) (p : ℕ) (q : (w.at i).pred ≡ Some p) where
  o : Row (w.at i).standing W7
  o = row_of e

  writes : (w.at i).class ≡ Writing
  writes = (v.own i).writing o.writing

  on : (w.at i).state.blocked ≡ true
  on = (v.own i).on o.on

  before : Behind (w.at i) (w.at p)
  before = v.behind i p o.unlinked q

  apart_p : p ≡ i → ⊥
  apart_p z = v.behind_other i o.unlinked (q ∙ ap Some z)

  roles : Roles w i W8
  roles =
      let n = row W8 in
      record {
        line = grind (arith, o, n);
        writeway = grind (arith, o, n);
        readway = grind (arith, o, n);
        own = grind (arith, o, n, v.own i);
        fetching = grind (arith, o, n);
        admitted = λ h a. absurd (both_ways _ n.admitted (rw on at a));
        only = λ h k a. absurd (both_ways _ n.only (rw on at a));
        waking = no_waking n.waking;
        woken = λ t _ h z. grind (arith, o, (v.woken t i h z).0);
        waiting = λ z. grind (arith, o, (v.named i z).0);
        asking = grind (arith, o, n);
        apart = grind (arith, o, n);
        asked = λ t _ h z k. absurd (both_ways _ o.askable (v.asked t i h z o.wanting).0);
        unlinked = no_unlinked n.unlinked;
        followed = λ x _ u z. n.followed;
        linking = λ x _ h z a b. grind (arith, o);
        owing = λ _. owing_writer (w.at i).class _ _ writes o.owing_w;
        owed = λ p _ h z. grind (arith, o, v.owed p i h z);
        ending_w = grind (arith, o, n);
        ending_r = grind (arith, o, n);
      }

  abbrev mid : Config
  mid = moved w i W8 w.reader_count

  zero_w7 : share_of w i ≡ 0
  zero_w7 = share_none (w.at i) (next_share w (w.at i).next) o.counts_two o.counts_one o.sleeping_r o.handing

  zero_w8 : share_of mid i ≡ 0
  zero_w8 = let n = row W8 in alter.to_here w i (relabelled (w.at i) W8) w.reader_count (λ y. share y (next_share mid y.next) ≡ 0) i refl (share_none (relabelled (w.at i) W8) _ n.counts_two n.counts_one n.sleeping_r n.handing)

  mid_inv : Inv mid
  mid_inv = relabel w i W8 v roles w.reader_count lt (omega (arith, zero_w7, zero_w8))

  same_p : mid.at p ≡ w.at p
  same_p = there w i W8 w.reader_count p apart_p

  owed : Owed p (mid.at p) (mid.at i)
  owed = let n = row W8 in alter.to_here w i (relabelled (w.at i) W8) w.reader_count (Owed p (mid.at p)) i refl (record {
    pred = q;
    on = on;
    standing = n.sleeping;
    writes = λ _ _. n.sleeping_w;
    reads = λ _ b. absurd (fact.one_after (w.at p) (before.noted o.noted) (at_there w i W8 w.reader_count (λ y. y.state.successor ≡ Reader) p apart_p b));
  })

  links : Links mid p i
  links = record {
    apart = λ z. apart_p (sym z);
    fetching = to_there w i W8 w.reader_count (λ y. is.fetching y.standing ≡ false) p apart_p (fact.not_fetching _ before.standing);
    handing = to_there w i W8 w.reader_count (λ y. is.handing y.standing ≡ false) p apart_p (fact.not_handing _ before.standing);
    alone = λ s u z. elim (cases_eq s i) [
      | inl k ↦ both_ways _ (row W8).unlinked (at_here w i W8 w.reader_count (λ y. is.unlinked y.standing ≡ true) s k u)
      | inr d ↦ d (fact.one_successor w v s i p (at_there w i W8 w.reader_count (λ y. is.unlinked y.standing ≡ true) s d u) o.unlinked (at_there w i W8 w.reader_count (λ y. y.pred ≡ Some p) s d z) q)
    ];
    tail = v.behind_tail i p o.unlinked q;
    owing = λ _. (owed, (λ z. both_ways _ o.waiting (v.named i z).0.standing), alter.next w i (relabelled (w.at i) W8) w.reader_count v (move-roles w i W8 v roles) p i (v.pairs p i (q, inl o.unlinked)));
  }

  pub kept : Inv (altered mid p (linked (mid.at p) i) w.reader_count)
  kept = link mid p i mid_inv links (fact.near w v is.followed (row I).followed p before.standing)
