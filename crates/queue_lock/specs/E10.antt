-- E10: a reader that left wakes its writer, and is idle.
use Rattle.std.specs.Prelude.{is_some}
use Rattle.std.proofs.Common.{◌≡◌, ℕ, ◌+◌, ◌<◌, true, false, Some, sym, refl, ap, ◌∙◌, subst, inl, inr, arith}
use Rattle.std.proofs.lemmas.Bool.{cases_eq, both_ways, lt-ltb}
use Rattle.queue_words.specs.declared.standing.Standing.TheVariants.{E10, I}
use Rattle.queue_lock.specs.Sets as is
use Rattle.queue_lock.specs.Config.{Config}
use Rattle.queue_lock.specs.Invariant.{Inv, Alone, In, Waits, owes, share_of, share, next_share}
use Rattle.queue_lock.specs.Rows.{Row, row, row_of}
use Rattle.queue_lock.specs.Lasts as last
use Rattle.queue_words.specs.Records.{freed}
use Rattle.queue_lock.specs.Every.{implies, apart}
use Rattle.queue_lock.specs.Facts as fact
use Rattle.queue_lock.specs.Shares.{owing_kept}
use Rattle.queue_lock.specs.Move.{moved, Roles, relabel, no_waking, no_unlinked, lasts, at_here, at_there, to_there}
use Rattle.queue_lock.specs.Alter as alter
use Rattle.queue_lock.specs.Alter.{altered}
use Rattle.queue_lock.specs.Wake.{Wakes, wake}

module _ (w : Config) (i : ℕ) (v : Inv w) (lt : i < 32) (e : (w.at i).standing ≡ E10) (x : ℕ) (q : (w.at i).w ≡ Some x) where
  o : Row (w.at i).standing E10
  o = row_of e

  waits : Waits (w.at x)
  waits = (v.woken i x o.waking q).0

  alone : Alone w x
  alone = (v.woken i x o.waking q).1

  out : In w i → ⊥
  out h = both_ways _ (sym (v.lined i) ∙ o.lining) (lt-ltb _ _ h)

  roles : Roles w i I
  roles =
      let n = row I in
      record {
        line = grind (arith, o, n);
        writeway = grind (arith, o, n);
        readway = grind (arith, o, n);
        own = grind (arith, o, n, v.own i);
        fetching = grind (arith, o, n);
        admitted = λ h a. absurd (out h);
        only = λ h k a. absurd (out h);
        waking = no_waking n.waking;
        woken = λ t _ h z. grind (arith, o, (v.woken t i h z).0);
        waiting = λ z. grind (arith, o, (v.named i z).0);
        asking = grind (arith, o, n);
        apart = grind (arith, o, n);
        asked = grind (arith, o, n);
        unlinked = no_unlinked n.unlinked;
        followed = λ s _ u k. absurd (both_ways _ o.followed (v.behind s i u k).standing);
        linking = λ x _ h z a b. grind (arith, o);
        owing = owing_kept _ _ _ _ (λ _ k. absurd (both_ways _ n.owing_w k)) (λ _ k. absurd (both_ways _ n.owing_r k)) (λ _ k. absurd (both_ways _ n.owing_n k));
        owed = λ p _ h z. grind (arith, o, v.owed p i h z);
        ending_w = grind (arith, o, n);
        ending_r = grind (arith, o, n);
      }

  abbrev mid : Config
  mid = moved w i I w.reader_count

  count : w.reader_count + share_of w i ≡ w.reader_count + share_of mid i
  unfolding share
  count = grind (arith, o, row I)

  mid_inv : Inv mid
  mid_inv = relabel w i I v roles w.reader_count lt count

  apart_x : x ≡ i → ⊥
  apart_x z = both_ways _ o.waiting (subst (λ n. is.waiting (w.at n).standing ≡ true) z waits.standing)

  lone : Alone mid x
  lone = last.alone (lasts w i I v roles w.reader_count) alone

  -- nobody owes a slot that is alone
  not_owed : (p : ℕ) → owes (mid.at p) ≡ true → (mid.at p).next ≡ Some x → ⊥
  not_owed p h k =
      let y = mid_inv.owed p x h k in
      let n = mid_inv.pairs p x (y.pred, inr (k, h)) in
      fact.not_lone mid mid_inv p x lone h n

  wakes : Wakes mid x
  unfolding is.waiting is.lining is.unlinked is.on
  wakes = record {
    lining = to_there w i I w.reader_count (λ y. is.lining y.standing ≡ true) x apart_x (implies is.is_waiting is.is_lining refl (w.at x).standing waits.standing);
    linked = to_there w i I w.reader_count (λ y. is.unlinked y.standing ≡ false) x apart_x (apart is.is_waiting is.is_unlinked refl (w.at x).standing waits.standing);
    on = to_there w i I w.reader_count (λ y. is.on y.standing ≡ false) x apart_x (apart is.is_waiting is.is_on refl (w.at x).standing waits.standing);
    front = last.alone_front lone;
    alone = λ _. lone;
    unnamed = λ z. fact.nobody w.next_writer (ap is_some z) (v.woken_unnamed i o.waking);
    woken = λ t h k. elim (cases_eq t i) [
      | inl z ↦ both_ways _ (row I).waking (at_here w i I w.reader_count (λ y. is.waking y.standing ≡ true) t z h)
      | inr d ↦ d (v.one_wakes t i (at_there w i I w.reader_count (λ y. is.waking y.standing ≡ true) t d h) o.waking)
    ];
    owed = not_owed;
  }

  -- a waiting writer has no share
  count_x : w.reader_count + share_of mid x ≡ w.reader_count + share_of (altered mid x (freed (mid.at x)) w.reader_count) x
  count_x =
      let k = to_there w i I w.reader_count (λ y. is.waiting y.standing ≡ true) x apart_x waits.standing in
      let a = fact.waiting_share (mid.at x) (next_share mid (mid.at x).next) k in
      let b = alter.to_here mid x (freed (mid.at x)) w.reader_count (λ y. share y (next_share (altered mid x (freed (mid.at x)) w.reader_count) y.next) ≡ 0) x refl (fact.waiting_share (freed (mid.at x)) _ k) in
      omega arith

  pub kept : Inv (altered mid x (freed (mid.at x)) w.reader_count)
  kept = wake mid x mid_inv wakes w.reader_count (fact.near w v is.waiting (row I).waiting x waits.standing) count_x
