-- V6: a writer in the way wakes the slot behind it, and is idle.
use Rattle.std.specs.Prelude.{◌≡◌, ℕ, ◌+◌, ◌-◌, ◌<◌, ◌≤◌, true, false, Some}
use Rattle.std.proofs.Math.Path.{refl, ap}
use Rattle.std.proofs.Common.{sym, subst, ◌∙◌}
use Rattle.std.proofs.Math.Logic.{inl, inr}
use native.Mathlib.Omega.{arith}
use Rattle.std.proofs.lemmas.Bool.{cases_eq, both_ways, lt-ltb}
use Rattle.queue_words.specs.declared.standing.Standing.TheVariants.{V6, I}
use Rattle.lock.specs.declared.words.Class.TheVariants.{Writing}
use Rattle.queue_lock.specs.Sets as is
use Rattle.queue_lock.specs.Config.{Config}
use Rattle.queue_words.specs.Records.{relabelled}
use Rattle.queue_lock.specs.Invariant.{Inv, Alone, In, Owed, owes, share_of, share, next_share, one_if}
use Rattle.queue_lock.specs.Rows.{Row, row, row_of}
use Rattle.queue_lock.specs.Lasts as last
use Rattle.queue_words.specs.Records.{freed}
use Rattle.queue_lock.specs.Every.{implies, apart}
use Rattle.queue_lock.specs.Facts as fact
use Rattle.queue_lock.specs.Shares.{owing_writer, owing_by, share_asleep, share_awake, share_writer}
use Rattle.lined_lock.specs.Totals.{total_at}
use Rattle.queue_lock.specs.Move.{moved, Roles, relabel, no_waking, no_unlinked, at_here, at_there, to_there}
use Rattle.queue_lock.specs.Alter.{altered}
use Rattle.queue_lock.specs.Alter as alter
use Rattle.queue_lock.specs.Wake.{Wakes, wake}

module _ (w : Config) (i : ℕ) (v : Inv w) (lt : i < 32) (e : (w.at i).standing ≡ V6) (s : ℕ) (q : (w.at i).next ≡ Some s) where
  o : Row (w.at i).standing V6
  o = row_of e

  writes : (w.at i).class ≡ Writing
  writes = (v.own i).writing o.writing

  owe : owes (w.at i) ≡ true
  owe = owing_writer _ _ _ writes o.owing_w

  owed : Owed i (w.at i) (w.at s)
  owed = v.owed i s owe q

  -- the share of slot i stands for the slot behind it
  hand : share_of w i ≡ one_if (w.at s).class
  unfolding share
  hand = rw (o.counts_two, o.counts_one, o.sleeping_r, o.handing, q) refl

  enough : one_if (w.at s).class ≤ w.reader_count
  enough = let t = total_at (share_of w) i 32 lt in omega (arith, v.counted, hand)

  roles : Roles w i I
  roles =
      let n = row I in
      record {
        line = grind (arith, o, n);
        writeway = grind (arith, o, n);
        readway = grind (arith, o, n);
        own = grind (arith, o, n, v.own i);
        fetching = grind (arith, o, n);
        admitted = λ h a. absurd (both_ways _ (sym (v.lined i) ∙ o.lining) (lt-ltb _ _ h));
        only = λ h k a. absurd (both_ways _ (sym (v.lined i) ∙ o.lining) (lt-ltb _ _ h));
        waking = no_waking n.waking;
        woken = λ t _ h z. grind (arith, o, (v.woken t i h z).0);
        waiting = λ z. grind (arith, o, (v.named i z).0);
        asking = grind (arith, o, n);
        apart = grind (arith, o, n);
        asked = grind (arith, o, n);
        unlinked = no_unlinked n.unlinked;
        followed = λ x _ u z. absurd (both_ways _ o.followed (v.behind x i u z).standing);
        linking = λ x _ h z a b. grind (arith, o);
        owing = λ h. owe;
        owed = λ p _ h z. grind (arith, o, v.owed p i h z);
        ending_w = grind (arith, o, n);
        ending_r = grind (arith, o, n);
      }

  abbrev c : ℕ
  c = w.reader_count - one_if (w.at s).class

  abbrev mid : Config
  mid = moved w i I c

  none : share_of mid i ≡ 0
  unfolding share
  none = let n = row I in grind (arith, n)

  mid_inv : Inv mid
  mid_inv = relabel w i I v roles c lt (omega (arith, hand, none, enough))

  apart_s : s ≡ i → ⊥
  apart_s = fact.owed_apart w v i s owe q

  inside : In w s
  inside = fact.owed_in w v i s owe q

  -- nobody else is in the way
  alone : Alone mid s
  alone = record {
    inside = inside;
    first = (v.pairs i s (owed.pred, inr (q, owe))).writer o.writeway;
    clear = λ t. alter.split w i (relabelled (w.at i) I) c (λ y. is.writeway y.standing ≡ false) t (λ _. (row I).writeway) (λ d. (v.one_leaves i t o.writeway d).0);
    past = λ t. alter.split w i (relabelled (w.at i) I) c (λ y. is.readway y.standing ≡ false) t (λ _. (row I).readway) (λ d. (v.one_leaves i t o.writeway d).1);
  }

  not_owing : owes (mid.at i) ≡ true → ⊥
  not_owing h = owing_by (w.at i).class (w.at i).state.successor I (at_here w i I c (λ y. owes y ≡ true) i refl h) ⊥ (λ _ k. both_ways _ (row I).owing_w k) (λ _ _ k. both_ways _ (row I).owing_r k) (λ _ _ k. both_ways _ (row I).owing_n k)

  wakes : Wakes mid s
  unfolding is.sleeping is.lining is.unlinked is.on
  wakes = record {
    lining = to_there w i I c (λ y. is.lining y.standing ≡ true) s apart_s (implies is.is_sleeping is.is_lining refl (w.at s).standing owed.standing);
    linked = to_there w i I c (λ y. is.unlinked y.standing ≡ false) s apart_s (apart is.is_sleeping is.is_unlinked refl (w.at s).standing owed.standing);
    on = to_there w i I c (λ y. is.on y.standing ≡ false) s apart_s (apart is.is_sleeping is.is_on refl (w.at s).standing owed.standing);
    front = last.alone_front alone;
    alone = λ _. alone;
    unnamed = v.owed_unnamed i s owe q;
    woken = λ t h k. elim (cases_eq t i) [
      | inl z ↦ both_ways _ (row I).waking (at_here w i I c (λ y. is.waking y.standing ≡ true) t z h)
      | inr d ↦ both_ways _ ((v.woken t s (at_there w i I c (λ y. is.waking y.standing ≡ true) t d h) (at_there w i I c (λ y. y.w ≡ Some s) t d k)).1.clear i) o.writeway
    ];
    owed = λ p h k. elim (cases_eq p i) [
      | inl z ↦ not_owing (subst (λ y. owes (mid.at y) ≡ true) z h)
      | inr d ↦ d (fact.one_owner w v p i s (at_there w i I c (λ y. owes y ≡ true) p d h) owe (at_there w i I c (λ y. y.next ≡ Some s) p d k) q)
    ];
  }

  -- the share goes from slot i to the slot behind it
  count_s : w.reader_count + share_of mid s ≡ c + share_of (altered mid s (freed (mid.at s)) w.reader_count) s
  unfolding is.sleeping_r is.sleeping_w is.reading is.writing
  count_s =
      let b = to_there w i I c (λ y. y.state.blocked ≡ true) s apart_s owed.on in
      elim (fact.sleeping_by (w.at s).standing owed.standing) [
        | inl k ↦
            let z = to_there w i I c (λ y. is.sleeping_w y.standing ≡ true) s apart_s k in
            let a = share_writer (mid.at s) (next_share mid (mid.at s).next) z in
            let f : share_of (altered mid s (freed (mid.at s)) w.reader_count) s ≡ 0 = alter.to_here mid s (freed (mid.at s)) w.reader_count (λ y. share y (next_share (altered mid s (freed (mid.at s)) w.reader_count) y.next) ≡ 0) s refl (share_writer (freed (mid.at s)) _ z) in
            let g : one_if (w.at s).class ≡ 0 = ap one_if ((v.own s).writing (implies is.is_sleeping_w is.is_writing refl (w.at s).standing k)) in
            omega arith
        | inr k ↦
            let z = to_there w i I c (λ y. is.sleeping_r y.standing ≡ true) s apart_s k in
            let a = share_asleep (mid.at s) (next_share mid (mid.at s).next) z b in
            let f : share_of (altered mid s (freed (mid.at s)) w.reader_count) s ≡ 1 = alter.to_here mid s (freed (mid.at s)) w.reader_count (λ y. share y (next_share (altered mid s (freed (mid.at s)) w.reader_count) y.next) ≡ 1) s refl (share_awake (freed (mid.at s)) _ z refl) in
            let g : one_if (w.at s).class ≡ 1 = ap one_if ((v.own s).reading (implies is.is_sleeping_r is.is_reading refl (w.at s).standing k)) in
            omega (arith, enough)
      ]

  pub near : s < 32
  near = fact.near w v is.sleeping (row I).sleeping s owed.standing

  pub kept : Inv (altered mid s (freed (mid.at s)) w.reader_count)
  kept = wake mid s mid_inv wakes w.reader_count near count_s
