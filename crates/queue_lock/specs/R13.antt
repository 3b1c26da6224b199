-- R13: a reader wakes the reader behind it, and holds.
use Rattle.std.specs.Prelude.{◌≡◌, ℕ, ◌+◌, ◌-◌, ◌<◌, ◌≤◌, true, false, Some}
use Rattle.std.proofs.Math.Path.{refl}
use Rattle.std.proofs.Common.{subst, arith}
use Rattle.std.proofs.Math.Logic.{inl, inr}
use Rattle.std.proofs.lemmas.Bool.{cases_eq, both_ways}
use Rattle.queue_words.specs.declared.standing.Standing.TheVariants.{R13, ReaderH, I}
use Rattle.lock.specs.declared.words.Class.TheVariants.{Reading, Writing}
use Rattle.queue_words.specs.declared.record.Successor.TheVariants.{Reader}
use Rattle.queue_lock.specs.Sets as is
use Rattle.queue_lock.specs.Config.{Config}
use Rattle.queue_lock.specs.Invariant.{Inv, Front, In, Waits, Owed, owes, share_of, share, next_share}
use Rattle.queue_lock.specs.Rows.{Row, row, row_of}
use Rattle.queue_lock.specs.Lasts as last
use Rattle.queue_words.specs.Records.{freed}
use Rattle.queue_lock.specs.Every.{implies, apart}
use Rattle.queue_lock.specs.Facts as fact
use Rattle.queue_lock.specs.Shares.{owing_reader, owing_by, share_asleep, share_awake}
use Rattle.lined_lock.specs.Totals.{total_at}
use Rattle.queue_lock.specs.Move.{moved, Roles, relabel, no_waking, no_unlinked, lasts, there, at_here, at_there, to_there}
use Rattle.queue_lock.specs.Alter.{altered}
use Rattle.queue_lock.specs.Alter as alter
use Rattle.queue_lock.specs.Wake.{Wakes, wake}

module _ (w : Config) (i : ℕ) (v : Inv w) (lt : i < 32) (e : (w.at i).standing ≡ R13) (s : ℕ) (q : (w.at i).next ≡ Some s) where
  o : Row (w.at i).standing R13
  o = row_of e

  reads : (w.at i).class ≡ Reading
  reads = (v.own i).reading o.reading

  behind : (w.at i).state.successor ≡ Reader
  behind = (v.own i).wakes o.wakes

  owe : owes (w.at i) ≡ true
  owe = owing_reader _ _ _ reads behind o.owing_r

  owed : Owed i (w.at i) (w.at s)
  owed = v.owed i s owe q

  -- the share of slot i
  two : share_of w i ≡ 2
  unfolding share
  two = grind (arith, o)

  enough : 2 ≤ w.reader_count
  enough = let t = total_at (share_of w) i 32 lt in omega (arith, v.counted, two)

  roles : Roles w i ReaderH
  roles =
      let n = row ReaderH in
      record {
        line = grind (arith, o, n);
        writeway = grind (arith, o, n);
        readway = grind (arith, o, n);
        own = grind (arith, o, n, v.own i);
        fetching = grind (arith, o, n);
        admitted = λ h a. v.front i h (grind (arith, o, n));
        only = λ h k a. absurd (fact.one_class (w.at i) reads k);
        waking = no_waking n.waking;
        woken = λ t _ h z. grind (arith, o, (v.woken t i h z).0);
        waiting = λ z. grind (arith, o, (v.named i z).0);
        asking = grind (arith, o, n);
        apart = grind (arith, o, n);
        asked = grind (arith, o, n);
        unlinked = no_unlinked n.unlinked;
        followed = λ x _ u z. n.followed;
        linking = λ x _ h z a b. grind (arith, o);
        owing = λ h. owe;
        owed = λ p _ h z. grind (arith, o, v.owed p i h z);
        ending_w = grind (arith, o, n);
        ending_r = grind (arith, o, n);
      }

  abbrev mid : Config
  mid = moved w i ReaderH (w.reader_count - 1)

  count : (w.reader_count - 1) + share_of w i ≡ w.reader_count + share_of mid i
  unfolding share
  count = let m = enough in let t = two in grind (arith, row ReaderH, reads)

  mid_inv : Inv mid
  mid_inv = relabel w i ReaderH v roles (w.reader_count - 1) lt count

  -- the reader behind
  sleeps : is.sleeping_r (w.at s).standing ≡ true
  sleeps = owed.reads reads behind

  apart_s : s ≡ i → ⊥
  apart_s = fact.owed_apart w v i s owe q

  same : mid.at s ≡ w.at s
  same = there w i ReaderH (w.reader_count - 1) s apart_s

  s_reads : (w.at s).class ≡ Reading
  unfolding is.sleeping_r is.reading
  s_reads = (v.own s).reading (implies is.is_sleeping_r is.is_reading refl (w.at s).standing sleeps)

  inside : In w s
  inside = fact.owed_in w v i s owe q

  i_inside : In w i
  i_inside = fact.in_line w v i o.lining

  front : Front w s
  front =
      let f = (v.own i).off o.off in
      fact.front_next w i s (v.front i i_inside (grind arith)) (record { reads = reads; free = f }) ((v.pairs i s (owed.pred, inr (q, owe))).line i_inside) inside

  not_owing : owes (mid.at i) ≡ true → ⊥
  not_owing h = owing_by (w.at i).class (w.at i).state.successor ReaderH (at_here w i ReaderH (w.reader_count - 1) (λ y. owes y ≡ true) i refl h) ⊥ (λ c _. fact.one_class (w.at i) reads c) (λ _ _ k. both_ways _ (row ReaderH).owing_r k) (λ _ a _. cc (a, behind))

  not_waits : Waits (w.at s) → ⊥
  unfolding is.sleeping_r is.waiting
  not_waits h = both_ways _ (apart is.is_sleeping_r is.is_waiting refl (w.at s).standing sleeps) h.standing

  wakes : Wakes mid s
  unfolding is.sleeping_r is.lining is.unlinked is.on
  wakes = record {
    lining = to_there w i ReaderH (w.reader_count - 1) (λ y. is.lining y.standing ≡ true) s apart_s (implies is.is_sleeping_r is.is_lining refl (w.at s).standing sleeps);
    linked = to_there w i ReaderH (w.reader_count - 1) (λ y. is.unlinked y.standing ≡ false) s apart_s (apart is.is_sleeping_r is.is_unlinked refl (w.at s).standing sleeps);
    on = to_there w i ReaderH (w.reader_count - 1) (λ y. is.on y.standing ≡ false) s apart_s (apart is.is_sleeping_r is.is_on refl (w.at s).standing sleeps);
    front = last.front (lasts w i ReaderH v roles (w.reader_count - 1)) front;
    alone = λ c. absurd (fact.one_class (w.at s) s_reads (at_there w i ReaderH (w.reader_count - 1) (λ y. y.class ≡ Writing) s apart_s c));
    unnamed = v.owed_unnamed i s owe q;
    woken = λ t h k. elim (cases_eq t i) [
      | inl z ↦ both_ways _ (row ReaderH).waking (at_here w i ReaderH (w.reader_count - 1) (λ y. is.waking y.standing ≡ true) t z h)
      | inr d ↦ not_waits (v.woken t s (at_there w i ReaderH (w.reader_count - 1) (λ y. is.waking y.standing ≡ true) t d h) (at_there w i ReaderH (w.reader_count - 1) (λ y. y.w ≡ Some s) t d k)).0
    ];
    owed = λ p h k. elim (cases_eq p i) [
      | inl z ↦ not_owing (subst (λ y. owes (mid.at y) ≡ true) z h)
      | inr d ↦ d (fact.one_owner w v p i s (at_there w i ReaderH (w.reader_count - 1) (λ y. owes y ≡ true) p d h) owe (at_there w i ReaderH (w.reader_count - 1) (λ y. y.next ≡ Some s) p d k) q)
    ];
  }

  count_s : w.reader_count + share_of mid s ≡ (w.reader_count - 1) + share_of (altered mid s (freed (mid.at s)) w.reader_count) s
  count_s =
      let z = to_there w i ReaderH (w.reader_count - 1) (λ y. is.sleeping_r y.standing ≡ true) s apart_s sleeps in
      let a = share_asleep (mid.at s) (next_share mid (mid.at s).next) z (to_there w i ReaderH (w.reader_count - 1) (λ y. y.state.blocked ≡ true) s apart_s owed.on) in
      let b : share_of (altered mid s (freed (mid.at s)) w.reader_count) s ≡ 1 = alter.to_here mid s (freed (mid.at s)) w.reader_count (λ y. share y (next_share (altered mid s (freed (mid.at s)) w.reader_count) y.next) ≡ 1) s refl (share_awake (freed (mid.at s)) _ z refl) in
      omega (arith, enough)

  pub near : s < 32
  near = fact.near w v is.sleeping_r (row I).sleeping_r s sleeps

  pub kept : Inv (altered mid s (freed (mid.at s)) w.reader_count)
  kept = wake mid s mid_inv wakes w.reader_count near count_s
