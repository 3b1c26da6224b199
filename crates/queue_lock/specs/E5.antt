-- E5: a reader in the way makes the writer behind it the next writer.
use Rattle.std.proofs.Common.{◌≡◌, ℕ, ◌+◌, ◌<◌, true, false, Some, sym, refl, ap, ◌∙◌, subst, inl, inr, arith}
use Rattle.std.proofs.lemmas.Bool.{cases_eq, both_ways, lt-ltb}
use Rattle.queue_words.specs.declared.standing.Standing.TheVariants.{E5, E6}
use Rattle.lock.specs.declared.words.Class.TheVariants.{Reading}
use Rattle.queue_words.specs.declared.record.Successor.TheVariants.{Writer}
use Rattle.queue_lock.specs.Sets as is
use Rattle.queue_lock.specs.Config.{Config}
use Rattle.queue_lock.specs.Invariant.{Inv, Front, Alone, Waits, Owed, owes, share_of, share}
use Rattle.queue_lock.specs.Rows.{Row, row, row_of}
use Rattle.queue_lock.specs.Lasts as last
use Rattle.queue_lock.specs.Every.{implies}
use Rattle.queue_lock.specs.Facts as fact
use Rattle.queue_lock.specs.Shares.{owing_next, owing_by}
use Rattle.queue_lock.specs.Move.{moved, Roles, relabel, no_waking, no_unlinked, lasts, at_here, at_there, to_there}
use Rattle.queue_lock.specs.Name.{named, Names, name}

module _ (w : Config) (i : ℕ) (v : Inv w) (lt : i < 32) (e : (w.at i).standing ≡ E5) (s : ℕ) (q : (w.at i).next ≡ Some s) where
  o : Row (w.at i).standing E5
  o = row_of e

  reads : (w.at i).class ≡ Reading
  reads = (v.own i).reading o.reading

  behind : (w.at i).state.successor ≡ Writer
  behind = (v.own i).names o.names

  owe : owes (w.at i) ≡ true
  owe = owing_next _ _ _ reads behind o.owing_n

  owed : Owed i (w.at i) (w.at s)
  owed = v.owed i s owe q

  roles : Roles w i E6
  roles =
      let n = row E6 in
      record {
        line = grind (arith, o, n);
        writeway = grind (arith, o, n);
        readway = grind (arith, o, n);
        own = grind (arith, o, n, v.own i);
        fetching = grind (arith, o, n);
        admitted = λ h a. absurd (both_ways _ (sym (v.lined i) ∙ o.lining) (lt-ltb _ _ h));
        only = λ h k a. absurd (fact.one_class (w.at i) reads k);
        waking = no_waking n.waking;
        woken = λ t _ h z. grind (arith, o, (v.woken t i h z).0);
        waiting = λ z. grind (arith, o, (v.named i z).0);
        asking = grind (arith, o, n);
        apart = grind (arith, o, n);
        asked = grind (arith, o, n);
        unlinked = no_unlinked n.unlinked;
        followed = λ x _ u z. absurd (both_ways _ o.followed (v.behind x i u z).standing);
        linking = λ x _ h z a b. grind (arith, o);
        owing = λ h. owe;
        owed = λ p _ h z. grind (arith, o, v.owed p i h z);
        ending_w = grind (arith, o, n);
        ending_r = grind (arith, o, n);
      }

  abbrev mid : Config
  mid = moved w i E6 w.reader_count

  count : w.reader_count + share_of w i ≡ w.reader_count + share_of mid i
  unfolding share
  count = grind (arith, o, row E6)

  mid_inv : Inv mid
  mid_inv = relabel w i E6 v roles w.reader_count lt count

  apart_s : s ≡ i → ⊥
  apart_s = fact.owed_apart w v i s owe q

  front : Front w s
  front = (v.pairs i s (owed.pred, inr (q, owe))).reader o.readway

  waits : Waits (w.at s)
  unfolding is.sleeping_w is.waiting
  waits = record { standing = implies is.is_sleeping_w is.is_waiting refl (w.at s).standing (owed.writes reads behind); on = owed.on }

  not_owing : owes (mid.at i) ≡ true → ⊥
  not_owing h = owing_by (w.at i).class (w.at i).state.successor E6 (at_here w i E6 w.reader_count (λ y. owes y ≡ true) i refl h) ⊥ (λ c _. fact.one_class (w.at i) reads c) (λ _ _ k. both_ways _ (row E6).owing_r k) (λ _ _ k. both_ways _ (row E6).owing_n k)

  -- nobody is alone while slot i is in the way
  crowded : (x : ℕ) → Alone w x → ⊥
  crowded x a = both_ways _ (a.past i) o.readway

  crowded_mid : (x : ℕ) → Alone mid x → ⊥
  crowded_mid x a = both_ways _ (at_here w i E6 w.reader_count (λ y. is.readway y.standing ≡ false) i refl (a.past i)) (row E6).readway

  names : Names mid (Some s)
  names = record {
    next = λ x z. let k : s ≡ x = cc in subst (λ y. Waits (mid.at y) × Front mid y) k (to_there w i E6 w.reader_count Waits s apart_s waits, last.front (lasts w i E6 v roles w.reader_count) front);
    waking = λ t h. absurd (elim (cases_eq t i) [
      | inl z ↦ both_ways _ (row E6).waking (at_here w i E6 w.reader_count (λ y. is.waking y.standing ≡ true) t z h)
      | inr d ↦
          let f = at_there w i E6 w.reader_count (λ y. is.waking y.standing ≡ true) t d h in
          let x = fact.the_slot (w.at t).w ((v.own t).keeps (fact.waking_keeps (w.at t).standing f)) in
          crowded x.0 (v.woken t x.0 f x.1).1
    ]);
    asking = λ t x h z k a. elim a [
      | inl b ↦ absurd (crowded_mid x b)
      | inr b ↦
          let y = v.named x b.1 in
          inr (b.0, ap Some (sym (fact.frontier w x s y.1 front (fact.blocked_not_act _ y.0.on) (fact.blocked_not_act _ owed.on))))
    ];
    owed = λ p n h z k. elim (cases_eq p i) [
      | inl y ↦ not_owing (subst (λ x. owes (mid.at x) ≡ true) y h)
      | inr d ↦ d (fact.one_owner w v p i s (at_there w i E6 w.reader_count (λ y. owes y ≡ true) p d h) owe (at_there w i E6 w.reader_count (λ y. y.next ≡ Some n) p d z ∙ sym k) q)
    ];
  }

  pub kept : Inv (named mid (Some s))
  kept = name mid (Some s) mid_inv names
