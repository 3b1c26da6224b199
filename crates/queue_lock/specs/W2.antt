-- W2: a writer that found nobody before it makes itself the next writer.
use Rattle.std.proofs.Common.{◌≡◌, ℕ, ◌+◌, ◌<◌, true, Some, sym, refl, ◌∙◌, subst, inl, inr, arith}
use Rattle.std.proofs.lemmas.Bool.{cases_eq, both_ways}
use Rattle.queue_words.specs.declared.standing.Standing.TheVariants.{W2, W3}
use Rattle.lock.specs.declared.words.Class.TheVariants.{Writing}
use Rattle.queue_lock.specs.Sets as is
use Rattle.queue_lock.specs.Config.{Config}
use Rattle.queue_words.specs.Records.{relabelled}
use Rattle.queue_lock.specs.Invariant.{Inv, Front, Waits, share_of, share}
use Rattle.queue_lock.specs.Rows.{Row, row, row_of}
use Rattle.queue_lock.specs.Lasts as last
use Rattle.queue_lock.specs.Facts as fact
use Rattle.queue_lock.specs.Shares.{owing_writer}
use Rattle.queue_lock.specs.Move.{moved, Roles, relabel, no_waking, no_unlinked, lasts, at_here, at_there}
use Rattle.queue_lock.specs.Alter as alter
use Rattle.queue_lock.specs.Name.{named, Names, name}

module _ (w : Config) (i : ℕ) (v : Inv w) (lt : i < 32) (e : (w.at i).standing ≡ W2) where
  o : Row (w.at i).standing W2
  o = row_of e

  writes : (w.at i).class ≡ Writing
  writes = (v.own i).writing o.writing

  on : (w.at i).state.blocked ≡ true
  on = (v.own i).on o.on

  front : Front w i
  front = v.front i (fact.in_line w v i o.lining) (rw on o.admitted)

  roles : Roles w i W3
  roles =
      let n = row W3 in
      record {
        line = grind (arith, o, n);
        writeway = grind (arith, o, n);
        readway = grind (arith, o, n);
        own = grind (arith, o, n, v.own i);
        fetching = grind (arith, o, n);
        admitted = λ h a. front;
        only = λ h k a. absurd (both_ways _ n.only (rw on at a));
        waking = no_waking n.waking;
        woken = λ t _ h z. grind (arith, o, (v.woken t i h z).0);
        waiting = λ z. grind (arith, o, (v.named i z).0);
        asking = grind (arith, o, n);
        apart = grind (arith, o, n);
        asked = λ t _ h q k. absurd (both_ways _ o.askable (v.asked t i h q o.wanting).0);
        unlinked = no_unlinked n.unlinked;
        followed = λ x _ u z. n.followed;
        linking = λ x _ h z a b. grind (arith, o);
        owing = λ _. owing_writer (w.at i).class _ _ writes o.owing_w;
        owed = λ p _ h z. grind (arith, o, v.owed p i h z);
        ending_w = grind (arith, o, n);
        ending_r = grind (arith, o, n);
      }

  abbrev mid : Config
  mid = moved w i W3 w.reader_count

  count : w.reader_count + share_of w i ≡ w.reader_count + share_of mid i
  unfolding share
  count = grind (arith, o, row W3)

  mid_inv : Inv mid
  mid_inv = relabel w i W3 v roles w.reader_count lt count

  -- nobody before slot i is blocked, so nobody is next writer or about to be woken
  not_next : (x : ℕ) → w.next_writer ≡ Some x → ⊥
  not_next x q =
      let y = v.named x q in
      let z = fact.frontier w x i y.1 front (fact.blocked_not_act _ y.0.on) (fact.blocked_not_act _ on) in
      both_ways _ o.waiting (subst (λ n. is.waiting (w.at n).standing ≡ true) z y.0.standing)

  not_woken : (t : ℕ) → is.waking (w.at t).standing ≡ true → ⊥
  not_woken t h =
      let x = fact.the_slot (w.at t).w ((v.own t).keeps (fact.waking_keeps (w.at t).standing h)) in
      let y = v.woken t x.0 h x.1 in
      let z = fact.frontier w x.0 i (last.alone_front y.1) front (fact.blocked_not_act _ y.0.on) (fact.blocked_not_act _ on) in
      both_ways _ o.waiting (subst (λ n. is.waiting (w.at n).standing ≡ true) z y.0.standing)

  names : Names mid (Some i)
  names = record {
    next = λ x q. subst (λ y. Waits (mid.at y) × Front mid y) (fact.some_inj i x q) (alter.to_here w i (relabelled (w.at i) W3) w.reader_count Waits i refl (record { standing = (row W3).waiting; on = on }), last.front (lasts w i W3 v roles w.reader_count) front);
    waking = λ t h. absurd (elim (cases_eq t i) [
      | inl z ↦ both_ways _ (row W3).waking (at_here w i W3 w.reader_count (λ y. is.waking y.standing ≡ true) t z h)
      | inr d ↦ not_woken t (at_there w i W3 w.reader_count (λ y. is.waking y.standing ≡ true) t d h)
    ]);
    asking = λ t x h z k a. elim a [ inl b ↦ inl b | inr b ↦ absurd (not_next x b.1) ];
    owed = λ p s h z k. elim (cases_eq p i) [
      | inl y ↦ fact.owed_apart mid mid_inv p s h z (sym (fact.some_inj i s k) ∙ sym y)
      | inr d ↦ both_ways _ (row W3).sleeping (at_here w i W3 w.reader_count (λ y. is.sleeping y.standing ≡ true) s (sym (fact.some_inj i s k)) (mid_inv.owed p s h z).standing)
    ];
  }

  pub kept : Inv (named mid (Some i))
  kept = name mid (Some i) mid_inv names
