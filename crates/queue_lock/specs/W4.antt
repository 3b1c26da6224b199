-- W4: a writer that is alone takes the next writer away, and lets itself in if it was that one; else it waits.
use Rattle.std.specs.Prelude.{is_some}
use Rattle.std.proofs.Common.{◌≡◌, ℕ, ◌+◌, ◌<◌, true, Some, None, sym, refl, ap, subst, inl, inr, arith}
use Rattle.lock.specs.declared.words.Class.TheVariants.{Writing}
use Rattle.queue_words.specs.declared.standing.Standing.TheVariants.{W4, W5, W8}
use Rattle.queue_lock.specs.Config.{Config}
use Rattle.queue_lock.specs.Invariant.{Inv, Alone, share, share_of}
use Rattle.queue_lock.specs.Facts as fact
use Rattle.queue_lock.specs.Lasts as last
use Rattle.queue_lock.specs.Looks.{goes}
use Rattle.queue_lock.specs.Move.{Roles, relabel, no_waking, no_unlinked}
use Rattle.queue_lock.specs.Name.{named, Names, name}
use Rattle.queue_lock.specs.Rows.{Row, row, row_of}
use Rattle.queue_lock.specs.Shares.{owing_writer}
use Rattle.queue_lock.specs.Turn.{stood}

module _ (u : Config) (i : ℕ) (iv : Inv u) (lt : i < 32) (e : (u.at i).standing ≡ W4) where
  writes : (u.at i).class ≡ Writing
  writes = (iv.own i).writing (row_of e).writing

  alone : Alone u i
  alone = let o = row_of e in iv.alone i (fact.in_line u iv i o.lining) writes (grind (arith, o))

  -- nobody but slot i can be next writer
  next : (x : ℕ) → u.next_writer ≡ Some x → x ≡ i
  next x z = let y = iv.named x z in fact.frontier u x i y.1 (last.alone_front alone) (fact.blocked_not_act _ y.0.on) (fact.writer_not_act _ writes)

  names : Names u None
  names = record {
    next = λ y h. absurd (fact.nobody None (ap is_some h) refl);
    waking = λ t h. refl;
    asking = λ t y h g k a. elim a [ inl b ↦ inl b | inr b ↦ inl (subst (Alone u) (sym (next y b.1)) alone) ];
    owed = λ p s h g k. fact.nobody None (ap is_some k) refl;
  }

  abbrev w : Config
  w = named u None

  v : Inv w
  v = name u None iv names

  pub kept_other : Inv (named (stood u i W8) None)
  kept_other = goes w i W4 W8 v (row_of e) (row W8) lt refl refl refl

  o : Row (w.at i).standing W4
  o = row_of e

  -- the next writer is blocked, and nobody is about to be woken
  module _ (z : u.next_writer ≡ Some i) where
    on : (u.at i).state.blocked ≡ true
    on = (iv.named i z).0.on

    roles : Roles w i W5
    roles =
        let n = row W5 in
        record {
          line = grind (arith, o, n);
          writeway = grind (arith, o, n);
          readway = grind (arith, o, n);
          own = grind (arith, o, n, v.own i, on);
          fetching = grind (arith, o, n);
          admitted = λ h a. v.front i h (rw on o.admitted);
          only = λ h k a. v.alone i h k (rw on o.only);
          waking = no_waking n.waking;
          woken = λ t _ h q. absurd (fact.nobody u.next_writer (ap is_some z) (iv.woken_unnamed t h));
          waiting = λ q. absurd (fact.nobody None (ap is_some q) refl);
          asking = grind (arith, o, n);
          apart = grind (arith, o, n);
          asked = λ t _ h q k. (o.wanting, n.askable);
          unlinked = no_unlinked n.unlinked;
          followed = λ s _ k q. n.followed;
          linking = λ s _ h q a b. grind (arith, o);
          owing = λ _. owing_writer (w.at i).class _ _ writes o.owing_w;
          owed = λ p _ h q. grind (arith, o, v.owed p i h q);
          ending_w = grind (arith, o, n);
          ending_r = grind (arith, o, n);
        }

    count : w.reader_count + share_of w i ≡ w.reader_count + share_of (stood w i W5) i
    unfolding share
    count = grind (arith, o, row W5)

    pub kept_named : Inv (named (stood u i W5) None)
    kept_named = relabel w i W5 v roles w.reader_count lt count
