-- E9: a reader that left finds its writer still next: the writer is taken from the word, to be woken.
use Rattle.std.proofs.Common.{◌≡◌, ℕ, ◌+◌, ◌<◌, true, Some, None, sym, refl, ◌∙◌, subst, inl, inr, arith}
use Rattle.std.proofs.lemmas.Bool.{both_ways, lt-ltb}
use Rattle.queue_words.specs.declared.standing.Standing.TheVariants.{E9, E10}
use Rattle.queue_lock.specs.Sets as is
use Rattle.queue_lock.specs.Config.{Config}
use Rattle.queue_lock.specs.Invariant.{Inv, Alone, Waits, share_of, share}
use Rattle.queue_lock.specs.Rows.{Row, row, row_of}
use Rattle.queue_lock.specs.Every.{implies}
use Rattle.queue_lock.specs.Shares.{owing_kept}
use Rattle.queue_lock.specs.Name.{named, Names, name}
use Rattle.queue_lock.specs.Move.{moved, Roles, no_unlinked}
use Rattle.queue_lock.specs.Move as move

module _ (u : Config) (i : ℕ) (iv : Inv u) (lt : i < 32) (e : (u.at i).standing ≡ E9) (x : ℕ) (q : (u.at i).w ≡ Some x) (z : u.next_writer ≡ Some x) where
  waits : Waits (u.at x)
  waits = (iv.named x z).0

  wants : is.wanting (u.at x).standing ≡ true
  unfolding is.waiting is.wanting
  wants = implies is.is_waiting is.is_wanting refl (u.at x).standing waits.standing

  alone : Alone u x
  alone = elim (iv.asked i x (row_of e).asking q wants).1 [ inl a ↦ a | inr a ↦ absurd (both_ways _ (row_of e).asking_first a.0) ]

  names : Names u None
  names = record {
    next = λ y h. absurd (cc);
    waking = λ t h. refl;
    asking = λ t y h g k a. elim a [ inl b ↦ inl b | inr b ↦ let j : x ≡ y = cc (z, b.1) in inl (subst (Alone u) j alone) ];
    owed = λ p s h g k. cc;
  }

  abbrev w : Config
  w = named u None

  v : Inv w
  v = name u None iv names

  o : Row (w.at i).standing E9
  o = row_of e

  roles : Roles w i E10
  roles =
      let n = row E10 in
      record {
        line = grind (arith, o, n);
        writeway = grind (arith, o, n);
        readway = grind (arith, o, n);
        own = grind (arith, o, n, v.own i);
        fetching = grind (arith, o, n);
        admitted = λ h a. absurd (both_ways _ (sym (v.lined i) ∙ o.lining) (lt-ltb _ _ h));
        only = λ h k a. absurd (both_ways _ (sym (v.lined i) ∙ o.lining) (lt-ltb _ _ h));
        waking = record {
          slot = λ _ y k. let j : x ≡ y = cc (q, k) in subst (λ n. (n ≡ i → ⊥) × (Waits (w.at n) × Alone w n)) j (λ d. both_ways _ o.waiting (subst (λ n. is.waiting (w.at n).standing ≡ true) d waits.standing), (waits, record { inside = alone.inside; first = alone.first; clear = alone.clear; past = alone.past }));
          none = λ _. refl;
          one = λ _ t h. absurd (cc (iv.woken_unnamed t h, z));
        };
        woken = λ t _ h z. grind (arith, o, (v.woken t i h z).0);
        waiting = λ z. grind (arith, o, (v.named i z).0);
        asking = grind (arith, o, n);
        apart = grind (arith, o, n);
        asked = grind (arith, o, n);
        unlinked = no_unlinked n.unlinked;
        followed = λ s _ g k. absurd (both_ways _ o.followed (v.behind s i g k).standing);
        linking = λ x _ h z a b. grind (arith, o);
        owing = owing_kept _ _ _ _ (λ _ h. absurd (both_ways _ n.owing_w h)) (λ _ h. absurd (both_ways _ n.owing_r h)) (λ _ h. absurd (both_ways _ n.owing_n h));
        owed = λ p _ h z. grind (arith, o, v.owed p i h z);
        ending_w = grind (arith, o, n);
        ending_r = grind (arith, o, n);
      }

  count : w.reader_count + share_of w i ≡ w.reader_count + share_of (moved w i E10 w.reader_count) i
  unfolding share
  count = grind (arith, o, row E10)

  pub kept : Inv (moved w i E10 w.reader_count)
  kept = move.relabel w i E10 v roles w.reader_count lt count
