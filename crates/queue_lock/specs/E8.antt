-- E8: a reader that left reads the count; 0 means that its writer is alone, and it asks for the word at E9.
use Rattle.std.proofs.Common.{◌≡◌, ℕ, ◌+◌, ◌<◌, sym, ◌∙◌, inl, inr, arith}
use Rattle.std.proofs.lemmas.Bool.{both_ways, lt-ltb}
use Rattle.queue_words.specs.declared.standing.Standing.TheVariants.{E8, E9}
use Rattle.queue_lock.specs.Config.{Config}
use Rattle.queue_lock.specs.Invariant.{Inv, In, share_of, share}
use Rattle.queue_lock.specs.Rows.{Row, row, row_of}
use Rattle.queue_lock.specs.Facts as fact
use Rattle.queue_lock.specs.Shares.{owing_kept}
use Rattle.queue_lock.specs.Move.{moved, Roles, relabel, no_waking, no_unlinked}

module _ (w : Config) (i : ℕ) (v : Inv w) (lt : i < 32) (e : (w.at i).standing ≡ E8) (z : w.reader_count ≡ 0) where
  o : Row (w.at i).standing E8
  o = row_of e

  out : In w i → ⊥
  out h = both_ways _ (sym (v.lined i) ∙ o.lining) (lt-ltb _ _ h)

  roles : Roles w i E9
  roles =
      let n = row E9 in
      record {
        line = grind (arith, o, n);
        writeway = grind (arith, o, n);
        readway = grind (arith, o, n);
        own = grind (arith, o, n, v.own i);
        fetching = grind (arith, o, n);
        admitted = λ h a. absurd (out h);
        only = λ h k a. absurd (out h);
        waking = no_waking n.waking;
        woken = λ t _ h z. grind (arith, o, (v.woken t i h z).0);
        waiting = λ z. grind (arith, o, (v.named i z).0);
        asking = λ _ x q k.
            let y = v.asked i x o.asking q k in
            (y.0, inl (elim y.1 [ inl a ↦ a | inr a ↦ fact.empty_alone w v z x (v.named x a.1).1 ]));
        apart = λ _. n.wanting;
        asked = λ t _ h q k. absurd (both_ways _ n.wanting k);
        unlinked = no_unlinked n.unlinked;
        followed = λ x _ u k. absurd (both_ways _ o.followed (v.behind x i u k).standing);
        linking = λ x _ h z a b. grind (arith, o);
        owing = owing_kept _ _ _ _ (λ _ q. absurd (both_ways _ n.owing_w q)) (λ _ q. absurd (both_ways _ n.owing_r q)) (λ _ q. absurd (both_ways _ n.owing_n q));
        owed = λ p _ h z. grind (arith, o, v.owed p i h z);
        ending_w = grind (arith, o, n);
        ending_r = grind (arith, o, n);
      }

  count : w.reader_count + share_of w i ≡ w.reader_count + share_of (moved w i E9 w.reader_count) i
  unfolding share
  count = grind (arith, o, row E9)

  pub kept : Inv (moved w i E9 w.reader_count)
  kept = relabel w i E9 v roles w.reader_count lt count
