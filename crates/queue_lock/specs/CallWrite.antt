-- A call to write: the slot goes to W1. The bar is the one thing that has to be known.
use Rattle.std.proofs.Common.{◌≡◌, ℕ, ◌<◌, true, Some, sym, refl, ◌∙◌, arith}
use Rattle.std.proofs.lemmas.Bool.{both_ways, lt-ltb}
use Rattle.queue_words.specs.declared.standing.Standing.TheVariants.{I, W1}
use Rattle.queue_lock.specs.Sets as is
use Rattle.queue_lock.specs.Config.{Config}
use Rattle.queue_words.specs.Records.{relabelled}
use Rattle.queue_lock.specs.Invariant.{Inv, In, share_of, share, next_share}
use Rattle.queue_lock.specs.Rows.{Row, row, row_of}
use Rattle.queue_lock.specs.Shares.{owing_kept, share_none}
use Rattle.queue_lock.specs.Move.{moved, Roles, relabel, no_waking, no_unlinked}
use Rattle.queue_lock.specs.Alter as alter

module _ (w : Config) (i : ℕ) (v : Inv w) (lt : i < 32) (e : (w.at i).standing ≡ I) (free : (t : ℕ) → is.asking (w.at t).standing ≡ true → (w.at t).w ≡ Some i → ⊥) where
  o : Row (w.at i).standing I
  o = row_of e

  out : In w i → ⊥
  out h = both_ways _ (sym (v.lined i) ∙ o.lining) (lt-ltb _ _ h)

  roles : Roles w i W1
  roles =
      let n = row W1 in
      record {
        line = grind (arith, o, n);
        writeway = grind (arith, o, n);
        readway = grind (arith, o, n);
        own = grind (arith, o, n, v.own i);
        fetching = grind (arith, o, n);
        admitted = λ h a. absurd (out h);
        only = λ h k a. absurd (out h);
        waking = no_waking n.waking;
        woken = λ t _ h z. grind (arith, o, (v.woken t i h z).0);
        waiting = λ z. grind (arith, o, (v.named i z).0);
        asking = grind (arith, o, n);
        apart = grind (arith, o, n);
        asked = λ t _ h q _. absurd (free t h q);
        unlinked = no_unlinked n.unlinked;
        followed = λ x _ u z. absurd (both_ways _ o.followed (v.behind x i u z).standing);
        linking = λ x _ h z a b. grind (arith, o);
        owing = owing_kept _ _ _ _ (λ _ q. absurd (both_ways _ n.owing_w q)) (λ _ q. absurd (both_ways _ n.owing_r q)) (λ _ q. absurd (both_ways _ n.owing_n q));
        owed = λ p _ h z. grind (arith, o, v.owed p i h z);
        ending_w = grind (arith, o, n);
        ending_r = grind (arith, o, n);
      }

  zero_i : share_of w i ≡ 0
  zero_i = share_none (w.at i) (next_share w (w.at i).next) o.counts_two o.counts_one o.sleeping_r o.handing

  zero_w1 : share_of (moved w i W1 w.reader_count) i ≡ 0
  zero_w1 = let n = row W1 in alter.to_here w i (relabelled (w.at i) W1) w.reader_count (λ y. share y (next_share (moved w i W1 w.reader_count) y.next) ≡ 0) i refl (share_none (relabelled (w.at i) W1) _ n.counts_two n.counts_one n.sleeping_r n.handing)

  pub kept : Inv (moved w i W1 w.reader_count)
  kept = relabel w i W1 v roles w.reader_count lt (omega (arith, zero_i, zero_w1))
