-- E2: a reader in the way finds itself the tail, and takes itself off it; else it goes on to wait for its next.
use Rattle.std.specs.Prelude.{is_some}
use Rattle.std.proofs.Common.{◌≡◌, ℕ, ◌+◌, ◌<◌, true, false, Some, None, sym, refl, ap, ◌∙◌, inl, inr, arith}
use Rattle.std.proofs.lemmas.Bool.{cases_eq, both_ways, lt-ltb, cases_Bool}
use Rattle.queue_words.specs.declared.standing.Standing.TheVariants.{E2, E6}
use Rattle.queue_lock.specs.Sets as is
use Rattle.queue_lock.specs.Config.{Config}
use Rattle.queue_lock.specs.Invariant.{Inv, Tail, share_of, share, AllAct}
use Rattle.queue_lock.specs.Rows.{Row, row, row_of}
use Rattle.queue_lock.specs.Facts as fact
use Rattle.queue_lock.specs.Shares.{owing_kept}
use Rattle.queue_lock.specs.Name.{untailed, untail}
use Rattle.queue_lock.specs.Move.{moved, Roles, relabel, no_waking, no_unlinked}

module _ (u : Config) (i : ℕ) (iv : Inv u) (lt : i < 32) (e : (u.at i).standing ≡ E2) (z : u.tail ≡ Some i) where
  tail : Tail u i
  tail = iv.tailed i z

  -- all in line are active readers, and no writer is in the way
  act : AllAct u
  act = let o = row_of e in elim tail.place [
    | inl a ↦ absurd (both_ways _ (sym (iv.lined i) ∙ o.lining) (lt-ltb _ _ (omega arith)))
    | inr (inl a) ↦ absurd (both_ways _ o.ending_w a.0)
    | inr (inr a) ↦ a.1
  ]

  clear : (t : ℕ) → is.writeway (u.at t).standing ≡ false
  clear t = let o = row_of e in elim (cases_Bool (is.writeway (u.at t).standing)) [
    | inr q ↦ q
    | inl q ↦ elim (cases_eq i t) [
      | inl k ↦ ap (λ x. is.writeway (u.at x).standing) (sym k) ∙ o.writeway
      | inr d ↦ absurd (both_ways _ (iv.one_leaves t i q d).1 o.readway)
    ]
  ]

  abbrev w : Config
  w = untailed u

  v : Inv w
  v = untail u iv act clear

  o : Row (w.at i).standing E2
  o = row_of e

  -- nobody stands unlinked behind the tail
  nobody : (s : ℕ) → is.unlinked (w.at s).standing ≡ true → (w.at s).pred ≡ Some i → ⊥
  nobody s h q = iv.behind_tail s i h q z

  roles : Roles w i E6
  roles =
      let n = row E6 in
      record {
        line = grind (arith, o, n);
        writeway = grind (arith, o, n);
        readway = grind (arith, o, n);
        own = grind (arith, o, n, v.own i);
        fetching = grind (arith, o, n);
        admitted = λ h a. absurd (both_ways _ (sym (v.lined i) ∙ o.lining) (lt-ltb _ _ h));
        only = λ h k a. absurd (both_ways _ (sym (v.lined i) ∙ o.lining) (lt-ltb _ _ h));
        waking = no_waking n.waking;
        woken = λ t _ h z. grind (arith, o, (v.woken t i h z).0);
        waiting = λ z. grind (arith, o, (v.named i z).0);
        asking = grind (arith, o, n);
        apart = grind (arith, o, n);
        asked = grind (arith, o, n);
        unlinked = no_unlinked n.unlinked;
        followed = λ s _ h q. absurd (nobody s h q);
        linking = λ x _ h z a b. grind (arith, o);
        owing = owing_kept _ _ _ _ (λ _ q. absurd (both_ways _ n.owing_w q)) (λ _ q. absurd (both_ways _ n.owing_r q)) (λ _ q. absurd (both_ways _ n.owing_n q));
        owed = λ p _ h z. grind (arith, o, v.owed p i h z);
        ending_w = λ q. absurd (fact.nobody None (ap is_some q) refl);
        ending_r = λ q. absurd (fact.nobody None (ap is_some q) refl);
      }

  count : w.reader_count + share_of w i ≡ w.reader_count + share_of (moved w i E6 w.reader_count) i
  unfolding share
  count = grind (arith, o, row E6)

  pub kept : Inv (moved w i E6 w.reader_count)
  kept = relabel w i E6 v roles w.reader_count lt count
