-- E7: the reader that counted the last one out keeps the next writer in mind, or is idle if there is none.
use Rattle.std.proofs.Common.{◌≡◌, ℕ, ◌+◌, ◌<◌, Bool, true, false, cond, List, [], ◌∷◌, Some, None, Option, sym, refl, ◌∙◌, inr, arith}
use Rattle.std.proofs.lemmas.Bool.{both_ways, lt-ltb}
use Rattle.queue_words.specs.Records.{keeping, relabelled}
use Rattle.queue_words.specs.declared.standing.Standing.{Standing}
use Rattle.queue_words.specs.declared.standing.Standing.TheVariants.{I, E7, E8}
use Rattle.queue_lock.specs.Sets as is
use Rattle.queue_lock.specs.Config.{Config}
use Rattle.queue_lock.specs.Invariant.{Inv, Own, In, share, share_of}
use Rattle.queue_lock.specs.Alter as alter
use Rattle.queue_lock.specs.Alter.{altered, Asked, Roles}
use Rattle.queue_lock.specs.Every.{implies}
use Rattle.queue_lock.specs.Plain.{all, get, deny}
use Rattle.queue_lock.specs.Rows.{Row, row, row_of}
use Rattle.queue_lock.specs.Shares.{owing_by}

waiting_askable : (l : Standing) → is.waiting l ≡ true → is.askable l ≡ true
unfolding is.waiting is.askable
waiting_askable l h = implies is.is_waiting is.is_askable refl l h

-- the new standing has no part in the line
abbrev tests : Standing → List Bool
tests l = cond (is.is_lining l) false true ∷ cond (is.is_writeway l) false true ∷ cond (is.is_readway l) false true ∷ cond (is.is_fetching l) false true ∷ cond (is.is_waking l) false true ∷ cond (is.is_wanting l) false true ∷ cond (is.is_unlinked l) false true ∷ cond (is.is_owing_w l) false true ∷ cond (is.is_owing_r l) false true ∷ cond (is.is_owing_n l) false true ∷ []

module _ (w : Config) (i : ℕ) (v : Inv w) (lt : i < 32) (e : (w.at i).standing ≡ E7) where
  o : Row (w.at i).standing E7
  o = row_of e

  out : In w i → ⊥
  out h = both_ways _ (sym (v.lined i) ∙ o.lining) (lt-ltb _ _ h)

  roles : (l : Standing) (k : Option ℕ) → Row l l → all (tests l) ≡ true → Own (keeping (relabelled (w.at i) l) k) → (is.asking l ≡ true → (x : ℕ) → k ≡ Some x → is.wanting (w.at x).standing ≡ true → (is.askable (w.at x).standing ≡ true) × Asked w l x) → Roles w i (keeping (relabelled (w.at i) l) k)
  roles l k n h own asking =
      let t = get (tests l) h in
      record {
        class = refl;
        pred = refl;
        line = n.lining ∙ deny _ (t 0) ∙ sym o.lining;
        act = λ a. record { reads = a.reads; free = a.free };
        writeway = λ _. n.writeway ∙ deny _ (t 1);
        readway = λ _. n.readway ∙ deny _ (t 2);
        own = own;
        fetching = λ g. absurd (both_ways _ (n.fetching ∙ deny _ (t 3)) g);
        admitted = λ g _. absurd (out g);
        only = λ g _ _. absurd (out g);
        waking = λ g. absurd (both_ways _ (n.waking ∙ deny _ (t 4)) g);
        waking_none = λ g. absurd (both_ways _ (n.waking ∙ deny _ (t 4)) g);
        waking_one = λ g. absurd (both_ways _ (n.waking ∙ deny _ (t 4)) g);
        asking = asking;
        apart = λ _. n.wanting ∙ deny _ (t 5);
        woken = λ s _ g q. absurd (both_ways _ o.waiting (v.woken s i g q).0.standing);
        waiting = λ q. absurd (both_ways _ o.waiting (v.named i q).0.standing);
        asked = λ _ _ _ _ g. absurd (both_ways _ (n.wanting ∙ deny _ (t 5)) g);
        behind = λ g. absurd (both_ways _ (n.unlinked ∙ deny _ (t 6)) g);
        followed = λ s _ u q _. absurd (both_ways _ o.followed (v.behind s i u q).standing);
        owing = λ g. absurd (owing_by (w.at i).class (w.at i).state.successor l g ⊥ (λ _ y. both_ways _ (n.owing_w ∙ deny _ (t 7)) y) (λ _ _ y. both_ways _ (n.owing_r ∙ deny _ (t 8)) y) (λ _ _ y. both_ways _ (n.owing_n ∙ deny _ (t 9)) y));
        owed = λ p _ g q _. absurd (both_ways _ o.sleeping (v.owed p i g q).standing);
        tail = λ q. let y = v.tailed i q in (y.next, y.behind, (λ g. absurd (both_ways _ o.ending_w g)), (λ g. absurd (both_ways _ o.ending_r g)));
      }

  count_none : w.reader_count + share_of w i ≡ w.reader_count + share_of (altered w i (keeping (relabelled (w.at i) I) None) w.reader_count) i
  unfolding share
  count_none = grind (arith, o, row I)

  pub kept_none : Inv (altered w i (keeping (relabelled (w.at i) I) None) w.reader_count)
  kept_none = let n = row I in alter.alter w i (keeping (relabelled (w.at i) I) None) w.reader_count v (roles I None n refl (grind (arith, n)) (λ g. absurd (both_ways _ n.asking g))) lt count_none

  count_some : (x : ℕ) → w.reader_count + share_of w i ≡ w.reader_count + share_of (altered w i (keeping (relabelled (w.at i) E8) (Some x)) w.reader_count) i
  unfolding share
  count_some x = grind (arith, o, row E8)

  pub kept_some : (x : ℕ) → w.next_writer ≡ Some x → Inv (altered w i (keeping (relabelled (w.at i) E8) (Some x)) w.reader_count)
  kept_some x q = let n = row E8 in alter.alter w i (keeping (relabelled (w.at i) E8) (Some x)) w.reader_count v (roles E8 (Some x) n refl (grind (arith, n)) (λ _ y z _. let j = q ∙ z in (waiting_askable _ (v.named y j).0.standing, inr (n.asking_first, j)))) lt (count_some x)
