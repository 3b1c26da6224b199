-- X1 over a step: whoever waits for its next to be set still has an unlinked slot behind it.
use Rattle.std.proofs.Common.{◌≡◌, ℕ, true, cond, ◌⊎◌, Some, None, sym, refl, ap, ◌∙◌, subst, inl, inr}
use Rattle.std.proofs.lemmas.Bool.{cases_eq}
use Rattle.queue_words.specs.declared.standing.Standing.{Standing}
use Rattle.queue_lock.specs.Sets as is
use Rattle.queue_lock.specs.Config.{Config}
use Rattle.queue_lock.specs.Tended.{Tended}
use Rattle.queue_lock.specs.Every.{implies}
use Rattle.queue_lock.specs.Untouched.{Keeps, kept, none_before, slot_or_not}
use Rattle.queue_lock.specs.Rows.{Row}
use Rattle.queue_lock.specs.Tested.{no, gives, lacks}

-- what the slot that steps, and the tail, have to show
pub record Follow (w v : Config) (i : ℕ) : Type 0 where
  pub unlinked : is.unlinked (w.at i).standing ≡ true → (p : ℕ) → (w.at i).pred ≡ Some p → (v.at p).next ≡ None → is.unlinked (v.at i).standing ≡ true
  pub awaited : is.awaited (v.at i).standing ≡ true → (v.tail ≡ Some i → ⊥) → is.awaited (w.at i).standing ≡ true
  pub tail : (p : ℕ) → w.tail ≡ Some p → is.awaited (v.at p).standing ≡ true → (v.tail ≡ Some p) ⊎ ((is.unlinked (v.at i).standing ≡ true) × ((v.at i).pred ≡ Some p))

pub unlinked_awaited : (l : Standing) → is.unlinked l ≡ true → is.awaited l ≡ true
unfolding is.unlinked is.awaited
unlinked_awaited l h = implies is.is_unlinked is.is_awaited refl l h

module _ (w v : Config) (i : ℕ) (g : Tended w) (k : Keeps w.at v.at i) (r : Follow w v i) where
  still : (p : ℕ) → (v.at p).next ≡ None → (s : ℕ) × ((is.unlinked (w.at s).standing ≡ true) × ((w.at s).pred ≡ Some p)) → (s : ℕ) × ((is.unlinked (v.at s).standing ≡ true) × ((v.at s).pred ≡ Some p))
  still p z (s, (u, q)) = (
    s,
    (
      elim (cases_eq s i) [
        | inl e ↦ subst (λ x. is.unlinked (v.at x).standing ≡ true) (sym e) (r.unlinked (subst (λ x. is.unlinked (w.at x).standing ≡ true) e u) p (subst (λ x. (w.at x).pred ≡ Some p) e q) z)
        | inr d ↦ subst (λ l. is.unlinked l ≡ true) (sym (k.others s d).standing) u
      ],
      (kept k s (inl (unlinked_awaited _ u))).pred ∙ q,
    ),
  )

  pub followed : (p : ℕ) → is.awaited (v.at p).standing ≡ true → (v.at p).next ≡ None → (v.tail ≡ Some p → ⊥) → (s : ℕ) × ((is.unlinked (v.at s).standing ≡ true) × ((v.at s).pred ≡ Some p))
  followed p h z t =
      let a : is.awaited (w.at p).standing ≡ true = elim (cases_eq p i) [
        | inl e ↦ subst (λ x. is.awaited (w.at x).standing ≡ true) (sym e) (r.awaited (subst (λ x. is.awaited (v.at x).standing ≡ true) e h) (λ q. t (q ∙ ap Some (sym e))))
        | inr d ↦ subst (λ l. is.awaited l ≡ true) (k.others p d).standing h
      ] in
      let n = none_before (kept k p (inl a)) z in
      elim (slot_or_not w.tail p) [
        | inl q ↦ elim (r.tail p q h) [ inl y ↦ absurd (t y) | inr y ↦ (i, y) ]
        | inr d ↦ still p z (g.followed p a n d)
      ]

module _ (w v : Config) (i : ℕ) (a l : Standing) (o : Row (w.at i).standing a) (n : Row (v.at i).standing l) where
  -- nobody links, arrives or leaves the tail
  pub follow : v.tail ≡ w.tail → cond (is.is_unlinked a) (is.is_unlinked l) true ≡ true → cond (is.is_awaited l) (is.is_awaited a) true ≡ true → Follow w v i
  follow t x y = record { unlinked = λ h _ _ _. gives o.unlinked n.unlinked x h; awaited = λ h _. gives n.awaited o.awaited y h; tail = λ p q _. inl (t ∙ q) }

  -- slot i writes the next of its predecessor
  pub follow_link : v.tail ≡ w.tail → (p : ℕ) → (w.at i).pred ≡ Some p → (v.at p).next ≡ Some i → cond (is.is_awaited l) (is.is_awaited a) true ≡ true → Follow w v i
  follow_link t p q e y = record {
    unlinked = λ _ m k z. let j : p ≡ m = cc (q, k) in absurd (cc (subst (λ x. (v.at x).next ≡ Some i) j e, z));
    awaited = λ h _. gives n.awaited o.awaited y h;
    tail = λ p q _. inl (t ∙ q);
  }

  -- slot i takes itself off the tail, and waits for nobody
  pub follow_untail : w.tail ≡ Some i → no (is.is_unlinked a) ≡ true → no (is.is_awaited l) ≡ true → Follow w v i
  follow_untail t x y = record {
    unlinked = λ h. absurd (lacks o.unlinked x h);
    awaited = λ h. absurd (lacks n.awaited y h);
    tail = λ p q h. let j : p ≡ i = cc (t, q) in absurd (lacks n.awaited y (subst (λ x. is.awaited (v.at x).standing ≡ true) j h));
  }

  -- slot i becomes the tail, unlinked behind the old one
  pub follow_arrive : v.tail ≡ Some i → (v.at i).pred ≡ w.tail → no (is.is_unlinked a) ≡ true → ((p : ℕ) → w.tail ≡ Some p → is.is_unlinked l ≡ true) → Follow w v i
  follow_arrive t q x u = record {
    unlinked = λ h. absurd (lacks o.unlinked x h);
    awaited = λ _ d. absurd (d t);
    tail = λ p z _. inr (n.unlinked ∙ u p z, q ∙ z);
  }
