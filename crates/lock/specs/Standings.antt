-- What a move means, by where it makes each slot stand.
use Rattle.std.specs.Prelude.{◌≡◌, ℕ, Bool, false, ◌≢◌, refl}
use Rattle.std.proofs.Common.{sym, ap, subst, ◌∙◌, inl, inr}
use Rattle.std.proofs.lemmas.Bool.{cases_eq}
use Rattle.lock.specs.Meaning.{Meaning, Moved, CalledIn, Reaches, Stepped, Finished, KeepsClass}
use Rattle.lock.specs.declared.words.Class.{Class}
use Rattle.lock.specs.declared.words.Class.TheVariants.{Writing}
use Rattle.lock.specs.declared.words.Phase.{Phase}
use Rattle.lock.specs.declared.words.Phase.TheVariants.{Idle, Called, Holds, Leaves}

module _ {S : Type 0} (phase_of : S → Phase) (class_of : S → Class) where
  -- the meaning, by where the slots stand
  abbrev pub stand_for : (ℕ → S) → (ℕ → Bool) → Meaning
  stand_for a barred = record { phase = λ i. phase_of (a i); class = λ i. class_of (a i); barred = barred }

  -- slot i keeps its class until it is idle, and the others theirs
  keeps_class : (a b : ℕ → S) (p q : ℕ → Bool) (i : ℕ) (x : S) → Moved a i x b → ((phase_of x ≢ Idle) → class_of x ≡ class_of (a i)) → KeepsClass (stand_for a p) (stand_for b q)
  keeps_class a b p q i x m f j n = elim (cases_eq j i) [
    | inl e ↦ let here = ap b e ∙ m.here in ap class_of here ∙ f (λ z. n (ap phase_of here ∙ z)) ∙ sym (ap (λ y. class_of (a y)) e)
    | inr u ↦ ap class_of (m.others j u)
  ]

  pub call_means : (a b : ℕ → S) (p q : ℕ → Bool) (i : ℕ) (c : Class) (x : S) → phase_of (a i) ≡ Idle → (c ≡ Writing → p i ≡ false) → Moved a i x b → phase_of x ≡ Called → class_of x ≡ c → CalledIn (stand_for a p) i c (stand_for b q)
  call_means a b p q i c x e f m h k = record {
    idle = e;
    free = f;
    phase = record { here = ap phase_of m.here ∙ h; others = λ j n. ap phase_of (m.others j n) };
    class = record { here = ap class_of m.here ∙ k; others = λ j n. ap class_of (m.others j n) };
  }

  pub step_means : (a b : ℕ → S) (p q : ℕ → Bool) (i : ℕ) (x : S) → Reaches (stand_for a p) i (phase_of (a i)) (phase_of x) → Moved a i x b → ((phase_of x ≢ Idle) → class_of x ≡ class_of (a i)) → Stepped (stand_for a p) i (stand_for b q)
  step_means a b p q i x r m f = record {
    reaches = subst (λ y. Reaches (stand_for a p) i (phase_of (a i)) (phase_of y)) (sym m.here) r;
    others = record { here = refl; others = λ j n. ap phase_of (m.others j n) };
    class = keeps_class a b p q i x m f;
  }

  pub finish_means : (a b : ℕ → S) (p q : ℕ → Bool) (i : ℕ) (x : S) → phase_of (a i) ≡ Holds → Moved a i x b → phase_of x ≡ Leaves → class_of x ≡ class_of (a i) → Finished (stand_for a p) i (stand_for b q)
  finish_means a b p q i x e m h k = record {
    holds = e;
    phase = record { here = ap phase_of m.here ∙ h; others = λ j n. ap phase_of (m.others j n) };
    class = keeps_class a b p q i x m (λ n. k);
  }
