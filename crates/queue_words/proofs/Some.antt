-- A test of all slots below a number.
use Rattle.std.proofs.Common.{◌≡◌, ℕ, zero, suc, ◌+◌, ◌<◌, Bool, true, false, cond, sym, refl, ap, ◌∙◌, inl, inr, add-one, arith}
use Rattle.std.proofs.lemmas.Bool.{cases_eq, cond-true}
use Rattle.queue_words.specs.Bar.{some_below}

-- one that passes is enough
pub some_at : (f : ℕ → Bool) (n x : ℕ) → x < n → f x ≡ true → some_below f n ≡ true
unfolding some_below
some_at f zero x h e = absurd (omega arith)
some_at f (suc n) x h e = elim (cases_eq x n) [
  | inl q ↦ cond-true (f n) true (some_below f n) (sym (ap f q) ∙ e)
  | inr d ↦ ap (λ b. cond (f n) true b) (some_at f n x (omega arith) e) ∙ either (f n)
]
  where
    either : (b : Bool) → cond b true true ≡ true
    either true = refl
    either false = refl

-- none so far, and not the next
pub none_more : (f : ℕ → Bool) (n : ℕ) → some_below f n ≡ false → f n ≡ false → some_below f (n + 1) ≡ false
unfolding some_below
none_more f n h e = rw add-one (ap (λ b. cond b true (some_below f n)) e ∙ h)

pub none_yet : (f : ℕ → Bool) → some_below f 0 ≡ false
unfolding some_below
none_yet f = refl
