-- Sums over the slots.
use Rattle.std.specs.Prelude.{◌≡◌, ℕ, zero, suc, ◌+◌, ◌*◌, ◌<◌, ◌≤◌, cond, ◌==◌, ◌≢◌, refl}
use Rattle.std.proofs.Common.{ap, inl, inr, arith}
use Rattle.std.proofs.lemmas.Bool.{cases_lt}

-- the sum over the slots below n
unfoldable pub total : (ℕ → ℕ) → ℕ → ℕ
total f zero = 0
total f (suc n) = f n + total f n

pub total_below : (f g : ℕ → ℕ) (n : ℕ) → ((j : ℕ) → j < n → g j ≡ f j) → total g n ≡ total f n
unfolding total
total_below f g zero e = refl
total_below f g (suc n) e = let t = total_below f g n (λ j h. e j (omega arith)) in let h = e n (omega arith) in omega arith

-- what one slot adds changes, and no more
pub total_one : (f g : ℕ → ℕ) (i n : ℕ) → ((j : ℕ) → (j ≢ i) → g j ≡ f j) → i < n → total g n + f i ≡ total f n + g i
unfolding total
total_one f g i zero e h = absurd (omega arith)
total_one f g i (suc n) e h =
    elim (cases_lt i n) [
      | inl k ↦ let t = total_one f g i n e k in let a = e n (λ q. omega arith) in omega arith
      | inr k ↦
          let q : i ≡ n = omega arith in
          let t = total_below f g n (λ j l. e j (λ z. omega arith)) in
          let a = ap f q in
          let b = ap g q in
          omega arith
    ]

pub total_at : (f : ℕ → ℕ) (i n : ℕ) → i < n → f i ≤ total f n
unfolding total
total_at f i zero h = absurd (omega arith)
total_at f i (suc n) h =
    elim (cases_lt i n) [
      | inl k ↦ let t = total_at f i n k in omega arith
      | inr k ↦ let q : i ≡ n = omega arith in let a = ap f q in omega arith
    ]

-- two slots change
pub total_two : (f g : ℕ → ℕ) (i k n : ℕ) → ((j : ℕ) → (j ≢ i) → (j ≢ k) → g j ≡ f j) → (i ≢ k) → i < n → k < n → total g n + (f i + f k) ≡ total f n + (g i + g k)
total_two f g i k n e d h l =
    let m : ℕ → ℕ = λ j. cond (j == i) (g i) (f j) in
    let a = total_one f m i n (λ j z. grind arith) h in
    let b = total_one m g k n (λ j z. let y = e j in grind arith) l in
    let c : m i ≡ g i = grind arith in
    let q : m k ≡ f k = grind arith in
    omega arith

-- where no slot adds more than c
pub total_le : (f : ℕ → ℕ) (c n : ℕ) → ((j : ℕ) → f j ≤ c) → total f n ≤ c * n
unfolding total
total_le f c zero h = omega arith
total_le f c (suc n) h = let t = total_le f c n h in let k = h n in omega arith
