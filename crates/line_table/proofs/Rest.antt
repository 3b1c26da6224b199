-- Fronts of the table, and lines with one more at their end.
use Rattle.std.proofs.Common.{◌≡◌, ℕ, ◌+◌, ◌<◌, ◌≤◌, Bool, true, false, cond, eqb, List, [], ◌∷◌, ◌++◌, length, get_or, take, set, sym, refl, ap, ◌∙◌, arith}
use Rattle.std.proofs.lemmas.List.{take_more, take-set, take_more_set, get_or-set_other}
use Rattle.std.proofs.lemmas.Bool.{lt-ltb, eq-eqb, ne_eqb}
use Rattle.line_table.specs.Lines.{pushed}
use Rattle.lock.specs.Line.{without}

-- a line with room takes one more
pub pushed_room : (i : ℕ) (line : List ℕ) → length line < 32 → pushed i line ≡ line ++ (i ∷ [])
pushed_room i line h = ap (λ b. cond b (line ++ (i ∷ [])) line) (lt-ltb (length line) 32 h)

without_push : (i : ℕ) (l : List ℕ) (x : ℕ) → without i (l ++ (x ∷ [])) ≡ cond (eqb x i) (without i l) (without i l ++ (x ∷ []))
without_push i [] x = refl
without_push i (y ∷ l) x =
    elim (eqb y i) as (λ b. cond b (without i (l ++ (x ∷ []))) (y ∷ without i (l ++ (x ∷ []))) ≡ cond (eqb x i) (cond b (without i l) (y ∷ without i l)) (cond b (without i l) (y ∷ without i l) ++ (x ∷ []))) [
      | true ↦ without_push i l x
      | false ↦ ap (λ z. y ∷ z) (without_push i l x) ∙ pull (eqb x i)
    ]
  where
    pull : (b : Bool) → y ∷ cond b (without i l) (without i l ++ (x ∷ [])) ≡ cond b (y ∷ without i l) ((y ∷ without i l) ++ (x ∷ []))
    pull true = refl
    pull false = refl

pub without_more : (s : ℕ) (xs : List ℕ) (i : ℕ) → i < length xs → without s (take (i + 1) xs) ≡ cond (eqb (get_or xs i 0) s) (without s (take i xs)) (without s (take i xs) ++ (get_or xs i 0 ∷ []))
without_more s xs i h = ap (without s) (take_more xs i 0 h) ∙ without_push s (take i xs) (get_or xs i 0)

-- the slot at i moves up to n, the end of those that stay
pub moves_up : (s : ℕ) (xs ys : List ℕ) (i n : ℕ) → n < length xs → i < length ys → take n xs ≡ without s (take i ys) → get_or xs i 0 ≡ get_or ys i 0 → (get_or xs i 0 ≡ s → ⊥) → take (n + 1) (set xs n (get_or xs i 0)) ≡ without s (take (i + 1) ys)
moves_up s xs ys i n h l e d o =
    let front = without s (take i ys) in
    let f = ne_eqb (get_or ys i 0) s (λ z. o (d ∙ z)) in
    take_more_set xs n (get_or xs i 0) h ∙ ap (λ z. z ++ (get_or xs i 0 ∷ [])) e ∙ ap (λ x. front ++ (x ∷ [])) d
    ∙ ap (λ b. cond b front (front ++ (get_or ys i 0 ∷ []))) (sym f) ∙ sym (without_more s ys i l)

-- the slot that quits is written over
pub drops_out : (s : ℕ) (xs ys : List ℕ) (i n : ℕ) → i < length ys → take n xs ≡ without s (take i ys) → get_or xs i 0 ≡ get_or ys i 0 → get_or xs i 0 ≡ s → take n (set xs n (get_or xs i 0)) ≡ without s (take (i + 1) ys)
drops_out s xs ys i n l e d o =
    let front = without s (take i ys) in
    let f = eq-eqb (get_or ys i 0) s (sym d ∙ o) in
    take-set xs n (get_or xs i 0) ∙ e ∙ ap (λ b. cond b front (front ++ (get_or ys i 0 ∷ []))) (sym f) ∙ sym (without_more s ys i l)

-- a write at n leaves what stands behind it
pub behind : (xs ys : List ℕ) (i n x : ℕ) → n ≤ i → ((k : ℕ) → i ≤ k → get_or xs k 0 ≡ get_or ys k 0) → (k : ℕ) → i + 1 ≤ k → get_or (set xs n x) k 0 ≡ get_or ys k 0
behind xs ys i n x h f k l = get_or-set_other xs n k x 0 (λ e. omega arith) ∙ f k (omega arith)
