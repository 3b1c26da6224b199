-- A slot's place in line, counted from 0; the line's length where it has none.
use Rattle.std.specs.Prelude.{◌≡◌, ℕ, suc, cond, List, [], ◌∷◌, length, ◌==◌}

unfoldable pub pos : List ℕ → ℕ → ℕ
pos [] x = 0
pos (y ∷ l) x = cond (x == y) 0 (suc (pos l x))

-- no slot stands in line twice
unfoldable pub Distinct : List ℕ → Type 0
Distinct [] = Unit {0}
Distinct (y ∷ l) = (pos l y ≡ length l) × Distinct l
