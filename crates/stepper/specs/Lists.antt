-- How long the lent lists are, and how long they have to be.
use Rattle.std.specs.Prelude.{◌≡◌, ℕ, ◌*◌, Bool, ◌&&◌, List, length, ◌==◌}
use Rattle.stepper.specs.declared.lists.Lengths.{Lengths}

-- the lengths of a book, of rows and of givens
abbrev pub lengths_of : {H G : Type 0} → List H → List H → List G → Lengths
lengths_of book rows givens = record { book = length book; rows = length rows; givens = length givens }

-- whether the book has so many places, and each of so many slots has 32 rows and 32 givens
abbrev pub lengths_fit : ℕ → ℕ → Lengths → Bool
lengths_fit places slots x = x.book == places && (x.rows == 32 * slots && x.givens == 32 * slots)

-- they are just these
pub record Fit (places slots : ℕ) (x : Lengths) : Type 0 where
  pub book : x.book ≡ places
  pub rows : x.rows ≡ 32 * slots
  pub givens : x.givens ≡ 32 * slots
