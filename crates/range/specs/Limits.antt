-- Which ranges there are.
use Rattle.std.specs.Prelude.{ℕ, ◌+◌, ◌≤◌}

-- a book has 1 to 4,096 places, a range 1 to 32 of them, and all of its places are places of the book
abbrev pub Inside : ℕ → ℕ → ℕ → Type 0
Inside places first count = (1 ≤ places) × (places ≤ 4096) × (1 ≤ count) × (count ≤ 32) × (first + count ≤ places)
