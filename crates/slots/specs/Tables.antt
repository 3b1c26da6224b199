-- A table whose rows are all alike.
use Rattle.std.specs.Prelude.{◌≡◌, ℕ, zero, suc, replicate, slice_index_or, refl}

pub all_alike : {T : Type 0} (row : T) (n j : ℕ) → slice_index_or (replicate n row) j row ≡ row
all_alike row zero j = refl
all_alike row (suc n) zero = refl
all_alike row (suc n) (suc j) = all_alike row n j
