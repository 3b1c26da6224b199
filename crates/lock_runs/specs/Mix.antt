-- Checksums.
use Rattle.std.specs.Prelude.{ℕ, ◌+◌, ◌*◌, ◌%◌, ◌^◌}

-- a word mixed into a checksum
abbrev pub mixed : ℕ → ℕ → ℕ
mixed sum word = (sum * 31 % 2 ^ 32 + word) % 2 ^ 32
