-- The halves of a word, and how one is counted.
use Rattle.std.specs.Prelude.{ℕ, ◌+◌, ◌*◌, ◌/◌, ◌%◌}

-- the writers counted
abbrev pub lower : ℕ → ℕ
lower word = word % 65536

-- the readers counted
abbrev pub upper : ℕ → ℕ
upper word = word / 65536

-- one more: after 32,768 comes 1 again
abbrev pub counted : ℕ → ℕ
counted half = half % 32768 + 1

-- a reader more in the upper half
abbrev pub reader_counted : ℕ → ℕ
reader_counted word = counted (upper word) * 65536 + lower word

-- a writer more in the lower half
abbrev pub writer_counted : ℕ → ℕ
writer_counted word = upper word * 65536 + counted (lower word)
