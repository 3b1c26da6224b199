-- Counts over a line and over the slots.
use Rattle.std.specs.Prelude.{ℕ, zero, suc, ◌+◌, cond, List, [], ◌∷◌, ◌==◌}
use Rattle.lined_lock.specs.Totals.{total}
use Rattle.ticket_words.specs.Counting.{counted}
use Rattle.ticket_words.specs.declared.standing.Standing.{Standing}
use Rattle.ticket_words.specs.declared.standing.Standing.TheVariants.{I, T1, T2, T3, T4, T5, T6, ReaderH, WriterH}

-- how often slot i stands in line
abbrev pub times : ℕ → List ℕ → ℕ
times i [] = 0
times i (x ∷ line) = cond (x == i) (suc (times i line)) (times i line)

-- the sum over the slots before i, or over all if i does not stand in line
abbrev pub before : (ℕ → ℕ) → ℕ → List ℕ → ℕ
before f i [] = 0
before f i (x ∷ line) = cond (x == i) 0 (f x + before f i line)

-- a half that is counted n times
abbrev pub adv : ℕ → ℕ → ℕ
adv half zero = half
adv half (suc n) = counted (adv half n)

-- a reader that stands in line
abbrev pub reads : Standing → ℕ
reads I = 0
reads T1 = 0
reads T2 = 1
reads T3 = 0
reads T4 = 0
reads T5 = 0
reads T6 = 0
reads ReaderH = 1
reads WriterH = 0

-- a writer that stands in line
abbrev pub writes : Standing → ℕ
writes I = 0
writes T1 = 0
writes T2 = 0
writes T3 = 0
writes T4 = 0
writes T5 = 1
writes T6 = 0
writes ReaderH = 0
writes WriterH = 1

-- a reader that has left the line and is not counted out
abbrev pub read_leaves : Standing → ℕ
read_leaves I = 0
read_leaves T1 = 0
read_leaves T2 = 0
read_leaves T3 = 1
read_leaves T4 = 0
read_leaves T5 = 0
read_leaves T6 = 0
read_leaves ReaderH = 0
read_leaves WriterH = 0

-- a writer that has left the line and is not counted out
abbrev pub write_leaves : Standing → ℕ
write_leaves I = 0
write_leaves T1 = 0
write_leaves T2 = 0
write_leaves T3 = 0
write_leaves T4 = 0
write_leaves T5 = 0
write_leaves T6 = 1
write_leaves ReaderH = 0
write_leaves WriterH = 0

-- the readers that leave, and those in line before slot i
abbrev pub readers_ahead : (ℕ → Standing) → List ℕ → ℕ → ℕ
readers_ahead at line i = total (λ x. read_leaves (at x)) 32 + before (λ x. reads (at x)) i line

-- the writers that leave, and those in line before slot i
abbrev pub writers_ahead : (ℕ → Standing) → List ℕ → ℕ → ℕ
writers_ahead at line i = total (λ x. write_leaves (at x)) 32 + before (λ x. writes (at x)) i line
