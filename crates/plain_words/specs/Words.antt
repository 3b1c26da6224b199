-- The words that each move of a slot leaves.
use Rattle.std.specs.Prelude.{ℕ, ◌+◌, ◌-◌, ◌%◌, ◌^◌, cond, replicate, ◌==◌, slice_index_or, slice_set}
use Rattle.lock.specs.declared.words.Class.{Class}
use Rattle.lock.specs.declared.words.Class.TheVariants.{Reading, Writing}
use Rattle.plain_words.specs.declared.places.Standing.{Standing}
use Rattle.plain_words.specs.declared.places.Standing.TheVariants.{I, P1, P2, ReaderH, P3, P4, P4Again, WriterH, P5}
use Rattle.plain_words.specs.declared.words.Words.{Words}

-- the word is 0, and all slots are idle
abbrev pub fresh_words : Words
fresh_words = record { word = 0; table = record { slots = replicate 32 I } }

-- where slot i stands
abbrev pub stands : Words → ℕ → Standing
stands s i = slice_index_or s.table.slots i I

-- slot i goes to place a, and the word becomes w
abbrev pub moved : Words → ℕ → Standing → ℕ → Words
moved s i a w = record { word = w; table = record { slots = slice_set s.table.slots i a } }

-- addition of 32 bits
abbrev pub plus : ℕ → ℕ → ℕ
plus w n = (w + n) % 2 ^ 32

-- subtraction of 32 bits
abbrev pub minus : ℕ → ℕ → ℕ
minus w n = (w + (2 ^ 32 - n)) % 2 ^ 32

-- where a step takes a slot: a reader waits for bit 0 to be 0, a writer for the word to be 0
abbrev pub next_at : Standing → ℕ → Standing
next_at I w = I
next_at P1 w = P2
next_at P2 w = cond (w % 2 == 0) ReaderH P2
next_at ReaderH w = ReaderH
next_at P3 w = I
next_at P4 w = cond (w == 0) WriterH P4Again
next_at P4Again w = cond (w == 0) WriterH P4Again
next_at WriterH w = WriterH
next_at P5 w = I

-- what a step makes of the word: a reader counts two, a writer one
abbrev pub next_word : Standing → ℕ → ℕ
next_word I w = w
next_word P1 w = plus w 2
next_word P2 w = w
next_word ReaderH w = w
next_word P3 w = minus w 2
next_word P4 w = cond (w == 0) 1 w
next_word P4Again w = cond (w == 0) 1 w
next_word WriterH w = w
next_word P5 w = minus w 1

-- the words after a step of slot i
abbrev pub stepped : Words → ℕ → Words
stepped s i = moved s i (next_at (stands s i) s.word) (next_word (stands s i) s.word)

-- a call takes an idle slot to the first place of its class
abbrev pub called_at : Standing → Class → Standing
called_at I Reading = P1
called_at I Writing = P4
called_at P1 c = P1
called_at P2 c = P2
called_at ReaderH c = ReaderH
called_at P3 c = P3
called_at P4 c = P4
called_at P4Again c = P4Again
called_at WriterH c = WriterH
called_at P5 c = P5

-- the words after a call of slot i for a job of class c
abbrev pub called : Words → ℕ → Class → Words
called s i c = moved s i (called_at (stands s i) c) s.word

-- a finish takes a slot that holds to its first place of leaving
abbrev pub finished_at : Standing → Standing
finished_at I = I
finished_at P1 = P1
finished_at P2 = P2
finished_at ReaderH = P3
finished_at P3 = P3
finished_at P4 = P4
finished_at P4Again = P4Again
finished_at WriterH = P5
finished_at P5 = P5

-- the words after a finish of slot i
abbrev pub finished : Words → ℕ → Words
finished s i = moved s i (finished_at (stands s i)) s.word
