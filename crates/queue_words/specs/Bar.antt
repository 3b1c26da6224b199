-- When a slot is barred from writing.
use Rattle.std.specs.Prelude.{ℕ, zero, suc, Bool, true, false, cond, ◌==◌}
use Rattle.queue_words.specs.Steps.{slot, is_slot}
use Rattle.queue_words.specs.declared.standing.Standing.{Standing}
use Rattle.queue_words.specs.declared.standing.Standing.TheVariants.{I, W1, W2, W3, W4, W5, W6, W7, W8, WriterH, V1, V2, V3, V4, V5, V6, R1, R2, R3, R4, R5, R6, R7, R8, R9, R10, R11, R12, R13, ReaderH, E1, E2, E3, E4, E5, E6, E7, E8, E9, E10}
use Rattle.queue_words.specs.declared.words.Words.{Words}

-- E8 and E9: the slot is about to compare the next writer with its w
abbrev pub asks : Standing → Bool
asks I = false
asks W1 = false
asks W2 = false
asks W3 = false
asks W4 = false
asks W5 = false
asks W6 = false
asks W7 = false
asks W8 = false
asks WriterH = false
asks V1 = false
asks V2 = false
asks V3 = false
asks V4 = false
asks V5 = false
asks V6 = false
asks R1 = false
asks R2 = false
asks R3 = false
asks R4 = false
asks R5 = false
asks R6 = false
asks R7 = false
asks R8 = false
asks R9 = false
asks R10 = false
asks R11 = false
asks R12 = false
asks R13 = false
asks ReaderH = false
asks E1 = false
asks E2 = false
asks E3 = false
asks E4 = false
asks E5 = false
asks E6 = false
asks E7 = false
asks E8 = true
asks E9 = true
asks E10 = false

-- slot x is another than i, and stands at E8 or E9 with i as its w
abbrev pub asks_for : Words → ℕ → ℕ → Bool
asks_for w i x = cond (x == i) false (cond (asks (slot w x).standing) (is_slot i (slot w x).w) false)

-- it is so of some slot below n
unfoldable pub some_below : (ℕ → Bool) → ℕ → Bool
some_below f zero = false
some_below f (suc n) = cond (f n) true (some_below f n)

-- a slot is barred exactly while another stands at E8 or E9 with it as w
abbrev pub barred : Words → ℕ → Bool
barred w i = some_below (asks_for w i) 32
