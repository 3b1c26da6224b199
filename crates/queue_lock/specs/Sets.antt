-- What each standing says of its slot: one set of standings for each property. The set with a dot computes; the one that
-- clauses cite is shut, so that proofs see a property and not its list.
use Rattle.std.specs.Prelude.{ℕ, Bool, true, false, cond, List, [], ◌∷◌, ◌==◌}
use Rattle.queue_words.specs.declared.standing.Standing.{Standing}
use Rattle.queue_words.specs.declared.standing.Standing.TheVariants.{I, W1, W2, W3, W4, W5, W6, W7, W8, WriterH, V1, V2, V3, V4, V5, V6, R1, R2, R3, R4, R5, R6, R7, R8, R9, R10, R11, R12, R13, ReaderH, E1, E2, E3, E4, E5, E6, E7, E8, E9, E10}

-- all standings
abbrev pub standings : List Standing
standings = I ∷ W1 ∷ W2 ∷ W3 ∷ W4 ∷ W5 ∷ W6 ∷ W7 ∷ W8 ∷ WriterH ∷ V1 ∷ V2 ∷ V3 ∷ V4 ∷ V5 ∷ V6 ∷ R1 ∷ R2 ∷ R3 ∷ R4 ∷ R5 ∷ R6 ∷ R7 ∷ R8 ∷ R9 ∷ R10 ∷ R11 ∷ R12 ∷ R13 ∷ ReaderH ∷ E1 ∷ E2 ∷ E3 ∷ E4 ∷ E5 ∷ E6 ∷ E7 ∷ E8 ∷ E9 ∷ E10 ∷ []

-- a standing's number, its place in that list
abbrev pub number : Standing → ℕ
number I = 0
number W1 = 1
number W2 = 2
number W3 = 3
number W4 = 4
number W5 = 5
number W6 = 6
number W7 = 7
number W8 = 8
number WriterH = 9
number V1 = 10
number V2 = 11
number V3 = 12
number V4 = 13
number V5 = 14
number V6 = 15
number R1 = 16
number R2 = 17
number R3 = 18
number R4 = 19
number R5 = 20
number R6 = 21
number R7 = 22
number R8 = 23
number R9 = 24
number R10 = 25
number R11 = 26
number R12 = 27
number R13 = 28
number ReaderH = 29
number E1 = 30
number E2 = 31
number E3 = 32
number E4 = 33
number E5 = 34
number E6 = 35
number E7 = 36
number E8 = 37
number E9 = 38
number E10 = 39

abbrev pub among : List Standing → Standing → Bool
among [] s = false
among (x ∷ xs) s = cond (number s == number x) true (among xs s)

-- in line
abbrev pub is_lining : Standing → Bool
is_lining s = among (W2 ∷ W3 ∷ W4 ∷ W5 ∷ W6 ∷ W7 ∷ W8 ∷ WriterH ∷ R2 ∷ R3 ∷ R4 ∷ R5 ∷ R6 ∷ R7 ∷ R8 ∷ R9 ∷ R10 ∷ R11 ∷ R12 ∷ R13 ∷ ReaderH ∷ []) s

unfoldable pub lining : Standing → Bool
lining s = is_lining s

-- a reader in the way after its hold
abbrev pub is_readway : Standing → Bool
is_readway s = among (E1 ∷ E2 ∷ E3 ∷ E4 ∷ E5 ∷ E6 ∷ []) s

unfoldable pub readway : Standing → Bool
readway s = is_readway s

-- a writer in the way after its hold
abbrev pub is_writeway : Standing → Bool
is_writeway s = among (V1 ∷ V2 ∷ V3 ∷ V4 ∷ V5 ∷ V6 ∷ []) s

unfoldable pub writeway : Standing → Bool
writeway s = is_writeway s

-- has swapped the tail and not yet written next of its predecessor
abbrev pub is_unlinked : Standing → Bool
is_unlinked s = among (W6 ∷ W7 ∷ R3 ∷ R4 ∷ R5 ∷ R7 ∷ R8 ∷ []) s

unfoldable pub unlinked : Standing → Bool
unlinked s = is_unlinked s

-- its class is writing
abbrev pub is_writing : Standing → Bool
is_writing s = among (W2 ∷ W3 ∷ W4 ∷ W5 ∷ W6 ∷ W7 ∷ W8 ∷ WriterH ∷ V1 ∷ V2 ∷ V3 ∷ V4 ∷ V5 ∷ V6 ∷ []) s

unfoldable pub writing : Standing → Bool
writing s = is_writing s

-- its class is reading
abbrev pub is_reading : Standing → Bool
is_reading s = among (R2 ∷ R3 ∷ R4 ∷ R5 ∷ R6 ∷ R7 ∷ R8 ∷ R9 ∷ R10 ∷ R11 ∷ R12 ∷ R13 ∷ ReaderH ∷ E1 ∷ E2 ∷ E3 ∷ E4 ∷ E5 ∷ E6 ∷ []) s

unfoldable pub reading : Standing → Bool
reading s = is_reading s

-- it is blocked
abbrev pub is_on : Standing → Bool
is_on s = among (W2 ∷ W5 ∷ W6 ∷ W7 ∷ R2 ∷ R3 ∷ R4 ∷ R5 ∷ R7 ∷ R8 ∷ R9 ∷ []) s

unfoldable pub on : Standing → Bool
on s = is_on s

-- it is not blocked
abbrev pub is_off : Standing → Bool
is_off s = among (WriterH ∷ R10 ∷ R11 ∷ R12 ∷ R13 ∷ ReaderH ∷ E1 ∷ E2 ∷ E3 ∷ []) s

unfoldable pub off : Standing → Bool
off s = is_off s

-- a reader stands behind it
abbrev pub is_wakes : Standing → Bool
is_wakes s = among (R11 ∷ R12 ∷ R13 ∷ []) s

unfoldable pub wakes : Standing → Bool
wakes s = is_wakes s

-- a writer stands behind it
abbrev pub is_names : Standing → Bool
is_names s = among (E5 ∷ []) s

unfoldable pub names : Standing → Bool
names s = is_names s

-- its next is known
abbrev pub is_linked : Standing → Bool
is_linked s = among (V4 ∷ V5 ∷ V6 ∷ R12 ∷ R13 ∷ E4 ∷ E5 ∷ []) s

unfoldable pub linked : Standing → Bool
linked s = is_linked s

-- its w is known
abbrev pub is_keeps : Standing → Bool
is_keeps s = among (E8 ∷ E9 ∷ E10 ∷ []) s

unfoldable pub keeps : Standing → Bool
keeps s = is_keeps s

-- let in before its block is off
abbrev pub is_admitted : Standing → Bool
is_admitted s = among (W2 ∷ W3 ∷ W4 ∷ W5 ∷ R2 ∷ R7 ∷ R8 ∷ R9 ∷ []) s

unfoldable pub admitted : Standing → Bool
admitted s = is_admitted s

-- admitted as the only one
abbrev pub is_only : Standing → Bool
is_only s = among (W4 ∷ W5 ∷ []) s

unfoldable pub only : Standing → Bool
only s = is_only s

-- about to wake its w
abbrev pub is_waking : Standing → Bool
is_waking s = among (E10 ∷ []) s

unfoldable pub waking : Standing → Bool
waking s = is_waking s

-- a writer that may be next writer
abbrev pub is_waiting : Standing → Bool
is_waiting s = among (W3 ∷ W4 ∷ W8 ∷ []) s

unfoldable pub waiting : Standing → Bool
waiting s = is_waiting s

-- asks whether its w is still next writer
abbrev pub is_asking : Standing → Bool
is_asking s = among (E8 ∷ E9 ∷ []) s

unfoldable pub asking : Standing → Bool
asking s = is_asking s

-- asks whether the count is 0
abbrev pub is_asking_first : Standing → Bool
is_asking_first s = among (E8 ∷ []) s

unfoldable pub asking_first : Standing → Bool
asking_first s = is_asking_first s

-- called or queued to write
abbrev pub is_wanting : Standing → Bool
is_wanting s = among (W1 ∷ W2 ∷ W3 ∷ W4 ∷ W5 ∷ W6 ∷ W7 ∷ W8 ∷ []) s

unfoldable pub wanting : Standing → Bool
wanting s = is_wanting s

-- may be the w of an asking slot
abbrev pub is_askable : Standing → Bool
is_askable s = among (W3 ∷ W4 ∷ W5 ∷ W8 ∷ []) s

unfoldable pub askable : Standing → Bool
askable s = is_askable s

-- may have an unlinked slot behind it
abbrev pub is_followed : Standing → Bool
is_followed s = among (W2 ∷ W3 ∷ W4 ∷ W5 ∷ W6 ∷ W7 ∷ W8 ∷ WriterH ∷ V1 ∷ V2 ∷ V3 ∷ R2 ∷ R3 ∷ R4 ∷ R5 ∷ R6 ∷ R7 ∷ R8 ∷ R9 ∷ R10 ∷ R11 ∷ ReaderH ∷ E1 ∷ E2 ∷ E3 ∷ []) s

unfoldable pub followed : Standing → Bool
followed s = is_followed s

-- finds nobody noted behind its predecessor
abbrev pub is_plain : Standing → Bool
is_plain s = among (W6 ∷ R3 ∷ R4 ∷ R7 ∷ R8 ∷ []) s

unfoldable pub plain : Standing → Bool
plain s = is_plain s

-- has noted a writer behind its predecessor
abbrev pub is_noted : Standing → Bool
is_noted s = among (W7 ∷ []) s

unfoldable pub noted : Standing → Bool
noted s = is_noted s

-- its predecessor reads
abbrev pub is_behind_reader : Standing → Bool
is_behind_reader s = among (R4 ∷ R7 ∷ R8 ∷ []) s

unfoldable pub behind_reader : Standing → Bool
behind_reader s = is_behind_reader s

-- its predecessor is not blocked
abbrev pub is_behind_open : Standing → Bool
is_behind_open s = among (R7 ∷ R8 ∷ []) s

unfoldable pub behind_open : Standing → Bool
behind_open s = is_behind_open s

-- about to link behind a writer or a blocked reader
abbrev pub is_linking : Standing → Bool
is_linking s = among (R5 ∷ []) s

unfoldable pub linking : Standing → Bool
linking s = is_linking s

-- a reader that has not yet looked behind it twice
abbrev pub is_arriving : Standing → Bool
is_arriving s = among (R2 ∷ R3 ∷ R4 ∷ R5 ∷ R6 ∷ R7 ∷ R8 ∷ R9 ∷ R10 ∷ R11 ∷ []) s

unfoldable pub arriving : Standing → Bool
arriving s = is_arriving s

-- a writer that has to wake its next
abbrev pub is_owing_w : Standing → Bool
is_owing_w s = among (W2 ∷ W3 ∷ W4 ∷ W5 ∷ W6 ∷ W7 ∷ W8 ∷ WriterH ∷ V1 ∷ V2 ∷ V3 ∷ V4 ∷ V5 ∷ V6 ∷ R2 ∷ R3 ∷ R4 ∷ R5 ∷ R6 ∷ R7 ∷ R8 ∷ R9 ∷ R10 ∷ R11 ∷ R12 ∷ R13 ∷ ReaderH ∷ []) s

unfoldable pub owing_w : Standing → Bool
owing_w s = is_owing_w s

-- a reader that has to make its next the next writer
abbrev pub is_owing_n : Standing → Bool
is_owing_n s = among (W2 ∷ W3 ∷ W4 ∷ W5 ∷ W6 ∷ W7 ∷ W8 ∷ WriterH ∷ R2 ∷ R3 ∷ R4 ∷ R5 ∷ R6 ∷ R7 ∷ R8 ∷ R9 ∷ R10 ∷ R11 ∷ R12 ∷ R13 ∷ ReaderH ∷ E1 ∷ E2 ∷ E3 ∷ E4 ∷ E5 ∷ []) s

unfoldable pub owing_n : Standing → Bool
owing_n s = is_owing_n s

-- a reader that has to wake its next
abbrev pub is_owing_r : Standing → Bool
is_owing_r s = among (R2 ∷ R3 ∷ R4 ∷ R5 ∷ R6 ∷ R7 ∷ R8 ∷ R9 ∷ R10 ∷ R11 ∷ R12 ∷ R13 ∷ []) s

unfoldable pub owing_r : Standing → Bool
owing_r s = is_owing_r s

-- waits to be woken
abbrev pub is_sleeping : Standing → Bool
is_sleeping s = among (W8 ∷ R6 ∷ []) s

unfoldable pub sleeping : Standing → Bool
sleeping s = is_sleeping s

-- a writer that waits to be woken
abbrev pub is_sleeping_w : Standing → Bool
is_sleeping_w s = among (W8 ∷ []) s

unfoldable pub sleeping_w : Standing → Bool
sleeping_w s = is_sleeping_w s

-- a reader that waits to be woken
abbrev pub is_sleeping_r : Standing → Bool
is_sleeping_r s = among (R6 ∷ []) s

unfoldable pub sleeping_r : Standing → Bool
sleeping_r s = is_sleeping_r s

-- a writer that may still be the tail
abbrev pub is_ending_w : Standing → Bool
is_ending_w s = among (V1 ∷ V2 ∷ []) s

unfoldable pub ending_w : Standing → Bool
ending_w s = is_ending_w s

-- a reader that may still be the tail
abbrev pub is_ending_r : Standing → Bool
is_ending_r s = among (E1 ∷ E2 ∷ []) s

unfoldable pub ending_r : Standing → Bool
ending_r s = is_ending_r s

-- counts two readers
abbrev pub is_counts_two : Standing → Bool
is_counts_two s = among (R13 ∷ []) s

unfoldable pub counts_two : Standing → Bool
counts_two s = is_counts_two s

-- counts one reader
abbrev pub is_counts_one : Standing → Bool
is_counts_one s = among (R8 ∷ R9 ∷ R10 ∷ R11 ∷ R12 ∷ ReaderH ∷ E1 ∷ E2 ∷ E3 ∷ E4 ∷ E5 ∷ E6 ∷ []) s

unfoldable pub counts_one : Standing → Bool
counts_one s = is_counts_one s

-- holds
abbrev pub is_holding : Standing → Bool
is_holding s = among (WriterH ∷ ReaderH ∷ []) s

unfoldable pub holding : Standing → Bool
holding s = is_holding s

-- wakes its next
abbrev pub is_handing : Standing → Bool
is_handing s = among (V6 ∷ []) s

unfoldable pub handing : Standing → Bool
handing s = is_handing s

-- its next is set before it goes idle
abbrev pub is_awaited : Standing → Bool
is_awaited s = among (W2 ∷ W3 ∷ W4 ∷ W5 ∷ W6 ∷ W7 ∷ W8 ∷ WriterH ∷ V1 ∷ V2 ∷ V3 ∷ R2 ∷ R3 ∷ R4 ∷ R5 ∷ R6 ∷ R7 ∷ R8 ∷ R9 ∷ R10 ∷ R11 ∷ R12 ∷ R13 ∷ ReaderH ∷ E1 ∷ E2 ∷ E3 ∷ []) s

unfoldable pub awaited : Standing → Bool
awaited s = is_awaited s

-- may wait for another slot
abbrev pub is_dozing : Standing → Bool
is_dozing s = among (W3 ∷ W4 ∷ W8 ∷ R6 ∷ []) s

unfoldable pub dozing : Standing → Bool
dozing s = is_dozing s

-- about to read the next writer
abbrev pub is_looking : Standing → Bool
is_looking s = among (E7 ∷ []) s

unfoldable pub looking : Standing → Bool
looking s = is_looking s

-- has finished its hold and is not yet idle
abbrev pub is_leaving : Standing → Bool
is_leaving s = among (V1 ∷ V2 ∷ V3 ∷ V4 ∷ V5 ∷ V6 ∷ E1 ∷ E2 ∷ E3 ∷ E4 ∷ E5 ∷ E6 ∷ E7 ∷ E8 ∷ E9 ∷ E10 ∷ []) s

unfoldable pub leaving : Standing → Bool
leaving s = is_leaving s

-- hands on to a reader
abbrev pub is_fetching : Standing → Bool
is_fetching s = among (V5 ∷ []) s

unfoldable pub fetching : Standing → Bool
fetching s = is_fetching s
