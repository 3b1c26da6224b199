-- What each access does: the words that a step of a slot leaves, label by label.
use Rattle.std.specs.Prelude.{ℕ, ◌+◌, ◌-◌, ◌%◌, ◌^◌, Bool, true, false, cond, replicate, Some, None, Option, ◌==◌, slice_set}
use Rattle.lock.specs.declared.words.Class.{Class}
use Rattle.lock.specs.declared.words.Class.TheVariants.{Reading, Writing}
use Rattle.queue_words.specs.Records.{unused, record_at, relabelled, freed, noted, linked, keeping, filled}
use Rattle.queue_words.specs.declared.record.Record.{Record}
use Rattle.queue_words.specs.declared.record.State.{State}
use Rattle.queue_words.specs.declared.record.Successor.{Successor}
use Rattle.queue_words.specs.declared.record.Successor.TheVariants.{Nobody, Reader, Writer}
use Rattle.queue_words.specs.declared.standing.Standing.{Standing}
use Rattle.queue_words.specs.declared.standing.Standing.TheVariants.{I, W1, W2, W3, W4, W5, W6, W7, W8, WriterH, V1, V2, V3, V4, V5, V6, R1, R2, R3, R4, R5, R6, R7, R8, R9, R10, R11, R12, R13, ReaderH, E1, E2, E3, E4, E5, E6, E7, E8, E9, E10}
use Rattle.queue_words.specs.declared.words.Words.{Words}

-- what the lock keeps of slot i
abbrev pub slot : Words → ℕ → Record
slot w i = record_at w.table.slots i

-- where slot i stands
abbrev pub stands_at : Words → ℕ → Standing
stands_at w i = (slot w i).standing

-- slot k's record is written
abbrev pub put : Words → ℕ → Record → Words
put w k r = record { tail = w.tail; next_writer = w.next_writer; reader_count = w.reader_count; table = record { slots = slice_set w.table.slots k r } }

-- slot i stands elsewhere, and no word is written
abbrev pub stand : Words → ℕ → Standing → Words
stand w i s = put w i (relabelled (slot w i) s)

-- the tail is written
abbrev pub with_tail : Words → Option ℕ → Words
with_tail w t = record { tail = t; next_writer = w.next_writer; reader_count = w.reader_count; table = w.table }

-- the next writer is written
abbrev pub name : Words → Option ℕ → Words
name w n = record { tail = w.tail; next_writer = n; reader_count = w.reader_count; table = w.table }

-- the reader count is written
abbrev pub with_count : Words → ℕ → Words
with_count w c = record { tail = w.tail; next_writer = w.next_writer; reader_count = c; table = w.table }

-- a slot's blocked goes off
abbrev pub unblock : Words → Option ℕ → Words
unblock w None = w
unblock w (Some k) = put w k (freed (slot w k))

-- a slot's successor class is written
abbrev pub note : Words → Option ℕ → Successor → Words
note w None s = w
note w (Some k) s = put w k (noted (slot w k) s)

-- a slot's next is written
abbrev pub link : Words → Option ℕ → ℕ → Words
link w None n = w
link w (Some k) n = put w k (linked (slot w k) n)

abbrev pub is_none : Option ℕ → Bool
is_none None = true
is_none (Some x) = false

-- it is slot i
abbrev pub is_slot : ℕ → Option ℕ → Bool
is_slot i None = false
is_slot i (Some x) = x == i

abbrev pub is_reader : Successor → Bool
is_reader Nobody = false
is_reader Reader = true
is_reader Writer = false

abbrev pub is_writer : Successor → Bool
is_writer Nobody = false
is_writer Reader = false
is_writer Writer = true

-- the slot behind is of the class that is asked for
abbrev pub is_behind : Successor → Successor → Bool
is_behind Nobody s = cond (is_reader s) false (cond (is_writer s) false true)
is_behind Reader s = is_reader s
is_behind Writer s = is_writer s

-- the whole state word is (blocked, none)
abbrev pub is_blocked_alone : State → Bool
is_blocked_alone s = cond s.blocked (cond (is_reader s.successor) false (cond (is_writer s.successor) false true)) false

abbrev pub by_class : Class → Standing → Standing → Standing
by_class Reading at other = at
by_class Writing other at = at

-- the class of a slot
abbrev pub class_at : Words → Option ℕ → Class
class_at w None = Reading
class_at w (Some k) = (slot w k).class

-- the slot fills its record and swaps the tail for itself into pred; whether the tail was none decides where it stands
abbrev pub swap_tail : Words → ℕ → Class → Standing → Standing → Words
swap_tail w i c none else = with_tail (put w i (filled (slot w i) (cond (is_none w.tail) none else) c w.tail)) (Some i)

-- none is stored in the tail if that is slot i
abbrev pub release_tail : Words → ℕ → Standing → Standing → Words
release_tail w i done else = cond (is_slot i w.tail) (with_tail (stand w i done) None) (stand w i else)

-- one reader more, as a word of 32 bits
abbrev pub count_in : Words → ℕ → Standing → Words
count_in w i s = with_count (stand w i s) ((w.reader_count + 1) % 2 ^ 32)

-- one reader less, as a word of 32 bits; whether it was the last decides where the slot stands
abbrev pub count_out : Words → ℕ → Standing → Standing → Words
count_out w i last else = with_count (stand w i (cond (w.reader_count == 1) last else)) ((w.reader_count + (2 ^ 32 - 1)) % 2 ^ 32)

-- reader is stored as successor class if the slot's whole state is (blocked, none)
abbrev pub note_if_alone : Words → ℕ → Option ℕ → Standing → Standing → Words
note_if_alone w i None done else = stand w i else
note_if_alone w i (Some p) done else = cond (is_blocked_alone (slot w p).state) (note (stand w i done) (Some p) Reader) (stand w i else)

-- the next writer goes into the register w
abbrev pub keep_next_writer : Words → ℕ → Standing → Standing → Words
keep_next_writer w i none else = put w i (keeping (relabelled (slot w i) (cond (is_none w.next_writer) none else)) w.next_writer)

-- none is stored as next writer if that is x
abbrev pub take_if_named : Words → ℕ → Option ℕ → Standing → Standing → Words
take_if_named w i None done else = stand w i else
take_if_named w i (Some x) done else = cond (is_slot x w.next_writer) (name (stand w i done) None) (stand w i else)

-- the words after one access of slot i, by where it stands
abbrev pub stepped_at : Standing → Words → ℕ → Words
stepped_at I w i = w
stepped_at W1 w i = swap_tail w i Writing W2 W6
stepped_at W2 w i = name (stand w i W3) (Some i)
stepped_at W3 w i = stand w i (cond (w.reader_count == 0) W4 W8)
stepped_at W4 w i = name (stand w i (cond (is_slot i w.next_writer) W5 W8)) None
stepped_at W5 w i = unblock (stand w i W8) (Some i)
stepped_at W6 w i = note (stand w i W7) (slot w i).pred Writer
stepped_at W7 w i = link (stand w i W8) (slot w i).pred i
stepped_at W8 w i = stand w i (cond (slot w i).state.blocked W8 WriterH)
stepped_at WriterH w i = w
stepped_at V1 w i = stand w i (cond (is_none (slot w i).next) V2 V3)
stepped_at V2 w i = release_tail w i I V3
stepped_at V3 w i = stand w i (cond (is_none (slot w i).next) V3 V4)
stepped_at V4 w i = stand w i (by_class (class_at w (slot w i).next) V5 V6)
stepped_at V5 w i = count_in w i V6
stepped_at V6 w i = unblock (stand w i I) (slot w i).next
stepped_at R1 w i = swap_tail w i Reading R2 R3
stepped_at R2 w i = count_in w i R9
stepped_at R3 w i = stand w i (by_class (class_at w (slot w i).pred) R4 R5)
stepped_at R4 w i = note_if_alone w i (slot w i).pred R5 R7
stepped_at R5 w i = link (stand w i R6) (slot w i).pred i
stepped_at R6 w i = stand w i (cond (slot w i).state.blocked R6 R10)
stepped_at R7 w i = count_in w i R8
stepped_at R8 w i = link (stand w i R9) (slot w i).pred i
stepped_at R9 w i = unblock (stand w i R10) (Some i)
stepped_at R10 w i = stand w i (cond (is_reader (slot w i).state.successor) R11 ReaderH)
stepped_at R11 w i = stand w i (cond (is_none (slot w i).next) R11 R12)
stepped_at R12 w i = count_in w i R13
stepped_at R13 w i = unblock (stand w i ReaderH) (slot w i).next
stepped_at ReaderH w i = w
stepped_at E1 w i = stand w i (cond (is_none (slot w i).next) E2 E3)
stepped_at E2 w i = release_tail w i E6 E3
stepped_at E3 w i = stand w i (cond (is_none (slot w i).next) E3 E4)
stepped_at E4 w i = stand w i (cond (is_writer (slot w i).state.successor) E5 E6)
stepped_at E5 w i = name (stand w i E6) (slot w i).next
stepped_at E6 w i = count_out w i E7 I
stepped_at E7 w i = keep_next_writer w i I E8
stepped_at E8 w i = stand w i (cond (w.reader_count == 0) E9 I)
stepped_at E9 w i = take_if_named w i (slot w i).w E10 I
stepped_at E10 w i = unblock (stand w i I) (slot w i).w

-- the words after one access of slot i
abbrev pub stepped : Words → ℕ → Words
stepped w i = stepped_at (stands_at w i) w i

-- a call takes an idle slot to W1 or R1, by its class; it writes no word
abbrev pub called_standing : Standing → Class → Standing
called_standing I Reading = R1
called_standing I Writing = W1
called_standing W1 c = W1
called_standing W2 c = W2
called_standing W3 c = W3
called_standing W4 c = W4
called_standing W5 c = W5
called_standing W6 c = W6
called_standing W7 c = W7
called_standing W8 c = W8
called_standing WriterH c = WriterH
called_standing V1 c = V1
called_standing V2 c = V2
called_standing V3 c = V3
called_standing V4 c = V4
called_standing V5 c = V5
called_standing V6 c = V6
called_standing R1 c = R1
called_standing R2 c = R2
called_standing R3 c = R3
called_standing R4 c = R4
called_standing R5 c = R5
called_standing R6 c = R6
called_standing R7 c = R7
called_standing R8 c = R8
called_standing R9 c = R9
called_standing R10 c = R10
called_standing R11 c = R11
called_standing R12 c = R12
called_standing R13 c = R13
called_standing ReaderH c = ReaderH
called_standing E1 c = E1
called_standing E2 c = E2
called_standing E3 c = E3
called_standing E4 c = E4
called_standing E5 c = E5
called_standing E6 c = E6
called_standing E7 c = E7
called_standing E8 c = E8
called_standing E9 c = E9
called_standing E10 c = E10

-- a finish takes a holding reader to E1 and a holding writer to V1; it writes no word
abbrev pub finished_standing : Standing → Standing
finished_standing I = I
finished_standing W1 = W1
finished_standing W2 = W2
finished_standing W3 = W3
finished_standing W4 = W4
finished_standing W5 = W5
finished_standing W6 = W6
finished_standing W7 = W7
finished_standing W8 = W8
finished_standing WriterH = V1
finished_standing V1 = V1
finished_standing V2 = V2
finished_standing V3 = V3
finished_standing V4 = V4
finished_standing V5 = V5
finished_standing V6 = V6
finished_standing R1 = R1
finished_standing R2 = R2
finished_standing R3 = R3
finished_standing R4 = R4
finished_standing R5 = R5
finished_standing R6 = R6
finished_standing R7 = R7
finished_standing R8 = R8
finished_standing R9 = R9
finished_standing R10 = R10
finished_standing R11 = R11
finished_standing R12 = R12
finished_standing R13 = R13
finished_standing ReaderH = E1
finished_standing E1 = E1
finished_standing E2 = E2
finished_standing E3 = E3
finished_standing E4 = E4
finished_standing E5 = E5
finished_standing E6 = E6
finished_standing E7 = E7
finished_standing E8 = E8
finished_standing E9 = E9
finished_standing E10 = E10

-- the words after a call of slot i
abbrev pub called : Words → ℕ → Class → Words
called w i c = stand w i (called_standing (stands_at w i) c)

-- the words after a finish of slot i
abbrev pub finished : Words → ℕ → Words
finished w i = stand w i (finished_standing (stands_at w i))

-- fresh words: no tail, no next writer, no reader counted, every slot idle
abbrev pub fresh_words : Words
fresh_words = record { tail = None; next_writer = None; reader_count = 0; table = record { slots = replicate 32 unused } }
