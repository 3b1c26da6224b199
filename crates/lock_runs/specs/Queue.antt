-- What the queue lock shows.
use Rattle.std.specs.Prelude.{ℕ, zero, suc, ◌+◌, ◌%◌, Bool, true, false, List, ◌++◌, Some, None, codes, decimal, Option}
use Rattle.lock.specs.declared.words.Class.{Class}
use Rattle.lock.specs.declared.words.Class.TheVariants.{Reading, Writing}
use Rattle.lock_runs.specs.Mix.{mixed}
use Rattle.queue_lock.specs.Lock.{labels}
use Rattle.queue_words.specs.Standings.{label_text}
use Rattle.queue_words.specs.Steps.{slot}
use Rattle.queue_words.specs.declared.record.Record.{Record}
use Rattle.queue_words.specs.declared.record.Successor.{Successor}
use Rattle.queue_words.specs.declared.record.Successor.TheVariants.{Nobody, Reader, Writer}
use Rattle.queue_words.specs.declared.words.Words.{Words}

-- none is 0, and slot k is k + 1
abbrev pub slot_number : Option ℕ → ℕ
slot_number None = 0
slot_number (Some k) = k % 32 + 1

abbrev pub class_number : Class → ℕ
class_number Reading = 0
class_number Writing = 1

abbrev pub blocked_number : Bool → ℕ
blocked_number false = 0
blocked_number true = 1

abbrev pub successor_number : Successor → ℕ
successor_number Nobody = 0
successor_number Reader = 1
successor_number Writer = 2

-- a slot's record and registers mixed into a checksum
abbrev pub record_mixed : ℕ → Record → ℕ
record_mixed sum r = mixed (mixed (mixed (mixed (mixed (mixed sum (class_number r.class)) (slot_number r.next)) (blocked_number r.state.blocked)) (successor_number r.state.successor)) (slot_number r.pred)) (slot_number r.w)

-- the three shared words, and then the records of the first n slots
unfoldable pub mixed_to : Words → ℕ → ℕ
mixed_to w zero = mixed (mixed (mixed 0 (slot_number w.tail)) (slot_number w.next_writer)) w.reader_count
mixed_to w (suc n) = record_mixed (mixed_to w n) (slot w n)

abbrev pub sums : Words → ℕ
sums w = mixed_to w 32

abbrev pub shows : Words → ℕ → List ℕ
shows w i = label_text (labels w i) ++ (codes " " ++ (decimal (slot_number w.tail) ++ (codes " " ++ (decimal (slot_number w.next_writer) ++ (codes " " ++ (decimal w.reader_count ++ (codes " " ++ decimal (sums w))))))))
