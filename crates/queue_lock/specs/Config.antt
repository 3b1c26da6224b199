-- A configuration: the words by slot, and the line beside them.
use Rattle.std.specs.Prelude.{◌≡◌, length, ℕ, cond, List, Option, ◌==◌}
use Rattle.queue_words.specs.Steps.{slot}
use Rattle.queue_words.specs.declared.record.Record.{Record}
use Rattle.queue_words.specs.declared.words.Words.{Words}

-- a slot that there is not has an unused record, so that no clause asks for the range of a slot
pub record Config : Type 0 where
  pub at : ℕ → Record
  pub tail : Option ℕ
  pub next_writer : Option ℕ
  pub reader_count : ℕ
  pub line : List ℕ

-- the configuration of a lock's words and its line
abbrev pub config : Words → List ℕ → Config
config w line = record { at = slot w; tail = w.tail; next_writer = w.next_writer; reader_count = w.reader_count; line = line }

-- one slot's record changed
abbrev pub upd : (ℕ → Record) → ℕ → Record → ℕ → Record
upd f i e j = cond (j == i) e (f j)

-- the table has a record for each of the 32 slots
abbrev pub Full : Words → Type 0
Full w = length w.table.slots ≡ 32
