-- What ties the words to the line.
use Rattle.std.specs.Prelude.{◌≡◌, ℕ, ◌+◌, ◌≤◌, List, length}
use Rattle.ticket_lock.specs.Order.{times, adv, reads, writes, readers_ahead, writers_ahead}
use Rattle.ticket_words.specs.Counting.{lower, upper}
use Rattle.ticket_words.specs.Steps.{stands_at, kept_by}
use Rattle.ticket_words.specs.declared.standing.Standing.{Standing}
use Rattle.ticket_words.specs.declared.standing.Standing.TheVariants.{I, T1, T2, T3, T4, T5, T6, ReaderH, WriterH}
use Rattle.ticket_words.specs.declared.words.Words.{Words}

-- a word that is ahead of the completions by so many readers and writers
abbrev pub Ahead : ℕ → ℕ → ℕ → ℕ → Type 0
Ahead word completions readers writers = (lower word ≡ adv (lower completions) writers) × (upper word ≡ adv (upper completions) readers)

-- what a slot has kept, by where it stands, with so many readers and writers ahead of it:
-- a waiting reader the writers' half, a waiting writer both; a holding slot has nobody ahead that it excludes
abbrev pub Fits : Standing → ℕ → ℕ → ℕ → ℕ → Type 0
Fits I k completions readers writers = Unit {0}
Fits T1 k completions readers writers = Unit {0}
Fits T2 k completions readers writers = k ≡ adv (lower completions) writers
Fits T3 k completions readers writers = Unit {0}
Fits T4 k completions readers writers = Unit {0}
Fits T5 k completions readers writers = Ahead k completions readers writers
Fits T6 k completions readers writers = Unit {0}
Fits ReaderH k completions readers writers = writers ≡ 0
Fits WriterH k completions readers writers = (writers ≡ 0) × (readers ≡ 0)

-- where the slots stand (a), what they have kept (k), the requests (r) and the completions (c), with the line (l)
pub record Sound (a : ℕ → Standing) (k : ℕ → ℕ) (r c : ℕ) (l : List ℕ) : Type 0 where
  -- past the last slot nobody stands
  pub off : (i : ℕ) → 32 ≤ i → a i ≡ I
  -- in line stand, each once, exactly the slots that wait or hold
  pub lined : (i : ℕ) → times i l ≡ reads (a i) + writes (a i)
  -- the requests are ahead by all that leave or stand in line: those before slot 32, which there is not
  pub requested : Ahead r c (readers_ahead a l 32) (writers_ahead a l 32)
  -- what each slot has kept fits where it stands
  pub fits : (i : ℕ) → Fits (a i) (k i) c (readers_ahead a l i) (writers_ahead a l i)

-- the table has a place for each of the 32 slots
abbrev pub Full : Words → Type 0
Full w = length w.table.slots ≡ 32

-- the invariant of the words and the line
pub record Keeps (w : Words) (l : List ℕ) : Type 0 where
  pub full : Full w
  pub sound : Sound (stands_at w) (kept_by w) w.requests w.completions l
