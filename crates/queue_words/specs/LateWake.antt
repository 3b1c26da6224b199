-- Why there is a bar: a run in which, without it, a writer is let in beside a reader.
use Rattle.std.specs.Prelude.{◌≡◌, ℕ, zero, suc, true, List, [], ◌∷◌, ◌++◌}
use Rattle.lock.specs.declared.words.Class.{Class}
use Rattle.lock.specs.declared.words.Class.TheVariants.{Reading, Writing}
use Rattle.queue_words.specs.Bar.{barred}
use Rattle.queue_words.specs.Steps.{stands_at, called, stepped, finished, fresh_words}
use Rattle.queue_words.specs.declared.standing.Standing.TheVariants.{E9, ReaderH, WriterH}
use Rattle.queue_words.specs.declared.words.Words.{Words}

-- what a slot does: it calls, makes so many steps, or finishes
pub data Move : Type 0 where
  calls : ℕ → Class → Move
  steps : ℕ → ℕ → Move
  finishes : ℕ → Move

-- the words after so many steps of a slot in a row
abbrev pub stepped_times : ℕ → ℕ → Words → Words
stepped_times zero i w = w
stepped_times (suc n) i w = stepped_times n i (stepped w i)

-- the words after moves, one after another, with no bar
abbrev pub moved : List Move → Words → Words
moved [] w = w
moved (calls i c ∷ ms) w = moved ms (called w i c)
moved (steps i n ∷ ms) w = moved ms (stepped_times n i w)
moved (finishes i ∷ ms) w = moved ms (finished w i)

-- slot 0 leaves, last of the readers, and stands at E9 with slot 2 as w; slot 2 holds, leaves, and reads behind slot 1, which holds still
abbrev pub before_the_call : List Move
before_the_call =
    calls 0 Reading ∷ steps 0 4 ∷ finishes 0 ∷ steps 0 2 ∷ calls 2 Writing ∷ steps 2 1 ∷ steps 0 1 ∷ steps 2 1 ∷ steps 0 2 ∷ steps 2 4 ∷ finishes 2 ∷ steps 2 2
    ∷ calls 1 Reading ∷ steps 1 1 ∷ calls 2 Reading ∷ steps 2 1 ∷ steps 1 3 ∷ steps 2 6 ∷ finishes 2 ∷ steps 2 3 ∷ []

-- slot 2 queues anew to write, and slot 0 wakes it
abbrev pub the_call_and_after : List Move
the_call_and_after = calls 2 Writing ∷ steps 2 2 ∷ steps 0 2 ∷ steps 2 2 ∷ []

-- At the call slot 1 holds as a reader, and slot 2 is barred, so that the call is refused. Were it taken, slot 2 would hold as a writer beside slot 1.
pub record BarIsNeeded : Type 0 where
  pub asks : stands_at (moved before_the_call fresh_words) 0 ≡ E9
  pub reads : stands_at (moved before_the_call fresh_words) 1 ≡ ReaderH
  pub bars : barred (moved before_the_call fresh_words) 2 ≡ true
  pub still_reads : stands_at (moved (before_the_call ++ the_call_and_after) fresh_words) 1 ≡ ReaderH
  pub writes : stands_at (moved (before_the_call ++ the_call_and_after) fresh_words) 2 ≡ WriterH
