-- The rows of the job table.
use Rattle.std.specs.Prelude.{◌≢◌, ℕ, ◌+◌, ◌<◌, true, false, List, None, Option, slice_index_or}
use Rattle.std.specs.Option.{ForSome}
use Rattle.lock.specs.declared.words.Class.{Class}
use Rattle.lock.specs.declared.words.Phase.{Phase}
use Rattle.lock.specs.declared.words.Phase.TheVariants.{Idle}
use Rattle.range.specs.Limits.{Inside}
use Rattle.stepper.specs.declared.job.Job.{Job}

-- a job as it is accepted
abbrev pub new_job : ℕ → Class → ℕ → ℕ → Job
new_job number c f n = record { number = number; class = c; first = f; count = n; done = 0; joined = false }

-- the job of slot i, if it has one
abbrev pub row_of : List (Option Job) → ℕ → Option Job
row_of jobs i = slice_index_or jobs i None

-- its next place's given is joined
abbrev pub with_joined : Job → Job
with_joined j = record j { joined = true }

-- one more of its places is done
abbrev pub next_place : Job → Job
next_place j = record j { done = j.done + 1; joined = false }

-- a job's places lie inside the book, and one of them is next
abbrev pub Sound : ℕ → Job → Type 0
Sound places j = Inside places j.first j.count × (j.done < j.count)

-- so it is of every job
abbrev pub AllSound : ℕ → List (Option Job) → Type 0
AllSound places jobs = (i : ℕ) → ForSome (row_of jobs i) (Sound places)

-- a slot that is not idle has a job
abbrev pub AllTaken : (ℕ → Phase) → List (Option Job) → Type 0
AllTaken phase jobs = (i : ℕ) → (phase i ≢ Idle) → row_of jobs i ≢ None
