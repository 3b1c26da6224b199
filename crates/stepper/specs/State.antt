-- An open book together with the lists that are lent to its calls.
use Rattle.std.specs.Prelude.{ℕ, List, Option}
use Rattle.lock.specs.declared.meaning.Lock as lock
use Rattle.stepper.specs.declared.job.Job.{Job}
use Rattle.stepper.specs.declared.open.OpenBook.{OpenBook}

-- jobs has a row for each slot; book, rows and givens are the lent lists
pub record State (L H G : Type 0) : Type 0 where
  pub slots : ℕ
  pub places : ℕ
  pub accepted : ℕ
  pub jobs : List (Option Job)
  pub lock : L
  pub book : List H
  pub rows : List H
  pub givens : List G

-- of an open book and the three lists
abbrev pub state : {L Label H G : Type 0} {k : lock.Ghosts L Label} → OpenBook L Label k → List H → List H → List G → State L H G
state o b r g = record { slots = o.slots.count; places = o.bare.places; accepted = o.accepted; jobs = o.jobs.slots; lock = o.lock; book = b; rows = r; givens = g }
