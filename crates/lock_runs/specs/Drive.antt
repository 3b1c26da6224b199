-- What the driver has a slot do.
use Rattle.std.specs.Prelude.{ℕ, ◌+◌, ◌/◌, ◌%◌, cond, ◌==◌}
use Rattle.lock.specs.declared.meaning.Lock as lock
use Rattle.lock.specs.declared.words.Class.{Class}
use Rattle.lock.specs.declared.words.Class.TheVariants.{Reading, Writing}
use Rattle.lock.specs.declared.words.Phase.{Phase}
use Rattle.lock.specs.declared.words.Phase.TheVariants.{Idle, Called, Waits, Holds, Leaves}
use Rattle.lock_runs.specs.Acts.{Acted}
use Rattle.lock_runs.specs.declared.act.Act.{Act}
use Rattle.lock_runs.specs.declared.act.Act.TheVariants.{Call, Step, Finish}

-- an idle slot calls, one that holds finishes, and any other steps
abbrev pub next_act : Phase → Class → Act
next_act Idle class = Call class
next_act Called class = Step
next_act Waits class = Step
next_act Holds class = Finish
next_act Leaves class = Step

-- in every fourth round the slots call for writing
abbrev pub class_in : ℕ → Class
class_in round = cond (round % 4 == 0) Writing Reading

-- what n operations make of lock s: operation n is of slot n mod slots
pub data Driven {L Label : Type 0} (k : lock.Ghosts L Label) (slots : ℕ) (s : L) : ℕ → L → Type 0 where
  none : Driven k slots s 0 s
  more : (n : ℕ) (t u : L) → Driven k slots s n t → Acted k t (n % slots) (next_act (k.phases t (n % slots)) (class_in (n / slots))) u → Driven k slots s (n + 1) u
