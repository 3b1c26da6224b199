-- What is printed of a phase.
use Rattle.std.specs.Prelude.{ℕ, List, codes}
use Rattle.lock.specs.declared.words.Phase.{Phase}
use Rattle.lock.specs.declared.words.Phase.TheVariants.{Idle, Called, Waits, Holds, Leaves}

abbrev pub phase_text : Phase → List ℕ
phase_text Idle = codes "idle"
phase_text Called = codes "called"
phase_text Waits = codes "waits"
phase_text Holds = codes "holds"
phase_text Leaves = codes "leaves"
