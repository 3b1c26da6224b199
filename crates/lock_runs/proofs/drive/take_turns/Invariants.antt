use Rattle.std.proofs.Common.{◌+◌, ◌*◌}
use Rattle.lock_runs.specs.Drive.{Driven}
use Rattle.lock_runs.proofs.drive.take_turns.Given as goal

-- the slots below the index have taken their turns
abbrev pub invariant-loop-index : goal.invariant-loop-index
invariant-loop-index g l =
    (s : _) → Driven g.L.Lock l.slots.count s (l.round * l.slots.count) l.initial.lock → Driven g.L.Lock l.slots.count s (l.round * l.slots.count + l.index) l.lock
