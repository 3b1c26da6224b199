use Rattle.std.proofs.Common.{◌*◌}
use Rattle.lock_runs.specs.Drive.{Driven}
use Rattle.lock_runs.proofs.drive.drive.Given as goal

-- as many operations have been done as the rounds have
abbrev pub invariant-loop-round : goal.invariant-loop-round
invariant-loop-round g l = Driven g.L.Lock l.slots.count l.initial.lock (l.round * l.slots.count) l.lock
