use Rattle.std.proofs.Common.{take, string_bytes}
use Rattle.lock_runs.specs.Traces.{Traced}
use Rattle.lock_runs.proofs.trace.trace.Given as goal

-- the lines so far have been traced
abbrev pub invariant-loop-line : goal.invariant-loop-line
invariant-loop-line g l = Traced g.L.Lock g.L.Shown.shows l.initial.lock (take l.line-index l.lines) (string_bytes l.out) l.lock
