use Rattle.std.proofs.Common.{string_bytes}
use Rattle.lock_runs.proofs.Traces.{begins, goes}
use Rattle.lock_runs.proofs.trace.trace.Goals as goal

pub loop-line-init : goal.loop-line-init
loop-line-init g c = begins g.L.Lock g.L.Shown.shows c.fresh-lock.result _ c.new-out.ensures.bytes

pub loop-line-preserved : goal.loop-line-preserved
loop-line-preserved g c =
    let told = c.in_ok-trace_line.ensures in
    goes g.L.Lock g.L.Shown.shows c.fresh-lock.result c.loop-line.lock c.trace_line.new.lock c.args.lines.now c.loop-line.line-index c.line-item.result (string_bytes c.loop-line.out) (string_bytes c.trace_line.new.out) c.loop-line-test.true c.line-item.is c.loop-line.invariant told.left told.out
