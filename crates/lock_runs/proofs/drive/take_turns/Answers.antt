use Rattle.std.proofs.Common.{subst}
use Rattle.lock_runs.specs.Acts.{Acted}
use Rattle.lock_runs.specs.Drive.{next_act}
use Rattle.lock_runs.proofs.Turns.{turned}
use Rattle.lock_runs.proofs.drive.take_turns.Goals as goal

pub loop-index-preserved : goal.loop-index-preserved
loop-index-preserved g c = λ s d.
    let i = c.in-Some.ensures in
    let a = subst (λ x. Acted g.L.Lock c.loop-index.lock x (next_act (g.L.Lock.phases c.loop-index.lock x) c.class_in-class.result) c.turn.new.lock) i.0 c.turn.ensures in
    turned g.L.Lock s c.loop-index.lock c.turn.new.lock c.args.round c.args.slots.count c.loop-index.index c.class_in-class.result i.1 c.class_in-class.ensures (c.loop-index.invariant s d) a
