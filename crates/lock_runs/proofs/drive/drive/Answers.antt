use Rattle.std.proofs.Common.{sym, subst, zero-mul}
use Rattle.lock_runs.specs.Drive.{Driven, none}
use Rattle.lock_runs.proofs.drive.drive.Goals as goal

pub loop-round-init : goal.loop-round-init
loop-round-init g c = subst (λ n. Driven g.L.Lock c.args.slots.count c.args.lock.now n c.args.lock.now) (sym (zero-mul c.args.slots.count)) none
