use Rattle.std.proofs.Common.{◌≡◌}
use Rattle.lock_runs.specs.Queue.{mixed_to}
use Rattle.lock_runs.proofs.queue.QueueLockShown.checksum.Given as goal

abbrev pub invariant-loop-slot : goal.invariant-loop-slot
invariant-loop-slot l = l.sum ≡ mixed_to l.words l.slot
