use Rattle.lock_runs.proofs.QueueSums.{sum_more}
use Rattle.lock_runs.proofs.queue.QueueLockShown.checksum.Goals as goal

pub loop-slot-preserved : goal.loop-slot-preserved
loop-slot-preserved c = let b = sum_more c.words-words.result c.loop-slot.slot in cc
