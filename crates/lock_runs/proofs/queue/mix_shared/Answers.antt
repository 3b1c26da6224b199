use Rattle.lock_runs.proofs.QueueSums.{sum_begins}
use Rattle.lock_runs.proofs.queue.mix_shared.Goals as goal

pub returns : goal.returns
returns c = let b = sum_begins c.args.words.now in cc
