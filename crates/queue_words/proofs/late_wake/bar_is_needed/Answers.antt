use Rattle.std.proofs.Common.{refl}
use Rattle.queue_words.specs.Bar.{some_below}
use Rattle.queue_words.proofs.late_wake.bar_is_needed.Goals as goal

pub returns : goal.returns
unfolding some_below
returns c = record { asks = refl; reads = refl; bars = refl; still_reads = refl; writes = refl }
