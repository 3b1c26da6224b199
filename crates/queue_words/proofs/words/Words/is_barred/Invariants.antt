use Rattle.std.proofs.Common.{◌≡◌, false}
use Rattle.queue_words.specs.Bar.{asks_for, some_below}
use Rattle.queue_words.proofs.words.Words.is_barred.Given as goal

abbrev pub invariant-loop-other : goal.invariant-loop-other
invariant-loop-other l = some_below (asks_for l.self l.slot) l.other ≡ false
