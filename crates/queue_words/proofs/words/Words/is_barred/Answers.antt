use Rattle.std.proofs.Common.{sym, ◌∙◌}
use Rattle.queue_words.proofs.Some.{some_at, none_more, none_yet}
use Rattle.queue_words.specs.Bar.{asks_for}
use Rattle.queue_words.proofs.words.Words.is_barred.Goals as goal

pub returns-then-asks_for : goal.returns-then-asks_for
returns-then-asks_for c = sym (some_at (asks_for c.args.self.now c.args.slot) 32 c.loop-other.other c.loop-other-test.true (sym c.if-asks_for.ensures))

pub loop-other-preserved : goal.loop-other-preserved
loop-other-preserved c = none_more (asks_for c.args.self.now c.args.slot) c.loop-other.other c.loop-other.invariant (sym c.asks_for.ensures ∙ c.if-asks_for.false)

pub loop-other-init : goal.loop-other-init
loop-other-init c = none_yet (asks_for c.args.self.now c.args.slot)
