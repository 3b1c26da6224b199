use Rattle.std.proofs.Common.{rules, arith}
use Rattle.std.proofs.lemmas.Bool.Decides.{nat_tests}
use Rattle.std.proofs.lemmas.List.{get_or_past}
use Rattle.sheet_text.proofs.Cuts.{starts_with, front_spaced, front_unspaced}
use Rattle.sheet_text.proofs.scan.front.Goals as goal

pub returns-in-32 : goal.returns-in-32
returns-in-32 c = rw c.if-tight.false (front_spaced _ _ _ c.token-in-32.result _ (starts_with _ 32 c.in-32.len_at_least (grind arith)) c.token-in-32.ensures (search rules))

pub returns-in_default : goal.returns-in_default
returns-in_default c = rw c.if-tight.false (front_unspaced _ _ c.token-in_default.result _ (λ e. grind (arith, nat_tests, get_or_past)) c.token-in_default.ensures (search rules))
