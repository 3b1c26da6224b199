use Rattle.std.proofs.Common.{arith}
use Rattle.sheet_text.specs.Parts.{numeral}
use Rattle.sheet_text.proofs.Steps.{other_part}
use Rattle.sheet_text.proofs.cursor.Cursor.number.Goals as goal

pub returns-in_err-n : goal.returns-in_err-n
returns-in_err-n c = rw c.from_residual.ensures (λ n. c.in_err-n.ensures (numeral n))

pub returns-in_default : goal.returns-in_default
returns-in_default c = λ n. other_part _ _ _ (numeral n) c.in_ok-n.ensures.0 (λ e. grind arith)
