use Rattle.std.proofs.Common.{arith}
use Rattle.sheet_text.specs.Parts.{word}
use Rattle.sheet_text.proofs.Steps.{other_part}
use Rattle.sheet_text.proofs.cursor.Cursor.word.Goals as goal

pub returns-in_err-w : goal.returns-in_err-w
returns-in_err-w c = rw c.from_residual.ensures (λ w. c.in_err-w.ensures (word w))

pub returns-in_default : goal.returns-in_default
returns-in_default c = λ w. other_part _ _ _ (word w) c.in_ok-w.ensures.0 (λ e. grind arith)
