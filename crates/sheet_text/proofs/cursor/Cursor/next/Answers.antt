use Rattle.std.proofs.Common.{refl, ◌∙◌, arith}
use Rattle.std.proofs.lemmas.List.{take_rest}
use Rattle.sheet_text.proofs.Steps.{none_past_end, none_here, walked}
use Rattle.sheet_text.proofs.cursor.Cursor.next.Goals as goal

pub returns-in_err-left : goal.returns-in_err-left
returns-in_err-left c = rw c.from_residual.ensures (none_past_end _ (grind arith))

pub returns-in_err-t : goal.returns-in_err-t
returns-in_err-t c =
    rw c.from_residual-in_err-t.ensures (none_here c.args.self _ (c.in_ok-left.ensures.lookup.0.2 ∙ take_rest c.args.self.line.now c.args.self.at) c.in_err-t.ensures)

pub returns : goal.returns
returns c =
    walked c.args.self _ _ _ _ (c.in_ok-left.ensures.lookup.0.2 ∙ take_rest c.args.self.line.now c.args.self.at) c.in_ok-left.ensures.lookup.0.0 c.in_ok-t.ensures refl refl c.is_open.ensures
