use Rattle.std.proofs.Common.{rules, arith}
use Rattle.std.proofs.lemmas.Grind.{common_steps}
use Rattle.sheets.proofs.Printing.{answered, faulted, one_line_more, last_line, at_sheets_end}
use Rattle.sheets.proofs.Splits.{first_cut}
use Rattle.sheets.proofs.run.run_lines.Goals as goal

pub loop-line-preserved : goal.loop-line-preserved
loop-line-preserved c =
    let s = c.in-Some.ensures.steps in
    let cut = first_cut _ _ _ _ _ _ s.0 s.1 (λ h a r h' called. search rules) in
    one_line_more _ _ c.loop-line.invariant s.2 cut.0 cut.1
    (answered c.loop-line.run _ _ c.loop-line.buffer c.run_line.new.out _ _ c.in-Continue.is c.in-Ok.ensures)
    (grind (arith, common_steps))

pub returns-in-Break : goal.returns-in-Break
returns-in-Break c =
    let s = c.in-Some.ensures.steps in
    let cut = first_cut _ _ _ _ _ _ s.0 s.1 (λ h a r h' called. search rules) in
    last_line _ c.loop-line.invariant s.2 cut.0
    (faulted c.loop-line.run _ _ c.loop-line.buffer c.run_line.new.out _ _ c.in-Break.is c.in-Ok.ensures)
    (grind (arith, common_steps))

pub returns : goal.returns
returns c = at_sheets_end _ _ _ _ c.loop-line.invariant c.in-None.ensures.steps.0
