use Rattle.sheet_text.proofs.Forms.{no_form_here, no_form_named, form_from_args}
use Rattle.sheet_text.proofs.read.form.Goals as goal

pub returns-in_err-rest : goal.returns-in_err-rest
returns-in_err-rest c = rw c.from_residual.ensures (no_form_here _ c.in_err-rest.ensures)

pub returns-in_err-w : goal.returns-in_err-w
returns-in_err-w c =
    rw c.from_residual-in_err-w.ensures (no_form_named _ _ c.in_ok-rest.ensures c.in_err-w.ensures)

pub returns : goal.returns
returns c =
    form_from_args _ _ _ _ _ c.in_ok-rest.ensures c.in_ok-w.ensures c.args_of.ensures
