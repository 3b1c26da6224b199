use Rattle.std.proofs.Common.{sym}
use Rattle.std.proofs.lemmas.Result.{err_from_is_err_and}
use Rattle.sheets.specs.Lines.{malformed, refused, accepted}
use Rattle.sheets.proofs.state.Sheet.judge.Goals as goal

pub returns-in_err-form : goal.returns-in_err-form
returns-in_err-form c =
    let same = err_from_is_err_and c.from_residual.result c.from_residual.ensures.1 in
    rw (same.1, same.2, c.in_err-form.ensures.0) (malformed c.in_err-form.ensures.1)

pub returns-in_err-check : goal.returns-in_err-check
returns-in_err-check c =
    let same = err_from_is_err_and c.from_residual-in_err-check.result c.from_residual-in_err-check.ensures.1 in
    let told = c.in_ok-form.ensures in
    rw (same.1, same.2) (refused c.in_ok-form.form _ told.0 told.1 (sym c.in_err-check.ensures))

pub returns : goal.returns
returns c = let told = c.in_ok-form.ensures in accepted c.in_ok-form.form told.0 told.1 (sym c.in_ok-check.ensures)
