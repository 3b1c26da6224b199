use Rattle.sheets.proofs.Went.{went}
use Rattle.sheets.proofs.state.Sheet.run_line.Goals as goal

pub returns-in_ok-n-in-Ok : goal.returns-in_ok-n-in-Ok
returns-in_ok-n-in-Ok c =
    went c.args.self.now _ c.args.line.now c.args.out.now _ c.in-Ok.form c.answer_to.result c.in_ok-n-in-Ok.n c.in-Ok.ensures (c.answer_to.ensures c.args.self.now) c.in_ok-n-in-Ok.ensures c.accept.ensures
