use Rattle.std.proofs.Common.{rules}
use Rattle.sheet_text.proofs.Steps.{closes_where}
use Rattle.sheet_text.proofs.cursor.Cursor.closes.Goals as goal

pub returns : goal.returns
returns c = closes_where c.args.self c.past.result c.and_then.result _ c.past.ensures (search rules) (search rules)
