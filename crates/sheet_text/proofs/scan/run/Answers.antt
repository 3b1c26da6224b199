use Rattle.std.proofs.Common.{rules}
use Rattle.std.proofs.lemmas.List.Elements.{recursion_from_All}
use Rattle.std.specs.Int.{IsInRange}
use Rattle.sheet_text.proofs.scan.run.Goals as goal

pub returns-clause-all : goal.returns-clause-all
returns-clause-all c = recursion_from_All (IsInRange c.args.low c.args.high) _ (search rules)
