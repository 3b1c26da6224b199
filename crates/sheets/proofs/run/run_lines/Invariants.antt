use Rattle.std.proofs.Common.{vec_items}
use Rattle.std.specs.Slice.Iter.{split_inclusive_rest}
use Rattle.sheets.proofs.Printing.{Sofar}
use Rattle.sheets.proofs.run.run_lines.Given as goal

abbrev pub invariant-loop-line : goal.invariant-loop-line
invariant-loop-line l = Sofar l.sheet (split_inclusive_rest l.line-iterator) (vec_items l.out) l.run
