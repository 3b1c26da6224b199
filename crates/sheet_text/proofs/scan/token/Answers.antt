use Rattle.std.proofs.Common.{arith}
use Rattle.std.proofs.lemmas.Bool.Decides.{nat_tests}
use Rattle.sheet_text.proofs.Cuts.{no_cut_number, no_cut_at}
use Rattle.sheet_text.proofs.scan.token.Goals as goal

pub returns-in_err-value-in-48-to-57 : goal.returns-in_err-value-in-48-to-57
returns-in_err-value-in-48-to-57 c =
    let told = c.run.ensures in
    rw c.from_residual.ensures (no_cut_number _ _ _ (grind (arith, nat_tests)) told.whole told.all told.stops c.in_err-value-in-48-to-57.ensures)

pub returns-in_default : goal.returns-in_default
returns-in_default c = no_cut_at _ (λ some. record { opens = λ e. grind (arith, nat_tests); closes = λ e. grind (arith, nat_tests); ends = λ e. grind (arith, nat_tests); digit = λ i. grind (arith, nat_tests); letter = λ i. grind (arith, nat_tests) })
