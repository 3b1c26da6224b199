use Rattle.std.proofs.Common.{arith}
use Rattle.std.proofs.lemmas.Bool.Decides.{nat_tests}
use Rattle.sheet_text.proofs.Runs.{not_decimal_nil, not_decimal_lead, number_read, text_of_digits}
use Rattle.sheet_text.proofs.scan.value.Goals as goal

pub returns-in-empty : goal.returns-in-empty
returns-in-empty c = not_decimal_nil _ (omega arith)

pub returns-in-empty-2 : goal.returns-in-empty-2
returns-in-empty-2 c = not_decimal_lead _ (omega arith) (omega arith)

pub returns-in_err-ok-in_default : goal.returns-in_err-ok-in_default
returns-in_err-ok-in_default c =
    absurd (text_of_digits _ _ c.from_utf8.result c.ok.result _ c.requires c.ok.ensures.value c.from_utf8.ensures.cases c.in_err-ok-in_default.was)

pub returns-in_ok-ok-in_default : goal.returns-in_ok-ok-in_default
returns-in_ok-ok-in_default c =
    let same = text_of_digits _ _ c.from_utf8.result c.ok.result _ c.requires c.ok.ensures.value c.from_utf8.ensures.cases c.in_ok-ok-in_default.was in
    number_read _ _ c.parse.result _ c.ok-in_default.ensures.value same c.requires (λ z. grind (arith, nat_tests)) (λ z. grind (arith, nat_tests)) c.parse.ensures.value.0
