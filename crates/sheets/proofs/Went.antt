-- A line that was accepted and printed.
use Rattle.std.proofs.Common.{◌≡◌, ℕ, ◌≤◌, List, ◌++◌, length, drop, Ok, Continue, ap, ◌∙◌}
use Rattle.sheet_print.specs.Shown.{shown}
use Rattle.sheet_print.specs.declared.answer.Answer.{Answer}
use Rattle.sheet_text.specs.declared.form.Form.{Form}
use Rattle.sheets.specs.declared.state.Sheet.{Sheet}
use Rattle.sheets.specs.Lines.{Judged, RunsLine, after, answer}

pub went : (s s' : Sheet) (line out out' : List ℕ) (f : Form) (a : Answer) (n : ℕ) → Judged s line (Ok f) → a ≡ answer s (Ok f) → (2048 ≤ length out) × (n ≡ length (shown a)) × (out' ≡ shown a ++ drop n out) → s' ≡ after s (Ok f) → RunsLine s line out (Ok (Continue n)) s' out'
went s s' line out out' f a n judged same told left =
    let long : n ≡ length (shown (answer s (Ok f))) = told.1 ∙ ap (λ (x : Answer). length (shown x)) same in
    (told.0, (Ok f, judged, ap Continue long, left, told.2 ∙ (λ i. shown (same i) ++ drop (long i) out)))
