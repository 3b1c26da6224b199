-- What is printed as a run goes from line to line.
use Rattle.std.proofs.Common.{◌≡◌, ℕ, ◌≤◌, List, [], ◌∷◌, ◌++◌, length, take, drop, Ok, Err, ControlFlow, Continue, Break, sym, ap, ◌∙◌, subst, append_assoc, append-nil, arith}
use Rattle.refusal.specs.declared.reason.Refusal.{Refusal}
use Rattle.sheet_print.specs.Shown.{shown}
use Rattle.sheet_text.specs.declared.form.Form.{Form}
use Rattle.std.proofs.lemmas.List.{take_at}
use Rattle.sheets.specs.declared.state.Sheet.{Sheet}
use Rattle.sheets.specs.Lines.{fresh, Judged, RunsLine, after, answer}
use Rattle.sheets.specs.Sheets.{PrintsLines, end, goes, fault, first_line, later_lines}

-- the first bytes of the output are what was put at its front
front : (w o out : List ℕ) (n : ℕ) → n ≡ length w → out ≡ w ++ drop n o → take n out ≡ w
front w o out n long e = ap (take n) e ∙ take_at w (drop n o) n (sym long)

-- an answered line was accepted, and its answer is printed
pub record Went (s : Sheet) (line : List ℕ) (n : ℕ) (s' : Sheet) (out : List ℕ) : Type 0 where
  pub form : Form
  pub judged : Judged s line (Ok form)
  pub left : s' ≡ after s (Ok form)
  pub printed : take n out ≡ shown (answer s (Ok form))

pub answered : (s s' : Sheet) (line o out : List ℕ) (n : ℕ) (what : ControlFlow ℕ ℕ) → what ≡ Continue n → RunsLine s line o (Ok what) s' out → Went s line n s' out
answered s s' line o out n what same (room, (Ok f, judged, is, left, put)) =
    let long : n ≡ length (shown (answer s (Ok f))) = cc in
    record { form = f; judged = judged; left = left; printed = front _ o out n long (put ∙ ap (λ (k : ℕ). shown (answer s (Ok f)) ++ drop k o) (sym long)) }
answered s s' line o out n what same (room, (Err e, judged, is, left, put)) = absurd (let z : ◌≡◌ {A = ℕ} 0 1 = cc in omega arith)

-- a faulted line was refused, and its fault is printed
pub record Failed (s : Sheet) (line : List ℕ) (n : ℕ) (out : List ℕ) : Type 0 where
  pub why : Refusal
  pub judged : Judged s line (Err why)
  pub printed : take n out ≡ shown (answer s (Err why))

pub faulted : (s s' : Sheet) (line o out : List ℕ) (n : ℕ) (what : ControlFlow ℕ ℕ) → what ≡ Break n → RunsLine s line o (Ok what) s' out → Failed s line n out
faulted s s' line o out n what same (room, (Ok f, judged, is, left, put)) = absurd (let z : ◌≡◌ {A = ℕ} 0 1 = cc in omega arith)
faulted s s' line o out n what same (room, (Err e, judged, is, left, put)) =
    let long : n ≡ length (shown (answer s (Err e))) = cc in
    record { why = e; judged = judged; printed = front _ o out n long (put ∙ ap (λ (k : ℕ). shown (answer s (Err e)) ++ drop k o) (sym long)) }

-- what the rest of the sheet prints follows what is printed so far
pub record Sofar (sheet rest out : List ℕ) (s : Sheet) : Type 0 where
  pub then : (more : List ℕ) → PrintsLines s rest more → PrintsLines fresh sheet (out ++ more)

pub one_line_more : {sheet rest out line buffer : List ℕ} {n : ℕ} {s s' : Sheet} (rest' out' : List ℕ) → Sofar sheet rest out s → 1 ≤ length rest → line ≡ first_line rest → rest' ≡ later_lines rest → Went s line n s' buffer → out' ≡ out ++ take n buffer → Sofar sheet rest' out' s'
one_line_more {sheet} {rest} {out} {line} {buffer} {n} {s} {s'} rest' out' sofar some first later went put = record { then = more_lines }
  where
    text : List ℕ
    text = shown (answer s (Ok went.form))

    more_lines : (more : List ℕ) → PrintsLines s' rest' more → PrintsLines fresh sheet (out' ++ more)
    more_lines more p =
        let there : PrintsLines (after s (Ok went.form)) (later_lines rest) more = subst (λ (x : List ℕ). PrintsLines (after s (Ok went.form)) x more) later (subst (λ (x : Sheet). PrintsLines x rest' more) went.left p) in
        let whole = sofar.then (text ++ more) (goes s rest more went.form some (subst (λ (l : List ℕ). Judged s l (Ok went.form)) first went.judged) there) in
        let joined : out ++ (text ++ more) ≡ out' ++ more = sym (append_assoc out text more) ∙ ap (λ (l : List ℕ). l ++ more) (sym (put ∙ ap (λ (l : List ℕ). out ++ l) went.printed)) in
        subst (PrintsLines fresh sheet) joined whole

pub last_line : {sheet rest out line buffer : List ℕ} {n : ℕ} {s : Sheet} (out' : List ℕ) → Sofar sheet rest out s → 1 ≤ length rest → line ≡ first_line rest → Failed s line n buffer → out' ≡ out ++ take n buffer → PrintsLines fresh sheet out'
last_line {sheet} {rest} {out} {line} {buffer} {n} {s} out' sofar some first failed put =
    let whole = sofar.then (shown (answer s (Err failed.why))) (fault s rest failed.why some (subst (λ (l : List ℕ). Judged s l (Err failed.why)) first failed.judged)) in
    subst (PrintsLines fresh sheet) (sym (put ∙ ap (λ (l : List ℕ). out ++ l) failed.printed)) whole

pub at_sheets_end : (sheet rest out : List ℕ) (s : Sheet) → Sofar sheet rest out s → length rest ≡ 0 → PrintsLines fresh sheet out
at_sheets_end sheet [] out s sofar z = subst (PrintsLines fresh sheet) (append-nil out) (sofar.then [] (end s))
at_sheets_end sheet (b ∷ rest) out s sofar z = absurd (omega arith)
