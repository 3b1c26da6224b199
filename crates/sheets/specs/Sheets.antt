-- What a whole sheet prints.
use Rattle.std.specs.Prelude.{◌≡◌, ℕ, ◌≤◌, cond, ◌&&◌, List, [], ◌∷◌, ◌++◌, length, Ok, Err, ◌==◌, nat_le}
use Rattle.refusal.specs.Numbers.{number_of}
use Rattle.refusal.specs.declared.reason.Refusal.{Refusal}
use Rattle.refusal.specs.declared.reason.Refusal.TheVariants.{SheetSize}
use Rattle.sheet_print.specs.Shown.{shown}
use Rattle.sheet_print.specs.declared.answer.Answer.TheVariants.{Fault}
use Rattle.sheet_text.specs.declared.form.Form.{Form}
use Rattle.sheets.specs.declared.state.Sheet.{Sheet}
use Rattle.sheets.specs.Lines.{fresh, Judged, after, answer}

-- the bytes up to the first byte 10, with it, or all of them where there is none
abbrev pub first_line : List ℕ → List ℕ
first_line [] = []
first_line (b ∷ bs) = cond (b == 10) (b ∷ []) (b ∷ first_line bs)

-- the bytes that follow the first line
abbrev pub later_lines : List ℕ → List ℕ
later_lines [] = []
later_lines (b ∷ bs) = cond (b == 10) bs (later_lines bs)

-- a run over the lines of a sheet prints each line's answer, and ends at the sheet's end or at its first fault
pub data PrintsLines : Sheet → List ℕ → List ℕ → Type 0 where
  end : (s : Sheet) → PrintsLines s [] []
  goes : (s : Sheet) (sheet more : List ℕ) (f : Form) → 1 ≤ length sheet → Judged s (first_line sheet) (Ok f) → PrintsLines (after s (Ok f)) (later_lines sheet) more → PrintsLines s sheet (shown (answer s (Ok f)) ++ more)
  fault : (s : Sheet) (sheet : List ℕ) (e : Refusal) → 1 ≤ length sheet → Judged s (first_line sheet) (Err e) → PrintsLines s sheet (shown (answer s (Err e)))

abbrev pub size_fault : List ℕ
size_fault = shown (Fault 0 (number_of SheetSize))

-- a sheet has 1 to 65,536 bytes; any other is refused with 13 at line 0, and nothing of it is run
abbrev pub PrintsSheet : List ℕ → List ℕ → Type 0
PrintsSheet sheet out =
    cond (nat_le 1 (length sheet) && nat_le (length sheet) 65536) (PrintsLines fresh sheet out) (out ≡ size_fault)
