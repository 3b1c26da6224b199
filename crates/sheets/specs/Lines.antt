-- What one line does to a sheet's run, and what is printed of it.
use Rattle.std.specs.Prelude.{◌≡◌, ℕ, ◌+◌, ◌<◌, ◌≤◌, min, true, false, cond, ◌&&◌, List, ◌++◌, length, drop, Some, None, Ok, Err, Option, Result, ◌≢◌, nat_le}
use Rattle.refusal.specs.Numbers.{number_of}
use Rattle.refusal.specs.declared.reason.Refusal.{Refusal}
use Rattle.refusal.specs.declared.reason.Refusal.TheVariants.{SlotCount, ListLength, LineNotWellFormed, OpenMisplaced}
use Rattle.sheet_print.specs.Shown.{shown}
use Rattle.sheet_print.specs.declared.answer.Answer.{Answer}
use Rattle.sheet_print.specs.declared.answer.Answer.TheVariants.{Opened, Fault}
use Rattle.sheet_text.specs.Forms.{text, Fits}
use Rattle.sheet_text.specs.declared.form.Form.{Form}
use Rattle.sheet_text.specs.declared.form.Form.TheVariants.{Open}
use Rattle.std.specs.declared.ops.ControlFlow.{ControlFlow}
use Rattle.std.specs.declared.ops.ControlFlow.TheVariants.{Continue, Break}
use Rattle.sheets.specs.declared.state.Sheet.{Sheet}

-- a run that no line has been read of
abbrev pub fresh : Sheet
fresh = record { lines = 0; opened = false }

-- lines are numbered from 1; past the largest number of 32 bits the number stays
abbrev pub next_line : Sheet → ℕ
next_line s = min (s.lines + 1) 4294967295

-- why a well-formed line is refused, in the order in which the reasons are tried: 12, 1, 2
abbrev pub form_refusal : Sheet → Form → Option Refusal
form_refusal s (Open lock slots places kind) =
    cond s.opened (Some OpenMisplaced) (cond (nat_le 1 slots && nat_le slots 32) (cond (nat_le 1 places && nat_le places 1024) None (Some ListLength)) (Some SlotCount))

-- what a line is to a run: the text of no form (11), of a form that is refused, or of one that is accepted
pub data Judged (s : Sheet) (line : List ℕ) : Result Form Refusal → Type 0 where
  malformed : ((f : Form) → Fits f → line ≢ text f) → Judged s line (Err LineNotWellFormed)
  refused : (f : Form) (e : Refusal) → line ≡ text f → Fits f → form_refusal s f ≡ Some e → Judged s line (Err e)
  accepted : (f : Form) → line ≡ text f → Fits f → form_refusal s f ≡ None → Judged s line (Ok f)

-- the run after a line: a refused one leaves it as it was
abbrev pub after : Sheet → Result Form Refusal → Sheet
after s (Ok (Open lock slots places kind)) = record { lines = next_line s; opened = true }
after s (Err e) = s

abbrev pub answer : Sheet → Result Form Refusal → Answer
answer s (Ok (Open lock slots places kind)) = Opened slots
answer s (Err e) = Fault (next_line s) (number_of e)

-- how many bytes were printed, and whether the run goes on
abbrev pub outcome : Sheet → Result Form Refusal → ControlFlow ℕ ℕ
outcome s (Ok f) = Continue (length (shown (answer s (Ok f))))
outcome s (Err e) = Break (length (shown (answer s (Err e))))

-- with less than 2,048 bytes of output the line is refused with 14 and nothing changes; else its answer stands at the output's front
abbrev pub RunsLine : Sheet → List ℕ → List ℕ → Result (ControlFlow ℕ ℕ) Refusal → Sheet → List ℕ → Type 0
RunsLine s line out (Ok o) s' out' =
    (2048 ≤ length out) × ((j : Result Form Refusal) × Judged s line j × (o ≡ outcome s j) × (s' ≡ after s j) × (out' ≡ shown (answer s j) ++ drop (length (shown (answer s j))) out))
RunsLine s line out (Err e) s' out' = (length out < 2048) × (number_of e ≡ 14) × (s' ≡ s) × (out' ≡ out)
