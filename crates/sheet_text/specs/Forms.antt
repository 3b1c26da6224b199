-- The forms of a line, the text of each, and what the reader answers.
use Rattle.std.specs.Prelude.{◌≡◌, ℕ, ◌^◌, ◌<◌, true, List, [], ◌∷◌, Ok, Err, codes, Result, ◌≢◌}
use Rattle.refusal.specs.declared.reason.Refusal.{Refusal}
use Rattle.refusal.specs.declared.reason.Refusal.TheVariants.{LineNotWellFormed}
use Rattle.sheet_text.specs.declared.form.Form.{Form}
use Rattle.sheet_text.specs.declared.form.Form.TheVariants.{Open}
use Rattle.sheet_text.specs.declared.form.KindName.{KindName}
use Rattle.sheet_text.specs.declared.form.KindName.TheVariants.{Leg, Station}
use Rattle.sheet_text.specs.declared.form.LockName.{LockName}
use Rattle.sheet_text.specs.declared.form.LockName.TheVariants.{Queue, Ticket, Plain}
use Rattle.sheet_text.specs.Parts.{Part, opening, closing, word, numeral, ending, onward}

abbrev pub lock_word : LockName → List ℕ
lock_word Queue = codes "queue"
lock_word Ticket = codes "ticket"
lock_word Plain = codes "plain"

abbrev pub kind_word : KindName → List ℕ
kind_word Leg = codes "leg"
kind_word Station = codes "station"

-- a word is read as the name that is spelled so, and refused where none is
abbrev pub NamedBy : {N : Type 0} → (N → List ℕ) → List ℕ → Result N Refusal → Type 0
NamedBy {N} spelled w (Ok name) = w ≡ spelled name
NamedBy {N} spelled w (Err e) = (e ≡ LineNotWellFormed) × ((name : N) → w ≢ spelled name)

-- the word that a form begins with
abbrev pub name : Form → List ℕ
name (Open lock slots places kind) = codes "open"

-- the parts of a form after its word, to the line's end
abbrev pub args : Form → List Part
args (Open lock slots places kind) = word (lock_word lock) ∷ numeral slots ∷ numeral places ∷ word (kind_word kind) ∷ closing ∷ ending ∷ []

abbrev pub parts : Form → List Part
parts f = opening ∷ word (name f) ∷ args f

-- the bytes of a form's line, with the byte that ends it
abbrev pub text : Form → List ℕ
text f = onward true (parts f)

-- a form's numbers fit 32 bits
abbrev pub Fits : Form → Type 0
Fits (Open lock slots places kind) = (slots < 2 ^ 32) × (places < 2 ^ 32)

-- a line is read as the form whose text it is, and refused where it is the text of none
abbrev pub ReadAs : List ℕ → Result Form Refusal → Type 0
ReadAs line (Ok f) = (line ≡ text f) × Fits f
ReadAs line (Err e) = (e ≡ LineNotWellFormed) × ((f : Form) → Fits f → line ≢ text f)
