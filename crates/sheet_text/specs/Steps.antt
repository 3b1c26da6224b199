-- What is left of a line at a cursor, and what one step of reading does. Only the contracts of inner functions speak of it.
use Rattle.std.specs.Prelude.{◌≡◌, ℕ, List, ◌∷◌, length, take, drop, Some, None, Option, MatchOption, ◌≢◌}
use Rattle.std.specs.List.{AllByRecursion}
use Rattle.sheet_text.specs.declared.cursor.Cursor.{Cursor}
use Rattle.sheet_text.specs.declared.form.Form.{Form}
use Rattle.sheet_text.specs.declared.token.Mark.{Mark}
use Rattle.sheet_text.specs.declared.token.Mark.TheVariants.{Open, Close, End}
use Rattle.sheet_text.specs.declared.token.Token.{Token}
use Rattle.sheet_text.specs.Cuts.{Good, part, place, bytes}
use Rattle.sheet_text.specs.Forms.{name, args, parts, Fits}
use Rattle.sheet_text.specs.Parts.{Part, opening, closing, ending, written, onward}

-- the bytes that are left at c are those of ps
pub record Left (c : Cursor) (ps : List Part) : Type 0 where
  pub here : drop c.at c.line.now ≡ onward c.tight ps
  pub goods : AllByRecursion Good ps

-- p is the next part at c, and d is the cursor after it
pub record Next (c : Cursor) (p : Part) (d : Cursor) : Type 0 where
  pub good : Good p
  pub to : (ps : List Part) → Left d ps → Left c (p ∷ ps)
  pub from : (q : Part) (ps : List Part) → Left c (q ∷ ps) → (q ≡ p) × Left d ps

-- the part that a mark is
abbrev pub marked : Mark → Part
marked Open = opening
marked Close = closing
marked End = ending

-- p is not the next part at c
abbrev pub NotNext : Cursor → Part → Type 0
NotNext c p = (ps : List Part) → Left c (p ∷ ps) → ⊥

-- the cursor after p, if p is the next part at c
abbrev pub Past : Cursor → Part → Option Cursor → Type 0
Past c p r = MatchOption r (NotNext c p) (λ d. Next c p d)

-- the token's bytes are those of its part, and stand in the line at its place
pub record Stands (line : List ℕ) (t : Token) : Type 0 where
  pub same : bytes t ≡ written (part t)
  pub there : take (length (bytes t)) (drop (place t) line) ≡ bytes t

-- what is left is the rest of a form with the word w, or of none
abbrev pub ArgsOf : List ℕ → Cursor → Option Form → Type 0
ArgsOf w c None = (f : Form) → name f ≡ w → Left c (args f) → ⊥
ArgsOf w c (Some f) = (name f ≡ w) × Left c (args f)

-- what is left is a form's parts, or no form's whose numbers fit
abbrev pub FormAt : Cursor → Option Form → Type 0
FormAt c None = (f : Form) → Fits f → drop c.at c.line.now ≢ onward c.tight (parts f)
FormAt c (Some f) = (drop c.at c.line.now ≡ onward c.tight (parts f)) × Fits f
