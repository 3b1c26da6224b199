-- The parts of a line, and the bytes that they are written as.
use Rattle.std.specs.Prelude.{ℕ, Bool, true, false, cond, List, [], ◌∷◌, ◌++◌, decimal}

pub data Part : Type 0 where
  opening : Part
  closing : Part
  word : List ℕ → Part
  numeral : ℕ → Part
  ending : Part

-- a part's own bytes: brackets are 40 and 41, and the byte 10 ends a line
abbrev pub written : Part → List ℕ
written opening = 40 ∷ []
written closing = 41 ∷ []
written (word w) = w
written (numeral n) = decimal n
written ending = 10 ∷ []

abbrev pub is_opening : Part → Bool
is_opening opening = true
is_opening closing = false
is_opening (word w) = false
is_opening (numeral n) = false
is_opening ending = false

-- the parts that a blank sets off from the part before
abbrev pub is_spaced : Part → Bool
is_spaced opening = true
is_spaced closing = false
is_spaced (word w) = true
is_spaced (numeral n) = true
is_spaced ending = false

-- what stands before a part: where it is tight, at the line's start and after an opening bracket, never a blank
abbrev pub gap : Bool → Part → List ℕ
gap true p = []
gap false p = cond (is_spaced p) (32 ∷ []) []

-- the bytes of parts that follow one another
abbrev pub onward : Bool → List Part → List ℕ
onward tight [] = []
onward tight (p ∷ ps) = gap tight p ++ (written p ++ onward (is_opening p) ps)
