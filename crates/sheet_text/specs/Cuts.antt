-- The part at the front of some bytes. Only the contracts of inner functions speak of it.
use Rattle.std.specs.Prelude.{◌≡◌, ℕ, ◌+◌, ◌^◌, ◌<◌, Bool, List, [], ◌∷◌, ◌++◌, length, decimal, Option, MatchOption, ◌≢◌}
use Rattle.std.specs.Borrow.{Bor}
use Rattle.std.specs.Int.{IsInRange}
use Rattle.std.specs.List.{AllByRecursion}
use Rattle.sheet_text.specs.declared.token.Token.{Token}
use Rattle.sheet_text.specs.declared.token.Token.TheVariants.{Open, Close, Word, Number, End}
use Rattle.sheet_text.specs.Parts.{Part, opening, closing, word, numeral, ending, written, gap}

-- a word is of small letters, and a number fits 32 bits
abbrev pub Good : Part → Type 0
Good opening = Unit {0}
Good closing = Unit {0}
Good (word w) = (0 < length w) × AllByRecursion (IsInRange 97 122) w
Good (numeral n) = n < 2 ^ 32
Good ending = Unit {0}

-- what a token stands for, where it begins, and its bytes
abbrev pub part : Token → Part
part (Open at) = opening
part (Close at) = closing
part (Word w at) = word w.now
part (Number n ds at) = numeral n
part (End at) = ending

abbrev pub place : Token → ℕ
place (Open at) = at
place (Close at) = at
place (Word w at) = at
place (Number n ds at) = at
place (End at) = at

abbrev pub bytes : Token → List ℕ
bytes (Open at) = 40 ∷ []
bytes (Close at) = 41 ∷ []
bytes (Word w at) = w.now
bytes (Number n ds at) = ds.now
bytes (End at) = 10 ∷ []

-- a run of bytes from low to high goes no further
abbrev pub Stops : ℕ → ℕ → List ℕ → Type 0
Stops low high [] = Unit {0}
Stops low high (b ∷ bs) = IsInRange low high b → ⊥

-- a part that could be longer is not
abbrev pub Ends : Part → List ℕ → Type 0
Ends opening rest = Unit {0}
Ends closing rest = Unit {0}
Ends (word w) rest = Stops 97 122 rest
Ends (numeral n) rest = Stops 48 57 rest
Ends ending rest = Unit {0}

-- t is the first part of s, which begins at the offset `at`, and the rest follows it
pub record Cut (tight : Bool) (s : List ℕ) (at : ℕ) (t : Token) (rest : List ℕ) : Type 0 where
  pub whole : s ≡ gap tight (part t) ++ (written (part t) ++ rest)
  pub good : Good (part t)
  pub ends : Ends (part t) rest
  pub starts : place t ≡ at + length (gap tight (part t))
  pub same : bytes t ≡ written (part t)

-- no part stands first in s
abbrev pub NoCut : Bool → List ℕ → Type 0
NoCut tight s = (p : Part) (rest : List ℕ) → Good p → Ends p rest → s ≢ gap tight p ++ (written p ++ rest)

-- the first part of s, which begins at the offset `at`, and the rest; or none, where no part stands first
abbrev pub FirstOf : Bool → List ℕ → ℕ → Option (Token × Bor (List ℕ)) → Type 0
FirstOf tight s at r = MatchOption r (NoCut tight s) (λ x. Cut tight s at x.0 x.1.now)

-- the number that digits are the decimal form of, if it fits 32 bits
abbrev pub ValueOf : List ℕ → Option ℕ → Type 0
ValueOf ds r = MatchOption r ((n : ℕ) → n < 2 ^ 32 → ds ≢ decimal n) (λ n. (ds ≡ decimal n) × (n < 2 ^ 32))
