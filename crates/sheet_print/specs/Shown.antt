-- The bytes of a printed line, and what is left of a handed output.
use Rattle.std.specs.Prelude.{◌≡◌, ℕ, ◌<◌, ◌≤◌, List, [], ◌∷◌, ◌++◌, length, drop, Ok, Err, codes, decimal, Result}
use Rattle.refusal.specs.Numbers.{number_of}
use Rattle.refusal.specs.declared.reason.Refusal.{Refusal}
use Rattle.sheet_print.specs.declared.answer.Answer.{Answer}
use Rattle.sheet_print.specs.declared.answer.Answer.TheVariants.{Opened, Fault}

-- byte 10 ends each line
abbrev pub shown : Answer → List ℕ
shown (Opened slots) = codes "(open " ++ (decimal slots ++ (41 ∷ 10 ∷ []))
shown (Fault line number) = codes "(fault " ++ (decimal line ++ (codes " " ++ (decimal number ++ (41 ∷ 10 ∷ []))))

-- the answer's line at the front, and the rest as it was; an output under 2,048 bytes is refused with 14 and left as it was
abbrev pub Prints : Answer → List ℕ → Result ℕ Refusal → List ℕ → Type 0
Prints answer out (Ok n) after = (2048 ≤ length out) × (n ≡ length (shown answer)) × (after ≡ shown answer ++ drop n out)
Prints answer out (Err e) after = (length out < 2048) × (number_of e ≡ 14) × (after ≡ out)
