-- What a check of some reasons to refuse answers.
use Rattle.std.specs.Prelude.{◌≡◌, Some, Ok, Err, Option, Result}
use Rattle.refusal.specs.declared.reason.Refusal.{Refusal}

-- what is tried goes on to the rest, or ends in a refusal
abbrev pub Tried : {X : Type 0} → (Option Refusal → Option Refusal) → Result X Refusal → Type 0
Tried tries (Ok x) = (rest : Option Refusal) → tries rest ≡ rest
Tried tries (Err e) = (rest : Option Refusal) → tries rest ≡ Some e
