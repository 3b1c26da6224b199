-- A computed test of two standings, as a fact about the slots that stand there.
use Rattle.std.proofs.Common.{◌≡◌, Bool, true, false, cond, sym, ◌∙◌}
use Rattle.std.proofs.lemmas.Bool.{both_ways}
use Rattle.queue_lock.specs.Plain.{imply, deny}

-- x has the value a and y the value b; where a is true, so is b
pub gives : {x y a b : Bool} → x ≡ a → y ≡ b → cond a b true ≡ true → x ≡ true → y ≡ true
gives {x} {y} {a} {b} e f t h = f ∙ imply a b t (sym e ∙ h)

abbrev pub no : Bool → Bool
no a = cond a false true

pub lacks : {x a : Bool} → x ≡ a → no a ≡ true → x ≡ true → ⊥
lacks {x} {a} e t h = both_ways a (deny a t) (sym e ∙ h)
