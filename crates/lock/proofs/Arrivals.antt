-- Which slots step, and what their step does to the line.
use Rattle.std.proofs.Common.{◌≡◌, ℕ, List, sym, refl, subst}
use Rattle.lock.specs.Line.{arrives, Arrived}
use Rattle.lock.specs.Meaning.{steps_from}
use Rattle.lock.specs.declared.words.Phase.{Phase}
use Rattle.lock.specs.declared.words.Phase.TheVariants.{Idle, Called, Waits, Holds, Leaves}

-- a called slot steps
pub called_moves : (p : Phase) → p ≡ Called → steps_from p (Unit {0}) ⊥
called_moves p e = subst (λ q. steps_from q (Unit {0}) ⊥) (sym e) tt

-- a slot that waits or leaves steps
pub on_moves : (p : Phase) → Arrived p → steps_from p (Unit {0}) ⊥
on_moves Idle a = absurd a
on_moves Called a = absurd a
on_moves Waits a = tt
on_moves Holds a = absurd a
on_moves Leaves a = tt

-- and the line stays
pub on_line : (p : Phase) (i : ℕ) (l : List ℕ) → Arrived p → l ≡ arrives p i l
on_line Idle i l a = absurd a
on_line Called i l a = absurd a
on_line Waits i l a = refl
on_line Holds i l a = absurd a
on_line Leaves i l a = refl
