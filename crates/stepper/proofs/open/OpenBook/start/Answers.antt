use Rattle.std.proofs.Common.{None, ap, ◌∙◌}
use Rattle.slots.specs.Tables.{all_alike}
use Rattle.stepper.specs.Jobs.{row_of}
use Rattle.stepper.proofs.open.OpenBook.start.Goals as goal

pub invariant_of-result-clause-sound : goal.invariant_of-result-clause-sound
invariant_of-result-clause-sound g c i x e = let none = ap (λ xs. row_of xs i) c.filled.ensures ∙ all_alike None 32 i in absurd cc
