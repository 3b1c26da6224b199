-- What every kind's join does with any given.
use Rattle.std.specs.Prelude.{Bool, cond}

-- an accepted given joins, and any other leaves the entry as it is
abbrev pub taken : {H G : Type 0} → (G → Bool) → (H → G → H) → H → G → H
taken accepted joined e g = cond (accepted g) (joined e g) e
