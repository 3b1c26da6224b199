-- What the ticket lock's words mean.
use Rattle.std.specs.Prelude.{ℕ, Bool, false}
use Rattle.lock.specs.declared.words.Class.{Class}
use Rattle.lock.specs.declared.words.Phase.{Phase}
use Rattle.ticket_words.specs.Places.{phase_of, class_of, label_of}
use Rattle.ticket_words.specs.Steps.{stands_at}
use Rattle.ticket_words.specs.declared.standing.Label.{Label}
use Rattle.ticket_words.specs.declared.words.Words.{Words}

-- each slot's phase, by where it stands
abbrev pub phases : Words → ℕ → Phase
phases w i = phase_of (stands_at w i)

-- the class of each slot's job
abbrev pub classes : Words → ℕ → Class
classes w i = class_of (stands_at w i)

-- no slot is ever barred
abbrev pub bars : Words → ℕ → Bool
bars w i = false

-- each slot's label
abbrev pub labels : Words → ℕ → Label
labels w i = label_of (stands_at w i)
