-- What the plain lock's words mean, and the words that each move leaves.
use Rattle.std.specs.Prelude.{◌≡◌, ℕ, Bool, false}
use Rattle.lock.specs.Meaning.{steps_from, finishes_from}
use Rattle.lock.specs.declared.words.Class.{Class}
use Rattle.lock.specs.declared.words.Phase.{Phase}
use Rattle.lock.specs.declared.words.Phase.TheVariants.{Idle}
use Rattle.plain_lock.specs.declared.plain.PlainLock.{PlainLock}
use Rattle.plain_words.specs.Places.{phase_of, class_of, label_of}
use Rattle.plain_words.specs.Words.{fresh_words, stands, called, stepped, finished}
use Rattle.plain_words.specs.declared.places.Label.{Label}

-- the phase of slot i
abbrev pub phases : PlainLock → ℕ → Phase
phases s i = phase_of (stands s.words i)

-- the class of slot i's job
abbrev pub classes : PlainLock → ℕ → Class
classes s i = class_of (stands s.words i)

-- where slot i is shown to stand
abbrev pub labels : PlainLock → ℕ → Label
labels s i = label_of (stands s.words i)

-- no slot is ever barred
abbrev pub bars : PlainLock → ℕ → Bool
bars s i = false

-- a fresh lock, whatever its number of slots
abbrev pub Opens : ℕ → PlainLock → Type 0
Opens n s = s.words ≡ fresh_words

-- only an idle slot calls
abbrev pub Calls : PlainLock → ℕ → Class → PlainLock → Type 0
Calls s i c t = (phases s i ≡ Idle) × (t.words ≡ called s.words i c)

-- only a slot that was called, waits or leaves steps
abbrev pub Steps : PlainLock → ℕ → PlainLock → Type 0
Steps s i t = steps_from (phases s i) (t.words ≡ stepped s.words i) ⊥

-- only a slot that holds finishes
abbrev pub Finishes : PlainLock → ℕ → PlainLock → Type 0
Finishes s i t = finishes_from (phases s i) (t.words ≡ finished s.words i) ⊥
