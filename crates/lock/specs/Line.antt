-- The line of an ordered lock.
use Rattle.std.specs.Prelude.{◌≡◌, ℕ, ◌<◌, cond, List, [], ◌∷◌, ◌++◌, ◌==◌}
use Rattle.lock.specs.declared.words.Phase.{Phase}
use Rattle.lock.specs.declared.words.Phase.TheVariants.{Idle, Called, Waits, Holds, Leaves}
use Rattle.lock.specs.declared.words.Class.{Class}
use Rattle.lock.specs.declared.words.Class.TheVariants.{Reading, Writing}
use Rattle.lock.specs.declared.meaning.Lock as lock

-- a slot arrives, at the line's end, by its first step after the call
abbrev pub arrives : Phase → ℕ → List ℕ → List ℕ
arrives Idle i line = line
arrives Called i line = line ++ (i ∷ [])
arrives Waits i line = line
arrives Holds i line = line
arrives Leaves i line = line

-- a slot that waits or leaves has arrived, and steps on
abbrev pub Arrived : Phase → Type 0
Arrived Idle = ⊥
Arrived Called = ⊥
Arrived Waits = Unit {0}
Arrived Holds = ⊥
Arrived Leaves = Unit {0}

-- the line when slot i has quit it
abbrev pub without : ℕ → List ℕ → List ℕ
without i [] = []
without i (x ∷ line) = cond (x == i) (without i line) (x ∷ without i line)

abbrev pub First : ℕ → List ℕ → Type 0
First i [] = ⊥
First i (x ∷ line) = x ≡ i

-- slot i stands in line, and no writer before it
abbrev pub NoWriterBefore : (ℕ → Class) → ℕ → List ℕ → Type 0
NoWriterBefore class i [] = ⊥
NoWriterBefore class i (x ∷ line) = cond (x == i) (Unit {0}) ((class x ≡ Reading) × NoWriterBefore class i line)

-- a writer's turn to hold comes when it is first in line, a reader's when no writer stands before it
abbrev pub Turn : Class → (ℕ → Class) → ℕ → List ℕ → Type 0
Turn Writing class i line = First i line
Turn Reading class i line = NoWriterBefore class i line

abbrev pub EmptyWhenFresh : {L Label : Type 0} → lock.Ghosts L Label → (L → List ℕ) → Type 0
EmptyWhenFresh {L} k line = (n : ℕ) (s : L) → k.opens n s → line s ≡ []

abbrev pub SameAtCalls : {L Label : Type 0} → lock.Ghosts L Label → (L → List ℕ) → Type 0
SameAtCalls {L} k line = (s : L) (i : ℕ) (c : Class) (t : L) → i < 32 → k.calls s i c t → line t ≡ line s

-- what a step does to the line, and whose turn it is where the slot begins to hold
pub record InTurn {L Label : Type 0} (k : lock.Ghosts L Label) (line : L → List ℕ) (s : L) (i : ℕ) (t : L) : Type 0 where
  pub arrived : line t ≡ arrives (k.phases s i) i (line s)
  pub turn : k.phases t i ≡ Holds → Turn (k.classes s i) (k.classes s) i (line t)

abbrev pub ArrivesInTurn : {L Label : Type 0} → lock.Ghosts L Label → (L → List ℕ) → Type 0
ArrivesInTurn {L} k line = (s : L) (i : ℕ) (t : L) → i < 32 → k.steps s i t → InTurn k line s i t

abbrev pub QuitsAtFinish : {L Label : Type 0} → lock.Ghosts L Label → (L → List ℕ) → Type 0
QuitsAtFinish {L} k line = (s : L) (i : ℕ) (t : L) → i < 32 → k.finishes s i t → line t ≡ without i (line s)
