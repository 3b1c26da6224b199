-- The lock's meaning, and exactly what each of its moves does.
use Rattle.std.specs.Prelude.{◌≡◌, ℕ, Bool, false, List, []}
use Rattle.line_table.specs.Lines.{in_line}
use Rattle.lock.specs.Line.{arrives, without}
use Rattle.lock.specs.Meaning.{steps_from}
use Rattle.lock.specs.declared.words.Class.{Class}
use Rattle.lock.specs.declared.words.Class.TheVariants.{Writing}
use Rattle.lock.specs.declared.words.Phase.{Phase}
use Rattle.lock.specs.declared.words.Phase.TheVariants.{Idle, Holds}
use Rattle.lock.specs.declared.meaning.Lock as lock
use Rattle.lined_lock.specs.declared.lined.LinedLock.{LinedLock}
use Rattle.lined_lock.specs.declared.words.Procedures as procedures

module _ {P W Label : Type 0} {k : procedures.Ghosts P W Label} where
  -- each slot's phase
  abbrev pub phases : LinedLock P W Label k → ℕ → Phase
  phases s = k.phases s.words

  -- the class of each slot's job
  abbrev pub classes : LinedLock P W Label k → ℕ → Class
  classes s = k.classes s.words

  -- whether each slot is barred from writing
  abbrev pub bars : LinedLock P W Label k → ℕ → Bool
  bars s = k.bars s.words

  -- each slot's label
  abbrev pub labels : LinedLock P W Label k → ℕ → Label
  labels s = k.labels s.words

  -- the slots in line
  abbrev pub line_of : LinedLock P W Label k → List ℕ
  line_of s = in_line s.line

  -- a fresh lock, of any number of slots
  pub record Opens (n : ℕ) (s : LinedLock P W Label k) : Type 0 where
    pub words : s.words ≡ k.begun
    pub empty : line_of s ≡ []

  -- a call of an idle slot, not barred if it is to write
  pub record Calls (s : LinedLock P W Label k) (i : ℕ) (c : Class) (t : LinedLock P W Label k) : Type 0 where
    pub idle : phases s i ≡ Idle
    pub free : c ≡ Writing → bars s i ≡ false
    pub words : t.words ≡ k.called s.words i c
    pub same : line_of t ≡ line_of s

  -- a step of a slot that was called, waits or leaves
  pub record Steps (s : LinedLock P W Label k) (i : ℕ) (t : LinedLock P W Label k) : Type 0 where
    pub moves : steps_from (phases s i) (Unit {0}) ⊥
    pub words : t.words ≡ k.stepped s.words i
    pub arrived : line_of t ≡ arrives (phases s i) i (line_of s)

  -- the end of a hold
  pub record Finishes (s : LinedLock P W Label k) (i : ℕ) (t : LinedLock P W Label k) : Type 0 where
    pub holds : phases s i ≡ Holds
    pub words : t.words ≡ k.finished s.words i
    pub quit : line_of t ≡ without i (line_of s)

-- the lock's members, by those of its procedures
abbrev pub locked : {P W Label : Type 0} (k : procedures.Ghosts P W Label) → lock.Ghosts (LinedLock P W Label k) Label
locked k = record { phases = phases; classes = classes; bars = bars; labels = labels; opens = Opens; calls = Calls; steps = Steps; finishes = Finishes }
