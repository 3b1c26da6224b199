-- What a run prints.
use Rattle.std.specs.Prelude.{ℕ, List, [], ◌∷◌, ◌++◌, codes}
use Rattle.lock.specs.declared.meaning.Lock as lock
use Rattle.lock_runs.specs.Acts.{Acted, answered, answer_text}
use Rattle.lock_runs.specs.declared.line.Line.{Line}

-- what is printed of a line that turned lock s into t: the answer, what the lock shows of the slot, and the byte 10
abbrev pub printed : {L Label : Type 0} → lock.Ghosts L Label → (L → ℕ → List ℕ) → L → Line → L → List ℕ
printed k shows s l t = answer_text (answered k s l.slot.index l.act t) ++ (codes " " ++ (shows t l.slot.index ++ (10 ∷ [])))

-- lines turn lock s into t, and print out
pub data Traced {L Label : Type 0} (k : lock.Ghosts L Label) (shows : L → ℕ → List ℕ) (s : L) : List Line → List ℕ → L → Type 0 where
  none : Traced k shows s [] [] s
  more : (ls : List Line) (out : List ℕ) (t u : L) (l : Line) → Traced k shows s ls out t → Acted k t l.slot.index l.act u → Traced k shows s (ls ++ (l ∷ [])) (out ++ printed k shows t l u) u

-- a run begins with a fresh lock
pub record Prints {L Label : Type 0} (k : lock.Ghosts L Label) (shows : L → ℕ → List ℕ) (lines : List Line) (out : List ℕ) : Type 0 where
  pub first : L
  pub last : L
  pub opened : k.opens 32 first
  pub traced : Traced k shows first lines out last
