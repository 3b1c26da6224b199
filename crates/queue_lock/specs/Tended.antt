-- The clauses on which progress rests: somebody is responsible for every hand-over.
use Rattle.std.specs.Prelude.{◌≡◌, ℕ, true, ◌⊎◌, List, Some, None, ◌≢◌}
use Rattle.std.proofs.Props.{props}
use Rattle.queue_lock.specs.Sets as is
use Rattle.queue_lock.specs.Config.{Config, Full, config}
use Rattle.queue_lock.specs.Invariant.{Inv, owes}
use Rattle.queue_words.specs.declared.words.Words.{Words}

-- X2: who will wake slot s, or make it next writer
abbrev pub Responsible : Config → ℕ → Type 0
Responsible w s = ((p : ℕ) × (((w.at s).pred ≡ Some p) × (((w.at p).next ≡ Some s) × (owes (w.at p) ≡ true)))) ⊎ ((w.next_writer ≡ Some s) ⊎ ((t : ℕ) × ((is.waking (w.at t).standing ≡ true) × ((w.at t).w ≡ Some s))))

-- X3: slot t looks after the next writer x
abbrev pub Looked : Config → ℕ → ℕ → Type 0
Looked w x t = (is.looking (w.at t).standing ≡ true) ⊎ ((is.asking (w.at t).standing ≡ true) × ((w.at t).w ≡ Some x))

pub record Tended (w : Config) : Type 0 where
  pub followed : (p : ℕ) → is.awaited (w.at p).standing ≡ true → (w.at p).next ≡ None → (w.tail ≢ Some p) → (s : ℕ) × ((is.unlinked (w.at s).standing ≡ true) × ((w.at s).pred ≡ Some p))
  pub minded : (s : ℕ) → is.dozing (w.at s).standing ≡ true → (w.at s).state.blocked ≡ true → Responsible w s
  pub looked_after : (x : ℕ) → w.next_writer ≡ Some x → is.sleeping_w (w.at x).standing ≡ true → w.reader_count ≡ 0 → (t : ℕ) × Looked w x t

-- both, as a fact with one proof at most, which a ghost field asks for
abbrev pub Sound : Config → Type 0
Sound w = ∥ Inv w × Tended w ∥₁

-- the invariant of the words and the line
pub record Keeps (w : Words) (l : List ℕ) : Type 0 where
  pub full : Full w
  pub sound : Sound (config w l)

pub keeps_once : (w : Words) (l : List ℕ) → IsProp (Keeps w l)
keeps_once w l = hlevel props
