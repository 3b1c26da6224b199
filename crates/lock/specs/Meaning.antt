-- What a lock means: each slot's phase, its job's class, and whether it is barred.
use Rattle.std.specs.Prelude.{◌≡◌, ℕ, Bool, true, false, ◌⊎◌, Ok, Err, Result, ◌≢◌}
use Rattle.lock.specs.declared.words.Phase.{Phase}
use Rattle.lock.specs.declared.words.Phase.TheVariants.{Idle, Called, Waits, Holds, Leaves}
use Rattle.lock.specs.declared.words.Class.{Class}
use Rattle.lock.specs.declared.words.Class.TheVariants.{Reading, Writing}
use Rattle.refusal.specs.declared.reason.Refusal.{Refusal}
use Rattle.refusal.specs.declared.reason.Refusal.TheVariants.{SlotBusy, SlotBarred}

pub record Meaning : Type 0 where
  pub phase : ℕ → Phase
  pub class : ℕ → Class
  pub barred : ℕ → Bool

-- the meaning of one lock, by a trait's three ghost members
abbrev pub meant : {L : Type 0} → (L → ℕ → Phase) → (L → ℕ → Class) → (L → ℕ → Bool) → L → Meaning
meant phases classes bars s = record { phase = phases s; class = classes s; barred = bars s }

-- one slot's value becomes x, and no other changes
pub record Moved {X : Type 0} (f : ℕ → X) (i : ℕ) (x : X) (g : ℕ → X) : Type 0 where
  pub here : g i ≡ x
  pub others : (j : ℕ) → (j ≢ i) → g j ≡ f j

-- a call of an idle slot is refused exactly if it is for writing and the slot is barred, with 7; one of any other slot always, with 4
abbrev pub call_answer : Phase → Class → Bool → Result (Unit {0}) Refusal
call_answer Idle Reading barred = Ok tt
call_answer Idle Writing true = Err SlotBarred
call_answer Idle Writing false = Ok tt
call_answer Called c barred = Err SlotBusy
call_answer Waits c barred = Err SlotBusy
call_answer Holds c barred = Err SlotBusy
call_answer Leaves c barred = Err SlotBusy

abbrev pub CallsOrRefuses : Result (Unit {0}) Refusal → Type 0 → Type 0 → Type 0
CallsOrRefuses (Ok u) called same = called
CallsOrRefuses (Err e) called same = same

-- a step moves a slot that was called, waits or leaves
abbrev pub steps_from : Phase → Type 0 → Type 0 → Type 0
steps_from Idle stepped same = same
steps_from Called stepped same = stepped
steps_from Waits stepped same = stepped
steps_from Holds stepped same = same
steps_from Leaves stepped same = stepped

-- a finish moves a slot that holds
abbrev pub finishes_from : Phase → Type 0 → Type 0 → Type 0
finishes_from Idle finished same = same
finishes_from Called finished same = same
finishes_from Waits finished same = same
finishes_from Holds finished same = finished
finishes_from Leaves finished same = same

-- a call turns idle into called, with the class that it names
pub record CalledIn (m : Meaning) (i : ℕ) (c : Class) (n : Meaning) : Type 0 where
  pub idle : m.phase i ≡ Idle
  pub free : c ≡ Writing → m.barred i ≡ false
  pub phase : Moved m.phase i Called n.phase
  pub class : Moved m.class i c n.class

-- a writer may begin to hold where no other slot holds, a reader where no writer holds
abbrev pub MayHold : Class → Meaning → ℕ → Type 0
MayHold Writing m i = (j : ℕ) → (j ≢ i) → m.phase j ≢ Holds
MayHold Reading m i = (j : ℕ) → m.phase j ≡ Holds → m.class j ≢ Writing

-- called or waits turns into waits or holds, and leaves into leaves or idle
abbrev pub Reaches : Meaning → ℕ → Phase → Phase → Type 0
Reaches m i Idle q = ⊥
Reaches m i Called q = (q ≡ Waits) ⊎ ((q ≡ Holds) × MayHold (m.class i) m i)
Reaches m i Waits q = (q ≡ Waits) ⊎ ((q ≡ Holds) × MayHold (m.class i) m i)
Reaches m i Holds q = ⊥
Reaches m i Leaves q = (q ≡ Leaves) ⊎ (q ≡ Idle)

-- a slot keeps its class until it is idle
abbrev pub KeepsClass : Meaning → Meaning → Type 0
KeepsClass m n = (j : ℕ) → (n.phase j ≢ Idle) → n.class j ≡ m.class j

pub record Stepped (m : Meaning) (i : ℕ) (n : Meaning) : Type 0 where
  pub reaches : Reaches m i (m.phase i) (n.phase i)
  pub others : Moved m.phase i (n.phase i) n.phase
  pub class : KeepsClass m n

-- a finish turns holds into leaves
pub record Finished (m : Meaning) (i : ℕ) (n : Meaning) : Type 0 where
  pub holds : m.phase i ≡ Holds
  pub phase : Moved m.phase i Leaves n.phase
  pub class : KeepsClass m n
