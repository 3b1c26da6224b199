-- How a lock lets its jobs on: a number that falls, over the lock's moves and the pieces of work left.
use Rattle.std.specs.Prelude.{◌≡◌, ℕ, suc, ◌+◌, ◌*◌, ◌<◌, ◌≤◌, Bool, true, ◌⊎◌, ◌≢◌}
use Rattle.lock.specs.Meaning.{Moved}
use Rattle.lock.specs.declared.words.Phase.TheVariants.{Idle, Waits, Holds, Leaves}
use Rattle.lock.specs.declared.words.Class.{Class}
use Rattle.lock.specs.declared.meaning.Lock as lock

-- the most pieces of work of one hold: a write of 32 places, two pieces a place
abbrev pub longest_hold : ℕ
longest_hold = 64

-- the rounds that each slot may cost a job before it holds, and that it may take from its hold to its end
abbrev pub rounds_a_slot : ℕ
rounds_a_slot = 88

-- What slot i's user does to the lock; f and g are the pieces of work that each slot's job has left, before and after.
-- A holding slot works its pieces off, and its last piece is the finish.
pub data Goes {L Label : Type 0} (k : lock.Ghosts L Label) (s : L) (f : ℕ → ℕ) (i : ℕ) (t : L) (g : ℕ → ℕ) : Type 0 where
  rests : k.phases s i ≡ Idle → t ≡ s → Moved f i (g i) g → Goes k s f i t g
  calls : (c : Class) → k.calls s i c t → Moved f i (g i) g → Goes k s f i t g
  steps : k.steps s i t → g ≡ f → Goes k s f i t g
  works : k.phases s i ≡ Holds → t ≡ s → f i ≡ suc (g i) → 1 ≤ g i → Moved f i (g i) g → Goes k s f i t g
  finishes : k.finishes s i t → f i ≡ 1 → Moved f i (g i) g → Goes k s f i t g

-- no job has more than h pieces left
abbrev pub AtMost : ℕ → (ℕ → ℕ) → Type 0
AtMost h f = (x : ℕ) → f x ≤ h

pub record Turns {L Label : Type 0} (k : lock.Ghosts L Label) (h : ℕ) (s : L) (f : ℕ → ℕ) (i : ℕ) (t : L) (g : ℕ → ℕ) : Type 0 where
  pub slot : i < 32
  pub before : AtMost h f
  pub after : AtMost h g
  pub goes : Goes k s f i t g

-- While `Stage s j` lasts, job j's number falls with each step of a slot that counts, and some slot counts.
pub record Falls {L Label : Type 0} (k : lock.Ghosts L Label) (h : ℕ) (Stage : L → ℕ → Type 0) : Type 0 where
  pub rank : L → (ℕ → ℕ) → ℕ → ℕ
  pub counts : L → ℕ → ℕ → Bool
  -- a slot that counts has a job
  pub awake : (s : L) (j x : ℕ) → Stage s j → counts s j x ≡ true → k.phases s x ≢ Idle
  -- nothing raises the number
  pub keeps : (s t : L) (f g : ℕ → ℕ) (j i : ℕ) → Stage s j → Stage t j → Turns k h s f i t g → rank t g j ≤ rank s f j
  -- a slot that counts lowers it
  pub falls : (s t : L) (f g : ℕ → ℕ) (j i : ℕ) → Stage s j → Stage t j → counts s j i ≡ true → Turns k h s f i t g → rank t g j < rank s f j
  -- a slot that counts does so until it steps, or the number falls
  pub lasts : (s t : L) (f g : ℕ → ℕ) (j i x : ℕ) → Stage s j → Stage t j → counts s j x ≡ true → (x ≢ i) → Turns k h s f i t g → (counts t j x ≡ true) ⊎ (rank t g j < rank s f j)
  -- some slot counts
  pub some : (s : L) (j : ℕ) → Stage s j → (x : ℕ) × (counts s j x ≡ true)

-- only slots below n have jobs
abbrev pub Below : {L Label : Type 0} → lock.Ghosts L Label → ℕ → L → Type 0
Below k n s = (x : ℕ) → n ≤ x → k.phases s x ≡ Idle

abbrev pub Waiting : {L Label : Type 0} → lock.Ghosts L Label → L → ℕ → Type 0
Waiting k s j = k.phases s j ≡ Waits

abbrev pub Going : {L Label : Type 0} → lock.Ghosts L Label → L → ℕ → Type 0
Going k s j = (k.phases s j ≡ Holds) ⊎ (k.phases s j ≡ Leaves)

-- With holds of at most h pieces: b rounds for each of n slots until a waiting job holds, and b more until it is idle.
pub record Progress {L Label : Type 0} (k : lock.Ghosts L Label) (h b : ℕ) : Type 0 where
  pub some_rounds : 0 < b
  pub enters : Falls k h (Waiting k)
  pub goes : Falls k h (Going k)
  pub enters_within : (n : ℕ) (s : L) (f : ℕ → ℕ) (j : ℕ) → n ≤ 32 → j < n → Below k n s → AtMost h f → Waiting k s j → enters.rank s f j + 2 ≤ b * n
  pub goes_within : (s : L) (f : ℕ → ℕ) (j : ℕ) → AtMost h f → Going k s j → goes.rank s f j < b
