-- What a step of a slot answers and leaves.
use Rattle.std.specs.Prelude.{◌≡◌, ℕ, ◌+◌, ◌*◌, Bool, true, false, cond, List, map, Some, None, Ok, Err, Option, Result, ◌==◌, slice_index_or, slice_set}
use Rattle.entry.specs.Kinds.{taken}
use Rattle.entry.specs.declared.kind.Kind as kind
use Rattle.lock.specs.declared.meaning.Lock as lock
use Rattle.lock.specs.declared.words.Class.{Class}
use Rattle.lock.specs.declared.words.Class.TheVariants.{Reading, Writing}
use Rattle.lock.specs.declared.words.Phase.{Phase}
use Rattle.lock.specs.declared.words.Phase.TheVariants.{Idle, Called, Waits, Holds, Leaves}
use Rattle.refusal.specs.declared.reason.Refusal.{Refusal}
use Rattle.stepper.specs.declared.job.Job.{Job}
use Rattle.stepper.specs.Jobs.{row_of, next_place, with_joined}
use Rattle.stepper.specs.Refusals.{call_refusal}
use Rattle.stepper.specs.State.{State}

-- the place of the book that a job is at
abbrev pub place_of : Job → ℕ
place_of j = j.first + j.done

-- where slot i has its entry and its given for that place, in the rows and in the givens
abbrev pub own_of : ℕ → Job → ℕ
own_of i j = 32 * i + j.done

-- a reader's row once it has copied its place
abbrev pub copied_rows : {K H G : Type 0} → kind.Ghosts K H G → ℕ → Job → List H → List H → List H
copied_rows d i j book rows = slice_set rows (own_of i j) (slice_index_or book (place_of j) d.empty)

-- what the given at r makes of the entry e
abbrev pub given_to : {K H G : Type 0} → kind.Ghosts K H G → List G → ℕ → H → H
given_to d givens r e = slice_index_or (map (taken d.accepted d.joined e) givens) r e

-- a writer's row once it has joined the entry of its place with its given
abbrev pub joined_rows : {K H G : Type 0} → kind.Ghosts K H G → ℕ → Job → List H → List H → List G → List H
joined_rows d i j book rows givens = slice_set rows (own_of i j) (given_to d givens (own_of i j) (slice_index_or book (place_of j) d.empty))

-- the book once a writer has put its row's entry into its place
abbrev pub put_book : {K H G : Type 0} → kind.Ghosts K H G → ℕ → Job → List H → List H → List H
put_book d i j book rows = slice_set book (place_of j) (slice_index_or rows (own_of i j) d.empty)

-- no place of the job comes after this one
abbrev pub is_last : Job → Bool
is_last j = j.done + 1 == j.count

-- the jobs after a place of slot i's job j is done; after its last place they stay
abbrev pub passed_jobs : List (Option Job) → ℕ → Job → List (Option Job)
passed_jobs jobs i j = cond (is_last j) jobs (slice_set jobs i (Some (next_place j)))

-- the lock after a place is done: the last place also finishes the hold
abbrev pub Passes : {L Label : Type 0} → lock.Ghosts L Label → Bool → L → ℕ → L → Type 0
Passes k true l i m = k.finishes l i m
Passes k false l i m = m ≡ l

-- the state with other jobs, another lock, book and rows
abbrev pub worked : {L H G : Type 0} → State L H G → List (Option Job) → L → List H → List H → State L H G
worked s jobs l book rows = record s { jobs = jobs; lock = l; book = book; rows = rows }

-- one piece of work of slot i with the job j: a reader copies; a writer joins, then puts
abbrev pub Works : {L Label K H G : Type 0} → lock.Ghosts L Label → kind.Ghosts K H G → State L H G → ℕ → Job → Class → Bool → State L H G → Type 0
Works k d s i j Reading b t =
    Passes k (is_last j) s.lock i t.lock × (t ≡ worked s (passed_jobs s.jobs i j) t.lock s.book (copied_rows d i j s.book s.rows))
Works k d s i j Writing false t =
    (t.lock ≡ s.lock) × (t ≡ worked s (slice_set s.jobs i (Some (with_joined j))) t.lock s.book (joined_rows d i j s.book s.rows s.givens))
Works k d s i j Writing true t =
    Passes k (is_last j) s.lock i t.lock × (t ≡ worked s (passed_jobs s.jobs i j) t.lock (put_book d i j s.book s.rows) s.rows)

-- one piece of work of a slot that holds: it has a job
abbrev pub HoldWorks : {L Label K H G : Type 0} → lock.Ghosts L Label → kind.Ghosts K H G → State L H G → ℕ → Option Job → State L H G → Type 0
HoldWorks k d s i None t = ⊥
HoldWorks k d s i (Some j) t = Works k d s i j j.class j.joined t

-- a step of slot i, by its phase: an idle slot does nothing, a holding one works, any other makes a lock step
abbrev pub Takes : {L Label K H G : Type 0} → lock.Ghosts L Label → kind.Ghosts K H G → State L H G → ℕ → Phase → State L H G → Type 0
Takes k d s i Idle t = t ≡ s
Takes k d s i Called t = k.steps s.lock i t.lock × (t ≡ worked s s.jobs t.lock s.book s.rows)
Takes k d s i Waits t = k.steps s.lock i t.lock × (t ≡ worked s s.jobs t.lock s.book s.rows)
Takes k d s i Holds t = HoldWorks k d s i (row_of s.jobs i) t
Takes k d s i Leaves t = k.steps s.lock i t.lock × (t ≡ worked s s.jobs t.lock s.book s.rows)

-- 2, then 3
abbrev pub step_refusal : {L H G : Type 0} → State L H G → ℕ → Option Refusal
step_refusal s i = call_refusal s i None

-- the answer is where the slot now stands with the lock
abbrev pub DidStep : {L Label K H G : Type 0} → lock.Ghosts L Label → kind.Ghosts K H G → State L H G → ℕ → Result (Phase × Label) Refusal → State L H G → Type 0
DidStep k d s i (Ok r) t =
    (step_refusal s i ≡ None) × (r ≡ (k.phases t.lock i, k.labels t.lock i)) × Takes k d s i (k.phases s.lock i) t
DidStep k d s i (Err e) t = (step_refusal s i ≡ Some e) × (t ≡ s)
