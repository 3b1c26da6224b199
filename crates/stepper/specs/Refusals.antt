-- In which order the calls of an open book try their reasons to refuse; `rest` is what is tried after these.
use Rattle.std.specs.Prelude.{ℕ, ◌+◌, Bool, true, false, cond, ◌&&◌, List, length, Some, None, Option, is_none, nat_le, nat_lt}
use Rattle.std.specs.List.{list_all}
use Rattle.entry.specs.declared.kind.Kind as kind
use Rattle.lock.specs.declared.meaning.Lock as lock
use Rattle.lock.specs.declared.words.Phase.{Phase}
use Rattle.lock.specs.declared.words.Phase.TheVariants.{Idle, Called, Waits, Holds, Leaves}
use Rattle.refusal.specs.declared.reason.Refusal.{Refusal}
use Rattle.refusal.specs.declared.reason.Refusal.TheVariants.{ListLength, NoSuchSlot, SlotBusy, OutsideLimits, GivenNotAccepted, SlotBarred, JobsExhausted}
use Rattle.stepper.specs.declared.job.Job.{Job}
use Rattle.stepper.specs.declared.lists.Lengths.{Lengths}
use Rattle.stepper.specs.Jobs.{row_of}
use Rattle.stepper.specs.Lists.{lengths_of, lengths_fit}
use Rattle.stepper.specs.State.{State}

-- 2 where a list's length is not as for so many places and slots, 3 where there is no such slot
abbrev pub lent_refusal : ℕ → ℕ → Lengths → ℕ → Option Refusal → Option Refusal
lent_refusal places slots lent i rest = cond (lengths_fit places slots lent) (cond (nat_lt i slots) rest (Some NoSuchSlot)) (Some ListLength)

-- every call: 2 where a list's length is not as when opened, 3 where there is no such slot
abbrev pub call_refusal : {L H G : Type 0} → State L H G → ℕ → Option Refusal → Option Refusal
call_refusal s i rest = lent_refusal s.places s.slots (lengths_of s.book s.rows s.givens) i rest

-- whether a slot is idle
abbrev pub is_idle : Phase → Bool
is_idle Idle = true
is_idle Called = false
is_idle Waits = false
is_idle Holds = false
is_idle Leaves = false

-- a slot has no job that runs or is uncollected
abbrev pub is_free : Option Job → Phase → Bool
is_free row phase = is_none row && is_idle phase

-- n places from f on, 1 to 32, are places of the book
abbrev pub is_inside : ℕ → ℕ → ℕ → Bool
is_inside places f n = nat_le 1 n && (nat_le n 32 && nat_le (f + n) places)

-- 4 where the slot is busy or its job uncollected, 5 where the count or the range is outside its limits
abbrev pub slot_refusal : Bool → ℕ → ℕ → ℕ → Option Refusal → Option Refusal
slot_refusal free places f n rest = cond free (cond (is_inside places f n) rest (Some OutsideLimits)) (Some SlotBusy)

-- a job: after those of every call 4, where the slot is busy or its job uncollected, and 5
abbrev pub job_refusal : {L Label H G : Type 0} → lock.Ghosts L Label → State L H G → ℕ → ℕ → ℕ → Option Refusal → Option Refusal
job_refusal k s i f n rest = call_refusal s i (slot_refusal (is_free (row_of s.jobs i) (k.phases s.lock i)) s.places f n rest)

-- last 8, where 1,000,000 jobs were accepted already
abbrev pub room_refusal : ℕ → Option Refusal
room_refusal accepted = cond (nat_lt accepted 1000000) None (Some JobsExhausted)

-- a read tries nothing more
abbrev pub read_refusal : {L Label H G : Type 0} → lock.Ghosts L Label → State L H G → ℕ → ℕ → ℕ → Option Refusal
read_refusal k s i f n = job_refusal k s i f n (room_refusal s.accepted)

-- a write: before 8, 6 where a given is not accepted, 7 where the lock bars the slot
abbrev pub write_refusal : {L Label K H G : Type 0} → lock.Ghosts L Label → kind.Ghosts K H G → State L H G → ℕ → ℕ → List G → Option Refusal
write_refusal k d s i f gs =
    job_refusal k s i f (length gs)
    (cond (list_all d.accepted gs)
    (cond (k.bars s.lock i) (Some SlotBarred) (room_refusal s.accepted))
    (Some GivenNotAccepted))
