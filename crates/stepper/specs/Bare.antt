-- Making, presetting and opening: in which order each tries its reasons to refuse, and what it leaves.
use Rattle.std.specs.Prelude.{◌≡◌, ℕ, cond, ◌&&◌, List, length, replicate, Some, None, Ok, Err, Option, Result, ◌==◌, nat_le, nat_lt, slice_set}
use Rattle.entry.specs.declared.kind.Kind as kind
use Rattle.lock.specs.declared.meaning.Lock as lock
use Rattle.refusal.specs.declared.reason.Refusal.{Refusal}
use Rattle.refusal.specs.declared.reason.Refusal.TheVariants.{SlotCount, ListLength, OutsideLimits}
use Rattle.stepper.specs.declared.bare.BareBook.{BareBook}
use Rattle.stepper.specs.declared.lists.Lengths.{Lengths}
use Rattle.stepper.specs.declared.open.OpenBook.{OpenBook}
use Rattle.stepper.specs.Lists.{lengths_of, lengths_fit}
use Rattle.stepper.specs.State.{State, state}

-- 2 where the list does not have 1 to 4,096 places
abbrev pub making_refusal : ℕ → Option Refusal
making_refusal n = cond (nat_le 1 n && nat_le n 4096) None (Some ListLength)

-- every place is emptied
abbrev pub DidMake : {K H G : Type 0} → kind.Ghosts K H G → List H → Result BareBook Refusal → List H → Type 0
DidMake d xs (Ok b) ys = (making_refusal (length xs) ≡ None) × (b.places ≡ length xs) × (ys ≡ replicate (length xs) d.empty)
DidMake d xs (Err e) ys = (making_refusal (length xs) ≡ Some e) × (ys ≡ xs)

-- 2 where the list is not as long as when made, 5 where there is no such place
abbrev pub preset_refusal : BareBook → ℕ → ℕ → Option Refusal
preset_refusal b n p = cond (n == b.places) (cond (nat_lt p n) None (Some OutsideLimits)) (Some ListLength)

-- any entry is stored as it is
abbrev pub DidPreset : {H : Type 0} → BareBook → List H → ℕ → H → Result (Unit {0}) Refusal → List H → Type 0
DidPreset b xs p e (Ok u) ys = (preset_refusal b (length xs) p ≡ None) × (ys ≡ slice_set xs p e)
DidPreset b xs p e (Err r) ys = (preset_refusal b (length xs) p ≡ Some r) × (ys ≡ xs)

-- 1 where there are not 1 to 32 slots, 2 where the book is not as long as when made, or rows or givens are not 32 for each slot
abbrev pub opening_refusal : BareBook → ℕ → Lengths → Option Refusal
opening_refusal b n lent = cond (nat_le 1 n && nat_le n 32) (cond (lengths_fit b.places n lent) None (Some ListLength)) (Some SlotCount)

-- no job was accepted yet, and the lock is fresh
pub record Opened {L Label H G : Type 0} (k : lock.Ghosts L Label) (b : BareBook) (n : ℕ) (s : State L H G) : Type 0 where
  pub fresh : k.opens n s.lock
  pub whole : s ≡ record s { slots = n; places = b.places; accepted = 0; jobs = replicate 32 None }

-- a refusal hands the bare book back
abbrev pub DidOpen : {L Label H G : Type 0} (k : lock.Ghosts L Label) → BareBook → ℕ → List H → List H → List G → Result (OpenBook L Label k) (BareBook × Refusal) → Type 0
DidOpen k b n xs rs gs (Ok o) = (opening_refusal b n (lengths_of xs rs gs) ≡ None) × Opened k b n (state o xs rs gs)
DidOpen k b n xs rs gs (Err e) = (opening_refusal b n (lengths_of xs rs gs) ≡ Some e.1) × (e.0 ≡ b)
