-- What each call of an open book answers and leaves. Of the state that a call leaves only the lock is
-- not spelled out: the lock's own moves say what it is.
use Rattle.std.specs.Prelude.{◌≡◌, ℕ, ◌+◌, ◌*◌, List, length, Some, None, Ok, Err, Result, slice_set}
use Rattle.std.proofs.Math.Seq.{paste}
use Rattle.entry.specs.declared.kind.Kind as kind
use Rattle.lock.specs.declared.meaning.Lock as lock
use Rattle.lock.specs.declared.words.Class.{Class}
use Rattle.lock.specs.declared.words.Class.TheVariants.{Reading, Writing}
use Rattle.refusal.specs.declared.reason.Refusal.{Refusal}
use Rattle.stepper.specs.declared.claim.Claim.{Claim}
use Rattle.stepper.specs.Jobs.{new_job}
use Rattle.stepper.specs.Refusals.{read_refusal, write_refusal}
use Rattle.stepper.specs.State.{State}

-- the claim on slot i's job of number n
abbrev pub claim_on : ℕ → ℕ → Claim
claim_on i n = record { slot = i; number = n }

-- slot i has taken the next job, of class c, on n places from f on
abbrev pub with_job : {L H G : Type 0} → State L H G → ℕ → Class → ℕ → ℕ → L → List G → State L H G
with_job s i c f n l gs = record s {
  accepted = s.accepted + 1;
  jobs = slice_set s.jobs i (Some (new_job (s.accepted + 1) c f n));
  lock = l;
  givens = gs;
}

-- a read of n places from f on by slot i
abbrev pub DidRead : {L Label H G : Type 0} → lock.Ghosts L Label → State L H G → ℕ → ℕ → ℕ → Result Claim Refusal → State L H G → Type 0
DidRead k s i f n (Ok c) t =
    (read_refusal k s i f n ≡ None) × (c ≡ claim_on i (s.accepted + 1)) × k.calls s.lock i Reading t.lock
    × (t ≡ with_job s i Reading f n t.lock s.givens)
DidRead k s i f n (Err e) t = (read_refusal k s i f n ≡ Some e) × (t ≡ s)

-- a write of the givens gs from place f on by slot i, which copies them to the slot's part of the givens
abbrev pub DidWrite : {L Label K H G : Type 0} → lock.Ghosts L Label → kind.Ghosts K H G → State L H G → ℕ → ℕ → List G → Result Claim Refusal → State L H G → Type 0
DidWrite k d s i f gs (Ok c) t =
    (write_refusal k d s i f gs ≡ None) × (c ≡ claim_on i (s.accepted + 1)) × k.calls s.lock i Writing t.lock
    × (t ≡ with_job s i Writing f (length gs) t.lock (paste s.givens (32 * i) gs (length gs)))
DidWrite k d s i f gs (Err e) t = (write_refusal k d s i f gs ≡ Some e) × (t ≡ s)
