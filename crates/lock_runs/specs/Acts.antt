-- What an act of a slot does, and what is printed of its answer.
use Rattle.std.specs.Prelude.{◌≡◌, ℕ, List, Ok, Err, codes, decimal, Result}
use Rattle.refusal.specs.Numbers.{number_of}
use Rattle.refusal.specs.declared.reason.Refusal.{Refusal}
use Rattle.lock.specs.Meaning.{call_answer, CallsOrRefuses, steps_from, finishes_from}
use Rattle.lock.specs.Phases.{phase_text}
use Rattle.lock.specs.declared.meaning.Lock as lock
use Rattle.lock_runs.specs.declared.act.Act.{Act}
use Rattle.lock_runs.specs.declared.act.Act.TheVariants.{Call, Step, Finish}
use Rattle.lock_runs.specs.declared.act.Answer.{Answer}
use Rattle.lock_runs.specs.declared.act.Answer.TheVariants.{Accepted, Refused, Stands}

abbrev pub answer_of : Result (Unit {0}) Refusal → Answer
answer_of (Ok u) = Accepted
answer_of (Err e) = Refused (number_of e)

-- slot i's act turns lock s into t
abbrev pub Acted : {L Label : Type 0} → lock.Ghosts L Label → L → ℕ → Act → L → Type 0
Acted k s i (Call class) t = CallsOrRefuses (call_answer (k.phases s i) class (k.bars s i)) (k.calls s i class t) (t ≡ s)
Acted k s i Step t = steps_from (k.phases s i) (k.steps s i t) (t ≡ s)
Acted k s i Finish t = finishes_from (k.phases s i) (k.finishes s i t) (t ≡ s)

-- a call is answered by whether it is refused, a step and a finish by where the slot then stands
abbrev pub answered : {L Label : Type 0} → lock.Ghosts L Label → L → ℕ → Act → L → Answer
answered k s i (Call class) t = answer_of (call_answer (k.phases s i) class (k.bars s i))
answered k s i Step t = Stands (k.phases t i)
answered k s i Finish t = Stands (k.phases t i)

-- a refusal is printed as its number
abbrev pub answer_text : Answer → List ℕ
answer_text Accepted = codes "ok"
answer_text (Refused number) = decimal number
answer_text (Stands phase) = phase_text phase
