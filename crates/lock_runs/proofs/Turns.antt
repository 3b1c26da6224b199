-- A round's turns are the operations from its number times the number of slots on.
use Rattle.std.proofs.Common.{◌≡◌, ℕ, ◌+◌, ◌*◌, ◌/◌, ◌%◌, ◌<◌, sym, ap, ◌∙◌, subst, mod-eq_of_lt, arith}
use native.Mathlib.Nat.{div-eq_of_lt, mul-add-mod_self_right, mul-add-div_right}
use Rattle.lock.specs.declared.meaning.Lock as lock
use Rattle.lock.specs.declared.words.Class.{Class}
use Rattle.lock_runs.specs.Acts.{Acted}
use Rattle.lock_runs.specs.Drive.{Driven, more, class_in, next_act}

slot_is : (round slots slot : ℕ) → slot < slots → slot ≡ (round * slots + slot) % slots
slot_is round slots slot h = sym (mul-add-mod_self_right round slots slot ∙ mod-eq_of_lt h)

round_is : (round slots slot : ℕ) → slot < slots → round ≡ (round * slots + slot) / slots
round_is round slots slot h =
    let q = div-eq_of_lt h in
    let p = mul-add-div_right {m = slots} (omega arith) round slot in
    sym (p ∙ omega arith)

pub turned : {L Label : Type 0} (k : lock.Ghosts L Label) (s t u : L) (round slots slot : ℕ) (c : Class) → slot < slots → c ≡ class_in round → Driven k slots s (round * slots + slot) t → Acted k t slot (next_act (k.phases t slot) c) u → Driven k slots s (round * slots + (slot + 1)) u
turned k s t u round slots slot c h z d p =
    let n : ℕ = round * slots + slot in
    let a = subst (λ x. Acted k t slot (next_act (k.phases t slot) x) u) (z ∙ ap class_in (round_is round slots slot h)) p in
    let b = more n t u d (subst (λ x. Acted k t x (next_act (k.phases t x) (class_in (n / slots))) u) (slot_is round slots slot h) a) in
    subst (λ m. Driven k slots s m u) (omega arith) b
