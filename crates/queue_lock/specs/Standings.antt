-- What a slot's phase tells of where it stands.
use Rattle.std.specs.List.{list_all}
use Rattle.std.specs.Prelude.{◌≡◌, Bool, true, false, cond, ◌⊎◌, ◌==◌, refl}
use Rattle.std.proofs.Common.{ap, ◌∙◌, inl, inr}
use Rattle.std.proofs.lemmas.Bool.{cases_eq, eqb-true, ne_eqb}
use Rattle.lock.specs.declared.words.Phase.{Phase}
use Rattle.lock.specs.declared.words.Phase.TheVariants.{Idle, Called, Waits, Holds, Leaves}
use Rattle.queue_words.specs.Bar.{asks}
use Rattle.queue_words.specs.Standings.{phase_of}
use Rattle.queue_words.specs.declared.standing.Standing.{Standing}
use Rattle.queue_words.specs.declared.standing.Standing.TheVariants.{I, W1, WriterH, R1, ReaderH}
use Rattle.queue_lock.specs.Sets as is
use Rattle.queue_lock.specs.Sets.{number, standings}
use Rattle.queue_lock.specs.Every.{implies, same_number}

abbrev pub is_idle : Phase → Bool
is_idle Idle = true
is_idle Called = false
is_idle Waits = false
is_idle Holds = false
is_idle Leaves = false

abbrev is_called : Phase → Bool
is_called Idle = false
is_called Called = true
is_called Waits = false
is_called Holds = false
is_called Leaves = false

abbrev is_holds : Phase → Bool
is_holds Idle = false
is_holds Called = false
is_holds Waits = false
is_holds Holds = true
is_holds Leaves = false

pub idle_is : (s : Standing) → phase_of s ≡ Idle → s ≡ I
idle_is s e = same_number s I (eqb-true _ _ (implies (λ x. is_idle (phase_of x)) (λ x. number x == number I) refl s (ap is_idle e)))

-- where two standings alone have a property, one of them is whoever has it
one_of_two : (f : Standing → Bool) (a b : Standing) → list_all (λ x. cond (cond (number x == number a) false (f x)) (number x == number b) true) standings ≡ true → (s : Standing) → f s ≡ true → (s ≡ a) ⊎ (s ≡ b)
one_of_two f a b e s h = elim (cases_eq (number s) (number a)) [
  | inl q ↦ inl (same_number s a q)
  | inr n ↦ inr (same_number s b (eqb-true _ _ (implies (λ x. cond (number x == number a) false (f x)) (λ x. number x == number b) e s (ap (λ c. cond c false (f s)) (ne_eqb _ _ n) ∙ h))))
]

pub holds_is : (s : Standing) → phase_of s ≡ Holds → (s ≡ ReaderH) ⊎ (s ≡ WriterH)
holds_is s e = one_of_two (λ x. is_holds (phase_of x)) ReaderH WriterH refl s (ap is_holds e)

pub called_is : (s : Standing) → phase_of s ≡ Called → (s ≡ W1) ⊎ (s ≡ R1)
called_is s e = one_of_two (λ x. is_called (phase_of x)) W1 R1 refl s (ap is_called e)

-- who asks for its w
pub asking_asks : (s : Standing) → is.asking s ≡ true → asks s ≡ true
unfolding is.asking
asking_asks s h = implies is.is_asking asks refl s h
