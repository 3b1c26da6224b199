-- A fact about every standing, from one computed test.
use Rattle.std.specs.List.{list_all}
use Rattle.std.specs.Prelude.{◌≡◌, ℕ, zero, suc, ◌<◌, Bool, true, false, cond, List, [], ◌∷◌, length, get_or, ◌==◌, slice_index_or, refl}
use Rattle.std.proofs.Common.{sym, ap, subst, ◌∙◌, inl, inr, arith, lit<}
use Rattle.queue_words.specs.declared.standing.Standing.{Standing}
use Rattle.queue_words.specs.declared.standing.Standing.TheVariants.{I, W1, W2, W3, W4, W5, W6, W7, W8, WriterH, V1, V2, V3, V4, V5, V6, R1, R2, R3, R4, R5, R6, R7, R8, R9, R10, R11, R12, R13, ReaderH, E1, E2, E3, E4, E5, E6, E7, E8, E9, E10}
use Rattle.queue_lock.specs.Sets.{number, standings, among}
use Rattle.std.proofs.lemmas.Bool.{and_parts, cases_Bool, eqb-true, cond-false, false≢true}

every_at : (f : Standing → Bool) (xs : List Standing) (i : ℕ) → list_all f xs ≡ true → i < length xs → f (slice_index_or xs i I) ≡ true
every_at f [] i e h = absurd (omega arith)
every_at f (x ∷ xs) zero e h = (and_parts _ _ e).0
every_at f (x ∷ xs) (suc i) e h = every_at f xs i (and_parts (f x) _ e).1 (omega arith)

found : (s : Standing) → slice_index_or standings (number s) I ≡ s
found I = refl
found W1 = refl
found W2 = refl
found W3 = refl
found W4 = refl
found W5 = refl
found W6 = refl
found W7 = refl
found W8 = refl
found WriterH = refl
found V1 = refl
found V2 = refl
found V3 = refl
found V4 = refl
found V5 = refl
found V6 = refl
found R1 = refl
found R2 = refl
found R3 = refl
found R4 = refl
found R5 = refl
found R6 = refl
found R7 = refl
found R8 = refl
found R9 = refl
found R10 = refl
found R11 = refl
found R12 = refl
found R13 = refl
found ReaderH = refl
found E1 = refl
found E2 = refl
found E3 = refl
found E4 = refl
found E5 = refl
found E6 = refl
found E7 = refl
found E8 = refl
found E9 = refl
found E10 = refl

low : (s : Standing) → number s < 40
low I = lit< tt
low W1 = lit< tt
low W2 = lit< tt
low W3 = lit< tt
low W4 = lit< tt
low W5 = lit< tt
low W6 = lit< tt
low W7 = lit< tt
low W8 = lit< tt
low WriterH = lit< tt
low V1 = lit< tt
low V2 = lit< tt
low V3 = lit< tt
low V4 = lit< tt
low V5 = lit< tt
low V6 = lit< tt
low R1 = lit< tt
low R2 = lit< tt
low R3 = lit< tt
low R4 = lit< tt
low R5 = lit< tt
low R6 = lit< tt
low R7 = lit< tt
low R8 = lit< tt
low R9 = lit< tt
low R10 = lit< tt
low R11 = lit< tt
low R12 = lit< tt
low R13 = lit< tt
low ReaderH = lit< tt
low E1 = lit< tt
low E2 = lit< tt
low E3 = lit< tt
low E4 = lit< tt
low E5 = lit< tt
low E6 = lit< tt
low E7 = lit< tt
low E8 = lit< tt
low E9 = lit< tt
low E10 = lit< tt

pub by_number : (s : Standing) (n : ℕ) → number s ≡ n → s ≡ slice_index_or standings n I
by_number s n e = sym (found s) ∙ ap (λ k. get_or standings k I) e

pub same_number : (s t : Standing) → number s ≡ number t → s ≡ t
same_number s t e = by_number s (number t) e ∙ found t

pub for_all : (f : Standing → Bool) → list_all f standings ≡ true → (s : Standing) → f s ≡ true
for_all f e s = subst (λ x. f x ≡ true) (found s) (every_at f standings (number s) e (low s))

-- standings with the first property have the second
pub implies : (f g : Standing → Bool) → list_all (λ s. cond (f s) (g s) true) standings ≡ true → (s : Standing) → f s ≡ true → g s ≡ true
implies f g e s h = elim (f s) as (λ b. cond b (g s) true ≡ true → b ≡ true → g s ≡ true) [ true ↦ λ z _. z | false ↦ λ _ z. absurd (false≢true z) ] (for_all (λ x. cond (f x) (g x) true) e s) h

-- no standing has both
pub apart : (f g : Standing → Bool) → list_all (λ s. cond (f s) (cond (g s) false true) true) standings ≡ true → (s : Standing) → f s ≡ true → g s ≡ false
apart f g e s h = let k = implies f (λ x. cond (g x) false true) e s h in elim (g s) as (λ b. cond b false true ≡ true → b ≡ false) [ true ↦ λ z. sym z | false ↦ λ _. refl ] k

-- what holds of all in a list holds of one among them
pub every_among : (f : Standing → Bool) (xs : List Standing) (s : Standing) → list_all f xs ≡ true → among xs s ≡ true → f s ≡ true
every_among f [] s e h = absurd (false≢true h)
every_among f (x ∷ xs) s e h = elim (cases_Bool (number s == number x)) [
  | inl q ↦ subst (λ y. f y ≡ true) (sym (same_number s x (eqb-true _ _ q))) (and_parts _ _ e).0
  | inr q ↦ every_among f xs s (and_parts (f x) _ e).1 (sym (cond-false (number s == number x) true (among xs s) q) ∙ h)
]
