-- A slot's place in the line: it is its own, and joining and leaving change places as they should.
use Rattle.std.specs.Prelude.{◌≡◌, ℕ, zero, suc, ◌<◌, ◌≤◌, true, false, cond, ◌⊎◌, List, [], ◌∷◌, ◌++◌, length, ◌==◌, ◌≢◌, refl}
use Rattle.std.proofs.Common.{sym, ap, ◌∙◌, inl, inr, arith}
use Rattle.std.proofs.lemmas.Bool.{cases_eq, cases_lt, eq-eqb, ne_eqb}
use Rattle.lined_lock.specs.Lines.{without_hit, without_miss}
use Rattle.lock.specs.Line.{without}
use Rattle.queue_lock.specs.Places.{pos, Distinct}

pub pos_le : (l : List ℕ) (x : ℕ) → pos l x ≤ length l
unfolding pos
pos_le [] x = omega arith
pos_le (y ∷ l) x = let h = pos_le l x in grind arith

pub pos_inj : (l : List ℕ) (x y : ℕ) → pos l x ≡ pos l y → pos l x < length l → x ≡ y
unfolding pos
pos_inj [] x y e h = absurd (omega arith)
pos_inj (z ∷ l) x y e h = let k = pos_inj l x y in grind arith

pub length_joined : (l : List ℕ) (x : ℕ) → length (l ++ (x ∷ [])) ≡ suc (length l)
length_joined [] x = refl
length_joined (y ∷ l) x = let h = length_joined l x in omega arith

-- a slot that joins stands at the end
pub pos_joined : (l : List ℕ) (x : ℕ) → pos l x ≡ length l → pos (l ++ (x ∷ [])) x ≡ length l
unfolding pos
pos_joined [] x e = grind arith
pos_joined (y ∷ l) x e = let h = pos_joined l x in grind arith

pub pos_joined_in : (l : List ℕ) (x y : ℕ) → pos l y < length l → pos (l ++ (x ∷ [])) y ≡ pos l y
unfolding pos
pos_joined_in [] x y h = absurd (omega arith)
pos_joined_in (z ∷ l) x y h = let k = pos_joined_in l x y in grind arith

pub pos_joined_out : (l : List ℕ) (x y : ℕ) → (y ≢ x) → pos l y ≡ length l → pos (l ++ (x ∷ [])) y ≡ suc (length l)
unfolding pos
pos_joined_out [] x y d h = grind arith
pos_joined_out (z ∷ l) x y d h = let k = pos_joined_out l x y d in grind arith

pub distinct_joined : (l : List ℕ) (x : ℕ) → Distinct l → pos l x ≡ length l → Distinct (l ++ (x ∷ []))
unfolding pos Distinct
distinct_joined [] x d e = (refl, tt)
distinct_joined (y ∷ l) x d e =
    let a : pos l x ≡ length l = grind arith in
    let n : y ≡ x → ⊥ = λ q. grind arith in
    (pos_joined_out l x y n d.0 ∙ sym (length_joined l x), distinct_joined l x d.1 a)

-- a slot that leaves
pub left_none : (l : List ℕ) (x : ℕ) → pos l x ≡ length l → without x l ≡ l
unfolding pos
left_none [] x h = refl
left_none (y ∷ l) x h = let k = left_none l x in grind arith

-- the first slot leaves, or another
left_here : (l : List ℕ) (x y : ℕ) → x ≡ y → pos l y ≡ length l → without x (y ∷ l) ≡ l
left_here l x y e h = without_hit y x l (sym e) ∙ left_none l x (ap (pos l) e ∙ h)

pub pos_there : (l : List ℕ) (x y : ℕ) → (x ≢ y) → pos (y ∷ l) x ≡ suc (pos l x)
unfolding pos
pos_there l x y d = let a = ne_eqb x y d in rw a refl

pub pos_here : (l : List ℕ) (x y : ℕ) → x ≡ y → pos (y ∷ l) x ≡ 0
unfolding pos
pos_here l x y e = let a = eq-eqb x y e in rw a refl

pub length_left : (l : List ℕ) (x : ℕ) → Distinct l → pos l x < length l → suc (length (without x l)) ≡ length l
unfolding Distinct pos
length_left [] x d h = absurd (omega arith)
length_left (y ∷ l) x d h = elim (cases_eq x y) [
  | inl e ↦ ap (λ n. suc (length n)) (left_here l x y e d.0)
  | inr n ↦ let p = pos_there l x y n in ap (λ m. suc (length m)) (without_miss y x l (λ q. n (sym q))) ∙ ap suc (length_left l x d.1 (omega arith))
]

-- the place of another slot, after x has left
pub left_cases : (l : List ℕ) (x y : ℕ) → Distinct l → pos l x < length l → (y ≢ x) → ((pos l y < pos l x) × (pos (without x l) y ≡ pos l y)) ⊎ ((pos l x < pos l y) × (suc (pos (without x l) y) ≡ pos l y))
unfolding Distinct
left_cases [] x y d h n = absurd (omega arith)
left_cases (z ∷ l) x y d h n = elim (cases_eq x z) [
  | inl e ↦
      let a = pos_here l x z e in
      let b = pos_there l y z (λ q. n (q ∙ sym e)) in
      let c = ap (λ m. pos m y) (left_here l x z e d.0) in
      inr (omega arith, omega arith)
  | inr m ↦
      let a = pos_there l x z m in
      let c = ap (λ k. pos k y) (without_miss z x l (λ q. m (sym q))) in
      elim (cases_eq y z) [
        | inl e ↦ let b = pos_here l y z e in let f = pos_here (without x l) y z e in inl (omega arith, omega arith)
        | inr k ↦
            let b = pos_there l y z k in
            let f = pos_there (without x l) y z k in
            elim (left_cases l x y d.1 (omega arith) n) [ inl r ↦ inl (omega arith, omega arith) | inr r ↦ inr (omega arith, omega arith) ]
      ]
]

left_drops : (l : List ℕ) (x y : ℕ) → x ≡ y → pos (without x l) x ≡ length (without x l) → pos (without x (y ∷ l)) x ≡ length (without x (y ∷ l))
left_drops l x y e h = let a = eq-eqb y x (sym e) in rw a h

left_out : (l : List ℕ) (x y : ℕ) → pos l y ≡ length l → pos (without x l) y ≡ length (without x l)
unfolding pos
left_out [] x y h = refl
left_out (z ∷ l) x y h = let k = left_out l x y in grind arith

pub pos_left_same : (l : List ℕ) (x : ℕ) → pos (without x l) x ≡ length (without x l)
unfolding pos
pos_left_same [] x = refl
pos_left_same (z ∷ l) x = elim (cases_eq x z) [
  | inl e ↦ left_drops l x z e (pos_left_same l x)
  | inr n ↦ ap (λ m. pos m x) (without_miss z x l (λ q. n (sym q))) ∙ pos_there (without x l) x z n ∙ ap suc (pos_left_same l x) ∙ sym (ap length (without_miss z x l (λ q. n (sym q))))
]

pub distinct_left : (l : List ℕ) (x : ℕ) → Distinct l → Distinct (without x l)
unfolding Distinct
distinct_left [] x d = tt
distinct_left (z ∷ l) x d =
    elim (z == x) as (λ b. (z == x) ≡ b → Distinct (cond b (without x l) (z ∷ without x l))) [
      | true ↦ λ _. distinct_left l x d.1
      | false ↦ λ q. (left_out l x z d.0, distinct_left l x d.1)
    ] refl

-- a line with a slot in it has a first
pub first_of : (l : List ℕ) → 0 < length l → (y : ℕ) × (pos l y ≡ 0)
unfolding pos
first_of [] h = absurd (omega arith)
first_of (y ∷ l) h = (y, grind arith)

-- a line of different slots below n has at most n
pub distinct_le : (n : ℕ) (l : List ℕ) → Distinct l → ((x : ℕ) → pos l x < length l → x < n) → length l ≤ n
distinct_le zero l d h = elim (cases_lt 0 (length l)) [
  | inl k ↦ let y = first_of l k in absurd (let z = h y.0 (omega arith) in omega arith)
  | inr k ↦ k
]
distinct_le (suc n) l d h = elim (cases_lt (pos l n) (length l)) [
  | inl k ↦
      let s = length_left l n d k in
      let r = distinct_le n (without n l) (distinct_left l n d) (λ x q.
      let e : x ≡ n → ⊥ = λ z. (let a = pos_left_same l n in let b = ap (pos (without n l)) z in omega arith) in
      let m : pos l x < length l = elim (left_cases l n x d k e) [ inl c ↦ omega arith | inr c ↦ omega arith ] in
      let t = h x m in
      elim (cases_lt x n) [ inl u ↦ u | inr u ↦ absurd (e (omega arith)) ]) in
      omega arith
  | inr k ↦
      let r = distinct_le n l d (λ x q.
      let e : x ≡ n → ⊥ = λ z. (let b = ap (pos l) z in omega arith) in
      let t = h x q in
      elim (cases_lt x n) [ inl u ↦ u | inr u ↦ absurd (e (omega arith)) ]) in
      omega arith
]
