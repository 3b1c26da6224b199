-- Counts over lines and over slots.
use Rattle.std.specs.Prelude.{◌≡◌, ℕ, zero, suc, ◌+◌, ◌*◌, ◌%◌, ◌<◌, ◌≤◌, Bool, true, false, cond, List, [], ◌∷◌, ◌++◌, length, ◌==◌, ◌≢◌, refl}
use Rattle.std.proofs.Common.{sym, ap, ◌∙◌, inl, inr, arith}
use Rattle.std.proofs.lemmas.Bool.{eq-eqb, ne_eqb, eqb-true, cases_eq, cases_lt}
use Rattle.lined_lock.specs.Totals.{total, total_le}
use Rattle.lined_lock.specs.Lines.{without_hit, without_miss}
use Rattle.lock.specs.Line.{without}
use Rattle.ticket_lock.specs.Order.{times, before, adv}

-- the head of a line is the slot that is asked for, or another
pub times_hit : (x i : ℕ) (l : List ℕ) → x ≡ i → times i (x ∷ l) ≡ suc (times i l)
times_hit x i l e = ap (λ b. cond b (suc (times i l)) (times i l)) (eq-eqb x i e)

pub times_miss : (x i : ℕ) (l : List ℕ) → (x ≢ i) → times i (x ∷ l) ≡ times i l
times_miss x i l n = ap (λ b. cond b (suc (times i l)) (times i l)) (ne_eqb x i n)

pub before_hit : (f : ℕ → ℕ) (x i : ℕ) (l : List ℕ) → x ≡ i → before f i (x ∷ l) ≡ 0
before_hit f x i l e = ap (λ b. cond b 0 (f x + before f i l)) (eq-eqb x i e)

pub before_miss : (f : ℕ → ℕ) (x i : ℕ) (l : List ℕ) → (x ≢ i) → before f i (x ∷ l) ≡ f x + before f i l
before_miss f x i l n = ap (λ b. cond b 0 (f x + before f i l)) (ne_eqb x i n)

-- one more at the end
pub times_end_own : (i : ℕ) (l : List ℕ) → times i (l ++ (i ∷ [])) ≡ suc (times i l)
times_end_own i [] = times_hit i i [] refl
times_end_own i (x ∷ l) = let h = times_end_own i l in elim (cases_eq x i) [
  | inl e ↦ let a = times_hit x i l e in let b = times_hit x i (l ++ (i ∷ [])) e in omega arith
  | inr n ↦ let a = times_miss x i l n in let b = times_miss x i (l ++ (i ∷ [])) n in omega arith
]

pub times_end_other : (j i : ℕ) (l : List ℕ) → (i ≢ j) → times j (l ++ (i ∷ [])) ≡ times j l
times_end_other j i [] m = times_miss i j [] m
times_end_other j i (x ∷ l) m = let h = times_end_other j i l m in elim (cases_eq x j) [
  | inl e ↦ let a = times_hit x j l e in let b = times_hit x j (l ++ (i ∷ [])) e in omega arith
  | inr n ↦ let a = times_miss x j l n in let b = times_miss x j (l ++ (i ∷ [])) n in omega arith
]

-- what joins at the end is not before one that stands in line
pub before_end_in : (f : ℕ → ℕ) (j i : ℕ) (l : List ℕ) → 1 ≤ times j l → before f j (l ++ (i ∷ [])) ≡ before f j l
before_end_in f j i [] m = absurd (omega arith)
before_end_in f j i (x ∷ l) m = elim (cases_eq x j) [
  | inl e ↦ let a = before_hit f x j l e in let b = before_hit f x j (l ++ (i ∷ [])) e in omega arith
  | inr n ↦
      let t = times_miss x j l n in
      let a = before_miss f x j l n in
      let b = before_miss f x j (l ++ (i ∷ [])) n in
      let h = before_end_in f j i l (omega arith) in
      omega arith
]

-- before what joins at the end are all; k stands for one that is not in line
pub before_end_own : (f : ℕ → ℕ) (i k : ℕ) (l : List ℕ) → times i l ≡ 0 → times k l ≡ 0 → before f i (l ++ (i ∷ [])) ≡ before f k l
before_end_own f i k [] o m = before_hit f i i [] refl
before_end_own f i k (x ∷ l) o m = elim (cases_eq x i) [
  | inl e ↦ let t = times_hit x i l e in absurd (omega arith)
  | inr n ↦ elim (cases_eq x k) [
    | inl e ↦ let t = times_hit x k l e in absurd (omega arith)
    | inr u ↦
        let s = times_miss x i l n in
        let t = times_miss x k l u in
        let a = before_miss f x i (l ++ (i ∷ [])) n in
        let b = before_miss f x k l u in
        let h = before_end_own f i k l (omega arith) (omega arith) in
        omega arith
  ]
]

pub before_end_out : (f : ℕ → ℕ) (i k : ℕ) (l : List ℕ) → (i ≢ k) → times k l ≡ 0 → before f k (l ++ (i ∷ [])) ≡ before f k l + f i
before_end_out f i k [] m o = let a = before_miss f i k [] m in omega arith
before_end_out f i k (x ∷ l) m o = elim (cases_eq x k) [
  | inl e ↦ let t = times_hit x k l e in absurd (omega arith)
  | inr n ↦
      let t = times_miss x k l n in
      let a = before_miss f x k l n in
      let b = before_miss f x k (l ++ (i ∷ [])) n in
      let h = before_end_out f i k l m (omega arith) in
      omega arith
]

pub before_agree : (f g : ℕ → ℕ) (j : ℕ) (l : List ℕ) → ((x : ℕ) → 1 ≤ times x l → g x ≡ f x) → before g j l ≡ before f j l
before_agree f g j [] q = refl
before_agree f g j (x ∷ l) q =
    let p = q x (let t = times_hit x x l refl in omega arith) in
    let h = before_agree f g j l (λ y m. q y (elim (cases_eq x y) [ inl e ↦ let t = times_hit x y l e in omega arith | inr n ↦ let t = times_miss x y l n in omega arith ])) in
    ap (λ z. cond (x == j) 0 z) (omega arith)

-- one slot out of the line
pub times_without_own : (i : ℕ) (l : List ℕ) → times i (without i l) ≡ 0
times_without_own i [] = refl
times_without_own i (x ∷ l) = elim (cases_eq x i) [
  | inl e ↦ ap (times i) (without_hit x i l e) ∙ times_without_own i l
  | inr n ↦ ap (times i) (without_miss x i l n) ∙ times_miss x i (without i l) n ∙ times_without_own i l
]

pub times_without_other : (j i : ℕ) (l : List ℕ) → (j ≢ i) → times j (without i l) ≡ times j l
times_without_other j i [] m = refl
times_without_other j i (x ∷ l) m = let h = times_without_other j i l m in elim (cases_eq x i) [
  | inl e ↦ ap (times j) (without_hit x i l e) ∙ h ∙ sym (times_miss x j l (λ q. m (sym q ∙ e)))
  | inr n ↦
      let p = ap (times j) (without_miss x i l n) in
      elim (cases_eq x j) [
        | inl q ↦ let a = times_hit x j l q in let b = times_hit x j (without i l) q in omega arith
        | inr u ↦ let a = times_miss x j l u in let b = times_miss x j (without i l) u in omega arith
      ]
]

-- slot i's share of a sum
abbrev pub only : ℕ → ℕ → ℕ → ℕ
only i n x = cond (x == i) n 0

only_hit : (x i : ℕ) (n : ℕ) → x ≡ i → only i n x ≡ n
only_hit x i n e = ap (λ b. cond b n 0) (eq-eqb x i e)

only_miss : (x i : ℕ) (n : ℕ) → (x ≢ i) → only i n x ≡ 0
only_miss x i n u = ap (λ b. cond b n 0) (ne_eqb x i u)

pub before_without : (f g : ℕ → ℕ) (i j : ℕ) (l : List ℕ) → (j ≢ i) → ((x : ℕ) → (x ≢ i) → g x ≡ f x) → before f j l ≡ before g j (without i l) + before (only i (f i)) j l
before_without f g i j [] m q = omega arith
before_without f g i j (x ∷ l) m q = let h = before_without f g i j l m q in elim (cases_eq x i) [
  | inl e ↦
      let p = ap (before g j) (without_hit x i l e) in
      let n : x ≡ j → ⊥ = λ z. m (sym z ∙ e) in
      let a = before_miss f x j l n in
      let b = before_miss (only i (f i)) x j l n in
      let c = only_hit x i (f i) e in
      let d = ap f e in
      omega arith
  | inr n ↦
      let p = ap (before g j) (without_miss x i l n) in
      elim (cases_eq x j) [
        | inl z ↦
            let a = before_hit f x j l z in
            let b = before_hit g x j (without i l) z in
            let c = before_hit (only i (f i)) x j l z in
            omega arith
        | inr u ↦
            let a = before_miss f x j l u in
            let b = before_miss g x j (without i l) u in
            let c = before_miss (only i (f i)) x j l u in
            let d = only_miss x i (f i) n in
            let s = q x n in
            omega arith
      ]
]

pub only_none : (i j : ℕ) (l : List ℕ) → before (only i 0) j l ≡ 0
only_none i j [] = refl
only_none i j (x ∷ l) = let h = only_none i j l in
    let z : only i 0 x ≡ 0 = elim (cases_eq x i) [ inl e ↦ only_hit x i 0 e | inr n ↦ only_miss x i 0 n ] in
    elim (cases_eq x j) [
      | inl e ↦ before_hit (only i 0) x j l e
      | inr n ↦ let a = before_miss (only i 0) x j l n in omega arith
    ]

only_absent : (n i j : ℕ) (l : List ℕ) → times i l ≡ 0 → before (only i n) j l ≡ 0
only_absent n i j [] o = refl
only_absent n i j (x ∷ l) o = elim (cases_eq x i) [
  | inl e ↦ let t = times_hit x i l e in absurd (omega arith)
  | inr u ↦
      let t = times_miss x i l u in
      let h = only_absent n i j l (omega arith) in
      let z = only_miss x i n u in
      elim (cases_eq x j) [
        | inl e ↦ before_hit (only i n) x j l e
        | inr v ↦ let a = before_miss (only i n) x j l v in omega arith
      ]
]

-- a slot with nothing that weighs before it stands before every slot that weighs, or that has something before it that does
pub only_passed : (w : ℕ → ℕ) (n i j : ℕ) (l : List ℕ) → (j ≢ i) → before w i l ≡ 0 → times j l ≤ w j + before w j l → times i l ≡ 1 → before (only i n) j l ≡ n
only_passed w n i j [] m z h o = absurd (omega arith)
only_passed w n i j (x ∷ l) m z h o = elim (cases_eq x i) [
  | inl e ↦
      let t = times_hit x i l e in
      let u : x ≡ j → ⊥ = λ y. m (sym y ∙ e) in
      let a = before_miss (only i n) x j l u in
      let b = only_hit x i n e in
      let c = only_absent n i j l (omega arith) in
      omega arith
  | inr u ↦
      let t = times_miss x i l u in
      let a = before_miss w x i l u in
      elim (cases_eq x j) [
        | inl e ↦ let y = times_hit x j l e in let v = ap w e in let d = before_hit w x j l e in absurd (omega arith)
        | inr v ↦
            let y = times_miss x j l v in
            let d = before_miss w x j l v in
            let b = before_miss (only i n) x j l v in
            let c = only_miss x i n u in
            let r = only_passed w n i j l m (omega arith) (omega arith) (omega arith) in
            omega arith
      ]
]

-- of two slots in line, one has the other before it
pub one_first : (v w : ℕ → ℕ) (i j : ℕ) (l : List ℕ) → (j ≢ i) → 1 ≤ times i l → 1 ≤ times j l → before v i l ≡ 0 → 1 ≤ v j → before w j l ≡ 0 → 1 ≤ w i → ⊥
one_first v w i j [] m a b c d e f = omega arith
one_first v w i j (x ∷ l) m a b c d e f = elim (cases_eq x i) [
  | inl q ↦
      let s = before_miss w x j l (λ y. m (sym y ∙ q)) in
      let t = ap w q in
      omega arith
  | inr n ↦ elim (cases_eq x j) [
    | inl q ↦ let s = before_miss v x i l n in let t = ap v q in omega arith
    | inr u ↦
        let p = times_miss x i l n in
        let q = times_miss x j l u in
        let s = before_miss v x i l n in
        let t = before_miss w x j l u in
        one_first v w i j l m (omega arith) (omega arith) (omega arith) d (omega arith) f
  ]
]

pub before_sum : (f g : ℕ → ℕ) (j : ℕ) (l : List ℕ) → before (λ x. f x + g x) j l ≡ before f j l + before g j l
before_sum f g j [] = omega arith
before_sum f g j (x ∷ l) = let h = before_sum f g j l in elim (cases_eq x j) [
  | inl e ↦ let p = before_hit (λ y. f y + g y) x j l e in let a = before_hit f x j l e in let b = before_hit g x j l e in omega arith
  | inr n ↦ let p = before_miss (λ y. f y + g y) x j l n in let a = before_miss f x j l n in let b = before_miss g x j l n in omega arith
]

pub before_le : (f : ℕ → ℕ) (j : ℕ) (l : List ℕ) → ((x : ℕ) → f x ≤ 1) → before f j l ≤ length l
before_le f j [] o = omega arith
before_le f j (x ∷ l) o = let h = before_le f j l o in let u = o x in elim (cases_eq x j) [
  | inl e ↦ let a = before_hit f x j l e in omega arith
  | inr n ↦ let a = before_miss f x j l n in omega arith
]

length_without : (i : ℕ) (l : List ℕ) → length l ≡ length (without i l) + times i l
length_without i [] = omega arith
length_without i (x ∷ l) = let h = length_without i l in elim (cases_eq x i) [
  | inl e ↦ let a = ap length (without_hit x i l e) in let t = times_hit x i l e in omega arith
  | inr n ↦ let a = ap length (without_miss x i l n) in let t = times_miss x i l n in omega arith
]

none_below : (l : List ℕ) → ((x : ℕ) → 1 ≤ times x l → x < 0) → length l ≤ 0
none_below [] f = omega arith
none_below (x ∷ l) f = let t = times_hit x x l refl in let z = f x (omega arith) in omega arith

-- slots below n that stand once are at most n
pub few : (n : ℕ) (l : List ℕ) → ((x : ℕ) → times x l ≤ 1) → ((x : ℕ) → 1 ≤ times x l → x < n) → length l ≤ n
few zero l o f = none_below l f
few (suc n) l o f =
    let own = times_without_own n l in
    let h = few n (without n l)
    (λ x. elim (cases_eq x n) [ inl e ↦ let a = ap (λ y. times y (without n l)) e in omega arith | inr u ↦ let a = times_without_other x n l u in let b = o x in omega arith ])
    (λ x m. elim (cases_eq x n) [ inl e ↦ let a = ap (λ y. times y (without n l)) e in absurd (omega arith) | inr u ↦ let a = times_without_other x n l u in let b = f x (omega arith) in omega arith ]) in
    let w = length_without n l in
    let b = o n in
    omega arith

-- the first in line
abbrev pub heads : List ℕ → ℕ → Bool
heads [] x = false
heads (y ∷ l) x = y == x

pub head_times : (l : List ℕ) (x : ℕ) → heads l x ≡ true → 1 ≤ times x l
head_times [] x e = absurd (cc)
head_times (y ∷ l) x e = let t = times_hit y x l (eqb-true y x e) in omega arith

pub head_before : (f : ℕ → ℕ) (l : List ℕ) (x : ℕ) → heads l x ≡ true → before f x l ≡ 0
head_before f [] x e = refl
head_before f (y ∷ l) x e = before_hit f y x l (eqb-true y x e)

pub head_end : (l : List ℕ) (i x : ℕ) → heads l x ≡ true → heads (l ++ (i ∷ [])) x ≡ true
head_end [] i x e = absurd (cc)
head_end (y ∷ l) i x e = e

pub head_some : (l : List ℕ) (j : ℕ) → 1 ≤ times j l → (x : ℕ) × (heads l x ≡ true)
head_some [] j m = absurd (omega arith)
head_some (y ∷ l) j m = (y, eq-eqb y y refl)

pub before_mono : (f g : ℕ → ℕ) (j : ℕ) (l : List ℕ) → ((x : ℕ) → g x ≤ f x) → before g j l ≤ before f j l
before_mono f g j [] q = omega arith
before_mono f g j (x ∷ l) q = let h = before_mono f g j l q in let p = q x in elim (cases_eq x j) [
  | inl e ↦ let a = before_hit f x j l e in let b = before_hit g x j l e in omega arith
  | inr n ↦ let a = before_miss f x j l n in let b = before_miss g x j l n in omega arith
]

-- the first slot's share falls
pub before_falls : (f g : ℕ → ℕ) (i j : ℕ) (l : List ℕ) → heads l i ≡ true → (i ≢ j) → ((x : ℕ) → g x ≤ f x) → g i < f i → before g j l < before f j l
before_falls f g i j [] e n q h = absurd (cc)
before_falls f g i j (x ∷ l) e n q h =
    let y = eqb-true x i e in
    let m : x ≡ j → ⊥ = λ z. n (sym y ∙ z) in
    let a = before_miss f x j l m in
    let b = before_miss g x j l m in
    let c = before_mono f g j l q in
    let u = ap f y in
    let v = ap g y in
    omega arith

-- the slots before j weigh at most c each, and j stands in line too
pub before_few : (f : ℕ → ℕ) (c j : ℕ) (l : List ℕ) → ((x : ℕ) → f x ≤ c) → 1 ≤ times j l → before f j l + c ≤ c * length l
before_few f c j [] q m = absurd (omega arith)
before_few f c j (x ∷ l) q m = elim (cases_eq x j) [
  | inl e ↦ let a = before_hit f x j l e in omega arith
  | inr n ↦ let t = times_miss x j l n in let a = before_miss f x j l n in let h = before_few f c j l q (omega arith) in let u = q x in omega arith
]

-- sums over the slots, with nothing from n on
pub total_few : (f : ℕ → ℕ) (m n : ℕ) → ((x : ℕ) → f x ≤ 1) → ((x : ℕ) → n ≤ x → f x ≡ 0) → total f m ≤ n
unfolding total
total_few f zero n o q = omega arith
total_few f (suc m) n o q = elim (cases_lt m n) [
  | inl l ↦ let a = total_le f 1 m o in let b = o m in omega arith
  | inr g ↦ let a = total_few f m n o q in let b = q m g in omega arith
]

pub total_some : (f : ℕ → ℕ) (n : ℕ) → 1 ≤ total f n → (x : ℕ) × (1 ≤ f x)
unfolding total
total_some f zero h = absurd (omega arith)
total_some f (suc n) h = elim (cases_lt 0 (f n)) [
  | inl l ↦ (n, omega arith)
  | inr g ↦ total_some f n (omega arith)
]

-- a half that is counted some times, fewer than it takes to come round, is another
adv_closed : (v n : ℕ) → adv v (suc n) ≡ (v + n) % 32768 + 1
adv_closed v zero = ap (λ x. x % 32768 + 1) (omega arith)
adv_closed v (suc n) = let h = adv_closed v n in omega arith

pub adv_none : (v n : ℕ) → n ≤ 64 → adv v n ≡ v → n ≡ 0
adv_none v zero h e = refl
adv_none v (suc n) h e = let c = adv_closed v n in absurd (omega arith)
