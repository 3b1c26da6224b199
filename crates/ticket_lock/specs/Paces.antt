-- How far a waiting job is from its hold, and what a turn does to that.
use Rattle.std.proofs.Common.{◌≡◌, ℕ, ◌+◌, ◌<◌, ◌≤◌, Bool, true, false, cond, eqb, ◌⊎◌, [], ◌∷◌, ◌++◌, sym, refl, ap, ◌∙◌, subst, inl, inr, arith}
use Rattle.std.proofs.lemmas.Bool.{eqb-true, eqb-false, cases_eq}
use Rattle.lined_lock.specs.Totals.{total, total_one}
use Rattle.lock.specs.Line.{arrives, without}
use Rattle.lock.specs.Meaning.{steps_from}
use Rattle.lock.specs.Progress.{Goes, rests, calls, steps, works, finishes, AtMost, longest_hold}
use Rattle.lock.specs.declared.words.Class.{Class}
use Rattle.lock.specs.declared.words.Class.TheVariants.{Reading, Writing}
use Rattle.lock.specs.declared.words.Phase.TheVariants.{Waits}
use Rattle.lined_lock.specs.Lock.{phases, line_of, Calls, Steps, Finishes}
use Rattle.ticket_lock.specs.Order.{times, before, adv, reads, writes, read_leaves, write_leaves, readers_ahead, writers_ahead}
use Rattle.ticket_lock.specs.Ticket.{TicketLock, ticket}
use Rattle.ticket_lock.specs.Counts.{only, only_passed, before_without, before_sum, before_agree, before_end_in, heads, head_times, head_before, head_end, before_mono, before_falls}
use Rattle.ticket_lock.specs.Kept.{fit_at, idle_is}
use Rattle.ticket_lock.specs.Laws.{Becomes, becomes, called_becomes, holds_is}
use Rattle.ticket_words.specs.Counting.{lower, upper}
use Rattle.ticket_words.specs.Places.{phase_of}
use Rattle.ticket_words.specs.Steps.{stands_at, kept_by, next_standing, called_standing, finished_standing}
use Rattle.ticket_words.specs.declared.standing.Standing.{Standing}
use Rattle.ticket_words.specs.declared.standing.Standing.TheVariants.{I, T1, T2, T3, T4, T5, T6, ReaderH, WriterH}

-- where each slot stands after a move of the lock
pub calls_becomes : (s : TicketLock) (i : ℕ) (c : Class) (t : TicketLock) → i < 32 → Calls s i c t → Becomes s.words i (called_standing I c) t.words
calls_becomes s i c t lt m = subst (Becomes s.words i (called_standing I c)) (sym m.words) (called_becomes s.words i c s.keeps.full lt m.idle)

pub steps_becomes : (s : TicketLock) (i : ℕ) (t : TicketLock) → i < 32 → Steps s i t → Becomes s.words i (next_standing (stands_at s.words i) (kept_by s.words i) s.words.completions) t.words
steps_becomes s i t lt m = subst (Becomes s.words i _) (sym m.words) (becomes s.words i _ _ _ _ lt s.keeps.full)

pub finishes_becomes : (s : TicketLock) (i : ℕ) (t : TicketLock) → i < 32 → Finishes s i t → Becomes s.words i (finished_standing (stands_at s.words i)) t.words
finishes_becomes s i t lt m = subst (Becomes s.words i _) (sym m.words) (becomes s.words i _ _ _ _ lt s.keeps.full)

-- the turns that a slot has left till it is counted out
abbrev pub weight : Standing → ℕ → ℕ
weight I n = 0
weight T1 n = 0
weight T2 n = longest_hold + 2
weight T3 n = 1
weight T4 n = 0
weight T5 n = longest_hold + 2
weight T6 n = 1
weight ReaderH n = 1 + n
weight WriterH n = 1 + n

abbrev pub load : TicketLock → (ℕ → ℕ) → ℕ → ℕ
load s f x = weight (stands_at s.words x) (f x)

abbrev pub leaves : Standing → ℕ
leaves x = read_leaves x + write_leaves x

-- how many slots leave
abbrev pub gone : TicketLock → ℕ
gone s = total (λ x. read_leaves (stands_at s.words x)) 32 + total (λ x. write_leaves (stands_at s.words x)) 32

-- the turns of those that leave and of those before j in line
abbrev pub ahead : TicketLock → (ℕ → ℕ) → ℕ → ℕ
ahead s f j = gone s + before (load s f) j (line_of s)

-- those that leave are let out first, and then the first in line moves
abbrev pub leads : TicketLock → ℕ → Bool
leads s x = cond (eqb (gone s) 0) (heads (line_of s) x) (eqb (leaves (stands_at s.words x)) 1)

leads_by : (h : Bool) (n m : ℕ) (b : Bool) → eqb n 0 ≡ b → cond b h (eqb m 1) ≡ true → ((n ≡ 0) × (h ≡ true)) ⊎ (m ≡ 1)
leads_by h n m true e z = inl (eqb-true n 0 e, z)
leads_by h n m false e z = inr (eqb-true m 1 z)

pub leads_is : (s : TicketLock) (x : ℕ) → leads s x ≡ true → ((gone s ≡ 0) × (heads (line_of s) x ≡ true)) ⊎ (leaves (stands_at s.words x) ≡ 1)
leads_is s x e = leads_by _ _ _ _ refl e

leads_keep : (s t : TicketLock) (x : ℕ) → gone t ≡ gone s → (heads (line_of s) x ≡ true → heads (line_of t) x ≡ true) → stands_at t.words x ≡ stands_at s.words x → leads s x ≡ true → leads t x ≡ true
leads_keep s t x e h q z =
    subst (λ n. cond (eqb n 0) (heads (line_of t) x) (eqb (leaves (stands_at t.words x)) 1) ≡ true) (sym e)
    (subst (λ y. cond (eqb (gone s) 0) (heads (line_of t) x) (eqb (leaves y) 1) ≡ true) (sym q) (pick (eqb (gone s) 0) z))
  where
    pick : (b : Bool) → cond b (heads (line_of s) x) (eqb (leaves (stands_at s.words x)) 1) ≡ true → cond b (heads (line_of t) x) (eqb (leaves (stands_at s.words x)) 1) ≡ true
    pick true z = h z
    pick false z = z

-- what a turn of slot i does for j, which waits, and whose test is false, before and after it
pub record Fine (s t : TicketLock) (f g : ℕ → ℕ) (i j : ℕ) : Type 0 where
  pub le : ahead t g j ≤ ahead s f j
  pub falls : leads s i ≡ true → ahead t g j < ahead s f j
  pub lasts : (x : ℕ) → (x ≡ i → ⊥) → leads s x ≡ true → (leads t x ≡ true) ⊎ (ahead t g j < ahead s f j)

drops : (s t : TicketLock) (f g : ℕ → ℕ) (i j : ℕ) → ahead t g j < ahead s f j → Fine s t f g i j
drops s t f g i j h = record { le = omega arith; falls = λ e. h; lasts = λ x n e. inr h }

-- only slot i has moved, or worked
pub record Others (s t : TicketLock) (f g : ℕ → ℕ) (i : ℕ) : Type 0 where
  pub slot : i < 32
  pub stand : (x : ℕ) → (x ≡ i → ⊥) → stands_at t.words x ≡ stands_at s.words x
  pub keep : (x : ℕ) → (x ≡ i → ⊥) → kept_by t.words x ≡ kept_by s.words x
  pub left : (x : ℕ) → (x ≡ i → ⊥) → g x ≡ f x

pub goes_others : (s t : TicketLock) (f g : ℕ → ℕ) (i : ℕ) → i < 32 → Goes ticket s f i t g → Others s t f g i
goes_others s t f g i lt (rests e q m) = record { slot = lt; stand = λ x n. ap (λ y. stands_at y.words x) q; keep = λ x n. ap (λ y. kept_by y.words x) q; left = m.others }
goes_others s t f g i lt (calls c m l) = let b = calls_becomes s i c t lt m in record { slot = lt; stand = b.stands.others; keep = b.keeps; left = l.others }
goes_others s t f g i lt (steps m q) = let b = steps_becomes s i t lt m in record { slot = lt; stand = b.stands.others; keep = b.keeps; left = λ x n. ap (λ y. y x) q }
goes_others s t f g i lt (works e q z o m) = record { slot = lt; stand = λ x n. ap (λ y. stands_at y.words x) q; keep = λ x n. ap (λ y. kept_by y.words x) q; left = m.others }
goes_others s t f g i lt (finishes m z l) = let b = finishes_becomes s i t lt m in record { slot = lt; stand = b.stands.others; keep = b.keeps; left = l.others }

pub same_load : {s t : TicketLock} {f g : ℕ → ℕ} {i : ℕ} → Others s t f g i → (x : ℕ) → (x ≡ i → ⊥) → load t g x ≡ load s f x
same_load {s} {t} {f} {g} o x n = ap (λ y. weight y (g x)) (o.stand x n) ∙ ap (weight (stands_at s.words x)) (o.left x n)

gone_moved : {s t : TicketLock} {f g : ℕ → ℕ} {i : ℕ} → Others s t f g i → gone t + leaves (stands_at s.words i) ≡ gone s + leaves (stands_at t.words i)
gone_moved {s} {t} {f} {g} {i} o =
    let a = stands_at s.words in
    let b = stands_at t.words in
    let r = total_one (λ x. read_leaves (a x)) (λ x. read_leaves (b x)) i 32 (λ x n. ap read_leaves (o.stand x n)) o.slot in
    let w = total_one (λ x. write_leaves (a x)) (λ x. write_leaves (b x)) i 32 (λ x n. ap write_leaves (o.stand x n)) o.slot in
    omega arith

-- the line stays, nobody comes to leave, and slot i does not weigh more
still : {s t : TicketLock} {f g : ℕ → ℕ} {i j : ℕ} → Others s t f g i → line_of t ≡ line_of s → leaves (stands_at s.words i) ≡ 0 → leaves (stands_at t.words i) ≡ 0 → load t g i ≤ load s f i → (gone s ≡ 0 → heads (line_of s) i ≡ true → (i ≡ j → ⊥) × (load t g i < load s f i)) → Fine s t f g i j
still {s} {t} {f} {g} {i} {j} o q z y m fl =
    let e : gone t ≡ gone s = let u = gone_moved o in omega arith in
    let p : (x : ℕ) → load t g x ≤ load s f x = λ x. elim (cases_eq x i) [ inl w ↦ subst (λ v. load t g v ≤ load s f v) (sym w) m | inr n ↦ let u = same_load o x n in omega arith ] in
    let c = before_mono (load s f) (load t g) j (line_of s) p in
    let r = ap (before (load t g) j) q in
    record {
      le = omega arith;
      falls = λ h. elim (leads_is s i h) [
        | inl u ↦ let v = fl u.0 u.1 in let k = before_falls (load s f) (load t g) i j (line_of s) u.1 v.0 p v.1 in omega arith
        | inr u ↦ absurd (omega arith)
      ];
      lasts = λ x n h. inl (leads_keep s t x e (λ w. subst (λ l. heads l x ≡ true) (sym q) w) (o.stand x n) h);
    }

-- where a slot stands, what of it stays in line
pub in_line_of : (s : TicketLock) (i : ℕ) (x : Standing) → stands_at s.words i ≡ x → reads x + writes x ≡ 0 → heads (line_of s) i ≡ true → ⊥
in_line_of s i x e z h = let t = s.keeps.sound.lined i in let u = ap (λ y. reads y + writes y) e in let m = head_times (line_of s) i h in omega arith

-- slot i joins the line behind j
joining : {s t : TicketLock} {f g : ℕ → ℕ} {i j : ℕ} → Others s t f g i → line_of t ≡ line_of s ++ (i ∷ []) → (x : Standing) → stands_at s.words i ≡ x → reads x + writes x ≡ 0 → leaves x ≡ 0 → leaves (stands_at t.words i) ≡ 0 → 1 ≤ times j (line_of s) → Fine s t f g i j
joining {s} {t} {f} {g} {i} {j} o q x e z y w m =
    let v = ap leaves e in
    let n : gone t ≡ gone s = let u = gone_moved o in omega arith in
    let a = before_end_in (load t g) j i (line_of s) m in
    let b = before_agree (load s f) (load t g) j (line_of s) (λ y k. same_load o y (λ d. let t = s.keeps.sound.lined i in let u = ap (λ y. reads y + writes y) e in let c = ap (λ v. times v (line_of s)) d in omega arith)) in
    let r = ap (before (load t g) j) q in
    record {
      le = omega arith;
      falls = λ h. elim (leads_is s i h) [ inl u ↦ absurd (in_line_of s i x e z u.1) | inr u ↦ absurd (omega arith) ];
      lasts = λ y k h. inl (leads_keep s t y n (λ c. subst (λ l. heads l y ≡ true) (sym q) (head_end (line_of s) i y c)) (o.stand y k) h);
    }

-- slot i is counted out
counted_out : {s t : TicketLock} {f g : ℕ → ℕ} {i j : ℕ} → Others s t f g i → line_of t ≡ line_of s → leaves (stands_at s.words i) ≡ 1 → stands_at t.words i ≡ I → Fine s t f g i j
counted_out {s} {t} {f} {g} {i} {j} o q z y =
    let u = gone_moved o in
    let v = ap leaves y in
    let w = ap (λ x. weight x (g i)) y in
    let p : (x : ℕ) → load t g x ≤ load s f x = λ x. elim (cases_eq x i) [ inl k ↦ let d = ap (load t g) k in omega arith | inr n ↦ let d = same_load o x n in omega arith ] in
    let c = before_mono (load s f) (load t g) j (line_of s) p in
    let r = ap (before (load t g) j) q in
    drops s t f g i j (omega arith)

-- slot i's hold finishes, and it stood before j
quitting : {s t : TicketLock} {f g : ℕ → ℕ} {i j : ℕ} → Others s t f g i → line_of t ≡ without i (line_of s) → leaves (stands_at s.words i) ≡ 0 → leaves (stands_at t.words i) ≡ 1 → load s f i ≡ 2 → (j ≡ i → ⊥) → before (only i 2) j (line_of s) ≡ 2 → Fine s t f g i j
quitting {s} {t} {f} {g} {i} {j} o q z y e n b =
    let u = gone_moved o in
    let c = before_without (load s f) (load t g) i j (line_of s) n (same_load o) in
    let d = ap (λ v. before (only i v) j (line_of s)) e in
    let r = ap (before (load t g) j) q in
    drops s t f g i j (omega arith)

-- whether a waiting slot's test is true
abbrev pub test : Standing → ℕ → ℕ → Bool
test I k c = false
test T1 k c = false
test T2 k c = eqb (lower c) k
test T3 k c = false
test T4 k c = false
test T5 k c = eqb c k
test T6 k c = false
test ReaderH k c = false
test WriterH k c = false

abbrev pub free : TicketLock → ℕ → Bool
free s j = test (stands_at s.words j) (kept_by s.words j) s.words.completions

pub free_at : (s : TicketLock) (j : ℕ) (x : Standing) (b : Bool) → stands_at s.words j ≡ x → free s j ≡ b → test x (kept_by s.words j) s.words.completions ≡ b
free_at s j x b e z = subst (λ y. test y (kept_by s.words j) s.words.completions ≡ b) e z

pub waits_is : (x : Standing) → phase_of x ≡ Waits → (x ≡ T2) ⊎ (x ≡ T5)
waits_is I e = absurd (cc)
waits_is T1 e = absurd (cc)
waits_is T2 e = inl refl
waits_is T3 e = absurd (cc)
waits_is T4 e = absurd (cc)
waits_is T5 e = inr refl
waits_is T6 e = absurd (cc)
waits_is ReaderH e = absurd (cc)
waits_is WriterH e = absurd (cc)

pub waits_lined : (s : TicketLock) (j : ℕ) → phases s j ≡ Waits → 1 ≤ times j (line_of s)
waits_lined s j e = elim (waits_is _ e) [
  | inl q ↦ let t = s.keeps.sound.lined j in let u = ap (λ y. reads y + writes y) q in omega arith
  | inr q ↦ let t = s.keeps.sound.lined j in let u = ap (λ y. reads y + writes y) q in omega arith
]

-- the first in line, when nobody leaves, has a true test
first_reader : (s : TicketLock) (i : ℕ) → stands_at s.words i ≡ T2 → gone s ≡ 0 → heads (line_of s) i ≡ true → lower s.words.completions ≡ kept_by s.words i
first_reader s i e z h =
    let b = head_before (λ x. writes (stands_at s.words x)) (line_of s) i h in
    let w : writers_ahead (stands_at s.words) (line_of s) i ≡ 0 = omega arith in
    sym (fit_at s.keeps i T2 e ∙ ap (adv (lower s.words.completions)) w)

first_writer : (s : TicketLock) (i : ℕ) → stands_at s.words i ≡ T5 → gone s ≡ 0 → heads (line_of s) i ≡ true → s.words.completions ≡ kept_by s.words i
first_writer s i e z h =
    let b = head_before (λ x. writes (stands_at s.words x)) (line_of s) i h in
    let d = head_before (λ x. reads (stands_at s.words x)) (line_of s) i h in
    let w : writers_ahead (stands_at s.words) (line_of s) i ≡ 0 = omega arith in
    let r : readers_ahead (stands_at s.words) (line_of s) i ≡ 0 = omega arith in
    let f = fit_at s.keeps i T5 e in
    let lo : lower (kept_by s.words i) ≡ lower s.words.completions = f.0 ∙ ap (adv (lower s.words.completions)) w in
    let up : upper (kept_by s.words i) ≡ upper s.words.completions = f.1 ∙ ap (adv (upper s.words.completions)) r in
    omega arith

-- a waiting reader's turn, and a waiting writer's
reader_fine : {s t : TicketLock} {f g : ℕ → ℕ} {i j : ℕ} → Others s t f g i → AtMost longest_hold g → line_of t ≡ line_of s → phases t j ≡ Waits → stands_at s.words i ≡ T2 → (b : Bool) → eqb (lower s.words.completions) (kept_by s.words i) ≡ b → stands_at t.words i ≡ cond b ReaderH T2 → Fine s t f g i j
reader_fine {s} {t} {f} {g} {i} {j} o sm q w e true z d =
    let u = ap (λ x. weight x (f i)) e in
    let v = ap (λ x. weight x (g i)) d in
    let m = sm i in
    still o q (ap leaves e) (ap leaves d) (omega arith) (λ y h. (λ k. absurd (let r = ap (phases t) k in let p = ap phase_of d in cc), omega arith))
reader_fine {s} {t} {f} {g} {i} {j} o sm q w e false z d =
    let u = ap (λ x. weight x (f i)) e in
    let v = ap (λ x. weight x (g i)) d in
    still o q (ap leaves e) (ap leaves d) (omega arith) (λ y h. absurd (eqb-false _ _ z (first_reader s i e y h)))

writer_fine : {s t : TicketLock} {f g : ℕ → ℕ} {i j : ℕ} → Others s t f g i → AtMost longest_hold g → line_of t ≡ line_of s → phases t j ≡ Waits → stands_at s.words i ≡ T5 → (b : Bool) → eqb s.words.completions (kept_by s.words i) ≡ b → stands_at t.words i ≡ cond b WriterH T5 → Fine s t f g i j
writer_fine {s} {t} {f} {g} {i} {j} o sm q w e true z d =
    let u = ap (λ x. weight x (f i)) e in
    let v = ap (λ x. weight x (g i)) d in
    let m = sm i in
    still o q (ap leaves e) (ap leaves d) (omega arith) (λ y h. (λ k. absurd (let r = ap (phases t) k in let p = ap phase_of d in cc), omega arith))
writer_fine {s} {t} {f} {g} {i} {j} o sm q w e false z d =
    let u = ap (λ x. weight x (f i)) e in
    let v = ap (λ x. weight x (g i)) d in
    still o q (ap leaves e) (ap leaves d) (omega arith) (λ y h. absurd (eqb-false _ _ z (first_writer s i e y h)))

step_fine : {s t : TicketLock} {f g : ℕ → ℕ} {i j : ℕ} → Others s t f g i → AtMost longest_hold g → phases s j ≡ Waits → phases t j ≡ Waits → (x : Standing) → stands_at s.words i ≡ x → steps_from (phase_of x) (Unit {0}) ⊥ → stands_at t.words i ≡ next_standing x (kept_by s.words i) s.words.completions → line_of t ≡ arrives (phase_of x) i (line_of s) → Fine s t f g i j
step_fine o sm a b I e m h l = absurd m
step_fine {s} {t} {f} {g} {i} {j} o sm a b T1 e m h l = joining o l T1 e refl refl (ap leaves h) (waits_lined s j a)
step_fine o sm a b T2 e m h l = reader_fine o sm l b e _ refl h
step_fine o sm a b T3 e m h l = counted_out o l (ap leaves e) h
step_fine {s} {t} {f} {g} {i} {j} o sm a b T4 e m h l = joining o l T4 e refl refl (ap leaves h) (waits_lined s j a)
step_fine o sm a b T5 e m h l = writer_fine o sm l b e _ refl h
step_fine o sm a b T6 e m h l = counted_out o l (ap leaves e) h
step_fine o sm a b ReaderH e m h l = absurd m
step_fine o sm a b WriterH e m h l = absurd m

called_light : (c : Class) (n : ℕ) → (weight (called_standing I c) n ≡ 0) × (leaves (called_standing I c) ≡ 0)
called_light Reading n = (refl, refl)
called_light Writing n = (refl, refl)

pub holding_load : (x : Standing) (n : ℕ) → (x ≡ ReaderH) ⊎ (x ≡ WriterH) → (weight x n ≡ 1 + n) × (leaves x ≡ 0) × (leaves (finished_standing x) ≡ 1)
holding_load x n (inl e) = (ap (λ y. weight y n) e, ap leaves e, ap (λ y. leaves (finished_standing y)) e)
holding_load x n (inr e) = (ap (λ y. weight y n) e, ap leaves e, ap (λ y. leaves (finished_standing y)) e)

-- a holding slot stands before j, whose test is false
holder_before : (s : TicketLock) (i j : ℕ) → (j ≡ i → ⊥) → free s j ≡ false → (stands_at s.words j ≡ T2) ⊎ (stands_at s.words j ≡ T5) → (stands_at s.words i ≡ ReaderH) ⊎ (stands_at s.words i ≡ WriterH) → before (only i 2) j (line_of s) ≡ 2
holder_before s i j n z w (inl e) =
    let a : ℕ → Standing = stands_at s.words in
    let h : writers_ahead a (line_of s) i ≡ 0 = fit_at s.keeps i ReaderH e in
    let t = s.keeps.sound.lined j in
    let p : times j (line_of s) ≤ writes (a j) + before (λ x. writes (a x)) j (line_of s) = elim w [
      | inl q ↦
          let u = ap (λ y. reads y + writes y) q in
          let v : writers_ahead a (line_of s) j ≡ 0 → ⊥ = λ y. eqb-false _ _ (free_at s j T2 false q z) (sym (fit_at s.keeps j T2 q ∙ ap (adv (lower s.words.completions)) y)) in
          omega arith
      | inr q ↦ let u = ap (λ y. reads y + writes y) q in let v = ap writes q in omega arith
    ] in
    only_passed (λ x. writes (a x)) 2 i j (line_of s) n (omega arith) p (s.keeps.sound.lined i ∙ ap (λ y. reads y + writes y) e)
holder_before s i j n z w (inr e) =
    let a : ℕ → Standing = stands_at s.words in
    let h = fit_at s.keeps i WriterH e in
    let u = h.0 in
    let v = h.1 in
    let k = before_sum (λ x. reads (a x)) (λ x. writes (a x)) i (line_of s) in
    let t = s.keeps.sound.lined j in
    only_passed (λ x. reads (a x) + writes (a x)) 2 i j (line_of s) n (omega arith) (omega arith) (s.keeps.sound.lined i ∙ ap (λ y. reads y + writes y) e)

pub goes_fine : (s t : TicketLock) (f g : ℕ → ℕ) (i j : ℕ) → i < 32 → AtMost longest_hold g → phases s j ≡ Waits → phases t j ≡ Waits → free s j ≡ false → Goes ticket s f i t g → Fine s t f g i j
goes_fine s t f g i j lt sm a b z (rests e q m) =
    let d = idle_is _ e in
    let h = ap (λ y. stands_at y.words i) q ∙ d in
    let u = ap (λ x. weight x (f i)) d in
    let v = ap (λ x. weight x (g i)) h in
    still (goes_others s t f g i lt (rests e q m)) (ap line_of q) (ap leaves d) (ap leaves h) (omega arith) (λ y w. absurd (in_line_of s i I d refl w))
goes_fine s t f g i j lt sm a b z (calls c m l) =
    let d = idle_is _ m.idle in
    let h = (calls_becomes s i c t lt m).stands.here in
    let k = called_light c (g i) in
    let u = ap (λ x. weight x (f i)) d in
    let v = ap (λ x. weight x (g i)) h ∙ k.0 in
    still (goes_others s t f g i lt (calls c m l)) m.same (ap leaves d) (ap leaves h ∙ k.1) (omega arith) (λ y w. absurd (in_line_of s i I d refl w))
goes_fine s t f g i j lt sm a b z (steps m q) = step_fine (goes_others s t f g i lt (steps m q)) sm a b (stands_at s.words i) refl m.moves (steps_becomes s i t lt m).stands.here m.arrived
goes_fine s t f g i j lt sm a b z (works e q y o m) =
    let d = holds_is _ e in
    let h = ap (λ y. stands_at y.words i) q in
    let k = holding_load _ (f i) d in
    let u = k.0 in
    let v = ap (λ x. weight x (g i)) h ∙ (holding_load _ (g i) d).0 in
    still (goes_others s t f g i lt (works e q y o m)) (ap line_of q) k.1 (ap leaves h ∙ k.1) (omega arith) (λ w c. (λ r. absurd (let p = ap (phases s) r in cc), omega arith))
goes_fine s t f g i j lt sm a b z (finishes m y l) =
    let d = holds_is _ m.holds in
    let h = (finishes_becomes s i t lt m).stands.here in
    let k = holding_load _ (f i) d in
    let u = k.0 in
    let n : j ≡ i → ⊥ = λ r. absurd (let p = ap (phases s) r in let c = m.holds in cc) in
    quitting (goes_others s t f g i lt (finishes m y l)) m.quit k.1 (ap leaves h ∙ k.2) (omega arith) n (holder_before s i j n z (waits_is _ a) d)
