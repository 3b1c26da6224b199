-- The ticket lock keeps the promise of progress.
use Rattle.std.proofs.Common.{◌≡◌, ℕ, suc, ◌+◌, ◌*◌, ◌<◌, ◌≤◌, Bool, true, false, cond, eqb, ◌⊎◌, sym, refl, ap, ◌∙◌, subst, inl, inr, arith}
use Rattle.std.proofs.lemmas.Bool.{eq-eqb, eqb-true, eqb-false, cases_eq, cases_lt}
use Rattle.lined_lock.specs.Totals.{total, total_at}
use Rattle.lock.specs.Meaning.{steps_from}
use Rattle.lock.specs.Progress.{Goes, rests, calls, steps, works, finishes, AtMost, longest_hold, rounds_a_slot, Turns, Falls, Below, Waiting, Going, Progress}
use Rattle.lock.specs.declared.words.Phase.TheVariants.{Idle, Waits, Holds, Leaves}
use Rattle.lined_lock.specs.Lock.{phases, line_of, Steps}
use Rattle.ticket_lock.specs.Order.{read_leaves, write_leaves, readers_ahead, writers_ahead}
use Rattle.ticket_lock.specs.Ticket.{TicketLock, ticket}
use Rattle.ticket_lock.specs.Counts.{total_few, total_some, heads, head_some, before_few}
use Rattle.ticket_lock.specs.Kept.{idle_is, lower_read, reader_free, writer_free}
use Rattle.ticket_lock.specs.Laws.{holds_is}
use Rattle.ticket_lock.specs.Paces.{steps_becomes, finishes_becomes, weight, load, leaves, gone, ahead, leads, leads_is, goes_fine, Others, goes_others, same_load, test, free, free_at, waits_is, waits_lined, in_line_of, holding_load}
use Rattle.ticket_lock.specs.Sound.{line_few, once}
use Rattle.ticket_words.specs.Counting.{lower}
use Rattle.ticket_words.specs.Places.{phase_of}
use Rattle.ticket_words.specs.Steps.{stands_at, kept_by, next_standing, next_completions, finished_standing}
use Rattle.ticket_words.specs.declared.standing.Standing.{Standing}
use Rattle.ticket_words.specs.declared.standing.Standing.TheVariants.{I, T1, T2, T3, T4, T5, T6, ReaderH, WriterH}

-- the step of a waiting slot whose test is true lets it hold
free_holds : (s : TicketLock) (j : ℕ) → free s j ≡ true → (stands_at s.words j ≡ T2) ⊎ (stands_at s.words j ≡ T5) → phase_of (next_standing (stands_at s.words j) (kept_by s.words j) s.words.completions) ≡ Holds
free_holds s j z (inl e) =
    ap (λ x. phase_of (next_standing x (kept_by s.words j) s.words.completions)) e ∙ ap (λ b. phase_of (cond b ReaderH T2)) (free_at s j T2 true e z)
free_holds s j z (inr e) =
    ap (λ x. phase_of (next_standing x (kept_by s.words j) s.words.completions)) e ∙ ap (λ b. phase_of (cond b WriterH T5)) (free_at s j T5 true e z)

own_turn : (s t : TicketLock) (f g : ℕ → ℕ) (j : ℕ) → j < 32 → phases s j ≡ Waits → phases t j ≡ Waits → free s j ≡ true → Goes ticket s f j t g → ⊥
own_turn s t f g j lt a b z (rests e q m) = absurd (cc)
own_turn s t f g j lt a b z (calls c m l) = absurd (let e = m.idle in cc)
own_turn s t f g j lt a b z (steps m q) = absurd (let e = ap phase_of (steps_becomes s j t lt m).stands.here ∙ free_holds s j z (waits_is _ a) in cc)
own_turn s t f g j lt a b z (works e q y o m) = absurd (cc)
own_turn s t f g j lt a b z (finishes m y l) = absurd (let e = m.holds in cc)

-- the completions that a test has found stay till the slot's own step: nobody is left to count
reader_leaving : (s : TicketLock) (i : ℕ) → i < 32 → stands_at s.words i ≡ T3 → 1 ≤ total (λ x. read_leaves (stands_at s.words x)) 32
reader_leaving s i lt e = let a = total_at (λ x. read_leaves (stands_at s.words x)) i 32 lt in let u = ap read_leaves e in omega arith

writer_leaving : (s : TicketLock) (i : ℕ) → i < 32 → stands_at s.words i ≡ T6 → 1 ≤ total (λ x. write_leaves (stands_at s.words x)) 32
writer_leaving s i lt e = let a = total_at (λ x. write_leaves (stands_at s.words x)) i 32 lt in let u = ap write_leaves e in omega arith

lower_next : (s : TicketLock) (i j : ℕ) → i < 32 → writers_ahead (stands_at s.words) (line_of s) j ≡ 0 → (x : Standing) → stands_at s.words i ≡ x → lower (next_completions x s.words.completions) ≡ lower s.words.completions
lower_next s i j lt w I e = refl
lower_next s i j lt w T1 e = refl
lower_next s i j lt w T2 e = refl
lower_next s i j lt w T3 e = lower_read s.words.completions
lower_next s i j lt w T4 e = refl
lower_next s i j lt w T5 e = refl
lower_next s i j lt w T6 e = let a = writer_leaving s i lt e in absurd (omega arith)
lower_next s i j lt w ReaderH e = refl
lower_next s i j lt w WriterH e = refl

word_next : (s : TicketLock) (i j : ℕ) → i < 32 → writers_ahead (stands_at s.words) (line_of s) j ≡ 0 → readers_ahead (stands_at s.words) (line_of s) j ≡ 0 → (x : Standing) → stands_at s.words i ≡ x → next_completions x s.words.completions ≡ s.words.completions
word_next s i j lt w r I e = refl
word_next s i j lt w r T1 e = refl
word_next s i j lt w r T2 e = refl
word_next s i j lt w r T3 e = let a = reader_leaving s i lt e in absurd (omega arith)
word_next s i j lt w r T4 e = refl
word_next s i j lt w r T5 e = refl
word_next s i j lt w r T6 e = let a = writer_leaving s i lt e in absurd (omega arith)
word_next s i j lt w r ReaderH e = refl
word_next s i j lt w r WriterH e = refl

goes_completions : (s t : TicketLock) (f g : ℕ → ℕ) (i : ℕ) → Goes ticket s f i t g → (t.words.completions ≡ s.words.completions) ⊎ (t.words.completions ≡ next_completions (stands_at s.words i) s.words.completions)
goes_completions s t f g i (rests e q m) = inl (ap (λ y. y.words.completions) q)
goes_completions s t f g i (calls c m l) = inl (ap (λ w. w.completions) m.words)
goes_completions s t f g i (steps m q) = inr (ap (λ w. w.completions) m.words)
goes_completions s t f g i (works e q y o m) = inl (ap (λ y. y.words.completions) q)
goes_completions s t f g i (finishes m y l) = inl (ap (λ w. w.completions) m.words)

-- a test that is true stays true
stays_free : (s t : TicketLock) (f g : ℕ → ℕ) (i j : ℕ) → i < 32 → (j ≡ i → ⊥) → free s j ≡ true → (stands_at s.words j ≡ T2) ⊎ (stands_at s.words j ≡ T5) → Goes ticket s f i t g → free t j ≡ true
stays_free s t f g i j lt n z (inl e) m =
    let o = goes_others s t f g i lt m in
    let k = free_at s j T2 true e z in
    let w = reader_free s.keeps j e k in
    let c : lower t.words.completions ≡ lower s.words.completions = elim (goes_completions s t f g i m) [
      | inl q ↦ ap lower q
      | inr q ↦ ap lower q ∙ lower_next s i j lt w (stands_at s.words i) refl
    ] in
    ap (λ x. test x (kept_by t.words j) t.words.completions) (o.stand j n ∙ e) ∙ ap (λ x. eqb x (kept_by t.words j)) c ∙ ap (eqb (lower s.words.completions)) (o.keep j n) ∙ k
stays_free s t f g i j lt n z (inr e) m =
    let o = goes_others s t f g i lt m in
    let k = free_at s j T5 true e z in
    let w = writer_free s.keeps j e k in
    let c : t.words.completions ≡ s.words.completions = elim (goes_completions s t f g i m) [
      | inl q ↦ q
      | inr q ↦ q ∙ word_next s i j lt w.0 w.1 (stands_at s.words i) refl
    ] in
    ap (λ x. test x (kept_by t.words j) t.words.completions) (o.stand j n ∙ e) ∙ ap (λ x. eqb x (kept_by t.words j)) c ∙ ap (eqb s.words.completions) (o.keep j n) ∙ k

-- a job is at its hold where its test is true; else those ahead of it come first
abbrev rank_by : Bool → ℕ → ℕ
rank_by b n = cond b 0 (suc n)

abbrev counts_by : Bool → ℕ → ℕ → Bool → Bool
counts_by b j x lead = cond b (eqb x j) lead

record Pace (s t : TicketLock) (f g : ℕ → ℕ) (i j : ℕ) (b d : Bool) : Type 0 where
  le : rank_by d (ahead t g j) ≤ rank_by b (ahead s f j)
  falls : counts_by b j i (leads s i) ≡ true → rank_by d (ahead t g j) < rank_by b (ahead s f j)
  lasts : (x : ℕ) → (x ≡ i → ⊥) → counts_by b j x (leads s x) ≡ true → (counts_by d j x (leads t x) ≡ true) ⊎ (rank_by d (ahead t g j) < rank_by b (ahead s f j))

pace_by : (s t : TicketLock) (f g : ℕ → ℕ) (i j : ℕ) → i < 32 → AtMost longest_hold g → phases s j ≡ Waits → phases t j ≡ Waits → Goes ticket s f i t g → (b d : Bool) → free s j ≡ b → free t j ≡ d → Pace s t f g i j b d
pace_by s t f g i j lt sm a b m true true y z = record {
  le = omega arith;
  falls = λ e. let q = eqb-true i j e in absurd (own_turn s t f g j (subst (λ x. x < 32) q lt) a b y (subst (λ x. Goes ticket s f x t g) q m));
  lasts = λ x n e. inl e;
}
pace_by s t f g i j lt sm a b m true false y z = elim (cases_eq j i) [
  | inl q ↦ absurd (own_turn s t f g j (subst (λ x. x < 32) (sym q) lt) a b y (subst (λ x. Goes ticket s f x t g) (sym q) m))
  | inr n ↦ absurd (let k = stays_free s t f g i j lt n y (waits_is _ a) m in cc)
]
pace_by s t f g i j lt sm a b m false true y z = record { le = omega arith; falls = λ e. omega arith; lasts = λ x n e. inr (omega arith) }
pace_by s t f g i j lt sm a b m false false y z =
    let k = goes_fine s t f g i j lt sm a b y m in
    record {
      le = let l = k.le in omega arith;
      falls = λ e. let l = k.falls e in omega arith;
      lasts = λ x n e. elim (k.lasts x n e) [ inl l ↦ inl l | inr l ↦ inr (omega arith) ];
    }

pace : (s t : TicketLock) (f g : ℕ → ℕ) (i j : ℕ) → Waiting ticket s j → Waiting ticket t j → Turns ticket longest_hold s f i t g → Pace s t f g i j (free s j) (free t j)
pace s t f g i j a b m = pace_by s t f g i j m.slot m.after a b m.goes _ _ refl refl

some_by : (s : TicketLock) (j : ℕ) → phases s j ≡ Waits → (b d : Bool) → eqb (gone s) 0 ≡ d → (x : ℕ) × (counts_by b j x (cond d (heads (line_of s) x) (eqb (leaves (stands_at s.words x)) 1)) ≡ true)
some_by s j a true d z = (j, eq-eqb j j refl)
some_by s j a false true z = head_some (line_of s) j (waits_lined s j a)
some_by s j a false false z = elim (cases_lt 0 (total (λ x. read_leaves (stands_at s.words x)) 32)) [
  | inl l ↦ let x = total_some (λ x. read_leaves (stands_at s.words x)) 32 l in (x.0, leaving x.0 (let u = x.1 in omega arith))
  | inr g ↦ let x = total_some (λ x. write_leaves (stands_at s.words x)) 32 (let n = eqb-false (gone s) 0 z in omega arith) in (x.0, leaving x.0 (let u = x.1 in omega arith))
]
  where
    leaving : (x : ℕ) → 1 ≤ leaves (stands_at s.words x) → eqb (leaves (stands_at s.words x)) 1 ≡ true
    leaving x h = let u = once (stands_at s.words x) in eq-eqb _ 1 (omega arith)

-- an idle slot does not count
leads_awake : (s : TicketLock) (x : ℕ) → leads s x ≡ true → phases s x ≡ Idle → ⊥
leads_awake s x e p =
    let q = idle_is _ p in
    elim (leads_is s x e) [ inl u ↦ in_line_of s x I q refl u.1 | inr u ↦ let v = ap leaves q in omega arith ]

awake_by : (s : TicketLock) (j x : ℕ) → phases s j ≡ Waits → (b : Bool) → counts_by b j x (leads s x) ≡ true → phases s x ≡ Idle → ⊥
awake_by s j x a true e p = absurd (let q = ap (phases s) (eqb-true x j e) in cc)
awake_by s j x a false e p = leads_awake s x e p

abbrev enters : Falls ticket longest_hold (Waiting ticket)
enters = record {
  rank = λ s f j. rank_by (free s j) (ahead s f j);
  counts = λ s j x. counts_by (free s j) j x (leads s x);
  awake = λ s j x a e p. awake_by s j x a (free s j) e p;
  keeps = λ s t f g j i a b m. (pace s t f g i j a b m).le;
  falls = λ s t f g j i a b e m. (pace s t f g i j a b m).falls e;
  lasts = λ s t f g j i x a b e n m. (pace s t f g i j a b m).lasts x n e;
  some = λ s j a. some_by s j a (free s j) (eqb (gone s) 0) refl;
}

weight_low : (x : Standing) (n : ℕ) → n ≤ longest_hold → weight x n ≤ longest_hold + 2
weight_low I n h = omega arith
weight_low T1 n h = omega arith
weight_low T2 n h = omega arith
weight_low T3 n h = omega arith
weight_low T4 n h = omega arith
weight_low T5 n h = omega arith
weight_low T6 n h = omega arith
weight_low ReaderH n h = omega arith
weight_low WriterH n h = omega arith

rank_low : (b : Bool) (m n : ℕ) → m + 64 ≤ 68 * n → 0 < n → rank_by b m + 2 ≤ rounds_a_slot * n
rank_low true m n h p = omega arith
rank_low false m n h p = omega arith

enters_low : (n : ℕ) (s : TicketLock) (f : ℕ → ℕ) (j : ℕ) → j < n → Below ticket n s → AtMost longest_hold f → Waiting ticket s j → rank_by (free s j) (ahead s f j) + 2 ≤ rounds_a_slot * n
enters_low n s f j lt bl sm a =
    let idle : (x : ℕ) → n ≤ x → stands_at s.words x ≡ I = λ x h. idle_is _ (bl x h) in
    let l = line_few n s.keeps.sound idle in
    let p = before_few (load s f) (longest_hold + 2) j (line_of s) (λ x. weight_low (stands_at s.words x) (f x) (sm x)) (waits_lined s j a) in
    let r = total_few (λ x. read_leaves (stands_at s.words x)) 32 n (λ x. let u = once (stands_at s.words x) in omega arith) (λ x h. ap read_leaves (idle x h)) in
    let w = total_few (λ x. write_leaves (stands_at s.words x)) 32 n (λ x. let u = once (stands_at s.words x) in omega arith) (λ x h. ap write_leaves (idle x h)) in
    rank_low (free s j) (ahead s f j) n (omega arith) (omega arith)

-- from the hold to the end only the job's own turns count
record Out (s t : TicketLock) (f g : ℕ → ℕ) (i j : ℕ) : Type 0 where
  le : load t g j ≤ load s f j
  falls : j ≡ i → load t g j < load s f j

out_other : {s t : TicketLock} {f g : ℕ → ℕ} {i j : ℕ} → (j ≡ i → ⊥) → Others s t f g i → Out s t f g i j
out_other {s} {t} {f} {g} {i} {j} n o = let e = same_load o j n in record { le = omega arith; falls = λ q. absurd (n q) }

out_own : {s t : TicketLock} {f g : ℕ → ℕ} {i j : ℕ} → j ≡ i → load t g i < load s f i → Out s t f g i j
out_own {s} {t} {f} {g} {i} {j} q l = let z : load t g j < load s f j = subst (λ x. load t g x < load s f x) (sym q) l in record { le = omega arith; falls = λ r. z }

idle_going : (s : TicketLock) (j : ℕ) → phases s j ≡ Idle → Going ticket s j → ⊥
idle_going s j e (inl a) = absurd (cc)
idle_going s j e (inr a) = absurd (cc)

-- the step of a job that leaves is its last
last_step : (s t : TicketLock) (i : ℕ) → i < 32 → Steps s i t → Going ticket s i → phases t i ≡ Idle
last_step s t i lt m a = by_standing (stands_at s.words i) refl
  where
    b : stands_at t.words i ≡ next_standing (stands_at s.words i) (kept_by s.words i) s.words.completions
    b = (steps_becomes s i t lt m).stands.here

    going : (x : Standing) → stands_at s.words i ≡ x → (phase_of x ≡ Holds) ⊎ (phase_of x ≡ Leaves)
    going x e = subst (λ y. (phase_of y ≡ Holds) ⊎ (phase_of y ≡ Leaves)) e a

    apart : (x : Standing) → (phase_of x ≡ Holds → ⊥) → (phase_of x ≡ Leaves → ⊥) → stands_at s.words i ≡ x → phases t i ≡ Idle
    apart x h l e = elim (going x e) [ inl y ↦ absurd (h y) | inr y ↦ absurd (l y) ]

    by_standing : (x : Standing) → stands_at s.words i ≡ x → phases t i ≡ Idle
    by_standing I e = apart I (λ y. absurd (cc)) (λ y. absurd (cc)) e
    by_standing T1 e = apart T1 (λ y. absurd (cc)) (λ y. absurd (cc)) e
    by_standing T2 e = apart T2 (λ y. absurd (cc)) (λ y. absurd (cc)) e
    by_standing T3 e = ap phase_of b ∙ ap (λ x. phase_of (next_standing x (kept_by s.words i) s.words.completions)) e
    by_standing T4 e = apart T4 (λ y. absurd (cc)) (λ y. absurd (cc)) e
    by_standing T5 e = apart T5 (λ y. absurd (cc)) (λ y. absurd (cc)) e
    by_standing T6 e = ap phase_of b ∙ ap (λ x. phase_of (next_standing x (kept_by s.words i) s.words.completions)) e
    by_standing ReaderH e = absurd (subst (λ x. steps_from (phase_of x) (Unit {0}) ⊥) e m.moves)
    by_standing WriterH e = absurd (subst (λ x. steps_from (phase_of x) (Unit {0}) ⊥) e m.moves)

finished_load : (x : Standing) (n : ℕ) → (x ≡ ReaderH) ⊎ (x ≡ WriterH) → weight (finished_standing x) n ≡ 1
finished_load x n (inl e) = ap (λ y. weight (finished_standing y) n) e
finished_load x n (inr e) = ap (λ y. weight (finished_standing y) n) e

own_out : (s t : TicketLock) (f g : ℕ → ℕ) (i : ℕ) → i < 32 → Going ticket s i → Going ticket t i → Goes ticket s f i t g → load t g i < load s f i
own_out s t f g i lt a b (rests e q m) = absurd (idle_going s i e a)
own_out s t f g i lt a b (calls c m l) = absurd (idle_going s i m.idle a)
own_out s t f g i lt a b (steps m q) = absurd (idle_going t i (last_step s t i lt m a) b)
own_out s t f g i lt a b (works e q y o m) =
    let h = holds_is _ e in
    let u = (holding_load _ (f i) h).0 in
    let v = ap (λ y. load y g i) q ∙ (holding_load _ (g i) h).0 in
    omega arith
own_out s t f g i lt a b (finishes m y l) =
    let h = holds_is _ m.holds in
    let u = (holding_load _ (f i) h).0 in
    let v = ap (λ x. weight x (g i)) (finishes_becomes s i t lt m).stands.here ∙ finished_load _ (g i) h in
    omega arith

out : (s t : TicketLock) (f g : ℕ → ℕ) (i j : ℕ) → Going ticket s j → Going ticket t j → Turns ticket longest_hold s f i t g → Out s t f g i j
out s t f g i j a b m = elim (cases_eq j i) [
  | inl q ↦ out_own q (own_out s t f g i m.slot (subst (Going ticket s) q a) (subst (Going ticket t) q b) m.goes)
  | inr n ↦ out_other n (goes_others s t f g i m.slot m.goes)
]

abbrev goes : Falls ticket longest_hold (Going ticket)
goes = record {
  rank = λ s f j. load s f j;
  counts = λ s j x. eqb x j;
  awake = λ s j x a e z. idle_going s j (ap (phases s) (sym (eqb-true x j e)) ∙ z) a;
  keeps = λ s t f g j i a b m. (out s t f g i j a b m).le;
  falls = λ s t f g j i a b e m. (out s t f g i j a b m).falls (sym (eqb-true i j e));
  lasts = λ s t f g j i x a b e n m. inl e;
  some = λ s j a. (j, eq-eqb j j refl);
}

pub progress : Progress ticket longest_hold rounds_a_slot
progress = record {
  some_rounds = omega arith;
  enters = enters;
  goes = goes;
  enters_within = λ n s f j le lt bl sm a. enters_low n s f j lt bl sm a;
  goes_within = λ s f j sm a. let w = weight_low (stands_at s.words j) (f j) (sm j) in omega arith;
}
