-- The ticket lock's moves mean what a lock's are to mean.
use Rattle.std.specs.Prelude.{◌≡◌, ℕ, ◌+◌, ◌<◌, ◌≤◌, Bool, true, false, cond, ◌⊎◌, List, ◌==◌, ◌≢◌, refl}
use Rattle.std.proofs.Common.{sym, ap, subst, ◌∙◌, inl, inr, arith}
use Rattle.lock.specs.Standings.{call_means, step_means, finish_means}
use Rattle.lock.specs.Meaning.{Meaning, Moved, meant, CalledIn, MayHold, Reaches, Stepped, Finished, steps_from}
use Rattle.lock.specs.declared.words.Class.{Class}
use Rattle.lock.specs.declared.words.Class.TheVariants.{Reading, Writing}
use Rattle.lock.specs.declared.words.Phase.TheVariants.{Idle, Called, Waits, Holds, Leaves}
use Rattle.ticket_lock.specs.Invariant.{Full, Keeps}
use Rattle.ticket_lock.specs.Lock.{phases, classes, bars}
use Rattle.ticket_lock.specs.Order.{times, before, reads, writes, readers_ahead, writers_ahead}
use Rattle.ticket_lock.specs.Counts.{one_first}
use Rattle.ticket_lock.specs.Kept.{fit_at, idle_is, all_idle, stands_here, stands_there, kept_there, reader_free, writer_free}
use Rattle.ticket_words.specs.Counting.{lower}
use Rattle.ticket_words.specs.Places.{phase_of, class_of}
use Rattle.ticket_words.specs.Steps.{stands_at, kept_by, next_standing, called_standing, finished_standing, written, called, stepped, finished, fresh_words}
use Rattle.ticket_words.specs.declared.standing.Standing.{Standing}
use Rattle.ticket_words.specs.declared.standing.Standing.TheVariants.{I, T1, T2, T3, T4, T5, T6, ReaderH, WriterH}
use Rattle.ticket_words.specs.declared.words.Words.{Words}

abbrev pub mean : Words → Meaning
mean = meant phases classes bars

-- where each slot stands after a move of slot i, and that the others have kept what they had
pub record Becomes (w : Words) (i : ℕ) (x : Standing) (v : Words) : Type 0 where
  pub stands : Moved (stands_at w) i x (stands_at v)
  pub keeps : (j : ℕ) → (j ≢ i) → kept_by v j ≡ kept_by w j

pub becomes : (w : Words) (i : ℕ) (x : Standing) (k r c : ℕ) → i < 32 → Full w → Becomes w i x (written w i x k r c)
becomes w i x k r c lt full = record { stands = record { here = stands_here w i x k r c lt full; others = stands_there w i x k r c lt full }; keeps = kept_there w i x k r c lt full }

pub called_becomes : (w : Words) (i : ℕ) (c : Class) → Full w → i < 32 → phases w i ≡ Idle → Becomes w i (called_standing I c) (called w i c)
called_becomes w i c full lt e = subst (λ x. Becomes w i (called_standing x c) (called w i c)) (idle_is _ e) (becomes w i _ _ _ _ lt full)

pub means_begun : (i : ℕ) → phases fresh_words i ≡ Idle
means_begun i = ap phase_of (all_idle i)

called_phase : (c : Class) → phase_of (called_standing I c) ≡ Called
called_phase Reading = refl
called_phase Writing = refl

called_class : (c : Class) → class_of (called_standing I c) ≡ c
called_class Reading = refl
called_class Writing = refl

pub means_called : (w : Words) (l : List ℕ) (i : ℕ) (c : Class) → Keeps w l → i < 32 → phases w i ≡ Idle → (c ≡ Writing → bars w i ≡ false) → CalledIn (mean w) i c (mean (called w i c))
means_called w l i c h lt e f =
    let b = called_becomes w i c h.full lt e in
    call_means phase_of class_of (stands_at w) (stands_at (called w i c)) (bars w) (bars (called w i c)) i c _ e f b.stands (called_phase c) (called_class c)

-- who holds
pub holds_is : (x : Standing) → phase_of x ≡ Holds → (x ≡ ReaderH) ⊎ (x ≡ WriterH)
holds_is I e = absurd (cc)
holds_is T1 e = absurd (cc)
holds_is T2 e = absurd (cc)
holds_is T3 e = absurd (cc)
holds_is T4 e = absurd (cc)
holds_is T5 e = absurd (cc)
holds_is T6 e = absurd (cc)
holds_is ReaderH e = inl refl
holds_is WriterH e = inr refl

-- two slots in line, neither of them before the other, are one
module _ {w : Words} {l : List ℕ} (h : Keeps w l) where
  pub in_line_at : (i : ℕ) (x : Standing) → stands_at w i ≡ x → 1 ≤ reads x + writes x → 1 ≤ times i l
  in_line_at i x e n = let t = h.sound.lined i in let u = ap (λ y. reads y + writes y) e in omega arith

  clash : (f g : Standing → ℕ) (i j : ℕ) (x y : Standing) → stands_at w i ≡ x → stands_at w j ≡ y → (j ≢ i) → 1 ≤ reads x + writes x → 1 ≤ reads y + writes y → before (λ z. f (stands_at w z)) i l ≡ 0 → 1 ≤ f y → before (λ z. g (stands_at w z)) j l ≡ 0 → 1 ≤ g x → ⊥
  clash f g i j x y e d n a b zi fy zj gx =
      one_first (λ z. f (stands_at w z)) (λ z. g (stands_at w z)) i j l n (in_line_at i x e a) (in_line_at j y d b)
      zi (let u = ap f d in omega arith) zj (let u = ap g e in omega arith)

  -- a reader with no writer ahead, and a writer that holds
  no_writer_holds : (i j : ℕ) → stands_at w i ≡ T2 → writers_ahead (stands_at w) l i ≡ 0 → stands_at w j ≢ WriterH
  no_writer_holds i j e z d =
      let f = fit_at h j WriterH d in
      let p = f.1 in
      clash writes reads i j T2 WriterH e d (λ q. absurd (let u = ap (stands_at w) q in cc)) (omega arith) (omega arith) (omega arith) (omega arith) (omega arith) (omega arith)

  -- a writer with nobody ahead, and another that holds
  nobody_holds : (i j : ℕ) → stands_at w i ≡ T5 → (writers_ahead (stands_at w) l i ≡ 0) × (readers_ahead (stands_at w) l i ≡ 0) → (j ≢ i) → (stands_at w j ≡ ReaderH) ⊎ (stands_at w j ≡ WriterH) → ⊥
  nobody_holds i j e z n (inl d) =
      let f = fit_at h j ReaderH d in
      let p = z.1 in
      clash reads writes i j T5 ReaderH e d n (omega arith) (omega arith) (omega arith) (omega arith) (omega arith) (omega arith)
  nobody_holds i j e z n (inr d) =
      let f = fit_at h j WriterH d in
      let p = z.0 in
      let q = f.0 in
      clash writes writes i j T5 WriterH e d n (omega arith) (omega arith) (omega arith) (omega arith) (omega arith) (omega arith)

may_at : (w : Words) (i : ℕ) (x : Standing) → stands_at w i ≡ x → MayHold (class_of x) (mean w) i → MayHold (classes w i) (mean w) i
may_at w i x e m = subst (λ y. MayHold (class_of y) (mean w) i) (sym e) m

writing_holds : (x : Standing) → class_of x ≡ Writing → (x ≡ ReaderH) ⊎ (x ≡ WriterH) → x ≡ WriterH
writing_holds x k (inl e) = absurd (let u = ap class_of e in cc)
writing_holds x k (inr e) = e

-- a test, and what it lets in
reader_reaches : {w : Words} {l : List ℕ} → Keeps w l → (i : ℕ) → stands_at w i ≡ T2 → (b : Bool) → (lower w.completions == kept_by w i) ≡ b → (phase_of (cond b ReaderH T2) ≡ Waits) ⊎ ((phase_of (cond b ReaderH T2) ≡ Holds) × MayHold (classes w i) (mean w) i)
reader_reaches {w} h i e true z = inr (refl, may_at w i T2 e (λ j p k. no_writer_holds h i j e (reader_free h i e z) (writing_holds _ k (holds_is _ p))))
reader_reaches h i e false z = inl refl

writer_reaches : {w : Words} {l : List ℕ} → Keeps w l → (i : ℕ) → stands_at w i ≡ T5 → (b : Bool) → (w.completions == kept_by w i) ≡ b → (phase_of (cond b WriterH T5) ≡ Waits) ⊎ ((phase_of (cond b WriterH T5) ≡ Holds) × MayHold (classes w i) (mean w) i)
writer_reaches {w} h i e true z = inr (refl, may_at w i T5 e (λ j n p. nobody_holds h i j e (writer_free h i e z) n (holds_is _ p)))
writer_reaches h i e false z = inl refl

reaches : {w : Words} {l : List ℕ} → Keeps w l → (i : ℕ) (x : Standing) → stands_at w i ≡ x → steps_from (phase_of x) (Unit {0}) ⊥ → Reaches (mean w) i (phase_of x) (phase_of (next_standing x (kept_by w i) w.completions))
reaches h i I e m = absurd m
reaches h i T1 e m = inl refl
reaches h i T2 e m = reader_reaches h i e _ refl
reaches h i T3 e m = inr refl
reaches h i T4 e m = inl refl
reaches h i T5 e m = writer_reaches h i e _ refl
reaches h i T6 e m = inr refl
reaches h i ReaderH e m = absurd m
reaches h i WriterH e m = absurd m

-- a slot keeps its class while it is not idle
class_next : (x : Standing) (k c : ℕ) → (phase_of (next_standing x k c) ≢ Idle) → class_of (next_standing x k c) ≡ class_of x
class_next I k c n = refl
class_next T1 k c n = refl
class_next T2 k c n = elim (lower c == k) as (λ b. class_of (cond b ReaderH T2) ≡ Reading) [ true ↦ refl | false ↦ refl ]
class_next T3 k c n = absurd (n refl)
class_next T4 k c n = refl
class_next T5 k c n = elim (c == k) as (λ b. class_of (cond b WriterH T5) ≡ Writing) [ true ↦ refl | false ↦ refl ]
class_next T6 k c n = absurd (n refl)
class_next ReaderH k c n = refl
class_next WriterH k c n = refl

pub means_stepped : (w : Words) (l : List ℕ) (i : ℕ) → Keeps w l → i < 32 → steps_from (phases w i) (Unit {0}) ⊥ → Stepped (mean w) i (mean (stepped w i))
means_stepped w l i h lt m =
    let b : Becomes w i (next_standing (stands_at w i) (kept_by w i) w.completions) (stepped w i) = becomes w i _ _ _ _ lt h.full in
    step_means phase_of class_of (stands_at w) (stands_at (stepped w i)) (bars w) (bars (stepped w i)) i _ (reaches h i (stands_at w i) refl m) b.stands (class_next (stands_at w i) _ _)

finished_leaves : (x : Standing) → (x ≡ ReaderH) ⊎ (x ≡ WriterH) → (phase_of (finished_standing x) ≡ Leaves) × (class_of (finished_standing x) ≡ class_of x)
finished_leaves x (inl e) = (ap (λ y. phase_of (finished_standing y)) e, ap (λ y. class_of (finished_standing y)) e ∙ sym (ap class_of e))
finished_leaves x (inr e) = (ap (λ y. phase_of (finished_standing y)) e, ap (λ y. class_of (finished_standing y)) e ∙ sym (ap class_of e))

pub means_finished : (w : Words) (l : List ℕ) (i : ℕ) → Keeps w l → i < 32 → phases w i ≡ Holds → Finished (mean w) i (mean (finished w i))
means_finished w l i h lt e =
    let b : Becomes w i (finished_standing (stands_at w i)) (finished w i) = becomes w i _ _ _ _ lt h.full in
    let f = finished_leaves (stands_at w i) (holds_is _ e) in
    finish_means phase_of class_of (stands_at w) (stands_at (finished w i)) (bars w) (bars (finished w i)) i _ e b.stands f.0 f.1
