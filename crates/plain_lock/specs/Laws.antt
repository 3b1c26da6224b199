-- The moves of the plain lock mean what a lock's moves are to mean.
use Rattle.std.specs.Prelude.{◌≡◌, ℕ, ◌%◌, ◌<◌, ◌≤◌, Bool, true, false, cond, ◌⊎◌, length, count_by, ◌==◌, ◌≢◌, refl}
use Rattle.std.proofs.Common.{sym, ap, subst, ◌∙◌, inl, inr, arith, get_or-set_same, get_or-set_other}
use Rattle.std.proofs.lemmas.List.{get_or_past}
use Rattle.std.proofs.lemmas.List.Sums.{get_or-le-sum_by}
use Rattle.std.proofs.lemmas.Bool.{eqb-true, cases_lt}
use Rattle.lock.specs.Meaning.{Meaning, Moved, meant, MayHold, Reaches, Stepped, Finished, steps_from, finishes_from}
use Rattle.lock.specs.Standings as means
use Rattle.lock.specs.declared.words.Phase.{Phase}
use Rattle.lock.specs.declared.words.Phase.TheVariants.{Idle, Called, Waits, Holds, Leaves}
use Rattle.lock.specs.declared.words.Class.{Class}
use Rattle.lock.specs.declared.words.Class.TheVariants.{Reading, Writing}
use Rattle.plain_words.specs.declared.places.Standing.{Standing}
use Rattle.plain_words.specs.declared.places.Standing.TheVariants.{I, P1, P2, ReaderH, P3, P4, P4Again, WriterH, P5}
use Rattle.plain_words.specs.Places.{phase_of, class_of}
use Rattle.plain_words.specs.Words.{stands, moved, next_at, stepped, finished_at}
use Rattle.plain_lock.specs.declared.plain.PlainLock.{PlainLock}
use Rattle.plain_lock.specs.Counts.{reads, writes}
use Rattle.plain_lock.specs.Moves.{phases, classes, bars, Steps, Finishes}

abbrev mean : PlainLock → Meaning
mean = meant phases classes bars

-- a test, as a number
abbrev one : Bool → ℕ
one b = cond b 1 0

-- what a slot that is counted adds to the count
pub at_least_one : (p : Standing → Bool) (s : PlainLock) (i : ℕ) → p I ≡ false → p (stands s.words i) ≡ true → 1 ≤ count_by p s.words.table.slots
at_least_one p s i z e =
    elim (cases_lt i (length s.words.table.slots)) [
      | inl l ↦ let q = get_or-le-sum_by (λ x. one (p x)) s.words.table.slots i I l in omega (arith, ap one e)
      | inr l ↦ let q = ap (λ x. one (p x)) (get_or_past s.words.table.slots i I l) in omega (arith, ap one e, ap one z)
    ]

-- where the slots stand after a move of slot i
moves : (s t : PlainLock) (i : ℕ) (a : Standing) (w : ℕ) → i < 32 → t.words ≡ moved s.words i a w → Moved (stands s.words) i a (stands t.words)
moves s t i a w h e =
    let l : i < length s.words.table.slots = omega arith in
    record {
      here = ap (λ x. stands x i) e ∙ get_or-set_same s.words.table.slots i a I l;
      others = λ j n. ap (λ x. stands x j) e ∙ get_or-set_other s.words.table.slots i j a I n;
    }

holds_counted : (a : Standing) → phase_of a ≡ Holds → (reads a ≡ true) ⊎ (writes a ≡ true)
holds_counted a e = grind arith

writer_counted : (a : Standing) → phase_of a ≡ Holds → class_of a ≡ Writing → writes a ≡ true
writer_counted a e k = grind arith

-- a slot that holds is counted in the word
holder_counted : (s : PlainLock) (j : ℕ) → phases s j ≡ Holds → 1 ≤ s.words.word
holder_counted s j e =
    elim (holds_counted _ e) [
      | inl r ↦ omega (arith, at_least_one reads s j refl r)
      | inr w ↦ omega (arith, at_least_one writes s j refl w)
    ]

writer_may : (s : PlainLock) (i : ℕ) → s.words.word ≡ 0 → MayHold Writing (mean s) i
writer_may s i z j ne e = omega (arith, holder_counted s j e)

reader_may : (s : PlainLock) (i : ℕ) → s.words.word % 2 ≡ 0 → MayHold Reading (mean s) i
reader_may s i z j e k = omega (arith, at_least_one writes s j refl (writer_counted _ e k))

-- a job of class c goes to place a: it waits, or it holds where it may
abbrev Enters : PlainLock → ℕ → Class → Standing → Type 0
Enters s i c a = (phase_of a ≡ Waits) ⊎ ((phase_of a ≡ Holds) × MayHold c (mean s) i)

looks : (s : PlainLock) (i : ℕ) (b : Bool) → (s.words.word % 2 == 0) ≡ b → Enters s i Reading (cond b ReaderH P2)
looks s i true z = inr (refl, reader_may s i (eqb-true _ _ z))
looks s i false z = inl refl

tries : (s : PlainLock) (i : ℕ) (b : Bool) → (s.words.word == 0) ≡ b → Enters s i Writing (cond b WriterH P4Again)
tries s i true z = inr (refl, writer_may s i (eqb-true _ _ z))
tries s i false z = inl refl

reaches : (X : Type 0) (s : PlainLock) (i : ℕ) (a : Standing) → stands s.words i ≡ a → steps_from (phase_of a) X ⊥ → Reaches (mean s) i (phase_of a) (phase_of (next_at a s.words.word))
reaches X s i I e m = absurd m
reaches X s i P1 e m = inl refl
reaches X s i P2 e m = subst (λ x. Enters s i (class_of x) (next_at P2 s.words.word)) (sym e) (looks s i _ refl)
reaches X s i ReaderH e m = absurd m
reaches X s i P3 e m = inr refl
reaches X s i P4 e m = subst (λ x. Enters s i (class_of x) (next_at P4 s.words.word)) (sym e) (tries s i _ refl)
reaches X s i P4Again e m = subst (λ x. Enters s i (class_of x) (next_at P4Again s.words.word)) (sym e) (tries s i _ refl)
reaches X s i WriterH e m = absurd m
reaches X s i P5 e m = inr refl

-- a slot's class stays while it is not idle
step_class : (a : Standing) (w : ℕ) → (phase_of (next_at a w) ≢ Idle) → class_of (next_at a w) ≡ class_of a
step_class a w n = grind arith

finish_class : (a : Standing) → class_of (finished_at a) ≡ class_of a
finish_class a = grind arith

did_step : {X : Type 0} (p : Phase) → steps_from p X ⊥ → X
did_step Idle m = absurd m
did_step Called m = m
did_step Waits m = m
did_step Holds m = absurd m
did_step Leaves m = m

pub step_means : (s : PlainLock) (i : ℕ) (t : PlainLock) → i < 32 → Steps s i t → Stepped (mean s) i (mean t)
step_means s i t h m =
    let e = did_step (phases s i) m in
    means.step_means phase_of class_of (stands s.words) (stands t.words) (bars s) (bars t) i _ (reaches (t.words ≡ stepped s.words i) s i _ refl m) (moves s t i _ _ h e) (step_class _ _)

did_finish : {X : Type 0} (p : Phase) → finishes_from p X ⊥ → (p ≡ Holds) × X
did_finish Idle m = absurd m
did_finish Called m = absurd m
did_finish Waits m = absurd m
did_finish Holds m = (refl, m)
did_finish Leaves m = absurd m

finish_phase : (a : Standing) → phase_of a ≡ Holds → phase_of (finished_at a) ≡ Leaves
finish_phase a e = grind arith

pub finish_means : (s : PlainLock) (i : ℕ) (t : PlainLock) → i < 32 → Finishes s i t → Finished (mean s) i (mean t)
finish_means s i t h m =
    let d = did_finish (phases s i) m in
    means.finish_means phase_of class_of (stands s.words) (stands t.words) (bars s) (bars t) i _ d.0 (moves s t i _ _ h d.1) (finish_phase _ d.0) (finish_class _)
