-- The ticket lock's moves keep to the rules of the line.
use Rattle.std.proofs.Common.{◌≡◌, ℕ, ◌+◌, ◌<◌, ◌≤◌, Bool, true, false, cond, eqb, List, [], ◌∷◌, sym, refl, ap, ◌∙◌, subst, inl, inr, arith}
use Rattle.std.proofs.lemmas.Bool.{eq-eqb, ne_eqb, cases_eq}
use Rattle.lock.specs.Line.{arrives, First, NoWriterBefore, Turn}
use Rattle.lock.specs.Meaning.{steps_from}
use Rattle.lock.specs.declared.words.Class.{Class}
use Rattle.lock.specs.declared.words.Class.TheVariants.{Reading}
use Rattle.lock.specs.declared.words.Phase.TheVariants.{Holds}
use Rattle.ticket_lock.specs.Invariant.{Keeps}
use Rattle.ticket_lock.specs.Lock.{phases, classes}
use Rattle.ticket_lock.specs.Order.{times, before, reads, writes}
use Rattle.ticket_lock.specs.Counts.{times_hit, times_miss, before_miss, before_sum}
use Rattle.ticket_lock.specs.Kept.{reader_free, writer_free}
use Rattle.ticket_lock.specs.Laws.{Becomes, becomes, in_line_at}
use Rattle.ticket_words.specs.Counting.{lower}
use Rattle.ticket_words.specs.Places.{phase_of, class_of}
use Rattle.ticket_words.specs.Steps.{stands_at, kept_by, next_standing, stepped}
use Rattle.ticket_words.specs.declared.standing.Standing.{Standing}
use Rattle.ticket_words.specs.declared.standing.Standing.TheVariants.{I, T1, T2, T3, T4, T5, T6, ReaderH, WriterH}
use Rattle.ticket_words.specs.declared.words.Words.{Words}

-- who stands in a line stands in a longer one
later : (x y : ℕ) (l : List ℕ) → 1 ≤ times y l → 1 ≤ times y (x ∷ l)
later x y l h = elim (cases_eq x y) [ inl e ↦ let t = times_hit x y l e in omega arith | inr n ↦ let t = times_miss x y l n in omega arith ]

first_in : (w : ℕ → ℕ) (i : ℕ) (l : List ℕ) → ((x : ℕ) → 1 ≤ times x l → 1 ≤ w x) → before w i l ≡ 0 → 1 ≤ times i l → First i l
first_in w i [] f z h = absurd (omega arith)
first_in w i (x ∷ l) f z h = elim (cases_eq x i) [
  | inl e ↦ e
  | inr n ↦ let a = before_miss w x i l n in let t = times_hit x x l refl in let u = f x (omega arith) in absurd (omega arith)
]

no_writer_in : (class : ℕ → Class) (w : ℕ → ℕ) (i : ℕ) (l : List ℕ) → ((x : ℕ) → 1 ≤ times x l → w x ≡ 0 → class x ≡ Reading) → before w i l ≡ 0 → 1 ≤ times i l → NoWriterBefore class i l
no_writer_in class w i [] f z h = absurd (omega arith)
no_writer_in class w i (x ∷ l) f z h = elim (cases_eq x i) [
  | inl e ↦ subst (λ b. cond b (Unit {0}) ((class x ≡ Reading) × NoWriterBefore class i l)) (sym (eq-eqb x i e)) tt
  | inr n ↦
      let a = before_miss w x i l n in
      let t = times_miss x i l n in
      let u = times_hit x x l refl in
      subst (λ b. cond b (Unit {0}) ((class x ≡ Reading) × NoWriterBefore class i l)) (sym (ne_eqb x i n))
      (f x (omega arith) (omega arith), no_writer_in class w i l (λ y m. f y (later x y l m)) (omega arith) (omega arith))
]

reads_class : (x : Standing) → 1 ≤ reads x + writes x → writes x ≡ 0 → class_of x ≡ Reading
reads_class I a b = refl
reads_class T1 a b = refl
reads_class T2 a b = refl
reads_class T3 a b = refl
reads_class T4 a b = absurd (omega arith)
reads_class T5 a b = absurd (omega arith)
reads_class T6 a b = absurd (omega arith)
reads_class ReaderH a b = refl
reads_class WriterH a b = absurd (omega arith)

reader_turn : {w : Words} {l : List ℕ} → Keeps w l → (i : ℕ) → stands_at w i ≡ T2 → (b : Bool) → eqb (lower w.completions) (kept_by w i) ≡ b → phase_of (cond b ReaderH T2) ≡ Holds → NoWriterBefore (classes w) i l
reader_turn {w} {l} h i e true z p =
    let f = reader_free h i e z in
    no_writer_in (classes w) (λ x. writes (stands_at w x)) i l (λ x m q. reads_class _ (let t = h.sound.lined x in omega arith) q) (omega arith) (in_line_at h i T2 e (omega arith))
reader_turn h i e false z p = absurd (cc)

writer_turn : {w : Words} {l : List ℕ} → Keeps w l → (i : ℕ) → stands_at w i ≡ T5 → (b : Bool) → eqb w.completions (kept_by w i) ≡ b → phase_of (cond b WriterH T5) ≡ Holds → First i l
writer_turn {w} {l} h i e true z p =
    let f = writer_free h i e z in
    let u = f.0 in
    let v = f.1 in
    let a : ℕ → Standing = stands_at w in
    let q = before_sum (λ x. reads (a x)) (λ x. writes (a x)) i l in
    first_in (λ x. reads (a x) + writes (a x)) i l (λ x m. let t = h.sound.lined x in omega arith) (omega arith) (in_line_at h i T5 e (omega arith))
writer_turn h i e false z p = absurd (cc)

turn_at : {w : Words} {l : List ℕ} → Keeps w l → (i : ℕ) (x : Standing) → stands_at w i ≡ x → steps_from (phase_of x) (Unit {0}) ⊥ → phase_of (next_standing x (kept_by w i) w.completions) ≡ Holds → Turn (class_of x) (classes w) i (arrives (phase_of x) i l)
turn_at h i I e m p = absurd m
turn_at h i T1 e m p = absurd (cc)
turn_at h i T2 e m p = reader_turn h i e _ refl p
turn_at h i T3 e m p = absurd (cc)
turn_at h i T4 e m p = absurd (cc)
turn_at h i T5 e m p = writer_turn h i e _ refl p
turn_at h i T6 e m p = absurd (cc)
turn_at h i ReaderH e m p = absurd m
turn_at h i WriterH e m p = absurd m

pub in_turn : (w : Words) (l : List ℕ) (i : ℕ) → Keeps w l → i < 32 → steps_from (phases w i) (Unit {0}) ⊥ → phases (stepped w i) i ≡ Holds → Turn (classes w i) (classes w) i (arrives (phases w i) i l)
in_turn w l i h lt m p =
    let b : Becomes w i (next_standing (stands_at w i) (kept_by w i) w.completions) (stepped w i) = becomes w i _ _ _ _ lt h.full in
    turn_at h i (stands_at w i) refl m (sym (ap phase_of b.stands.here) ∙ p)
