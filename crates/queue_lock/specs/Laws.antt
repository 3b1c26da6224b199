-- The queue lock's moves mean what a lock's are to mean.
use Rattle.std.specs.Prelude.{◌≡◌, ℕ, ◌<◌, Bool, true, false, cond, ◌⊎◌, List, ◌==◌, ◌≢◌}
use Rattle.std.proofs.Math.Path.{refl, subst}
use Rattle.std.proofs.Common.{sym, ap, ◌∙◌, inl, inr, arith}
use mathlib.Core.HLevel.{⊥_prop}
use Rattle.std.proofs.Math.Logic.{∥∥₁_elim}
use Rattle.std.proofs.lemmas.Bool.{cases_Bool, cases_eq, both_ways, eqb-true}
use Rattle.lock.specs.Standings.{call_means, finish_means, step_means}
use Rattle.lock.specs.Line.{arrives}
use Rattle.lock.specs.Meaning.{Meaning, Moved, meant, CalledIn, MayHold, Reaches, Stepped, Finished, steps_from}
use Rattle.lock.specs.declared.words.Class.{Class}
use Rattle.lock.specs.declared.words.Class.TheVariants.{Reading, Writing}
use Rattle.lock.specs.declared.words.Phase.{Phase}
use Rattle.lock.specs.declared.words.Phase.TheVariants.{Idle, Called, Waits, Holds, Leaves}
use Rattle.queue_words.specs.Records.{relabelled}
use Rattle.queue_words.specs.declared.record.Record.{Record}
use Rattle.queue_words.specs.Standings.{phase_of, class_of}
use Rattle.queue_words.specs.Steps.{slot, stands_at, stand, called_standing, finished_standing, stepped_at, called, stepped, finished, fresh_words}
use Rattle.queue_words.specs.declared.standing.Standing.{Standing}
use Rattle.queue_words.specs.declared.standing.Standing.TheVariants.{I, W8, ReaderH, WriterH}
use Rattle.queue_words.specs.declared.words.Words.{Words}
use Rattle.queue_lock.specs.Config.{Config, Full, config}
use Rattle.queue_lock.specs.Invariant.{Inv}
use Rattle.queue_lock.specs.Lock.{phases, classes, bars}
use Rattle.queue_lock.specs.Sets as is
use Rattle.queue_lock.specs.Sets.{number}
use Rattle.queue_lock.specs.Alter as alter
use Rattle.queue_lock.specs.Alter.{altered}
use Rattle.queue_lock.specs.Every.{same_number, by_number}
use Rattle.queue_lock.specs.Lands.{leads, stay, led, by_ways}
use Rattle.queue_lock.specs.Rows.{row_of}
use Rattle.queue_lock.specs.Safety.{writer_excludes, reader_excludes}
use Rattle.queue_lock.specs.Standings.{is_idle, idle_is, holds_is}
use Rattle.queue_lock.specs.Tended.{Keeps}
use Rattle.queue_lock.specs.Turn.{Turn}
use Rattle.queue_lock.specs.Turns.{turns}
use Rattle.queue_lock.specs.View.{stands, starts}

abbrev pub mean : Words → Meaning
mean = meant phases classes bars

-- the slot stands elsewhere, and nothing else moves
restands : (w : Words) (l : List ℕ) (i : ℕ) (x : Standing) → Full w → i < 32 → Moved (stands_at w) i x (stands_at (stand w i x))
restands w l i x full lt =
    let a : Config = config w l in
    let r : Record = relabelled (slot w i) x in
    let c : ℕ = w.reader_count in
    let q : (j : ℕ) → stands_at (stand w i x) j ≡ ((altered a i r c).at j).standing = λ j. ap (λ m. (m.at j).standing) (stands w l i x full lt) in
    record {
      here = q i ∙ ap (λ y. y.standing) (alter.here a i r c);
      others = λ j d. q j ∙ ap (λ y. y.standing) (alter.there a i r c j d);
    }

pub means_begun : (i : ℕ) → phases fresh_words i ≡ Idle
means_begun i = ap (λ m. phase_of (m.at i).standing) starts

called_phase : (c : Class) → phase_of (called_standing I c) ≡ Called
called_phase Reading = refl
called_phase Writing = refl

called_class : (c : Class) → class_of (called_standing I c) ≡ c
called_class Reading = refl
called_class Writing = refl

pub means_called : (w : Words) (l : List ℕ) (i : ℕ) (c : Class) → Keeps w l → i < 32 → phases w i ≡ Idle → (c ≡ Writing → bars w i ≡ false) → CalledIn (mean w) i c (mean (called w i c))
means_called w l i c h lt e f =
    let b = restands w l i (called_standing (stands_at w i) c) h.full lt in
    let x = ap (λ y. called_standing y c) (idle_is (stands_at w i) e) in
    call_means phase_of class_of (stands_at w) (stands_at (called w i c)) (bars w) (bars (called w i c)) i c _ e f b (ap phase_of x ∙ called_phase c) (ap class_of x ∙ called_class c)

finished_leaves : (x : Standing) → (x ≡ ReaderH) ⊎ (x ≡ WriterH) → (phase_of (finished_standing x) ≡ Leaves) × (class_of (finished_standing x) ≡ class_of x)
finished_leaves x (inl e) = (ap (λ y. phase_of (finished_standing y)) e, ap (λ y. class_of (finished_standing y)) e ∙ sym (ap class_of e))
finished_leaves x (inr e) = (ap (λ y. phase_of (finished_standing y)) e, ap (λ y. class_of (finished_standing y)) e ∙ sym (ap class_of e))

pub means_finished : (w : Words) (l : List ℕ) (i : ℕ) → Keeps w l → i < 32 → phases w i ≡ Holds → Finished (mean w) i (mean (finished w i))
means_finished w l i h lt e =
    let b = restands w l i (finished_standing (stands_at w i)) h.full lt in
    let f = finished_leaves (stands_at w i) (holds_is _ e) in
    finish_means phase_of class_of (stands_at w) (stands_at (finished w i)) (bars w) (bars (finished w i)) i _ e b f.0 f.1

-- the phases that a step can reach from each
abbrev enters : Phase → Bool
enters Idle = false
enters Called = false
enters Waits = true
enters Holds = true
enters Leaves = false

abbrev ends : Phase → Bool
ends Idle = true
ends Called = false
ends Waits = false
ends Holds = false
ends Leaves = true

abbrev reach : Phase → Phase → Bool
reach Idle q = true
reach Called q = enters q
reach Waits q = enters q
reach Holds q = true
reach Leaves q = ends q

idle_by : (p : Phase) → is_idle p ≡ true → p ≡ Idle
idle_by Idle h = refl
idle_by Called h = absurd (both_ways false refl h)
idle_by Waits h = absurd (both_ways false refl h)
idle_by Holds h = absurd (both_ways false refl h)
idle_by Leaves h = absurd (both_ways false refl h)

abbrev pub same_class : Class → Class → Bool
same_class Reading Reading = true
same_class Reading Writing = false
same_class Writing Reading = false
same_class Writing Writing = true

pub class_by : (c d : Class) → same_class c d ≡ true → d ≡ c
class_by Reading Reading h = refl
class_by Reading Writing h = absurd (both_ways false refl h)
class_by Writing Reading h = absurd (both_ways false refl h)
class_by Writing Writing h = refl

class_next : (a s : Standing) → leads a s ≡ true → (phase_of s ≢ Idle) → class_of s ≡ class_of a
class_next a s h n = elim (cases_Bool (is_idle (phase_of s))) [
  | inl k ↦ absurd (n (idle_by _ k))
  | inr k ↦ class_by _ _ (sym (ap (λ b. cond b true (same_class (class_of a) (class_of s))) k) ∙ by_ways (λ x y. cond (is_idle (phase_of y)) true (same_class (class_of x) (class_of y))) refl a s h)
]

-- a slot that holds is not idle
pub busy : (x : Standing) → phase_of x ≡ Holds → phase_of x ≢ Idle
busy x a b = cc

-- who holds
holding : (x : Standing) → (x ≡ ReaderH) ⊎ (x ≡ WriterH) → is.holding x ≡ true
holding x (inl e) = (row_of e).holding
holding x (inr e) = (row_of e).holding

module _ (w : Words) (l : List ℕ) (i : ℕ) (h : Keeps w l) (lt : i < 32) (m : steps_from (phases w i) (Unit {0}) ⊥) where
  abbrev before : Config
  before = config w l

  abbrev after : Config
  after = config (stepped w i) (arrives (phases w i) i l)

  pub turned : Inv before → Turn before i after
  turned v = turns w l i h.full lt v m

  -- what would break the invariant does not happen
  pub never : (Inv before → ⊥) → ⊥
  never f = ∥∥₁_elim h.sound ⊥_prop (λ v. f v.0)

  pub leads_on : leads (stands_at w i) (stands_at (stepped w i) i) ≡ true
  leads_on = elim (cases_Bool (leads (stands_at w i) (stands_at (stepped w i) i))) [ inl h ↦ h | inr h ↦ absurd (never (λ v. both_ways _ h (led before i (turned v)))) ]

  moved : Moved (stands_at w) i (stands_at (stepped w i) i) (stands_at (stepped w i))
  moved = record {
    here = refl;
    others = λ j d. same_number _ _ (elim (cases_eq (number (stands_at (stepped w i) j)) (number (stands_at w j))) [ inl e ↦ e | inr n ↦ absurd (never (λ v. n (ap number (stay before i (turned v) j d)))) ]);
  }

  -- a writer that begins to hold was at W8, and its block is off
  pub from_w8 : stands_at (stepped w i) i ≡ WriterH → (stands_at w i ≡ W8) × ((slot w i).state.blocked ≡ false)
  from_w8 e =
      let a : stands_at w i ≡ W8 = by_number _ 8 (eqb-true _ _ (by_ways (λ x y. cond (number y == number WriterH) (number x == number W8) true) refl (stands_at w i) WriterH (subst (λ y. leads (stands_at w i) y ≡ true) e leads_on))) in (
        a,
        elim (cases_Bool (slot w i).state.blocked) [
          | inl k ↦
              let q : stepped w i ≡ stand w i W8 = ap (λ x. stepped_at x w i) a ∙ ap (λ b. stand w i (cond b W8 WriterH)) k in
              let z : 8 ≡ 9 = ap number (sym (restands w l i W8 h.full lt).here ∙ ap (λ v. stands_at v i) (sym q) ∙ e) in
              absurd (omega arith)
          | inr k ↦ k
        ],
      )

  -- a reader that begins to hold was let in
  pub from_front : stands_at (stepped w i) i ≡ ReaderH → (is.off (stands_at w i) ≡ true) × (is.lining (stands_at w i) ≡ true) × (is.reading (stands_at w i) ≡ true)
  unfolding is.off is.lining is.reading
  from_front e =
      let h = subst (λ y. leads (stands_at w i) y ≡ true) e leads_on in
      let a = stands_at w i in (
        by_ways (λ x y. cond (number y == number ReaderH) (is.is_off x) true) refl a ReaderH h,
        by_ways (λ x y. cond (number y == number ReaderH) (is.is_lining x) true) refl a ReaderH h,
        by_ways (λ x y. cond (number y == number ReaderH) (is.is_reading x) true) refl a ReaderH h,
      )

  pub class_from : (x : Standing) → stands_at (stepped w i) i ≡ x → (phase_of x ≢ Idle) → class_of (stands_at w i) ≡ class_of x
  class_from x e n = sym (class_next (stands_at w i) x (subst (λ y. leads (stands_at w i) y ≡ true) e leads_on) n)

  writer_may : stands_at (stepped w i) i ≡ WriterH → MayHold Writing (mean w) i
  writer_may e j d h = let b = from_w8 e in never (λ v. writer_excludes before v i b.0 b.1 j (holding _ (holds_is _ h)))

  reader_may : stands_at (stepped w i) i ≡ ReaderH → MayHold Reading (mean w) i
  reader_may e j h c = elim (holds_is (stands_at w j) h) [
    | inl k ↦ cc (ap class_of k, c)
    | inr k ↦ let b = from_front e in never (λ v. reader_excludes before v i b.0 b.1 ((v.own i).reading b.2) j k ((v.own j).writing (row_of k).writing))
  ]

  may_hold : phases (stepped w i) i ≡ Holds → MayHold (classes w i) (mean w) i
  may_hold h = elim (holds_is (stands_at (stepped w i) i) h) [
    | inl e ↦ subst (λ c. MayHold c (mean w) i) (sym (class_from ReaderH e (busy ReaderH refl))) (reader_may e)
    | inr e ↦ subst (λ c. MayHold c (mean w) i) (sym (class_from WriterH e (busy WriterH refl))) (writer_may e)
  ]

  reaches : (p q : Phase) → phases w i ≡ p → phases (stepped w i) i ≡ q → reach p q ≡ true → steps_from p (Unit {0}) ⊥ → Reaches (mean w) i p q
  reaches Idle q a b h k = absurd k
  reaches Holds q a b h k = absurd k
  reaches Called Idle a b h k = absurd (both_ways false refl h)
  reaches Called Called a b h k = absurd (both_ways false refl h)
  reaches Called Waits a b h k = inl refl
  reaches Called Holds a b h k = inr (refl, may_hold b)
  reaches Called Leaves a b h k = absurd (both_ways false refl h)
  reaches Waits Idle a b h k = absurd (both_ways false refl h)
  reaches Waits Called a b h k = absurd (both_ways false refl h)
  reaches Waits Waits a b h k = inl refl
  reaches Waits Holds a b h k = inr (refl, may_hold b)
  reaches Waits Leaves a b h k = absurd (both_ways false refl h)
  reaches Leaves Idle a b h k = inr refl
  reaches Leaves Called a b h k = absurd (both_ways false refl h)
  reaches Leaves Waits a b h k = absurd (both_ways false refl h)
  reaches Leaves Holds a b h k = absurd (both_ways false refl h)
  reaches Leaves Leaves a b h k = inl refl

  pub means_stepped : Stepped (mean w) i (mean (stepped w i))
  means_stepped = step_means phase_of class_of (stands_at w) (stands_at (stepped w i)) (bars w) (bars (stepped w i)) i _
      (reaches (phases w i) (phases (stepped w i) i) refl refl (by_ways (λ x y. reach (phase_of x) (phase_of y)) refl (stands_at w i) (stands_at (stepped w i) i) leads_on) m)
      moved
      (class_next (stands_at w i) (stands_at (stepped w i) i) leads_on)
