-- A slot begins to hold in its turn.
use Rattle.std.proofs.Common.{◌≡◌, ℕ, suc, ◌<◌, Bool, true, false, cond, eqb, ◌⊎◌, List, [], ◌∷◌, length, sym, refl, ap, ◌∙◌, subst, inl, inr, arith}
use Rattle.std.proofs.lemmas.Bool.{cases_Bool, cases_eq, both_ways, eq-eqb, ne_eqb}
use Rattle.lock.specs.Line.{arrives, First, NoWriterBefore, Turn}
use Rattle.lock.specs.Meaning.{steps_from}
use Rattle.lock.specs.declared.words.Class.{Class}
use Rattle.lock.specs.declared.words.Class.TheVariants.{Reading, Writing}
use Rattle.lock.specs.declared.words.Phase.{Phase}
use Rattle.lock.specs.declared.words.Phase.TheVariants.{Idle, Called, Waits, Holds, Leaves}
use Rattle.queue_words.specs.Standings.{phase_of, class_of}
use Rattle.queue_words.specs.Steps.{stands_at, stepped}
use Rattle.queue_words.specs.declared.standing.Standing.{Standing}
use Rattle.queue_words.specs.declared.standing.Standing.TheVariants.{ReaderH, WriterH}
use Rattle.queue_lock.specs.Config.{Config, config}
use Rattle.queue_lock.specs.Lock.{phases, classes}
use Rattle.queue_lock.specs.Places.{pos}
use Rattle.queue_lock.specs.Sets as is
use Rattle.queue_lock.specs.Sets.{number}
use Rattle.queue_lock.specs.Every.{for_all}
use Rattle.queue_lock.specs.Facts as fact
use Rattle.queue_lock.specs.Lands.{leads, by_ways}
use Rattle.queue_lock.specs.Laws as law
use Rattle.queue_lock.specs.Laws.{same_class, class_by}
use Rattle.queue_lock.specs.PlacesInLine.{pos_here, pos_there}
use Rattle.queue_lock.specs.Safety.{writer_alone}
use Rattle.queue_lock.specs.Standings.{holds_is}
use Rattle.queue_lock.specs.Tended.{Keeps}
use Rattle.queue_words.specs.declared.words.Words.{Words}

-- slot i is first, or it has another place
first_or_not : (i : ℕ) (l : List ℕ) → First i l ⊎ (pos l i ≡ 0 → 0 < length l → ⊥)
first_or_not i [] = inr (λ _ h. omega arith)
first_or_not i (x ∷ l) = elim (cases_eq x i) [ inl e ↦ inl e | inr d ↦ inr (λ z _. let p = pos_there l i x (λ q. d (sym q)) in omega arith) ]

-- no writer stands before slot i, or one does
no_writer_or_not : (class : ℕ → Class) (i : ℕ) (l : List ℕ) → NoWriterBefore class i l ⊎ (((y : ℕ) → pos l y < pos l i → class y ≡ Reading) → pos l i < length l → ⊥)
no_writer_or_not class i [] = inr (λ _ h. omega arith)
no_writer_or_not class i (x ∷ l) = elim (cases_eq x i) [
  | inl e ↦ inl (subst (λ b. cond b (Unit {0}) ((class x ≡ Reading) × NoWriterBefore class i l)) (sym (eq-eqb x i e)) tt)
  | inr d ↦
      let there = pos_there l i x (λ q. d (sym q)) in
      let here = pos_here l x x refl in
      by_class (class x) refl there here d (no_writer_or_not class i l)
]
  where
    by_class : (c : Class) → class x ≡ c → pos (x ∷ l) i ≡ suc (pos l i) → pos (x ∷ l) x ≡ 0 → (x ≡ i → ⊥) → NoWriterBefore class i l ⊎ (((y : ℕ) → pos l y < pos l i → class y ≡ Reading) → pos l i < length l → ⊥) → NoWriterBefore class i (x ∷ l) ⊎ (((y : ℕ) → pos (x ∷ l) y < pos (x ∷ l) i → class y ≡ Reading) → pos (x ∷ l) i < length (x ∷ l) → ⊥)
    by_class Writing c there here d r = inr (λ f _. cc (f x (omega arith), c))
    by_class Reading c there here d (inl r) = inl (subst (λ b. cond b (Unit {0}) ((class x ≡ Reading) × NoWriterBefore class i l)) (sym (ne_eqb x i d)) (c, r))
    by_class Reading c there here d (inr n) = inr (λ f h. n (λ y k. elim (cases_eq y x) [ inl e ↦ ap class e ∙ c | inr u ↦ let p = pos_there l y x u in f y (omega arith) ]) (omega arith))

-- only a called slot arrives
abbrev arrived : Phase → Bool
arrived Idle = true
arrived Called = false
arrived Waits = true
arrived Holds = true
arrived Leaves = true

same_line : (p : Phase) (i : ℕ) (l : List ℕ) → arrived p ≡ true → arrives p i l ≡ l
same_line Idle i l h = refl
same_line Called i l h = absurd (both_ways false refl h)
same_line Waits i l h = refl
same_line Holds i l h = refl
same_line Leaves i l h = refl

-- a slot in line that does not write, reads
reads : (s : Standing) → is.lining s ≡ true → is.writing s ≡ false → class_of s ≡ Reading
unfolding is.lining is.writing
reads s a b = class_by Reading (class_of s) (let h = for_all (λ x. cond (is.is_lining x) (cond (is.is_writing x) true (same_class Reading (class_of x))) true) refl s in rw (a, b) at h)

module _ (w : Words) (l : List ℕ) (i : ℕ) (h : Keeps w l) (lt : i < 32) (m : steps_from (phases w i) (Unit {0}) ⊥) where
  abbrev before : Config
  before = config w l

  leads_to : (x : Standing) → stands_at (stepped w i) i ≡ x → leads (stands_at w i) x ≡ true
  leads_to x e = subst (λ y. leads (stands_at w i) y ≡ true) e (law.leads_on w l i h lt m)

  stays : arrived (phases w i) ≡ true → arrives (phases w i) i l ≡ l
  stays h = same_line (phases w i) i l h

  writer_first : stands_at (stepped w i) i ≡ WriterH → First i l
  writer_first e = elim (first_or_not i l) [
    | inl f ↦ f
    | inr n ↦
        let b = law.from_w8 w l i h lt m e in
        absurd (law.never w l i h lt m (λ v. let a = writer_alone before v i b.0 b.1 in let k = a.inside in n a.first (omega arith)))
  ]

  no_writer_before : stands_at (stepped w i) i ≡ ReaderH → NoWriterBefore (classes w) i l
  no_writer_before e = elim (no_writer_or_not (classes w) i l) [
    | inl f ↦ f
    | inr n ↦
        let b = law.from_front w l i h lt m e in
        absurd (law.never w l i h lt m (λ v.
        let f = v.front i (fact.in_line before v i b.1) (rw ((v.own i).off b.0) refl) in
        n (λ y k.
        let k2 = f.inside in
        let k3 = fact.lined before v y (omega arith) in
        reads (stands_at w y) k3 (elim (cases_Bool (is.writing (stands_at w y))) [ inl z ↦ absurd (fact.writer_not_act (before.at y) ((v.own y).writing z) (f.ahead y k)) | inr z ↦ z ])) f.inside))
  ]

  pub in_turn : phases (stepped w i) i ≡ Holds → Turn (classes w i) (classes w) i (arrives (phases w i) i l)
  in_turn e0 = elim (holds_is (stands_at (stepped w i) i) e0) [
    | inl e ↦
        subst (Turn (classes w i) (classes w) i) (sym (stays (by_ways (λ x y. cond (eqb (number y) (number ReaderH)) (arrived (phase_of x)) true) refl _ ReaderH (leads_to ReaderH e))))
        (subst (λ c. Turn c (classes w) i l) (sym (law.class_from w l i h lt m ReaderH e (law.busy ReaderH refl))) (no_writer_before e))
    | inr e ↦
        subst (Turn (classes w i) (classes w) i) (sym (stays (by_ways (λ x y. cond (eqb (number y) (number WriterH)) (arrived (phase_of x)) true) refl _ WriterH (leads_to WriterH e))))
        (subst (λ c. Turn c (classes w) i l) (sym (law.class_from w l i h lt m WriterH e (law.busy WriterH refl))) (writer_first e))
  ]
