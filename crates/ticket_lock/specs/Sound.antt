-- The invariant over plain functions and numbers. Before and after a move: where the slots stand (a, b),
-- what they have kept (k, g), the requests (r, q), the completions (c, d) and the line (l, m).
use Rattle.std.specs.Prelude.{◌≡◌, ℕ, zero, suc, ◌+◌, ◌<◌, ◌≤◌, List, length, ◌≢◌, refl}
use Rattle.std.proofs.Common.{sym, ap, subst, ◌∙◌, inl, inr, arith}
use Rattle.std.proofs.Props.{props}
use Rattle.std.proofs.lemmas.Bool.{cases_eq, cases_lt}
use Rattle.lined_lock.specs.Totals.{total, total_le}
use Rattle.ticket_lock.specs.Invariant.{Ahead, Fits, Sound, Keeps}
use Rattle.ticket_lock.specs.Order.{times, before, adv, reads, writes, read_leaves, write_leaves, readers_ahead, writers_ahead}
use Rattle.ticket_lock.specs.Counts.{before_le, few, adv_none}
use Rattle.ticket_words.specs.Counting.{lower, upper, counted}
use Rattle.ticket_words.specs.declared.standing.Standing.{Standing}
use Rattle.ticket_words.specs.declared.standing.Standing.TheVariants.{I, T1, T2, T3, T4, T5, T6, ReaderH, WriterH}
use Rattle.ticket_words.specs.declared.words.Words.{Words}

-- the invariant has one proof at most
fits_once : (x : Standing) (k c r w : ℕ) → IsProp (Fits x k c r w)
fits_once I k c r w = hlevel props
fits_once T1 k c r w = hlevel props
fits_once T2 k c r w = hlevel props
fits_once T3 k c r w = hlevel props
fits_once T4 k c r w = hlevel props
fits_once T5 k c r w = hlevel props
fits_once T6 k c r w = hlevel props
fits_once ReaderH k c r w = hlevel props
fits_once WriterH k c r w = hlevel props

pub keeps_once : (w : Words) (l : List ℕ) → IsProp (Keeps w l)
keeps_once w l = hlevel (props, fits_once)

-- nobody both reads and writes, and who leaves does not stand in line
pub once : (x : Standing) → reads x + writes x + read_leaves x + write_leaves x ≤ 1
once I = omega arith
once T1 = omega arith
once T2 = omega arith
once T3 = omega arith
once T4 = omega arith
once T5 = omega arith
once T6 = omega arith
once ReaderH = omega arith
once WriterH = omega arith

pub line_few : {a : ℕ → Standing} {k : ℕ → ℕ} {r c : ℕ} {l : List ℕ} → (n : ℕ) → Sound a k r c l → ((x : ℕ) → n ≤ x → a x ≡ I) → length l ≤ n
line_few {a} {k} {r} {c} {l} n s o = few n l
    (λ x. let h = s.lined x in let u = once (a x) in omega arith)
    (λ x m. elim (cases_lt x n) [ inl h ↦ h | inr g ↦ let h = s.lined x in let e = ap (λ y. reads y + writes y) (o x g) in absurd (omega arith) ])

-- at most so many are ahead, and so a half that is ahead by them and has not moved is ahead by none
none_ahead : {a : ℕ → Standing} {k : ℕ → ℕ} {r c : ℕ} {l : List ℕ} (f h : Standing → ℕ) (v i : ℕ) → Sound a k r c l → ((x : Standing) → f x ≤ 1) → ((x : Standing) → h x ≤ 1) → v ≡ adv v (total (λ x. f (a x)) 32 + before (λ x. h (a x)) i l) → total (λ x. f (a x)) 32 + before (λ x. h (a x)) i l ≡ 0
none_ahead {a} {k} {r} {c} {l} f h v i s lf lh e =
    let n = line_few 32 s s.off in
    let u = before_le (λ x. h (a x)) i l (λ x. lh (a x)) in
    let w = total_le (λ x. f (a x)) 1 32 (λ x. lf (a x)) in
    adv_none v _ (omega arith) (sym e)

pub no_writers : {a : ℕ → Standing} {k : ℕ → ℕ} {r c : ℕ} {l : List ℕ} (v i : ℕ) → Sound a k r c l → v ≡ adv v (writers_ahead a l i) → writers_ahead a l i ≡ 0
no_writers v i s e = none_ahead write_leaves writes v i s (λ x. let o = once x in omega arith) (λ x. let o = once x in omega arith) e

pub no_readers : {a : ℕ → Standing} {k : ℕ → ℕ} {r c : ℕ} {l : List ℕ} (v i : ℕ) → Sound a k r c l → v ≡ adv v (readers_ahead a l i) → readers_ahead a l i ≡ 0
no_readers v i s e = none_ahead read_leaves reads v i s (λ x. let o = once x in omega arith) (λ x. let o = once x in omega arith) e

-- a count that goes with its half: nothing ahead stays nothing ahead
pub record Follows (v n u m : ℕ) : Type 0 where
  pub same : adv u m ≡ adv v n
  pub none : n ≡ 0 → m ≡ 0

pub follows_same : (v n u m : ℕ) → u ≡ v → m ≡ n → Follows v n u m
follows_same v n u m e f = record { same = ap (λ x. adv x m) e ∙ ap (adv v) f; none = λ z. f ∙ z }

adv_count : (v n : ℕ) → adv (counted v) n ≡ adv v (suc n)
adv_count v zero = refl
adv_count v (suc n) = ap counted (adv_count v n)

pub follows_count : (v n u m : ℕ) → u ≡ counted v → n ≡ suc m → Follows v n u m
follows_count v n u m e f = record { same = ap (λ x. adv x m) e ∙ adv_count v m ∙ ap (adv v) (sym f); none = λ z. absurd (omega arith) }

fits_follow : (x : Standing) (k c d readers writers fewer-r fewer-w : ℕ) → (reads x + writes x ≡ 1 → Follows (lower c) writers (lower d) fewer-w) → (writes x ≡ 1 → Follows (upper c) readers (upper d) fewer-r) → Fits x k c readers writers → Fits x k d fewer-r fewer-w
fits_follow I k c d rs ws fr fw w r f = tt
fits_follow T1 k c d rs ws fr fw w r f = tt
fits_follow T2 k c d rs ws fr fw w r f = f ∙ sym (w refl).same
fits_follow T3 k c d rs ws fr fw w r f = tt
fits_follow T4 k c d rs ws fr fw w r f = tt
fits_follow T5 k c d rs ws fr fw w r f = (f.0 ∙ sym (w refl).same, f.1 ∙ sym (r refl).same)
fits_follow T6 k c d rs ws fr fw w r f = tt
fits_follow ReaderH k c d rs ws fr fw w r f = (w refl).none f
fits_follow WriterH k c d rs ws fr fw w r f = ((w refl).none f.0, (r refl).none f.1)

-- slot i moves, and no other
pub record Alone (a b : ℕ → Standing) (k g : ℕ → ℕ) (i : ℕ) : Type 0 where
  pub slot : i < 32
  pub stands : (j : ℕ) → (j ≢ i) → b j ≡ a j
  pub keeps : (j : ℕ) → (j ≢ i) → g j ≡ k j

-- what is ahead of the other slots goes with the completions
pub record Passes (a b : ℕ → Standing) (c d : ℕ) (l m : List ℕ) (i : ℕ) : Type 0 where
  pub writers : (j : ℕ) → (j ≢ i) → reads (a j) + writes (a j) ≡ 1 → Follows (lower c) (writers_ahead a l j) (lower d) (writers_ahead b m j)
  pub readers : (j : ℕ) → (j ≢ i) → writes (a j) ≡ 1 → Follows (upper c) (readers_ahead a l j) (upper d) (readers_ahead b m j)

pub keeps_sound : {a b : ℕ → Standing} {k g : ℕ → ℕ} {r q c d : ℕ} {l m : List ℕ} {i : ℕ} → Sound a k r c l → Alone a b k g i → Passes a b c d l m i → ((j : ℕ) → times j m ≡ reads (b j) + writes (b j)) → Ahead q d (readers_ahead b m 32) (writers_ahead b m 32) → Fits (b i) (g i) d (readers_ahead b m i) (writers_ahead b m i) → Sound b g q d m
keeps_sound {a} {b} {k} {g} {r} {q} {c} {d} {l} {m} {i} s o p t h own = record {
  off = λ j e. let z = o.slot in o.stands j (λ y. omega arith) ∙ s.off j e;
  lined = t;
  requested = h;
  fits = λ j. elim (cases_eq j i) [
    | inl e ↦ subst (λ x. Fits (b x) (g x) d (readers_ahead b m x) (writers_ahead b m x)) (sym e) own
    | inr n ↦
        let f = fits_follow (a j) (k j) c d (readers_ahead a l j) (writers_ahead a l j) (readers_ahead b m j) (writers_ahead b m j) (p.writers j n) (p.readers j n) (s.fits j) in
        subst (λ x. Fits x (g j) d (readers_ahead b m j) (writers_ahead b m j)) (sym (o.stands j n)) (subst (λ x. Fits (a j) x d (readers_ahead b m j) (writers_ahead b m j)) (sym (o.keeps j n)) f)
  ];
}
