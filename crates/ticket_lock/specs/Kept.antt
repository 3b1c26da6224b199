-- Each move of a slot keeps the invariant of the words and the line.
use Rattle.std.specs.Prelude.{◌≡◌, ℕ, ◌+◌, ◌<◌, ◌≤◌, Bool, true, false, cond, List, [], length, ◌==◌, ◌≢◌, slice_index_or, refl}
use Rattle.std.proofs.Common.{sym, ap, subst, ◌∙◌, arith, length-set, get_or-set_same, get_or-set_other}
use Rattle.std.proofs.lemmas.Bool.{eqb-true}
use Rattle.slots.specs.Tables.{all_alike}
use Rattle.lined_lock.specs.Totals.{total_le}
use Rattle.lock.specs.Line.{arrives, without}
use Rattle.lock.specs.Meaning.{steps_from}
use Rattle.lock.specs.declared.words.Class.{Class}
use Rattle.lock.specs.declared.words.Class.TheVariants.{Reading, Writing}
use Rattle.lock.specs.declared.words.Phase.TheVariants.{Idle, Holds}
use Rattle.ticket_lock.specs.Invariant.{Fits, Full, Keeps}
use Rattle.ticket_lock.specs.Lock.{phases}
use Rattle.ticket_lock.specs.Order.{adv, reads, writes, read_leaves, write_leaves, readers_ahead, writers_ahead}
use Rattle.ticket_lock.specs.Sound.{Alone, line_few, no_writers, no_readers}
use Rattle.ticket_lock.specs.Moves.{Alike, quiet, reader_in, writer_in, reader_out, writer_out, reader_quits, writer_quits}
use Rattle.ticket_words.specs.Counting.{lower, upper, counted, reader_counted, writer_counted}
use Rattle.ticket_words.specs.Places.{unused, phase_of}
use Rattle.ticket_words.specs.Steps.{stands_at, kept_by, called_standing, finished_standing, written, stepped_at, stepped, called, finished, fresh_words}
use Rattle.ticket_words.specs.declared.standing.Standing.{Standing}
use Rattle.ticket_words.specs.declared.standing.Standing.TheVariants.{I, T1, T2, T3, T4, T5, T6, ReaderH, WriterH}
use Rattle.ticket_words.specs.declared.words.Words.{Words}

pub fit_at : {w : Words} {l : List ℕ} → Keeps w l → (i : ℕ) (x : Standing) → stands_at w i ≡ x → Fits x (kept_by w i) w.completions (readers_ahead (stands_at w) l i) (writers_ahead (stands_at w) l i)
fit_at {w} {l} h i x e = subst (λ y. Fits y (kept_by w i) w.completions (readers_ahead (stands_at w) l i) (writers_ahead (stands_at w) l i)) e (h.sound.fits i)

-- one slot's place is written
module _ (w : Words) (i : ℕ) (x : Standing) (k r c : ℕ) (lt : i < 32) (full : Full w) where
  abbrev after : Words
  after = written w i x k r c

  here : slice_index_or after.table.slots i unused ≡ record { standing = x; kept = k }
  here = get_or-set_same w.table.slots i _ unused (omega arith)

  pub stands_here : stands_at after i ≡ x
  stands_here = ap (λ p. p.standing) here

  pub kept_here : kept_by after i ≡ k
  kept_here = ap (λ p. p.kept) here

  pub stands_there : (j : ℕ) → (j ≢ i) → stands_at after j ≡ stands_at w j
  stands_there j n = ap (λ p. p.standing) (get_or-set_other w.table.slots i j _ unused n)

  pub kept_there : (j : ℕ) → (j ≢ i) → kept_by after j ≡ kept_by w j
  kept_there j n = ap (λ p. p.kept) (get_or-set_other w.table.slots i j _ unused n)

  alone : Alone (stands_at w) (stands_at after) (kept_by w) (kept_by after) i
  alone = record { slot = lt; stands = stands_there; keeps = kept_there }

  full_after : Full after
  full_after = simp length-set full

-- the halves of a word with one more counted
pub lower_read : (word : ℕ) → lower (reader_counted word) ≡ lower word
lower_read word = omega arith

upper_read : (word : ℕ) → upper (reader_counted word) ≡ counted (upper word)
upper_read word = omega arith

lower_write : (word : ℕ) → lower (writer_counted word) ≡ counted (lower word)
lower_write word = omega arith

upper_write : (word : ℕ) → upper (writer_counted word) ≡ upper word
upper_write word = omega arith

-- a slot that stands elsewhere, and counts alike
restands : {w : Words} {l : List ℕ} → Keeps w l → (i : ℕ) (x y : Standing) → i < 32 → stands_at w i ≡ x → Alike x y → Fits y (kept_by w i) w.completions (readers_ahead (stands_at w) l i) (writers_ahead (stands_at w) l i) → Keeps (written w i y (kept_by w i) w.requests w.completions) l
restands {w} {l} h i x y lt e u f =
    let k = kept_by w i in let r = w.requests in let c = w.completions in
    let sh = stands_here w i y k r c lt h.full in
    let kh = kept_here w i y k r c lt h.full in
    record {
      full = full_after w i y k r c lt h.full;
      sound = quiet (alone w i y k r c lt h.full) h.sound
          (subst (λ z. Alike z (stands_at (written w i y k r c) i)) (sym e) (subst (Alike x) (sym sh) u))
          (subst (λ z. Fits z (kept_by (written w i y k r c) i) c (readers_ahead (stands_at w) l i) (writers_ahead (stands_at w) l i)) (sym sh)
          (subst (λ z. Fits y z c (readers_ahead (stands_at w) l i) (writers_ahead (stands_at w) l i)) (sym kh) f));
    }

alike : (x y : Standing) → reads y ≡ reads x → writes y ≡ writes x → read_leaves y ≡ read_leaves x → write_leaves y ≡ write_leaves x → Alike x y
alike x y a b c d = record { read = a; write = b; read_leave = c; write_leave = d }

-- a waiting slot whose test is true has none before it that it must wait for
pub reader_free : {w : Words} {l : List ℕ} → Keeps w l → (i : ℕ) → stands_at w i ≡ T2 → (lower w.completions == kept_by w i) ≡ true → writers_ahead (stands_at w) l i ≡ 0
reader_free {w} {l} h i e z = no_writers (lower w.completions) i h.sound (eqb-true _ _ z ∙ fit_at h i T2 e)

pub writer_free : {w : Words} {l : List ℕ} → Keeps w l → (i : ℕ) → stands_at w i ≡ T5 → (w.completions == kept_by w i) ≡ true → (writers_ahead (stands_at w) l i ≡ 0) × (readers_ahead (stands_at w) l i ≡ 0)
writer_free {w} {l} h i e z =
    let f = fit_at h i T5 e in
    let q = eqb-true _ _ z in
    (no_writers (lower w.completions) i h.sound (ap lower q ∙ f.0), no_readers (upper w.completions) i h.sound (ap upper q ∙ f.1))

-- the test of a waiting reader
reader_tries : {w : Words} {l : List ℕ} → Keeps w l → (i : ℕ) → i < 32 → stands_at w i ≡ T2 → (b : Bool) → (lower w.completions == kept_by w i) ≡ b → Keeps (written w i (cond b ReaderH T2) (kept_by w i) w.requests w.completions) l
reader_tries h i lt e true z = restands h i T2 ReaderH lt e (alike T2 ReaderH refl refl refl refl) (reader_free h i e z)
reader_tries h i lt e false z = restands h i T2 T2 lt e (alike T2 T2 refl refl refl refl) (fit_at h i T2 e)

-- the test of a waiting writer
writer_tries : {w : Words} {l : List ℕ} → Keeps w l → (i : ℕ) → i < 32 → stands_at w i ≡ T5 → (b : Bool) → (w.completions == kept_by w i) ≡ b → Keeps (written w i (cond b WriterH T5) (kept_by w i) w.requests w.completions) l
writer_tries h i lt e true z = restands h i T5 WriterH lt e (alike T5 WriterH refl refl refl refl) (writer_free h i e z)
writer_tries h i lt e false z = restands h i T5 T5 lt e (alike T5 T5 refl refl refl refl) (fit_at h i T5 e)

step_at_keeps : {w : Words} {l : List ℕ} → Keeps w l → (i : ℕ) (x : Standing) → i < 32 → stands_at w i ≡ x → steps_from (phase_of x) (Unit {0}) ⊥ → Keeps (stepped_at w i x) (arrives (phase_of x) i l)
step_at_keeps h i I lt e m = absurd m
step_at_keeps {w} {l} h i T1 lt e m =
    let r = w.requests in let q = reader_counted r in let c = w.completions in
    record {
      full = full_after w i T2 (lower r) q c lt h.full;
      sound = reader_in (alone w i T2 (lower r) q c lt h.full) h.sound e (stands_here w i T2 (lower r) q c lt h.full) (kept_here w i T2 (lower r) q c lt h.full) (lower_read r) (upper_read r);
    }
step_at_keeps {w} {l} h i T2 lt e m = reader_tries h i lt e _ refl
step_at_keeps {w} {l} h i T3 lt e m =
    let r = w.requests in let k = kept_by w i in let d = reader_counted w.completions in
    record {
      full = full_after w i I k r d lt h.full;
      sound = reader_out (alone w i I k r d lt h.full) h.sound e (stands_here w i I k r d lt h.full) (lower_read w.completions) (upper_read w.completions);
    }
step_at_keeps {w} {l} h i T4 lt e m =
    let r = w.requests in let q = writer_counted r in let c = w.completions in
    record {
      full = full_after w i T5 r q c lt h.full;
      sound = writer_in (alone w i T5 r q c lt h.full) h.sound e (stands_here w i T5 r q c lt h.full) (kept_here w i T5 r q c lt h.full) (lower_write r) (upper_write r);
    }
step_at_keeps {w} {l} h i T5 lt e m = writer_tries h i lt e _ refl
step_at_keeps {w} {l} h i T6 lt e m =
    let r = w.requests in let k = kept_by w i in let d = writer_counted w.completions in
    record {
      full = full_after w i I k r d lt h.full;
      sound = writer_out (alone w i I k r d lt h.full) h.sound e (stands_here w i I k r d lt h.full) (lower_write w.completions) (upper_write w.completions);
    }
step_at_keeps h i ReaderH lt e m = absurd m
step_at_keeps h i WriterH lt e m = absurd m

pub keeps_stepped : (w : Words) (l : List ℕ) (i : ℕ) → Keeps w l → i < 32 → steps_from (phases w i) (Unit {0}) ⊥ → Keeps (stepped w i) (arrives (phases w i) i l)
keeps_stepped w l i h lt m = step_at_keeps h i (stands_at w i) lt refl m

pub idle_is : (x : Standing) → phase_of x ≡ Idle → x ≡ I
idle_is I e = refl
idle_is T1 e = absurd (cc)
idle_is T2 e = absurd (cc)
idle_is T3 e = absurd (cc)
idle_is T4 e = absurd (cc)
idle_is T5 e = absurd (cc)
idle_is T6 e = absurd (cc)
idle_is ReaderH e = absurd (cc)
idle_is WriterH e = absurd (cc)

call_at_keeps : {w : Words} {l : List ℕ} → Keeps w l → (i : ℕ) (class : Class) → i < 32 → stands_at w i ≡ I → Keeps (written w i (called_standing I class) (kept_by w i) w.requests w.completions) l
call_at_keeps h i Reading lt e = restands h i I T1 lt e (alike I T1 refl refl refl refl) tt
call_at_keeps h i Writing lt e = restands h i I T4 lt e (alike I T4 refl refl refl refl) tt

pub keeps_called : (w : Words) (l : List ℕ) (i : ℕ) (class : Class) → Keeps w l → i < 32 → phases w i ≡ Idle → Keeps (called w i class) l
keeps_called w l i class h lt e =
    let z = idle_is (stands_at w i) e in
    subst (λ x. Keeps (written w i (called_standing x class) (kept_by w i) w.requests w.completions) l) (sym z) (call_at_keeps h i class lt z)

finish_at_keeps : {w : Words} {l : List ℕ} → Keeps w l → (i : ℕ) (x : Standing) → i < 32 → stands_at w i ≡ x → phase_of x ≡ Holds → Keeps (written w i (finished_standing x) (kept_by w i) w.requests w.completions) (without i l)
finish_at_keeps h i I lt e m = absurd (cc)
finish_at_keeps h i T1 lt e m = absurd (cc)
finish_at_keeps h i T2 lt e m = absurd (cc)
finish_at_keeps h i T3 lt e m = absurd (cc)
finish_at_keeps h i T4 lt e m = absurd (cc)
finish_at_keeps h i T5 lt e m = absurd (cc)
finish_at_keeps h i T6 lt e m = absurd (cc)
finish_at_keeps {w} {l} h i ReaderH lt e m =
    let k = kept_by w i in let r = w.requests in let c = w.completions in
    record {
      full = full_after w i T3 k r c lt h.full;
      sound = reader_quits (alone w i T3 k r c lt h.full) h.sound e (stands_here w i T3 k r c lt h.full);
    }
finish_at_keeps {w} {l} h i WriterH lt e m =
    let k = kept_by w i in let r = w.requests in let c = w.completions in
    record {
      full = full_after w i T6 k r c lt h.full;
      sound = writer_quits (alone w i T6 k r c lt h.full) h.sound e (stands_here w i T6 k r c lt h.full);
    }

pub keeps_finished : (w : Words) (l : List ℕ) (i : ℕ) → Keeps w l → i < 32 → phases w i ≡ Holds → Keeps (finished w i) (without i l)
keeps_finished w l i h lt m = finish_at_keeps h i (stands_at w i) lt refl m

-- fresh words with nobody in line
pub all_idle : (i : ℕ) → stands_at fresh_words i ≡ I
all_idle i = ap (λ p. p.standing) (all_alike unused 32 i)

pub keeps_begun : Keeps fresh_words []
keeps_begun =
    let a = stands_at fresh_words in
    let idle : (j : ℕ) → a j ≡ I = all_idle in
    let nr : readers_ahead a [] 32 ≡ 0 = let z = total_le (λ x. read_leaves (a x)) 0 32 (λ x. let u = ap read_leaves (idle x) in omega arith) in omega arith in
    let nw : writers_ahead a [] 32 ≡ 0 = let z = total_le (λ x. write_leaves (a x)) 0 32 (λ x. let u = ap write_leaves (idle x) in omega arith) in omega arith in
    record {
      full = refl;
      sound = record {
        off = λ i h. idle i;
        lined = λ i. sym (ap (λ x. reads x + writes x) (idle i));
        requested = (ap (adv 0) (sym nw), ap (adv 0) (sym nr));
        fits = λ i. subst (λ x. Fits x (kept_by fresh_words i) 0 (readers_ahead a [] i) (writers_ahead a [] i)) (sym (idle i)) tt;
      };
    }

pub keeps_few : (w : Words) (l : List ℕ) → Keeps w l → length l ≤ 32
keeps_few w l h = line_few 32 h.sound h.sound.off
