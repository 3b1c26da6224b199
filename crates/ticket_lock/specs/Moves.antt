-- Each kind of move keeps the invariant.
use Rattle.std.specs.Prelude.{◌≡◌, ℕ, suc, ◌+◌, ◌≤◌, List, [], ◌∷◌, ◌++◌, ◌≢◌, refl}
use Rattle.std.proofs.Common.{sym, ap, subst, ◌∙◌, inl, inr, arith}
use Rattle.std.proofs.lemmas.Bool.{cases_eq}
use Rattle.lined_lock.specs.Totals.{total, total_one}
use Rattle.lock.specs.Line.{without}
use Rattle.ticket_lock.specs.Invariant.{Ahead, Fits, Sound}
use Rattle.ticket_lock.specs.Order.{times, before, adv, reads, writes, read_leaves, write_leaves, readers_ahead, writers_ahead}
use Rattle.ticket_lock.specs.Counts.{times_end_own, times_end_other, before_end_in, before_end_own, before_end_out, before_agree, times_without_own, times_without_other, only, before_without, only_none, only_passed, before_sum}
use Rattle.ticket_lock.specs.Sound.{once, follows_same, follows_count, Alone, keeps_sound}
use Rattle.ticket_words.specs.Counting.{lower, upper, counted}
use Rattle.ticket_words.specs.declared.standing.Standing.{Standing}
use Rattle.ticket_words.specs.declared.standing.Standing.TheVariants.{I, T1, T2, T3, T4, T5, T6, ReaderH, WriterH}

-- two standings that count alike
pub record Alike (x y : Standing) : Type 0 where
  pub read : reads y ≡ reads x
  pub write : writes y ≡ writes x
  pub read_leave : read_leaves y ≡ read_leaves x
  pub write_leave : write_leaves y ≡ write_leaves x

module _ {a b : ℕ → Standing} {k g : ℕ → ℕ} {i : ℕ} (o : Alone a b k g i) where
  -- what slot i adds to a sum over the slots changes, and no more
  total_move : (f : Standing → ℕ) → total (λ x. f (b x)) 32 + f (a i) ≡ total (λ x. f (a x)) 32 + f (b i)
  total_move f = total_one (λ x. f (a x)) (λ x. f (b x)) i 32 (λ x n. ap f (o.stands x n)) o.slot

  everywhere : (f : Standing → ℕ) → f (b i) ≡ f (a i) → (x : ℕ) → f (b x) ≡ f (a x)
  everywhere f e x = elim (cases_eq x i) [ inl q ↦ ap (λ y. f (b y)) q ∙ e ∙ ap (λ y. f (a y)) (sym q) | inr n ↦ ap f (o.stands x n) ]

  before_move : (f : Standing → ℕ) (j : ℕ) (l : List ℕ) → f (b i) ≡ f (a i) → before (λ x. f (b x)) j l ≡ before (λ x. f (a x)) j l
  before_move f j l e = before_agree (λ x. f (a x)) (λ x. f (b x)) j l (λ x m. everywhere f e x)

  -- the line stays
  stays_lined : {r c : ℕ} {l : List ℕ} → Sound a k r c l → reads (b i) ≡ reads (a i) → writes (b i) ≡ writes (a i) → (j : ℕ) → times j l ≡ reads (b j) + writes (b j)
  stays_lined s e f j = let x = everywhere reads e j in let y = everywhere writes f j in let z = s.lined j in omega arith

  pub quiet : {r c : ℕ} {l : List ℕ} → Sound a k r c l → Alike (a i) (b i) → Fits (b i) (g i) c (readers_ahead a l i) (writers_ahead a l i) → Sound b g r c l
  quiet {r} {c} {l} s y f =
      let rl = total_move read_leaves in
      let wl = total_move write_leaves in
      let er : (j : ℕ) → readers_ahead b l j ≡ readers_ahead a l j = λ j. let z = before_move reads j l y.read in let u = y.read_leave in omega arith in
      let ew : (j : ℕ) → writers_ahead b l j ≡ writers_ahead a l j = λ j. let z = before_move writes j l y.write in let u = y.write_leave in omega arith in
      keeps_sound s o
      (record { writers = λ j n h. follows_same _ _ _ _ refl (ew j); readers = λ j n h. follows_same _ _ _ _ refl (er j) })
      (stays_lined s y.read y.write)
      (s.requested.0 ∙ ap (adv (lower c)) (sym (ew 32)), s.requested.1 ∙ ap (adv (upper c)) (sym (er 32)))
      (subst (λ n. Fits (b i) (g i) c n (writers_ahead b l i)) (sym (er i)) (subst (λ n. Fits (b i) (g i) c (readers_ahead a l i) n) (sym (ew i)) f))

  -- a slot at T3 counts a reader out
  pub reader_out : {r c d : ℕ} {l : List ℕ} → Sound a k r c l → a i ≡ T3 → b i ≡ I → lower d ≡ lower c → upper d ≡ counted (upper c) → Sound b g r d l
  reader_out {r} {c} {d} {l} s e f lo up =
      let er : (j : ℕ) → readers_ahead a l j ≡ suc (readers_ahead b l j) = λ j. let z = before_move reads j l (ap reads f ∙ sym (ap reads e)) in let u = total_move read_leaves in let p = ap read_leaves e in let q = ap read_leaves f in omega arith in
      let ew : (j : ℕ) → writers_ahead b l j ≡ writers_ahead a l j = λ j. let z = before_move writes j l (ap writes f ∙ sym (ap writes e)) in let u = total_move write_leaves in let p = ap write_leaves e in let q = ap write_leaves f in omega arith in
      keeps_sound s o
      (record { writers = λ j n h. follows_same _ _ _ _ lo (ew j); readers = λ j n h. follows_count _ _ _ _ up (er j) })
      (stays_lined s (ap reads f ∙ sym (ap reads e)) (ap writes f ∙ sym (ap writes e)))
      (s.requested.0 ∙ sym (follows_same _ _ _ _ lo (ew 32)).same, s.requested.1 ∙ sym (follows_count _ _ _ _ up (er 32)).same)
      (subst (λ x. Fits x (g i) d (readers_ahead b l i) (writers_ahead b l i)) (sym f) tt)

  -- a slot at T6 counts a writer out
  pub writer_out : {r c d : ℕ} {l : List ℕ} → Sound a k r c l → a i ≡ T6 → b i ≡ I → lower d ≡ counted (lower c) → upper d ≡ upper c → Sound b g r d l
  writer_out {r} {c} {d} {l} s e f lo up =
      let er : (j : ℕ) → readers_ahead b l j ≡ readers_ahead a l j = λ j. let z = before_move reads j l (ap reads f ∙ sym (ap reads e)) in let u = total_move read_leaves in let p = ap read_leaves e in let q = ap read_leaves f in omega arith in
      let ew : (j : ℕ) → writers_ahead a l j ≡ suc (writers_ahead b l j) = λ j. let z = before_move writes j l (ap writes f ∙ sym (ap writes e)) in let u = total_move write_leaves in let p = ap write_leaves e in let q = ap write_leaves f in omega arith in
      keeps_sound s o
      (record { writers = λ j n h. follows_count _ _ _ _ lo (ew j); readers = λ j n h. follows_same _ _ _ _ up (er j) })
      (stays_lined s (ap reads f ∙ sym (ap reads e)) (ap writes f ∙ sym (ap writes e)))
      (s.requested.0 ∙ sym (follows_count _ _ _ _ lo (ew 32)).same, s.requested.1 ∙ sym (follows_same _ _ _ _ up (er 32)).same)
      (subst (λ x. Fits x (g i) d (readers_ahead b l i) (writers_ahead b l i)) (sym f) tt)

  -- what is ahead of whom, when slot i joins the line
  record Joins (f h : Standing → ℕ) (l : List ℕ) : Type 0 where
    others : (j : ℕ) → 1 ≤ times j l → total (λ x. f (b x)) 32 + before (λ x. h (b x)) j (l ++ (i ∷ [])) ≡ total (λ x. f (a x)) 32 + before (λ x. h (a x)) j l
    own : total (λ x. f (b x)) 32 + before (λ x. h (b x)) i (l ++ (i ∷ [])) ≡ total (λ x. f (a x)) 32 + before (λ x. h (a x)) 32 l
    all : total (λ x. f (b x)) 32 + before (λ x. h (b x)) 32 (l ++ (i ∷ [])) ≡ total (λ x. f (a x)) 32 + before (λ x. h (a x)) 32 l + h (b i)

  joins : {r c : ℕ} {l : List ℕ} (f h : Standing → ℕ) → Sound a k r c l → times i l ≡ 0 → f (b i) ≡ f (a i) → Joins f h l
  joins {r} {c} {l} f h s z e =
      let u = total_move f in
      let out : times 32 l ≡ 0 = let t = s.lined 32 in let q = ap (λ x. reads x + writes x) (s.off 32 (omega arith)) in omega arith in
      let same : (j : ℕ) → before (λ x. h (b x)) j l ≡ before (λ x. h (a x)) j l = λ j. before_agree (λ x. h (a x)) (λ x. h (b x)) j l (λ x m. ap h (o.stands x (λ q. let t = ap (λ y. times y l) q in omega arith))) in
      record {
        others = λ j m. let p = before_end_in (λ x. h (b x)) j i l m in let q = same j in omega arith;
        own = let p = before_end_own (λ x. h (b x)) i 32 l z out in let q = same 32 in omega arith;
        all = let p = before_end_out (λ x. h (b x)) i 32 l (λ y. let w = o.slot in omega arith) out in let q = same 32 in omega arith;
      }

  joined_lined : {r c : ℕ} {l : List ℕ} → Sound a k r c l → times i l ≡ 0 → reads (b i) + writes (b i) ≡ 1 → (j : ℕ) → times j (l ++ (i ∷ [])) ≡ reads (b j) + writes (b j)
  joined_lined {r} {c} {l} s z e j = elim (cases_eq j i) [
    | inl q ↦ let t = times_end_own i l in let u = ap (λ x. times x (l ++ (i ∷ []))) q in let v = ap (λ x. reads (b x) + writes (b x)) q in omega arith
    | inr n ↦ let t = times_end_other j i l (λ y. n (sym y)) in let u = s.lined j in let v = ap (λ x. reads x + writes x) (o.stands j n) in omega arith
  ]

  -- a slot arrives, and the requests are written with it counted
  arrives_sound : {r q c : ℕ} {l : List ℕ} → Sound a k r c l → times i l ≡ 0 → reads (b i) + writes (b i) ≡ 1 → (wj : Joins write_leaves writes l) (rj : Joins read_leaves reads l) → Ahead q c (readers_ahead a l 32 + reads (b i)) (writers_ahead a l 32 + writes (b i)) → Fits (b i) (g i) c (readers_ahead a l 32) (writers_ahead a l 32) → Sound b g q c (l ++ (i ∷ []))
  arrives_sound {r} {q} {c} {l} s z e wj rj h f =
      let m = l ++ (i ∷ []) in
      keeps_sound s o
      (record {
        writers = λ j n w. follows_same _ _ _ _ refl (wj.others j (let t = s.lined j in omega arith));
        readers = λ j n w. follows_same _ _ _ _ refl (rj.others j (let t = s.lined j in omega arith));
      })
      (joined_lined s z e)
      (h.0 ∙ ap (adv (lower c)) (sym wj.all), h.1 ∙ ap (adv (upper c)) (sym rj.all))
      (subst (λ n. Fits (b i) (g i) c n (writers_ahead b m i)) (sym rj.own) (subst (λ n. Fits (b i) (g i) c (readers_ahead a l 32) n) (sym wj.own) f))

  pub reader_in : {r q c : ℕ} {l : List ℕ} → Sound a k r c l → a i ≡ T1 → b i ≡ T2 → g i ≡ lower r → lower q ≡ lower r → upper q ≡ counted (upper r) → Sound b g q c (l ++ (i ∷ []))
  reader_in {r} {q} {c} {l} s e f v lo up =
      let z : times i l ≡ 0 = s.lined i ∙ ap (λ x. reads x + writes x) e in
      let more : suc (readers_ahead a l 32) ≡ readers_ahead a l 32 + reads (b i) = let p = ap reads f in omega arith in
      arrives_sound s z (ap (λ x. reads x + writes x) f)
      (joins write_leaves writes s z (ap write_leaves f ∙ sym (ap write_leaves e)))
      (joins read_leaves reads s z (ap read_leaves f ∙ sym (ap read_leaves e))) (
        lo ∙ s.requested.0 ∙ ap (adv (lower c)) (let p = ap writes f in omega arith),
        up ∙ ap counted s.requested.1 ∙ ap (adv (upper c)) more,
      )
      (subst (λ x. Fits x (g i) c (readers_ahead a l 32) (writers_ahead a l 32)) (sym f) (v ∙ s.requested.0))

  pub writer_in : {r q c : ℕ} {l : List ℕ} → Sound a k r c l → a i ≡ T4 → b i ≡ T5 → g i ≡ r → lower q ≡ counted (lower r) → upper q ≡ upper r → Sound b g q c (l ++ (i ∷ []))
  writer_in {r} {q} {c} {l} s e f v lo up =
      let z : times i l ≡ 0 = s.lined i ∙ ap (λ x. reads x + writes x) e in
      let more : suc (writers_ahead a l 32) ≡ writers_ahead a l 32 + writes (b i) = let p = ap writes f in omega arith in
      arrives_sound s z (ap (λ x. reads x + writes x) f)
      (joins write_leaves writes s z (ap write_leaves f ∙ sym (ap write_leaves e)))
      (joins read_leaves reads s z (ap read_leaves f ∙ sym (ap read_leaves e))) (
        lo ∙ ap counted s.requested.0 ∙ ap (adv (lower c)) more,
        up ∙ s.requested.1 ∙ ap (adv (upper c)) (let p = ap reads f in omega arith),
      )
      (subst (λ x. Fits x (g i) c (readers_ahead a l 32) (writers_ahead a l 32)) (sym f) (ap lower v ∙ s.requested.0, ap upper v ∙ s.requested.1))

  left_lined : {r c : ℕ} {l : List ℕ} → Sound a k r c l → reads (b i) + writes (b i) ≡ 0 → (j : ℕ) → times j (without i l) ≡ reads (b j) + writes (b j)
  left_lined {r} {c} {l} s e j = elim (cases_eq j i) [
    | inl q ↦ let t = times_without_own i l in let u = ap (λ x. times x (without i l)) q in let v = ap (λ x. reads (b x) + writes (b x)) q in omega arith
    | inr n ↦ let t = times_without_other j i l n in let u = s.lined j in let v = ap (λ x. reads x + writes x) (o.stands j n) in omega arith
  ]

  -- the line without slot i, and slot i's share where it stood before j
  share : (h : Standing → ℕ) (j : ℕ) (l : List ℕ) → (j ≢ i) → before (λ x. h (a x)) j l ≡ before (λ x. h (b x)) j (without i l) + before (only i (h (a i))) j l
  share h j l n = before_without (λ x. h (a x)) (λ x. h (b x)) i j l n (λ x m. ap h (o.stands x m))

  no_share : (h : Standing → ℕ) (j : ℕ) (l : List ℕ) → h (a i) ≡ 0 → before (only i (h (a i))) j l ≡ 0
  no_share h j l e = ap (λ n. before (only i n) j l) e ∙ only_none i j l

  not_32 : 32 ≡ i → ⊥
  not_32 e = let z = o.slot in omega arith

  -- a reader's hold finishes: every writer in line stands after it
  pub reader_quits : {r c : ℕ} {l : List ℕ} → Sound a k r c l → a i ≡ ReaderH → b i ≡ T3 → Sound b g r c (without i l)
  reader_quits {r} {c} {l} s e f =
      let m = without i l in
      let free : writers_ahead a l i ≡ 0 = subst (λ x. Fits x (k i) c (readers_ahead a l i) (writers_ahead a l i)) e (s.fits i) in
      let first : before (λ x. writes (a x)) i l ≡ 0 = omega arith in
      let one : times i l ≡ 1 = s.lined i ∙ ap (λ x. reads x + writes x) e in
      let er : (j : ℕ) → (j ≢ i) → times j l ≤ writes (a j) → readers_ahead b m j ≡ readers_ahead a l j = λ j n h.
      let z = share reads j l n in
      let y = only_passed (λ x. writes (a x)) (reads (a i)) i j l n first (omega arith) one in
      let u = total_move read_leaves in let p = ap read_leaves e in let q = ap read_leaves f in let v = ap reads e in omega arith in
      let ew : (j : ℕ) → (j ≢ i) → writers_ahead b m j ≡ writers_ahead a l j = λ j n.
      let z = share writes j l n in
      let y = no_share writes j l (ap writes e) in
      let u = total_move write_leaves in let p = ap write_leaves e in let q = ap write_leaves f in omega arith in
      let none : times 32 l ≤ writes (a 32) = let t = s.lined 32 in let q = ap (λ x. reads x + writes x) (s.off 32 (omega arith)) in omega arith in
      keeps_sound s o
      (record {
        writers = λ j n w. follows_same _ _ _ _ refl (ew j n);
        readers = λ j n w. follows_same _ _ _ _ refl (er j n (let t = s.lined j in let u = once (a j) in omega arith));
      })
      (left_lined s (ap (λ x. reads x + writes x) f))
      (s.requested.0 ∙ ap (adv (lower c)) (sym (ew 32 not_32)), s.requested.1 ∙ ap (adv (upper c)) (sym (er 32 not_32 none)))
      (subst (λ x. Fits x (g i) c (readers_ahead b m i) (writers_ahead b m i)) (sym f) tt)

  -- a writer's hold finishes: it is first in line
  pub writer_quits : {r c : ℕ} {l : List ℕ} → Sound a k r c l → a i ≡ WriterH → b i ≡ T6 → Sound b g r c (without i l)
  writer_quits {r} {c} {l} s e f =
      let m = without i l in
      let free : (writers_ahead a l i ≡ 0) × (readers_ahead a l i ≡ 0) = subst (λ x. Fits x (k i) c (readers_ahead a l i) (writers_ahead a l i)) e (s.fits i) in
      let sum = before_sum (λ x. reads (a x)) (λ x. writes (a x)) i l in
      let first : before (λ x. reads (a x) + writes (a x)) i l ≡ 0 = let p = free.0 in let q = free.1 in omega arith in
      let one : times i l ≡ 1 = s.lined i ∙ ap (λ x. reads x + writes x) e in
      let er : (j : ℕ) → (j ≢ i) → readers_ahead b m j ≡ readers_ahead a l j = λ j n.
      let z = share reads j l n in
      let y = no_share reads j l (ap reads e) in
      let u = total_move read_leaves in let p = ap read_leaves e in let q = ap read_leaves f in omega arith in
      let ew : (j : ℕ) → (j ≢ i) → writers_ahead b m j ≡ writers_ahead a l j = λ j n.
      let z = share writes j l n in
      let y = only_passed (λ x. reads (a x) + writes (a x)) (writes (a i)) i j l n first (let t = s.lined j in omega arith) one in
      let u = total_move write_leaves in let p = ap write_leaves e in let q = ap write_leaves f in let v = ap writes e in omega arith in
      keeps_sound s o
      (record { writers = λ j n w. follows_same _ _ _ _ refl (ew j n); readers = λ j n w. follows_same _ _ _ _ refl (er j n) })
      (left_lined s (ap (λ x. reads x + writes x) f))
      (s.requested.0 ∙ ap (adv (lower c)) (sym (ew 32 not_32)), s.requested.1 ∙ ap (adv (upper c)) (sym (er 32 not_32)))
      (subst (λ x. Fits x (g i) c (readers_ahead b m i) (writers_ahead b m i)) (sym f) tt)
