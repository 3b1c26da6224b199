-- The finish of a writer: it is the first of the line, leaves it, and goes to V1.
use Rattle.std.proofs.Common.{◌≡◌, ℕ, suc, ◌<◌, Bool, true, false, ltb, ◌⊎◌, length, Some, sym, refl, ap, ◌∙◌, subst, inl, inr, arith}
use Rattle.std.proofs.lemmas.Bool.{cases_eq, both_ways, lt-ltb, le-ltb, cases_lt}
use Rattle.queue_words.specs.declared.standing.Standing.{Standing}
use Rattle.queue_words.specs.declared.standing.Standing.TheVariants.{WriterH, V1, I}
use Rattle.lock.specs.declared.words.Class.TheVariants.{Writing}
use Rattle.queue_words.specs.declared.record.Record.{Record}
use Rattle.queue_lock.specs.Sets as is
use Rattle.queue_lock.specs.Places.{pos}
use Rattle.queue_lock.specs.Config.{Config}
use Rattle.queue_words.specs.Records.{relabelled}
use Rattle.queue_lock.specs.Invariant.{Inv, Own, Front, Alone, In, Behind, Owed, Next, Tail, owes, admitted, only, share_of, share, next_share}
use Rattle.queue_lock.specs.Rows.{Row, row, row_of}
use Rattle.queue_lock.specs.Lasts as last
use Rattle.queue_lock.specs.Facts as fact
use Rattle.queue_lock.specs.PlacesInLine.{left_cases, distinct_left, length_left, pos_left_same}
use Rattle.queue_lock.specs.Shares.{owing_writer, next_share_same}
use Rattle.lined_lock.specs.Totals.{total_below}
use Rattle.queue_lock.specs.Alter as alter
use Rattle.queue_lock.specs.Finish.{finished}

module _ (w : Config) (i : ℕ) (v : Inv w) (lt : i < 32) (e : (w.at i).standing ≡ WriterH) (k : (w.at i).class ≡ Writing) where
  o : Row (w.at i).standing WriterH
  o = row_of e

  n : Row V1 V1
  n = row V1

  abbrev f : Config
  f = finished w i V1

  abbrev x : Record
  x = relabelled (w.at i) V1

  inside : In w i
  inside = fact.in_line w v i o.lining

  alone : Alone w i
  alone = v.alone i inside k (rw ((v.own i).off o.off) refl)

  len : suc (length f.line) ≡ length w.line
  len = length_left w.line i v.distinct inside

  gone : In f i → ⊥
  gone h = let z = pos_left_same w.line i in omega (arith, len)

  place : (y : ℕ) → (y ≡ i → ⊥) → ((pos w.line y < pos w.line i) × (pos f.line y ≡ pos w.line y)) ⊎ ((pos w.line i < pos w.line y) × (suc (pos f.line y) ≡ pos w.line y))
  place y d = left_cases w.line i y v.distinct inside d

  -- every other slot is one nearer to the head
  nearer : (y : ℕ) → (y ≡ i → ⊥) → suc (pos f.line y) ≡ pos w.line y
  nearer y d = elim (place y d) [ inl p ↦ absurd (omega (arith, alone.first)) | inr p ↦ p.1 ]

  was_in : (y : ℕ) → (y ≡ i → ⊥) → In f y → In w y
  was_in y d h = let l = len in let p = nearer y d in omega arith

  -- the writer stood before everybody else: nobody else is at the front
  no_front : (y : ℕ) → (y ≡ i → ⊥) → Front w y → ⊥
  no_front y d h = fact.writer_not_act (w.at i) k (h.ahead i (let p = nearer y d in omega (arith, alone.first)))

  no_alone : (y : ℕ) → (y ≡ i → ⊥) → Alone w y → ⊥
  no_alone y d a = no_front y d (last.alone_front a)

  to_here : (P : Record → Type 0) (s : ℕ) → s ≡ i → P x → P (f.at s)
  to_here = alter.to_here w i x w.reader_count

  from_here : (P : Record → Type 0) (s : ℕ) → s ≡ i → P (f.at s) → P x
  from_here = alter.from_here w i x w.reader_count

  to_there : (P : Record → Type 0) (s : ℕ) → (s ≡ i → ⊥) → P (w.at s) → P (f.at s)
  to_there = alter.to_there w i x w.reader_count

  from_there : (P : Record → Type 0) (s : ℕ) → (s ≡ i → ⊥) → P (f.at s) → P (w.at s)
  from_there = alter.from_there w i x w.reader_count

  split : (P : Record → Type 0) (s : ℕ) → (s ≡ i → P x) → ((s ≡ i → ⊥) → P (w.at s)) → P (f.at s)
  split = alter.split w i x w.reader_count

  not_here : (g : Standing → Bool) → g V1 ≡ false → (s : ℕ) → g (f.at s).standing ≡ true → s ≡ i → ⊥
  not_here g z s h q = both_ways (g V1) z (from_here (λ y. g y.standing ≡ true) s q h)

  was_not : (g : Standing → Bool) → g WriterH ≡ false → (s : ℕ) → g (w.at s).standing ≡ true → s ≡ i → ⊥
  was_not g z s h q = both_ways (g WriterH) z (ap g (sym e) ∙ subst (λ y. g (w.at y).standing ≡ true) q h)

  class : (s : ℕ) → (f.at s).class ≡ (w.at s).class
  class s = grind arith

  next : (s : ℕ) → (f.at s).next ≡ (w.at s).next
  next s = grind arith

  after : (s : ℕ) → (f.at s).state.successor ≡ (w.at s).state.successor
  after s = grind arith

  owe : (p : ℕ) → owes (f.at p) ≡ true → owes (w.at p) ≡ true
  owe p h = elim (cases_eq p i) [
    | inl q ↦ subst (λ y. owes (w.at y) ≡ true) (sym q) (owing_writer _ _ _ k o.owing_w)
    | inr d ↦ from_there (λ y. owes y ≡ true) p d h
  ]

  not_owed : (p s : ℕ) → owes (w.at p) ≡ true → (w.at p).next ≡ Some s → s ≡ i → ⊥
  not_owed p s h q z = both_ways _ o.sleeping (subst (λ y. is.sleeping (w.at y).standing ≡ true) z (v.owed p s h q).standing)

  placed : (p s : ℕ) → (s ≡ i → ⊥) → Next w p s → Next f p s
  placed p s d y = record {
    line = λ z. elim (cases_eq p i) [
      | inl q ↦ absurd (gone (subst (In f) q z))
      | inr b ↦ let a = y.line (was_in p b z) in let g = nearer s d in let h = nearer p b in omega arith
    ];
    writer = λ z. elim (cases_eq p i) [
      | inl q ↦ let a = subst (λ j. pos w.line s ≡ suc (pos w.line j)) q (y.line (subst (In w) (sym q) inside)) in let g = nearer s d in omega (arith, alone.first)
      | inr b ↦ absurd (both_ways _ (alone.clear p) (from_there (λ j. is.writeway j.standing ≡ true) p b z))
    ];
    reader = λ z. elim (cases_eq p i) [
      | inl q ↦ absurd (both_ways _ n.readway (from_here (λ j. is.readway j.standing ≡ true) p q z))
      | inr b ↦ absurd (both_ways _ (alone.past p) (from_there (λ j. is.readway j.standing ≡ true) p b z))
    ];
  }

  behind : (s : ℕ) → Behind (w.at s) (w.at i) → Behind (w.at s) x
  behind s b = record { next = b.next; standing = n.followed; plain = b.plain; noted = b.noted; reads = b.reads; free = b.free; linking = λ h. inl k }

  unlinked : (s p : ℕ) → is.unlinked (f.at s).standing ≡ true → (f.at s).pred ≡ Some p → (p ≡ s → ⊥) × Behind (f.at s) (f.at p) × (w.tail ≡ Some p → ⊥) × Next f p s
  unlinked s p u q =
      let d = not_here is.unlinked n.unlinked s u in
      let g = from_there (λ y. is.unlinked y.standing ≡ true) s d u in
      let h = from_there (λ y. y.pred ≡ Some p) s d q in
      let y = v.behind s p g h in
      (λ z. v.behind_other s g (h ∙ ap Some z), to_there (λ z. Behind z (f.at p)) s d (split (Behind (w.at s)) p (λ z. behind s (subst (λ j. Behind (w.at s) (w.at j)) z y)) (λ _. y)), v.behind_tail s p g h, placed p s d (v.pairs p s (h, inl g)))

  owed : (p s : ℕ) → owes (f.at p) ≡ true → (f.at p).next ≡ Some s → Owed p (f.at p) (f.at s) × (w.next_writer ≡ Some s → ⊥) × Next f p s
  owed p s h q =
      let g = owe p h in
      let z : (w.at p).next ≡ Some s = sym (next p) ∙ q in
      let d = not_owed p s g z in
      let y = v.owed p s g z in
      (to_there (Owed p (f.at p)) s d (record { pred = y.pred; on = y.on; standing = y.standing; writes = λ a b. y.writes (sym (class p) ∙ a) (sym (after p) ∙ b); reads = λ a b. y.reads (sym (class p) ∙ a) (sym (after p) ∙ b) }), v.owed_unnamed p s g z, placed p s d (v.pairs p s (y.pred, inr (z, g))))

  t1 : (t : ℕ) → w.tail ≡ Some t → Tail f t
  t1 t q = let y = v.tailed t q in let b = inside in let l = len in record {
    next = next t ∙ y.next;
    behind = after t ∙ y.behind;
    place = elim (cases_eq t i) [
      | inl z ↦ elim y.place [
        | inl a ↦ let g = ap (pos w.line) z in inr (inl (to_here (λ j. is.ending_w j.standing ≡ true) t z n.ending_w, omega (arith, alone.first)))
        | inr (inl a) ↦ absurd (omega (arith, a.1))
        | inr (inr a) ↦ absurd (fact.writer_not_act (w.at i) k (a.1 i inside))
      ]
      | inr d ↦ elim y.place [
        | inl a ↦ let c = nearer t d in inl (omega arith)
        | inr (inl a) ↦ absurd (omega (arith, a.1))
        | inr (inr a) ↦ absurd (fact.writer_not_act (w.at i) k (a.1 i inside))
      ]
    ];
  }

  zero_held : share_of w i ≡ 0
  unfolding share
  zero_held = rw (o.counts_two, o.counts_one, o.sleeping_r, o.handing) refl

  zero_v1 : share x (next_share f x.next) ≡ 0
  unfolding share
  zero_v1 = rw (n.counts_two, n.counts_one, n.sleeping_r, n.handing) refl

  shares : (j : ℕ) → share_of f j ≡ share_of w j
  shares j = elim (cases_eq j i) [
    | inl q ↦ to_here (λ y. share y (next_share f y.next) ≡ share_of w j) j q (zero_v1 ∙ sym (ap (share_of w) q ∙ zero_held))
    | inr d ↦ to_there (λ y. share y (next_share f y.next) ≡ share_of w j) j d (ap (share (w.at j)) (next_share_same w f class (w.at j).next))
  ]

  a1 : (s : ℕ) → is.lining (f.at s).standing ≡ ltb (pos f.line s) (length f.line)
  a1 s = let l = len in let b = inside in elim (cases_eq s i) [
    | inl q ↦ to_here (λ y. is.lining y.standing ≡ ltb (pos f.line s) (length f.line)) s q (n.lining ∙ sym (le-ltb _ _ (let z = pos_left_same w.line i in let j = ap (pos f.line) q in omega arith)))
    | inr d ↦ to_there (λ y. is.lining y.standing ≡ ltb (pos f.line s) (length f.line)) s d (v.lined s ∙ let c = nearer s d in elim (cases_lt (pos w.line s) (length w.line)) [ inl h ↦ lt-ltb _ _ h ∙ sym (lt-ltb _ _ (omega arith)) | inr h ↦ le-ltb _ _ h ∙ sym (le-ltb _ _ (omega arith)) ])
  ]

  pub kept : Inv f
  kept = record {
    distinct = distinct_left w.line i v.distinct;
    lined = a1;
    beyond = λ s h. to_there (λ y. y.standing ≡ I) s (λ q. omega arith) (v.beyond s h);
    own = λ s. split Own s (λ _. grind (arith, o, n, v.own i, k)) (λ _. v.own s);
    fetched = λ s m h q. let d = not_here is.fetching n.fetching s h in class m ∙ v.fetched s m (from_there (λ y. is.fetching y.standing ≡ true) s d h) (from_there (λ y. y.next ≡ Some m) s d q);
    front = λ s h a. let d : s ≡ i → ⊥ = λ q. gone (subst (In f) q h) in absurd (no_front s d (v.front s (was_in s d h) (from_there (λ y. admitted y ≡ true) s d a)));
    alone = λ s h c a. let d : s ≡ i → ⊥ = λ q. gone (subst (In f) q h) in absurd (no_alone s d (v.alone s (was_in s d h) (from_there (λ y. y.class ≡ Writing) s d c) (from_there (λ y. only y ≡ true) s d a)));
    woken = λ t y h q. let d = not_here is.waking n.waking t h in let z = v.woken t y (from_there (λ j. is.waking j.standing ≡ true) t d h) (from_there (λ j. j.w ≡ Some y) t d q) in absurd (no_alone y (was_not is.waiting (row WriterH).waiting y z.0.standing) z.1);
    woken_unnamed = λ t h. v.woken_unnamed t (from_there (λ j. is.waking j.standing ≡ true) t (not_here is.waking n.waking t h) h);
    one_wakes = λ t u h g. v.one_wakes t u (from_there (λ j. is.waking j.standing ≡ true) t (not_here is.waking n.waking t h) h) (from_there (λ j. is.waking j.standing ≡ true) u (not_here is.waking n.waking u g) g);
    named = λ y q. let z = v.named y q in absurd (no_front y (was_not is.waiting (row WriterH).waiting y z.0.standing) z.1);
    asked = λ t y h q g.
        let d = not_here is.asking n.asking t h in
        let b = not_here is.wanting n.wanting y g in
        let z = v.asked t y (from_there (λ j. is.asking j.standing ≡ true) t d h) (from_there (λ j. j.w ≡ Some y) t d q) (from_there (λ j. is.wanting j.standing ≡ true) y b g) in
        elim z.1 [ inl a ↦ absurd (no_alone y b a) | inr a ↦ absurd (no_front y b (v.named y a.1).1) ];
    behind = λ s p u q. (unlinked s p u q).1;
    behind_tail = λ s p u q. (unlinked s p u q).2;
    behind_other = λ s u q. (unlinked s s u q).0 refl;
    owed = λ p s h q. (owed p s h q).0;
    owed_unnamed = λ p s h q. (owed p s h q).1;
    pairs = λ p s q. elim q.1 [ inl h ↦ (unlinked s p h q.0).3 | inr z ↦ (owed p s z.1 z.0).2 ];
    tailed = t1;
    untailed = λ q. absurd (fact.writer_not_act (w.at i) k ((v.untailed q).0 i inside));
    one_leaves = λ t u h d. elim (cases_eq t i) [
      | inl q ↦ let c : u ≡ i → ⊥ = λ z. d (z ∙ sym q) in (to_there (λ y. is.writeway y.standing ≡ false) u c (alone.clear u), to_there (λ y. is.readway y.standing ≡ false) u c (alone.past u))
      | inr c ↦ absurd (both_ways _ (alone.clear t) (from_there (λ y. is.writeway y.standing ≡ true) t c h))
    ];
    counted = v.counted ∙ sym (total_below (share_of w) (share_of f) 32 (λ j _. shares j));
  }
