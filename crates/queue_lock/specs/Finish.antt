-- The finish of a reader: it leaves the line, wherever it stands in it, and goes to E1.
use Rattle.std.proofs.Common.{◌≡◌, ℕ, suc, ◌<◌, Bool, true, false, ltb, ◌⊎◌, length, Some, sym, refl, ap, ◌∙◌, subst, inl, inr, arith}
use Rattle.std.proofs.lemmas.Bool.{cases_eq, both_ways, cases_order, le-ltb}
use Rattle.queue_words.specs.declared.standing.Standing.{Standing}
use Rattle.queue_words.specs.declared.standing.Standing.TheVariants.{ReaderH, E1, I}
use Rattle.lock.specs.declared.words.Class.TheVariants.{Reading, Writing}
use Rattle.queue_words.specs.declared.record.Record.{Record}
use Rattle.queue_lock.specs.Sets as is
use Rattle.queue_lock.specs.Places.{pos}
use Rattle.queue_lock.specs.Config.{Config, upd}
use Rattle.queue_words.specs.Records.{relabelled}
use Rattle.queue_lock.specs.Invariant.{Inv, Own, Front, Alone, Act, In, Waits, Behind, Owed, Next, Tail, owes, admitted, only, share_of, share, AllAct, next_share}
use Rattle.queue_lock.specs.Rows.{Row, row, row_of}
use Rattle.lock.specs.Line.{without}
use Rattle.queue_lock.specs.Facts as fact
use Rattle.queue_lock.specs.PlacesInLine.{left_cases, distinct_left, length_left, pos_left_same}
use Rattle.queue_lock.specs.Shares.{owing_kept, next_share_same}
use Rattle.lined_lock.specs.Totals.{total_below}
use Rattle.queue_lock.specs.Alter as alter

abbrev pub finished : Config → ℕ → Standing → Config
finished w i l = record { at = upd w.at i (relabelled (w.at i) l); tail = w.tail; next_writer = w.next_writer; reader_count = w.reader_count; line = without i w.line }

module _ (w : Config) (i : ℕ) (v : Inv w) (lt : i < 32) (e : (w.at i).standing ≡ ReaderH) (k : (w.at i).class ≡ Reading) where
  o : Row (w.at i).standing ReaderH
  o = row_of e

  n : Row E1 E1
  n = row E1

  abbrev f : Config
  f = finished w i E1

  abbrev x : Record
  x = relabelled (w.at i) E1

  inside : In w i
  inside = fact.in_line w v i o.lining

  free : (w.at i).state.blocked ≡ false
  free = (v.own i).off o.off

  act : Act (w.at i)
  act = record { reads = k; free = free }

  front : Front w i
  front = v.front i inside (rw free refl)

  -- places after the finish
  len : suc (length f.line) ≡ length w.line
  len = length_left w.line i v.distinct inside

  gone : In f i → ⊥
  gone h = let z = pos_left_same w.line i in omega (arith, len)

  place : (y : ℕ) → (y ≡ i → ⊥) → ((pos w.line y < pos w.line i) × (pos f.line y ≡ pos w.line y)) ⊎ ((pos w.line i < pos w.line y) × (suc (pos f.line y) ≡ pos w.line y))
  place y d = left_cases w.line i y v.distinct inside d

  was_in : (y : ℕ) → In f y → In w y
  was_in y h = let l = len in elim (cases_eq y i) [ inl z ↦ absurd (gone (subst (In f) z h)) | inr d ↦ elim (place y d) [ inl p ↦ omega arith | inr p ↦ omega arith ] ]

  stays_in : (y : ℕ) → (y ≡ i → ⊥) → In w y → In f y
  stays_in y d h = let l = len in let b = inside in elim (place y d) [ inl p ↦ omega arith | inr p ↦ omega arith ]

  order : (y z : ℕ) → (y ≡ i → ⊥) → (z ≡ i → ⊥) → pos f.line y < pos f.line z → pos w.line y < pos w.line z
  order y z a b h = elim (place y a) [ inl p ↦ elim (place z b) [ inl q ↦ omega arith | inr q ↦ omega arith ] | inr p ↦ elim (place z b) [ inl q ↦ omega arith | inr q ↦ omega arith ] ]

  adjacent : (y z : ℕ) → (y ≡ i → ⊥) → (z ≡ i → ⊥) → pos w.line z ≡ suc (pos w.line y) → pos f.line z ≡ suc (pos f.line y)
  adjacent y z a b h = elim (place y a) [ inl p ↦ elim (place z b) [ inl q ↦ omega arith | inr q ↦ omega arith ] | inr p ↦ elim (place z b) [ inl q ↦ omega arith | inr q ↦ omega arith ] ]

  -- records after the finish
  to_here : (P : Record → Type 0) (s : ℕ) → s ≡ i → P x → P (f.at s)
  to_here = alter.to_here w i x w.reader_count

  from_here : (P : Record → Type 0) (s : ℕ) → s ≡ i → P (f.at s) → P x
  from_here = alter.from_here w i x w.reader_count

  to_there : (P : Record → Type 0) (s : ℕ) → (s ≡ i → ⊥) → P (w.at s) → P (f.at s)
  to_there = alter.to_there w i x w.reader_count

  from_there : (P : Record → Type 0) (s : ℕ) → (s ≡ i → ⊥) → P (f.at s) → P (w.at s)
  from_there = alter.from_there w i x w.reader_count

  split : (P : Record → Type 0) (s : ℕ) → (s ≡ i → P x) → ((s ≡ i → ⊥) → P (w.at s)) → P (f.at s)
  split = alter.split w i x w.reader_count

  not_here : (g : Standing → Bool) → g E1 ≡ false → (s : ℕ) → g (f.at s).standing ≡ true → s ≡ i → ⊥
  not_here g z s h q = both_ways (g E1) z (from_here (λ y. g y.standing ≡ true) s q h)

  clear : (t : ℕ) → is.writeway (f.at t).standing ≡ false
  clear t = split (λ y. is.writeway y.standing ≡ false) t (λ _. n.writeway) (λ _. front.clear t)

  lasts : (y : ℕ) → (y ≡ i → ⊥) → Front w y → Front f y
  lasts y d h = record {
    inside = stays_in y d h.inside;
    ahead = λ z l. elim (cases_eq z i) [ inl q ↦ absurd (gone (subst (In f) q (let b = stays_in y d h.inside in omega arith))) | inr b ↦ to_there Act z b (h.ahead z (order z y b d l)) ];
    clear = clear;
  }

  -- nobody who is no active reader is alone while slot i holds
  crowded : (y : ℕ) → Alone w y → (Act (w.at y) → ⊥) → ⊥
  crowded y a b = elim (cases_order (pos w.line y) (pos w.line i)) [
    | inl q ↦ b (subst (λ z. Act (w.at z)) (sym (fact.same_place w y i q a.inside)) act)
    | inr (inl q) ↦ b (front.ahead y q)
    | inr (inr q) ↦ let z = a.first in omega arith
  ]

  not_waits : (t : ℕ) → Waits (w.at t) → t ≡ i → ⊥
  not_waits t h q = both_ways _ o.waiting (subst (λ z. is.waiting (w.at z).standing ≡ true) q h.standing)

  class : (s : ℕ) → (f.at s).class ≡ (w.at s).class
  class s = grind arith

  pred : (s : ℕ) → (f.at s).pred ≡ (w.at s).pred
  pred s = grind arith

  next : (s : ℕ) → (f.at s).next ≡ (w.at s).next
  next s = grind arith

  after : (s : ℕ) → (f.at s).state.successor ≡ (w.at s).state.successor
  after s = grind arith

  owe : (p : ℕ) → owes (f.at p) ≡ true → owes (w.at p) ≡ true
  owe p h = elim (cases_eq p i) [
    | inl q ↦ subst (λ y. owes (w.at y) ≡ true) (sym q) (owing_kept _ _ _ _ (λ _ _. o.owing_w) (λ _ z. absurd (both_ways _ n.owing_r z)) (λ _ _. o.owing_n) (from_here (λ y. owes y ≡ true) p q h))
    | inr d ↦ from_there (λ y. owes y ≡ true) p d h
  ]

  -- nobody owes slot i
  not_owed : (p s : ℕ) → owes (w.at p) ≡ true → (w.at p).next ≡ Some s → s ≡ i → ⊥
  not_owed p s h q z = both_ways _ o.sleeping (subst (λ y. is.sleeping (w.at y).standing ≡ true) z (v.owed p s h q).standing)

  placed : (p s : ℕ) → (s ≡ i → ⊥) → In w s → Next w p s → Next f p s
  placed p s d h y = record {
    line = λ z. elim (cases_eq p i) [ inl q ↦ absurd (gone (subst (In f) q z)) | inr b ↦ adjacent p s b d (y.line (was_in p z)) ];
    writer = λ z. absurd (both_ways _ (clear p) z);
    reader = λ z. lasts s d (elim (cases_eq p i) [
      | inl q ↦ fact.front_next w i s front act (subst (λ j. pos w.line s ≡ suc (pos w.line j)) q (y.line (subst (In w) (sym q) inside))) h
      | inr b ↦ y.reader (from_there (λ j. is.readway j.standing ≡ true) p b z)
    ]);
  }

  -- D1 and D3 of an unlinked slot
  behind : (s : ℕ) → Behind (w.at s) (w.at i) → Behind (w.at s) x
  behind s b = record {
    next = b.next;
    standing = n.followed;
    plain = b.plain;
    noted = b.noted;
    reads = b.reads;
    free = b.free;
    linking = λ h. elim (b.linking h) [ inl z ↦ absurd (fact.one_class (w.at i) k z) | inr z ↦ absurd (both_ways _ o.arriving z.1) ];
  }

  unlinked : (s p : ℕ) → is.unlinked (f.at s).standing ≡ true → (f.at s).pred ≡ Some p → (p ≡ s → ⊥) × Behind (f.at s) (f.at p) × (w.tail ≡ Some p → ⊥) × Next f p s
  unlinked s p u q =
      let d = not_here is.unlinked n.unlinked s u in
      let g = from_there (λ y. is.unlinked y.standing ≡ true) s d u in
      let h = from_there (λ y. y.pred ≡ Some p) s d q in
      let y = v.behind s p g h in
      (λ z. v.behind_other s g (h ∙ ap Some z), to_there (λ z. Behind z (f.at p)) s d (split (Behind (w.at s)) p (λ z. behind s (subst (λ j. Behind (w.at s) (w.at j)) z y)) (λ _. y)), v.behind_tail s p g h, placed p s d (fact.pair_in w v p s (h, inl g)) (v.pairs p s (h, inl g)))

  -- D2 and D3 of an owed slot
  owed : (p s : ℕ) → owes (f.at p) ≡ true → (f.at p).next ≡ Some s → Owed p (f.at p) (f.at s) × (w.next_writer ≡ Some s → ⊥) × Next f p s
  owed p s h q =
      let g = owe p h in
      let z : (w.at p).next ≡ Some s = sym (next p) ∙ q in
      let d = not_owed p s g z in
      let y = v.owed p s g z in
      (to_there (Owed p (f.at p)) s d (record { pred = y.pred; on = y.on; standing = y.standing; writes = λ a b. y.writes (sym (class p) ∙ a) (sym (after p) ∙ b); reads = λ a b. y.reads (sym (class p) ∙ a) (sym (after p) ∙ b) }), v.owed_unnamed p s g z, placed p s d (fact.owed_in w v p s g z) (v.pairs p s (y.pred, inr (z, g))))

  all_act : AllAct w → AllAct f
  all_act a y h = to_there Act y (λ q. gone (subst (In f) q h)) (a y (was_in y h))

  t1 : (t : ℕ) → w.tail ≡ Some t → Tail f t
  t1 t q = let y = v.tailed t q in let b = inside in let l = len in record {
    next = next t ∙ y.next;
    behind = after t ∙ y.behind;
    place = elim (cases_eq t i) [
      | inl z ↦ inr (inr (
        to_here (λ j. is.ending_r j.standing ≡ true) t z n.ending_r,
        λ j h.
            let d : j ≡ i → ⊥ = λ m. gone (subst (In f) m h) in
            let m = was_in j h in
            to_there Act j d (elim (place j d) [
              | inl c ↦ front.ahead j c.0
              | inr c ↦ elim y.place [
                | inl a ↦ let g = ap (pos w.line) z in absurd (omega arith)
                | inr (inl a) ↦ absurd (omega (arith, a.1))
                | inr (inr a) ↦ a.1 j m
              ]
            ]),
      ))
      | inr d ↦ elim y.place [
        | inl a ↦ elim (place t d) [ inl c ↦ absurd (omega arith) | inr c ↦ inl (omega arith) ]
        | inr (inl a) ↦ absurd (omega (arith, a.1))
        | inr (inr a) ↦ inr (inr (to_there (λ j. is.ending_r j.standing ≡ true) t d a.0, all_act a.1))
      ]
    ];
  }

  one_held : share_of w i ≡ 1
  unfolding share
  one_held = rw (o.counts_two, o.counts_one) refl

  one_e1 : share x (next_share f x.next) ≡ 1
  unfolding share
  one_e1 = rw (n.counts_two, n.counts_one) refl

  shares : (j : ℕ) → share_of f j ≡ share_of w j
  shares j = elim (cases_eq j i) [
    | inl q ↦ to_here (λ y. share y (next_share f y.next) ≡ share_of w j) j q (one_e1 ∙ sym (ap (share_of w) q ∙ one_held))
    | inr d ↦ to_there (λ y. share y (next_share f y.next) ≡ share_of w j) j d (ap (share (w.at j)) (next_share_same w f class (w.at j).next))
  ]

  a1 : (s : ℕ) → is.lining (f.at s).standing ≡ ltb (pos f.line s) (length f.line)
  a1 s = let l = len in let b = inside in elim (cases_eq s i) [
    | inl q ↦ to_here (λ y. is.lining y.standing ≡ ltb (pos f.line s) (length f.line)) s q (n.lining ∙ sym (le-ltb _ _ (let g = gone in let z = pos_left_same w.line i in let j = ap (pos f.line) q in omega arith)))
    | inr d ↦ to_there (λ y. is.lining y.standing ≡ ltb (pos f.line s) (length f.line)) s d (v.lined s ∙ elim (place s d) [ inl c ↦ grind arith | inr c ↦ grind arith ])
  ]

  pub kept : Inv f
  kept = record {
    distinct = distinct_left w.line i v.distinct;
    lined = a1;
    beyond = λ s h. to_there (λ y. y.standing ≡ I) s (λ q. omega arith) (v.beyond s h);
    own = λ s. split Own s (λ _. grind (arith, o, n, v.own i)) (λ _. v.own s);
    fetched = λ s m h q. let d = not_here is.fetching n.fetching s h in class m ∙ v.fetched s m (from_there (λ y. is.fetching y.standing ≡ true) s d h) (from_there (λ y. y.next ≡ Some m) s d q);
    front = λ s h a. let d : s ≡ i → ⊥ = λ q. gone (subst (In f) q h) in lasts s d (v.front s (was_in s h) (from_there (λ y. admitted y ≡ true) s d a));
    alone = λ s h c a. let d : s ≡ i → ⊥ = λ q. gone (subst (In f) q h) in let z = from_there (λ y. y.class ≡ Writing) s d c in absurd (crowded s (v.alone s (was_in s h) z (from_there (λ y. only y ≡ true) s d a)) (fact.writer_not_act (w.at s) z));
    woken = λ t y h q. let d = not_here is.waking n.waking t h in let z = v.woken t y (from_there (λ j. is.waking j.standing ≡ true) t d h) (from_there (λ j. j.w ≡ Some y) t d q) in absurd (crowded y z.1 (fact.blocked_not_act (w.at y) z.0.on));
    woken_unnamed = λ t h. v.woken_unnamed t (from_there (λ j. is.waking j.standing ≡ true) t (not_here is.waking n.waking t h) h);
    one_wakes = λ t u h g. v.one_wakes t u (from_there (λ j. is.waking j.standing ≡ true) t (not_here is.waking n.waking t h) h) (from_there (λ j. is.waking j.standing ≡ true) u (not_here is.waking n.waking u g) g);
    named = λ y q. let z = v.named y q in let d = not_waits y z.0 in (to_there Waits y d z.0, lasts y d z.1);
    asked = λ t y h q g.
        let d = not_here is.asking n.asking t h in
        let b = not_here is.wanting n.wanting y g in
        let z = v.asked t y (from_there (λ j. is.asking j.standing ≡ true) t d h) (from_there (λ j. j.w ≡ Some y) t d q) (from_there (λ j. is.wanting j.standing ≡ true) y b g) in (
          to_there (λ j. is.askable j.standing ≡ true) y b z.0,
          elim z.1 [
            | inl a ↦ absurd (crowded y a (fact.writer_not_act (w.at y) ((v.own y).writing (fact.askable_writing (w.at y).standing z.0))))
            | inr a ↦ inr (to_there (λ j. is.asking_first j.standing ≡ true) t d a.0, a.1)
          ],
        );
    behind = λ s p u q. (unlinked s p u q).1;
    behind_tail = λ s p u q. (unlinked s p u q).2;
    behind_other = λ s u q. (unlinked s s u q).0 refl;
    owed = λ p s h q. (owed p s h q).0;
    owed_unnamed = λ p s h q. (owed p s h q).1;
    pairs = λ p s q. elim q.1 [ inl h ↦ (unlinked s p h q.0).3 | inr z ↦ (owed p s z.1 z.0).2 ];
    tailed = t1;
    untailed = λ q. (all_act (v.untailed q).0, clear);
    one_leaves = λ t u h d. absurd (both_ways _ (clear t) h);
    counted = v.counted ∙ sym (total_below (share_of w) (share_of f) 32 (λ j _. shares j));
  }
