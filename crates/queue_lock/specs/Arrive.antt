-- A called slot arrives: it writes its record, becomes the tail, and stands at the end of the line.
use Rattle.std.specs.Prelude.{is_some, ◌≡◌, ℕ, suc, ◌<◌, Bool, true, false, cond, [], ◌∷◌, ◌++◌, length, Some, None, Option, ◌≢◌, nat_lt}
use Rattle.std.proofs.Math.Path.{refl, sym, ap, subst}
use Rattle.std.proofs.Common.{◌∙◌}
use Rattle.std.proofs.Math.Logic.{inl, inr}
use native.Mathlib.Omega.{arith}
use Rattle.std.proofs.lemmas.Bool.{cases_eq, both_ways, lt-ltb, le-ltb, cases_Bool, cases_lt}
use Rattle.queue_words.specs.declared.standing.Standing.{Standing}
use Rattle.queue_words.specs.declared.standing.Standing.TheVariants.{I}
use Rattle.lock.specs.declared.words.Class.TheVariants.{Writing}
use Rattle.queue_words.specs.declared.record.Successor.TheVariants.{Nobody}
use Rattle.queue_words.specs.declared.record.Record.{Record}
use Rattle.queue_lock.specs.Sets as is
use Rattle.queue_lock.specs.Places.{pos}
use Rattle.queue_lock.specs.Config.{Config, upd}
use Rattle.queue_lock.specs.Invariant.{Inv, Own, Front, Alone, Act, In, Waits, Behind, Owed, Next, Tail, owes, admitted, only, share_of, share, AllAct, next_share, one_if}
use Rattle.queue_lock.specs.Every.{implies, apart}
use Rattle.queue_lock.specs.Facts as fact
use Rattle.queue_lock.specs.PlacesInLine.{pos_le, pos_joined, pos_joined_in, pos_joined_out, length_joined, distinct_joined}
use Rattle.queue_lock.specs.Shares.{owing_writer, share_apart}
use Rattle.lined_lock.specs.Totals.{total_below}
use Rattle.queue_lock.specs.Alter as alter

abbrev pub arrived : Config → ℕ → Record → Config
arrived w i x = record { at = upd w.at i x; tail = Some i; next_writer = w.next_writer; reader_count = w.reader_count; line = w.line ++ (i ∷ []) }

pub record Arrives (w : Config) (i : ℕ) (x : Record) : Type 0 where
  -- the standing that it had
  pub out : is.lining (w.at i).standing ≡ false
  pub followed : is.followed (w.at i).standing ≡ false
  pub sleeping : is.sleeping (w.at i).standing ≡ false
  pub waiting : is.waiting (w.at i).standing ≡ false
  pub ends_w : is.ending_w (w.at i).standing ≡ false
  pub ends_r : is.ending_r (w.at i).standing ≡ false
  -- the standing that it gets
  pub lining : is.lining x.standing ≡ true
  pub writeway : is.writeway x.standing ≡ false
  pub readway : is.readway x.standing ≡ false
  pub waking : is.waking x.standing ≡ false
  pub asking : is.asking x.standing ≡ false
  pub fetching : is.fetching x.standing ≡ false
  pub only : is.only x.standing ≡ false
  pub admitted : is.admitted x.standing ≡ true → w.tail ≡ None
  pub noted : is.noted x.standing ≡ false
  pub behind_reader : is.behind_reader x.standing ≡ false
  pub behind_open : is.behind_open x.standing ≡ false
  pub linking : is.linking x.standing ≡ false
  -- its record
  pub own : Own x
  pub on : x.state.blocked ≡ true
  pub next : x.next ≡ None
  pub behind : x.state.successor ≡ Nobody
  pub pred : x.pred ≡ w.tail
  pub asked : (t : ℕ) → is.asking (w.at t).standing ≡ true → (w.at t).w ≡ Some i → is.wanting x.standing ≢ true
  pub share : (n m : ℕ) → share x n ≡ share (w.at i) m

module _ (w : Config) (i : ℕ) (x : Record) (v : Inv w) (lt : i < 32) (a : Arrives w i x) where
  abbrev f : Config
  f = arrived w i x

  -- places after the arrival
  len : length f.line ≡ suc (length w.line)
  len = length_joined w.line i

  outside : pos w.line i ≡ length w.line
  outside = let p = pos_le w.line i in elim (cases_lt (pos w.line i) (length w.line)) [ inl h ↦ absurd (both_ways _ a.out (fact.lined w v i h)) | inr h ↦ omega arith ]

  last_place : pos f.line i ≡ length w.line
  last_place = pos_joined w.line i outside

  place : (y : ℕ) → In w y → pos f.line y ≡ pos w.line y
  place y h = pos_joined_in w.line i y h

  other : (y : ℕ) → In w y → y ≢ i
  other y h q = let z = outside in let k = ap (pos w.line) q in omega arith

  was_in : (y : ℕ) → (y ≢ i) → In f y → In w y
  was_in y d h = let l = len in let p = pos_le w.line y in elim (cases_lt (pos w.line y) (length w.line)) [ inl k ↦ k | inr k ↦ absurd (let z = pos_joined_out w.line i y d (omega arith) in omega arith) ]

  stays_in : (y : ℕ) → In w y → In f y
  stays_in y h = let l = len in let p = place y h in omega arith

  inside : In f i
  inside = let l = len in let p = last_place in omega arith

  before : (y z : ℕ) → In w z → pos f.line y < pos f.line z → In w y
  before y z h k = let p = place z h in let q = last_place in let l = len in elim (cases_eq y i) [ inl e ↦ let j = ap (pos f.line) e in absurd (omega arith) | inr d ↦ was_in y d (omega arith) ]

  -- records after the arrival
  to_here : (P : Record → Type 0) (s : ℕ) → s ≡ i → P x → P (f.at s)
  to_here = alter.to_here w i x w.reader_count

  from_here : (P : Record → Type 0) (s : ℕ) → s ≡ i → P (f.at s) → P x
  from_here = alter.from_here w i x w.reader_count

  to_there : (P : Record → Type 0) (s : ℕ) → (s ≢ i) → P (w.at s) → P (f.at s)
  to_there = alter.to_there w i x w.reader_count

  from_there : (P : Record → Type 0) (s : ℕ) → (s ≢ i) → P (f.at s) → P (w.at s)
  from_there = alter.from_there w i x w.reader_count

  split : (P : Record → Type 0) (s : ℕ) → (s ≡ i → P x) → ((s ≢ i) → P (w.at s)) → P (f.at s)
  split = alter.split w i x w.reader_count

  not_here : (g : Standing → Bool) → g x.standing ≡ false → (s : ℕ) → g (f.at s).standing ≡ true → s ≢ i
  not_here g z s h q = both_ways (g x.standing) z (from_here (λ y. g y.standing ≡ true) s q h)

  was_not : (g : Standing → Bool) → g (w.at i).standing ≡ false → (s : ℕ) → g (w.at s).standing ≡ true → s ≢ i
  was_not g z s h q = both_ways (g (w.at i).standing) z (subst (λ y. g (w.at y).standing ≡ true) q h)

  clear_w : ((t : ℕ) → is.writeway (w.at t).standing ≡ false) → (t : ℕ) → is.writeway (f.at t).standing ≡ false
  clear_w h t = split (λ y. is.writeway y.standing ≡ false) t (λ _. a.writeway) (λ _. h t)

  clear_r : ((t : ℕ) → is.readway (w.at t).standing ≡ false) → (t : ℕ) → is.readway (f.at t).standing ≡ false
  clear_r h t = split (λ y. is.readway y.standing ≡ false) t (λ _. a.readway) (λ _. h t)

  front : (y : ℕ) → Front w y → Front f y
  front y h = record {
    inside = stays_in y h.inside;
    ahead = λ z k. let b = before z y h.inside k in to_there Act z (other z b) (h.ahead z (let p = place z b in let q = place y h.inside in omega arith));
    clear = clear_w h.clear;
  }

  alone : (y : ℕ) → Alone w y → Alone f y
  alone y h = record { inside = stays_in y h.inside; first = place y h.inside ∙ h.first; clear = clear_w h.clear; past = clear_r h.past }

  -- the new slot is at the front where all before it are active readers
  front_i : AllAct w → ((t : ℕ) → is.writeway (w.at t).standing ≡ false) → Front f i
  front_i h c = record {
    inside = inside;
    ahead = λ y k. let d : y ≡ i → ⊥ = λ e. (let j = ap (pos f.line) e in omega arith) in let b = was_in y d (let l = len in let p = last_place in omega arith) in to_there Act y d (h y b);
    clear = clear_w c;
  }

  not_owed : (p s : ℕ) → owes (w.at p) ≡ true → (w.at p).next ≡ Some s → s ≢ i
  not_owed p s h q = was_not is.sleeping a.sleeping s (v.owed p s h q).standing

  placed : (p s : ℕ) → In w s → (p ≢ i) → Next w p s → Next f p s
  placed p s h d y = record {
    line = λ k. let b = was_in p d k in place s h ∙ y.line b ∙ ap suc (sym (place p b));
    writer = λ k. place s h ∙ y.writer (from_there (λ z. is.writeway z.standing ≡ true) p d k);
    reader = λ k. front s (y.reader (from_there (λ z. is.readway z.standing ≡ true) p d k));
  }

  -- what the new slot finds at the old tail
  tail_label : (p : ℕ) → Tail w p → is.followed (w.at p).standing ≡ true
  unfolding is.ending_w is.ending_r is.followed is.lining is.linked
  tail_label p t = elim t.place [
    | inl k ↦
        let l = fact.lined w v p (omega arith) in
        elim (cases_Bool (is.linked (w.at p).standing)) [
          | inl z ↦ absurd (fact.nobody (w.at p).next ((v.own p).linked z) t.next)
          | inr z ↦ let b = implies is.is_lining (λ y. cond (is.is_linked y) true (is.is_followed y)) refl (w.at p).standing l in rw z at b
        ]
    | inr (inl k) ↦ implies is.is_ending_w is.is_followed refl (w.at p).standing k.0
    | inr (inr k) ↦ implies is.is_ending_r is.is_followed refl (w.at p).standing k.0
  ]

  tail_next : (p : ℕ) → Tail w p → (p ≢ i) → Next f p i
  unfolding is.ending_w is.ending_r is.lining is.writeway is.readway
  tail_next p t d = record {
    line = λ h. let b = was_in p d h in let q = place p b in let z = last_place in elim t.place [
      | inl k ↦ omega arith
      | inr (inl k) ↦ absurd (omega (arith, k.1))
      | inr (inr k) ↦ absurd (both_ways _ (apart is.is_ending_r is.is_lining refl (w.at p).standing k.0) (fact.lined w v p b))
    ];
    writer = λ h. let b = from_there (λ z. is.writeway z.standing ≡ true) p d h in elim t.place [
      | inl k ↦ absurd (both_ways _ (apart is.is_lining is.is_writeway refl (w.at p).standing (fact.lined w v p (omega arith))) b)
      | inr (inl k) ↦ last_place ∙ k.1
      | inr (inr k) ↦ absurd (both_ways _ (apart is.is_ending_r is.is_writeway refl (w.at p).standing k.0) b)
    ];
    reader = λ h. let b = from_there (λ z. is.readway z.standing ≡ true) p d h in elim t.place [
      | inl k ↦ absurd (both_ways _ (apart is.is_lining is.is_readway refl (w.at p).standing (fact.lined w v p (omega arith))) b)
      | inr (inl k) ↦ absurd (both_ways _ (apart is.is_ending_w is.is_readway refl (w.at p).standing k.0) b)
      | inr (inr k) ↦ front_i k.1 (λ u. elim (cases_Bool (is.writeway (w.at u).standing)) [
        | inr z ↦ z
        | inl z ↦ elim (cases_eq p u) [
          | inl e ↦ absurd (both_ways _ (apart is.is_writeway is.is_readway refl (w.at u).standing z) (subst (λ y. is.readway (w.at y).standing ≡ true) e b))
          | inr e ↦ absurd (both_ways _ (v.one_leaves u p z e).1 b)
        ]
      ])
    ];
  }

  -- D1 and D3 of an unlinked slot
  unlinked : (s p : ℕ) → is.unlinked (f.at s).standing ≡ true → (f.at s).pred ≡ Some p → (p ≢ s) × Behind (f.at s) (f.at p) × (p ≢ i) × Next f p s
  unlinked s p u q = elim (cases_eq s i) [
    | inl z ↦
        let g : w.tail ≡ Some p = sym a.pred ∙ from_here (λ y. y.pred ≡ Some p) s z q in
        let t = v.tailed p g in
        let l = tail_label p t in
        let d = was_not is.followed a.followed p l in (
          λ e. d (e ∙ z),
          to_here (λ y. Behind y (f.at p)) s z (to_there (Behind x) p d (record {
            next = t.next;
            standing = l;
            plain = λ _. t.behind;
            noted = λ h. absurd (both_ways _ a.noted h);
            reads = λ h. absurd (both_ways _ a.behind_reader h);
            free = λ h. absurd (both_ways _ a.behind_open h);
            linking = λ h. absurd (both_ways _ a.linking h);
          })),
          d,
          subst (Next f p) (sym z) (tail_next p t d),
        )
    | inr n ↦
        let g = from_there (λ y. is.unlinked y.standing ≡ true) s n u in
        let h = from_there (λ y. y.pred ≡ Some p) s n q in
        let y = v.behind s p g h in
        let d = was_not is.followed a.followed p y.standing in
        (λ z. v.behind_other s g (h ∙ ap Some z), to_there (λ z. Behind z (f.at p)) s n (to_there (Behind (w.at s)) p d y), d, placed p s (fact.pair_in w v p s (h, inl g)) d (v.pairs p s (h, inl g)))
  ]

  -- D2 and D3 of an owed slot
  owed : (p s : ℕ) → owes (f.at p) ≡ true → (f.at p).next ≡ Some s → Owed p (f.at p) (f.at s) × (w.next_writer ≢ Some s) × Next f p s
  owed p s h q = elim (cases_eq p i) [
    | inl z ↦ absurd (fact.nobody x.next (ap is_some (from_here (λ y. y.next ≡ Some s) p z q)) a.next)
    | inr d ↦
        let g = from_there (λ y. owes y ≡ true) p d h in
        let k = from_there (λ y. y.next ≡ Some s) p d q in
        let n = not_owed p s g k in
        let y = v.owed p s g k in
        (to_there (Owed p (f.at p)) s n (to_there (λ z. Owed p z (w.at s)) p d y), v.owed_unnamed p s g k, placed p s (fact.owed_in w v p s g k) d (v.pairs p s (y.pred, inr (k, g))))
  ]

  -- a slot that hands on has another next
  handed : (j m : ℕ) → (w.at j).next ≡ Some m → is.owing_w (w.at j).standing ≡ true → is.writing (w.at j).standing ≡ true → (f.at m).class ≡ (w.at m).class
  handed j m q h k = to_there (λ y. y.class ≡ (w.at m).class) m (not_owed j m (owing_writer _ _ _ ((v.own j).writing k) h) q) refl

  next_kept : (j : ℕ) (o : Option ℕ) → (w.at j).next ≡ o → is.owing_w (w.at j).standing ≡ true → is.writing (w.at j).standing ≡ true → next_share f o ≡ next_share w o
  next_kept j None q h k = refl
  next_kept j (Some m) q h k = ap one_if (handed j m q h k)

  shares : (j : ℕ) → share_of f j ≡ share_of w j
  unfolding is.handing is.owing_w is.writing
  shares j = elim (cases_eq j i) [
    | inl q ↦ to_here (λ y. share y (next_share f y.next) ≡ share_of w j) j q (a.share _ _ ∙ sym (ap (share_of w) q))
    | inr d ↦ to_there (λ y. share y (next_share f y.next) ≡ share_of w j) j d (elim (cases_Bool (is.handing (w.at j).standing)) [
      | inl h ↦ ap (share (w.at j)) (next_kept j (w.at j).next refl (implies is.is_handing is.is_owing_w refl (w.at j).standing h) (implies is.is_handing is.is_writing refl (w.at j).standing h))
      | inr h ↦ share_apart (w.at j) _ _ h
    ])
  ]

  a1 : (s : ℕ) → is.lining (f.at s).standing ≡ nat_lt (pos f.line s) (length f.line)
  a1 s = let l = len in let p = last_place in elim (cases_eq s i) [
    | inl q ↦ to_here (λ y. is.lining y.standing ≡ nat_lt (pos f.line s) (length f.line)) s q (a.lining ∙ sym (lt-ltb _ _ (let j = ap (pos f.line) q in omega arith)))
    | inr d ↦ to_there (λ y. is.lining y.standing ≡ nat_lt (pos f.line s) (length f.line)) s d (v.lined s ∙ elim (cases_lt (pos w.line s) (length w.line)) [
      | inl h ↦ let z = place s h in lt-ltb _ _ h ∙ sym (lt-ltb _ _ (omega arith))
      | inr h ↦ let y = pos_le w.line s in let z = pos_joined_out w.line i s d (omega arith) in le-ltb _ _ h ∙ sym (le-ltb _ _ (omega arith))
    ])
  ]

  pub arrive : Inv f
  unfolding is.fetching is.owing_w is.writing
  arrive = record {
    distinct = distinct_joined w.line i v.distinct outside;
    lined = a1;
    beyond = λ s h. to_there (λ y. y.standing ≡ I) s (λ q. omega arith) (v.beyond s h);
    own = λ s. split Own s (λ _. a.own) (λ _. v.own s);
    fetched = λ s m h q.
        let d = not_here is.fetching a.fetching s h in
        let g = from_there (λ y. is.fetching y.standing ≡ true) s d h in
        let k = from_there (λ y. y.next ≡ Some m) s d q in
        handed s m k (implies is.is_fetching is.is_owing_w refl (w.at s).standing g) (implies is.is_fetching is.is_writing refl (w.at s).standing g) ∙ v.fetched s m g k;
    front = λ s h c. elim (cases_eq s i) [
      | inl q ↦ let z = v.untailed (a.admitted (rw a.on at (from_here (λ y. admitted y ≡ true) s q c))) in subst (Front f) (sym q) (front_i z.0 z.1)
      | inr d ↦ front s (v.front s (was_in s d h) (from_there (λ y. admitted y ≡ true) s d c))
    ];
    alone = λ s h k c. elim (cases_eq s i) [
      | inl q ↦ absurd (both_ways _ a.only (rw a.on at (from_here (λ y. only y ≡ true) s q c)))
      | inr d ↦ alone s (v.alone s (was_in s d h) (from_there (λ y. y.class ≡ Writing) s d k) (from_there (λ y. only y ≡ true) s d c))
    ];
    woken = λ t y h q. let d = not_here is.waking a.waking t h in let z = v.woken t y (from_there (λ j. is.waking j.standing ≡ true) t d h) (from_there (λ j. j.w ≡ Some y) t d q) in (to_there Waits y (was_not is.waiting a.waiting y z.0.standing) z.0, alone y z.1);
    woken_unnamed = λ t h. v.woken_unnamed t (from_there (λ j. is.waking j.standing ≡ true) t (not_here is.waking a.waking t h) h);
    one_wakes = λ t u h g. v.one_wakes t u (from_there (λ j. is.waking j.standing ≡ true) t (not_here is.waking a.waking t h) h) (from_there (λ j. is.waking j.standing ≡ true) u (not_here is.waking a.waking u g) g);
    named = λ y q. let z = v.named y q in (to_there Waits y (was_not is.waiting a.waiting y z.0.standing) z.0, front y z.1);
    asked = λ t y h q g.
        let d = not_here is.asking a.asking t h in
        let k = from_there (λ j. is.asking j.standing ≡ true) t d h in
        let m = from_there (λ j. j.w ≡ Some y) t d q in
        let b : y ≡ i → ⊥ = λ e. a.asked t k (m ∙ ap Some e) (from_here (λ j. is.wanting j.standing ≡ true) y e g) in
        let z = v.asked t y k m (from_there (λ j. is.wanting j.standing ≡ true) y b g) in
        (to_there (λ j. is.askable j.standing ≡ true) y b z.0, elim z.1 [ inl c ↦ inl (alone y c) | inr c ↦ inr (to_there (λ j. is.asking_first j.standing ≡ true) t d c.0, c.1) ]);
    behind = λ s p u q. (unlinked s p u q).1;
    behind_tail = λ s p u q k. (unlinked s p u q).2 (sym (fact.some_inj i p k));
    behind_other = λ s u q. (unlinked s s u q).0 refl;
    owed = λ p s h q. (owed p s h q).0;
    owed_unnamed = λ p s h q. (owed p s h q).1;
    pairs = λ p s q. elim q.1 [ inl h ↦ (unlinked s p h q.0).3 | inr z ↦ (owed p s z.1 z.0).2 ];
    tailed = λ t q. subst (Tail f) (fact.some_inj i t q) (record { next = to_here (λ y. y.next ≡ None) i refl a.next; behind = to_here (λ y. y.state.successor ≡ Nobody) i refl a.behind; place = inl (let l = len in let p = last_place in omega arith) });
    untailed = λ q. absurd (cc);
    one_leaves = λ t u h d.
        let b = not_here is.writeway a.writeway t h in
        let g = from_there (λ y. is.writeway y.standing ≡ true) t b h in
        (split (λ y. is.writeway y.standing ≡ false) u (λ _. a.writeway) (λ _. (v.one_leaves t u g d).0), split (λ y. is.readway y.standing ≡ false) u (λ _. a.readway) (λ _. (v.one_leaves t u g d).1));
    counted = v.counted ∙ sym (total_below (share_of w) (share_of f) 32 (λ j _. shares j));
  }
