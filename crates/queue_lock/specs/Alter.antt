-- The frame of a change to one slot's record and the count: what the slot owes in each of its roles is enough for every clause.
use Rattle.std.specs.Prelude.{◌≡◌, ℕ, ◌+◌, ◌<◌, Bool, true, false, ◌⊎◌, length, Some, None, ◌≢◌, nat_lt, refl}
use Rattle.std.proofs.Common.{sym, ap, subst, ◌∙◌, inl, inr, arith}
use Rattle.std.proofs.lemmas.Bool.{cases_eq, both_ways}
use Rattle.queue_words.specs.declared.standing.Standing.{Standing}
use Rattle.queue_words.specs.declared.standing.Standing.TheVariants.{I}
use Rattle.lock.specs.declared.words.Class.TheVariants.{Reading, Writing}
use Rattle.queue_words.specs.declared.record.Successor.TheVariants.{Nobody}
use Rattle.queue_words.specs.declared.record.Record.{Record}
use Rattle.queue_lock.specs.Sets as is
use Rattle.queue_lock.specs.Places.{pos}
use Rattle.queue_lock.specs.Config.{Config, upd}
use Rattle.queue_lock.specs.Invariant.{Inv, Own, Front, Alone, Act, In, Waits, Behind, Owed, Next, Tail, owes, admitted, only, share_of, share, next_share}
use Rattle.queue_lock.specs.Shares.{next_share_same}
use Rattle.lined_lock.specs.Totals.{total_one}
use Rattle.queue_lock.specs.Lasts as last

-- only the record of slot i and the count change
abbrev pub altered : Config → ℕ → Record → ℕ → Config
altered w i e c = record { at = upd w.at i e; tail = w.tail; next_writer = w.next_writer; reader_count = c; line = w.line }

-- what the slot at E8 or E9 knows of its w
abbrev pub Asked : Config → Standing → ℕ → Type 0
Asked w l x = Alone w x ⊎ ((is.asking_first l ≡ true) × (w.next_writer ≡ Some x))

-- what slot i has to show of its new record e
pub record Roles (w : Config) (i : ℕ) (e : Record) : Type 0 where
  -- its own record
  pub class : e.class ≡ (w.at i).class
  pub pred : e.pred ≡ (w.at i).pred
  pub line : is.lining e.standing ≡ is.lining (w.at i).standing
  pub act : Act (w.at i) → Act e
  pub writeway : is.writeway (w.at i).standing ≡ false → is.writeway e.standing ≡ false
  pub readway : is.readway (w.at i).standing ≡ false → is.readway e.standing ≡ false
  pub own : Own e
  pub fetching : is.fetching e.standing ≡ true → (n : ℕ) → e.next ≡ Some n → (w.at n).class ≡ Reading
  pub admitted : In w i → admitted e ≡ true → Front w i
  pub only : In w i → e.class ≡ Writing → only e ≡ true → Alone w i
  -- as the one that wakes or asks
  pub waking : is.waking e.standing ≡ true → (x : ℕ) → e.w ≡ Some x → (x ≢ i) × (Waits (w.at x) × Alone w x)
  pub waking_none : is.waking e.standing ≡ true → w.next_writer ≡ None
  pub waking_one : is.waking e.standing ≡ true → (t : ℕ) → is.waking (w.at t).standing ≡ true → t ≡ i
  pub asking : is.asking e.standing ≡ true → (x : ℕ) → e.w ≡ Some x → is.wanting (w.at x).standing ≡ true → (is.askable (w.at x).standing ≡ true) × Asked w e.standing x
  pub apart : is.asking e.standing ≡ true → is.wanting e.standing ≡ false
  -- as the one that is woken, named or asked for
  pub woken : (t : ℕ) → (t ≢ i) → is.waking (w.at t).standing ≡ true → (w.at t).w ≡ Some i → Waits e
  pub waiting : w.next_writer ≡ Some i → Waits e
  pub asked : (t : ℕ) → (t ≢ i) → is.asking (w.at t).standing ≡ true → (w.at t).w ≡ Some i → is.wanting e.standing ≡ true → (is.wanting (w.at i).standing ≡ true) × (is.askable e.standing ≡ true)
  -- as an unlinked slot
  pub behind : is.unlinked e.standing ≡ true → (p : ℕ) → e.pred ≡ Some p → (p ≢ i) × Behind e (w.at p) × (w.tail ≢ Some p) × Next w p i
  -- as the one before an unlinked slot
  pub followed : (s : ℕ) → (s ≢ i) → is.unlinked (w.at s).standing ≡ true → (w.at s).pred ≡ Some i → Behind (w.at s) (w.at i) → Behind (w.at s) e
  -- as owner and as owed
  pub owing : owes e ≡ true → (s : ℕ) → e.next ≡ Some s → (s ≢ i) × Owed i e (w.at s) × (w.next_writer ≢ Some s) × Next w i s
  pub owed : (p : ℕ) → (p ≢ i) → owes (w.at p) ≡ true → (w.at p).next ≡ Some i → Owed p (w.at p) (w.at i) → Owed p (w.at p) e
  -- as the tail
  pub tail : w.tail ≡ Some i → (e.next ≡ None) × (e.state.successor ≡ Nobody) × (is.ending_w (w.at i).standing ≡ true → is.ending_w e.standing ≡ true) × (is.ending_r (w.at i).standing ≡ true → is.ending_r e.standing ≡ true)

module _ (w : Config) (i : ℕ) (e : Record) (c : ℕ) where
  pub there : (s : ℕ) → (s ≢ i) → (altered w i e c).at s ≡ w.at s
  there s d = grind arith

  pub here : (altered w i e c).at i ≡ e
  here = grind arith

  pub from_here : (P : Record → Type 0) (s : ℕ) → s ≡ i → P ((altered w i e c).at s) → P e
  from_here P s q h = subst P (ap (altered w i e c).at q ∙ here) h

  pub to_here : (P : Record → Type 0) (s : ℕ) → s ≡ i → P e → P ((altered w i e c).at s)
  to_here P s q h = subst P (sym (ap (altered w i e c).at q ∙ here)) h

  pub from_there : (P : Record → Type 0) (s : ℕ) → (s ≢ i) → P ((altered w i e c).at s) → P (w.at s)
  from_there P s d h = subst P (there s d) h

  pub to_there : (P : Record → Type 0) (s : ℕ) → (s ≢ i) → P (w.at s) → P ((altered w i e c).at s)
  to_there P s d h = subst P (sym (there s d)) h

  -- by whether s is the slot that changes
  pub split : (P : Record → Type 0) (s : ℕ) → (s ≡ i → P e) → ((s ≢ i) → P (w.at s)) → P ((altered w i e c).at s)
  split P s f g = elim (cases_eq s i) [ inl q ↦ to_here P s q (f q) | inr d ↦ to_there P s d (g d) ]

  back : (f : Standing → Bool) → (f (w.at i).standing ≡ false → f e.standing ≡ false) → (s : ℕ) → f ((altered w i e c).at s).standing ≡ true → f (w.at s).standing ≡ true
  back f k s h = elim (cases_eq s i) [
    | inl q ↦ subst (λ x. f (w.at x).standing ≡ true) (sym q) (elim (f (w.at i).standing) as (λ b. (b ≡ false → f e.standing ≡ false) → b ≡ true) [ true ↦ λ _. refl | false ↦ λ y. sym (y refl) ∙ from_here (λ y. f y.standing ≡ true) s q h ] k)
    | inr d ↦ from_there (λ y. f y.standing ≡ true) s d h
  ]

module _ (w : Config) (i : ℕ) (e : Record) (c : ℕ) (v : Inv w) (r : Roles w i e) where
  class : (s : ℕ) → ((altered w i e c).at s).class ≡ (w.at s).class
  class s = split w i e c (λ y. y.class ≡ (w.at s).class) s (λ q. r.class ∙ ap (λ x. (w.at x).class) (sym q)) (λ d. refl)

  pred : (s : ℕ) → ((altered w i e c).at s).pred ≡ (w.at s).pred
  pred s = split w i e c (λ y. y.pred ≡ (w.at s).pred) s (λ q. r.pred ∙ ap (λ x. (w.at x).pred) (sym q)) (λ d. refl)

  pub lasts : last.Lasts w (altered w i e c)
  lasts = record {
    line = refl;
    act = λ y _ a. split w i e c Act y (λ q. r.act (subst (λ x. Act (w.at x)) q a)) (λ d. a);
    writeway = λ t h. split w i e c (λ y. is.writeway y.standing ≡ false) t (λ q. r.writeway (subst (λ x. is.writeway (w.at x).standing ≡ false) q h)) (λ d. h);
    readway = λ t h. split w i e c (λ y. is.readway y.standing ≡ false) t (λ q. r.readway (subst (λ x. is.readway (w.at x).standing ≡ false) q h)) (λ d. h);
  }

  pub next : (p s : ℕ) → Next w p s → Next (altered w i e c) p s
  next p s y = record { line = y.line; writer = λ h. y.writer (back w i e c is.writeway r.writeway p h); reader = λ h. last.front lasts (y.reader (back w i e c is.readway r.readway p h)) }

  shares : (j : ℕ) → (j ≢ i) → share_of (altered w i e c) j ≡ share_of w j
  shares j d = ap (λ y. share y (next_share (altered w i e c) y.next)) (there w i e c j d) ∙ ap (share (w.at j)) (next_share_same w (altered w i e c) class (w.at j).next)

  asks : (t x : ℕ) (l : Standing) → Asked w l x → (is.asking_first l ≡ true → is.asking_first ((altered w i e c).at t).standing ≡ true) → Asked (altered w i e c) ((altered w i e c).at t).standing x
  asks t x l (inl a) f = inl (last.alone lasts a)
  asks t x l (inr a) f = inr (f a.0, a.1)

  b3 : (t x : ℕ) → is.waking ((altered w i e c).at t).standing ≡ true → ((altered w i e c).at t).w ≡ Some x → Waits ((altered w i e c).at x) × Alone (altered w i e c) x
  b3 t x h q = elim (cases_eq t i) [
    | inl z ↦
        let y = r.waking (from_here w i e c (λ y. is.waking y.standing ≡ true) t z h) x (from_here w i e c (λ y. y.w ≡ Some x) t z q) in
        (to_there w i e c Waits x y.0 y.1.0, last.alone lasts y.1.1)
    | inr d ↦
        let f = from_there w i e c (λ y. is.waking y.standing ≡ true) t d h in
        let g = from_there w i e c (λ y. y.w ≡ Some x) t d q in
        let y = v.woken t x f g in
        (split w i e c Waits x (λ z. r.woken t d f (g ∙ ap Some z)) (λ _. y.0), last.alone lasts y.1)
  ]

  c2 : (t x : ℕ) → is.asking ((altered w i e c).at t).standing ≡ true → ((altered w i e c).at t).w ≡ Some x → is.wanting ((altered w i e c).at x).standing ≡ true → (is.askable ((altered w i e c).at x).standing ≡ true) × Asked (altered w i e c) ((altered w i e c).at t).standing x
  c2 t x h q k =
      elim (cases_eq t i) [
        | inl z ↦
            let f = from_here w i e c (λ y. is.asking y.standing ≡ true) t z h in
            let g = from_here w i e c (λ y. y.w ≡ Some x) t z q in
            let d : x ≡ i → ⊥ = λ n. both_ways (is.wanting e.standing) (r.apart f) (from_here w i e c (λ y. is.wanting y.standing ≡ true) x n k) in
            let y = r.asking f x g (from_there w i e c (λ y. is.wanting y.standing ≡ true) x d k) in
            (to_there w i e c (λ z. is.askable z.standing ≡ true) x d y.0, asks t x e.standing y.1 (to_here w i e c (λ z. is.asking_first z.standing ≡ true) t z))
        | inr d ↦
            let f = from_there w i e c (λ y. is.asking y.standing ≡ true) t d h in
            let g = from_there w i e c (λ y. y.w ≡ Some x) t d q in
            let b = to_there w i e c (λ z. is.asking_first z.standing ≡ true) t d in
            elim (cases_eq x i) [
              | inl z ↦
                  let o = r.asked t d f (g ∙ ap Some z) (from_here w i e c (λ y. is.wanting y.standing ≡ true) x z k) in
                  let y = v.asked t x f g (subst (λ n. is.wanting (w.at n).standing ≡ true) (sym z) o.0) in
                  (to_here w i e c (λ n. is.askable n.standing ≡ true) x z o.1, asks t x (w.at t).standing y.1 b)
              | inr n ↦
                  let y = v.asked t x f g (from_there w i e c (λ y. is.wanting y.standing ≡ true) x n k) in
                  (to_there w i e c (λ z. is.askable z.standing ≡ true) x n y.0, asks t x (w.at t).standing y.1 b)
            ]
      ]

  -- D1 and D3 of an unlinked slot
  unlinked : (s p : ℕ) → is.unlinked ((altered w i e c).at s).standing ≡ true → ((altered w i e c).at s).pred ≡ Some p → (p ≢ s) × Behind ((altered w i e c).at s) ((altered w i e c).at p) × (w.tail ≢ Some p) × Next (altered w i e c) p s
  unlinked s p u q = elim (cases_eq s i) [
    | inl z ↦
        let y = r.behind (from_here w i e c (λ y. is.unlinked y.standing ≡ true) s z u) p (from_here w i e c (λ y. y.pred ≡ Some p) s z q) in
        (λ n. y.0 (n ∙ z), to_here w i e c (λ n. Behind n ((altered w i e c).at p)) s z (to_there w i e c (Behind e) p y.0 y.1), y.2, next p s (subst (Next w p) (sym z) y.3))
    | inr d ↦
        let f = from_there w i e c (λ y. is.unlinked y.standing ≡ true) s d u in
        let g = from_there w i e c (λ y. y.pred ≡ Some p) s d q in
        let y = v.behind s p f g in
        (λ n. v.behind_other s f (g ∙ ap Some n), to_there w i e c (λ n. Behind n ((altered w i e c).at p)) s d (split w i e c (Behind (w.at s)) p (λ z. r.followed s d f (g ∙ ap Some z) (subst (λ n. Behind (w.at s) (w.at n)) z y)) (λ _. y)), v.behind_tail s p f g, next p s (v.pairs p s (g, inl f)))
  ]

  -- D2 and D3 of an owed slot
  owed : (p s : ℕ) → owes ((altered w i e c).at p) ≡ true → ((altered w i e c).at p).next ≡ Some s → Owed p ((altered w i e c).at p) ((altered w i e c).at s) × (w.next_writer ≢ Some s) × Next (altered w i e c) p s
  owed p s h q = elim (cases_eq p i) [
    | inl z ↦
        let y = r.owing (from_here w i e c (λ y. owes y ≡ true) p z h) s (from_here w i e c (λ y. y.next ≡ Some s) p z q) in
        (to_here w i e c (λ n. Owed p n ((altered w i e c).at s)) p z (to_there w i e c (Owed p e) s y.0 (subst (λ n. Owed n e (w.at s)) (sym z) y.1)), y.2, next p s (subst (λ n. Next w n s) (sym z) y.3))
    | inr d ↦
        let f = from_there w i e c (λ y. owes y ≡ true) p d h in
        let g = from_there w i e c (λ y. y.next ≡ Some s) p d q in
        let y = v.owed p s f g in
        (to_there w i e c (λ n. Owed p n ((altered w i e c).at s)) p d (split w i e c (Owed p (w.at p)) s (λ z. r.owed p d f (g ∙ ap Some z) (subst (λ n. Owed p (w.at p) (w.at n)) z y)) (λ _. y)), v.owed_unnamed p s f g, next p s (v.pairs p s (y.pred, inr (g, f))))
  ]

  t1 : (t : ℕ) → w.tail ≡ Some t → Tail (altered w i e c) t
  t1 t q = let y = v.tailed t q in elim (cases_eq t i) [
    | inl z ↦
        let k = r.tail (q ∙ ap Some z) in
        record {
          next = to_here w i e c (λ n. n.next ≡ None) t z k.0;
          behind = to_here w i e c (λ n. n.state.successor ≡ Nobody) t z k.1;
          place = elim y.place [
            | inl a ↦ inl a
            | inr (inl a) ↦ inr (inl (to_here w i e c (λ n. is.ending_w n.standing ≡ true) t z (k.2 (subst (λ n. is.ending_w (w.at n).standing ≡ true) z a.0)), a.1))
            | inr (inr a) ↦ inr (inr (to_here w i e c (λ n. is.ending_r n.standing ≡ true) t z (k.3 (subst (λ n. is.ending_r (w.at n).standing ≡ true) z a.0)), last.all_act lasts a.1))
          ];
        }
    | inr d ↦
        record {
          next = to_there w i e c (λ n. n.next ≡ None) t d y.next;
          behind = to_there w i e c (λ n. n.state.successor ≡ Nobody) t d y.behind;
          place = elim y.place [
            | inl a ↦ inl a
            | inr (inl a) ↦ inr (inl (to_there w i e c (λ n. is.ending_w n.standing ≡ true) t d a.0, a.1))
            | inr (inr a) ↦ inr (inr (to_there w i e c (λ n. is.ending_r n.standing ≡ true) t d a.0, last.all_act lasts a.1))
          ];
        }
  ]

  pub alter : i < 32 → c + share_of w i ≡ w.reader_count + share_of (altered w i e c) i → Inv (altered w i e c)
  alter lt count = record {
    distinct = v.distinct;
    lined = λ s. split w i e c (λ y. is.lining y.standing ≡ nat_lt (pos w.line s) (length w.line)) s (λ q. r.line ∙ subst (λ x. is.lining (w.at x).standing ≡ nat_lt (pos w.line s) (length w.line)) q (v.lined s)) (λ d. v.lined s);
    beyond = λ s h. to_there w i e c (λ y. y.standing ≡ I) s (λ q. omega arith) (v.beyond s h);
    own = λ s. split w i e c Own s (λ q. r.own) (λ d. v.own s);
    fetched = λ s m f q. class m ∙ elim (cases_eq s i) [ inl z ↦ r.fetching (from_here w i e c (λ y. is.fetching y.standing ≡ true) s z f) m (from_here w i e c (λ y. y.next ≡ Some m) s z q) | inr d ↦ v.fetched s m (from_there w i e c (λ y. is.fetching y.standing ≡ true) s d f) (from_there w i e c (λ y. y.next ≡ Some m) s d q) ];
    front = λ s h a. last.front lasts (elim (cases_eq s i) [ inl q ↦ subst (Front w) (sym q) (r.admitted (subst (In w) q h) (from_here w i e c (λ y. admitted y ≡ true) s q a)) | inr d ↦ v.front s h (from_there w i e c (λ y. admitted y ≡ true) s d a) ]);
    alone = λ s h k a. last.alone lasts (elim (cases_eq s i) [ inl q ↦ subst (Alone w) (sym q) (r.only (subst (In w) q h) (from_here w i e c (λ y. y.class ≡ Writing) s q k) (from_here w i e c (λ y. only y ≡ true) s q a)) | inr d ↦ v.alone s h (from_there w i e c (λ y. y.class ≡ Writing) s d k) (from_there w i e c (λ y. only y ≡ true) s d a) ]);
    woken = b3;
    woken_unnamed = λ t h. elim (cases_eq t i) [ inl z ↦ r.waking_none (from_here w i e c (λ y. is.waking y.standing ≡ true) t z h) | inr d ↦ v.woken_unnamed t (from_there w i e c (λ y. is.waking y.standing ≡ true) t d h) ];
    one_wakes = λ t u h k. elim (cases_eq t i) [
      | inl z ↦ elim (cases_eq u i) [ inl y ↦ z ∙ sym y | inr n ↦ z ∙ sym (r.waking_one (from_here w i e c (λ y. is.waking y.standing ≡ true) t z h) u (from_there w i e c (λ y. is.waking y.standing ≡ true) u n k)) ]
      | inr d ↦ elim (cases_eq u i) [ inl y ↦ r.waking_one (from_here w i e c (λ n. is.waking n.standing ≡ true) u y k) t (from_there w i e c (λ n. is.waking n.standing ≡ true) t d h) ∙ sym y | inr n ↦ v.one_wakes t u (from_there w i e c (λ y. is.waking y.standing ≡ true) t d h) (from_there w i e c (λ y. is.waking y.standing ≡ true) u n k) ]
    ];
    named = λ x q. let y = v.named x q in (split w i e c Waits x (λ z. r.waiting (q ∙ ap Some z)) (λ _. y.0), last.front lasts y.1);
    asked = c2;
    behind = λ s p u q. (unlinked s p u q).1;
    behind_tail = λ s p u q. (unlinked s p u q).2;
    behind_other = λ s u q. (unlinked s s u q).0 refl;
    owed = λ p s h q. (owed p s h q).0;
    owed_unnamed = λ p s h q. (owed p s h q).1;
    pairs = λ p s q. elim q.1 [ inl h ↦ (unlinked s p h q.0).3 | inr z ↦ (owed p s z.1 z.0).2 ];
    tailed = t1;
    untailed = λ q. (last.all_act lasts (v.untailed q).0, λ t. lasts.writeway t ((v.untailed q).1 t));
    one_leaves = λ t u h d. let y = v.one_leaves t u (back w i e c is.writeway r.writeway t h) d in (lasts.writeway u y.0, lasts.readway u y.1);
    counted = let t = total_one (share_of w) (share_of (altered w i e c)) i 32 shares lt in let g = v.counted in omega arith;
  }
