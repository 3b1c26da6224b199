-- V2: a writer in the way finds itself the tail: nobody is in line, and the lock is left empty.
use Rattle.std.specs.Prelude.{is_some}
use Rattle.std.proofs.Common.{◌≡◌, ℕ, ◌<◌, true, false, ltb, length, Some, None, sym, refl, ap, ◌∙◌, subst, inl, inr, arith}
use Rattle.std.proofs.lemmas.Bool.{both_ways, cases_eq, lt-ltb}
use Rattle.queue_words.specs.Records.{relabelled}
use Rattle.queue_words.specs.declared.record.Record.{Record}
use Rattle.queue_words.specs.declared.standing.Standing.{Standing}
use Rattle.queue_words.specs.declared.standing.Standing.TheVariants.{I, V2}
use Rattle.queue_lock.specs.Sets as is
use Rattle.queue_lock.specs.Config.{Config}
use Rattle.queue_lock.specs.Invariant.{Inv, Own, In, owes, share, share_of, next_share}
use Rattle.queue_lock.specs.Places.{pos}
use Rattle.queue_lock.specs.Alter as alter
use Rattle.queue_lock.specs.Every.{implies}
use Rattle.queue_lock.specs.Facts as fact
use Rattle.queue_lock.specs.Looks.{stays}
use Rattle.queue_lock.specs.Name.{untailed}
use Rattle.queue_lock.specs.Rows.{Row, row, row_of}
use Rattle.queue_lock.specs.Shares.{next_share_same, owing_by}
use Rattle.lined_lock.specs.Totals.{total_one}
use Rattle.queue_lock.specs.Turn.{stood}

fetching_writeway : (l : Standing) → is.fetching l ≡ true → is.writeway l ≡ true
unfolding is.fetching is.writeway
fetching_writeway l h = implies is.is_fetching is.is_writeway refl l h

unlinked_lining : (l : Standing) → is.unlinked l ≡ true → is.lining l ≡ true
unfolding is.unlinked is.lining
unlinked_lining l h = implies is.is_unlinked is.is_lining refl l h

askable_lining : (l : Standing) → is.askable l ≡ true → is.lining l ≡ true
unfolding is.askable is.lining
askable_lining l h = implies is.is_askable is.is_lining refl l h

module _ (w : Config) (i : ℕ) (v : Inv w) (lt : i < 32) (e : (w.at i).standing ≡ V2) (z : w.tail ≡ Some i) where
  o : Row (w.at i).standing V2
  o = row_of e

  n : Row I I
  n = row I

  empty : length w.line ≡ 0
  empty = elim (v.tailed i z).place [
    | inl a ↦ absurd (both_ways _ (sym (v.lined i) ∙ o.lining) (lt-ltb _ _ (omega arith)))
    | inr (inl a) ↦ a.1
    | inr (inr a) ↦ absurd (both_ways _ o.ending_r a.0)
  ]

  nobody : (s : ℕ) → In w s → ⊥
  nobody s h = omega (arith, empty)

  abbrev x : Record
  x = relabelled (w.at i) I

  abbrev f : Config
  f = untailed (stood w i I)

  from : (P : Record → Type 0) → (P x → ⊥) → (s : ℕ) → P (f.at s) → P (w.at s)
  from P d s h = elim (cases_eq s i) [ inl q ↦ absurd (d (alter.from_here w i x w.reader_count P s q h)) | inr g ↦ alter.from_there w i x w.reader_count P s g h ]

  -- nobody else is in the way, nobody stands in line, nobody is about to be woken, nobody owes
  clear : (t : ℕ) → is.writeway (f.at t).standing ≡ false
  clear t = alter.split w i x w.reader_count (λ y. is.writeway y.standing ≡ false) t (λ _. n.writeway) (λ d. (v.one_leaves i t o.writeway d).0)

  out : (s : ℕ) → is.lining (f.at s).standing ≡ true → ⊥
  out s h = nobody s (fact.in_line w v s (from (λ y. is.lining y.standing ≡ true) (both_ways _ n.lining) s h))

  asleep : (t : ℕ) → is.waking (f.at t).standing ≡ true → ⊥
  asleep t h =
      let g = from (λ y. is.waking y.standing ≡ true) (both_ways _ n.waking) t h in
      let y = fact.the_slot (w.at t).w ((v.own t).keeps (fact.waking_keeps (w.at t).standing g)) in
      nobody y.0 (v.woken t y.0 g y.1).1.inside

  idle_owes : owes x ≡ true → ⊥
  idle_owes h = owing_by (w.at i).class (w.at i).state.successor I h ⊥ (λ _ k. both_ways _ n.owing_w k) (λ _ _ k. both_ways _ n.owing_r k) (λ _ _ k. both_ways _ n.owing_n k)

  free : (p s : ℕ) → owes (f.at p) ≡ true → (f.at p).next ≡ Some s → ⊥
  free p s h q = let y = from (λ y. (owes y ≡ true) × (y.next ≡ Some s)) (λ k. idle_owes k.0) p (h, q) in nobody s (fact.owed_in w v p s y.0 y.1)

  follows : (s : ℕ) → is.unlinked (f.at s).standing ≡ true → ⊥
  follows s h = out s (unlinked_lining _ h)

  asks : (t y : ℕ) → is.asking (f.at t).standing ≡ true → (f.at t).w ≡ Some y → is.wanting (f.at y).standing ≡ true → ⊥
  asks t y h q k =
      let a = from (λ g. (is.asking g.standing ≡ true) × (g.w ≡ Some y)) (λ g. both_ways _ n.asking g.0) t (h, q) in
      let b = from (λ g. is.wanting g.standing ≡ true) (both_ways _ n.wanting) y k in
      nobody y (fact.in_line w v y (askable_lining _ (v.asked t y a.0 a.1 b).0))

  class : (s : ℕ) → (f.at s).class ≡ (w.at s).class
  class s = alter.split w i x w.reader_count (λ y. y.class ≡ (w.at s).class) s (λ q. ap (λ y. (w.at y).class) (sym q)) (λ _. refl)

  others : (j : ℕ) → (j ≡ i → ⊥) → share_of f j ≡ share_of w j
  others j d = ap (λ y. share y (next_share f y.next)) (alter.there w i x w.reader_count j d) ∙ ap (share (w.at j)) (next_share_same w f class (w.at j).next)

  pub kept : Inv f
  kept = record {
    distinct = v.distinct;
    lined = λ s. alter.split w i x w.reader_count (λ y. is.lining y.standing ≡ ltb (pos w.line s) (length w.line)) s (λ q. n.lining ∙ sym o.lining ∙ subst (λ y. is.lining (w.at y).standing ≡ ltb (pos w.line s) (length w.line)) q (v.lined s)) (λ _. v.lined s);
    beyond = λ s h. alter.to_there w i x w.reader_count (λ y. y.standing ≡ I) s (λ q. omega arith) (v.beyond s h);
    own = λ s. alter.split w i x w.reader_count Own s (λ _. grind (arith, n, v.own i)) (λ _. v.own s);
    fetched = λ s m h q. absurd (both_ways _ (clear s) (fetching_writeway _ h));
    front = λ s h _. absurd (nobody s h);
    alone = λ s h _ _. absurd (nobody s h);
    woken = λ t y h q. absurd (asleep t h);
    woken_unnamed = λ t h. absurd (asleep t h);
    one_wakes = λ t u h k. absurd (asleep t h);
    named = λ y q. absurd (nobody y (v.named y q).1.inside);
    asked = λ t y h q k. absurd (asks t y h q k);
    behind = λ s p h q. absurd (follows s h);
    behind_tail = λ s p h q _. follows s h;
    behind_other = λ s h q. follows s h;
    owed = λ p s h q. absurd (free p s h q);
    owed_unnamed = λ p s h q _. free p s h q;
    pairs = λ p s q. absurd (elim q.1 [ inl h ↦ follows s h | inr h ↦ free p s h.1 h.0 ]);
    tailed = λ t q. absurd (fact.nobody None (ap is_some q) refl);
    untailed = λ _. ((λ y h. absurd (nobody y h)), clear);
    one_leaves = λ t u h d. absurd (both_ways _ (clear t) h);
    counted = let t = total_one (share_of w) (share_of f) i 32 others lt in let g = v.counted in let k = stays w i V2 I v o n refl in omega arith;
  }
