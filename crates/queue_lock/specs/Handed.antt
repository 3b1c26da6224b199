-- Steps that write another slot's record: they note what stands behind it, link behind it, or wake it.
use Rattle.std.proofs.Common.{◌≡◌, ℕ, true, false, cond, ◌⊎◌, Some, None, sym, refl, ap, ◌∙◌, subst, inl, inr}
use Rattle.std.proofs.lemmas.Bool.{both_ways}
use Rattle.queue_words.specs.Records.{relabelled, freed, linked}
use Rattle.queue_words.specs.declared.record.Record.{Record}
use Rattle.queue_words.specs.declared.record.Successor.{Successor}
use Rattle.queue_words.specs.declared.record.Successor.TheVariants.{Nobody}
use Rattle.queue_words.specs.declared.standing.Standing.{Standing}
use Rattle.queue_words.specs.declared.standing.Standing.TheVariants.{I, W7, W8, R5, R6, R8, R9, E10}
use Rattle.queue_lock.specs.Sets as is
use Rattle.queue_lock.specs.Config.{Config}
use Rattle.queue_lock.specs.Invariant.{Inv, Behind, owes}
use Rattle.queue_lock.specs.Tended.{Tended, Responsible}
use Rattle.queue_lock.specs.Alter as alter
use Rattle.queue_lock.specs.Calm.{tended, calm, calm_step, owing_still, second_keeps, second_here, second_owes}
use Rattle.queue_lock.specs.Followed.{follow, follow_link, unlinked_awaited}
use Rattle.queue_lock.specs.Untouched.{Keeps, Later, kept, freed_later, noted_later, linked_later}
use Rattle.queue_lock.specs.LookedAfter.{look}
use Rattle.queue_lock.specs.Minded.{mind, dozed}
use Rattle.queue_lock.specs.Owner.{noted_owes, linking_owes}
use Rattle.queue_lock.specs.Rows.{Row, row_of}
use Rattle.queue_lock.specs.Tested.{no}
use Rattle.queue_lock.specs.Turn.{stood, waked, marked, joined}

-- what slot i's move leaves of another record, or its own
same_after : (w : Config) (i : ℕ) (l : Standing) (p : ℕ) (P : Record → Type 0) → (P (w.at i) → P (relabelled (w.at i) l)) → P (w.at p) → P ((stood w i l).at p)
same_after w i l p P f h = alter.split w i (relabelled (w.at i) l) w.reader_count P p (λ q. f (subst (λ x. P (w.at x)) q h)) (λ _. h)

pub marks : (w : Config) (i : ℕ) (a l : Standing) → Inv w → Tended w → (w.at i).standing ≡ a → (p : ℕ) (x : Successor) → (w.at p).state.successor ≡ Nobody → owing_still a l ≡ true → calm a l ≡ true → Tended (marked (stood w i l) p x)
marks w i a l iv g e p x z y t =
    let m = noted_later ((stood w i l).at p) x (same_after w i l p (λ r. r.state.successor ≡ Nobody) (λ q. q) z) in
    calm_step w (marked (stood w i l) p x) i a l iv g (second_keeps w i l p _ m) (row_of e) (second_here w i l p _ m) refl refl (λ _ q _ _. inl (second_owes w i l p _ m a iv e y q)) inl t

-- slot i wakes slot k
module _ (w : Config) (i : ℕ) (l : Standing) (k : ℕ) where
  abbrev v : Config
  v = waked (stood w i l) k

  keeps : Keeps w.at v.at i
  keeps = second_keeps w i l k _ (freed_later _)

  here : Row (v.at i).standing l
  here = second_here w i l k _ (freed_later _)

  awake : (s : ℕ) → s ≡ k → (v.at s).state.blocked ≡ true → ⊥
  awake s e = both_ways _ (alter.to_here (stood w i l) k (freed ((stood w i l).at k)) w.reader_count (λ r. r.state.blocked ≡ false) s e refl)

  pub wakes_next : (a : Standing) → Inv w → Tended w → (w.at i).standing ≡ a → (w.at i).next ≡ Some k → calm a l ≡ true → Tended v
  wakes_next a iv g e q t = calm_step w v i a l iv g keeps (row_of e) here refl refl (λ s _ z b. let j : s ≡ k = cc (z, q) in absurd (awake s j b)) inl t

pub e10_tends : (w : Config) (i : ℕ) → Inv w → Tended w → (w.at i).standing ≡ E10 → (x : ℕ) → (w.at i).w ≡ Some x → Tended (waked (stood w i I) x)
e10_tends w i iv g e x q =
    let u = waked (stood w i I) x in
    let o = row_of e in
    let n = here w i I x in
    tended w u i g (keeps w i I x) (follow w u i E10 I o n refl refl refl)
    (record {
      dozing = dozed w u i E10 I o n refl;
      owing = λ _ h _ _. inl (second_owes w i I x _ (freed_later _) E10 iv e refl h);
      waking = λ s _ z b. let j : s ≡ x = cc (z, q) in awake w i I x s j b;
      named = λ s z _. inl z;
    })
    (look w u i E10 I o n iv refl inl refl refl refl)

-- slot i links itself behind its predecessor p
module _ (w : Config) (i : ℕ) (a l : Standing) (iv : Inv w) (g : Tended w) (e : (w.at i).standing ≡ a) (u : is.is_unlinked a ≡ true) (p : ℕ) (q : (w.at i).pred ≡ Some p) where
  abbrev f : Config
  f = joined (stood w i l) p i

  unlinked : is.unlinked (w.at i).standing ≡ true
  unlinked = (row_of e).unlinked ∙ u

  before : Behind (w.at i) (w.at p)
  before = iv.behind i p unlinked q

  later : Later ((stood w i l).at p) (linked ((stood w i l).at p) i)
  later = linked_later _ i (same_after w i l p (λ r. r.next ≡ None) (λ z. z) before.next)

  set : (f.at p).next ≡ Some i
  set = alter.to_here (stood w i l) p (linked ((stood w i l).at p) i) w.reader_count (λ r. r.next ≡ Some i) p refl refl

  -- its predecessor has to wake it
  minded_by : owes (w.at p) ≡ true → Responsible f i
  minded_by h =
      let k = second_keeps w i l p _ later in
      inl (p, ((kept k i (inl (unlinked_awaited _ unlinked))).pred ∙ q, (set, (k.others p (λ z. iv.behind_other i unlinked (q ∙ ap Some z))).owing h)))

  pub links : ((is.is_dozing l ≡ true → ⊥) ⊎ (owes (w.at p) ≡ true)) → cond (is.is_awaited l) (is.is_awaited a) true ≡ true → no (is.is_waking a) ≡ true → owing_still a l ≡ true → cond (is.is_waiting a) (cond (is.is_sleeping_w l) (is.is_sleeping_w a) true) true ≡ true → no (is.is_looking a) ≡ true → no (is.is_asking a) ≡ true → Tended f
  links d t0 t1 t2 t3 t4 t5 =
      let o = row_of e in
      let n = second_here w i l p _ later in
      tended w f i g (second_keeps w i l p _ later) (follow_link w f i a l o n refl p q set t0)
      (mind w f i a l o n refl t1 (λ h _. elim d [ inl b ↦ absurd (b (sym n.dozing ∙ h)) | inr b ↦ inr (minded_by b) ]) (λ _ h _ _. inl (second_owes w i l p _ later a iv e t2 h)))
      (look w f i a l o n iv refl inl t3 t4 t5)

-- the three slots that link themselves
module _ (w : Config) (i : ℕ) (iv : Inv w) (g : Tended w) (p : ℕ) (q : (w.at i).pred ≡ Some p) where
  pub w7_tends : (w.at i).standing ≡ W7 → Tended (joined (stood w i W8) p i)
  w7_tends e = links w i W7 W8 iv g e refl p q (inr (noted_owes (w.at i) (w.at p) (iv.own p) (iv.behind i p (row_of e).unlinked q) (row_of e).noted)) refl refl refl refl refl refl

  pub r5_tends : (w.at i).standing ≡ R5 → Tended (joined (stood w i R6) p i)
  r5_tends e = links w i R5 R6 iv g e refl p q (inr (linking_owes (w.at i) (w.at p) (iv.own p) (iv.behind i p (row_of e).unlinked q) (row_of e).linking)) refl refl refl refl refl refl

  pub r8_tends : (w.at i).standing ≡ R8 → Tended (joined (stood w i R9) p i)
  r8_tends e = links w i R8 R9 iv g e refl p q (inl (λ h. both_ways _ refl h)) refl refl refl refl refl refl
