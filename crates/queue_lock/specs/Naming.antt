-- Steps that write the next writer: a writer names itself or takes its name off, a reader names the writer behind it or takes the next writer to wake it.
use Rattle.std.proofs.Common.{◌≡◌, ℕ, true, cond, Some, None, Option, sym, refl, ap, ◌∙◌, subst, inl, inr, arith}
use Rattle.std.proofs.lemmas.Bool.{both_ways}
use Rattle.queue_words.specs.Records.{relabelled}
use Rattle.queue_words.specs.declared.standing.Standing.{Standing}
use Rattle.queue_words.specs.declared.standing.Standing.TheVariants.{W2, W3, W4, W5, W8, E5, E6, E9, E10}
use Rattle.queue_lock.specs.Sets as is
use Rattle.queue_lock.specs.Config.{Config}
use Rattle.queue_lock.specs.Invariant.{Inv, Front, Act, owes}
use Rattle.queue_lock.specs.Tended.{Tended}
use Rattle.queue_lock.specs.Alter as alter
use Rattle.queue_lock.specs.Calm.{tended, here, owes_here}
use Rattle.queue_lock.specs.Facts as fact
use Rattle.queue_lock.specs.Followed.{follow}
use Rattle.queue_lock.specs.Untouched.{stands}
use Rattle.queue_lock.specs.LookedAfter.{Look, look_unnamed, look_counted}
use Rattle.queue_lock.specs.Minded.{Mind, dozed}
use Rattle.queue_lock.specs.Name.{named}
use Rattle.queue_lock.specs.Rows.{row_of}
use Rattle.queue_lock.specs.Shares.{owing_next}
use Rattle.queue_lock.specs.Turn.{stood}

-- nobody but a slot at the front that is no active reader is next writer
only_named : (w : Config) → Inv w → (i x : ℕ) → Front w i → (Act (w.at i) → ⊥) → w.next_writer ≡ Some x → x ≡ i
only_named w iv i x f d q = let y = iv.named x q in fact.frontier w x i y.1 f (fact.blocked_not_act _ y.0.on) d

-- a writer that is let in
first_writer : (w : Config) → Inv w → (i x : ℕ) → is.lining (w.at i).standing ≡ true → is.writing (w.at i).standing ≡ true → is.admitted (w.at i).standing ≡ true → w.next_writer ≡ Some x → x ≡ i
first_writer w iv i x l k a q = only_named w iv i x (iv.front i (fact.in_line w iv i l) (grind (arith, a))) (fact.writer_not_act _ ((iv.own i).writing k)) q

module _ (w : Config) (i : ℕ) (iv : Inv w) (g : Tended w) where
  -- the step as a whole, from what becomes of the next writer
  names : (a l : Standing) (n : Option ℕ) → (w.at i).standing ≡ a → cond (is.is_unlinked a) (is.is_unlinked l) true ≡ true → cond (is.is_awaited l) (is.is_awaited a) true ≡ true → Mind w (named (stood w i l) n) i → Look w (named (stood w i l) n) i → Tended (named (stood w i l) n)
  names a l n e x y m k = tended w (named (stood w i l) n) i g (stands w i l w.reader_count) (follow w (named (stood w i l) n) i a l (row_of e) (here w i l w.reader_count) refl x y) m k

  pub w2_tends : (w.at i).standing ≡ W2 → Tended (named (stood w i W3) (Some i))
  w2_tends e =
      let o = row_of e in
      let n = here w i W3 w.reader_count in
      names W2 W3 (Some i) e refl refl
      (record {
        dozing = λ _ _. inr (inr (inl refl));
        owing = λ _ h _ _. inl (owes_here w i W2 W3 w.reader_count iv e refl h);
        waking = λ _ h. absurd (both_ways _ o.waking h);
        named = λ s q _. inl (ap Some (sym (first_writer w iv i s o.lining o.writing o.admitted q)));
      })
      (λ x q h _. let j : i ≡ x = cc q in absurd (both_ways _ n.sleeping_w (subst (λ y. is.sleeping_w ((stood w i W3).at y).standing ≡ true) (sym j) h)))

  pub w4_tends_named : (w.at i).standing ≡ W4 → Tended (named (stood w i W5) None)
  w4_tends_named e =
      let o = row_of e in
      let n = here w i W5 w.reader_count in
      names W4 W5 None e refl refl
      (record {
        dozing = dozed w (named (stood w i W5) None) i W4 W5 o n refl;
        owing = λ _ h _ _. inl (owes_here w i W4 W5 w.reader_count iv e refl h);
        waking = λ _ h. absurd (both_ways _ o.waking h);
        named = λ s q h. absurd (both_ways _ n.dozing (subst (λ y. is.dozing ((stood w i W5).at y).standing ≡ true) (first_writer w iv i s o.lining o.writing o.admitted q) h));
      })
      (look_unnamed refl)

  pub w4_tends_other : (w.at i).standing ≡ W4 → (w.next_writer ≡ Some i → ⊥) → Tended (named (stood w i W8) None)
  w4_tends_other e d =
      let o = row_of e in
      names W4 W8 None e refl refl
      (record {
        dozing = dozed w (named (stood w i W8) None) i W4 W8 o (here w i W8 w.reader_count) refl;
        owing = λ _ h _ _. inl (owes_here w i W4 W8 w.reader_count iv e refl h);
        waking = λ _ h. absurd (both_ways _ o.waking h);
        named = λ s q _. absurd (d (q ∙ ap Some (first_writer w iv i s o.lining o.writing o.admitted q)));
      })
      (look_unnamed refl)

  pub e9_tends_named : (w.at i).standing ≡ E9 → (x : ℕ) → (w.at i).w ≡ Some x → w.next_writer ≡ Some x → Tended (named (stood w i E10) None)
  e9_tends_named e x y z =
      let o = row_of e in
      let n = here w i E10 w.reader_count in
      names E9 E10 None e refl refl
      (record {
        dozing = dozed w (named (stood w i E10) None) i E9 E10 o n refl;
        owing = λ _ h _ _. inl (owes_here w i E9 E10 w.reader_count iv e refl h);
        waking = λ _ h. absurd (both_ways _ o.waking h);
        named = λ s q _. inr (n.waking, alter.to_here w i (relabelled (w.at i) E10) w.reader_count (λ r. r.w ≡ Some s) i refl (y ∙ sym z ∙ q));
      })
      (look_unnamed refl)

  pub e5_tends : (w.at i).standing ≡ E5 → (m : ℕ) → (w.at i).next ≡ Some m → Tended (named (stood w i E6) (Some m))
  e5_tends e m q =
      let o = row_of e in
      let own = iv.own i in
      let owing : owes (w.at i) ≡ true = owing_next (w.at i).class _ _ (own.reading o.reading) (own.names o.names) o.owing_n in
      let owed = iv.owed i m owing q in
      let front : Front w m = (iv.pairs i m (owed.pred, inr (q, owing))).reader o.readway in
      names E5 E6 (Some m) e refl refl
      (record {
        dozing = dozed w (named (stood w i E6) (Some m)) i E5 E6 o (here w i E6 w.reader_count) refl;
        owing = λ s _ z _. inr (sym q ∙ z);
        waking = λ _ h. absurd (both_ways _ o.waking h);
        named = λ s z _. inl (ap Some (sym (only_named w iv m s front (fact.blocked_not_act _ owed.on) z)));
      })
      (look_counted (λ z. both_ways _ (fact.empty_way w iv z i) o.readway))
