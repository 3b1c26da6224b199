-- Steps about the count and the next writer that only read them: a writer waits while readers are counted, a leaving reader looks after the next writer.
use Rattle.std.proofs.Common.{◌≡◌, ℕ, true, cond, Some, None, Option, sym, refl, ap, ◌∙◌, inl, inr}
use Rattle.std.proofs.lemmas.Bool.{both_ways}
use Rattle.queue_words.specs.Records.{relabelled, keeping}
use Rattle.queue_words.specs.declared.standing.Standing.{Standing}
use Rattle.queue_words.specs.declared.standing.Standing.TheVariants.{I, W3, W8, E7, E8, E9}
use Rattle.queue_lock.specs.Sets as is
use Rattle.queue_lock.specs.Config.{Config}
use Rattle.queue_lock.specs.Invariant.{Inv, owes}
use Rattle.queue_lock.specs.Tended.{Tended}
use Rattle.queue_lock.specs.Alter as alter
use Rattle.queue_lock.specs.Alter.{altered}
use Rattle.queue_lock.specs.Calm.{tended, here, owing_still, owes_here, still_owes}
use Rattle.queue_lock.specs.Followed.{follow}
use Rattle.queue_lock.specs.Untouched.{stands, fetches}
use Rattle.queue_lock.specs.LookedAfter.{Look, look_unnamed, look_counted, look_same}
use Rattle.queue_lock.specs.Minded.{mind, dozed}
use Rattle.queue_lock.specs.Rows.{Row, row_of}
use Rattle.queue_lock.specs.Tested.{no}
use Rattle.queue_lock.specs.Turn.{stood}

module _ (w : Config) (i : ℕ) (iv : Inv w) (g : Tended w) where
  looks : (a l : Standing) → (w.at i).standing ≡ a → owing_still a l ≡ true → cond (is.is_unlinked a) (is.is_unlinked l) true ≡ true → cond (is.is_awaited l) (is.is_awaited a) true ≡ true → cond (is.is_dozing l) (is.is_dozing a) true ≡ true → no (is.is_waking a) ≡ true → Look w (stood w i l) i → Tended (stood w i l)
  looks a l e y t0 t1 t2 t3 k =
      let o = row_of e in
      let n = here w i l w.reader_count in
      tended w (stood w i l) i g (stands w i l w.reader_count) (follow w (stood w i l) i a l o n refl t0 t1) (mind w (stood w i l) i a l o n refl t3 (dozed w (stood w i l) i a l o n t2) (λ _ h _ _. inl (owes_here w i a l w.reader_count iv e y h))) k

  pub w3_tends_more : (w.at i).standing ≡ W3 → (w.reader_count ≡ 0 → ⊥) → Tended (stood w i W8)
  w3_tends_more e d = looks W3 W8 e refl refl refl refl refl (look_counted d)

  pub e8_tends_more : (w.at i).standing ≡ E8 → (w.reader_count ≡ 0 → ⊥) → Tended (stood w i I)
  e8_tends_more e d = looks E8 I e refl refl refl refl refl (look_counted d)

  pub e8_tends_zero : (w.at i).standing ≡ E8 → Tended (stood w i E9)
  e8_tends_zero e =
      let o = row_of e in
      let n = here w i E9 w.reader_count in
      looks E8 E9 e refl refl refl refl refl (look_same w (stood w i E9) i E8 E9 o n refl refl refl (λ x _ h. elim h [
        | inl b ↦ absurd (both_ways _ o.looking b)
        | inr b ↦ inr (n.asking, alter.to_here w i (relabelled (w.at i) E9) w.reader_count (λ r. r.w ≡ Some x) i refl b.1)
      ]))

  pub e9_tends_other : (w.at i).standing ≡ E9 → (x : ℕ) → (w.at i).w ≡ Some x → (w.next_writer ≡ Some x → ⊥) → Tended (stood w i I)
  e9_tends_other e x y d =
      let o = row_of e in
      looks E9 I e refl refl refl refl refl (look_same w (stood w i I) i E9 I o (here w i I w.reader_count) refl refl refl (λ z q h. elim h [
        | inl b ↦ absurd (both_ways _ o.looking b)
        | inr b ↦ absurd (d (q ∙ sym b.1 ∙ y))
      ]))

  -- at E7 the register w is written as well
  fetch : (l : Standing) (x : Option ℕ) → (w.at i).standing ≡ E7 → owing_still E7 l ≡ true → no (is.is_awaited l) ≡ true → no (is.is_dozing l) ≡ true → (Row ((altered w i (keeping (relabelled (w.at i) l) x) w.reader_count).at i).standing l → Look w (altered w i (keeping (relabelled (w.at i) l) x) w.reader_count) i) → Tended (altered w i (keeping (relabelled (w.at i) l) x) w.reader_count)
  fetch l x e y t0 t1 k =
      let r = keeping (relabelled (w.at i) l) x in
      let v = altered w i r w.reader_count in
      let o = row_of e in
      let n : Row (v.at i).standing l = row_of (ap (λ z. z.standing) (alter.here w i r w.reader_count)) in
      tended w v i g (fetches w i l x w.reader_count) (follow w v i E7 l o n refl refl t0) (mind w v i E7 l o n refl refl (dozed w v i E7 l o n t1) (λ _ h _ _. inl (alter.to_here w i r w.reader_count (λ z. owes z ≡ true) i refl (still_owes w i E7 l iv e y h)))) (k n)

  pub e7_tends_none : (w.at i).standing ≡ E7 → w.next_writer ≡ None → Tended (altered w i (keeping (relabelled (w.at i) I) None) w.reader_count)
  e7_tends_none e q = fetch I None e refl refl refl (λ _. look_unnamed q)

  pub e7_tends_some : (w.at i).standing ≡ E7 → (x : ℕ) → w.next_writer ≡ Some x → Tended (altered w i (keeping (relabelled (w.at i) E8) (Some x)) w.reader_count)
  e7_tends_some e x q =
      let r = keeping (relabelled (w.at i) E8) (Some x) in
      fetch E8 (Some x) e refl refl refl (λ n. look_same w (altered w i r w.reader_count) i E7 E8 (row_of e) n refl refl refl (λ y z _. inr (n.asking, alter.to_here w i r w.reader_count (λ b. b.w ≡ Some y) i refl (sym q ∙ z))))
