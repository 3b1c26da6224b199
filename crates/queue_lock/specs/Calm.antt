-- A calm step: nobody arrives, links, wakes or is named. One computed test of the two standings.
use Rattle.std.proofs.Common.{◌≡◌, ℕ, ◌+◌, Bool, true, cond, ◌&&◌, ◌⊎◌, Some, refl, ap, ◌∙◌, inl, inr, arith}
use Rattle.std.proofs.lemmas.Bool.{and_parts}
use Rattle.queue_words.specs.Records.{relabelled}
use Rattle.queue_words.specs.declared.record.Record.{Record}
use Rattle.queue_words.specs.declared.standing.Standing.{Standing}
use Rattle.queue_lock.specs.Sets as is
use Rattle.queue_lock.specs.Config.{Config}
use Rattle.queue_lock.specs.Invariant.{Inv, owes}
use Rattle.queue_lock.specs.Tended.{Tended}
use Rattle.queue_lock.specs.Alter as alter
use Rattle.queue_lock.specs.Alter.{altered}
use Rattle.queue_lock.specs.Followed.{Follow, followed, follow}
use Rattle.queue_lock.specs.Untouched.{Keeps, Later, stands, touched, two}
use Rattle.queue_lock.specs.LookedAfter.{Look, looked_after, look}
use Rattle.queue_lock.specs.Minded.{Mind, minded, mind, dozed, owe_plain}
use Rattle.queue_lock.specs.Move.{moved}
use Rattle.queue_lock.specs.Rows.{Row, row_of}
use Rattle.queue_lock.specs.Tested.{no}
use Rattle.queue_lock.specs.Turn.{stood}

pub tended : (w v : Config) (i : ℕ) → Tended w → Keeps w.at v.at i → Follow w v i → Mind w v i → Look w v i → Tended v
tended w v i g k f m l = record { followed = followed w v i g k f; minded = minded w v i g k m; looked_after = looked_after w v i g k l }

-- slot i waits and links as before, and did not look
abbrev pub calm : Standing → Standing → Bool
calm a l = cond (is.is_unlinked a) (is.is_unlinked l) true && (cond (is.is_awaited l) (is.is_awaited a) true && (cond (is.is_dozing l) (is.is_dozing a) true && (no (is.is_waking a) && (cond (is.is_waiting a) (cond (is.is_sleeping_w l) (is.is_sleeping_w a) true) true && (no (is.is_looking a) && no (is.is_asking a))))))

-- slot i owes as before
abbrev pub owing_still : Standing → Standing → Bool
owing_still a l = cond (is.is_reading a) true (cond (is.is_owing_w a) (is.is_owing_w l) true) && (cond (is.is_writing a) true (cond (is.is_owing_r a) (is.is_owing_r l) true) && cond (is.is_writing a) true (cond (is.is_owing_n a) (is.is_owing_n l) true))

pub calm_step : (w v : Config) (i : ℕ) (a l : Standing) → Inv w → Tended w → Keeps w.at v.at i → Row (w.at i).standing a → Row (v.at i).standing l → v.tail ≡ w.tail → v.next_writer ≡ w.next_writer → ((s : ℕ) → owes (w.at i) ≡ true → (w.at i).next ≡ Some s → (v.at s).state.blocked ≡ true → (owes (v.at i) ≡ true) ⊎ (v.next_writer ≡ Some s)) → (v.reader_count ≡ 0 → (w.reader_count ≡ 0) ⊎ (is.looking (v.at i).standing ≡ true)) → calm a l ≡ true → Tended v
calm_step w v i a l iv g k o n t m f c z =
    let b0 = and_parts _ _ z in
    let b1 = and_parts _ _ b0.1 in
    let b2 = and_parts _ _ b1.1 in
    let b3 = and_parts _ _ b2.1 in
    let b4 = and_parts _ _ b3.1 in
    let b5 = and_parts _ _ b4.1 in
    tended w v i g k (follow w v i a l o n t b0.0 b1.0) (mind w v i a l o n m b3.0 (dozed w v i a l o n b2.0) f) (look w v i a l o n iv m c b4.0 b5.0 b5.1)

pub still_owes : (w : Config) (i : ℕ) (a l : Standing) → Inv w → (w.at i).standing ≡ a → owing_still a l ≡ true → owes (w.at i) ≡ true → owes (relabelled (w.at i) l) ≡ true
still_owes w i a l iv e z = let b0 = and_parts _ _ z in let b1 = and_parts _ _ b0.1 in owe_plain (w.at i) a l (row_of e) (iv.own i) b0.0 b1.0 b1.1

pub here : (w : Config) (i : ℕ) (l : Standing) (c : ℕ) → Row ((moved w i l c).at i).standing l
here w i l c = row_of (ap (λ x. x.standing) (alter.here w i (relabelled (w.at i) l) c))

pub owes_here : (w : Config) (i : ℕ) (a l : Standing) (c : ℕ) → Inv w → (w.at i).standing ≡ a → owing_still a l ≡ true → owes (w.at i) ≡ true → owes ((moved w i l c).at i) ≡ true
owes_here w i a l c iv e y q = alter.to_here w i (relabelled (w.at i) l) c (λ x. owes x ≡ true) i refl (still_owes w i a l iv e y q)

-- only the standing and the count change
module _ (w : Config) (i : ℕ) (a l : Standing) (c : ℕ) (iv : Inv w) (g : Tended w) (e : (w.at i).standing ≡ a) where
  pub moves : (owes (w.at i) ≡ true → owes (relabelled (w.at i) l) ≡ true) → (c ≡ 0 → (w.reader_count ≡ 0) ⊎ (is.looking l ≡ true)) → calm a l ≡ true → Tended (moved w i l c)
  moves f h z = calm_step w (moved w i l c) i a l iv g (stands w i l c) (row_of e) (here w i l c) refl refl
      (λ _ q _ _. inl (alter.to_here w i (relabelled (w.at i) l) c (λ x. owes x ≡ true) i refl (f q)))
      (λ q. elim (h q) [ inl y ↦ inl y | inr y ↦ inr (alter.to_here w i (relabelled (w.at i) l) c (λ x. is.looking x.standing ≡ true) i refl y) ])
      z

module _ (w : Config) (i : ℕ) (a l : Standing) (iv : Inv w) (g : Tended w) (e : (w.at i).standing ≡ a) where
  pub stays : owing_still a l ≡ true → calm a l ≡ true → Tended (stood w i l)
  stays y z = moves w i a l w.reader_count iv g e (still_owes w i a l iv e y) inl z

  pub counts : owing_still a l ≡ true → calm a l ≡ true → Tended (moved w i l (w.reader_count + 1))
  counts y z = moves w i a l (w.reader_count + 1) iv g e (still_owes w i a l iv e y) (λ q. absurd (omega arith)) z

-- slot p's record changes as well
module _ (w : Config) (i : ℕ) (l : Standing) (p : ℕ) (x : Record) (m : Later ((stood w i l).at p) x) where
  abbrev pub second : Config
  second = altered (stood w i l) p x w.reader_count

  pub second_keeps : Keeps w.at second.at i
  second_keeps = two (stood w i l) p x w.reader_count m (stands w i l w.reader_count)

  pub second_here : Row (second.at i).standing l
  second_here = row_of ((touched (stood w i l) p x w.reader_count m i).standing ∙ ap (λ y. y.standing) (alter.here w i (relabelled (w.at i) l) w.reader_count))

  pub second_owes : (a : Standing) → Inv w → (w.at i).standing ≡ a → owing_still a l ≡ true → owes (w.at i) ≡ true → owes (second.at i) ≡ true
  second_owes a iv e y q = (touched (stood w i l) p x w.reader_count m i).owing (owes_here w i a l w.reader_count iv e y q)
