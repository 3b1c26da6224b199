-- Steps that write the tail: a called slot arrives, a leaving slot takes itself off.
use Rattle.std.proofs.Common.{◌≡◌, ℕ, Bool, true, false, cond, ◌&&◌, Some, refl, ap, inl, inr}
use Rattle.std.proofs.lemmas.Bool.{both_ways, and_parts}
use Rattle.lock.specs.declared.words.Class.{Class}
use Rattle.queue_words.specs.Records.{filled}
use Rattle.queue_words.specs.declared.record.Record.{Record}
use Rattle.queue_words.specs.declared.standing.Standing.{Standing}
use Rattle.queue_lock.specs.Sets as is
use Rattle.queue_lock.specs.Config.{Config}
use Rattle.queue_lock.specs.Invariant.{Inv, owes}
use Rattle.queue_lock.specs.Tended.{Tended}
use Rattle.queue_lock.specs.Alter as alter
use Rattle.queue_lock.specs.Arrive.{arrived}
use Rattle.queue_lock.specs.Calm.{tended, here}
use Rattle.queue_lock.specs.Followed.{follow_arrive, follow_untail}
use Rattle.queue_lock.specs.Untouched.{one, stands}
use Rattle.queue_lock.specs.LookedAfter.{look}
use Rattle.queue_lock.specs.Minded.{mind, dozed}
use Rattle.queue_lock.specs.Name.{untailed}
use Rattle.queue_lock.specs.Rows.{Row, row_of}
use Rattle.queue_lock.specs.Shares.{owing_by}
use Rattle.queue_lock.specs.Tested.{no, lacks}
use Rattle.queue_lock.specs.Turn.{stood}

-- at the standing a a slot has been called and does nothing yet; at the standing l it does not wait to be woken
abbrev pub called : Standing → Standing → Bool
called a l = no (is.is_owing_w a) && (no (is.is_owing_r a) && (no (is.is_owing_n a) && (no (is.is_awaited a) && (no (is.is_unlinked a) && (no (is.is_waking a) && (no (is.is_looking a) && (no (is.is_asking a) && (no (is.is_waiting a) && no (is.is_dozing l)))))))))

called_owes : (e : Record) (a : Standing) → Row e.standing a → no (is.is_owing_w a) ≡ true → no (is.is_owing_r a) ≡ true → no (is.is_owing_n a) ≡ true → owes e ≡ true → ⊥
called_owes e a o x y z h = owing_by e.class e.state.successor e.standing h ⊥ (λ _ q. lacks o.owing_w x q) (λ _ _ q. lacks o.owing_r y q) (λ _ _ q. lacks o.owing_n z q)

not_so : (x y : Bool) → no x ≡ true → cond x y true ≡ true
not_so true y t = absurd (both_ways false refl t)
not_so false y t = refl

-- slot i arrives at the standing l, unlinked where there is a tail
pub arrives : (w : Config) (i : ℕ) (a l : Standing) (c : Class) → Inv w → Tended w → (w.at i).standing ≡ a → ((p : ℕ) → w.tail ≡ Some p → is.is_unlinked l ≡ true) → called a l ≡ true → Tended (arrived w i (filled (w.at i) l c w.tail))
arrives w i a l c iv g e u t =
    let b0 = and_parts _ _ t in
    let b1 = and_parts _ _ b0.1 in
    let b2 = and_parts _ _ b1.1 in
    let b3 = and_parts _ _ b2.1 in
    let b4 = and_parts _ _ b3.1 in
    let b5 = and_parts _ _ b4.1 in
    let b6 = and_parts _ _ b5.1 in
    let b7 = and_parts _ _ b6.1 in
    let b8 = and_parts _ _ b7.1 in
    let x = filled (w.at i) l c w.tail in
    let v = arrived w i x in
    let o = row_of e in
    let n : Row (v.at i).standing l = row_of (ap (λ r. r.standing) (alter.here w i x w.reader_count)) in
    let free = called_owes (w.at i) a o b0.0 b1.0 b2.0 in
    tended w v i g
    (one w i x w.reader_count (λ h. elim h [ inl q ↦ absurd (lacks o.awaited b3.0 q) | inr q ↦ absurd (free q) ]))
    (follow_arrive w v i a l o n refl (alter.to_here w i x w.reader_count (λ r. r.pred ≡ w.tail) i refl refl) b4.0 u)
    (mind w v i a l o n refl b5.0 (λ h _. absurd (lacks n.dozing b8.1 h)) (λ _ h _ _. absurd (free h)))
    (look w v i a l o n iv refl inl (not_so _ _ b8.0) b6.0 b7.0)

-- the tail has no next, so that it owes nobody when it takes itself off
pub leaves : (w : Config) (i : ℕ) (a l : Standing) → Inv w → Tended w → (w.at i).standing ≡ a → w.tail ≡ Some i → no (is.is_awaited l) ≡ true → no (is.is_unlinked a) ≡ true → cond (is.is_dozing l) (is.is_dozing a) true ≡ true → no (is.is_waking a) ≡ true → no (is.is_waiting a) ≡ true → no (is.is_looking a) ≡ true → no (is.is_asking a) ≡ true → Tended (untailed (stood w i l))
leaves w i a l iv g e q t0 t1 t2 t3 t4 t5 t6 =
    let v = untailed (stood w i l) in
    let o = row_of e in
    let n = here w i l w.reader_count in
    tended w v i g (stands w i l w.reader_count) (follow_untail w v i a l o n q t1 t0)
    (mind w v i a l o n refl t3 (dozed w v i a l o n t2) (λ s _ z _. absurd (cc ((iv.tailed i q).next, z))))
    (look w v i a l o n iv refl inl (not_so _ _ t4) t5 t6)
