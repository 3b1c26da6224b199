-- Each move of a slot keeps the invariant of the words and the line.
use Rattle.std.proofs.Common.{◌≡◌, ℕ, ◌<◌, ◌≤◌, true, false, ◌⊎◌, List, [], length, Some, sym, refl, ap, subst, inl, inr}
use mathlib.Core.Logic.{∥∥₁_map, ∥∥₁_elim}
use native.Mathlib.Bridge.{le_prop}
use Rattle.std.proofs.lemmas.Bool.{both_ways, eq-eqb, ne_eqb}
use Rattle.lock.specs.Line.{arrives, without}
use Rattle.lock.specs.Meaning.{steps_from}
use Rattle.lock.specs.declared.words.Class.{Class}
use Rattle.lock.specs.declared.words.Class.TheVariants.{Reading, Writing}
use Rattle.lock.specs.declared.words.Phase.TheVariants.{Idle, Holds}
use Rattle.queue_words.proofs.Some.{some_at}
use Rattle.queue_words.specs.Bar.{asks, asks_for, barred}
use Rattle.queue_words.specs.Records.{relabelled}
use Rattle.queue_words.specs.Steps.{slot, stands_at, stand, called_standing, finished_standing, stepped, called, finished, fresh_words}
use Rattle.queue_words.specs.declared.standing.Standing.{Standing}
use Rattle.queue_words.specs.declared.standing.Standing.TheVariants.{I, W1, R1, E1, V1, ReaderH, WriterH}
use Rattle.queue_words.specs.declared.words.Words.{Words}
use Rattle.queue_lock.specs.Config.{Full, Config, config}
use Rattle.queue_lock.specs.Invariant.{Inv}
use Rattle.queue_lock.specs.Sets as is
use Rattle.queue_lock.specs.Lock.{phases, bars}
use Rattle.queue_lock.specs.Tended.{Sound, Keeps}
use Rattle.queue_lock.specs.CallWrite as call-write
use Rattle.queue_lock.specs.Facts as fact
use Rattle.queue_lock.specs.Finish as finish
use Rattle.queue_lock.specs.Fullness.{full_step}
use Rattle.queue_lock.specs.FinishWriter as finish-writer
use Rattle.queue_lock.specs.Kept.{turn_keeps, call_reads_keeps}
use Rattle.queue_lock.specs.PlacesInLine.{distinct_le}
use Rattle.queue_lock.specs.Rows.{row, row_of}
use Rattle.queue_lock.specs.Safety.{fresh_inv}
use Rattle.queue_lock.specs.Standings.{idle_is, holds_is, asking_asks}
use Rattle.queue_lock.specs.Tending.{turn_tends, call_tends, reader_finish_tends, writer_finish_tends, fresh_tended}
use Rattle.queue_lock.specs.Turns.{turns}
use Rattle.queue_lock.specs.View.{full_put, stands, starts}

pub keeps_stepped : (w : Words) (l : List ℕ) (i : ℕ) → Keeps w l → i < 32 → steps_from (phases w i) (Unit {0}) ⊥ → Keeps (stepped w i) (arrives (phases w i) i l)
keeps_stepped w l i h lt m = record {
  full = full_step w i h.full;
  sound = ∥∥₁_map h.sound (λ v.
      let t = turns w l i h.full lt v.0 m in
      let k = turn_keeps (config w l) (config (stepped w i) (arrives (phases w i) i l)) i lt v.0 t in
      (k, turn_tends (config w l) (config (stepped w i) (arrives (phases w i) i l)) i v.0 v.1 t));
}

-- slot t asks for slot i
asked : (w : Words) (i t : ℕ) → (t ≡ i → ⊥) → asks (stands_at w t) ≡ true → (slot w t).w ≡ Some i → asks_for w i t ≡ true
asked w i t d a q = rw (ne_eqb t i d, a, q) (eq-eqb i i refl)

-- a slot that is not barred is no asking slot's w
unbarred : (w : Words) (l : List ℕ) (i : ℕ) → Inv (config w l) → stands_at w i ≡ I → barred w i ≡ false → (t : ℕ) → is.asking ((config w l).at t).standing ≡ true → ((config w l).at t).w ≡ Some i → ⊥
unbarred w l i v e b t h q =
    let d : t ≡ i → ⊥ = λ z. both_ways _ (row_of e).asking (subst (λ x. is.asking ((config w l).at x).standing ≡ true) z h) in
    both_ways _ b (some_at (asks_for w i) 32 t (fact.near (config w l) v is.asking (row I).asking t h) (asked w i t d (asking_asks _ h) q))

called_keeps : {w : Words} {l : List ℕ} → Keeps w l → (i : ℕ) (c : Class) → i < 32 → stands_at w i ≡ I → (c ≡ Writing → barred w i ≡ false) → Keeps (stand w i (called_standing I c)) l
called_keeps {w} {l} h i Reading lt e b = record {
  full = full_put w i (relabelled (slot w i) R1) h.full;
  sound = subst Sound (sym (stands w l i R1 h.full lt)) (∥∥₁_map h.sound (λ v. (call_reads_keeps (config w l) i lt v.0 e, call_tends (config w l) i R1 (inr refl) v.0 v.1 e)));
}
called_keeps {w} {l} h i Writing lt e b = record {
  full = full_put w i (relabelled (slot w i) W1) h.full;
  sound = subst Sound (sym (stands w l i W1 h.full lt)) (∥∥₁_map h.sound (λ v. (call-write.kept (config w l) i v.0 lt e (unbarred w l i v.0 e (b refl)), call_tends (config w l) i W1 (inl refl) v.0 v.1 e)));
}

pub keeps_called : (w : Words) (l : List ℕ) (i : ℕ) (c : Class) → Keeps w l → i < 32 → phases w i ≡ Idle → (c ≡ Writing → bars w i ≡ false) → Keeps (called w i c) l
keeps_called w l i c h lt e b =
    let z = idle_is (stands_at w i) e in
    subst (λ s. Keeps (stand w i (called_standing s c)) l) (sym z) (called_keeps h i c lt z b)

-- the configuration after a finish, which takes the slot out of line
quits : (w : Words) (l : List ℕ) (i : ℕ) (s : Standing) → Full w → i < 32 → config (stand w i s) (without i l) ≡ finish.finished (config w l) i s
quits w l i s f lt = ap {B = Config} (λ m. record { at = m.at; tail = m.tail; next_writer = m.next_writer; reader_count = m.reader_count; line = without i l }) (stands w l i s f lt)

finished_keeps : {w : Words} {l : List ℕ} → Keeps w l → (i : ℕ) → i < 32 → (stands_at w i ≡ ReaderH) ⊎ (stands_at w i ≡ WriterH) → Keeps (finished w i) (without i l)
finished_keeps {w} {l} h i lt (inl e) = subst (λ s. Keeps (stand w i (finished_standing s)) (without i l)) (sym e) (record {
  full = full_put w i (relabelled (slot w i) E1) h.full;
  sound = subst Sound (sym (quits w l i E1 h.full lt)) (∥∥₁_map h.sound (λ v. (finish.kept (config w l) i v.0 lt e ((v.0.own i).reading (row_of e).reading), reader_finish_tends (config w l) i v.0 v.1 e)));
})
finished_keeps {w} {l} h i lt (inr e) = subst (λ s. Keeps (stand w i (finished_standing s)) (without i l)) (sym e) (record {
  full = full_put w i (relabelled (slot w i) V1) h.full;
  sound = subst Sound (sym (quits w l i V1 h.full lt)) (∥∥₁_map h.sound (λ v. (finish-writer.kept (config w l) i v.0 lt e ((v.0.own i).writing (row_of e).writing), writer_finish_tends (config w l) i v.0 v.1 e)));
})

pub keeps_finished : (w : Words) (l : List ℕ) (i : ℕ) → Keeps w l → i < 32 → phases w i ≡ Holds → Keeps (finished w i) (without i l)
keeps_finished w l i h lt e = finished_keeps h i lt (holds_is (stands_at w i) e)

pub keeps_begun : Keeps fresh_words []
keeps_begun = record { full = refl; sound = subst Sound (sym starts) ∣ (fresh_inv, fresh_tended) ∣₁ }

-- a line of slots has at most 32
pub keeps_few : (w : Words) (l : List ℕ) → Keeps w l → length l ≤ 32
keeps_few w l h = ∥∥₁_elim h.sound le_prop (λ v. distinct_le 32 l v.0.distinct (λ x k. fact.near (config w l) v.0 is.lining (row I).lining x (fact.lined (config w l) v.0 x k)))
