-- Every call, step and finish leaves every hand-over tended.
use Rattle.std.proofs.Common.{◌≡◌, ℕ, ◌-◌, ◌⊎◌, sym, refl, ◌∙◌, subst, inl, inr, arith}
use Rattle.std.proofs.lemmas.Bool.{both_ways}
use Rattle.std.proofs.lemmas.Option.{none-some}
use Rattle.lock.specs.declared.words.Class.TheVariants.{Reading, Writing}
use Rattle.queue_words.specs.declared.record.Successor.TheVariants.{Reader, Writer}
use Rattle.queue_words.specs.declared.standing.Standing.{Standing}
use Rattle.queue_words.specs.declared.standing.Standing.TheVariants.{I, W1, W2, W3, W4, W6, W7, W8, WriterH, V1, V2, V3, V4, V5, V6, R1, R2, R3, R4, R5, R6, R7, R8, R9, R10, R11, R12, R13, ReaderH, E1, E2, E3, E4, E5, E6, E7}
use Rattle.queue_lock.specs.Config.{Config}
use Rattle.queue_lock.specs.Invariant.{Inv}
use Rattle.queue_lock.specs.Tended.{Tended}
use Rattle.queue_lock.specs.Calm.{moves, stays, counts, still_owes}
use Rattle.queue_lock.specs.Finish.{finished}
use Rattle.queue_lock.specs.Freed.{w5_tends, r9_tends}
use Rattle.queue_lock.specs.Handed.{marks, wakes_next, e10_tends, w7_tends, r5_tends, r8_tends}
use Rattle.queue_lock.specs.Watching.{w3_tends_more, e7_tends_none, e7_tends_some, e8_tends_zero, e8_tends_more, e9_tends_other}
use Rattle.queue_lock.specs.Minded.{owe}
use Rattle.queue_lock.specs.Naming.{w2_tends, w4_tends_named, w4_tends_other, e5_tends, e9_tends_named}
use Rattle.queue_lock.specs.Rows.{row, row_of}
use Rattle.queue_lock.specs.Safety.{fresh}
use Rattle.queue_lock.specs.Tails.{arrives, leaves}
use Rattle.queue_lock.specs.Turn.{Turn, stood, w1_first, w1_behind, w2, w3_zero, w3_more, w4_named, w4_other, w5, w6, w7, w8_on, w8_off, v1_none, v1_some, v2_tail, v2_other, v3_none, v3_some, v4_reads, v4_writes, v5, v6, r1_first, r1_behind, r2, r3_reads, r3_writes, r4_done, r4_other, r5, r6_on, r6_off, r7, r8, r9, r10_reader, r10_other, r11_none, r11_some, r12, r13, e1_none, e1_some, e2_tail, e2_other, e3_none, e3_some, e4_writer, e4_other, e5, e6_last, e6_more, e7_none, e7_some, e8_zero, e8_more, e9_named, e9_other, e10}

-- a step whose end is written out
ends : {u v : Config} → v ≡ u → Tended u → Tended v
ends q h = subst Tended (sym q) h

module _ (w : Config) (i : ℕ) (iv : Inv w) (g : Tended w) where
  -- no reader is noted behind it: it has nobody to wake before it holds
  r10_holds : (w.at i).standing ≡ R10 → ((w.at i).state.successor ≡ Reader → ⊥) → Tended (stood w i ReaderH)
  r10_holds e d = moves w i R10 ReaderH w.reader_count iv g e (owe (w.at i) R10 ReaderH (row_of e) (λ _. refl) (λ _ s. absurd (d s)) (λ _ _. refl)) inl refl

  -- no writer is noted behind it: it has nobody to name
  e4_goes : (w.at i).standing ≡ E4 → ((w.at i).state.successor ≡ Writer → ⊥) → Tended (stood w i E6)
  e4_goes e d = moves w i E4 E6 w.reader_count iv g e (owe (w.at i) E4 E6 (row_of e) (λ _. refl) (λ _ _. refl) (λ _ s. absurd (d s))) inl refl

pub turn_tends : (w v : Config) (i : ℕ) → Inv w → Tended w → Turn w i v → Tended v
turn_tends w v i iv g (w1_first e t q) = ends q (arrives w i W1 W2 Writing iv g e (λ p z. absurd (none-some _ (sym t ∙ z))) refl)
turn_tends w v i iv g (w1_behind e p t q) = ends q (arrives w i W1 W6 Writing iv g e (λ _ _. refl) refl)
turn_tends w v i iv g (w2 e q) = ends q (w2_tends w i iv g e)
turn_tends w v i iv g (w3_zero e z q) = ends q (stays w i W3 W4 iv g e refl refl)
turn_tends w v i iv g (w3_more e z q) = ends q (w3_tends_more w i iv g e z)
turn_tends w v i iv g (w4_named e z q) = ends q (w4_tends_named w i iv g e)
turn_tends w v i iv g (w4_other e z q) = ends q (w4_tends_other w i iv g e z)
turn_tends w v i iv g (w5 e q) = ends q (w5_tends w i iv g e)
turn_tends w v i iv g (w6 e p b q) = ends q (marks w i W6 W7 iv g e p Writer ((iv.behind i p (row_of e).unlinked b).plain (row_of e).plain) refl refl)
turn_tends w v i iv g (w7 e p b q) = ends q (w7_tends w i iv g p b e)
turn_tends w v i iv g (w8_on e b q) = ends q g
turn_tends w v i iv g (w8_off e b q) = ends q (stays w i W8 WriterH iv g e refl refl)
turn_tends w v i iv g (v1_none e m q) = ends q (stays w i V1 V2 iv g e refl refl)
turn_tends w v i iv g (v1_some e n m q) = ends q (stays w i V1 V3 iv g e refl refl)
turn_tends w v i iv g (v2_tail e t q) = ends q (leaves w i V2 I iv g e t refl refl refl refl refl refl refl)
turn_tends w v i iv g (v2_other e t q) = ends q (stays w i V2 V3 iv g e refl refl)
turn_tends w v i iv g (v3_none e m q) = ends q g
turn_tends w v i iv g (v3_some e n m q) = ends q (stays w i V3 V4 iv g e refl refl)
turn_tends w v i iv g (v4_reads e n m c q) = ends q (stays w i V4 V5 iv g e refl refl)
turn_tends w v i iv g (v4_writes e n m c q) = ends q (stays w i V4 V6 iv g e refl refl)
turn_tends w v i iv g (v5 e q) = ends q (counts w i V5 V6 iv g e refl refl)
turn_tends w v i iv g (v6 e n m q) = ends q (wakes_next w i I n V6 iv g e m refl)
turn_tends w v i iv g (r1_first e t q) = ends q (arrives w i R1 R2 Reading iv g e (λ p z. absurd (none-some _ (sym t ∙ z))) refl)
turn_tends w v i iv g (r1_behind e p t q) = ends q (arrives w i R1 R3 Reading iv g e (λ _ _. refl) refl)
turn_tends w v i iv g (r2 e q) = ends q (counts w i R2 R9 iv g e refl refl)
turn_tends w v i iv g (r3_reads e p b c q) = ends q (stays w i R3 R4 iv g e refl refl)
turn_tends w v i iv g (r3_writes e p b c q) = ends q (stays w i R3 R5 iv g e refl refl)
turn_tends w v i iv g (r4_done e p b c s q) = ends q (marks w i R4 R5 iv g e p Reader s refl refl)
turn_tends w v i iv g (r4_other e p b c q) = ends q (stays w i R4 R7 iv g e refl refl)
turn_tends w v i iv g (r5 e p b q) = ends q (r5_tends w i iv g p b e)
turn_tends w v i iv g (r6_on e b q) = ends q g
turn_tends w v i iv g (r6_off e b q) = ends q (stays w i R6 R10 iv g e refl refl)
turn_tends w v i iv g (r7 e q) = ends q (counts w i R7 R8 iv g e refl refl)
turn_tends w v i iv g (r8 e p b q) = ends q (r8_tends w i iv g p b e)
turn_tends w v i iv g (r9 e q) = ends q (r9_tends w i iv g e)
turn_tends w v i iv g (r10_reader e s q) = ends q (stays w i R10 R11 iv g e refl refl)
turn_tends w v i iv g (r10_other e s q) = ends q (r10_holds w i iv g e s)
turn_tends w v i iv g (r11_none e m q) = ends q g
turn_tends w v i iv g (r11_some e n m q) = ends q (stays w i R11 R12 iv g e refl refl)
turn_tends w v i iv g (r12 e q) = ends q (counts w i R12 R13 iv g e refl refl)
turn_tends w v i iv g (r13 e n m q) = ends q (wakes_next w i ReaderH n R13 iv g e m refl)
turn_tends w v i iv g (e1_none e m q) = ends q (stays w i E1 E2 iv g e refl refl)
turn_tends w v i iv g (e1_some e n m q) = ends q (stays w i E1 E3 iv g e refl refl)
turn_tends w v i iv g (e2_tail e t q) = ends q (leaves w i E2 E6 iv g e t refl refl refl refl refl refl refl)
turn_tends w v i iv g (e2_other e t q) = ends q (stays w i E2 E3 iv g e refl refl)
turn_tends w v i iv g (e3_none e m q) = ends q g
turn_tends w v i iv g (e3_some e n m q) = ends q (stays w i E3 E4 iv g e refl refl)
turn_tends w v i iv g (e4_writer e s q) = ends q (stays w i E4 E5 iv g e refl refl)
turn_tends w v i iv g (e4_other e s q) = ends q (e4_goes w i iv g e s)
turn_tends w v i iv g (e5 e n m q) = ends q (e5_tends w i iv g e n m)
turn_tends w v i iv g (e6_last e z q) = ends q (moves w i E6 E7 (w.reader_count - 1) iv g e (still_owes w i E6 E7 iv e refl) (λ _. inr (row E7).looking) refl)
turn_tends w v i iv g (e6_more e z q) = ends q (moves w i E6 I (w.reader_count - 1) iv g e (still_owes w i E6 I iv e refl) (λ h. inl (omega arith)) refl)
turn_tends w v i iv g (e7_none e z q) = ends q (e7_tends_none w i iv g e z)
turn_tends w v i iv g (e7_some e x z q) = ends q (e7_tends_some w i iv g e x z)
turn_tends w v i iv g (e8_zero e z q) = ends q (e8_tends_zero w i iv g e)
turn_tends w v i iv g (e8_more e z q) = ends q (e8_tends_more w i iv g e z)
turn_tends w v i iv g (e9_named e x b z q) = ends q (e9_tends_named w i iv g e x b z)
turn_tends w v i iv g (e9_other e x b z q) = ends q (e9_tends_other w i iv g e x b z)
turn_tends w v i iv g (e10 e x b q) = ends q (e10_tends w i iv g e x b)

-- a call only says that the slot is called
pub call_tends : (w : Config) (i : ℕ) (s : Standing) → (s ≡ W1) ⊎ (s ≡ R1) → Inv w → Tended w → (w.at i).standing ≡ I → Tended (stood w i s)
call_tends w i s (inl z) iv g e = subst (λ l. Tended (stood w i l)) (sym z) (stays w i I W1 iv g e refl refl)
call_tends w i s (inr z) iv g e = subst (λ l. Tended (stood w i l)) (sym z) (stays w i I R1 iv g e refl refl)

-- no clause reads the line
unlined : (w : Config) (i : ℕ) (l : Standing) → Tended (stood w i l) → Tended (finished w i l)
unlined w i l h = record { followed = h.followed; minded = h.minded; looked_after = h.looked_after }

pub reader_finish_tends : (w : Config) (i : ℕ) → Inv w → Tended w → (w.at i).standing ≡ ReaderH → Tended (finished w i E1)
reader_finish_tends w i iv g e = unlined w i E1 (stays w i ReaderH E1 iv g e refl refl)

pub writer_finish_tends : (w : Config) (i : ℕ) → Inv w → Tended w → (w.at i).standing ≡ WriterH → Tended (finished w i V1)
writer_finish_tends w i iv g e = unlined w i V1 (stays w i WriterH V1 iv g e refl refl)

pub fresh_tended : Tended fresh
fresh_tended = let n = row I in record {
  followed = λ p h. absurd (both_ways _ n.awaited h);
  minded = λ s h. absurd (both_ways _ n.dozing h);
  looked_after = λ x q. absurd (none-some x q);
}
