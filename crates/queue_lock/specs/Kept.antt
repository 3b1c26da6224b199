-- Every step of a slot, and the call to read, keeps the invariant.
use Rattle.std.specs.Prelude.{is_some}
use Rattle.std.proofs.Common.{◌≡◌, ℕ, ◌<◌, sym, refl, ap, subst}
use Rattle.queue_words.specs.declared.standing.Standing.TheVariants.{I, R1}
use Rattle.queue_lock.specs.Config.{Config}
use Rattle.queue_lock.specs.Invariant.{Inv}
use Rattle.queue_lock.specs.Counting as counting
use Rattle.queue_lock.specs.E10 as at-e10
use Rattle.queue_lock.specs.E2 as at-e2
use Rattle.queue_lock.specs.E5 as at-e5
use Rattle.queue_lock.specs.E7 as at-e7
use Rattle.queue_lock.specs.E8 as at-e8
use Rattle.queue_lock.specs.E9 as at-e9
use Rattle.queue_lock.specs.Looks as looks
use Rattle.queue_lock.specs.R13 as at-r13
use Rattle.queue_lock.specs.R2 as at-r2
use Rattle.queue_lock.specs.R4 as at-r4
use Rattle.queue_lock.specs.R5 as at-r5
use Rattle.queue_lock.specs.R8 as at-r8
use Rattle.queue_lock.specs.R9 as at-r9
use Rattle.queue_lock.specs.Rows.{row, row_of}
use Rattle.queue_lock.specs.Turn.{Turn, stood, w1_first, w1_behind, w2, w3_zero, w3_more, w4_named, w4_other, w5, w6, w7, w8_on, w8_off, v1_none, v1_some, v2_tail, v2_other, v3_none, v3_some, v4_reads, v4_writes, v5, v6, r1_first, r1_behind, r2, r3_reads, r3_writes, r4_done, r4_other, r5, r6_on, r6_off, r7, r8, r9, r10_reader, r10_other, r11_none, r11_some, r12, r13, e1_none, e1_some, e2_tail, e2_other, e3_none, e3_some, e4_writer, e4_other, e5, e6_last, e6_more, e7_none, e7_some, e8_zero, e8_more, e9_named, e9_other, e10}
use Rattle.queue_lock.specs.V2 as at-v2
use Rattle.queue_lock.specs.V6 as at-v6
use Rattle.queue_lock.specs.W1 as at-w1
use Rattle.queue_lock.specs.W2 as at-w2
use Rattle.queue_lock.specs.W3 as at-w3
use Rattle.queue_lock.specs.W4 as at-w4
use Rattle.queue_lock.specs.W5 as at-w5
use Rattle.queue_lock.specs.W6 as at-w6
use Rattle.queue_lock.specs.W7 as at-w7
use Rattle.queue_lock.specs.W8 as at-w8

pub call_reads_keeps : (w : Config) (i : ℕ) → i < 32 → Inv w → (w.at i).standing ≡ I → Inv (stood w i R1)
call_reads_keeps w i lt v e = looks.goes w i I R1 v (row_of e) (row R1) lt refl refl refl

-- the form that a step gives
formed : (v f : Config) → v ≡ f → Inv f → Inv v
formed v f z k = subst Inv (sym z) k

pub turn_keeps : (w v : Config) (i : ℕ) → i < 32 → Inv w → Turn w i v → Inv v
turn_keeps w v i lt u (w1_first e q z) = formed v _ z (at-w1.writer_first w i u lt e q)
turn_keeps w v i lt u (w1_behind e p q z) = formed v _ z (at-w1.writer_behind w i u lt e (ap is_some q))
turn_keeps w v i lt u (w2 e z) = formed v _ z (at-w2.kept w i u lt e)
turn_keeps w v i lt u (w3_zero e q z) = formed v _ z (at-w3.kept_0 w i u lt e q)
turn_keeps w v i lt u (w3_more e q z) = formed v _ z (at-w3.kept_other w i u lt e)
turn_keeps w v i lt u (w4_named e q z) = formed v _ z (at-w4.kept_named w i u lt e q)
turn_keeps w v i lt u (w4_other e q z) = formed v _ z (at-w4.kept_other w i u lt e)
turn_keeps w v i lt u (w5 e z) = formed v _ z (at-w5.kept w i u lt e)
turn_keeps w v i lt u (w6 e p q z) = formed v _ z (at-w6.kept w i u lt e p q)
turn_keeps w v i lt u (w7 e p q z) = formed v _ z (at-w7.kept w i u lt e p q)
turn_keeps w v i lt u (w8_on e b z) = formed v _ z u
turn_keeps w v i lt u (w8_off e b z) = formed v _ z (at-w8.kept w i u lt e b)
turn_keeps w v i lt u (v1_none e q z) = formed v _ z (looks.v1_none w i u lt e)
turn_keeps w v i lt u (v1_some e n q z) = formed v _ z (looks.v1_some w i u lt e n q)
turn_keeps w v i lt u (v2_tail e q z) = formed v _ z (at-v2.kept w i u lt e q)
turn_keeps w v i lt u (v2_other e q z) = formed v _ z (looks.v2_other w i u lt e q)
turn_keeps w v i lt u (v3_none e q z) = formed v _ z u
turn_keeps w v i lt u (v3_some e n q z) = formed v _ z (looks.v3_some w i u lt e n q)
turn_keeps w v i lt u (v4_reads e n q c z) = formed v _ z (looks.v4_reads w i u lt e n q c)
turn_keeps w v i lt u (v4_writes e n q c z) = formed v _ z (looks.v4_writes w i u lt e n q c)
turn_keeps w v i lt u (v5 e z) = formed v _ z (counting.v5 w i u lt e)
turn_keeps w v i lt u (v6 e n q z) = formed v _ z (at-v6.kept w i u lt e n q)
turn_keeps w v i lt u (r1_first e q z) = formed v _ z (at-w1.reader_first w i u lt e q)
turn_keeps w v i lt u (r1_behind e p q z) = formed v _ z (at-w1.reader_behind w i u lt e (ap is_some q))
turn_keeps w v i lt u (r2 e z) = formed v _ z (at-r2.kept w i u lt e)
turn_keeps w v i lt u (r3_reads e p q c z) = formed v _ z (looks.r3_reads w i u lt e p q c)
turn_keeps w v i lt u (r3_writes e p q c z) = formed v _ z (looks.r3_writes w i u lt e p q c)
turn_keeps w v i lt u (r4_done e p q b s z) = formed v _ z (at-r4.kept_done w i u lt e p q b)
turn_keeps w v i lt u (r4_other e p q d z) = formed v _ z (at-r4.kept_other w i u lt e p q d)
turn_keeps w v i lt u (r5 e p q z) = formed v _ z (at-r5.kept w i u lt e p q)
turn_keeps w v i lt u (r6_on e b z) = formed v _ z u
turn_keeps w v i lt u (r6_off e b z) = formed v _ z (looks.r6_off w i u lt e b)
turn_keeps w v i lt u (r7 e z) = formed v _ z (counting.r7 w i u lt e)
turn_keeps w v i lt u (r8 e p q z) = formed v _ z (at-r8.kept w i u lt e p q)
turn_keeps w v i lt u (r9 e z) = formed v _ z (at-r9.kept w i u lt e)
turn_keeps w v i lt u (r10_reader e q z) = formed v _ z (looks.r10_reader w i u lt e q)
turn_keeps w v i lt u (r10_other e q z) = formed v _ z (looks.r10_other w i u lt e q)
turn_keeps w v i lt u (r11_none e q z) = formed v _ z u
turn_keeps w v i lt u (r11_some e n q z) = formed v _ z (looks.r11_some w i u lt e n q)
turn_keeps w v i lt u (r12 e z) = formed v _ z (counting.r12 w i u lt e)
turn_keeps w v i lt u (r13 e n q z) = formed v _ z (at-r13.kept w i u lt e n q)
turn_keeps w v i lt u (e1_none e q z) = formed v _ z (looks.e1_none w i u lt e)
turn_keeps w v i lt u (e1_some e n q z) = formed v _ z (looks.e1_some w i u lt e n q)
turn_keeps w v i lt u (e2_tail e q z) = formed v _ z (at-e2.kept w i u lt e q)
turn_keeps w v i lt u (e2_other e q z) = formed v _ z (looks.e2_other w i u lt e q)
turn_keeps w v i lt u (e3_none e q z) = formed v _ z u
turn_keeps w v i lt u (e3_some e n q z) = formed v _ z (looks.e3_some w i u lt e n q)
turn_keeps w v i lt u (e4_writer e q z) = formed v _ z (looks.e4_writer w i u lt e q)
turn_keeps w v i lt u (e4_other e q z) = formed v _ z (looks.e4_other w i u lt e)
turn_keeps w v i lt u (e5 e n q z) = formed v _ z (at-e5.kept w i u lt e n q)
turn_keeps w v i lt u (e6_last e q z) = formed v _ z (counting.e6_last w i u lt e)
turn_keeps w v i lt u (e6_more e q z) = formed v _ z (counting.e6_more w i u lt e)
turn_keeps w v i lt u (e7_none e q z) = formed v _ z (at-e7.kept_none w i u lt e)
turn_keeps w v i lt u (e7_some e x q z) = formed v _ z (at-e7.kept_some w i u lt e x q)
turn_keeps w v i lt u (e8_zero e q z) = formed v _ z (at-e8.kept w i u lt e q)
turn_keeps w v i lt u (e8_more e q z) = formed v _ z (looks.e8_more w i u lt e)
turn_keeps w v i lt u (e9_named e x q y z) = formed v _ z (at-e9.kept w i u lt e x q y)
turn_keeps w v i lt u (e9_other e x q d z) = formed v _ z (looks.e9_other w i u lt e)
turn_keeps w v i lt u (e10 e x q z) = formed v _ z (at-e10.kept w i u lt e x q)
