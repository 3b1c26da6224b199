-- One step of a slot as a change of the configuration: one case for each standing and each way that the word just read sends
-- the slot. Proofs that go through all steps go by these cases.
use Rattle.std.specs.Prelude.{◌≡◌, ℕ, ◌+◌, ◌-◌, true, false, Some, None, ◌≢◌}
use Rattle.lock.specs.declared.words.Class.TheVariants.{Reading, Writing}
use Rattle.queue_words.specs.Records.{relabelled, freed, noted, linked, keeping, filled}
use Rattle.queue_words.specs.declared.record.Successor.{Successor}
use Rattle.queue_words.specs.declared.record.Successor.TheVariants.{Nobody, Reader, Writer}
use Rattle.queue_words.specs.declared.standing.Standing.{Standing}
use Rattle.queue_words.specs.declared.standing.Standing.TheVariants.{I, W1, W2, W3, W4, W5, W6, W7, W8, WriterH, V1, V2, V3, V4, V5, V6, R1, R2, R3, R4, R5, R6, R7, R8, R9, R10, R11, R12, R13, ReaderH, E1, E2, E3, E4, E5, E6, E7, E8, E9, E10}
use Rattle.queue_lock.specs.Config.{Config}
use Rattle.queue_lock.specs.Alter.{altered}
use Rattle.queue_lock.specs.Arrive.{arrived}
use Rattle.queue_lock.specs.Move.{moved}
use Rattle.queue_lock.specs.Name.{named, untailed}

-- the slot stands elsewhere
abbrev pub stood : Config → ℕ → Standing → Config
stood w i s = moved w i s w.reader_count

-- slot k's blocked goes off
abbrev pub waked : Config → ℕ → Config
waked w k = altered w k (freed (w.at k)) w.reader_count

-- slot p's successor class is written
abbrev pub marked : Config → ℕ → Successor → Config
marked w p s = altered w p (noted (w.at p) s) w.reader_count

-- slot p's next becomes i
abbrev pub joined : Config → ℕ → ℕ → Config
joined w p i = altered w p (linked (w.at p) i) w.reader_count

pub data Turn (w : Config) (i : ℕ) (v : Config) : Type 0 where
  w1_first : (w.at i).standing ≡ W1 → w.tail ≡ None → v ≡ arrived w i (filled (w.at i) W2 Writing w.tail) → Turn w i v
  w1_behind : (w.at i).standing ≡ W1 → (p : ℕ) → w.tail ≡ Some p → v ≡ arrived w i (filled (w.at i) W6 Writing w.tail) → Turn w i v
  w2 : (w.at i).standing ≡ W2 → v ≡ named (stood w i W3) (Some i) → Turn w i v
  w3_zero : (w.at i).standing ≡ W3 → w.reader_count ≡ 0 → v ≡ stood w i W4 → Turn w i v
  w3_more : (w.at i).standing ≡ W3 → (w.reader_count ≢ 0) → v ≡ stood w i W8 → Turn w i v
  w4_named : (w.at i).standing ≡ W4 → w.next_writer ≡ Some i → v ≡ named (stood w i W5) None → Turn w i v
  w4_other : (w.at i).standing ≡ W4 → (w.next_writer ≢ Some i) → v ≡ named (stood w i W8) None → Turn w i v
  w5 : (w.at i).standing ≡ W5 → v ≡ altered w i (freed (relabelled (w.at i) W8)) w.reader_count → Turn w i v
  w6 : (w.at i).standing ≡ W6 → (p : ℕ) → (w.at i).pred ≡ Some p → v ≡ marked (stood w i W7) p Writer → Turn w i v
  w7 : (w.at i).standing ≡ W7 → (p : ℕ) → (w.at i).pred ≡ Some p → v ≡ joined (stood w i W8) p i → Turn w i v
  w8_on : (w.at i).standing ≡ W8 → (w.at i).state.blocked ≡ true → v ≡ w → Turn w i v
  w8_off : (w.at i).standing ≡ W8 → (w.at i).state.blocked ≡ false → v ≡ stood w i WriterH → Turn w i v
  v1_none : (w.at i).standing ≡ V1 → (w.at i).next ≡ None → v ≡ stood w i V2 → Turn w i v
  v1_some : (w.at i).standing ≡ V1 → (n : ℕ) → (w.at i).next ≡ Some n → v ≡ stood w i V3 → Turn w i v
  v2_tail : (w.at i).standing ≡ V2 → w.tail ≡ Some i → v ≡ untailed (stood w i I) → Turn w i v
  v2_other : (w.at i).standing ≡ V2 → (w.tail ≢ Some i) → v ≡ stood w i V3 → Turn w i v
  v3_none : (w.at i).standing ≡ V3 → (w.at i).next ≡ None → v ≡ w → Turn w i v
  v3_some : (w.at i).standing ≡ V3 → (n : ℕ) → (w.at i).next ≡ Some n → v ≡ stood w i V4 → Turn w i v
  v4_reads : (w.at i).standing ≡ V4 → (n : ℕ) → (w.at i).next ≡ Some n → (w.at n).class ≡ Reading → v ≡ stood w i V5 → Turn w i v
  v4_writes : (w.at i).standing ≡ V4 → (n : ℕ) → (w.at i).next ≡ Some n → (w.at n).class ≡ Writing → v ≡ stood w i V6 → Turn w i v
  v5 : (w.at i).standing ≡ V5 → v ≡ moved w i V6 (w.reader_count + 1) → Turn w i v
  v6 : (w.at i).standing ≡ V6 → (n : ℕ) → (w.at i).next ≡ Some n → v ≡ waked (stood w i I) n → Turn w i v
  r1_first : (w.at i).standing ≡ R1 → w.tail ≡ None → v ≡ arrived w i (filled (w.at i) R2 Reading w.tail) → Turn w i v
  r1_behind : (w.at i).standing ≡ R1 → (p : ℕ) → w.tail ≡ Some p → v ≡ arrived w i (filled (w.at i) R3 Reading w.tail) → Turn w i v
  r2 : (w.at i).standing ≡ R2 → v ≡ moved w i R9 (w.reader_count + 1) → Turn w i v
  r3_reads : (w.at i).standing ≡ R3 → (p : ℕ) → (w.at i).pred ≡ Some p → (w.at p).class ≡ Reading → v ≡ stood w i R4 → Turn w i v
  r3_writes : (w.at i).standing ≡ R3 → (p : ℕ) → (w.at i).pred ≡ Some p → (w.at p).class ≡ Writing → v ≡ stood w i R5 → Turn w i v
  r4_done : (w.at i).standing ≡ R4 → (p : ℕ) → (w.at i).pred ≡ Some p → (w.at p).state.blocked ≡ true → (w.at p).state.successor ≡ Nobody → v ≡ marked (stood w i R5) p Reader → Turn w i v
  r4_other : (w.at i).standing ≡ R4 → (p : ℕ) → (w.at i).pred ≡ Some p → ((w.at p).state.blocked ≡ true → (w.at p).state.successor ≢ Nobody) → v ≡ stood w i R7 → Turn w i v
  r5 : (w.at i).standing ≡ R5 → (p : ℕ) → (w.at i).pred ≡ Some p → v ≡ joined (stood w i R6) p i → Turn w i v
  r6_on : (w.at i).standing ≡ R6 → (w.at i).state.blocked ≡ true → v ≡ w → Turn w i v
  r6_off : (w.at i).standing ≡ R6 → (w.at i).state.blocked ≡ false → v ≡ stood w i R10 → Turn w i v
  r7 : (w.at i).standing ≡ R7 → v ≡ moved w i R8 (w.reader_count + 1) → Turn w i v
  r8 : (w.at i).standing ≡ R8 → (p : ℕ) → (w.at i).pred ≡ Some p → v ≡ joined (stood w i R9) p i → Turn w i v
  r9 : (w.at i).standing ≡ R9 → v ≡ altered w i (freed (relabelled (w.at i) R10)) w.reader_count → Turn w i v
  r10_reader : (w.at i).standing ≡ R10 → (w.at i).state.successor ≡ Reader → v ≡ stood w i R11 → Turn w i v
  r10_other : (w.at i).standing ≡ R10 → ((w.at i).state.successor ≢ Reader) → v ≡ stood w i ReaderH → Turn w i v
  r11_none : (w.at i).standing ≡ R11 → (w.at i).next ≡ None → v ≡ w → Turn w i v
  r11_some : (w.at i).standing ≡ R11 → (n : ℕ) → (w.at i).next ≡ Some n → v ≡ stood w i R12 → Turn w i v
  r12 : (w.at i).standing ≡ R12 → v ≡ moved w i R13 (w.reader_count + 1) → Turn w i v
  r13 : (w.at i).standing ≡ R13 → (n : ℕ) → (w.at i).next ≡ Some n → v ≡ waked (stood w i ReaderH) n → Turn w i v
  e1_none : (w.at i).standing ≡ E1 → (w.at i).next ≡ None → v ≡ stood w i E2 → Turn w i v
  e1_some : (w.at i).standing ≡ E1 → (n : ℕ) → (w.at i).next ≡ Some n → v ≡ stood w i E3 → Turn w i v
  e2_tail : (w.at i).standing ≡ E2 → w.tail ≡ Some i → v ≡ untailed (stood w i E6) → Turn w i v
  e2_other : (w.at i).standing ≡ E2 → (w.tail ≢ Some i) → v ≡ stood w i E3 → Turn w i v
  e3_none : (w.at i).standing ≡ E3 → (w.at i).next ≡ None → v ≡ w → Turn w i v
  e3_some : (w.at i).standing ≡ E3 → (n : ℕ) → (w.at i).next ≡ Some n → v ≡ stood w i E4 → Turn w i v
  e4_writer : (w.at i).standing ≡ E4 → (w.at i).state.successor ≡ Writer → v ≡ stood w i E5 → Turn w i v
  e4_other : (w.at i).standing ≡ E4 → ((w.at i).state.successor ≢ Writer) → v ≡ stood w i E6 → Turn w i v
  e5 : (w.at i).standing ≡ E5 → (n : ℕ) → (w.at i).next ≡ Some n → v ≡ named (stood w i E6) (Some n) → Turn w i v
  e6_last : (w.at i).standing ≡ E6 → w.reader_count ≡ 1 → v ≡ moved w i E7 (w.reader_count - 1) → Turn w i v
  e6_more : (w.at i).standing ≡ E6 → (w.reader_count ≢ 1) → v ≡ moved w i I (w.reader_count - 1) → Turn w i v
  e7_none : (w.at i).standing ≡ E7 → w.next_writer ≡ None → v ≡ altered w i (keeping (relabelled (w.at i) I) None) w.reader_count → Turn w i v
  e7_some : (w.at i).standing ≡ E7 → (x : ℕ) → w.next_writer ≡ Some x → v ≡ altered w i (keeping (relabelled (w.at i) E8) (Some x)) w.reader_count → Turn w i v
  e8_zero : (w.at i).standing ≡ E8 → w.reader_count ≡ 0 → v ≡ stood w i E9 → Turn w i v
  e8_more : (w.at i).standing ≡ E8 → (w.reader_count ≢ 0) → v ≡ stood w i I → Turn w i v
  e9_named : (w.at i).standing ≡ E9 → (x : ℕ) → (w.at i).w ≡ Some x → w.next_writer ≡ Some x → v ≡ named (stood w i E10) None → Turn w i v
  e9_other : (w.at i).standing ≡ E9 → (x : ℕ) → (w.at i).w ≡ Some x → (w.next_writer ≢ Some x) → v ≡ stood w i I → Turn w i v
  e10 : (w.at i).standing ≡ E10 → (x : ℕ) → (w.at i).w ≡ Some x → v ≡ waked (stood w i I) x → Turn w i v
