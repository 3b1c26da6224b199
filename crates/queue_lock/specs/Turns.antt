-- One access of a slot is one step of the configuration.
use Rattle.std.specs.Prelude.{◌≡◌, ℕ, ◌+◌, ◌-◌, ◌%◌, ◌^◌, ◌<◌, Bool, true, false, cond, ◌⊎◌, List, [], ◌∷◌, ◌++◌, Some, None, Option, ◌==◌, ◌≢◌, refl}
use Rattle.std.proofs.Common.{ap, ◌∙◌, inl, inr, arith}
use Rattle.std.proofs.lemmas.Bool.{cases_Bool, cases_eq, cases_lt, both_ways, eqb-true, eqb-false, eq-eqb, ne_eqb}
use Rattle.lock.specs.Line.{arrives}
use Rattle.lock.specs.Meaning.{steps_from}
use Rattle.lock.specs.declared.words.Class.{Class}
use Rattle.lock.specs.declared.words.Class.TheVariants.{Reading, Writing}
use Rattle.queue_words.specs.Records.{relabelled, freed, noted, linked, keeping, filled}
use Rattle.queue_words.specs.Standings.{phase_of}
use Rattle.queue_words.specs.Steps as words
use Rattle.queue_words.specs.Steps.{slot, stands_at, put, stand, is_none, is_slot, is_reader, is_writer, is_blocked_alone, by_class, class_at, stepped_at}
use Rattle.queue_words.specs.declared.record.Record.{Record}
use Rattle.queue_words.specs.declared.record.Successor.{Successor}
use Rattle.queue_words.specs.declared.record.Successor.TheVariants.{Nobody, Reader, Writer}
use Rattle.queue_words.specs.declared.standing.Standing.{Standing}
use Rattle.queue_words.specs.declared.standing.Standing.TheVariants.{I, W1, W2, W3, W4, W5, W6, W7, W8, WriterH, V1, V2, V3, V4, V5, V6, R1, R2, R3, R4, R5, R6, R7, R8, R9, R10, R11, R12, R13, ReaderH, E1, E2, E3, E4, E5, E6, E7, E8, E9, E10}
use Rattle.queue_words.specs.declared.words.Words.{Words}
use Rattle.queue_lock.specs.Config.{Full, Config, config}
use Rattle.queue_lock.specs.Invariant.{Inv}
use Rattle.queue_lock.specs.Sets as is
use Rattle.queue_lock.specs.Alter as alter
use Rattle.queue_lock.specs.Alter.{altered}
use Rattle.queue_lock.specs.Arrive.{arrived}
use Rattle.queue_lock.specs.Facts as fact
use Rattle.queue_lock.specs.Move.{moved}
use Rattle.queue_lock.specs.Name.{named, untailed}
use Rattle.queue_lock.specs.R13 as reader-hands
use Rattle.queue_lock.specs.Rows.{row, row_of}
use Rattle.queue_lock.specs.Turn.{Turn, stood, waked, marked, joined}
use Rattle.queue_lock.specs.Turn as to
use Rattle.queue_lock.specs.V6 as writer-hands
use Rattle.queue_lock.specs.View.{full_put, puts, stands, unchanged, twice, few}

-- an option is none or some slot
some_or_none : (o : Option ℕ) → (o ≡ None) ⊎ ((n : ℕ) × (o ≡ Some n))
some_or_none None = inl refl
some_or_none (Some n) = inr (n, refl)

-- it is slot i or not, as the test says
pub the_slot_or_not : (i : ℕ) (o : Option ℕ) → ((o ≡ Some i) × (is_slot i o ≡ true)) ⊎ ((o ≢ Some i) × (is_slot i o ≡ false))
the_slot_or_not i None = inr (λ q. cc, refl)
the_slot_or_not i (Some x) = elim (cases_eq x i) [
  | inl e ↦ inl (ap Some e, eq-eqb x i e)
  | inr d ↦ inr (λ q. d (cc), ne_eqb x i d)
]

reader_or_not : (s : Successor) → ((s ≡ Reader) × (is_reader s ≡ true)) ⊎ ((s ≢ Reader) × (is_reader s ≡ false))
reader_or_not Nobody = inr (λ q. cc, refl)
reader_or_not Reader = inl (refl, refl)
reader_or_not Writer = inr (λ q. cc, refl)

writer_or_not : (s : Successor) → ((s ≡ Writer) × (is_writer s ≡ true)) ⊎ ((s ≢ Writer) × (is_writer s ≡ false))
writer_or_not Nobody = inr (λ q. cc, refl)
writer_or_not Reader = inr (λ q. cc, refl)
writer_or_not Writer = inl (refl, refl)

alone_or_not : (b : Bool) (s : Successor) → ((b ≡ true) × (s ≡ Nobody) × (is_blocked_alone (record { blocked = b; successor = s }) ≡ true)) ⊎ ((b ≡ true → s ≢ Nobody) × (is_blocked_alone (record { blocked = b; successor = s }) ≡ false))
alone_or_not true Nobody = inl (refl, refl, refl)
alone_or_not true Reader = inr (λ _ q. cc, refl)
alone_or_not true Writer = inr (λ _ q. cc, refl)
alone_or_not false s = inr (λ q _. both_ways false refl q, refl)

module _ (w : Words) (l : List ℕ) (i : ℕ) (f : Full w) (lt : i < 32) (v : Inv (config w l)) where
  abbrev c : Config
  c = config w l

  -- the slot goes the first way or the other
  way : (b x : Bool) (s t : Standing) → b ≡ x → config (stand w i (cond b s t)) l ≡ stood c i (cond x s t)
  way b x s t h = ap (λ y. config (stand w i (cond y s t)) l) h ∙ stands w l i (cond x s t) f lt

  -- a slot that is written after the slot stands elsewhere
  other : (s : Standing) (k : ℕ) (g : Record → Record) → k < 32 → config (put (stand w i s) k (g (slot (stand w i s) k))) l ≡ altered (stood c i s) k (g ((stood c i s).at k)) w.reader_count
  other s k g h = puts (stand w i s) l k (g (slot (stand w i s) k)) (full_put w i (relabelled (slot w i) s) f) h ∙ ap (λ m. altered m k (g (m.at k)) w.reader_count) (stands w l i s f lt)

  wakes : (s : Standing) (o : Option ℕ) (k : ℕ) → o ≡ Some k → k < 32 → config (words.unblock (stand w i s) o) l ≡ waked (stood c i s) k
  wakes s o k q h = ap (λ y. config (words.unblock (stand w i s) y) l) q ∙ other s k freed h

  notes : (s : Standing) (o : Option ℕ) (k : ℕ) (a : Successor) → o ≡ Some k → k < 32 → config (words.note (stand w i s) o a) l ≡ marked (stood c i s) k a
  notes s o k a q h = ap (λ y. config (words.note (stand w i s) y a) l) q ∙ other s k (λ r. noted r a) h

  links : (s : Standing) (o : Option ℕ) (k : ℕ) → o ≡ Some k → k < 32 → config (words.link (stand w i s) o i) l ≡ joined (stood c i s) k i
  links s o k q h = ap (λ y. config (words.link (stand w i s) y i) l) q ∙ other s k (λ r. linked r i) h

  -- the own block goes off
  frees : (s : Standing) → config (words.unblock (stand w i s) (Some i)) l ≡ altered c i (freed (relabelled (c.at i) s)) w.reader_count
  frees s =
      wakes s (Some i) i refl lt ∙ ap (λ r. altered (stood c i s) i (freed r) w.reader_count) (alter.here c i (relabelled (c.at i) s) w.reader_count)
      ∙ twice c i (relabelled (c.at i) s) (freed (relabelled (c.at i) s)) w.reader_count

  fills : (s : Standing) (k : Class) (b x : Bool) (t : Standing) → b ≡ x → config (words.with_tail (put w i (filled (slot w i) (cond b s t) k w.tail)) (Some i)) (l ++ (i ∷ [])) ≡ arrived c i (filled (c.at i) (cond x s t) k w.tail)
  fills s k b x t h =
      ap (λ y. config (words.with_tail (put w i (filled (slot w i) (cond y s t) k w.tail)) (Some i)) (l ++ (i ∷ []))) h
      ∙ ap {B = Config} (λ m. record { at = m.at; tail = Some i; next_writer = m.next_writer; reader_count = m.reader_count; line = l ++ (i ∷ []) }) (puts w l i (filled (slot w i) (cond x s t) k w.tail) f lt)

  counts : (s : Standing) (a b : ℕ) → a ≡ b → config (words.with_count (stand w i s) a) l ≡ moved c i s b
  counts s a b q = ap (λ n. config (words.with_count (stand w i s) n) l) q ∙ ap {B = Config} (λ m. record { at = m.at; tail = m.tail; next_writer = m.next_writer; reader_count = b; line = m.line }) (stands w l i s f lt)

  up : (w.reader_count + 1) % 2 ^ 32 ≡ w.reader_count + 1
  up = let s = few c v in omega arith

  down : is.readway (c.at i).standing ≡ true → (w.reader_count + (2 ^ 32 - 1)) % 2 ^ 32 ≡ w.reader_count - 1
  down h = let s = few c v in elim (cases_lt 0 w.reader_count) [
    | inl k ↦ omega arith
    | inr k ↦ absurd (both_ways _ (fact.empty_way c v (omega arith) i) h)
  ]

  -- pred of an unlinked slot, which there is
  before : is.unlinked (c.at i).standing ≡ true → (p : ℕ) × (((c.at i).pred ≡ Some p) × (p < 32))
  before u =
      let p = fact.the_slot (c.at i).pred ((v.own i).behind u) in
      (p.0, (p.1, fact.near c v is.followed (row I).followed p.0 (v.behind i p.0 u p.1).standing))

  after : is.linked (c.at i).standing ≡ true → (n : ℕ) × ((c.at i).next ≡ Some n)
  after h = fact.the_slot (c.at i).next ((v.own i).linked h)

  kept : is.keeps (c.at i).standing ≡ true → (x : ℕ) × ((c.at i).w ≡ Some x)
  kept h = fact.the_slot (c.at i).w ((v.own i).keeps h)

  w1 : stands_at w i ≡ W1 → Turn c i (config (stepped_at W1 w i) (arrives (phase_of W1) i l))
  w1 e = elim (some_or_none w.tail) [ inl h ↦ to.w1_first e h (fills W2 Writing _ true W6 (ap is_none h)) | inr p ↦ to.w1_behind e p.0 p.1 (fills W2 Writing _ false W6 (ap is_none p.1)) ]

  w2 : stands_at w i ≡ W2 → Turn c i (config (stepped_at W2 w i) (arrives (phase_of W2) i l))
  w2 e = to.w2 e (ap (λ m. named m (Some i)) (stands w l i W3 f lt))

  w3 : stands_at w i ≡ W3 → Turn c i (config (stepped_at W3 w i) (arrives (phase_of W3) i l))
  w3 e = elim (cases_Bool (w.reader_count == 0)) [ inl h ↦ to.w3_zero e (eqb-true _ _ h) (way _ true W4 W8 h) | inr h ↦ to.w3_more e (eqb-false _ _ h) (way _ false W4 W8 h) ]

  w4 : stands_at w i ≡ W4 → Turn c i (config (stepped_at W4 w i) (arrives (phase_of W4) i l))
  w4 e = elim (the_slot_or_not i w.next_writer) [ inl h ↦ to.w4_named e h.0 (ap (λ m. named m None) (way _ true W5 W8 h.1)) | inr h ↦ to.w4_other e h.0 (ap (λ m. named m None) (way _ false W5 W8 h.1)) ]

  w5 : stands_at w i ≡ W5 → Turn c i (config (stepped_at W5 w i) (arrives (phase_of W5) i l))
  w5 e = to.w5 e (frees W8)

  w6 : stands_at w i ≡ W6 → Turn c i (config (stepped_at W6 w i) (arrives (phase_of W6) i l))
  w6 e = let p = before (row_of e).unlinked in to.w6 e p.0 p.1.0 (notes W7 _ p.0 Writer p.1.0 p.1.1)

  w7 : stands_at w i ≡ W7 → Turn c i (config (stepped_at W7 w i) (arrives (phase_of W7) i l))
  w7 e = let p = before (row_of e).unlinked in to.w7 e p.0 p.1.0 (links W8 _ p.0 p.1.0 p.1.1)

  w8 : stands_at w i ≡ W8 → Turn c i (config (stepped_at W8 w i) (arrives (phase_of W8) i l))
  w8 e = elim (cases_Bool (slot w i).state.blocked) [ inl h ↦ to.w8_on e h (ap (λ m. config m l) (ap (λ y. stand w i (cond y W8 WriterH)) h ∙ unchanged w i W8 e)) | inr h ↦ to.w8_off e h (way _ false W8 WriterH h) ]

  v1 : stands_at w i ≡ V1 → Turn c i (config (stepped_at V1 w i) (arrives (phase_of V1) i l))
  v1 e = elim (some_or_none (slot w i).next) [ inl h ↦ to.v1_none e h (way _ true V2 V3 (ap is_none h)) | inr n ↦ to.v1_some e n.0 n.1 (way _ false V2 V3 (ap is_none n.1)) ]

  v2 : stands_at w i ≡ V2 → Turn c i (config (stepped_at V2 w i) (arrives (phase_of V2) i l))
  v2 e = elim (the_slot_or_not i w.tail) [ inl h ↦ to.v2_tail e h.0 (ap (λ y. config (cond y (words.with_tail (stand w i I) None) (stand w i V3)) l) h.1 ∙ ap untailed (stands w l i I f lt)) | inr h ↦ to.v2_other e h.0 (ap (λ y. config (cond y (words.with_tail (stand w i I) None) (stand w i V3)) l) h.1 ∙ stands w l i V3 f lt) ]

  v3 : stands_at w i ≡ V3 → Turn c i (config (stepped_at V3 w i) (arrives (phase_of V3) i l))
  v3 e = elim (some_or_none (slot w i).next) [ inl h ↦ to.v3_none e h (ap (λ m. config m l) (ap (λ y. stand w i (cond y V3 V4)) (ap is_none h) ∙ unchanged w i V3 e)) | inr n ↦ to.v3_some e n.0 n.1 (way _ false V3 V4 (ap is_none n.1)) ]

  v4 : stands_at w i ≡ V4 → Turn c i (config (stepped_at V4 w i) (arrives (phase_of V4) i l))
  v4 e = let n = after (row_of e).linked in let q = ap (class_at w) n.1 in elim (fact.class_cases (c.at n.0).class) [ inl h ↦ to.v4_reads e n.0 n.1 h (ap (λ k. config (stand w i (by_class k V5 V6)) l) (q ∙ h) ∙ stands w l i V5 f lt) | inr h ↦ to.v4_writes e n.0 n.1 h (ap (λ k. config (stand w i (by_class k V5 V6)) l) (q ∙ h) ∙ stands w l i V6 f lt) ]

  v5 : stands_at w i ≡ V5 → Turn c i (config (stepped_at V5 w i) (arrives (phase_of V5) i l))
  v5 e = to.v5 e (counts V6 _ _ up)

  v6 : stands_at w i ≡ V6 → Turn c i (config (stepped_at V6 w i) (arrives (phase_of V6) i l))
  v6 e = let n = after (row_of e).linked in to.v6 e n.0 n.1 (wakes I _ n.0 n.1 (writer-hands.near c i v lt e n.0 n.1))

  r1 : stands_at w i ≡ R1 → Turn c i (config (stepped_at R1 w i) (arrives (phase_of R1) i l))
  r1 e = elim (some_or_none w.tail) [ inl h ↦ to.r1_first e h (fills R2 Reading _ true R3 (ap is_none h)) | inr p ↦ to.r1_behind e p.0 p.1 (fills R2 Reading _ false R3 (ap is_none p.1)) ]

  r2 : stands_at w i ≡ R2 → Turn c i (config (stepped_at R2 w i) (arrives (phase_of R2) i l))
  r2 e = to.r2 e (counts R9 _ _ up)

  r3 : stands_at w i ≡ R3 → Turn c i (config (stepped_at R3 w i) (arrives (phase_of R3) i l))
  r3 e = let p = before (row_of e).unlinked in let q = ap (class_at w) p.1.0 in elim (fact.class_cases (c.at p.0).class) [ inl h ↦ to.r3_reads e p.0 p.1.0 h (ap (λ k. config (stand w i (by_class k R4 R5)) l) (q ∙ h) ∙ stands w l i R4 f lt) | inr h ↦ to.r3_writes e p.0 p.1.0 h (ap (λ k. config (stand w i (by_class k R4 R5)) l) (q ∙ h) ∙ stands w l i R5 f lt) ]

  r4 : stands_at w i ≡ R4 → Turn c i (config (stepped_at R4 w i) (arrives (phase_of R4) i l))
  r4 e = let p = before (row_of e).unlinked in let q = ap (λ o. config (words.note_if_alone w i o R5 R7) l) p.1.0 in elim (alone_or_not (c.at p.0).state.blocked (c.at p.0).state.successor) [ inl h ↦ to.r4_done e p.0 p.1.0 h.0 h.1 (q ∙ ap (λ y. config (cond y (words.note (stand w i R5) (Some p.0) Reader) (stand w i R7)) l) h.2 ∙ notes R5 _ p.0 Reader refl p.1.1) | inr h ↦ to.r4_other e p.0 p.1.0 h.0 (q ∙ ap (λ y. config (cond y (words.note (stand w i R5) (Some p.0) Reader) (stand w i R7)) l) h.1 ∙ stands w l i R7 f lt) ]

  r5 : stands_at w i ≡ R5 → Turn c i (config (stepped_at R5 w i) (arrives (phase_of R5) i l))
  r5 e = let p = before (row_of e).unlinked in to.r5 e p.0 p.1.0 (links R6 _ p.0 p.1.0 p.1.1)

  r6 : stands_at w i ≡ R6 → Turn c i (config (stepped_at R6 w i) (arrives (phase_of R6) i l))
  r6 e = elim (cases_Bool (slot w i).state.blocked) [ inl h ↦ to.r6_on e h (ap (λ m. config m l) (ap (λ y. stand w i (cond y R6 R10)) h ∙ unchanged w i R6 e)) | inr h ↦ to.r6_off e h (way _ false R6 R10 h) ]

  r7 : stands_at w i ≡ R7 → Turn c i (config (stepped_at R7 w i) (arrives (phase_of R7) i l))
  r7 e = to.r7 e (counts R8 _ _ up)

  r8 : stands_at w i ≡ R8 → Turn c i (config (stepped_at R8 w i) (arrives (phase_of R8) i l))
  r8 e = let p = before (row_of e).unlinked in to.r8 e p.0 p.1.0 (links R9 _ p.0 p.1.0 p.1.1)

  r9 : stands_at w i ≡ R9 → Turn c i (config (stepped_at R9 w i) (arrives (phase_of R9) i l))
  r9 e = to.r9 e (frees R10)

  r10 : stands_at w i ≡ R10 → Turn c i (config (stepped_at R10 w i) (arrives (phase_of R10) i l))
  r10 e = elim (reader_or_not (slot w i).state.successor) [ inl h ↦ to.r10_reader e h.0 (way _ true R11 ReaderH h.1) | inr h ↦ to.r10_other e h.0 (way _ false R11 ReaderH h.1) ]

  r11 : stands_at w i ≡ R11 → Turn c i (config (stepped_at R11 w i) (arrives (phase_of R11) i l))
  r11 e = elim (some_or_none (slot w i).next) [ inl h ↦ to.r11_none e h (ap (λ m. config m l) (ap (λ y. stand w i (cond y R11 R12)) (ap is_none h) ∙ unchanged w i R11 e)) | inr n ↦ to.r11_some e n.0 n.1 (way _ false R11 R12 (ap is_none n.1)) ]

  r12 : stands_at w i ≡ R12 → Turn c i (config (stepped_at R12 w i) (arrives (phase_of R12) i l))
  r12 e = to.r12 e (counts R13 _ _ up)

  r13 : stands_at w i ≡ R13 → Turn c i (config (stepped_at R13 w i) (arrives (phase_of R13) i l))
  r13 e = let n = after (row_of e).linked in to.r13 e n.0 n.1 (wakes ReaderH _ n.0 n.1 (reader-hands.near c i v lt e n.0 n.1))

  e1 : stands_at w i ≡ E1 → Turn c i (config (stepped_at E1 w i) (arrives (phase_of E1) i l))
  e1 e = elim (some_or_none (slot w i).next) [ inl h ↦ to.e1_none e h (way _ true E2 E3 (ap is_none h)) | inr n ↦ to.e1_some e n.0 n.1 (way _ false E2 E3 (ap is_none n.1)) ]

  e2 : stands_at w i ≡ E2 → Turn c i (config (stepped_at E2 w i) (arrives (phase_of E2) i l))
  e2 e = elim (the_slot_or_not i w.tail) [ inl h ↦ to.e2_tail e h.0 (ap (λ y. config (cond y (words.with_tail (stand w i E6) None) (stand w i E3)) l) h.1 ∙ ap untailed (stands w l i E6 f lt)) | inr h ↦ to.e2_other e h.0 (ap (λ y. config (cond y (words.with_tail (stand w i E6) None) (stand w i E3)) l) h.1 ∙ stands w l i E3 f lt) ]

  e3 : stands_at w i ≡ E3 → Turn c i (config (stepped_at E3 w i) (arrives (phase_of E3) i l))
  e3 e = elim (some_or_none (slot w i).next) [ inl h ↦ to.e3_none e h (ap (λ m. config m l) (ap (λ y. stand w i (cond y E3 E4)) (ap is_none h) ∙ unchanged w i E3 e)) | inr n ↦ to.e3_some e n.0 n.1 (way _ false E3 E4 (ap is_none n.1)) ]

  e4 : stands_at w i ≡ E4 → Turn c i (config (stepped_at E4 w i) (arrives (phase_of E4) i l))
  e4 e = elim (writer_or_not (slot w i).state.successor) [ inl h ↦ to.e4_writer e h.0 (way _ true E5 E6 h.1) | inr h ↦ to.e4_other e h.0 (way _ false E5 E6 h.1) ]

  e5 : stands_at w i ≡ E5 → Turn c i (config (stepped_at E5 w i) (arrives (phase_of E5) i l))
  e5 e = let n = after (row_of e).linked in to.e5 e n.0 n.1 (ap (λ o. config (words.name (stand w i E6) o) l) n.1 ∙ ap (λ m. named m (Some n.0)) (stands w l i E6 f lt))

  e6 : stands_at w i ≡ E6 → Turn c i (config (stepped_at E6 w i) (arrives (phase_of E6) i l))
  e6 e = elim (cases_Bool (w.reader_count == 1)) [ inl h ↦ to.e6_last e (eqb-true _ _ h) (ap (λ y. config (words.with_count (stand w i (cond y E7 I)) ((w.reader_count + (2 ^ 32 - 1)) % 2 ^ 32)) l) h ∙ counts E7 _ _ (down (row_of e).readway)) | inr h ↦ to.e6_more e (eqb-false _ _ h) (ap (λ y. config (words.with_count (stand w i (cond y E7 I)) ((w.reader_count + (2 ^ 32 - 1)) % 2 ^ 32)) l) h ∙ counts I _ _ (down (row_of e).readway)) ]

  e7 : stands_at w i ≡ E7 → Turn c i (config (stepped_at E7 w i) (arrives (phase_of E7) i l))
  e7 e = let q : (o : Option ℕ) → w.next_writer ≡ o → config (words.keep_next_writer w i I E8) l ≡ altered c i (keeping (relabelled (c.at i) (cond (is_none o) I E8)) o) w.reader_count = λ o z. puts w l i _ f lt ∙ ap (λ y. altered c i (keeping (relabelled (c.at i) (cond (is_none y) I E8)) y) w.reader_count) z in elim (some_or_none w.next_writer) [ inl h ↦ to.e7_none e h (q None h) | inr x ↦ to.e7_some e x.0 x.1 (q (Some x.0) x.1) ]

  e8 : stands_at w i ≡ E8 → Turn c i (config (stepped_at E8 w i) (arrives (phase_of E8) i l))
  e8 e = elim (cases_Bool (w.reader_count == 0)) [ inl h ↦ to.e8_zero e (eqb-true _ _ h) (way _ true E9 I h) | inr h ↦ to.e8_more e (eqb-false _ _ h) (way _ false E9 I h) ]

  e9 : stands_at w i ≡ E9 → Turn c i (config (stepped_at E9 w i) (arrives (phase_of E9) i l))
  e9 e = let x = kept (row_of e).keeps in let q = ap (λ o. config (words.take_if_named w i o E10 I) l) x.1 in elim (the_slot_or_not x.0 w.next_writer) [ inl h ↦ to.e9_named e x.0 x.1 h.0 (q ∙ ap (λ y. config (cond y (words.name (stand w i E10) None) (stand w i I)) l) h.1 ∙ ap (λ m. named m None) (stands w l i E10 f lt)) | inr h ↦ to.e9_other e x.0 x.1 h.0 (q ∙ ap (λ y. config (cond y (words.name (stand w i E10) None) (stand w i I)) l) h.1 ∙ stands w l i I f lt) ]

  e10 : stands_at w i ≡ E10 → Turn c i (config (stepped_at E10 w i) (arrives (phase_of E10) i l))
  e10 e = let x = kept (row_of e).keeps in to.e10 e x.0 x.1 (wakes I _ x.0 x.1 (fact.near c v is.waiting (row I).waiting x.0 (v.woken i x.0 (row_of e).waking x.1).0.standing))

  at : (s : Standing) → stands_at w i ≡ s → steps_from (phase_of s) (Unit {0}) ⊥ → Turn c i (config (stepped_at s w i) (arrives (phase_of s) i l))
  at I e m = absurd m
  at W1 e m = w1 e
  at W2 e m = w2 e
  at W3 e m = w3 e
  at W4 e m = w4 e
  at W5 e m = w5 e
  at W6 e m = w6 e
  at W7 e m = w7 e
  at W8 e m = w8 e
  at WriterH e m = absurd m
  at V1 e m = v1 e
  at V2 e m = v2 e
  at V3 e m = v3 e
  at V4 e m = v4 e
  at V5 e m = v5 e
  at V6 e m = v6 e
  at R1 e m = r1 e
  at R2 e m = r2 e
  at R3 e m = r3 e
  at R4 e m = r4 e
  at R5 e m = r5 e
  at R6 e m = r6 e
  at R7 e m = r7 e
  at R8 e m = r8 e
  at R9 e m = r9 e
  at R10 e m = r10 e
  at R11 e m = r11 e
  at R12 e m = r12 e
  at R13 e m = r13 e
  at ReaderH e m = absurd m
  at E1 e m = e1 e
  at E2 e m = e2 e
  at E3 e m = e3 e
  at E4 e m = e4 e
  at E5 e m = e5 e
  at E6 e m = e6 e
  at E7 e m = e7 e
  at E8 e m = e8 e
  at E9 e m = e9 e
  at E10 e m = e10 e

  pub turns : steps_from (phase_of (stands_at w i)) (Unit {0}) ⊥ → Turn c i (config (words.stepped w i) (arrives (phase_of (stands_at w i)) i l))
  turns m = at (stands_at w i) refl m
