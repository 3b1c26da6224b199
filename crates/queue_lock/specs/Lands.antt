-- Where a step takes its slot, and that no other slot's standing changes.
use Rattle.std.specs.List.{list_all}
use Rattle.std.specs.Prelude.{◌≡◌, ℕ, ◌+◌, ◌-◌, Bool, true, List, [], ◌∷◌, Some, None, ◌≢◌, refl}
use Rattle.std.proofs.Common.{sym, ap, subst, ◌∙◌}
use Rattle.lock.specs.declared.words.Class.TheVariants.{Reading, Writing}
use Rattle.queue_words.specs.Records.{relabelled, freed, noted, linked, keeping, filled}
use Rattle.queue_words.specs.declared.record.Record.{Record}
use Rattle.queue_words.specs.declared.record.Successor.TheVariants.{Reader, Writer}
use Rattle.queue_words.specs.declared.standing.Standing.{Standing}
use Rattle.queue_words.specs.declared.standing.Standing.TheVariants.{I, W1, W2, W3, W4, W5, W6, W7, W8, WriterH, V1, V2, V3, V4, V5, V6, R1, R2, R3, R4, R5, R6, R7, R8, R9, R10, R11, R12, R13, ReaderH, E1, E2, E3, E4, E5, E6, E7, E8, E9, E10}
use Rattle.queue_lock.specs.Config.{Config}
use Rattle.queue_lock.specs.Sets.{standings, among}
use Rattle.queue_lock.specs.Alter as alter
use Rattle.queue_lock.specs.Alter.{altered}
use Rattle.queue_lock.specs.Arrive.{arrived}
use Rattle.queue_lock.specs.Every.{for_all, every_among}
use Rattle.queue_lock.specs.Turn.{Turn}
use Rattle.queue_lock.specs.Turn as to

-- the standings that a step can lead to
abbrev pub nexts : Standing → List Standing
nexts I = []
nexts W1 = W2 ∷ W6 ∷ []
nexts W2 = W3 ∷ []
nexts W3 = W4 ∷ W8 ∷ []
nexts W4 = W5 ∷ W8 ∷ []
nexts W5 = W8 ∷ []
nexts W6 = W7 ∷ []
nexts W7 = W8 ∷ []
nexts W8 = W8 ∷ WriterH ∷ []
nexts WriterH = []
nexts V1 = V2 ∷ V3 ∷ []
nexts V2 = I ∷ V3 ∷ []
nexts V3 = V3 ∷ V4 ∷ []
nexts V4 = V5 ∷ V6 ∷ []
nexts V5 = V6 ∷ []
nexts V6 = I ∷ []
nexts R1 = R2 ∷ R3 ∷ []
nexts R2 = R9 ∷ []
nexts R3 = R4 ∷ R5 ∷ []
nexts R4 = R5 ∷ R7 ∷ []
nexts R5 = R6 ∷ []
nexts R6 = R6 ∷ R10 ∷ []
nexts R7 = R8 ∷ []
nexts R8 = R9 ∷ []
nexts R9 = R10 ∷ []
nexts R10 = R11 ∷ ReaderH ∷ []
nexts R11 = R11 ∷ R12 ∷ []
nexts R12 = R13 ∷ []
nexts R13 = ReaderH ∷ []
nexts ReaderH = []
nexts E1 = E2 ∷ E3 ∷ []
nexts E2 = E6 ∷ E3 ∷ []
nexts E3 = E3 ∷ E4 ∷ []
nexts E4 = E5 ∷ E6 ∷ []
nexts E5 = E6 ∷ []
nexts E6 = E7 ∷ I ∷ []
nexts E7 = I ∷ E8 ∷ []
nexts E8 = E9 ∷ I ∷ []
nexts E9 = E10 ∷ I ∷ []
nexts E10 = I ∷ []

abbrev pub leads : Standing → Standing → Bool
leads s x = among (nexts s) x

pub record Lands (w : Config) (i : ℕ) (v : Config) (s : Standing) : Type 0 where
  pub here : (v.at i).standing ≡ s
  pub others : (j : ℕ) → (j ≢ i) → (v.at j).standing ≡ (w.at j).standing

module _ (w : Config) (i : ℕ) where
  alters : (r : Record) (c : ℕ) → Lands w i (altered w i r c) r.standing
  alters r c = record { here = ap (λ y. y.standing) (alter.here w i r c); others = λ j d. ap (λ y. y.standing) (alter.there w i r c j d) }

  same_at : {m v : Config} {s : Standing} → v.at ≡ m.at → Lands w i m s → Lands w i v s
  same_at {m} {v} {s} e l = record { here = ap (λ f. (f i).standing) e ∙ l.here; others = λ j d. ap (λ f. (f j).standing) e ∙ l.others j d }

  fills : (r : Record) → Lands w i (arrived w i r) r.standing
  fills r = same_at refl (alters r w.reader_count)

  -- another write that leaves the standing
  further : {m : Config} {s : Standing} (c k : ℕ) (g : Record → Record) → ((r : Record) → (g r).standing ≡ r.standing) → Lands w i m s → Lands w i (altered m k (g (m.at k)) c) s
  further {m} {s} c k g e l =
      let keeps : (j : ℕ) → ((altered m k (g (m.at k)) c).at j).standing ≡ (m.at j).standing = λ j. alter.split m k (g (m.at k)) c (λ y. y.standing ≡ (m.at j).standing) j (λ q. e (m.at k) ∙ ap (λ x. (m.at x).standing) (sym q)) (λ _. refl) in
      record { here = keeps i ∙ l.here; others = λ j d. keeps j ∙ l.others j d }

  module _ {v : Config} where
    lands_at : {a : Standing} {m : Config} (s : Standing) → (w.at i).standing ≡ a → leads a s ≡ true → v ≡ m → Lands w i m s → (s : Standing) × (Lands w i v s × (leads (w.at i).standing s ≡ true))
    lands_at {a} {m} s e h q l = (s, (subst (λ m. Lands w i m s) (sym q) l, subst (λ a. leads a s ≡ true) (sym e) h))

    spins : {a : Standing} → (w.at i).standing ≡ a → leads a a ≡ true → v ≡ w → (s : Standing) × (Lands w i v s × (leads (w.at i).standing s ≡ true))
    spins {a} e h q = (a, (record { here = ap (λ m. (m.at i).standing) q ∙ e; others = λ j _. ap (λ m. (m.at j).standing) q }, subst (λ s. leads s a ≡ true) (sym e) h))

    lands : Turn w i v → (s : Standing) × (Lands w i v s × (leads (w.at i).standing s ≡ true))
    lands (to.w1_first e _ q) = lands_at W2 e refl q (fills (filled (w.at i) W2 Writing w.tail))
    lands (to.w1_behind e p _ q) = lands_at W6 e refl q (fills (filled (w.at i) W6 Writing w.tail))
    lands (to.w2 e q) = lands_at W3 e refl q (same_at refl (alters (relabelled (w.at i) W3) w.reader_count))
    lands (to.w3_zero e _ q) = lands_at W4 e refl q (alters (relabelled (w.at i) W4) w.reader_count)
    lands (to.w3_more e _ q) = lands_at W8 e refl q (alters (relabelled (w.at i) W8) w.reader_count)
    lands (to.w4_named e _ q) = lands_at W5 e refl q (same_at refl (alters (relabelled (w.at i) W5) w.reader_count))
    lands (to.w4_other e _ q) = lands_at W8 e refl q (same_at refl (alters (relabelled (w.at i) W8) w.reader_count))
    lands (to.w5 e q) = lands_at W8 e refl q (alters (freed (relabelled (w.at i) W8)) w.reader_count)
    lands (to.w6 e p _ q) = lands_at W7 e refl q (further w.reader_count p (λ r. noted r Writer) (λ r. refl) (alters (relabelled (w.at i) W7) w.reader_count))
    lands (to.w7 e p _ q) = lands_at W8 e refl q (further w.reader_count p (λ r. linked r i) (λ r. refl) (alters (relabelled (w.at i) W8) w.reader_count))
    lands (to.w8_on e _ q) = spins e refl q
    lands (to.w8_off e _ q) = lands_at WriterH e refl q (alters (relabelled (w.at i) WriterH) w.reader_count)
    lands (to.v1_none e _ q) = lands_at V2 e refl q (alters (relabelled (w.at i) V2) w.reader_count)
    lands (to.v1_some e n _ q) = lands_at V3 e refl q (alters (relabelled (w.at i) V3) w.reader_count)
    lands (to.v2_tail e _ q) = lands_at I e refl q (same_at refl (alters (relabelled (w.at i) I) w.reader_count))
    lands (to.v2_other e _ q) = lands_at V3 e refl q (alters (relabelled (w.at i) V3) w.reader_count)
    lands (to.v3_none e _ q) = spins e refl q
    lands (to.v3_some e n _ q) = lands_at V4 e refl q (alters (relabelled (w.at i) V4) w.reader_count)
    lands (to.v4_reads e n _ _ q) = lands_at V5 e refl q (alters (relabelled (w.at i) V5) w.reader_count)
    lands (to.v4_writes e n _ _ q) = lands_at V6 e refl q (alters (relabelled (w.at i) V6) w.reader_count)
    lands (to.v5 e q) = lands_at V6 e refl q (alters (relabelled (w.at i) V6) (w.reader_count + 1))
    lands (to.v6 e n _ q) = lands_at I e refl q (further w.reader_count n freed (λ r. refl) (alters (relabelled (w.at i) I) w.reader_count))
    lands (to.r1_first e _ q) = lands_at R2 e refl q (fills (filled (w.at i) R2 Reading w.tail))
    lands (to.r1_behind e p _ q) = lands_at R3 e refl q (fills (filled (w.at i) R3 Reading w.tail))
    lands (to.r2 e q) = lands_at R9 e refl q (alters (relabelled (w.at i) R9) (w.reader_count + 1))
    lands (to.r3_reads e p _ _ q) = lands_at R4 e refl q (alters (relabelled (w.at i) R4) w.reader_count)
    lands (to.r3_writes e p _ _ q) = lands_at R5 e refl q (alters (relabelled (w.at i) R5) w.reader_count)
    lands (to.r4_done e p _ _ _ q) = lands_at R5 e refl q (further w.reader_count p (λ r. noted r Reader) (λ r. refl) (alters (relabelled (w.at i) R5) w.reader_count))
    lands (to.r4_other e p _ _ q) = lands_at R7 e refl q (alters (relabelled (w.at i) R7) w.reader_count)
    lands (to.r5 e p _ q) = lands_at R6 e refl q (further w.reader_count p (λ r. linked r i) (λ r. refl) (alters (relabelled (w.at i) R6) w.reader_count))
    lands (to.r6_on e _ q) = spins e refl q
    lands (to.r6_off e _ q) = lands_at R10 e refl q (alters (relabelled (w.at i) R10) w.reader_count)
    lands (to.r7 e q) = lands_at R8 e refl q (alters (relabelled (w.at i) R8) (w.reader_count + 1))
    lands (to.r8 e p _ q) = lands_at R9 e refl q (further w.reader_count p (λ r. linked r i) (λ r. refl) (alters (relabelled (w.at i) R9) w.reader_count))
    lands (to.r9 e q) = lands_at R10 e refl q (alters (freed (relabelled (w.at i) R10)) w.reader_count)
    lands (to.r10_reader e _ q) = lands_at R11 e refl q (alters (relabelled (w.at i) R11) w.reader_count)
    lands (to.r10_other e _ q) = lands_at ReaderH e refl q (alters (relabelled (w.at i) ReaderH) w.reader_count)
    lands (to.r11_none e _ q) = spins e refl q
    lands (to.r11_some e n _ q) = lands_at R12 e refl q (alters (relabelled (w.at i) R12) w.reader_count)
    lands (to.r12 e q) = lands_at R13 e refl q (alters (relabelled (w.at i) R13) (w.reader_count + 1))
    lands (to.r13 e n _ q) = lands_at ReaderH e refl q (further w.reader_count n freed (λ r. refl) (alters (relabelled (w.at i) ReaderH) w.reader_count))
    lands (to.e1_none e _ q) = lands_at E2 e refl q (alters (relabelled (w.at i) E2) w.reader_count)
    lands (to.e1_some e n _ q) = lands_at E3 e refl q (alters (relabelled (w.at i) E3) w.reader_count)
    lands (to.e2_tail e _ q) = lands_at E6 e refl q (same_at refl (alters (relabelled (w.at i) E6) w.reader_count))
    lands (to.e2_other e _ q) = lands_at E3 e refl q (alters (relabelled (w.at i) E3) w.reader_count)
    lands (to.e3_none e _ q) = spins e refl q
    lands (to.e3_some e n _ q) = lands_at E4 e refl q (alters (relabelled (w.at i) E4) w.reader_count)
    lands (to.e4_writer e _ q) = lands_at E5 e refl q (alters (relabelled (w.at i) E5) w.reader_count)
    lands (to.e4_other e _ q) = lands_at E6 e refl q (alters (relabelled (w.at i) E6) w.reader_count)
    lands (to.e5 e n _ q) = lands_at E6 e refl q (same_at refl (alters (relabelled (w.at i) E6) w.reader_count))
    lands (to.e6_last e _ q) = lands_at E7 e refl q (alters (relabelled (w.at i) E7) (w.reader_count - 1))
    lands (to.e6_more e _ q) = lands_at I e refl q (alters (relabelled (w.at i) I) (w.reader_count - 1))
    lands (to.e7_none e _ q) = lands_at I e refl q (alters (keeping (relabelled (w.at i) I) None) w.reader_count)
    lands (to.e7_some e x _ q) = lands_at E8 e refl q (alters (keeping (relabelled (w.at i) E8) (Some x)) w.reader_count)
    lands (to.e8_zero e _ q) = lands_at E9 e refl q (alters (relabelled (w.at i) E9) w.reader_count)
    lands (to.e8_more e _ q) = lands_at I e refl q (alters (relabelled (w.at i) I) w.reader_count)
    lands (to.e9_named e x _ _ q) = lands_at E10 e refl q (same_at refl (alters (relabelled (w.at i) E10) w.reader_count))
    lands (to.e9_other e x _ _ q) = lands_at I e refl q (alters (relabelled (w.at i) I) w.reader_count)
    lands (to.e10 e x _ q) = lands_at I e refl q (further w.reader_count x freed (λ r. refl) (alters (relabelled (w.at i) I) w.reader_count))

    pub stay : Turn w i v → (j : ℕ) → (j ≢ i) → (v.at j).standing ≡ (w.at j).standing
    stay t = (lands t).1.0.others

    pub led : Turn w i v → leads (w.at i).standing (v.at i).standing ≡ true
    led t = let l = lands t in subst (λ x. leads (w.at i).standing x ≡ true) (sym l.1.0.here) l.1.1

-- what holds of every standing and those that it can lead to holds of each step
pub by_ways : (f : Standing → Standing → Bool) → list_all (λ a. list_all (f a) (nexts a)) standings ≡ true → (a s : Standing) → leads a s ≡ true → f a s ≡ true
by_ways f e a s h = every_among (f a) (nexts a) s (for_all (λ x. list_all (f x) (nexts x)) e a) h
