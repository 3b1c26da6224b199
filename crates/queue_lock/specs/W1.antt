-- W1 and R1: a slot arrives, behind nobody (W2, R2) or behind the old tail (W6, R3).
use Rattle.std.specs.Prelude.{is_some}
use Rattle.std.proofs.Common.{◌≡◌, ℕ, ◌<◌, Bool, true, false, cond, List, [], ◌∷◌, Some, None, sym, refl, ◌∙◌, arith}
use Rattle.lock.specs.declared.words.Class.{Class}
use Rattle.lock.specs.declared.words.Class.TheVariants.{Reading, Writing}
use Rattle.std.proofs.lemmas.Bool.{both_ways}
use Rattle.queue_words.specs.Records.{filled}
use Rattle.queue_words.specs.declared.record.Record.{Record}
use Rattle.queue_words.specs.declared.standing.Standing.{Standing}
use Rattle.queue_words.specs.declared.standing.Standing.TheVariants.{W1, W2, W6, R1, R2, R3}
use Rattle.queue_lock.specs.Sets as is
use Rattle.queue_lock.specs.Config.{Config}
use Rattle.queue_lock.specs.Invariant.{Inv, Own}
use Rattle.queue_lock.specs.Arrive.{arrived, arrive}
use Rattle.queue_lock.specs.Plain.{all, get, deny}
use Rattle.queue_lock.specs.Rows.{Row, row, row_of}
use Rattle.queue_lock.specs.Shares.{share_none}

-- the record that an arriving slot writes
abbrev pub fresh : Config → ℕ → Standing → Class → Record
fresh w i l c = filled (w.at i) l c w.tail

-- the slot had no part, and gets none but in line; neither standing has a share
abbrev tests : Standing → Standing → List Bool
tests a l = cond (is.is_lining a) false true ∷ cond (is.is_followed a) false true ∷ cond (is.is_sleeping a) false true ∷ cond (is.is_waiting a) false true ∷ cond (is.is_ending_w a) false true ∷ cond (is.is_ending_r a) false true ∷ is.is_lining l ∷ cond (is.is_writeway l) false true ∷ cond (is.is_readway l) false true ∷ cond (is.is_waking l) false true ∷ cond (is.is_asking l) false true ∷ cond (is.is_fetching l) false true ∷ cond (is.is_only l) false true ∷ cond (is.is_noted l) false true ∷ cond (is.is_behind_reader l) false true ∷ cond (is.is_behind_open l) false true ∷ cond (is.is_linking l) false true ∷ cond (is.is_counts_two a) false true ∷ cond (is.is_counts_one a) false true ∷ cond (is.is_sleeping_r a) false true ∷ cond (is.is_handing a) false true ∷ cond (is.is_counts_two l) false true ∷ cond (is.is_counts_one l) false true ∷ cond (is.is_sleeping_r l) false true ∷ cond (is.is_handing l) false true ∷ []

module _ (w : Config) (i : ℕ) (a l : Standing) (c : Class) (v : Inv w) (lt : i < 32) (o : Row (w.at i).standing a) (n : Row l l) where
  comes : all (tests a l) ≡ true → Own (fresh w i l c) → (is.admitted l ≡ true → w.tail ≡ None) → ((t : ℕ) → is.asking (w.at t).standing ≡ true → (w.at t).w ≡ Some i → is.wanting l ≡ true → ⊥) → Inv (arrived w i (fresh w i l c))
  comes h own admitted asked =
      let t = get (tests a l) h in
      arrive w i (fresh w i l c) v lt (record {
        out = o.lining ∙ deny _ (t 0);
        followed = o.followed ∙ deny _ (t 1);
        sleeping = o.sleeping ∙ deny _ (t 2);
        waiting = o.waiting ∙ deny _ (t 3);
        ends_w = o.ending_w ∙ deny _ (t 4);
        ends_r = o.ending_r ∙ deny _ (t 5);
        lining = n.lining ∙ t 6;
        writeway = n.writeway ∙ deny _ (t 7);
        readway = n.readway ∙ deny _ (t 8);
        waking = n.waking ∙ deny _ (t 9);
        asking = n.asking ∙ deny _ (t 10);
        fetching = n.fetching ∙ deny _ (t 11);
        only = n.only ∙ deny _ (t 12);
        admitted = admitted;
        noted = n.noted ∙ deny _ (t 13);
        behind_reader = n.behind_reader ∙ deny _ (t 14);
        behind_open = n.behind_open ∙ deny _ (t 15);
        linking = n.linking ∙ deny _ (t 16);
        own = own;
        on = refl;
        next = refl;
        behind = refl;
        pred = refl;
        asked = asked;
        share = λ j k. share_none (fresh w i l c) j (n.counts_two ∙ deny _ (t 21)) (n.counts_one ∙ deny _ (t 22)) (n.sleeping_r ∙ deny _ (t 23)) (n.handing ∙ deny _ (t 24)) ∙ sym (share_none (w.at i) k (o.counts_two ∙ deny _ (t 17)) (o.counts_one ∙ deny _ (t 18)) (o.sleeping_r ∙ deny _ (t 19)) (o.handing ∙ deny _ (t 20)));
      })

module _ (w : Config) (i : ℕ) (v : Inv w) (lt : i < 32) where
  -- nobody asks for a slot that is called to write
  asked : (w.at i).standing ≡ W1 → (t : ℕ) → is.asking (w.at t).standing ≡ true → (w.at t).w ≡ Some i → ⊥
  asked e t h q = let o = row_of e in both_ways _ o.askable (v.asked t i h q o.wanting).0

  pub writer_first : (w.at i).standing ≡ W1 → w.tail ≡ None → Inv (arrived w i (fresh w i W2 Writing))
  writer_first e z = let n = row W2 in comes w i W1 W2 Writing v lt (row_of e) n refl (grind (arith, n)) (λ _. z) (λ t h q _. asked e t h q)

  pub writer_behind : (w.at i).standing ≡ W1 → is_some w.tail ≡ true → Inv (arrived w i (fresh w i W6 Writing))
  writer_behind e z = let n = row W6 in comes w i W1 W6 Writing v lt (row_of e) n refl (grind (arith, n)) (λ h. absurd (both_ways _ n.admitted h)) (λ t h q _. asked e t h q)

  pub reader_first : (w.at i).standing ≡ R1 → w.tail ≡ None → Inv (arrived w i (fresh w i R2 Reading))
  reader_first e z = let n = row R2 in comes w i R1 R2 Reading v lt (row_of e) n refl (grind (arith, n)) (λ _. z) (λ _ _ _ h. both_ways _ n.wanting h)

  pub reader_behind : (w.at i).standing ≡ R1 → is_some w.tail ≡ true → Inv (arrived w i (fresh w i R3 Reading))
  reader_behind e z = let n = row R3 in comes w i R1 R3 Reading v lt (row_of e) n refl (grind (arith, n)) (λ h. absurd (both_ways _ n.admitted h)) (λ _ _ _ h. both_ways _ n.wanting h)
