-- A plain step: the new standing asks nothing that the old one did not give. One computed test of the two standings, and no field to write.
use Rattle.std.proofs.Common.{◌≡◌, ℕ, zero, suc, Bool, true, false, cond, List, [], ◌∷◌, get_or, Some, sym, refl, ◌∙◌}
use Rattle.std.proofs.lemmas.Bool.{both_ways}
use Rattle.queue_words.specs.declared.standing.Standing.{Standing}
use Rattle.lock.specs.declared.words.Class.TheVariants.{Reading, Writing}
use Rattle.queue_lock.specs.Sets as is
use Rattle.queue_lock.specs.Config.{Config}
use Rattle.queue_words.specs.Records.{relabelled}
use Rattle.queue_lock.specs.Invariant.{Inv, Own, Front, Alone, In, admitted, only}
use Rattle.queue_lock.specs.Rows.{Row}
use Rattle.queue_lock.specs.Shares.{owing_kept}
use Rattle.queue_lock.specs.Move.{Roles, no_waking, no_unlinked}

-- in each role
abbrev pub tests : Standing → Standing → List Bool
tests a l = cond (is.is_lining l) (is.is_lining a) (cond (is.is_lining a) false true) ∷ cond (is.is_writeway l) (is.is_writeway a) true ∷ cond (is.is_readway l) (is.is_readway a) true ∷ cond (is.is_waking l) false true ∷ cond (is.is_asking l) false true ∷ cond (is.is_unlinked l) false true ∷ cond (is.is_waiting a) (is.is_waiting l) true ∷ cond (is.is_wanting l) (is.is_wanting a) true ∷ cond (is.is_askable a) (cond (is.is_wanting l) (is.is_askable l) true) true ∷ cond (is.is_followed a) (is.is_followed l) true ∷ cond (is.is_arriving a) (is.is_arriving l) true ∷ cond (is.is_sleeping a) false true ∷ cond (is.is_ending_w a) (is.is_ending_w l) true ∷ cond (is.is_ending_r a) (is.is_ending_r l) true ∷ cond (is.is_owing_w l) (is.is_owing_w a) true ∷ cond (is.is_owing_r l) (is.is_owing_r a) true ∷ cond (is.is_owing_n l) (is.is_owing_n a) true ∷ []

-- in its own record and in line
abbrev pub own_tests : Standing → Standing → List Bool
own_tests a l = cond (is.is_fetching l) false true ∷ cond (is.is_admitted l) (is.is_admitted a) true ∷ cond (is.is_only l) (is.is_only a) true ∷ cond (is.is_writing l) (is.is_writing a) true ∷ cond (is.is_reading l) (is.is_reading a) true ∷ cond (is.is_on l) (is.is_on a) true ∷ cond (is.is_off l) (is.is_off a) true ∷ cond (is.is_wakes l) (is.is_wakes a) true ∷ cond (is.is_names l) (is.is_names a) true ∷ cond (is.is_linked l) (is.is_linked a) true ∷ cond (is.is_keeps l) (is.is_keeps a) true ∷ []

abbrev pub all : List Bool → Bool
all [] = true
all (b ∷ bs) = cond b (all bs) false

pub get : (bs : List Bool) → all bs ≡ true → (n : ℕ) → get_or bs n true ≡ true
get [] h n = refl
get (true ∷ bs) h zero = refl
get (true ∷ bs) h (suc n) = get bs h n
get (false ∷ bs) h n = absurd (both_ways false refl h)

pub imply : (x y : Bool) → cond x y true ≡ true → x ≡ true → y ≡ true
imply true y h q = h
imply false y h q = absurd (both_ways false refl q)

pub deny : (x : Bool) → cond x false true ≡ true → x ≡ false
deny true h = absurd (both_ways false refl h)
deny false h = refl

pub agree : (x y : Bool) → cond x y (cond y false true) ≡ true → x ≡ y
agree true true h = refl
agree true false h = sym h
agree false true h = h
agree false false h = refl

pub contra : (x y : Bool) → cond x y true ≡ true → y ≡ false → x ≡ false
contra true y h q = absurd (both_ways y q h)
contra false y h q = refl

pub more : (b x y : Bool) → (x ≡ true → y ≡ true) → cond b x true ≡ true → cond b y true ≡ true
more true x y f q = f q
more false x y f q = refl

module _ (w : Config) (i : ℕ) (a l : Standing) (v : Inv w) (o : Row (w.at i).standing a) (n : Row l l) where
  -- the rest given by hand
  pub nearly : all (tests a l) ≡ true → Own (relabelled (w.at i) l) → (is.fetching l ≡ true → (m : ℕ) → (w.at i).next ≡ Some m → (w.at m).class ≡ Reading) → (In w i → admitted (relabelled (w.at i) l) ≡ true → Front w i) → (In w i → (w.at i).class ≡ Writing → only (relabelled (w.at i) l) ≡ true → Alone w i) → Roles w i l
  nearly h own fetching admitted only =
      let t = get (tests a l) h in
      record {
        line = n.lining ∙ agree _ _ (t 0) ∙ sym o.lining;
        writeway = λ q. n.writeway ∙ contra _ _ (t 1) (sym o.writeway ∙ q);
        readway = λ q. n.readway ∙ contra _ _ (t 2) (sym o.readway ∙ q);
        own = own;
        fetching = fetching;
        admitted = admitted;
        only = only;
        waking = no_waking (n.waking ∙ deny _ (t 3));
        woken = λ x _ k z. n.waiting ∙ imply _ _ (t 6) (sym o.waiting ∙ (v.woken x i k z).0.standing);
        waiting = λ z. n.waiting ∙ imply _ _ (t 6) (sym o.waiting ∙ (v.named i z).0.standing);
        asking = λ q. absurd (both_ways _ (n.asking ∙ deny _ (t 4)) q);
        apart = λ q. absurd (both_ways _ (n.asking ∙ deny _ (t 4)) q);
        asked = λ x _ k z q.
            let b : is.wanting (w.at i).standing ≡ true = o.wanting ∙ imply _ _ (t 7) (sym n.wanting ∙ q) in
            (b, n.askable ∙ imply _ _ (imply _ _ (t 8) (sym o.askable ∙ (v.asked x i k z b).0)) (sym n.wanting ∙ q));
        unlinked = no_unlinked (n.unlinked ∙ deny _ (t 5));
        followed = λ x _ u z. n.followed ∙ imply _ _ (t 9) (sym o.followed ∙ (v.behind x i u z).standing);
        linking = λ x _ k z b c. n.arriving ∙ imply _ _ (t 10) (sym o.arriving ∙ c);
        owing = owing_kept _ _ _ _ (λ _ q. o.owing_w ∙ imply _ _ (t 14) (sym n.owing_w ∙ q)) (λ _ q. o.owing_r ∙ imply _ _ (t 15) (sym n.owing_r ∙ q)) (λ _ q. o.owing_n ∙ imply _ _ (t 16) (sym n.owing_n ∙ q));
        owed = λ p _ k z. absurd (both_ways _ (o.sleeping ∙ deny _ (t 11)) (v.owed p i k z).standing);
        ending_w = λ _ q. n.ending_w ∙ imply _ _ (t 12) (sym o.ending_w ∙ q);
        ending_r = λ _ q. n.ending_r ∙ imply _ _ (t 13) (sym o.ending_r ∙ q);
      }

  pub plain : all (tests a l) ≡ true → all (own_tests a l) ≡ true → Roles w i l
  plain h k =
      let t = get (own_tests a l) k in
      let u = v.own i in
      nearly h
      (record {
        writing = λ q. u.writing (o.writing ∙ imply _ _ (t 3) (sym n.writing ∙ q));
        reading = λ q. u.reading (o.reading ∙ imply _ _ (t 4) (sym n.reading ∙ q));
        on = λ q. u.on (o.on ∙ imply _ _ (t 5) (sym n.on ∙ q));
        off = λ q. u.off (o.off ∙ imply _ _ (t 6) (sym n.off ∙ q));
        wakes = λ q. u.wakes (o.wakes ∙ imply _ _ (t 7) (sym n.wakes ∙ q));
        names = λ q. u.names (o.names ∙ imply _ _ (t 8) (sym n.names ∙ q));
        linked = λ q. u.linked (o.linked ∙ imply _ _ (t 9) (sym n.linked ∙ q));
        keeps = λ q. u.keeps (o.keeps ∙ imply _ _ (t 10) (sym n.keeps ∙ q));
        behind = λ q. absurd (both_ways _ (n.unlinked ∙ deny _ (get (tests a l) h 5)) q);
      })
      (λ q. absurd (both_ways _ (n.fetching ∙ deny _ (t 0)) q))
      (λ z q. v.front i z (more (w.at i).state.blocked (is.admitted l) (is.admitted (w.at i).standing) (λ p. o.admitted ∙ imply _ _ (t 1) (sym n.admitted ∙ p)) q))
      (λ z c q. v.alone i z c (more (w.at i).state.blocked (is.only l) (is.only (w.at i).standing) (λ p. o.only ∙ imply _ _ (t 2) (sym n.only ∙ p)) q))
