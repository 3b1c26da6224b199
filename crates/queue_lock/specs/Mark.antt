-- A slot notes itself behind its predecessor and goes on to link: cut in three, through a standing at which nothing is asked of
-- the predecessor.
use Rattle.std.specs.Prelude.{is_some}
use Rattle.std.proofs.Common.{◌≡◌, ℕ, ◌<◌, Bool, true, false, cond, List, [], ◌∷◌, get_or, Some, sym, refl, ap, ◌∙◌, subst, inl, inr, arith}
use mathlib.Core.Path.{fun_ext}
use Rattle.std.proofs.lemmas.Bool.{both_ways, cases_eq}
use Rattle.queue_words.specs.Records.{noted, relabelled}
use Rattle.queue_words.specs.declared.record.Record.{Record}
use Rattle.queue_words.specs.declared.record.Successor.{Successor}
use Rattle.queue_words.specs.declared.record.Successor.TheVariants.{Nobody}
use Rattle.queue_words.specs.declared.standing.Standing.{Standing}
use Rattle.queue_words.specs.declared.standing.Standing.TheVariants.{I}
use Rattle.queue_lock.specs.Sets as is
use Rattle.queue_lock.specs.Config.{Config}
use Rattle.queue_lock.specs.Invariant.{Inv, Own, Behind, Next, owes, share, share_of, next_share}
use Rattle.queue_lock.specs.Alter as alter
use Rattle.queue_lock.specs.Facts as fact
use Rattle.queue_lock.specs.Looks.{line_seen, tests as looks-tests, roles as looks-roles}
use Rattle.queue_lock.specs.Move.{Roles, relabel, no_waking, no_unlinked, roles as move-roles}
use Rattle.queue_lock.specs.Note.{Notes, note, roles as note-roles}
use Rattle.queue_lock.specs.Plain.{all, get, imply, deny, agree}
use Rattle.queue_lock.specs.Rows.{Row, row}
use Rattle.queue_lock.specs.Shares.{owing_kept}
use Rattle.queue_lock.specs.Turn.{stood, marked}

-- the standing a before the note, m in between, l after it
abbrev pub tests : Standing → Standing → Standing → List Bool
tests a m l = is.is_unlinked a ∷ is.is_plain a ∷ is.is_on a ∷ cond (is.is_sleeping a) false true ∷ cond (is.is_waiting a) false true ∷ cond (is.is_wanting l) (is.is_wanting a) true ∷ cond (is.is_askable a) false true ∷ cond (is.is_unlinked m) false true ∷ is.is_followed m ∷ cond (is.is_fetching m) false true ∷ cond (is.is_arriving a) (is.is_arriving m) true ∷ cond (is.is_ending_w a) false true ∷ cond (is.is_ending_r a) false true ∷ cond (is.is_ending_w m) false true ∷ cond (is.is_ending_r m) false true ∷ cond (is.is_lining l) (is.is_lining m) (cond (is.is_lining m) false true) ∷ cond (is.is_writeway l) false true ∷ cond (is.is_readway l) false true ∷ cond (is.is_waking l) false true ∷ cond (is.is_asking l) false true ∷ cond (is.is_admitted l) false true ∷ cond (is.is_only l) false true ∷ cond (is.is_fetching l) false true ∷ is.is_followed l ∷ cond (is.is_arriving m) (is.is_arriving l) true ∷ cond (is.is_owing_w l) (is.is_owing_w m) true ∷ cond (is.is_owing_r l) (is.is_owing_r m) true ∷ cond (is.is_owing_n l) (is.is_owing_n m) true ∷ []

module _ (w : Config) (i p : ℕ) (a m l : Standing) (c : Successor) (v : Inv w) (lt : i < 32) (o : Row (w.at i).standing a) (k : Row m m) (n : Row l l) (q : (w.at i).pred ≡ Some p) (ok : all (tests a m l) ≡ true) where
  t : (j : ℕ) → get_or (tests a m l) j true ≡ true
  t = get (tests a m l) ok

  unlinked : is.unlinked (w.at i).standing ≡ true
  unlinked = o.unlinked ∙ t 0

  on : (w.at i).state.blocked ≡ true
  on = (v.own i).on (o.on ∙ t 2)

  before : Behind (w.at i) (w.at p)
  before = v.behind i p unlinked q

  nobody : (w.at p).state.successor ≡ Nobody
  nobody = before.plain (o.plain ∙ t 1)

  apart_p : p ≡ i → ⊥
  apart_p z = v.behind_other i unlinked (q ∙ ap Some z)

  abbrev one : Config
  one = stood w i m

  abbrev two : Config
  two = marked one p c

  not_owed : (j : ℕ) → owes (w.at j) ≡ true → (w.at j).next ≡ Some i → ⊥
  not_owed j h z = both_ways _ (o.sleeping ∙ deny _ (t 3)) (v.owed j i h z).standing

  module _ (go : all (looks-tests a m) ≡ true) (own-m : Own (relabelled (w.at i) m)) (own-l : Own (relabelled (w.at i) l)) (after : Behind (relabelled (w.at i) l) (noted (w.at p) c)) (none-a : (j : ℕ) → share (w.at i) j ≡ 0) (none-m : (j : ℕ) → share (relabelled (w.at i) m) j ≡ 0) (none-l : (j : ℕ) → share (relabelled (w.at i) l) j ≡ 0) where
    -- first part: slot i steps aside
    aside : Roles w i m
    aside = looks-roles w i a m v o k go (line_seen w i a m v o k own-m not_owed (no_unlinked (k.unlinked ∙ deny _ (t 7))) (λ _ h. k.arriving ∙ imply _ _ (t 10) (sym o.arriving ∙ h)) (deny _ (t 9)) (t 8) (deny _ (t 11)) (deny _ (t 12)))

    none_one : share_of one i ≡ 0
    none_one = alter.to_here w i (relabelled (w.at i) m) w.reader_count (λ y. share y (next_share one y.next) ≡ 0) i refl (none-m _)

    one_inv : Inv one
    one_inv = relabel w i m v aside w.reader_count lt (omega (arith, none-a (next_share w (w.at i).next), none_one))

    same_p : one.at p ≡ w.at p
    same_p = alter.there w i (relabelled (w.at i) m) w.reader_count p apart_p

    -- second part: the note
    notes : Notes one p c
    notes = record {
      wakes = λ h. absurd (cc (nobody, (v.own p).wakes (subst (λ y. is.wakes y.standing ≡ true) same_p h)));
      names = λ h. absurd (both_ways _ (fact.not_names _ before.standing) (subst (λ y. is.names y.standing ≡ true) same_p h));
      next = ap (λ y. y.next) same_p ∙ before.next;
      alone = λ s u z. elim (cases_eq s i) [
        | inl j ↦ both_ways _ (k.unlinked ∙ deny _ (t 7)) (alter.from_here w i (relabelled (w.at i) m) w.reader_count (λ y. is.unlinked y.standing ≡ true) s j u)
        | inr d ↦ d (fact.one_successor w v s i p (alter.from_there w i (relabelled (w.at i) m) w.reader_count (λ y. is.unlinked y.standing ≡ true) s d u) unlinked (alter.from_there w i (relabelled (w.at i) m) w.reader_count (λ y. y.pred ≡ Some p) s d z) q)
      ];
      tail = v.behind_tail i p unlinked q;
    }

    two_inv : Inv two
    two_inv = note one p c one_inv notes (fact.near w v is.followed (row I).followed p before.standing)

    same_i : two.at i ≡ relabelled (w.at i) m
    same_i = alter.there one p (noted (one.at p) c) w.reader_count i (λ z. apart_p (sym z)) ∙ alter.here w i (relabelled (w.at i) m) w.reader_count

    same_two : two.at p ≡ noted (w.at p) c
    same_two = alter.here one p (noted (one.at p) c) w.reader_count ∙ ap (λ y. noted y c) same_p

    same_rest : (s : ℕ) → (s ≡ i → ⊥) → (s ≡ p → ⊥) → two.at s ≡ w.at s
    same_rest s d f = alter.there one p (noted (one.at p) c) w.reader_count s f ∙ alter.there w i (relabelled (w.at i) m) w.reader_count s d

    place : Next two p i
    place = alter.next one p (noted (one.at p) c) w.reader_count one_inv (note-roles one p c one_inv notes) p i (alter.next w i (relabelled (w.at i) m) w.reader_count v (move-roles w i m v aside) p i (v.pairs p i (q, inl unlinked)))

    o2 : Row (two.at i).standing m
    o2 = subst (λ y. Row y.standing m) (sym same_i) k

    -- what is seen of another slot was so before
    back : (P : Record → Type 0) → (P (noted (w.at p) c) → P (w.at p)) → (s : ℕ) → (s ≡ i → ⊥) → P (two.at s) → P (w.at s)
    back P f s d h = elim (cases_eq s p) [
      | inl z ↦ subst (λ y. P (w.at y)) (sym z) (f (subst P (ap two.at z ∙ same_two) h))
      | inr g ↦ subst P (same_rest s d g) h
    ]

    on_two : (two.at i).state.blocked ≡ true
    on_two = ap (λ y. y.state.blocked) same_i ∙ on

    -- third part: slot i goes on to link
    roles : Roles two i l
    roles = record {
      line = n.lining ∙ agree _ _ (t 15) ∙ sym o2.lining;
      writeway = λ _. n.writeway ∙ deny _ (t 16);
      readway = λ _. n.readway ∙ deny _ (t 17);
      own = subst (λ y. Own (relabelled y l)) (sym same_i) own-l;
      fetching = λ h. absurd (both_ways _ (n.fetching ∙ deny _ (t 22)) h);
      admitted = λ _ h. absurd (both_ways _ (n.admitted ∙ deny _ (t 20)) (rw (on_two) at h));
      only = λ _ _ h. absurd (both_ways _ (n.only ∙ deny _ (t 21)) (rw (on_two) at h));
      waking = no_waking (n.waking ∙ deny _ (t 18));
      woken = λ s d h z. absurd (both_ways _ (o.waiting ∙ deny _ (t 4)) (v.woken s i (back (λ y. is.waking y.standing ≡ true) (λ g. g) s d h) (back (λ y. y.w ≡ Some i) (λ g. g) s d z)).0.standing);
      waiting = λ z. absurd (both_ways _ (o.waiting ∙ deny _ (t 4)) (v.named i z).0.standing);
      asking = λ h. absurd (both_ways _ (n.asking ∙ deny _ (t 19)) h);
      apart = λ h. absurd (both_ways _ (n.asking ∙ deny _ (t 19)) h);
      asked = λ s d h z b. absurd (both_ways _ (o.askable ∙ deny _ (t 6)) (v.asked s i (back (λ y. is.asking y.standing ≡ true) (λ g. g) s d h) (back (λ y. y.w ≡ Some i) (λ g. g) s d z) (o.wanting ∙ imply _ _ (t 5) (sym n.wanting ∙ b))).0);
      unlinked = λ _ j z.
          let g : Some p ≡ Some j = sym q ∙ (sym (ap (λ y. y.pred) same_i) ∙ z) in
          let h : p ≡ j = cc g in
          subst (λ y. (y ≡ i → ⊥) × Behind (relabelled (two.at i) l) (two.at y) × (two.tail ≡ Some y → ⊥) × Next two y i) h (apart_p, subst (λ y. Behind (relabelled y l) (two.at p)) (sym same_i) (subst (Behind (relabelled (w.at i) l)) (sym same_two) after), v.behind_tail i p unlinked q, place);
      followed = λ _ _ _ _. n.followed ∙ t 23;
      linking = λ _ _ _ _ _ h. n.arriving ∙ imply _ _ (t 24) (sym o2.arriving ∙ h);
      owing = owing_kept _ _ _ _ (λ _ h. o2.owing_w ∙ imply _ _ (t 25) (sym n.owing_w ∙ h)) (λ _ h. o2.owing_r ∙ imply _ _ (t 26) (sym n.owing_r ∙ h)) (λ _ h. o2.owing_n ∙ imply _ _ (t 27) (sym n.owing_n ∙ h));
      owed = λ j d h z. absurd (let y = back (λ y. (owes y ≡ true) × (y.next ≡ Some i)) (λ g. absurd (fact.nobody (w.at p).next (ap is_some g.1) before.next)) j d (h, z) in not_owed j y.0 y.1);
      ending_w = λ _ h. absurd (both_ways _ (o2.ending_w ∙ deny _ (t 13)) h);
      ending_r = λ _ h. absurd (both_ways _ (o2.ending_r ∙ deny _ (t 14)) h);
    }

    abbrev three : Config
    three = stood two i l

    none_two : share_of two i ≡ 0
    none_two = subst (λ y. share y (next_share two y.next) ≡ 0) (sym same_i) (none-m _)

    none_three : share_of three i ≡ 0
    none_three = alter.to_here two i (relabelled (two.at i) l) w.reader_count (λ y. share y (next_share three y.next) ≡ 0) i refl (subst (λ y. share (relabelled y l) (next_share three y.next) ≡ 0) (sym same_i) (none-l _))

    three_inv : Inv three
    three_inv = relabel two i l two_inv roles w.reader_count lt (omega (arith, none_two, none_three))

    -- the three parts are one step
    abbrev whole : Config
    whole = marked (stood w i l) p c

    same : (j : ℕ) → three.at j ≡ whole.at j
    same j =
        let x : Record = noted ((stood w i l).at p) c in
        elim (cases_eq j i) [
          | inl z ↦ subst (λ y. three.at y ≡ whole.at y) (sym z) (alter.here two i (relabelled (two.at i) l) w.reader_count ∙ ap (λ y. relabelled y l) same_i ∙ sym (alter.there (stood w i l) p x w.reader_count i (λ y. apart_p (sym y)) ∙ alter.here w i (relabelled (w.at i) l) w.reader_count))
          | inr d ↦ alter.there two i (relabelled (two.at i) l) w.reader_count j d ∙ elim (cases_eq j p) [
            | inl z ↦ (ap two.at z ∙ same_two) ∙ sym (ap whole.at z ∙ (alter.here (stood w i l) p x w.reader_count ∙ ap (λ y. noted y c) (alter.there w i (relabelled (w.at i) l) w.reader_count p apart_p)))
            | inr g ↦ same_rest j d g ∙ sym (alter.there (stood w i l) p x w.reader_count j g ∙ alter.there w i (relabelled (w.at i) l) w.reader_count j d)
          ]
        ]

    pub mark : Inv whole
    mark = subst Inv (ap {B = Config} (λ f. record { at = f; tail = w.tail; next_writer = w.next_writer; reader_count = w.reader_count; line = w.line }) (fun_ext same)) three_inv
