-- A slot looks at a word and goes on: only its standing changes, and its share of the count stays.
use Rattle.std.specs.Prelude.{is_some}
use Rattle.std.proofs.Common.{◌≡◌, ℕ, ◌+◌, ◌<◌, Bool, true, false, cond, List, [], ◌∷◌, Some, sym, refl, ap, ◌∙◌, subst, inl, arith}
use Rattle.std.proofs.lemmas.Bool.{both_ways}
use Rattle.lock.specs.declared.words.Class.TheVariants.{Reading, Writing}
use Rattle.queue_words.specs.Records.{relabelled}
use Rattle.queue_words.specs.declared.record.Record.{Record}
use Rattle.queue_words.specs.declared.record.Successor.TheVariants.{Reader, Writer}
use Rattle.queue_words.specs.declared.standing.Standing.{Standing}
use Rattle.queue_words.specs.declared.standing.Standing.TheVariants.{I, V1, V2, V3, V4, V5, V6, R3, R4, R5, R6, R10, R11, R12, ReaderH, E1, E2, E3, E4, E5, E6, E8, E9}
use Rattle.queue_lock.specs.Sets as is
use Rattle.queue_lock.specs.Config.{Config}
use Rattle.queue_lock.specs.Invariant.{Inv, Own, owes, share, share_of, next_share, one_if}
use Rattle.queue_lock.specs.Alter as alter
use Rattle.queue_lock.specs.Every.{implies}
use Rattle.queue_lock.specs.Facts as fact
use Rattle.queue_lock.specs.Move.{moved, Roles, Unlinked, relabel, no_waking, no_unlinked, was_unlinked}
use Rattle.queue_lock.specs.Plain.{all, get, imply, deny, agree, contra, more, plain, own_tests, tests as plain-tests}
use Rattle.queue_lock.specs.Rows.{Row, row, row_of}
use Rattle.queue_lock.specs.Shares.{owing_kept, share_none}
use Rattle.queue_lock.specs.Turn.{stood}

-- what the two standings have to agree on, whoever stands behind the slot
abbrev pub tests : Standing → Standing → List Bool
tests a l = cond (is.is_lining l) (is.is_lining a) (cond (is.is_lining a) false true) ∷ cond (is.is_writeway l) (is.is_writeway a) true ∷ cond (is.is_readway l) (is.is_readway a) true ∷ cond (is.is_waking l) false true ∷ cond (is.is_asking l) false true ∷ cond (is.is_waiting a) (is.is_waiting l) true ∷ cond (is.is_wanting l) (is.is_wanting a) true ∷ cond (is.is_askable a) (cond (is.is_wanting l) (is.is_askable l) true) true ∷ cond (is.is_admitted l) (is.is_admitted a) true ∷ cond (is.is_only l) (is.is_only a) true ∷ cond (is.is_owing_w l) (is.is_owing_w a) true ∷ cond (is.is_owing_r l) (is.is_owing_r a) true ∷ cond (is.is_owing_n l) (is.is_owing_n a) true ∷ []

-- the two standings have one share
abbrev pub shares : Standing → Standing → List Bool
shares a l = cond (is.is_counts_two l) (is.is_counts_two a) (cond (is.is_counts_two a) false true) ∷ cond (is.is_counts_one l) (is.is_counts_one a) (cond (is.is_counts_one a) false true) ∷ cond (is.is_sleeping_r l) (is.is_sleeping_r a) (cond (is.is_sleeping_r a) false true) ∷ cond (is.is_handing l) false true ∷ cond (is.is_handing a) false true ∷ []

-- what the slot shows by the word that it has read
pub record Seen (w : Config) (i : ℕ) (l : Standing) : Type 0 where
  pub own : Own (relabelled (w.at i) l)
  pub fetching : is.fetching l ≡ true → (n : ℕ) → (w.at i).next ≡ Some n → (w.at n).class ≡ Reading
  pub unlinked : Unlinked w i l
  pub followed : (s : ℕ) → (s ≡ i → ⊥) → is.unlinked (w.at s).standing ≡ true → (w.at s).pred ≡ Some i → is.followed l ≡ true
  pub linking : (s : ℕ) → (s ≡ i → ⊥) → is.linking (w.at s).standing ≡ true → (w.at s).pred ≡ Some i → (w.at i).state.successor ≡ Reader → is.arriving (w.at i).standing ≡ true → is.arriving l ≡ true
  pub owed : (p : ℕ) → (p ≡ i → ⊥) → owes (w.at p) ≡ true → (w.at p).next ≡ Some i → l ≡ (w.at i).standing
  pub ending_w : w.tail ≡ Some i → is.ending_w (w.at i).standing ≡ true → is.ending_w l ≡ true
  pub ending_r : w.tail ≡ Some i → is.ending_r (w.at i).standing ≡ true → is.ending_r l ≡ true

linking_unlinked : (l : Standing) → is.linking l ≡ true → is.unlinked l ≡ true
unfolding is.linking is.unlinked
linking_unlinked l h = implies is.is_linking is.is_unlinked refl l h

module _ (w : Config) (i : ℕ) (a l : Standing) (v : Inv w) (o : Row (w.at i).standing a) (n : Row l l) where
  pub roles : all (tests a l) ≡ true → Seen w i l → Roles w i l
  roles h s =
      let t = get (tests a l) h in
      record {
        line = n.lining ∙ agree _ _ (t 0) ∙ sym o.lining;
        writeway = λ q. n.writeway ∙ contra _ _ (t 1) (sym o.writeway ∙ q);
        readway = λ q. n.readway ∙ contra _ _ (t 2) (sym o.readway ∙ q);
        own = s.own;
        fetching = s.fetching;
        admitted = λ z q. v.front i z (more (w.at i).state.blocked (is.admitted l) (is.admitted (w.at i).standing) (λ p. o.admitted ∙ imply _ _ (t 8) (sym n.admitted ∙ p)) q);
        only = λ z c q. v.alone i z c (more (w.at i).state.blocked (is.only l) (is.only (w.at i).standing) (λ p. o.only ∙ imply _ _ (t 9) (sym n.only ∙ p)) q);
        waking = no_waking (n.waking ∙ deny _ (t 3));
        woken = λ x _ k z. n.waiting ∙ imply _ _ (t 5) (sym o.waiting ∙ (v.woken x i k z).0.standing);
        waiting = λ z. n.waiting ∙ imply _ _ (t 5) (sym o.waiting ∙ (v.named i z).0.standing);
        asking = λ q. absurd (both_ways _ (n.asking ∙ deny _ (t 4)) q);
        apart = λ q. absurd (both_ways _ (n.asking ∙ deny _ (t 4)) q);
        asked = λ x _ k z q.
            let b : is.wanting (w.at i).standing ≡ true = o.wanting ∙ imply _ _ (t 6) (sym n.wanting ∙ q) in
            (b, n.askable ∙ imply _ _ (imply _ _ (t 7) (sym o.askable ∙ (v.asked x i k z b).0)) (sym n.wanting ∙ q));
        unlinked = s.unlinked;
        followed = s.followed;
        linking = s.linking;
        owing = owing_kept _ _ _ _ (λ _ q. o.owing_w ∙ imply _ _ (t 10) (sym n.owing_w ∙ q)) (λ _ q. o.owing_r ∙ imply _ _ (t 11) (sym n.owing_r ∙ q)) (λ _ q. o.owing_n ∙ imply _ _ (t 12) (sym n.owing_n ∙ q));
        owed = s.owed;
        ending_w = s.ending_w;
        ending_r = s.ending_r;
      }

  -- the share of the new record
  same_share : all (shares a l) ≡ true → (m k : ℕ) → share (relabelled (w.at i) l) k ≡ share (w.at i) m
  unfolding share
  same_share h m k =
      let t = get (shares a l) h in
      let two : is.counts_two (w.at i).standing ≡ is.counts_two l = o.counts_two ∙ sym (agree _ _ (t 0)) ∙ sym n.counts_two in
      let one : is.counts_one (w.at i).standing ≡ is.counts_one l = o.counts_one ∙ sym (agree _ _ (t 1)) ∙ sym n.counts_one in
      let sleep : is.sleeping_r (w.at i).standing ≡ is.sleeping_r l = o.sleeping_r ∙ sym (agree _ _ (t 2)) ∙ sym n.sleeping_r in
      rw (two, one, sleep, n.handing ∙ deny _ (t 3), o.handing ∙ deny _ (t 4)) refl

  pub stays : all (shares a l) ≡ true → share_of (stood w i l) i ≡ share_of w i
  stays h = alter.to_here w i (relabelled (w.at i) l) w.reader_count (λ y. share y (next_share (stood w i l) y.next) ≡ share_of w i) i refl (same_share h _ _)

  pub looks : i < 32 → all (tests a l) ≡ true → all (shares a l) ≡ true → Seen w i l → Inv (stood w i l)
  looks lt h k s = relabel w i l v (roles h s) w.reader_count lt (omega (arith, stays k))

  -- the slot's next is known: it is not the tail, and nobody is about to link behind it
  next_seen : (m : ℕ) → (w.at i).next ≡ Some m → is.is_sleeping a ≡ false → is.is_unlinked l ≡ false → Own (relabelled (w.at i) l) → (is.fetching l ≡ true → (k : ℕ) → (w.at i).next ≡ Some k → (w.at k).class ≡ Reading) → Seen w i l
  next_seen m q z u own fetching =
      let tail : w.tail ≡ Some i → ⊥ = λ t. fact.nobody (w.at i).next (ap is_some q) (v.tailed i t).next in
      let behind : (s : ℕ) → is.unlinked (w.at s).standing ≡ true → (w.at s).pred ≡ Some i → ⊥ = λ s u y. fact.nobody (w.at i).next (ap is_some q) (v.behind s i u y).next in
      record {
        own = own;
        fetching = fetching;
        unlinked = no_unlinked (n.unlinked ∙ u);
        followed = λ s _ u y. absurd (behind s u y);
        linking = λ s _ u y _ _. absurd (behind s (linking_unlinked _ u) y);
        owed = λ p _ k y. absurd (both_ways _ (o.sleeping ∙ z) (v.owed p i k y).standing);
        ending_w = λ t. absurd (tail t);
        ending_r = λ t. absurd (tail t);
      }

  -- the slot is not the tail
  last_seen : (w.tail ≡ Some i → ⊥) → is.is_sleeping a ≡ false → is.is_unlinked l ≡ false → Own (relabelled (w.at i) l) → is.is_fetching l ≡ false → is.is_followed l ≡ true → is.is_arriving a ≡ false → Seen w i l
  last_seen tail z u own f b c = record {
    own = own;
    unlinked = no_unlinked (n.unlinked ∙ u);
    fetching = λ h. absurd (both_ways _ (n.fetching ∙ f) h);
    followed = λ _ _ _ _. n.followed ∙ b;
    linking = λ _ _ _ _ _ h. absurd (both_ways _ (o.arriving ∙ c) h);
    owed = λ p _ k y. absurd (both_ways _ (o.sleeping ∙ z) (v.owed p i k y).standing);
    ending_w = λ t. absurd (tail t);
    ending_r = λ t. absurd (tail t);
  }

  -- the slot is in line, and nobody has to wake it
  pub line_seen : Own (relabelled (w.at i) l) → ((p : ℕ) → owes (w.at p) ≡ true → (w.at p).next ≡ Some i → ⊥) → Unlinked w i l → ((w.at i).state.successor ≡ Reader → is.arriving (w.at i).standing ≡ true → is.arriving l ≡ true) → is.is_fetching l ≡ false → is.is_followed l ≡ true → is.is_ending_w a ≡ false → is.is_ending_r a ≡ false → Seen w i l
  line_seen own free u arrives f b x y = record {
    own = own;
    unlinked = u;
    fetching = λ h. absurd (both_ways _ (n.fetching ∙ f) h);
    followed = λ _ _ _ _. n.followed ∙ b;
    linking = λ _ _ _ _ r h. arrives r h;
    owed = λ p _ k z. absurd (free p k z);
    ending_w = λ _ h. absurd (both_ways _ (o.ending_w ∙ x) h);
    ending_r = λ _ h. absurd (both_ways _ (o.ending_r ∙ y) h);
  }

  -- the new standing asks nothing more
  pub goes : i < 32 → all (plain-tests a l) ≡ true → all (own_tests a l) ≡ true → all (shares a l) ≡ true → Inv (stood w i l)
  goes lt h k s = relabel w i l v (plain w i a l v o n h k) w.reader_count lt (omega (arith, stays s))

-- at V6 the share is that of the next
handing_share : (e : Record) (k : ℕ) → share (relabelled e V6) k ≡ k
unfolding share
handing_share e k = let n = row V6 in rw (n.counts_two, n.counts_one, n.sleeping_r, n.handing) refl

pub handed : (w : Config) (i c m : ℕ) → (w.at i).next ≡ Some m → share_of (moved w i V6 c) i ≡ one_if (w.at m).class
handed w i c m q =
    let k : ((moved w i V6 c).at m).class ≡ (w.at m).class = alter.split w i (relabelled (w.at i) V6) c (λ y. y.class ≡ (w.at m).class) m (λ z. ap (λ x. (w.at x).class) (sym z)) (λ _. refl) in
    alter.to_here w i (relabelled (w.at i) V6) c (λ y. share y (next_share (moved w i V6 c) y.next) ≡ one_if (w.at m).class) i refl (handing_share (w.at i) _ ∙ ap (next_share (moved w i V6 c)) q ∙ ap one_if k)

module _ (w : Config) (i : ℕ) (v : Inv w) (lt : i < 32) where
  pub v1_none : (w.at i).standing ≡ V1 → Inv (stood w i V2)
  v1_none e = goes w i V1 V2 v (row_of e) (row V2) lt refl refl refl

  pub v1_some : (w.at i).standing ≡ V1 → (m : ℕ) → (w.at i).next ≡ Some m → Inv (stood w i V3)
  v1_some e m q = let o = row_of e in let n = row V3 in looks w i V1 V3 v o n lt refl refl (next_seen w i V1 V3 v o n m q refl refl (grind (arith, o, n, v.own i)) (grind (arith, n)))

  pub v2_other : (w.at i).standing ≡ V2 → (w.tail ≡ Some i → ⊥) → Inv (stood w i V3)
  v2_other e t = let o = row_of e in let n = row V3 in looks w i V2 V3 v o n lt refl refl (last_seen w i V2 V3 v o n t refl refl (grind (arith, o, n, v.own i)) refl refl refl)

  pub v3_some : (w.at i).standing ≡ V3 → (m : ℕ) → (w.at i).next ≡ Some m → Inv (stood w i V4)
  v3_some e m q = let o = row_of e in let n = row V4 in looks w i V3 V4 v o n lt refl refl (next_seen w i V3 V4 v o n m q refl refl (grind (arith, o, n, v.own i)) (grind (arith, n)))

  pub v4_reads : (w.at i).standing ≡ V4 → (m : ℕ) → (w.at i).next ≡ Some m → (w.at m).class ≡ Reading → Inv (stood w i V5)
  v4_reads e m q c = let o = row_of e in let n = row V5 in looks w i V4 V5 v o n lt refl refl (next_seen w i V4 V5 v o n m q refl refl (grind (arith, o, n, v.own i)) (λ _ k z. let j : m ≡ k = cc (q, z) in subst (λ x. (w.at x).class ≡ Reading) j c))

  -- the next writes, and has no share
  pub v4_writes : (w.at i).standing ≡ V4 → (m : ℕ) → (w.at i).next ≡ Some m → (w.at m).class ≡ Writing → Inv (stood w i V6)
  v4_writes e m q c =
      let o = row_of e in
      let none = share_none (w.at i) (next_share w (w.at i).next) o.counts_two o.counts_one o.sleeping_r o.handing in
      let next = handed w i w.reader_count m q ∙ ap one_if c in
      relabel w i V6 v (plain w i V4 V6 v o (row V6) refl refl) w.reader_count lt (omega arith)

  -- a reader that was woken has its share
  woken_share : (w.at i).standing ≡ R6 → (w.at i).state.blocked ≡ false → w.reader_count + share_of w i ≡ w.reader_count + share_of (stood w i R10) i
  unfolding share
  woken_share e b = grind (arith, row_of e, row R10)

  pub r6_off : (w.at i).standing ≡ R6 → (w.at i).state.blocked ≡ false → Inv (stood w i R10)
  r6_off e b =
      let o = row_of e in
      let n = row R10 in
      relabel w i R10 v (roles w i R6 R10 v o n refl (line_seen w i R6 R10 v o n (grind (arith, o, n, v.own i)) (λ p k z. both_ways _ b (v.owed p i k z).on) (no_unlinked n.unlinked) (λ _ _. n.arriving) refl refl refl refl)) w.reader_count lt (woken_share e b)

  not_owed : is.sleeping (w.at i).standing ≡ false → (p : ℕ) → owes (w.at p) ≡ true → (w.at p).next ≡ Some i → ⊥
  not_owed h p k z = both_ways _ h (v.owed p i k z).standing

  -- a reader behind another looks at the class of the one before it
  pub r3_reads : (w.at i).standing ≡ R3 → (p : ℕ) → (w.at i).pred ≡ Some p → (w.at p).class ≡ Reading → Inv (stood w i R4)
  r3_reads e p q c =
      let o = row_of e in
      let n = row R4 in
      let u : Unlinked w i R4 = was_unlinked w i R4 v o.unlinked (λ k z b. record { next = b.next; standing = b.standing; plain = λ _. b.plain o.plain; noted = λ h. absurd (both_ways _ n.noted h); reads = λ _. let j : p ≡ k = cc (q, z) in subst (λ x. (w.at x).class ≡ Reading) j c; free = λ h. absurd (both_ways _ n.behind_open h); linking = λ h. absurd (both_ways _ n.linking h) }) in
      looks w i R3 R4 v o n lt refl refl (line_seen w i R3 R4 v o n (grind (arith, o, n, v.own i)) (not_owed o.sleeping) u (λ _ _. n.arriving) refl refl refl refl)

  pub r3_writes : (w.at i).standing ≡ R3 → (p : ℕ) → (w.at i).pred ≡ Some p → (w.at p).class ≡ Writing → Inv (stood w i R5)
  r3_writes e p q c =
      let o = row_of e in
      let n = row R5 in
      let u : Unlinked w i R5 = was_unlinked w i R5 v o.unlinked (λ k z b. record { next = b.next; standing = b.standing; plain = λ h. absurd (both_ways _ n.plain h); noted = λ h. absurd (both_ways _ n.noted h); reads = λ h. absurd (both_ways _ n.behind_reader h); free = λ h. absurd (both_ways _ n.behind_open h); linking = λ _. let j : p ≡ k = cc (q, z) in inl (subst (λ x. (w.at x).class ≡ Writing) j c) }) in
      looks w i R3 R5 v o n lt refl refl (line_seen w i R3 R5 v o n (grind (arith, o, n, v.own i)) (not_owed o.sleeping) u (λ _ _. n.arriving) refl refl refl refl)

  pub r10_reader : (w.at i).standing ≡ R10 → (w.at i).state.successor ≡ Reader → Inv (stood w i R11)
  r10_reader e q = let o = row_of e in let n = row R11 in looks w i R10 R11 v o n lt refl refl (line_seen w i R10 R11 v o n (grind (arith, o, n, v.own i)) (not_owed o.sleeping) (no_unlinked n.unlinked) (λ _ _. n.arriving) refl refl refl refl)

  pub r10_other : (w.at i).standing ≡ R10 → ((w.at i).state.successor ≡ Reader → ⊥) → Inv (stood w i ReaderH)
  r10_other e d = let o = row_of e in let n = row ReaderH in looks w i R10 ReaderH v o n lt refl refl (line_seen w i R10 ReaderH v o n (grind (arith, o, n, v.own i)) (not_owed o.sleeping) (no_unlinked n.unlinked) (λ z _. absurd (d z)) refl refl refl refl)

  pub r11_some : (w.at i).standing ≡ R11 → (m : ℕ) → (w.at i).next ≡ Some m → Inv (stood w i R12)
  r11_some e m q = let o = row_of e in let n = row R12 in looks w i R11 R12 v o n lt refl refl (next_seen w i R11 R12 v o n m q refl refl (grind (arith, o, n, v.own i)) (grind (arith, n)))

  pub e1_none : (w.at i).standing ≡ E1 → Inv (stood w i E2)
  e1_none e = goes w i E1 E2 v (row_of e) (row E2) lt refl refl refl

  pub e1_some : (w.at i).standing ≡ E1 → (m : ℕ) → (w.at i).next ≡ Some m → Inv (stood w i E3)
  e1_some e m q = let o = row_of e in let n = row E3 in looks w i E1 E3 v o n lt refl refl (next_seen w i E1 E3 v o n m q refl refl (grind (arith, o, n, v.own i)) (grind (arith, n)))

  pub e2_other : (w.at i).standing ≡ E2 → (w.tail ≡ Some i → ⊥) → Inv (stood w i E3)
  e2_other e t = let o = row_of e in let n = row E3 in looks w i E2 E3 v o n lt refl refl (last_seen w i E2 E3 v o n t refl refl (grind (arith, o, n, v.own i)) refl refl refl)

  pub e3_some : (w.at i).standing ≡ E3 → (m : ℕ) → (w.at i).next ≡ Some m → Inv (stood w i E4)
  e3_some e m q = let o = row_of e in let n = row E4 in looks w i E3 E4 v o n lt refl refl (next_seen w i E3 E4 v o n m q refl refl (grind (arith, o, n, v.own i)) (grind (arith, n)))

  pub e4_writer : (w.at i).standing ≡ E4 → (w.at i).state.successor ≡ Writer → Inv (stood w i E5)
  e4_writer e q =
      let o = row_of e in
      let n = row E5 in
      let m = fact.the_slot (w.at i).next ((v.own i).linked o.linked) in
      looks w i E4 E5 v o n lt refl refl (next_seen w i E4 E5 v o n m.0 m.1 refl refl (grind (arith, o, n, v.own i)) (grind (arith, n)))

  pub e4_other : (w.at i).standing ≡ E4 → Inv (stood w i E6)
  e4_other e = goes w i E4 E6 v (row_of e) (row E6) lt refl refl refl

  pub e8_more : (w.at i).standing ≡ E8 → Inv (stood w i I)
  e8_more e = goes w i E8 I v (row_of e) (row I) lt refl refl refl

  pub e9_other : (w.at i).standing ≡ E9 → Inv (stood w i I)
  e9_other e = goes w i E9 I v (row_of e) (row I) lt refl refl refl
