-- R4: a reader finds its predecessor blocked and followed by nobody, and notes itself there; else it counts itself.
use Rattle.std.proofs.Common.{◌≡◌, ℕ, ◌<◌, true, false, Some, refl, subst, inl, inr, arith}
use Rattle.std.proofs.lemmas.Bool.{both_ways, cases_Bool}
use Rattle.queue_words.specs.declared.standing.Standing.TheVariants.{R4, R5, R6, R7}
use Rattle.lock.specs.declared.words.Class.TheVariants.{Reading}
use Rattle.queue_words.specs.declared.record.Successor.TheVariants.{Nobody, Reader}
use Rattle.queue_lock.specs.Sets as is
use Rattle.queue_lock.specs.Config.{Config}
use Rattle.queue_words.specs.Records.{noted, relabelled}
use Rattle.queue_lock.specs.Invariant.{Inv, Front, Behind, Next, share_of, share, next_share}
use Rattle.queue_lock.specs.Rows.{Row, row, row_of}
use Rattle.queue_lock.specs.Facts as fact
use Rattle.queue_lock.specs.Shares.{owing_kept, share_asleep, share_none}
use Rattle.queue_lock.specs.Move.{moved, Roles, relabel, no_waking, was_unlinked}
use Rattle.queue_lock.specs.Alter as alter
use Rattle.queue_lock.specs.Mark.{mark}
use Rattle.queue_lock.specs.Turn.{stood, marked}

module _ (w : Config) (i : ℕ) (v : Inv w) (lt : i < 32) (e : (w.at i).standing ≡ R4) (p : ℕ) (q : (w.at i).pred ≡ Some p) where
  o : Row (w.at i).standing R4
  o = row_of e

  reads : (w.at i).class ≡ Reading
  reads = (v.own i).reading o.reading

  on : (w.at i).state.blocked ≡ true
  on = (v.own i).on o.on

  before : Behind (w.at i) (w.at p)
  before = v.behind i p o.unlinked q

  place : Next w p i
  place = v.pairs p i (q, inl o.unlinked)

  p_reads : (w.at p).class ≡ Reading
  p_reads = before.reads o.behind_reader

  -- not stored: the predecessor is awake
  front : (w.at p).state.blocked ≡ false → Front w i
  front b = elim (fact.followed_by (w.at p).standing before.standing) [
    | inl h ↦ let k = fact.in_line w v p h in fact.front_next w p i (v.front p k (rw b refl)) (record { reads = p_reads; free = b }) (place.line k) (fact.pair_in w v p i (q, inl o.unlinked))
    | inr (inl h) ↦ absurd (fact.one_class (w.at p) p_reads ((v.own p).writing (fact.writeway_writing _ h)))
    | inr (inr h) ↦ place.reader h
  ]

  counts : (w.at p).state.blocked ≡ false → Roles w i R7
  counts g =
      let n = row R7 in
      record {
        line = grind (arith, o, n);
        writeway = grind (arith, o, n);
        readway = grind (arith, o, n);
        own = grind (arith, o, n, v.own i);
        fetching = grind (arith, o, n);
        admitted = λ h a. front g;
        only = λ h k a. absurd (fact.one_class (w.at i) reads k);
        waking = no_waking n.waking;
        woken = λ t _ h z. grind (arith, o, (v.woken t i h z).0);
        waiting = λ z. grind (arith, o, (v.named i z).0);
        asking = grind (arith, o, n);
        apart = grind (arith, o, n);
        asked = grind (arith, o, n);
        unlinked = was_unlinked w i R7 v o.unlinked (λ k z b. let j : p ≡ k = cc (q, z) in record { next = b.next; standing = b.standing; plain = λ _. b.plain o.plain; noted = λ h. absurd (both_ways _ n.noted h); reads = λ _. b.reads o.behind_reader; free = λ _. subst (λ y. (w.at y).state.blocked ≡ false) j g; linking = λ h. absurd (both_ways _ n.linking h) });
        followed = λ x _ u z. n.followed;
        linking = λ x _ h z a b. n.arriving;
        owing = owing_kept _ _ _ _ (λ _ _. o.owing_w) (λ _ _. o.owing_r) (λ _ _. o.owing_n);
        owed = λ p _ h z. grind (arith, o, v.owed p i h z);
        ending_w = grind (arith, o, n);
        ending_r = grind (arith, o, n);
      }

  zero_r4 : share_of w i ≡ 0
  zero_r4 = share_none (w.at i) (next_share w (w.at i).next) o.counts_two o.counts_one o.sleeping_r o.handing

  abbrev counted : Config
  counted = moved w i R7 w.reader_count

  zero_r7 : share_of counted i ≡ 0
  zero_r7 = let n = row R7 in alter.to_here w i (relabelled (w.at i) R7) w.reader_count (λ y. share y (next_share counted y.next) ≡ 0) i refl (share_none (relabelled (w.at i) R7) _ n.counts_two n.counts_one n.sleeping_r n.handing)

  kept_awake : (w.at p).state.blocked ≡ false → Inv counted
  kept_awake g = relabel w i R7 v (counts g) w.reader_count lt (omega (arith, zero_r4, zero_r7))

  pub kept_other : ((w.at p).state.blocked ≡ true → (w.at p).state.successor ≡ Nobody → ⊥) → Inv counted
  kept_other d = kept_awake (elim (cases_Bool (w.at p).state.blocked) [ inl b ↦ absurd (d b (before.plain o.plain)) | inr b ↦ b ])

  -- stored: the predecessor is a blocked reader, and has not looked behind it
  arrives : (w.at p).state.blocked ≡ true → is.arriving (w.at p).standing ≡ true
  arrives g = fact.arriving _ before.standing
      (elim (cases_Bool (is.writing (w.at p).standing)) [ inr z ↦ z | inl z ↦ absurd (fact.one_class (w.at p) p_reads ((v.own p).writing z)) ])
      (elim (cases_Bool (is.off (w.at p).standing)) [ inr z ↦ z | inl z ↦ absurd (both_ways _ ((v.own p).off z) g) ])

  after : (w.at p).state.blocked ≡ true → Behind (relabelled (w.at i) R5) (noted (w.at p) Reader)
  after g = let n = row R5 in record { next = before.next; standing = before.standing; plain = λ h. absurd (both_ways _ n.plain h); noted = λ h. absurd (both_ways _ n.noted h); reads = λ h. absurd (both_ways _ n.behind_reader h); free = λ h. absurd (both_ways _ n.behind_open h); linking = λ _. inr (refl, arrives g) }

  pub kept_done : (w.at p).state.blocked ≡ true → Inv (marked (stood w i R5) p Reader)
  kept_done g =
      let k = row R6 in
      let n = row R5 in
      mark w i p R4 R6 R5 Reader v lt o k n q refl refl (grind (arith, o, k, v.own i)) (grind (arith, o, n, v.own i)) (after g)
      (λ j. share_none (w.at i) j o.counts_two o.counts_one o.sleeping_r o.handing)
      (λ j. share_asleep (relabelled (w.at i) R6) j k.sleeping_r on)
      (λ j. share_none (relabelled (w.at i) R5) j n.counts_two n.counts_one n.sleeping_r n.handing)
