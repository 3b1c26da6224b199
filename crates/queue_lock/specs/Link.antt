-- A slot's next is set: what has to hold of that slot and of the one named.
use Rattle.std.proofs.Common.{◌≡◌, ℕ, ◌<◌, true, false, Some, refl, ap, ◌∙◌, subst, inl, arith}
use Rattle.std.proofs.lemmas.Bool.{both_ways}
use Rattle.queue_words.specs.declared.record.Record.{Record}
use Rattle.queue_lock.specs.Sets as is
use Rattle.queue_lock.specs.Config.{Config}
use Rattle.queue_lock.specs.Invariant.{Inv, Owed, Next, owes, share_of, share, next_share}
use Rattle.queue_words.specs.Records.{linked}
use Rattle.queue_lock.specs.Facts as fact
use Rattle.queue_lock.specs.Shares.{share_apart}
use Rattle.queue_lock.specs.Alter.{altered, Roles, alter}
use Rattle.queue_lock.specs.Alter as al

pub record Links (w : Config) (p s : ℕ) : Type 0 where
  pub apart : s ≡ p → ⊥
  pub fetching : is.fetching (w.at p).standing ≡ false
  pub handing : is.handing (w.at p).standing ≡ false
  pub alone : (t : ℕ) → is.unlinked (w.at t).standing ≡ true → (w.at t).pred ≡ Some p → ⊥
  pub tail : w.tail ≡ Some p → ⊥
  pub owing : owes (w.at p) ≡ true → Owed p (w.at p) (w.at s) × (w.next_writer ≡ Some s → ⊥) × Next w p s

share_linked : (e : Record) (s n : ℕ) → share (linked e s) n ≡ share e n
unfolding share
share_linked e s n = refl

module _ (w : Config) (p s : ℕ) (v : Inv w) (h : Links w p s) where
  roles : Roles w p (linked (w.at p) s)
  roles =
      let o = v.own p in
      record {
        class = refl;
        pred = refl;
        line = refl;
        act = λ k. record { reads = k.reads; free = k.free };
        writeway = λ q. q;
        readway = λ q. q;
        own = record { writing = o.writing; reading = o.reading; on = o.on; off = o.off; wakes = o.wakes; names = o.names; linked = λ _. refl; keeps = o.keeps; behind = o.behind };
        fetching = λ f n q. absurd (both_ways _ h.fetching f);
        admitted = λ i k. v.front p i k;
        only = λ i k m. v.alone p i k m;
        waking = λ q x z. let y = v.woken p x q z in (λ d. both_ways _ (fact.waking_waits _ q) (subst (λ n. is.waiting (w.at n).standing ≡ true) d y.0.standing), y);
        waking_none = v.woken_unnamed p;
        waking_one = λ q t k. v.one_wakes t p k q;
        asking = λ q x z k. v.asked p x q z k;
        apart = fact.asking_wants _;
        woken = λ t _ k z. let y = (v.woken t p k z).0 in record { standing = y.standing; on = y.on };
        waiting = λ z. let y = (v.named p z).0 in record { standing = y.standing; on = y.on };
        asked = λ t _ k z m. (m, (v.asked t p k z m).0);
        behind = λ u k z. let b = v.behind p k u z in ((λ d. v.behind_other p u (z ∙ ap Some d)), record { next = b.next; standing = b.standing; plain = b.plain; noted = b.noted; reads = b.reads; free = b.free; linking = b.linking }, v.behind_tail p k u z, v.pairs k p (z, inl u));
        followed = λ t _ u z _. absurd (h.alone t u z);
        owing = λ k n z.
            let y = h.owing k in
            subst (λ x. (x ≡ p → ⊥) × Owed p (linked (w.at p) s) (w.at x) × (w.next_writer ≡ Some x → ⊥) × Next w p x) (fact.some_inj s n z) (h.apart, record { pred = y.0.pred; on = y.0.on; standing = y.0.standing; writes = y.0.writes; reads = y.0.reads }, y.1, y.2);
        owed = λ k _ _ _ y. record { pred = y.pred; on = y.on; standing = y.standing; writes = y.writes; reads = y.reads };
        tail = λ z. absurd (h.tail z);
      }

  same : share_of (altered w p (linked (w.at p) s) w.reader_count) p ≡ share_of w p
  same = al.to_here w p (linked (w.at p) s) w.reader_count (λ y. share y (next_share (altered w p (linked (w.at p) s) w.reader_count) y.next) ≡ share_of w p) p refl (share_linked (w.at p) s _ ∙ share_apart (w.at p) _ _ h.handing)

  pub link : p < 32 → Inv (altered w p (linked (w.at p) s) w.reader_count)
  link lt = alter w p (linked (w.at p) s) w.reader_count v roles lt (omega (arith, same))
