-- A slot is noted behind another: what has to hold of that other.
use Rattle.std.specs.Prelude.{is_some}
use Rattle.std.proofs.Common.{◌≡◌, ℕ, ◌<◌, true, Some, None, refl, ap, ◌∙◌, subst, inl, arith}
use Rattle.std.proofs.lemmas.Bool.{both_ways}
use Rattle.queue_words.specs.declared.record.Successor.TheVariants.{Reader, Writer}
use Rattle.queue_lock.specs.Sets as is
use Rattle.queue_lock.specs.Config.{Config}
use Rattle.queue_lock.specs.Invariant.{Inv, share_of, share, next_share}
use Rattle.queue_words.specs.declared.record.Successor.{Successor}
use Rattle.queue_words.specs.Records.{noted}
use Rattle.queue_lock.specs.Facts as fact
use Rattle.queue_lock.specs.Alter.{altered, Roles, alter}
use Rattle.queue_lock.specs.Alter as al

pub record Notes (w : Config) (p : ℕ) (a : Successor) : Type 0 where
  pub wakes : is.wakes (w.at p).standing ≡ true → a ≡ Reader
  pub names : is.names (w.at p).standing ≡ true → a ≡ Writer
  pub next : (w.at p).next ≡ None
  pub alone : (s : ℕ) → is.unlinked (w.at s).standing ≡ true → (w.at s).pred ≡ Some p → ⊥
  pub tail : w.tail ≡ Some p → ⊥

module _ (w : Config) (p : ℕ) (a : Successor) (v : Inv w) (h : Notes w p a) where
  pub roles : Roles w p (noted (w.at p) a)
  roles =
      let o = v.own p in
      record {
        class = refl;
        pred = refl;
        line = refl;
        act = λ k. record { reads = k.reads; free = k.free };
        writeway = λ q. q;
        readway = λ q. q;
        own = record { writing = o.writing; reading = o.reading; on = o.on; off = o.off; wakes = h.wakes; names = h.names; linked = o.linked; keeps = o.keeps; behind = o.behind };
        fetching = λ f n q. v.fetched p n f q;
        admitted = λ i k. v.front p i k;
        only = λ i k m. v.alone p i k m;
        waking = λ q x z. let y = v.woken p x q z in (λ d. both_ways _ (fact.waking_waits _ q) (subst (λ n. is.waiting (w.at n).standing ≡ true) d y.0.standing), y);
        waking_none = v.woken_unnamed p;
        waking_one = λ q t k. v.one_wakes t p k q;
        asking = λ q x z k. v.asked p x q z k;
        apart = fact.asking_wants _;
        woken = λ t _ k z. let y = (v.woken t p k z).0 in record { standing = y.standing; on = y.on };
        waiting = λ z. let y = (v.named p z).0 in record { standing = y.standing; on = y.on };
        asked = λ t _ k z m. (m, (v.asked t p k z m).0);
        behind = λ u k z. let b = v.behind p k u z in ((λ d. v.behind_other p u (z ∙ ap Some d)), record { next = b.next; standing = b.standing; plain = b.plain; noted = b.noted; reads = b.reads; free = b.free; linking = b.linking }, v.behind_tail p k u z, v.pairs k p (z, inl u));
        followed = λ s _ u z _. absurd (h.alone s u z);
        owing = λ _ s z. absurd (fact.nobody (w.at p).next (ap is_some z) h.next);
        owed = λ k _ _ _ y. record { pred = y.pred; on = y.on; standing = y.standing; writes = y.writes; reads = y.reads };
        tail = λ z. absurd (h.tail z);
      }

  same : share_of (altered w p (noted (w.at p) a) w.reader_count) p ≡ share_of w p
  unfolding share
  same = al.to_here w p (noted (w.at p) a) w.reader_count (λ y. share y (next_share (altered w p (noted (w.at p) a) w.reader_count) y.next) ≡ share_of w p) p refl (rw h.next refl)

  pub note : p < 32 → Inv (altered w p (noted (w.at p) a) w.reader_count)
  note lt = alter w p (noted (w.at p) a) w.reader_count v roles lt (omega (arith, same))
