-- A slot's block goes off: what has to hold of that slot.
use Rattle.std.specs.Prelude.{◌≡◌, ℕ, ◌+◌, ◌<◌, true, false, Some, ◌≢◌}
use Rattle.std.proofs.Math.Path.{refl}
use Rattle.std.proofs.Common.{inr}
use Rattle.std.proofs.lemmas.Bool.{both_ways}
use Rattle.lock.specs.declared.words.Class.TheVariants.{Writing}
use Rattle.queue_lock.specs.Sets as is
use Rattle.queue_lock.specs.Config.{Config}
use Rattle.queue_lock.specs.Invariant.{Inv, Front, Alone, owes, share_of}
use Rattle.queue_words.specs.Records.{freed}
use Rattle.queue_lock.specs.Every.{apart}
use Rattle.queue_lock.specs.Facts.{owed_apart}
use Rattle.queue_lock.specs.Alter.{altered, Roles, alter}

pub record Wakes (w : Config) (k : ℕ) : Type 0 where
  pub lining : is.lining (w.at k).standing ≡ true
  pub linked : is.unlinked (w.at k).standing ≡ false
  pub on : is.on (w.at k).standing ≡ false
  pub front : Front w k
  pub alone : (w.at k).class ≡ Writing → Alone w k
  pub unnamed : w.next_writer ≡ Some k → ⊥
  pub woken : (t : ℕ) → is.waking (w.at t).standing ≡ true → (w.at t).w ≢ Some k
  pub owed : (p : ℕ) → owes (w.at p) ≡ true → (w.at p).next ≢ Some k

module _ (w : Config) (k : ℕ) (v : Inv w) (h : Wakes w k) where
  no_waking : is.waking (w.at k).standing ≡ true → ⊥
  unfolding is.lining is.waking
  no_waking q = both_ways _ (apart is.is_lining is.is_waking refl (w.at k).standing h.lining) q

  no_asking : is.asking (w.at k).standing ≡ true → ⊥
  unfolding is.lining is.asking
  no_asking q = both_ways _ (apart is.is_lining is.is_asking refl (w.at k).standing h.lining) q

  roles : Roles w k (freed (w.at k))
  roles =
      let o = v.own k in
      record {
        class = refl;
        pred = refl;
        line = refl;
        act = λ a. record { reads = a.reads; free = refl };
        writeway = λ q. q;
        readway = λ q. q;
        own = record { writing = o.writing; reading = o.reading; on = λ q. absurd (both_ways _ h.on q); off = λ q. refl; wakes = o.wakes; names = o.names; linked = o.linked; keeps = o.keeps; behind = o.behind };
        fetching = λ f n q. v.fetched k n f q;
        admitted = λ _ _. h.front;
        only = λ _ c _. h.alone c;
        waking = λ q. absurd (no_waking q);
        waking_none = λ q. absurd (no_waking q);
        waking_one = λ q. absurd (no_waking q);
        asking = λ q. absurd (no_asking q);
        apart = λ q. absurd (no_asking q);
        woken = λ t _ a b. absurd (h.woken t a b);
        waiting = λ q. absurd (h.unnamed q);
        asked = λ t _ a b c. (c, (v.asked t k a b c).0);
        behind = λ q. absurd (both_ways _ h.linked q);
        followed = λ s _ _ _ b. record { next = b.next; standing = b.standing; plain = b.plain; noted = b.noted; reads = b.reads; free = λ _. refl; linking = b.linking };
        owing = λ q s n.
            let y = v.owed k s q n in
            (owed_apart w v k s q n, record { pred = y.pred; on = y.on; standing = y.standing; writes = y.writes; reads = y.reads }, v.owed_unnamed k s q n, v.pairs k s (y.pred, inr (n, q)));
        owed = λ p _ a b. absurd (h.owed p a b);
        tail = λ q. let y = v.tailed k q in (y.next, y.behind, λ z. z, λ z. z);
      }

  pub wake : (c : ℕ) → k < 32 → c + share_of w k ≡ w.reader_count + share_of (altered w k (freed (w.at k)) c) k → Inv (altered w k (freed (w.at k)) c)
  wake c lt count = alter w k (freed (w.at k)) c v roles lt count
