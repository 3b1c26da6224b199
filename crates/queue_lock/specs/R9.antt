-- R9: a reader at the front switches its own block off: standing and block change at once, by the frame for any new record.
use Rattle.std.proofs.Common.{◌≡◌, ℕ, ◌+◌, ◌<◌, true, sym, refl, ◌∙◌, inl, inr, arith}
use Rattle.std.proofs.lemmas.Bool.{both_ways}
use Rattle.queue_words.specs.declared.standing.Standing.TheVariants.{R9, R10}
use Rattle.lock.specs.declared.words.Class.TheVariants.{Reading}
use Rattle.queue_words.specs.declared.record.Record.{Record}
use Rattle.queue_lock.specs.Config.{Config}
use Rattle.queue_words.specs.Records.{relabelled}
use Rattle.queue_lock.specs.Invariant.{Inv, owes, share_of, share}
use Rattle.queue_lock.specs.Rows.{Row, row, row_of}
use Rattle.queue_words.specs.Records.{freed}
use Rattle.queue_lock.specs.Facts as fact
use Rattle.queue_lock.specs.Shares.{owing_kept}
use Rattle.queue_lock.specs.Alter as alter
use Rattle.queue_lock.specs.Alter.{altered, Roles}

module _ (w : Config) (i : ℕ) (v : Inv w) (lt : i < 32) (e : (w.at i).standing ≡ R9) where
  o : Row (w.at i).standing R9
  o = row_of e

  n : Row R10 R10
  n = row R10

  abbrev x : Record
  x = freed (relabelled (w.at i) R10)

  reads : (w.at i).class ≡ Reading
  reads = (v.own i).reading o.reading

  on : (w.at i).state.blocked ≡ true
  on = (v.own i).on o.on

  owe : owes x ≡ true → owes (w.at i) ≡ true
  owe = owing_kept _ _ _ _ (λ _ _. o.owing_w) (λ _ _. o.owing_r) (λ _ _. o.owing_n)

  roles : Roles w i x
  roles = record {
    class = refl;
    pred = refl;
    line = n.lining ∙ sym o.lining;
    act = λ a. record { reads = a.reads; free = refl };
    writeway = λ _. n.writeway;
    readway = λ _. n.readway;
    own = grind (arith, o, n, v.own i);
    fetching = λ h. absurd (both_ways _ n.fetching h);
    admitted = λ h _. v.front i h (rw on o.admitted);
    only = λ h c _. absurd (fact.one_class (w.at i) reads c);
    waking = λ h. absurd (both_ways _ n.waking h);
    waking_none = λ h. absurd (both_ways _ n.waking h);
    waking_one = λ h. absurd (both_ways _ n.waking h);
    asking = λ h. absurd (both_ways _ n.asking h);
    apart = λ h. absurd (both_ways _ n.asking h);
    woken = λ t _ h q. absurd (both_ways _ o.waiting (v.woken t i h q).0.standing);
    waiting = λ q. absurd (both_ways _ o.waiting (v.named i q).0.standing);
    asked = λ t _ h q k. absurd (both_ways _ n.wanting k);
    behind = λ h. absurd (both_ways _ n.unlinked h);
    followed = λ s _ u q b. record { next = b.next; standing = n.followed; plain = b.plain; noted = b.noted; reads = b.reads; free = λ _. refl; linking = λ h. elim (b.linking h) [ inl z ↦ inl z | inr z ↦ inr (z.0, n.arriving) ] };
    owing = λ h s q.
        let g = owe h in
        let y = v.owed i s g q in
        (fact.owed_apart w v i s g q, record { pred = y.pred; on = y.on; standing = y.standing; writes = y.writes; reads = y.reads }, v.owed_unnamed i s g q, v.pairs i s (y.pred, inr (q, g)));
    owed = λ p _ h q _. absurd (both_ways _ o.sleeping (v.owed p i h q).standing);
    tail = λ q. let y = v.tailed i q in (y.next, y.behind, (λ z. absurd (both_ways _ o.ending_w z)), (λ z. absurd (both_ways _ o.ending_r z)));
  }

  count : w.reader_count + share_of w i ≡ w.reader_count + share_of (altered w i x w.reader_count) i
  unfolding share
  count = grind (arith, o, n)

  pub kept : Inv (altered w i x w.reader_count)
  kept = alter.alter w i x w.reader_count v roles lt count
