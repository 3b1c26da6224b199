-- W5: a writer that is alone switches its own block off, and goes on to hold.
use Rattle.std.proofs.Common.{◌≡◌, ℕ, ◌+◌, ◌<◌, true, sym, refl, ◌∙◌, inl, inr, arith}
use Rattle.lock.specs.declared.words.Class.TheVariants.{Writing}
use Rattle.std.proofs.lemmas.Bool.{both_ways}
use Rattle.queue_words.specs.Records.{freed, relabelled}
use Rattle.queue_words.specs.declared.record.Record.{Record}
use Rattle.queue_words.specs.declared.standing.Standing.TheVariants.{W5, W8}
use Rattle.queue_lock.specs.Config.{Config}
use Rattle.queue_lock.specs.Invariant.{Inv, Alone, owes, share_of, share}
use Rattle.queue_lock.specs.Alter as alter
use Rattle.queue_lock.specs.Alter.{altered, Roles}
use Rattle.queue_lock.specs.Facts as fact
use Rattle.queue_lock.specs.Lasts as last
use Rattle.queue_lock.specs.Rows.{Row, row, row_of}
use Rattle.queue_lock.specs.Shares.{owing_writer}

module _ (w : Config) (i : ℕ) (v : Inv w) (lt : i < 32) (e : (w.at i).standing ≡ W5) where
  o : Row (w.at i).standing W5
  o = row_of e

  n : Row W8 W8
  n = row W8

  abbrev x : Record
  x = freed (relabelled (w.at i) W8)

  writes : (w.at i).class ≡ Writing
  writes = (v.own i).writing o.writing

  on : (w.at i).state.blocked ≡ true
  on = (v.own i).on o.on

  alone : Alone w i
  alone = v.alone i (fact.in_line w v i o.lining) writes (rw on o.only)

  owe : owes (w.at i) ≡ true
  owe = owing_writer _ _ _ writes o.owing_w

  roles : Roles w i x
  roles = record {
    class = refl;
    pred = refl;
    line = n.lining ∙ sym o.lining;
    act = λ a. absurd (fact.writer_not_act _ writes a);
    writeway = λ _. n.writeway;
    readway = λ _. n.readway;
    own = grind (arith, o, n, v.own i);
    fetching = λ h. absurd (both_ways _ n.fetching h);
    admitted = λ _ _. last.alone_front alone;
    only = λ _ _ _. alone;
    waking = λ h. absurd (both_ways _ n.waking h);
    waking_none = λ h. absurd (both_ways _ n.waking h);
    waking_one = λ h. absurd (both_ways _ n.waking h);
    asking = λ h. absurd (both_ways _ n.asking h);
    apart = λ h. absurd (both_ways _ n.asking h);
    woken = λ t _ h q. absurd (both_ways _ o.waiting (v.woken t i h q).0.standing);
    waiting = λ q. absurd (both_ways _ o.waiting (v.named i q).0.standing);
    asked = λ t _ h q k. (o.wanting, n.askable);
    behind = λ h. absurd (both_ways _ n.unlinked h);
    followed = λ s _ u q b. record { next = b.next; standing = n.followed; plain = b.plain; noted = b.noted; reads = b.reads; free = λ _. refl; linking = λ _. inl writes };
    owing = λ _ s q.
        let y = v.owed i s owe q in
        (fact.owed_apart w v i s owe q, record { pred = y.pred; on = y.on; standing = y.standing; writes = y.writes; reads = y.reads }, v.owed_unnamed i s owe q, v.pairs i s (y.pred, inr (q, owe)));
    owed = λ p _ h q _. absurd (both_ways _ o.sleeping (v.owed p i h q).standing);
    tail = λ q. let y = v.tailed i q in (y.next, y.behind, (λ z. absurd (both_ways _ o.ending_w z)), (λ z. absurd (both_ways _ o.ending_r z)));
  }

  count : w.reader_count + share_of w i ≡ w.reader_count + share_of (altered w i x w.reader_count) i
  unfolding share
  count = grind (arith, o, n)

  pub kept : Inv (altered w i x w.reader_count)
  kept = alter.alter w i x w.reader_count v roles lt count
