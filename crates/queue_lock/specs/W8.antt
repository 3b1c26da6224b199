-- W8 with its block off: the slot holds.
use Rattle.std.proofs.Common.{◌≡◌, ℕ, ◌+◌, ◌<◌, false, arith}
use Rattle.queue_words.specs.declared.standing.Standing.TheVariants.{W8, WriterH}
use Rattle.lock.specs.declared.words.Class.TheVariants.{Writing}
use Rattle.queue_lock.specs.Config.{Config}
use Rattle.queue_lock.specs.Invariant.{Inv, share_of, share}
use Rattle.queue_lock.specs.Rows.{row, row_of}
use Rattle.queue_lock.specs.Shares.{owing_writer}
use Rattle.queue_lock.specs.Move.{moved, Roles, relabel, no_waking, no_unlinked}

module _ (w : Config) (i : ℕ) (v : Inv w) (lt : i < 32) (e : (w.at i).standing ≡ W8) (b : (w.at i).state.blocked ≡ false) where
  writes : (w.at i).class ≡ Writing
  writes = (v.own i).writing (row_of e).writing

  roles : Roles w i WriterH
  roles =
      let o = row_of e in
      let n = row WriterH in
      record {
        line = grind (arith, o, n);
        writeway = grind (arith, o, n);
        readway = grind (arith, o, n);
        own = grind (arith, o, n, v.own i);
        fetching = grind (arith, o, n);
        admitted = λ h a. v.front i h (grind arith);
        only = λ h k a. v.alone i h k (grind arith);
        waking = no_waking n.waking;
        woken = λ t _ h q. grind (arith, (v.woken t i h q).0);
        waiting = λ q. grind (arith, (v.named i q).0);
        asking = grind (arith, o, n);
        apart = grind (arith, o, n);
        asked = grind (arith, o, n);
        unlinked = no_unlinked n.unlinked;
        followed = λ s _ u q. n.followed;
        linking = grind (arith, o, n);
        owing = λ _. owing_writer (w.at i).class _ _ writes o.owing_w;
        owed = λ p _ h q. grind (arith, v.owed p i h q);
        ending_w = grind (arith, o, n);
        ending_r = grind (arith, o, n);
      }

  count : w.reader_count + share_of w i ≡ w.reader_count + share_of (moved w i WriterH w.reader_count) i
  unfolding share
  count = grind (arith, row_of e, row WriterH, writes)

  pub kept : Inv (moved w i WriterH w.reader_count)
  kept = relabel w i WriterH v roles w.reader_count lt count
