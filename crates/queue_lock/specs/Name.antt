-- The next writer or the tail changes, and no record: what has to hold.
use Rattle.std.specs.Prelude.{◌≡◌, ℕ, true, false, ◌⊎◌, Some, None, Option, ◌≢◌, refl}
use Rattle.std.proofs.Common.{sym, subst, inl, inr}
use Rattle.queue_lock.specs.Sets as is
use Rattle.queue_lock.specs.Config.{Config}
use Rattle.queue_lock.specs.Invariant.{Inv, Front, Alone, Act, Waits, owes, AllAct}
use Rattle.queue_lock.specs.Lasts as last
use Rattle.queue_lock.specs.Alter.{Asked}

abbrev pub named : Config → Option ℕ → Config
named w n = record { at = w.at; tail = w.tail; next_writer = n; reader_count = w.reader_count; line = w.line }

pub record Names (w : Config) (n : Option ℕ) : Type 0 where
  pub next : (x : ℕ) → n ≡ Some x → Waits (w.at x) × Front w x
  pub waking : (t : ℕ) → is.waking (w.at t).standing ≡ true → n ≡ None
  pub asking : (t x : ℕ) → is.asking (w.at t).standing ≡ true → (w.at t).w ≡ Some x → is.wanting (w.at x).standing ≡ true → Asked w (w.at t).standing x → Alone w x ⊎ ((is.asking_first (w.at t).standing ≡ true) × (n ≡ Some x))
  pub owed : (p s : ℕ) → owes (w.at p) ≡ true → (w.at p).next ≡ Some s → n ≢ Some s

same : {w v : Config} → v.at ≡ w.at → v.line ≡ w.line → last.Lasts w v
same {w} {v} e l = record {
  line = l;
  act = λ y _ a. subst (λ f. Act (f y)) (sym e) a;
  writeway = λ t h. subst (λ f. is.writeway (f t).standing ≡ false) (sym e) h;
  readway = λ t h. subst (λ f. is.readway (f t).standing ≡ false) (sym e) h;
}

-- the clauses that read neither the next writer nor the tail, for words with the same records, count and line
pub name : (w : Config) (n : Option ℕ) → Inv w → Names w n → Inv (named w n)
name w n v r =
    let l : last.Lasts w (named w n) = same refl refl in
    record {
      distinct = v.distinct;
      lined = v.lined;
      beyond = v.beyond;
      own = v.own;
      fetched = v.fetched;
      front = λ s h a. last.front l (v.front s h a);
      alone = λ s h k a. last.alone l (v.alone s h k a);
      woken = λ t x h q. let y = v.woken t x h q in (y.0, last.alone l y.1);
      woken_unnamed = r.waking;
      one_wakes = v.one_wakes;
      named = λ x q. let y = r.next x q in (y.0, last.front l y.1);
      asked = λ t x h q k. let y = v.asked t x h q k in (y.0, elim (r.asking t x h q k y.1) [ inl a ↦ inl (last.alone l a) | inr a ↦ inr a ]);
      behind = v.behind;
      behind_tail = v.behind_tail;
      behind_other = v.behind_other;
      owed = v.owed;
      owed_unnamed = r.owed;
      pairs = λ p s q. let y = v.pairs p s q in record { line = y.line; writer = y.writer; reader = λ h. last.front l (y.reader h) };
      tailed = λ t q. let y = v.tailed t q in record { next = y.next; behind = y.behind; place = y.place };
      untailed = v.untailed;
      one_leaves = v.one_leaves;
      counted = v.counted;
    }

abbrev pub untailed : Config → Config
untailed w = record { at = w.at; tail = None; next_writer = w.next_writer; reader_count = w.reader_count; line = w.line }

-- the tail goes: everybody in line is an active reader, and no writer is in the way
pub untail : (w : Config) → Inv w → AllAct w → ((t : ℕ) → is.writeway (w.at t).standing ≡ false) → Inv (untailed w)
untail w v a c =
    let l : last.Lasts w (untailed w) = same refl refl in
    record {
      distinct = v.distinct;
      lined = v.lined;
      beyond = v.beyond;
      own = v.own;
      fetched = v.fetched;
      front = λ s h k. last.front l (v.front s h k);
      alone = λ s h k m. last.alone l (v.alone s h k m);
      woken = λ t x h q. let y = v.woken t x h q in (y.0, last.alone l y.1);
      woken_unnamed = v.woken_unnamed;
      one_wakes = v.one_wakes;
      named = λ x q. let y = v.named x q in (y.0, last.front l y.1);
      asked = λ t x h q k. let y = v.asked t x h q k in (y.0, elim y.1 [ inl b ↦ inl (last.alone l b) | inr b ↦ inr b ]);
      behind = v.behind;
      behind_tail = λ s p u q z. cc;
      behind_other = v.behind_other;
      owed = v.owed;
      owed_unnamed = v.owed_unnamed;
      pairs = λ p s q. let y = v.pairs p s q in record { line = y.line; writer = y.writer; reader = λ h. last.front l (y.reader h) };
      tailed = λ t q. absurd (cc);
      untailed = λ _. (a, c);
      one_leaves = v.one_leaves;
      counted = v.counted;
    }
