-- The fresh lock is sound, and what the invariant says of a slot that begins to hold.
use Rattle.std.specs.Prelude.{◌≡◌, ℕ, Bool, true, false, [], None, ◌≢◌, refl}
use Rattle.std.proofs.Common.{sym, subst, inl, inr, arith}
use Rattle.std.proofs.lemmas.Option.{none-some}
use Rattle.std.proofs.lemmas.Bool.{both_ways, cases_order}
use Rattle.queue_words.specs.declared.standing.Standing.TheVariants.{I, W8, R10, WriterH}
use Rattle.lock.specs.declared.words.Class.TheVariants.{Reading, Writing}
use Rattle.queue_lock.specs.Sets as is
use Rattle.queue_lock.specs.Places.{pos}
use Rattle.lined_lock.specs.Totals.{total}
use Rattle.queue_lock.specs.Config.{Config}
use Rattle.queue_lock.specs.Invariant.{Inv, Alone, Front, share}
use Rattle.queue_lock.specs.Rows.{row, row_of}
use Rattle.queue_lock.specs.Places.{Distinct}
use Rattle.queue_words.specs.Records.{unused}
use Rattle.queue_lock.specs.Every.{implies}
use Rattle.queue_lock.specs.Facts as fact

no : (f : Bool) → f ≡ false → {X : Type 0} → f ≡ true → X
no f z {X} h = absurd (both_ways f z h)

-- nobody in line, and every slot idle
abbrev pub fresh : Config
fresh = record { at = λ _. unused; tail = None; next_writer = None; reader_count = 0; line = [] }

pub fresh_inv : Inv fresh
unfolding Distinct pos total share
fresh_inv =
    let n = row I in
    record {
      distinct = tt;
      lined = λ s. n.lining;
      beyond = λ s h. refl;
      own = λ s. record { writing = no _ n.writing; reading = λ _. refl; on = no _ n.on; off = λ _. refl; wakes = no _ n.wakes; names = no _ n.names; linked = no _ n.linked; keeps = no _ n.keeps; behind = no _ n.unlinked };
      fetched = λ s m h q. refl;
      front = λ s h a. absurd (omega arith);
      alone = λ s h k a. absurd (omega arith);
      woken = λ t x. no _ n.waking;
      woken_unnamed = λ t h. refl;
      one_wakes = λ t u. no _ n.waking;
      named = λ x q. absurd (none-some x q);
      asked = λ t x. no _ n.asking;
      behind = λ s p. no _ n.unlinked;
      behind_tail = λ s p. no _ n.unlinked;
      behind_other = λ s. no _ n.unlinked;
      owed = λ p s h q. absurd (none-some s q);
      owed_unnamed = λ p s h q. absurd (none-some s q);
      pairs = λ p s q. absurd (none-some p q.0);
      tailed = λ t q. absurd (none-some t q);
      untailed = λ q. (λ y h. absurd (omega arith), λ t. n.writeway);
      one_leaves = λ t u. no _ n.writeway;
      counted = rw (n.counts_two, n.counts_one, n.sleeping_r, n.handing) refl;
    }

-- a writer that begins to hold: nobody else holds, and nobody is in the way
pub writer_alone : (w : Config) → Inv w → (i : ℕ) → (w.at i).standing ≡ W8 → (w.at i).state.blocked ≡ false → Alone w i
writer_alone w v i e b = let o = row_of e in v.alone i (fact.in_line w v i o.lining) ((v.own i).writing o.writing) (rw b refl)

pub writer_excludes : (w : Config) → Inv w → (i : ℕ) → (w.at i).standing ≡ W8 → (w.at i).state.blocked ≡ false → (y : ℕ) → is.holding (w.at y).standing ≢ true
unfolding is.holding is.lining is.off
writer_excludes w v i e b y k =
    let o = row_of e in
    let a = writer_alone w v i e b in
    let h = fact.in_line w v y (implies is.is_holding is.is_lining refl (w.at y).standing k) in
    let f = v.front y h (rw ((v.own y).off (implies is.is_holding is.is_off refl (w.at y).standing k)) refl) in
    elim (cases_order (pos w.line i) (pos w.line y)) [
      | inl q ↦ let z = fact.same_place w i y q a.inside in both_ways _ o.holding (subst (λ x. is.holding (w.at x).standing ≡ true) (sym z) k)
      | inr (inl q) ↦ fact.writer_not_act (w.at i) ((v.own i).writing o.writing) (f.ahead i q)
      | inr (inr q) ↦ let z = a.first in omega arith
    ]

-- a reader that begins to hold stands behind readers alone
pub reader_order : (w : Config) → Inv w → (i : ℕ) → (w.at i).standing ≡ R10 → Front w i
reader_order w v i e = let o = row_of e in v.front i (fact.in_line w v i o.lining) (rw ((v.own i).off o.off) refl)

-- a slot at the front that reads: no writer holds
pub reader_excludes : (w : Config) → Inv w → (i : ℕ) → is.off (w.at i).standing ≡ true → is.lining (w.at i).standing ≡ true → (w.at i).class ≡ Reading → (y : ℕ) → (w.at y).standing ≡ WriterH → (w.at y).class ≢ Writing
reader_excludes w v i off line reads y k writes =
    let n = row_of k in
    let f = v.front i (fact.in_line w v i line) (rw ((v.own i).off off) refl) in
    let a = v.alone y (fact.in_line w v y n.lining) writes (rw ((v.own y).off n.off) refl) in
    elim (cases_order (pos w.line y) (pos w.line i)) [
      | inl q ↦ fact.one_class (w.at i) reads (subst (λ x. (w.at x).class ≡ Writing) (fact.same_place w y i q a.inside) writes)
      | inr (inl q) ↦ fact.writer_not_act (w.at y) writes (f.ahead y q)
      | inr (inr q) ↦ let z = a.first in omega arith
    ]
