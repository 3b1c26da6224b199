-- Writes to the words are changes of the configuration.
use Rattle.std.specs.Prelude.{◌≡◌, ℕ, ◌<◌, ◌≤◌, List, [], length, Some, None, Option, ◌==◌, slice_set}
use Rattle.std.proofs.Common.{sym, ap, ◌∙◌, inl, inr, arith, length-set, get_or-set_same, get_or-set_other}
use Rattle.std.proofs.Math.Path.{fun_ext}
use Rattle.std.proofs.lemmas.List.{set-get_or}
use Rattle.std.proofs.lemmas.Bool.{cases_eq, cond-true, cond-false, eq-eqb, ne_eqb}
use Rattle.lock.specs.declared.words.Class.{Class}
use Rattle.lock.specs.declared.words.Class.TheVariants.{Reading, Writing}
use Rattle.queue_words.specs.Records.{unused, record_at, relabelled}
use Rattle.queue_words.specs.Steps.{slot, put, stand, fresh_words}
use Rattle.queue_words.specs.declared.record.Record.{Record}
use Rattle.queue_words.specs.declared.standing.Standing.{Standing}
use Rattle.queue_words.specs.declared.words.Words.{Words}
use Rattle.slots.specs.Tables.{all_alike}
use Rattle.lined_lock.specs.Totals.{total_le}
use Rattle.queue_lock.specs.Config.{Config, Full, config, upd}
use Rattle.queue_lock.specs.Invariant.{Inv, share, share_of, one_if, next_share}
use Rattle.queue_lock.specs.Alter.{altered}
use Rattle.queue_lock.specs.Safety.{fresh}
use Rattle.queue_lock.specs.Turn.{stood}

-- a table with one record written, by slot
written : (xs : List Record) (k : ℕ) (r : Record) → k < length xs → record_at (slice_set xs k r) ≡ upd (record_at xs) k r
written xs k r h = fun_ext (λ j. elim (cases_eq j k) [
  | inl q ↦ ap (record_at (slice_set xs k r)) q ∙ get_or-set_same xs k r unused h ∙ sym (cond-true (j == k) r (record_at xs j) (eq-eqb j k q))
  | inr d ↦ get_or-set_other xs k j r unused d ∙ sym (cond-false (j == k) r (record_at xs j) (ne_eqb j k d))
])

pub full_put : (w : Words) (k : ℕ) (r : Record) → Full w → Full (put w k r)
full_put w k r f = length-set w.table.slots k r ∙ f

pub puts : (w : Words) (l : List ℕ) (k : ℕ) (r : Record) → Full w → k < 32 → config (put w k r) l ≡ altered (config w l) k r w.reader_count
puts w l k r f h = ap {B = Config} (λ g. record { at = g; tail = w.tail; next_writer = w.next_writer; reader_count = w.reader_count; line = l }) (written w.table.slots k r (omega arith))

pub stands : (w : Words) (l : List ℕ) (i : ℕ) (s : Standing) → Full w → i < 32 → config (stand w i s) l ≡ stood (config w l) i s
stands w l i s f h = puts w l i (relabelled (slot w i) s) f h

-- a record written as it was
pub unchanged : (w : Words) (i : ℕ) (s : Standing) → (slot w i).standing ≡ s → stand w i s ≡ w
unchanged w i s e =
    ap (λ s. stand w i s) (sym e) ∙ ap (λ xs. record { tail = w.tail; next_writer = w.next_writer; reader_count = w.reader_count; table = record { slots = xs } }) (set-get_or w.table.slots i unused)

-- the second of two writes to a record is what stays
pub twice : (w : Config) (i : ℕ) (a b : Record) (c : ℕ) → altered (altered w i a c) i b c ≡ altered w i b c
twice w i a b c = ap {B = Config} (λ g. record { at = g; tail = w.tail; next_writer = w.next_writer; reader_count = c; line = w.line }) (fun_ext (λ j. elim (cases_eq j i) [
  | inl q ↦ cond-true (j == i) b (upd w.at i a j) (eq-eqb j i q) ∙ sym (cond-true (j == i) b (w.at j) (eq-eqb j i q))
  | inr d ↦ cond-false (j == i) b (upd w.at i a j) (ne_eqb j i d) ∙ cond-false (j == i) a (w.at j) (ne_eqb j i d) ∙ sym (cond-false (j == i) b (w.at j) (ne_eqb j i d))
]))

-- the reader count is small
one_le : (c : Class) → one_if c ≤ 1
one_le Reading = omega arith
one_le Writing = omega arith

next_le : (w : Config) (o : Option ℕ) → next_share w o ≤ 1
next_le w None = omega arith
next_le w (Some n) = one_le (w.at n).class

share_le : (e : Record) (n : ℕ) → n ≤ 1 → share e n ≤ 2
unfolding share
share_le e n h = grind arith

pub few : (w : Config) → Inv w → w.reader_count ≤ 64
few w v = let t = total_le (share_of w) 2 32 (λ j. share_le (w.at j) _ (next_le w (w.at j).next)) in omega (arith, v.counted)

-- the configuration of fresh words
pub starts : config fresh_words [] ≡ fresh
starts = ap {B = Config} (λ f. record { at = f; tail = None; next_writer = None; reader_count = 0; line = [] }) (fun_ext (λ j. all_alike unused 32 j))
