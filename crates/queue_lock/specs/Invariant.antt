-- The invariant of the queue lock, one field for each clause.
use Rattle.std.specs.Prelude.{is_some, ◌≡◌, ℕ, suc, ◌<◌, ◌≤◌, Bool, true, false, cond, ◌⊎◌, length, Some, None, Option, ◌≢◌, nat_lt}
use Rattle.queue_words.specs.declared.standing.Standing.{Standing}
use Rattle.queue_words.specs.declared.standing.Standing.TheVariants.{I}
use Rattle.lock.specs.declared.words.Class.{Class}
use Rattle.lock.specs.declared.words.Class.TheVariants.{Reading, Writing}
use Rattle.queue_words.specs.declared.record.Successor.{Successor}
use Rattle.queue_words.specs.declared.record.Successor.TheVariants.{Nobody, Reader, Writer}
use Rattle.queue_words.specs.declared.record.Record.{Record}
use Rattle.queue_lock.specs.Sets as is
use Rattle.queue_lock.specs.Places.{pos, Distinct}
use Rattle.lined_lock.specs.Totals.{total}
use Rattle.queue_lock.specs.Config.{Config}

-- an active reader
pub record Act (e : Record) : Type 0 where
  pub reads : e.class ≡ Reading
  pub free : e.state.blocked ≡ false

abbrev pub In : Config → ℕ → Type 0
In w x = pos w.line x < length w.line

pub record Front (w : Config) (x : ℕ) : Type 0 where
  pub inside : In w x
  pub ahead : (y : ℕ) → pos w.line y < pos w.line x → Act (w.at y)
  pub clear : (t : ℕ) → is.writeway (w.at t).standing ≡ false

pub record Alone (w : Config) (x : ℕ) : Type 0 where
  pub inside : In w x
  pub first : pos w.line x ≡ 0
  pub clear : (t : ℕ) → is.writeway (w.at t).standing ≡ false
  pub past : (t : ℕ) → is.readway (w.at t).standing ≡ false

-- A2 to A5: what a standing says of its own record
pub record Own (e : Record) : Type 0 where
  pub writing : is.writing e.standing ≡ true → e.class ≡ Writing
  pub reading : is.reading e.standing ≡ true → e.class ≡ Reading
  pub on : is.on e.standing ≡ true → e.state.blocked ≡ true
  pub off : is.off e.standing ≡ true → e.state.blocked ≡ false
  pub wakes : is.wakes e.standing ≡ true → e.state.successor ≡ Reader
  pub names : is.names e.standing ≡ true → e.state.successor ≡ Writer
  pub linked : is.linked e.standing ≡ true → is_some e.next ≡ true
  pub keeps : is.keeps e.standing ≡ true → is_some e.w ≡ true
  pub behind : is.unlinked e.standing ≡ true → is_some e.pred ≡ true

abbrev pub admitted : Record → Bool
admitted e = cond e.state.blocked (is.admitted e.standing) true

abbrev pub only : Record → Bool
only e = cond e.state.blocked (is.only e.standing) true

-- may be the next writer
pub record Waits (e : Record) : Type 0 where
  pub standing : is.waiting e.standing ≡ true
  pub on : e.state.blocked ≡ true

-- D1: what an unlinked slot finds at its predecessor
pub record Behind (s p : Record) : Type 0 where
  pub next : p.next ≡ None
  pub standing : is.followed p.standing ≡ true
  pub plain : is.plain s.standing ≡ true → p.state.successor ≡ Nobody
  pub noted : is.noted s.standing ≡ true → p.state.successor ≡ Writer
  pub reads : is.behind_reader s.standing ≡ true → p.class ≡ Reading
  pub free : is.behind_open s.standing ≡ true → p.state.blocked ≡ false
  pub linking : is.linking s.standing ≡ true → (p.class ≡ Writing) ⊎ ((p.state.successor ≡ Reader) × (is.arriving p.standing ≡ true))

unfoldable pub owing : Class → Successor → Standing → Bool
owing Writing a l = is.owing_w l
owing Reading Nobody l = false
owing Reading Reader l = is.owing_r l
owing Reading Writer l = is.owing_n l

abbrev pub owes : Record → Bool
owes e = owing e.class e.state.successor e.standing

-- D2: what an owing slot finds at its next
pub record Owed (p : ℕ) (e s : Record) : Type 0 where
  pub pred : s.pred ≡ Some p
  pub on : s.state.blocked ≡ true
  pub standing : is.sleeping s.standing ≡ true
  pub writes : e.class ≡ Reading → e.state.successor ≡ Writer → is.sleeping_w s.standing ≡ true
  pub reads : e.class ≡ Reading → e.state.successor ≡ Reader → is.sleeping_r s.standing ≡ true

abbrev pub Pair : Config → ℕ → ℕ → Type 0
Pair w p s = ((w.at s).pred ≡ Some p) × ((is.unlinked (w.at s).standing ≡ true) ⊎ (((w.at p).next ≡ Some s) × (owes (w.at p) ≡ true)))

-- D3: where the second of a pair stands
pub record Next (w : Config) (p s : ℕ) : Type 0 where
  pub line : In w p → pos w.line s ≡ suc (pos w.line p)
  pub writer : is.writeway (w.at p).standing ≡ true → pos w.line s ≡ 0
  pub reader : is.readway (w.at p).standing ≡ true → Front w s

abbrev pub AllAct : Config → Type 0
AllAct w = (y : ℕ) → In w y → Act (w.at y)

pub record Tail (w : Config) (t : ℕ) : Type 0 where
  pub next : (w.at t).next ≡ None
  pub behind : (w.at t).state.successor ≡ Nobody
  pub place : (suc (pos w.line t) ≡ length w.line) ⊎ (((is.ending_w (w.at t).standing ≡ true) × (length w.line ≡ 0)) ⊎ ((is.ending_r (w.at t).standing ≡ true) × AllAct w))

-- G1: a slot's share of the reader count; the flag says that its next reads
abbrev pub one_if : Class → ℕ
one_if Reading = 1
one_if Writing = 0

abbrev pub next_share : Config → Option ℕ → ℕ
next_share w None = 0
next_share w (Some n) = one_if (w.at n).class

unfoldable pub share : Record → ℕ → ℕ
share e n = cond (is.counts_two e.standing) 2 (cond (is.counts_one e.standing) 1 (cond (is.sleeping_r e.standing) (cond e.state.blocked 0 1) (cond (is.handing e.standing) n 0)))

abbrev pub share_of : Config → ℕ → ℕ
share_of w x = share (w.at x) (next_share w (w.at x).next)

pub record Inv (w : Config) : Type 0 where
  pub distinct : Distinct w.line
  pub lined : (s : ℕ) → is.lining (w.at s).standing ≡ nat_lt (pos w.line s) (length w.line)
  pub beyond : (s : ℕ) → 32 ≤ s → (w.at s).standing ≡ I
  pub own : (s : ℕ) → Own (w.at s)
  pub fetched : (s n : ℕ) → is.fetching (w.at s).standing ≡ true → (w.at s).next ≡ Some n → (w.at n).class ≡ Reading
  pub front : (s : ℕ) → In w s → admitted (w.at s) ≡ true → Front w s
  pub alone : (s : ℕ) → In w s → (w.at s).class ≡ Writing → only (w.at s) ≡ true → Alone w s
  pub woken : (t x : ℕ) → is.waking (w.at t).standing ≡ true → (w.at t).w ≡ Some x → Waits (w.at x) × Alone w x
  pub woken_unnamed : (t : ℕ) → is.waking (w.at t).standing ≡ true → w.next_writer ≡ None
  pub one_wakes : (t u : ℕ) → is.waking (w.at t).standing ≡ true → is.waking (w.at u).standing ≡ true → t ≡ u
  pub named : (x : ℕ) → w.next_writer ≡ Some x → Waits (w.at x) × Front w x
  pub asked : (t x : ℕ) → is.asking (w.at t).standing ≡ true → (w.at t).w ≡ Some x → is.wanting (w.at x).standing ≡ true → (is.askable (w.at x).standing ≡ true) × (Alone w x ⊎ ((is.asking_first (w.at t).standing ≡ true) × (w.next_writer ≡ Some x)))
  pub behind : (s p : ℕ) → is.unlinked (w.at s).standing ≡ true → (w.at s).pred ≡ Some p → Behind (w.at s) (w.at p)
  pub behind_tail : (s p : ℕ) → is.unlinked (w.at s).standing ≡ true → (w.at s).pred ≡ Some p → w.tail ≢ Some p
  pub behind_other : (s : ℕ) → is.unlinked (w.at s).standing ≡ true → (w.at s).pred ≢ Some s
  pub owed : (p s : ℕ) → owes (w.at p) ≡ true → (w.at p).next ≡ Some s → Owed p (w.at p) (w.at s)
  pub owed_unnamed : (p s : ℕ) → owes (w.at p) ≡ true → (w.at p).next ≡ Some s → w.next_writer ≢ Some s
  pub pairs : (p s : ℕ) → Pair w p s → Next w p s
  pub tailed : (t : ℕ) → w.tail ≡ Some t → Tail w t
  pub untailed : w.tail ≡ None → AllAct w × ((t : ℕ) → is.writeway (w.at t).standing ≡ false)
  pub one_leaves : (t u : ℕ) → is.writeway (w.at t).standing ≡ true → (u ≢ t) → (is.writeway (w.at u).standing ≡ false) × (is.readway (w.at u).standing ≡ false)
  pub counted : w.reader_count ≡ total (share_of w) 32
