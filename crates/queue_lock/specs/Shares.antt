-- Owing and the share of the count, by standing.
use Rattle.std.specs.Prelude.{◌≡◌, ℕ, true, false, Some, None, Option, refl}
use Rattle.std.proofs.Common.{ap}
use Rattle.queue_words.specs.declared.standing.Standing.{Standing}
use Rattle.lock.specs.declared.words.Class.{Class}
use Rattle.lock.specs.declared.words.Class.TheVariants.{Reading, Writing}
use Rattle.queue_words.specs.declared.record.Successor.{Successor}
use Rattle.queue_words.specs.declared.record.Successor.TheVariants.{Nobody, Reader, Writer}
use Rattle.queue_words.specs.declared.record.Record.{Record}
use Rattle.queue_lock.specs.Sets as is
use Rattle.queue_lock.specs.Config.{Config}
use Rattle.queue_lock.specs.Every.{apart}
use Rattle.queue_lock.specs.Invariant.{owing, share, next_share, one_if}

-- by class and by what stands behind
pub owing_by : (c : Class) (a : Successor) (l : Standing) → owing c a l ≡ true → (P : Type 0) → (c ≡ Writing → is.owing_w l ≡ true → P) → (c ≡ Reading → a ≡ Reader → is.owing_r l ≡ true → P) → (c ≡ Reading → a ≡ Writer → is.owing_n l ≡ true → P) → P
unfolding owing
owing_by Writing a l h P f g k = f refl h
owing_by Reading Nobody l h P f g k = absurd (cc)
owing_by Reading Reader l h P f g k = g refl refl h
owing_by Reading Writer l h P f g k = k refl refl h

pub owing_writer : (c : Class) (a : Successor) (l : Standing) → c ≡ Writing → is.owing_w l ≡ true → owing c a l ≡ true
unfolding owing
owing_writer c a l e h = rw e h

pub owing_reader : (c : Class) (a : Successor) (l : Standing) → c ≡ Reading → a ≡ Reader → is.owing_r l ≡ true → owing c a l ≡ true
unfolding owing
owing_reader c a l e f h = rw (e, f) h

pub owing_next : (c : Class) (a : Successor) (l : Standing) → c ≡ Reading → a ≡ Writer → is.owing_n l ≡ true → owing c a l ≡ true
unfolding owing
owing_next c a l e f h = rw (e, f) h

-- another standing owes no more
pub owing_kept : (c : Class) (a : Successor) (l m : Standing) → (c ≡ Writing → is.owing_w m ≡ true → is.owing_w l ≡ true) → (a ≡ Reader → is.owing_r m ≡ true → is.owing_r l ≡ true) → (a ≡ Writer → is.owing_n m ≡ true → is.owing_n l ≡ true) → owing c a m ≡ true → owing c a l ≡ true
unfolding owing
owing_kept Writing a l m f g k h = f refl h
owing_kept Reading Nobody l m f g k h = h
owing_kept Reading Reader l m f g k h = g refl h
owing_kept Reading Writer l m f g k h = k refl h

pub next_share_same : (w v : Config) → ((n : ℕ) → (v.at n).class ≡ (w.at n).class) → (o : Option ℕ) → next_share v o ≡ next_share w o
next_share_same w v e None = refl
next_share_same w v e (Some n) = ap one_if (e n)

-- a reader that waits has a share only once it is woken
pub share_asleep : (e : Record) (n : ℕ) → is.sleeping_r e.standing ≡ true → e.state.blocked ≡ true → share e n ≡ 0
unfolding share is.sleeping_r is.counts_two is.counts_one
share_asleep e n h b = let x = apart is.is_sleeping_r is.is_counts_two refl e.standing h in let y = apart is.is_sleeping_r is.is_counts_one refl e.standing h in rw (x, y, h, b)

pub share_awake : (e : Record) (n : ℕ) → is.sleeping_r e.standing ≡ true → e.state.blocked ≡ false → share e n ≡ 1
unfolding share is.sleeping_r is.counts_two is.counts_one
share_awake e n h b = let x = apart is.is_sleeping_r is.is_counts_two refl e.standing h in let y = apart is.is_sleeping_r is.is_counts_one refl e.standing h in rw (x, y, h, b)

-- a writer that waits has none
pub share_writer : (e : Record) (n : ℕ) → is.sleeping_w e.standing ≡ true → share e n ≡ 0
unfolding share is.sleeping_w is.sleeping_r is.counts_two is.counts_one is.handing
share_writer e n h =
    let x = apart is.is_sleeping_w is.is_counts_two refl e.standing h in
    let y = apart is.is_sleeping_w is.is_counts_one refl e.standing h in
    let z = apart is.is_sleeping_w is.is_sleeping_r refl e.standing h in
    let u = apart is.is_sleeping_w is.is_handing refl e.standing h in
    rw (x, y, z, u)

-- only a slot that hands on has a share that its next decides
pub share_apart : (e : Record) (n m : ℕ) → is.handing e.standing ≡ false → share e n ≡ share e m
unfolding share
share_apart e n m h = rw h refl

pub share_none : (e : Record) (n : ℕ) → is.counts_two e.standing ≡ false → is.counts_one e.standing ≡ false → is.sleeping_r e.standing ≡ false → is.handing e.standing ≡ false → share e n ≡ 0
unfolding share
share_none e n a b c d = rw (a, b, c, d) refl
