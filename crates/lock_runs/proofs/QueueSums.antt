-- The queue lock's checksum, one record at a time.
use Rattle.std.proofs.Common.{◌≡◌, ℕ, ◌+◌, refl, add-one}
use Rattle.queue_words.specs.Steps.{slot}
use Rattle.queue_words.specs.declared.words.Words.{Words}
use Rattle.lock_runs.specs.Mix.{mixed}
use Rattle.lock_runs.specs.Queue.{slot_number, record_mixed, mixed_to}

pub sum_begins : (w : Words) → mixed_to w 0 ≡ mixed (mixed (mixed 0 (slot_number w.tail)) (slot_number w.next_writer)) w.reader_count
unfolding mixed_to
sum_begins w = refl

pub sum_more : (w : Words) (n : ℕ) → mixed_to w (n + 1) ≡ record_mixed (mixed_to w n) (slot w n)
unfolding mixed_to
sum_more w n = rw add-one refl
