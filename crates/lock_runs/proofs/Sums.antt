-- The ticket lock's checksum, one register at a time.
use Rattle.std.proofs.Common.{◌≡◌, ℕ, ◌+◌, refl, add-one}
use Rattle.ticket_words.specs.Steps.{kept_by}
use Rattle.ticket_words.specs.declared.words.Words.{Words}
use Rattle.lock_runs.specs.Mix.{mixed}
use Rattle.lock_runs.specs.Ticket.{mixed_to}

pub sum_begins : (w : Words) → mixed_to w 0 ≡ mixed (mixed 0 w.requests) w.completions
unfolding mixed_to
sum_begins w = refl

pub sum_more : (w : Words) (n : ℕ) → mixed_to w (n + 1) ≡ mixed (mixed_to w n) (kept_by w n)
unfolding mixed_to
sum_more w n = rw add-one refl
