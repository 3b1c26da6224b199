-- What the ticket lock shows.
use Rattle.std.specs.Prelude.{ℕ, zero, suc, List, ◌++◌, codes, decimal}
use Rattle.ticket_lock.specs.Lock.{labels}
use Rattle.lock_runs.specs.Mix.{mixed}
use Rattle.ticket_words.specs.Places.{label_text}
use Rattle.ticket_words.specs.Steps.{kept_by}
use Rattle.ticket_words.specs.declared.words.Words.{Words}

abbrev pub shows : Words → ℕ → List ℕ
shows w i = label_text (labels w i) ++ (codes " " ++ (decimal w.requests ++ (codes " " ++ (decimal w.completions ++ (codes " " ++ decimal (kept_by w i))))))

-- the two words, and then the registers of the first n slots
unfoldable pub mixed_to : Words → ℕ → ℕ
mixed_to w zero = mixed (mixed 0 w.requests) w.completions
mixed_to w (suc n) = mixed (mixed_to w n) (kept_by w n)

abbrev pub sums : Words → ℕ
sums w = mixed_to w 32
