-- What the plain lock shows.
use Rattle.std.specs.Prelude.{ℕ, List, ◌++◌, codes, decimal}
use Rattle.plain_lock.specs.Moves.{labels}
use Rattle.plain_lock.specs.declared.plain.PlainLock.{PlainLock}
use Rattle.plain_words.specs.Places.{label_text}

abbrev pub shows : PlainLock → ℕ → List ℕ
shows s i = label_text (labels s i) ++ (codes " " ++ decimal s.words.word)

abbrev pub sums : PlainLock → ℕ
sums s = s.words.word
