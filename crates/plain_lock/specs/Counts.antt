-- What the lock's word counts.
use Rattle.std.specs.Prelude.{ℕ, Bool, true, false, List, count_by}
use Rattle.plain_words.specs.declared.places.Standing.{Standing}
use Rattle.plain_words.specs.declared.places.Standing.TheVariants.{I, P1, P2, ReaderH, P3, P4, P4Again, WriterH, P5}

-- a reader is counted from P1's addition until P3's subtraction
abbrev pub reads : Standing → Bool
reads I = false
reads P1 = false
reads P2 = true
reads ReaderH = true
reads P3 = true
reads P4 = false
reads P4Again = false
reads WriterH = false
reads P5 = false

-- a writer is counted from P4's store until P5's subtraction
abbrev pub writes : Standing → Bool
writes I = false
writes P1 = false
writes P2 = false
writes ReaderH = false
writes P3 = false
writes P4 = false
writes P4Again = false
writes WriterH = true
writes P5 = true

-- how many slots are counted as readers
abbrev pub readers : List Standing → ℕ
readers slots = count_by reads slots

-- how many slots are counted as writers
abbrev pub writers : List Standing → ℕ
writers slots = count_by writes slots
