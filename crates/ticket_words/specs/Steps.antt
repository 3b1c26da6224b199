-- What each access does: where the slot stands next, what it has kept, and the two words.
use Rattle.std.specs.Prelude.{ℕ, cond, replicate, ◌==◌, slice_set}
use Rattle.lock.specs.declared.words.Class.{Class}
use Rattle.lock.specs.declared.words.Class.TheVariants.{Reading, Writing}
use Rattle.ticket_words.specs.Counting.{lower, reader_counted, writer_counted}
use Rattle.ticket_words.specs.Places.{unused, place_at}
use Rattle.ticket_words.specs.declared.standing.Standing.{Standing}
use Rattle.ticket_words.specs.declared.standing.Standing.TheVariants.{I, T1, T2, T3, T4, T5, T6, ReaderH, WriterH}
use Rattle.ticket_words.specs.declared.words.Words.{Words}

-- where slot i stands
abbrev pub stands_at : Words → ℕ → Standing
stands_at w i = (place_at w.table.slots i).standing

-- what slot i has kept
abbrev pub kept_by : Words → ℕ → ℕ
kept_by w i = (place_at w.table.slots i).kept

-- T1 and T4 read the requests; the others that read, the completions
abbrev pub word_read : Standing → Words → ℕ
word_read I w = w.completions
word_read T1 w = w.requests
word_read T2 w = w.completions
word_read T3 w = w.completions
word_read T4 w = w.requests
word_read T5 w = w.completions
word_read T6 w = w.completions
word_read ReaderH w = w.completions
word_read WriterH w = w.completions

-- where the slot stands next, by what it has kept and the completions
abbrev pub next_standing : Standing → ℕ → ℕ → Standing
next_standing I k completions = I
next_standing T1 k completions = T2
next_standing T2 k completions = cond (lower completions == k) ReaderH T2
next_standing T3 k completions = I
next_standing T4 k completions = T5
next_standing T5 k completions = cond (completions == k) WriterH T5
next_standing T6 k completions = I
next_standing ReaderH k completions = ReaderH
next_standing WriterH k completions = WriterH

-- what it then has kept: T1 keeps the lower half of the requests, and T4 all of them
abbrev pub next_kept : Standing → ℕ → ℕ → ℕ
next_kept I k requests = k
next_kept T1 k requests = lower requests
next_kept T2 k requests = k
next_kept T3 k requests = k
next_kept T4 k requests = requests
next_kept T5 k requests = k
next_kept T6 k requests = k
next_kept ReaderH k requests = k
next_kept WriterH k requests = k

-- T1 counts a reader in the requests, and T4 a writer
abbrev pub next_requests : Standing → ℕ → ℕ
next_requests I requests = requests
next_requests T1 requests = reader_counted requests
next_requests T2 requests = requests
next_requests T3 requests = requests
next_requests T4 requests = writer_counted requests
next_requests T5 requests = requests
next_requests T6 requests = requests
next_requests ReaderH requests = requests
next_requests WriterH requests = requests

-- T3 counts a reader in the completions, and T6 a writer
abbrev pub next_completions : Standing → ℕ → ℕ
next_completions I completions = completions
next_completions T1 completions = completions
next_completions T2 completions = completions
next_completions T3 completions = reader_counted completions
next_completions T4 completions = completions
next_completions T5 completions = completions
next_completions T6 completions = writer_counted completions
next_completions ReaderH completions = completions
next_completions WriterH completions = completions

-- a call takes an idle slot to T1 or T4, by its class
abbrev pub called_standing : Standing → Class → Standing
called_standing I Reading = T1
called_standing I Writing = T4
called_standing T1 class = T1
called_standing T2 class = T2
called_standing T3 class = T3
called_standing T4 class = T4
called_standing T5 class = T5
called_standing T6 class = T6
called_standing ReaderH class = ReaderH
called_standing WriterH class = WriterH

-- a finish takes a holding reader to T3 and a holding writer to T6
abbrev pub finished_standing : Standing → Standing
finished_standing I = I
finished_standing T1 = T1
finished_standing T2 = T2
finished_standing T3 = T3
finished_standing T4 = T4
finished_standing T5 = T5
finished_standing T6 = T6
finished_standing ReaderH = T3
finished_standing WriterH = T6

-- the words with slot i's place, the requests and the completions written anew
abbrev pub written : Words → ℕ → Standing → ℕ → ℕ → ℕ → Words
written w i at k requests completions = record {
  requests = requests;
  completions = completions;
  table = record { slots = slice_set w.table.slots i (record { standing = at; kept = k }) };
}

-- the words after one access of slot i, which stands there
abbrev pub stepped_at : Words → ℕ → Standing → Words
stepped_at w i at = written w i
    (next_standing at (kept_by w i) w.completions)
    (next_kept at (kept_by w i) w.requests)
    (next_requests at w.requests)
    (next_completions at w.completions)

-- the words after one access of slot i
abbrev pub stepped : Words → ℕ → Words
stepped w i = stepped_at w i (stands_at w i)

-- the words after a call of slot i, which is no access
abbrev pub called : Words → ℕ → Class → Words
called w i class = written w i (called_standing (stands_at w i) class) (kept_by w i) w.requests w.completions

-- the words after a finish of slot i, which is none either
abbrev pub finished : Words → ℕ → Words
finished w i = written w i (finished_standing (stands_at w i)) (kept_by w i) w.requests w.completions

-- fresh words: nothing counted, every slot idle
abbrev pub fresh_words : Words
fresh_words = record { requests = 0; completions = 0; table = record { slots = replicate 32 unused } }
