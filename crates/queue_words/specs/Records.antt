-- The table of records, and what an access writes of one.
use Rattle.std.specs.Prelude.{ℕ, true, false, List, Some, None, Option, slice_index_or}
use Rattle.lock.specs.declared.words.Class.{Class}
use Rattle.lock.specs.declared.words.Class.TheVariants.{Reading}
use Rattle.queue_words.specs.declared.record.Record.{Record}
use Rattle.queue_words.specs.declared.record.Successor.{Successor}
use Rattle.queue_words.specs.declared.record.Successor.TheVariants.{Nobody}
use Rattle.queue_words.specs.declared.standing.Standing.{Standing}
use Rattle.queue_words.specs.declared.standing.Standing.TheVariants.{I}

-- a slot's record in a fresh table
abbrev pub unused : Record
unused = record { standing = I; class = Reading; next = None; state = record { blocked = false; successor = Nobody }; pred = None; w = None }

-- the record of slot i
abbrev pub record_at : List Record → ℕ → Record
record_at slots i = slice_index_or slots i unused

-- the slot stands elsewhere
abbrev pub relabelled : Record → Standing → Record
relabelled r s = record { standing = s; class = r.class; next = r.next; state = r.state; pred = r.pred; w = r.w }

-- blocked goes off; the other half of the state word stays
abbrev pub freed : Record → Record
freed r = record { standing = r.standing; class = r.class; next = r.next; state = record { blocked = false; successor = r.state.successor }; pred = r.pred; w = r.w }

-- the successor class is written; the other half of the state word stays
abbrev pub noted : Record → Successor → Record
noted r s = record { standing = r.standing; class = r.class; next = r.next; state = record { blocked = r.state.blocked; successor = s }; pred = r.pred; w = r.w }

-- next is written
abbrev pub linked : Record → ℕ → Record
linked r n = record { standing = r.standing; class = r.class; next = Some n; state = r.state; pred = r.pred; w = r.w }

-- the register w is set
abbrev pub keeping : Record → Option ℕ → Record
keeping r x = record { standing = r.standing; class = r.class; next = r.next; state = r.state; pred = r.pred; w = x }

-- the record that an arriving slot fills: next none, blocked, nobody behind; pred is what the tail was
abbrev pub filled : Record → Standing → Class → Option ℕ → Record
filled r s c p = record { standing = s; class = c; next = None; state = record { blocked = true; successor = Nobody }; pred = p; w = r.w }
