-- The table of places, and what a slot's standing means.
use Rattle.std.specs.Prelude.{ℕ, List, codes, slice_index_or}
use Rattle.lock.specs.declared.words.Phase.{Phase}
use Rattle.lock.specs.declared.words.Phase.TheVariants.{Idle, Called, Waits, Holds, Leaves}
use Rattle.lock.specs.declared.words.Class.{Class}
use Rattle.lock.specs.declared.words.Class.TheVariants.{Reading, Writing}
use Rattle.ticket_words.specs.declared.standing.Label.{Label}
use Rattle.ticket_words.specs.declared.standing.Label.TheVariants as label
use Rattle.ticket_words.specs.declared.standing.Standing.{Standing}
use Rattle.ticket_words.specs.declared.standing.Standing.TheVariants.{I, T1, T2, T3, T4, T5, T6, ReaderH, WriterH}
use Rattle.ticket_words.specs.declared.place.Place.{Place}

-- a slot's place in a fresh table
abbrev pub unused : Place
unused = record { standing = I; kept = 0 }

-- the place of slot i
abbrev pub place_at : List Place → ℕ → Place
place_at slots i = slice_index_or slots i unused

-- T1 and T4 are called, T2 and T5 wait, T3 and T6 leave
abbrev pub phase_of : Standing → Phase
phase_of I = Idle
phase_of T1 = Called
phase_of T2 = Waits
phase_of T3 = Leaves
phase_of T4 = Called
phase_of T5 = Waits
phase_of T6 = Leaves
phase_of ReaderH = Holds
phase_of WriterH = Holds

-- the class of the job; an idle slot has none, and counts as reading
abbrev pub class_of : Standing → Class
class_of I = Reading
class_of T1 = Reading
class_of T2 = Reading
class_of T3 = Reading
class_of T4 = Writing
class_of T5 = Writing
class_of T6 = Writing
class_of ReaderH = Reading
class_of WriterH = Writing

-- the label, which is H for a reader and a writer alike
abbrev pub label_of : Standing → Label
label_of I = label.I
label_of T1 = label.T1
label_of T2 = label.T2
label_of T3 = label.T3
label_of T4 = label.T4
label_of T5 = label.T5
label_of T6 = label.T6
label_of ReaderH = label.H
label_of WriterH = label.H

-- what is printed of a label
abbrev pub label_text : Label → List ℕ
label_text label.I = codes "I"
label_text label.T1 = codes "T1"
label_text label.T2 = codes "T2"
label_text label.T3 = codes "T3"
label_text label.T4 = codes "T4"
label_text label.T5 = codes "T5"
label_text label.T6 = codes "T6"
label_text label.H = codes "H"
