-- What each place means: a slot's phase, its class and its label.
use Rattle.std.specs.Prelude.{ℕ, List, codes}
use Rattle.lock.specs.declared.words.Phase.{Phase}
use Rattle.lock.specs.declared.words.Phase.TheVariants.{Idle, Called, Waits, Holds, Leaves}
use Rattle.lock.specs.declared.words.Class.{Class}
use Rattle.lock.specs.declared.words.Class.TheVariants.{Reading, Writing}
use Rattle.plain_words.specs.declared.places.Standing.{Standing}
use Rattle.plain_words.specs.declared.places.Standing.TheVariants.{I, P1, P2, ReaderH, P3, P4, P4Again, WriterH, P5}
use Rattle.plain_words.specs.declared.places.Label.{Label}
use Rattle.plain_words.specs.declared.places.Label.TheVariants as label

-- a writer waits from its first try that fails
abbrev pub phase_of : Standing → Phase
phase_of I = Idle
phase_of P1 = Called
phase_of P2 = Waits
phase_of ReaderH = Holds
phase_of P3 = Leaves
phase_of P4 = Called
phase_of P4Again = Waits
phase_of WriterH = Holds
phase_of P5 = Leaves

-- an idle slot has no class, and counts as a reader
abbrev pub class_of : Standing → Class
class_of I = Reading
class_of P1 = Reading
class_of P2 = Reading
class_of ReaderH = Reading
class_of P3 = Reading
class_of P4 = Writing
class_of P4Again = Writing
class_of WriterH = Writing
class_of P5 = Writing

-- what is shown of a place
abbrev pub label_of : Standing → Label
label_of I = label.I
label_of P1 = label.P1
label_of P2 = label.P2
label_of ReaderH = label.H
label_of P3 = label.P3
label_of P4 = label.P4
label_of P4Again = label.P4
label_of WriterH = label.H
label_of P5 = label.P5

-- what is printed of a label
abbrev pub label_text : Label → List ℕ
label_text label.I = codes "I"
label_text label.P1 = codes "P1"
label_text label.P2 = codes "P2"
label_text label.P3 = codes "P3"
label_text label.P4 = codes "P4"
label_text label.P5 = codes "P5"
label_text label.H = codes "H"
