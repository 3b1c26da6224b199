-- What a slot's standing means.
use Rattle.std.specs.Prelude.{ℕ, List, codes}
use Rattle.lock.specs.declared.words.Phase.{Phase}
use Rattle.lock.specs.declared.words.Phase.TheVariants.{Idle, Called, Waits, Holds, Leaves}
use Rattle.lock.specs.declared.words.Class.{Class}
use Rattle.lock.specs.declared.words.Class.TheVariants.{Reading, Writing}
use Rattle.queue_words.specs.declared.standing.Label.{Label}
use Rattle.queue_words.specs.declared.standing.Label.TheVariants as label
use Rattle.queue_words.specs.declared.standing.Standing.{Standing}
use Rattle.queue_words.specs.declared.standing.Standing.TheVariants.{I, W1, W2, W3, W4, W5, W6, W7, W8, WriterH, V1, V2, V3, V4, V5, V6, R1, R2, R3, R4, R5, R6, R7, R8, R9, R10, R11, R12, R13, ReaderH, E1, E2, E3, E4, E5, E6, E7, E8, E9, E10}

-- W1 and R1 are called; the rest of W and R wait, V and E leave
abbrev pub phase_of : Standing → Phase
phase_of I = Idle
phase_of W1 = Called
phase_of W2 = Waits
phase_of W3 = Waits
phase_of W4 = Waits
phase_of W5 = Waits
phase_of W6 = Waits
phase_of W7 = Waits
phase_of W8 = Waits
phase_of WriterH = Holds
phase_of V1 = Leaves
phase_of V2 = Leaves
phase_of V3 = Leaves
phase_of V4 = Leaves
phase_of V5 = Leaves
phase_of V6 = Leaves
phase_of R1 = Called
phase_of R2 = Waits
phase_of R3 = Waits
phase_of R4 = Waits
phase_of R5 = Waits
phase_of R6 = Waits
phase_of R7 = Waits
phase_of R8 = Waits
phase_of R9 = Waits
phase_of R10 = Waits
phase_of R11 = Waits
phase_of R12 = Waits
phase_of R13 = Waits
phase_of ReaderH = Holds
phase_of E1 = Leaves
phase_of E2 = Leaves
phase_of E3 = Leaves
phase_of E4 = Leaves
phase_of E5 = Leaves
phase_of E6 = Leaves
phase_of E7 = Leaves
phase_of E8 = Leaves
phase_of E9 = Leaves
phase_of E10 = Leaves

-- the class of the job; an idle slot has none, and counts as reading
abbrev pub class_of : Standing → Class
class_of I = Reading
class_of W1 = Writing
class_of W2 = Writing
class_of W3 = Writing
class_of W4 = Writing
class_of W5 = Writing
class_of W6 = Writing
class_of W7 = Writing
class_of W8 = Writing
class_of WriterH = Writing
class_of V1 = Writing
class_of V2 = Writing
class_of V3 = Writing
class_of V4 = Writing
class_of V5 = Writing
class_of V6 = Writing
class_of R1 = Reading
class_of R2 = Reading
class_of R3 = Reading
class_of R4 = Reading
class_of R5 = Reading
class_of R6 = Reading
class_of R7 = Reading
class_of R8 = Reading
class_of R9 = Reading
class_of R10 = Reading
class_of R11 = Reading
class_of R12 = Reading
class_of R13 = Reading
class_of ReaderH = Reading
class_of E1 = Reading
class_of E2 = Reading
class_of E3 = Reading
class_of E4 = Reading
class_of E5 = Reading
class_of E6 = Reading
class_of E7 = Reading
class_of E8 = Reading
class_of E9 = Reading
class_of E10 = Reading

-- the label, which is H for a reader and a writer alike
abbrev pub label_of : Standing → Label
label_of I = label.I
label_of W1 = label.W1
label_of W2 = label.W2
label_of W3 = label.W3
label_of W4 = label.W4
label_of W5 = label.W5
label_of W6 = label.W6
label_of W7 = label.W7
label_of W8 = label.W8
label_of WriterH = label.H
label_of V1 = label.V1
label_of V2 = label.V2
label_of V3 = label.V3
label_of V4 = label.V4
label_of V5 = label.V5
label_of V6 = label.V6
label_of R1 = label.R1
label_of R2 = label.R2
label_of R3 = label.R3
label_of R4 = label.R4
label_of R5 = label.R5
label_of R6 = label.R6
label_of R7 = label.R7
label_of R8 = label.R8
label_of R9 = label.R9
label_of R10 = label.R10
label_of R11 = label.R11
label_of R12 = label.R12
label_of R13 = label.R13
label_of ReaderH = label.H
label_of E1 = label.E1
label_of E2 = label.E2
label_of E3 = label.E3
label_of E4 = label.E4
label_of E5 = label.E5
label_of E6 = label.E6
label_of E7 = label.E7
label_of E8 = label.E8
label_of E9 = label.E9
label_of E10 = label.E10

-- what is printed of a label
abbrev pub label_text : Label → List ℕ
label_text label.I = codes "I"
label_text label.W1 = codes "W1"
label_text label.W2 = codes "W2"
label_text label.W3 = codes "W3"
label_text label.W4 = codes "W4"
label_text label.W5 = codes "W5"
label_text label.W6 = codes "W6"
label_text label.W7 = codes "W7"
label_text label.W8 = codes "W8"
label_text label.V1 = codes "V1"
label_text label.V2 = codes "V2"
label_text label.V3 = codes "V3"
label_text label.V4 = codes "V4"
label_text label.V5 = codes "V5"
label_text label.V6 = codes "V6"
label_text label.R1 = codes "R1"
label_text label.R2 = codes "R2"
label_text label.R3 = codes "R3"
label_text label.R4 = codes "R4"
label_text label.R5 = codes "R5"
label_text label.R6 = codes "R6"
label_text label.R7 = codes "R7"
label_text label.R8 = codes "R8"
label_text label.R9 = codes "R9"
label_text label.R10 = codes "R10"
label_text label.R11 = codes "R11"
label_text label.R12 = codes "R12"
label_text label.R13 = codes "R13"
label_text label.E1 = codes "E1"
label_text label.E2 = codes "E2"
label_text label.E3 = codes "E3"
label_text label.E4 = codes "E4"
label_text label.E5 = codes "E5"
label_text label.E6 = codes "E6"
label_text label.E7 = codes "E7"
label_text label.E8 = codes "E8"
label_text label.E9 = codes "E9"
label_text label.E10 = codes "E10"
label_text label.H = codes "H"
