-- The number of each refusal. Contracts that refuse say so by it.
use Rattle.std.specs.Prelude.{ℕ}
use Rattle.refusal.specs.declared.reason.Refusal.{Refusal}
use Rattle.refusal.specs.declared.reason.Refusal.TheVariants.{SlotCount, ListLength, NoSuchSlot, SlotBusy, OutsideLimits, GivenNotAccepted, SlotBarred, JobsExhausted, NotTheSlotsJob, JobNotEnded, LineNotWellFormed, OpenMisplaced, SheetSize, OutputShort}

abbrev pub number_of : Refusal → ℕ
number_of SlotCount = 1
number_of ListLength = 2
number_of NoSuchSlot = 3
number_of SlotBusy = 4
number_of OutsideLimits = 5
number_of GivenNotAccepted = 6
number_of SlotBarred = 7
number_of JobsExhausted = 8
number_of NotTheSlotsJob = 9
number_of JobNotEnded = 10
number_of LineNotWellFormed = 11
number_of OpenMisplaced = 12
number_of SheetSize = 13
number_of OutputShort = 14
