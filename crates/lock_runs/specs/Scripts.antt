-- The text of a script's lines.
use Rattle.std.specs.Prelude.{◌≡◌, ℕ, ◌+◌, ◌/◌, ◌%◌, ◌<◌, cond, List, [], ◌∷◌, Some, None, Option, ◌≢◌, nat_lt}
use Rattle.lock.specs.declared.words.Class.TheVariants.{Reading, Writing}
use Rattle.lock_runs.specs.declared.act.Act.{Act}
use Rattle.lock_runs.specs.declared.act.Act.TheVariants.{Call, Step, Finish}
use Rattle.lock_runs.specs.declared.line.Line.{Line}

abbrev pub letter : Act → ℕ
letter (Call Reading) = 114
letter (Call Writing) = 119
letter Step = 115
letter Finish = 102

abbrev pub Lettered : ℕ → Option Act → Type 0
Lettered b None = (a : Act) → letter a ≢ b
Lettered b (Some a) = letter a ≡ b

-- a slot's number, which has one digit or two
abbrev pub slot_text : ℕ → List ℕ
slot_text i = cond (nat_lt i 10) ((48 + i) ∷ []) ((48 + i / 10) ∷ (48 + i % 10) ∷ [])

abbrev pub Numbered : List ℕ → Option ℕ → Type 0
Numbered digits None = (i : ℕ) → i < 32 → digits ≢ slot_text i
Numbered digits (Some i) = (i < 32) × (digits ≡ slot_text i)

-- a letter, a blank and the slot
abbrev pub line_text : Line → List ℕ
line_text l = letter l.act ∷ 32 ∷ slot_text l.slot.index

-- a line that is read is the text of an act of one of 32 slots
abbrev pub Reads : List ℕ → Option Line → Type 0
Reads text None = (l : Line) → text ≢ line_text l
Reads text (Some l) = text ≡ line_text l
