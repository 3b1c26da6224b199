-- The line that a table stands for.
use Rattle.std.specs.Prelude.{ℕ, cond, List, [], ◌∷◌, ◌++◌, length, take, nat_lt}
use Rattle.line_table.specs.declared.table.Line.{Line}

-- the slots in line, the first to come first
abbrev pub in_line : Line → List ℕ
in_line l = take l.len l.slots

-- one more at the end, while there is room
abbrev pub pushed : ℕ → List ℕ → List ℕ
pushed i line = cond (nat_lt (length line) 32) (line ++ (i ∷ [])) line
