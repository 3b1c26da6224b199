use Rattle.std.proofs.Common.{◌≡◌, ℕ, ◌≤◌, length, get_or, take}
use Rattle.line_table.proofs.table.Line.remove.Given as goal
use Rattle.lock.specs.Line.{without}

-- the slots so far that stay are the first `len`, and those from i on have not moved
abbrev pub invariant-loop-i : goal.invariant-loop-i
invariant-loop-i l =
    (l.len ≤ l.i) × (length l.self.slots ≡ 32) × (take l.len l.self.slots ≡ without l.slot (take l.i l.initial.self.slots))
    × ((k : ℕ) → l.i ≤ k → get_or l.self.slots k 0 ≡ get_or l.initial.self.slots k 0)
