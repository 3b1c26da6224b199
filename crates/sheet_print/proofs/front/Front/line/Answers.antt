use Rattle.std.proofs.Common.{◌≡◌, ◌≤◌, [], ◌∷◌, ◌++◌, length, codes, decimal, append_assoc, arith}
use Rattle.sheet_print.specs.Shown.{shown}
use Rattle.sheet_print.proofs.Fronts.{both}
use Rattle.sheet_print.proofs.front.Front.line.Goals as goal
use Rattle.sheet_print.proofs.front.Front.line.Goals.{in-Opened, in-Fault}

pub returns : goal.returns
returns c =
    let inside : c.args.self.now.end ≤ length c.args.self.now.out.now = omega arith in
    elim c.match-answer.branch [
      | in-Opened w ↦
          let whole : shown c.args.answer ≡ (codes "(open " ++ decimal w.in-Opened.slots) ++ (41 ∷ 10 ∷ []) = rw w.in-Opened.is (simp append_assoc) in
          let put = both inside w.text.ensures w.number.ensures.put in
          rw whole (both inside put (rw w.self-is at c.text-2.ensures))
      | in-Fault w ↦
          let whole : shown c.args.answer ≡ (((codes "(fault " ++ decimal w.in-Fault.line) ++ codes " ") ++ decimal w.in-Fault.number) ++ (41 ∷ 10 ∷ []) = rw w.in-Fault.is (simp append_assoc) in
          let put = both inside (both inside (both inside w.text-in-Fault.ensures w.number-in-Fault.ensures.put) w.text-in-Fault-2.ensures) w.number-in-Fault-2.ensures.put in
          rw whole (both inside put (rw w.self-is at c.text-2.ensures))
    ]
