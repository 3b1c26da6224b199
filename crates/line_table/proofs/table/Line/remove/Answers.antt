use Rattle.std.proofs.Common.{◌≡◌, ℕ, List, length, get_or, take, set, ap, ◌∙◌, arith, length-set, rules}
use Rattle.line_table.proofs.Rest.{moves_up, drops_out, behind}
use Rattle.line_table.proofs.table.Line.remove.Goals as goal
use Rattle.line_table.proofs.table.Line.remove.Goals.{then-other-slot, else-other-slot}

pub loop-i-preserved : goal.loop-i-preserved
loop-i-preserved c =
    let ys : List ℕ = c.args.self.now.slots in
    let xs : List ℕ = c.loop-i.self.slots in
    let i : ℕ = c.loop-i.i in
    let n : ℕ = c.loop-i.len in
    let s : ℕ = c.args.slot in
    let inv = c.loop-i.invariant in
    let m = c.min-i-end.ensures in
    let ly : length ys ≡ 32 = search rules in
    let d : get_or xs i 0 ≡ get_or ys i 0 = inv.3 i (omega arith) in
    let l : length (set xs n (get_or xs i 0)) ≡ 32 = simp length-set inv.1 in
    elim c.if-other-slot.branch [
      | then-other-slot w ↦
          (omega arith, l, ap (λ z. take z (set xs n (get_or xs i 0))) w.len-is ∙ moves_up s xs ys i n (omega arith) (omega arith) inv.2 d (search rules), behind xs ys i n (get_or xs i 0) inv.0 inv.3)
      | else-other-slot w ↦
          (omega arith, l, ap (λ z. take z (set xs n (get_or xs i 0))) w.len-is ∙ drops_out s xs ys i n (omega arith) inv.2 d (search rules), behind xs ys i n (get_or xs i 0) inv.0 inv.3)
    ]
