use Rattle.std.proofs.Common.{rules}
use Rattle.line_table.specs.Lines.{in_line}
use Rattle.lock.proofs.Arrivals.{on_moves, on_line}
use Rattle.lined_lock.proofs.lined.LinedLock.go_on.Goals as goal

pub rewrite-requires : goal.rewrite-requires
rewrite-requires g c =
    let s = c.args.self.now in
    let k = g.met.P.Procedures.keeps_stepped s.words (in_line s.line) c.args.slot.index s.keeps c.args.slot.within (on_moves _ c.requires) in
    let e = on_line _ c.args.slot.index (in_line s.line) c.requires in
    search rules
