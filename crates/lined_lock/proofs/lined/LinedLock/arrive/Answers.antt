use Rattle.std.proofs.Common.{rules}
use Rattle.std.proofs.lemmas.List.{length_push}
use Rattle.line_table.proofs.Rest.{pushed_room}
use Rattle.line_table.specs.Lines.{in_line}
use Rattle.lock.proofs.Arrivals.{called_moves}
use Rattle.lined_lock.proofs.lined.LinedLock.arrive.Goals as goal

pub rewrite-requires : goal.rewrite-requires
rewrite-requires g c =
    let s = c.args.self.now in
    let k = g.met.P.Procedures.keeps_stepped s.words (in_line s.line) c.args.slot.index s.keeps c.args.slot.within (called_moves _ c.requires) in
    let n = g.met.P.Procedures.keeps_few _ _ k in
    search (rules, length_push, pushed_room)
