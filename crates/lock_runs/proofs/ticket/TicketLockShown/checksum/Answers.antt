use Rattle.std.proofs.Common.{ap, ◌∙◌}
use Rattle.ticket_words.specs.Places.{place_at}
use Rattle.lock_runs.proofs.Sums.{sum_begins, sum_more}
use Rattle.lock_runs.proofs.ticket.TicketLockShown.checksum.Goals as goal

pub loop-place-init : goal.loop-place-init
loop-place-init c = let b = sum_begins c.args.self.now.words in cc

pub loop-place-preserved : goal.loop-place-preserved
loop-place-preserved c =
    let rows = c.rows-rows.ensures ∙ ap (λ t. t.slots) (c.places.ensures ∙ ap (λ w. w.table) c.words-words.ensures) in
    let kept = ap (λ xs. (place_at xs c.loop-place.place-index).kept) rows in
    let b = sum_more c.args.self.now.words c.loop-place.place-index in
    cc
