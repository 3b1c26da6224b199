use Rattle.std.proofs.Common.{◌≡◌}
use Rattle.lock_runs.specs.Ticket.{mixed_to}
use Rattle.lock_runs.proofs.ticket.TicketLockShown.checksum.Given as goal

abbrev pub invariant-loop-place : goal.invariant-loop-place
invariant-loop-place l = l.sum ≡ mixed_to l.self.words l.place-index
