-- The ticket lock as its proofs name it.
use Rattle.lined_lock.specs.Lock.{locked}
use Rattle.lined_lock.specs.declared.lined.LinedLock.{LinedLock}
use Rattle.lock.specs.declared.meaning.Lock as lock
use Rattle.ticket_lock.specs.contracts.ticket.TicketProceduresWords.TheImpl as procedures
use Rattle.ticket_lock.specs.declared.ticket.Ticket.{Ticket}
use Rattle.ticket_words.specs.declared.standing.Label.{Label}
use Rattle.ticket_words.specs.declared.words.Words.{Words}

abbrev pub TicketLock : Type 0
TicketLock = LinedLock Ticket Words Label procedures.ghosts

-- its members as a lock
abbrev pub ticket : lock.Ghosts TicketLock Label
ticket = locked procedures.ghosts
