-- A ticket: the line that a release wrote, still to be booked or rejected.
use Rattle.std.specs.Prelude.{Ok, Err, Result}
use Rattle.records.specs.declared.line.Line.{Line}
use Rattle.records.specs.declared.refusal.Refusal.{Refusal}
use Rattle.session.specs.declared.ticket.Ticket.{Ticket}

-- what a release answers, as the line that it wrote
abbrev pub lined : Result Ticket Refusal → Result Line Refusal
lined (Ok t) = Ok t.line
lined (Err e) = Err e
