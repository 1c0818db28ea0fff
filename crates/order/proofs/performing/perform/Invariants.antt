use Rattle.std.proofs.Common.{◌≡◌, ◌+◌, ◌-◌, ◌≤◌, map, reverse, length, take, vec_items, vec_len, vec_capacity}
use Rattle.lines.specs.Pages.{page}
use Rattle.session.specs.World.{world}
use Rattle.order.specs.Booking.{BookedOver, desk}
use Rattle.order.specs.Venue.{SameVenue}
use Rattle.order.specs.Run.{Run, call_of}
use Rattle.order.proofs.performing.perform.Given as goal

-- the calls so far were made, and there is room for the rest
abbrev pub invariant-loop-call : goal.invariant-loop-call
invariant-loop-call g l =
    (vec_len l.events + (length l.calls - l.call-index) ≤ vec_capacity l.events)
    × (map call_of (vec_items l.events) ≡ take l.call-index l.calls)
    × Run
    (world l.initial.session.state (g.F.Network.meaning l.initial.venue.forward.now) (g.R.Network.meaning l.initial.venue.reverse.now) (g.C.StopClock.meaning l.initial.venue.clock.now) (page l.initial.points) (page l.initial.tape))
    (reverse (vec_items l.events))
    (world l.session.state (g.F.Network.meaning l.venue.forward.now) (g.R.Network.meaning l.venue.reverse.now) (g.C.StopClock.meaning l.venue.clock.now) (page l.points) (page l.tape))
    × BookedOver (desk l.initial.venue.book.now (page l.initial.fills)) (reverse (vec_items l.events)) (desk l.venue.book.now (page l.fills))
    × (l.points.lines.ghost_name ≡ l.initial.points.lines.ghost_name)
    × (l.tape.lines.ghost_name ≡ l.initial.tape.lines.ghost_name)
    × (l.fills.lines.ghost_name ≡ l.initial.fills.lines.ghost_name)
    × SameVenue l.initial.venue l.venue
