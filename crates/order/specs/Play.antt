-- What playing a list of calls promises: each call is made, in its order, with the answer of the rules; and the law.
use Rattle.std.specs.Prelude.{◌≡◌, List, map, reverse}
use Rattle.network.specs.Network.{Unused}
use Rattle.clock.specs.StopClock.{unmarked}
use Rattle.session.specs.Opening.{Fresh}
use Rattle.session.specs.World.{World}
use Rattle.order.specs.declared.call.Call.{Call}
use Rattle.order.specs.declared.event.Event.{Event}
use Rattle.order.specs.Booking.{BookedOver, Desk}
use Rattle.order.specs.Run.{Run, call_of}

-- these calls were made from a start, in their order, with these events, and left this
pub record Plays (calls : List Call) (start : World) (before : Desk) (events : List Event) (end : World) (after : Desk) : Type 0 where
  -- the events are exactly these calls
  pub made : map call_of events ≡ calls
  -- each answered by the rules
  pub run : Run start (reverse events) end
  -- each released trade was booked
  pub booked : BookedOver before (reverse events) after

-- over networks that were never used, a stop-clock that was never marked and a tape without lines, a start is fresh: then
-- the law is of this run
abbrev pub StartsFresh : World → Type 0
StartsFresh w = Unused w.forward → Unused w.reverse → w.clock ≡ unmarked → w.tape.used ≡ 0 → Fresh w
