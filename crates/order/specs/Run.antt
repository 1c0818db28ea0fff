-- Runs: calls with their answers, one after another. A step is what the contract of its call says, and no other account
-- of what a session does is given.
use Rattle.std.specs.Prelude.{◌≡◌, List, [], ◌∷◌, Ok, Err, Result}
use Rattle.records.specs.declared.line.Line.{Line}
use Rattle.records.specs.declared.refusal.Refusal.{Refusal}
use Rattle.session.specs.Beat.{Beats}
use Rattle.session.specs.Collect.{Collects}
use Rattle.session.specs.Deliver.{Delivers}
use Rattle.session.specs.End.{Ends}
use Rattle.session.specs.Point.{Points}
use Rattle.session.specs.Release.{Releases}
use Rattle.session.specs.Seal.{Seals}
use Rattle.session.specs.Submit.{Submits}
use Rattle.session.specs.World.{World}
use Rattle.order.specs.declared.call.Call.{Call}
use Rattle.order.specs.declared.call.Call.TheVariants as call
use Rattle.order.specs.declared.event.Event.{Event}
use Rattle.order.specs.declared.event.Event.TheVariants as event
use Rattle.order.specs.declared.event.Outcome.{Outcome}

-- the call that was made
abbrev pub call_of : Event → Call
call_of (event.Point t x r) = call.Point t x
call_of (event.Seal t r) = call.Seal t
call_of (event.Deliver t k r) = call.Deliver t k
call_of (event.Submit t k o r) = call.Submit t k o
call_of (event.Beat t k r) = call.Beat t k
call_of (event.End t k r) = call.End t k
call_of (event.Collect t k r) = call.Collect t k
call_of (event.Release r) = call.Release

-- what release answered, without what the book then made of the trade
abbrev pub released : Result Outcome Refusal → Result Line Refusal
released (Ok x) = Ok x.line
released (Err e) = Err e

-- one call with its answer, between two worlds
abbrev pub Step : World → Event → World → Type 0
Step w (event.Point t x r) v = Points w t x r v
Step w (event.Seal t r) v = Seals w t r v
Step w (event.Deliver t k r) v = Delivers w t k r v
Step w (event.Submit t k o r) v = Submits w t k o r v
Step w (event.Beat t k r) v = Beats w t k r v
Step w (event.End t k r) v = Ends w t k r v
Step w (event.Collect t k r) v = Collects w t k r v
Step w (event.Release r) v = Releases w (released r) v

-- a chain of steps, the newest first
abbrev pub Run : World → List Event → World → Type 0
Run w [] v = v ≡ w
Run w (e ∷ es) v = (u : World) × Run w es u × Step u e v
