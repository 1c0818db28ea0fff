-- What a layout is, and what opening one gives: a session in which nothing has happened.
use Rattle.std.specs.Prelude.{◌≡◌, ℕ, ◌^◌, ◌<◌, ◌≤◌, [], replicate}
use Rattle.network.specs.Network.{Net, Unused}
use Rattle.clock.specs.StopClock.{unmarked}
use Rattle.lines.specs.Pages.{Page}
use Rattle.records.specs.declared.batch.Batch.{Batch}
use Rattle.records.specs.declared.line.Line.{Line}
use Rattle.records.specs.declared.message.Message.{Message}
use Rattle.records.specs.Seat.{blank}
use Rattle.records.specs.Market.{no_points}
use Rattle.session.specs.World.{World, Times}

-- a layout has so many seats at most
abbrev pub most_seats : ℕ
most_seats = 16

-- a layout: the times and the number of seats
pub record Plan : Type 0 where
  pub times : Times
  pub seats : ℕ

-- every layout keeps 1 ≤ horizon < window, a horizon of at most 2^32, a window of at most 2^33, and at most 16 seats
pub record Laid (p : Plan) : Type 0 where
  pub some : 1 ≤ p.times.horizon
  pub apart : p.times.horizon < p.times.window
  pub near : p.times.horizon ≤ 2 ^ 32
  pub far : p.times.window ≤ 2 ^ 33
  pub few : p.seats ≤ most_seats

-- a session that was just opened, over any networks, stop-clock, point list and tape
abbrev pub opened : Plan → Net Batch → Net Message → (ℕ → ℕ) → Page ℕ → Page Line → World
opened plan f r c p t = record {
  times = plan.times;
  last = 0;
  market = no_points;
  seats = replicate plan.seats blank;
  buffer = [];
  points = p;
  tape = t;
  forward = f;
  reverse = r;
  clock = c;
}

-- just opened, over networks that were never used, a stop-clock that was never marked, and a tape without lines
pub record Fresh (w : World) : Type 0 where
  pub plan : Plan
  pub laid : Laid plan
  pub opening : w ≡ opened plan w.forward w.reverse w.clock w.points w.tape
  pub tape : w.tape.used ≡ 0
  pub forward : Unused w.forward
  pub reverse : Unused w.reverse
  pub clock : w.clock ≡ unmarked
