-- What a session is about: the session itself, the meanings of its two networks and of its stop-clock, and the caller's
-- point list and tape. The rules of the calls and the law over runs speak of worlds alone, so what holds of them holds
-- over every network and every stop-clock with that meaning.
use Rattle.std.specs.Prelude.{ℕ, List, take, vec_items, slice_index_or}
use Rattle.network.specs.Network.{Net}
use Rattle.clock.specs.StopClock.{elapsed}
use Rattle.lines.specs.Pages.{Page}
use Rattle.records.specs.declared.batch.Batch.{Batch}
use Rattle.records.specs.declared.line.Line.{Line}
use Rattle.records.specs.declared.market.Market.{Market}
use Rattle.records.specs.declared.message.Message.{Message}
use Rattle.records.specs.declared.seat.Seat.{Seat}
use Rattle.records.specs.declared.tag.Tag.{Tag}
use Rattle.records.specs.declared.trade.Trade.{Trade}
use Rattle.records.specs.Seat.{blank}
use Rattle.session.specs.declared.state.State.{State}
use Rattle.session.specs.declared.times.Times as laid

-- the least time between two deliveries to one seat, and between two seals
pub record Times : Type 0 where
  pub horizon : ℕ
  pub window : ℕ

pub record World : Type 0 where
  pub times : Times
  -- the moment of the last accepted call that had one
  pub last : ℕ
  pub market : Market
  pub seats : List Seat
  pub buffer : List Trade
  pub points : Page ℕ
  pub tape : Page Line
  pub forward : Net Batch
  pub reverse : Net Message
  pub clock : ℕ → ℕ

-- the times of a layout or a session
abbrev pub times_of : laid.Times → Times
times_of t = record { horizon = t.horizon; window = t.window }

-- the world of a session's state
abbrev pub world : State → Net Batch → Net Message → (ℕ → ℕ) → Page ℕ → Page Line → World
world s f r c p t = record {
  times = times_of s.times;
  last = s.last;
  market = s.market;
  seats = vec_items s.seats;
  buffer = s.buffer;
  points = p;
  tape = t;
  forward = f;
  reverse = r;
  clock = c;
}

-- the record of a seat
abbrev pub seat_of : World → ℕ → Seat
seat_of w k = slice_index_or w.seats k blank

-- a seat's tag at a moment: the last batch delivered to it, or 0, and the stop-clock's time since
abbrev pub tag_at : World → (k t : ℕ) → Tag
tag_at w k t = record { batch = (seat_of w k).batch; elapsed = elapsed w.clock k t }

-- the lines that are written on a page
abbrev pub written : {X : Type 0} → Page X → List X
written p = take p.used p.lines
