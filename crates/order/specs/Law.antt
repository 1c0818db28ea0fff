-- The law over runs: what holds of every session, over every pair of networks and every stop-clock with the stated
-- meaning, whatever the list of calls. A session starts fresh: just opened, over networks that were never used, a
-- stop-clock that was never marked, and a tape without lines, all of which these calls alone change.
use Rattle.std.specs.Prelude.{◌≡◌, ℕ, zero, suc, ◌<◌, ◌≤◌, List, [], ◌∷◌, ◌++◌, length}
use Rattle.std.specs.List.{ContainsAt, AllByRecursion}
use Rattle.std.specs.List.Sorted.{IsPermutation}
use Rattle.network.specs.Network.{Net}
use Rattle.records.specs.declared.line.Line.{Line}
use Rattle.records.specs.declared.message.Message.{Message}
use Rattle.records.specs.declared.message.Message.TheVariants as message
use Rattle.records.specs.declared.trade.Trade.{Trade}
use Rattle.records.specs.Trade.{Precedes}
use Rattle.session.specs.Opening.{Fresh}
use Rattle.session.specs.Settled.{Settled}
use Rattle.session.specs.World.{World, written}
use Rattle.order.specs.declared.event.Event.{Event}
use Rattle.order.specs.History.{Submission, submissions, accepted_trades, EndCollected}
use Rattle.order.specs.Run.{Run}

-- the lines of the tape
abbrev pub tape_of : World → List Line
tape_of w = written w.tape

-- the trades on a tape
abbrev pub trades_on : List Line → List Trade
trades_on [] = []
trades_on (l ∷ ls) = l.trade ∷ trades_on ls

-- the records on a link, the oldest first
abbrev pub records : {R : Type 0} → List (ℕ × R) → List R
records [] = []
records (p ∷ ps) = p.1 ∷ records ps

abbrev pub carried : {R : Type 0} → Net R → ℕ → List R
carried n k = records (n.links k).pairs

-- the trades among messages
abbrev pub trades_among : List Message → List Trade
trades_among [] = []
trades_among (message.Trade x ∷ ms) = x ∷ trades_among ms
trades_among (message.Beat g ∷ ms) = trades_among ms
trades_among (message.End ∷ ms) = trades_among ms

-- lists by number, one after another
abbrev pub gathered : {X : Type 0} → (ℕ → List X) → ℕ → List X
gathered f zero = []
gathered f (suc n) = gathered f n ++ f n

-- the trades on the reverse links
abbrev pub on_the_way : World → List Trade
on_the_way w = gathered (λ k. trades_among (carried w.reverse k)) (length w.seats)

-- 1. Conservation: the accepted trades are, trade by trade and each once, those on the tape, in the buffer and on the way;
-- and every one that is not on the tape ranks after all that are.
pub record Conserved (es : List Event) (v : World) : Type 0 where
  pub each_once : IsPermutation (accepted_trades es) (trades_on (tape_of v) ++ (v.buffer ++ on_the_way v))
  pub in_rank : AllByRecursion (λ x. AllByRecursion (Precedes x) (v.buffer ++ on_the_way v)) (trades_on (tape_of v))

abbrev pub Conservation : Type 0
Conservation = (w v : World) (es : List Event) → Fresh w → Run w es v → Conserved es v

-- the quicker of two, and of equal responses the lower seat, and then the lower serial
abbrev pub Quicker : Submission → Submission → Type 0
Quicker a b =
    (a.response ≤ b.response)
    × (a.response ≡ b.response → a.trade.seat ≤ b.trade.seat)
    × (a.response ≡ b.response → a.trade.seat ≡ b.trade.seat → a.trade.serial < b.trade.serial)

-- 2. Responses: of two trades on the tape with one trigger, each submitted less than the horizon after the trigger reached
-- its seat, the quicker stands first.
abbrev pub Responses : Type 0
Responses =
    (w v : World) (es : List Event) → Fresh w → Run w es v
    → (a b : Submission) (l m : Line) → ContainsAt (submissions es) a → ContainsAt (submissions es) b
    → ContainsAt (tape_of v) l → ContainsAt (tape_of v) m → l.trade ≡ a.trade → m.trade ≡ b.trade
    → a.trade.trigger ≡ b.trade.trigger
    → a.response < w.times.horizon → b.response < w.times.horizon
    → Quicker a b → l.place < m.place

-- a session is settled: collect has answered an end for every seat, and the tape has as many lines as trades were accepted
pub record SettledBy (es : List Event) (v : World) : Type 0 where
  pub ends : (k : ℕ) → k < length v.seats → EndCollected es k
  pub lines : length (tape_of v) ≡ length (accepted_trades es)

-- 3. Equal tapes: two settled sessions, whatever else they differ in, have equal tapes exactly when their accepted trades
-- are the same.
abbrev pub EqualTapes : Type 0
EqualTapes =
    (w v w' v' : World) (es fs : List Event)
    → Fresh w → Run w es v → SettledBy es v
    → Fresh w' → Run w' fs v' → SettledBy fs v'
    → (tape_of v ≡ tape_of v' → IsPermutation (accepted_trades es) (accepted_trades fs))
    × (IsPermutation (accepted_trades es) (accepted_trades fs) → tape_of v ≡ tape_of v')

-- 4. Settlement: what the question settled asks holds exactly when the session is settled.
abbrev pub Settlement : Type 0
Settlement =
    (w v : World) (es : List Event) → Fresh w → Run w es v
    → (Settled v → SettledBy es v) × (SettledBy es v → Settled v)

-- the law of every session
pub record Law : Type 0 where
  pub conservation : Conservation
  pub responses : Responses
  pub equal_tapes : EqualTapes
  pub settlement : Settlement

-- The law is of something: some session settles with two lines on its tape, both on one trigger and within the horizon.
abbrev pub SomeSettles : Type 0
SomeSettles =
    (w : World) × (v : World) × (es : List Event) × Fresh w × Run w es v × Settled v
    × (length (tape_of v) ≡ 2)
    × AllByRecursion (λ x. (x.trade.trigger ≡ 1) × (x.response < w.times.horizon)) (submissions es)
