use Rattle.std.proofs.Common.{◌≡◌, true}
use Rattle.network.specs.Network.{is_waiting}
use Rattle.demo.proofs.line.arrival.Given as goal

-- it had arrived by then
abbrev pub invariant-loop-moment : goal.invariant-loop-moment
invariant-loop-moment g l = is_waiting (g.N.Network.meaning l.net) l.link l.moment ≡ true
