use Rattle.std.proofs.Common.{ap}
use Rattle.network.specs.Delays.{greatest}
use Rattle.network.proofs.Places.{unused_same}
use Rattle.network.proofs.trace.Trace+R.new.Goals as goal

pub returns-clause-net : goal.returns-clause-net
returns-clause-net g c = unused_same _ _ _ _ _ _ c.with_delays.ensures.net c.new.ensures.start (ap greatest c.new.ensures.delays)
