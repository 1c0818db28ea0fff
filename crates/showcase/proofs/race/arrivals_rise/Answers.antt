use Rattle.std.proofs.Common.{rules}
use Rattle.showcase.proofs.race.arrivals_rise.Goals as goal

pub returns : goal.returns
returns c = c.rises.ensures (λ e. e.collected) (λ e n r. search rules)
