use Rattle.std.proofs.Common.{rules}
use Rattle.showcase.proofs.race.responses_rise.Goals as goal

pub returns : goal.returns
returns c = c.rises.ensures (λ e. e.response) (λ e n r. search rules)
