use Rattle.std.proofs.Common.{refl, arith, rules}
use Rattle.std.proofs.lemmas.Grind.{common_steps}
use Rattle.std.proofs.lemmas.List.Recursion.{max_bounds, max_least}
use Rattle.network.specs.Delays.{greatest}
use Rattle.network.proofs.delays.greatest_of.Goals as goal

pub returns : goal.returns
returns c =
    let bounds = max_bounds greatest (λ d. d) refl (λ _ _. refl) c.args.delays.now in
    let least = max_least greatest (λ d. d) refl (λ _ _. refl) c.args.delays.now 0 c.unwrap_or.result (search rules) in
    grind (arith, common_steps, bounds, least)
