use Rattle.std.proofs.Common.{◌==◌, refl, rules, tests}
use Rattle.std.proofs.lemmas.Iterator.{YieldsList-from_slice}
use Rattle.std.proofs.lemmas.Iterator.Consumers.{YieldsList-from_filter}
use Rattle.showcase.proofs.Rising.{rises_from_run}
use Rattle.showcase.proofs.race.rises.Goals as goal

pub returns : goal.returns
returns g c v reads =
    let run = c.is_sorted_by_key.ensures.runs in
    rises_from_run _ _ _ v c.is_sorted_by_key.result
    (YieldsList-from_filter _ (λ e. e.tick == c.args.tick) (YieldsList-from_slice c.args.entries.now cc) c.filter.ensures.closure (λ x b q k. search (rules, tests)))
    run.0 run.1 run.2.0 (run.2.1 (λ x. v x.now) (λ x r f' k. (
      g.met.F.Fn.1.step_stays c.args.value (x, tt) r f' k,
      reads x.now r (record { shown = x; shows = refl; says = record { met = (g.met.F.FnMut.1.post_iff c.args.value (x, tt) r).1 (f', k) } }),
    )))
