use Rattle.std.proofs.Common.{sym, ap, ◌∙◌, rules, tests}
use Rattle.std.specs.List.{filter_map, slice_get}
use Rattle.std.proofs.lemmas.Iterator.{YieldsList-from_slice}
use Rattle.std.proofs.lemmas.Iterator.Adapters.{option_map_id}
use Rattle.std.proofs.lemmas.Iterator.Consumers.{YieldsList-from_filter_map, nth_from_yields_List}
use Rattle.showcase.specs.Race.{taken_off}
use Rattle.showcase.proofs.race.collected.Goals as goal

pub returns : goal.returns
returns c =
    sym (option_map_id c.nth.result) ∙ nth_from_yields_List c.nth.result _ _ c.nth.ensures.ran
    (YieldsList-from_filter_map _ (taken_off c.args.seat) (YieldsList-from_slice c.args.events.now cc) c.filter_map.ensures.closure (λ x r q k. search (rules, tests)))
    ∙ ap (slice_get (filter_map (taken_off c.args.seat) c.args.events.now)) c.saturating_sub-ahead.ensures
