use Rattle.std.proofs.Common.{rules}
use Rattle.showcase.specs.Race.{handed_out}
use Rattle.showcase.proofs.Answering.{first_from_find_map}
use Rattle.showcase.proofs.race.reached.Goals as goal

pub returns : goal.returns
returns c = first_from_find_map _ _ (handed_out c.args.seat c.args.point) (λ x a f' call. search rules) c.args.events.now _ _ c.iter.ensures.rest c.iter.ensures.runs c.find_map.ensures.runs
