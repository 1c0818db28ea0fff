use Rattle.std.proofs.Common.{rules, of_calls}
use Rattle.clock.specs.Hands.{hand_moment}
use Rattle.clock.proofs.Hands.{map_from_each, unmarked_from_each}
use Rattle.clock.proofs.clock.Clock.new.Goals as goal

-- each hand that the closure made stands for moment 0
pub returns-clause-meaning : goal.returns-clause-meaning
returns-clause-meaning g c =
    let made = c.map.ensures.items in
    unmarked_from_each hand_moment _ (λ i d below. search (rules, of_calls, made.at i 0 d (rw made.long at below)))

-- and has the start at its place
pub returns-clause-starts : goal.returns-clause-starts
returns-clause-starts g c =
    let made = c.map.ensures.items in
    map_from_each _ _ _ (search (rules, made.long)) (λ i d below. search (rules, of_calls, made.at i 0 d (rw made.long at below)))
