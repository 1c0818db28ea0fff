-- The first seat found crowded is the lowest, and there is none while each passed by is not.
use Rattle.std.proofs.Common.{◌≡◌, ◌<◌, true, not, ◌&&◌, List, length, get_or, vec_items, sym, ◌∙◌, subst, rules}
use Rattle.network.specs.Network.{has_room}
use Rattle.records.specs.declared.seat.Seat.{Seat}
use Rattle.records.specs.Seat.{blank, is_ended}
use Rattle.session.specs.Seal.{crowded}
use Rattle.session.proofs.Dealing.{crowded_inside, lowest_found}
use Rattle.session.proofs.state.State.lowest_crowded.Goals as goal

pub returns-then-is_crowded : goal.returns-then-is_crowded
returns-then-is_crowded g c =
    let seats = vec_items c.args.self.now.seats in
    let net = g.F.Network.meaning c.args.forward.now in
    let k = c.loop-k.k in
    let inside : k < length seats = search rules in
    let told : true ≡ (not (is_ended (get_or seats k blank).condition) && not (has_room net k)) =
    subst (λ (s : List Seat). true ≡ (not (is_ended (get_or s k blank).condition) && not (has_room net k))) c.deref-seat-items.ensures.value c.if-is_crowded.ensures in
    sym (lowest_found (crowded seats net) k (length seats) c.loop-k.invariant (crowded_inside seats net k inside ∙ sym told) inside)
