-- Each seat in turn has its batch, and the link of the next still has its room.
use Rattle.std.proofs.Common.{not, List, get_or, vec_items, subst}
use Rattle.records.specs.declared.seat.Seat.{Seat}
use Rattle.records.specs.Seat.{blank, is_ended}
use Rattle.session.specs.Seal.{SentIf}
use Rattle.session.proofs.Dealing.{dealt_one}
use Rattle.session.proofs.state.State.deal.Goals as goal

pub loop-k-preserved : goal.loop-k-preserved
loop-k-preserved g c =
    let before = g.F.Network.meaning c.loop-k.forward in
    let after = g.F.Network.meaning c.deal_one.new.forward in
    let k = c.loop-k.k in
    dealt_one (vec_items c.args.self.now.seats) (g.F.Network.meaning c.args.forward.now) before after k c.args.at c.args.batch c.loop-k.invariant
    (subst (λ (s : List Seat). SentIf (not (is_ended (get_or s k blank).condition)) before after k c.args.at c.args.batch) c.deref-seat-items.ensures.value c.deal_one.ensures)
