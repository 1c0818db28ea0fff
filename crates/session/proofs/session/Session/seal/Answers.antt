-- Past the checks, no seat is crowded.
use Rattle.std.proofs.Common.{vec_items, sym, rules}
use Rattle.session.proofs.Dealing.{none_crowded}
use Rattle.session.proofs.session.Session.seal.Goals as goal

pub deal-requires : goal.deal-requires
deal-requires g c = record {
  timely = search rules;
  room = none_crowded (vec_items c.args.self.now.state.seats) (g.F.Network.meaning c.args.forward.now) (sym c.in_default.ensures);
}
