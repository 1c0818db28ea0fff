use Rattle.std.proofs.Common.{vec_items}
use Rattle.session.specs.Seal.{Dealt}
use Rattle.session.proofs.Dealing.{due_first}
use Rattle.session.proofs.state.State.deal.Given as goal

-- the seats so far have their batch
abbrev pub invariant-loop-k : goal.invariant-loop-k
invariant-loop-k g l = Dealt (due_first (vec_items l.self.seats) l.k) (g.F.Network.meaning l.initial.forward) (g.F.Network.meaning l.forward) l.at l.batch
