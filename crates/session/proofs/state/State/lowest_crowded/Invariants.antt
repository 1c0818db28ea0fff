use Rattle.std.proofs.Common.{◌≡◌, None, vec_items}
use Rattle.session.specs.Seal.{crowded, lowest}
use Rattle.session.proofs.state.State.lowest_crowded.Given as goal

-- none of the seats so far is crowded
abbrev pub invariant-loop-k : goal.invariant-loop-k
invariant-loop-k g l = lowest (crowded (vec_items l.self.seats) (g.F.Network.meaning l.forward)) l.k ≡ None
