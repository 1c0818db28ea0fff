use Rattle.heap.specs.Heaps.{Upto}
use Rattle.heap.proofs.Calls.{peeked}
use Rattle.heap.proofs.Ranking.{chain, itself}
use Rattle.heap.proofs.heap.Heap.peek.Goals as goal

pub returns : goal.returns
returns g c =
    let r = g.T.Ranked in
    let o = g.met.T.Ranked.lawful in
    rw (← c.self.view_is) (peeked (Upto r.key r.upto) (itself r.key r.upto o) (chain r.key r.upto o) _ _ (rw (← c.as_slice.ensures.value) c.root.ensures))
