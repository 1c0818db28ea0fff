use Rattle.std.proofs.Common.{arith}
use Rattle.std.proofs.lemmas.List.Sorted.{IsPermutation-trans}
use Rattle.heap.specs.Heaps.{Upto}
use Rattle.heap.proofs.Ranking.{chain, turned}
use Rattle.heap.proofs.Sift.{Swapped, up, up_under}
use Rattle.heap.proofs.heap.sift.sift_up.Goals as goal

-- the gap moves up with the element
pub loop-up-preserved : goal.loop-up-preserved
loop-up-preserved g c =
    let r = g.T.Ranked in
    let R = Upto r.key r.upto in
    let l = c.loop-up in
    let o = g.met.T.Ranked.lawful in
    let p = c.in-Some.up in
    let child = c.in-Some.ensures in
    let ys = c.swap.new.self in
    let w = c.swap.ensures in
    let pl = w.by_index in
    let s : Swapped l.s ys p l.at = (pl.0, pl.1, pl.2) in
    let t = turned r.key r.upto o l.s p l.at c.if-upto_at.ensures in
    let trans = chain r.key r.upto o in
    (omega arith, omega arith, IsPermutation-trans _ _ _ l.invariant.2 w.permutation, λ h. (up R l.s ys p l.at child l.invariant.0 w.len s trans (l.invariant.3 h).0, up_under R l.s ys p l.at child l.invariant.0 w.len s trans t (l.invariant.3 h).0))
