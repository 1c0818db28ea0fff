use Rattle.std.proofs.Common.{arith}
use Rattle.std.proofs.lemmas.List.Sorted.{IsPermutation-trans}
use Rattle.heap.specs.Heaps.{Upto}
use Rattle.heap.proofs.Ranking.{turned}
use Rattle.heap.proofs.Sift.{Swapped, down, down_over}
use Rattle.heap.proofs.heap.sift.sift_down.Goals as goal

-- the gap moves down with the element
pub loop-child-preserved : goal.loop-child-preserved
loop-child-preserved g c =
    let r = g.T.Ranked in
    let R = Upto r.key r.upto in
    let l = c.loop-child in
    let o = g.met.T.Ranked.lawful in
    let child = c.in-Some.child in
    let first = c.in-Some.ensures in
    let ys = c.swap.new.self in
    let w = c.swap.ensures in
    let pl = w.by_index in
    let s : Swapped l.s ys l.at child = (pl.0, pl.1, pl.2) in
    let t = turned r.key r.upto o l.s l.at child c.if-upto_at.ensures in
    (omega arith, IsPermutation-trans _ _ _ l.invariant.1 w.permutation, λ h. (down R l.s ys l.at child first.0 first.1 w.len s first.2 (l.invariant.2 h).0, down_over R l.s ys l.at child first.0 first.1 w.len s t))
