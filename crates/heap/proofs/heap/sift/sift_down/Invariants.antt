use Rattle.std.proofs.Common.{◌≡◌, ◌-◌, length}
use Rattle.std.specs.List.Sorted.{IsPermutation}
use Rattle.heap.specs.Heaps.{Gap, Over, Upto}
use Rattle.heap.proofs.heap.sift.sift_down.Given as goal

-- the gap is where the element has come to, and there it fits its parent
abbrev pub invariant-loop-child : goal.invariant-loop-child
invariant-loop-child g l =
    let r = g.T.Ranked in
    let R = Upto r.key r.upto in
    (length l.s ≡ length l.initial.s) × IsPermutation l.initial.s l.s × (Gap R l.initial.s l.initial.«at» × Over R l.initial.s l.initial.«at» → Gap R l.s l.«at» × Over R l.s l.«at»)

abbrev pub decreases-loop-child : goal.decreases-loop-child
decreases-loop-child g l = length l.initial.s - l.«at»
