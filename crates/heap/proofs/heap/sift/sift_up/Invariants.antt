use Rattle.std.proofs.Common.{◌≡◌, ◌<◌, length}
use Rattle.std.specs.List.Sorted.{IsPermutation}
use Rattle.heap.specs.Heaps.{Gap, Under, Upto}
use Rattle.heap.proofs.heap.sift.sift_up.Given as goal

-- the gap is where the element has come to, and there it fits its children
abbrev pub invariant-loop-up : goal.invariant-loop-up
invariant-loop-up g l =
    let r = g.T.Ranked in
    let R = Upto r.key r.upto in
    (l.«at» < length l.s) × (length l.s ≡ length l.initial.s) × IsPermutation l.initial.s l.s × (Gap R l.initial.s l.initial.«at» × Under R l.initial.s l.initial.«at» l.initial.«at» → Gap R l.s l.«at» × Under R l.s l.«at» l.«at»)

abbrev pub decreases-loop-up : goal.decreases-loop-up
decreases-loop-up g l = l.«at»
