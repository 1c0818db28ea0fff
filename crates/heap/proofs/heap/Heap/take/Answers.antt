use Rattle.std.proofs.Common.{◌≡◌, ◌∷◌, ◌++◌, length, get_or, take, drop, sym, refl, ap, ◌∙◌, subst, arith}
use Rattle.std.specs.List.Sorted.{IsPermutation}
use Rattle.heap.specs.Heaps.{Heaped, Upto}
use Rattle.heap.proofs.Calls.{first_left, refilled_is, taken, uprooted}
use Rattle.heap.proofs.Ranking.{chain, itself}
use Rattle.heap.proofs.Sift.{root_first, root_over}
use Rattle.heap.proofs.heap.Heap.take.Goals as goal

pub invariant_of-self : goal.invariant_of-self
invariant_of-self g c =
    let v = c.self.inside.items in
    let w = c.uproot-root.new.items in
    let long = v.ok.0 in
    let shorter = w.ok.0 in
    let took = c.uproot-root.ensures in
    let ws = c.sift_down.new.s in
    let e = refilled_is w.len ws (drop (length ws) w.items) (omega arith) in
    record { room = omega arith; within = omega (arith, ap length e) }

pub returns : goal.returns
returns g c =
    let r = g.T.Ranked in
    let R = Upto r.key r.upto in
    let o = g.met.T.Ranked.lawful in
    let v = c.self.inside.items in
    let xs = v.items in
    let long = v.ok.0 in
    let took = c.uproot-root.ensures in
    let x = c.uproot-root.result in
    let w = c.uproot-root.new.items in
    let shorter = w.ok.0 in
    let s = c.as_mut_slice.result.now in
    let is : s ≡ w.items = c.as_mut_slice.ensures.value in
    let ws = c.sift_down.new.s in
    let zs = take w.len (ws ++ drop (length ws) w.items) in
    let e : zs ≡ ws = refilled_is w.len ws (drop (length ws) w.items) (omega arith) in
    let all : IsPermutation xs (x ∷ zs) = taken xs s ws zs x (omega arith) took.value (is ∙ took.items) c.sift_down.ensures.shuffled e in
    let within = c.self.invariant.within in
    rw (← c.self.view_is) (record {
      taken = (took.value, λ h. first_left R xs zs x (root_first R (itself r.key r.upto o) (chain r.key r.upto o) xs x took.value h) all, all, omega (arith, ap length e), refl, took.capacity);
      heaped = λ h. subst (Heaped R) (sym e) (c.sift_down.ensures.heaped (uprooted R xs s (omega arith) (λ k d n lt. ap (λ l. get_or l k d) is ∙ took.others k d n (omega arith)) h, root_over R s 0 refl));
    })
