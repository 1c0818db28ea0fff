use Rattle.std.proofs.Common.{◌≡◌, [], ◌∷◌, ◌++◌, length, drop, sym, refl, ap, ◌∙◌, subst, arith, tests}
use Rattle.heap.specs.Heaps.{Gap, Heaped, Upto}
use Rattle.heap.proofs.Calls.{added, appended, refilled_is}
use Rattle.heap.proofs.Sift.{leaf_under}
use Rattle.heap.proofs.heap.Heap.add.Goals as goal

pub invariant_of-self : goal.invariant_of-self
invariant_of-self g c =
    let v = c.self.inside.items in
    let w = c.append-at.new.items in
    let long = v.ok.0 in
    let longer = w.ok.0 in
    let ws = c.sift_up.new.s in
    let e = refilled_is w.len ws (drop (length ws) w.items) (omega arith) in
    let same = ap (λ h. length h.items) c.self.view_is in
    let bound = ap (λ h. h.bound) c.self.view_is in
    record { room = omega arith; within = omega (arith, tests, ap length e) }

pub returns : goal.returns
returns g c =
    let r = g.T.Ranked in
    let R = Upto r.key r.upto in
    let v = c.self.inside.items in
    let w = c.append-at.new.items in
    let s = c.as_mut_slice.result.now in
    let long = v.ok.0 in
    let longer = w.ok.0 in
    let is : s ≡ v.items ++ c.args.x ∷ [] = c.as_mut_slice.ensures.value ∙ c.append-at.ensures.items in
    let at : c.append-at.result ≡ length v.items = omega arith in
    let ws = c.sift_up.new.s in
    let e = refilled_is w.len ws (drop (length ws) w.items) (omega arith) in
    let same = ap (λ h. length h.items) c.self.view_is in
    let bound = ap (λ h. h.bound) c.self.view_is in
    rw (← c.self.view_is) (record {
      added = (omega (arith, tests), added v.items s ws _ c.args.x is c.sift_up.ensures.shuffled e, refl, c.append-at.ensures.capacity);
      heaped = λ h. subst (Heaped R) (sym e) (c.sift_up.ensures.heaped (subst (Gap R s) (sym at) (appended R v.items s c.args.x is (omega arith) h), leaf_under R s c.append-at.result (omega arith)));
    })
