-- The element at the root, for those who peek.
use Rattle.std.proofs.Common.{◌≡◌, ◌<◌, List, length, sym, ◌∙◌, subst}
use Rattle.std.proofs.ByRecursion.{has_get_or}
use Rattle.std.specs.List.{ContainsAt}
use Rattle.heap.specs.Heaps.{AtRoot}

-- it is one of those held, whatever default it is read at
pub root_has : {X : Type 0} (xs : List X) (x y : X) → 0 < length xs → AtRoot x xs → y ≡ x → ContainsAt xs y
root_has {X} xs x y some at is = subst (ContainsAt xs) (sym at ∙ sym is) (has_get_or xs 0 x some)
