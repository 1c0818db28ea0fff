-- What the laws of an order on keys say of the elements of a list.
use Rattle.std.proofs.Common.{◌≡◌, ℕ, Bool, true, false, List, get_or, refl}
use Rattle.heap.specs.Heaps.{Upto}
use Rattle.heap.specs.Order.{Order}

module _ {X K : Type 0} (key : X → K) (upto : K → K → Bool) (o : Order upto) where
  -- every element is up to itself, since the order is total
  pub itself : (x : X) → Upto key upto x x
  itself x = by_test (upto (key x) (key x)) refl
    where
      by_test : (b : Bool) → upto (key x) (key x) ≡ b → Upto key upto x x
      by_test true e = e
      by_test false e = o.total _ _ e

  -- the order of keys passes on from element to element
  pub chain : (x y z : X) → Upto key upto x y → Upto key upto y z → Upto key upto x z
  chain x y z = o.trans _ _ _

  -- what a comparison that answered no says
  pub turned : (xs : List X) (i j : ℕ) → ((d : X) → upto (key (get_or xs i d)) (key (get_or xs j d)) ≡ false) → (d : X) → Upto key upto (get_or xs j d) (get_or xs i d)
  turned xs i j t d = o.total _ _ (t d)
