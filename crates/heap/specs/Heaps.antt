-- Heaps as lists: the element at place k has its two children at the places 2k + 1 and 2k + 2, and in a heap no child
-- comes before its parent, so that none comes before the root.
use Rattle.std.specs.Prelude.{◌≡◌, ℕ, ◌+◌, ◌*◌, ◌/◌, ◌<◌, ◌≤◌, Bool, true, List, length, ◌≢◌, slice_index_or}
use Rattle.std.specs.List.{AllByRecursion}

-- the key of x comes before that of y, or is the same
abbrev pub Upto : {X K : Type 0} → (X → K) → (K → K → Bool) → X → X → Type 0
Upto key upto x y = upto (key x) (key y) ≡ true

-- the place k is one of the two below p
abbrev pub Child : ℕ → ℕ → Type 0
Child p k = (p * 2 + 1 ≤ k) × (k ≤ p * 2 + 2)

-- x stands at the root
abbrev pub AtRoot : {X : Type 0} → X → List X → Type 0
AtRoot x xs = x ≡ slice_index_or xs 0 x

-- for any relation R of a parent to its children
module _ {X : Type 0} (R : X → X → Type 0) where
  -- each element but the first, at k + 1, has its parent, at k / 2, in R to it
  abbrev pub Heaped : List X → Type 0
  Heaped xs = (k : ℕ) (d : X) → k + 1 < length xs → R (slice_index_or xs (k / 2) d) (slice_index_or xs (k + 1) d)

  -- x stands in R to each element: no other comes before it
  abbrev pub First : X → List X → Type 0
  First x xs = AllByRecursion (R x) xs

  -- the element at c stands in R to the children of j
  abbrev pub Under : List X → ℕ → ℕ → Type 0
  Under xs c j = (k : ℕ) (d : X) → j * 2 + 1 ≤ k → k ≤ j * 2 + 2 → k < length xs → R (slice_index_or xs c d) (slice_index_or xs k d)

  -- the parent of j stands in R to the element at j
  abbrev pub Over : List X → ℕ → Type 0
  Over xs j = (p : ℕ) (d : X) → p * 2 + 1 ≤ j → j ≤ p * 2 + 2 → R (slice_index_or xs p d) (slice_index_or xs j d)

  -- a heap but for the element at j: all other parents stand in R to their children, and the parent of j to those of j
  pub record Gap (xs : List X) (j : ℕ) : Type 0 where
    pub rest : (p k : ℕ) (d : X) → p * 2 + 1 ≤ k → k ≤ p * 2 + 2 → k < length xs → (p ≢ j) → (k ≢ j) → R (slice_index_or xs p d) (slice_index_or xs k d)
    pub across : (p k : ℕ) (d : X) → p * 2 + 1 ≤ j → j ≤ p * 2 + 2 → j * 2 + 1 ≤ k → k ≤ j * 2 + 2 → k < length xs → R (slice_index_or xs p d) (slice_index_or xs k d)
