-- What the calls of a heap answer, and what they leave in it. R is the order of the elements: R x y where the key of x
-- comes before that of y, or is the same.
use Rattle.std.specs.Prelude.{◌≡◌, ℕ, ◌<◌, ◌≤◌, List, [], ◌∷◌, length, Option, Result, MatchOption, MatchResult}
use Rattle.std.specs.Borrow.{Bor}
use Rattle.std.specs.List.Sorted.{IsPermutation}
use Rattle.heap.specs.Contents.{Contents}
use Rattle.heap.specs.Heaps.{AtRoot, First, Heaped}

-- a new heap holds nothing, may hold n elements, has memory for them, and is in order
abbrev pub Fresh : {X : Type 0} → (X → X → Type 0) → ℕ → Contents X → Type 0
Fresh R n h = (h.items ≡ []) × (h.bound ≡ n) × (n ≤ h.reserved) × Heaped R h.items

-- a call leaves a heap in order where it was in order before
abbrev pub KeepsOrder : {X : Type 0} → (X → X → Type 0) → List X → List X → Type 0
KeepsOrder R xs ys = Heaped R xs → Heaped R ys

-- a peek answers the element at the root, the one that a take hands out, before which no other comes in a heap that is in
-- order; and nothing of an empty heap
abbrev pub Peeks : {X : Type 0} → (X → X → Type 0) → List X → Option (Bor X) → Type 0
Peeks R xs r = MatchOption r (xs ≡ []) (λ x. (0 < length xs) × AtRoot x.now xs × (Heaped R xs → First R x.now xs))

-- an add below the bound leaves the elements before and this one, each as often as before; at the bound it hands the
-- element back and changes nothing. Either way there is memory for as many as before
abbrev pub Adds : {X U : Type 0} → Contents X → X → Result U X → Contents X → Type 0
Adds h x r h' = MatchResult r
    (λ _. (length h.items < h.bound) × IsPermutation (x ∷ h.items) h'.items × (h'.bound ≡ h.bound) × (h'.reserved ≡ h.reserved))
    (λ y. (y ≡ x) × (h.bound ≤ length h.items) × (h' ≡ h))

-- a take hands out the element at the root, before which none of the others comes where the heap is in order, and leaves
-- the others, each as often as before, room for one more, and memory for as many as before; which one among equal keys is
-- free. Of an empty heap it answers nothing and changes nothing
abbrev pub Takes : {X : Type 0} → (X → X → Type 0) → Contents X → Option X → Contents X → Type 0
Takes R h r h' = MatchOption r
    ((h.items ≡ []) × (h' ≡ h))
    (λ x. AtRoot x h.items × (Heaped R h.items → First R x h'.items) × IsPermutation h.items (x ∷ h'.items) × (length h'.items < h'.bound) × (h'.bound ≡ h.bound) × (h'.reserved ≡ h.reserved))
