-- One side of the book, as the list of its quotes in any order: which is the best, whether one crosses a price, and one
-- fill with the best.
use Rattle.std.specs.Prelude.{◌≡◌, ℕ, ◌+◌, Bool, true, false, if◌then◌else◌, List, [], ◌∷◌, ◌++◌, Option, MatchOption, nat_lt}
use Rattle.std.specs.List.Sorted.{IsPermutation}
use Rattle.std.specs.List.{AllByRecursion, ContainsAt}
use Rattle.heap.specs.Calls.{KeepsOrder}
use Rattle.heap.specs.Contents.{Contents}
use Rattle.heap.specs.Heaps.{Heaped, Upto}
use Rattle.book.specs.declared.order.Order.{Order}
use Rattle.book.specs.declared.order.Resting.{Resting}
use Rattle.book.specs.declared.fill.Fill.{Fill}
use Rattle.book.specs.Order.{less}
use Rattle.book.specs.Fill.{fill_of}
use Rattle.book.specs.Quote.{Kind}

-- what a side's heap holds stands by rank
abbrev pub Stood : {X K : Type 0} → (X → K) → (K → K → Bool) → List X → Type 0
Stood key upto xs = Heaped (Upto key upto) xs

-- what each call keeps of a side: it stands by rank where it did, may hold as many, and has memory for as many
abbrev pub Keeps : {X K : Type 0} → (X → K) → (K → K → Bool) → Contents X → Contents X → Type 0
Keeps key upto h h' = KeepsOrder (Upto key upto) h.items h'.items × (h'.bound ≡ h.bound) × (h'.reserved ≡ h.reserved)

module _ {X : Type 0} (k : Kind X) where
  -- the first ranks before the second, or they rank alike
  abbrev pub Before : X → X → Type 0
  Before x y = k.before x y ≡ true

  -- a price crosses a quote
  abbrev pub Crosses : ℕ → X → Type 0
  Crosses price x = k.meets price (k.resting x).price ≡ true

  -- and does not
  abbrev pub Misses : ℕ → X → Type 0
  Misses price x = k.meets price (k.resting x).price ≡ false

  -- a price crosses some quote
  abbrev pub any_crosses : ℕ → List X → Bool
  any_crosses price [] = false
  any_crosses price (x ∷ xs) = if k.meets price (k.resting x).price then true else any_crosses price xs

  -- the best order rests on the side and ranks before all others there; there is none exactly when the side is empty
  abbrev pub Best : List X → Option Resting → Type 0
  Best xs r = MatchOption r (xs ≡ []) (λ b. ContainsAt xs (k.quoted b) × AllByRecursion (Before (k.quoted b)) xs)

  -- the quantity of all
  abbrev pub total : List X → ℕ
  total [] = 0
  total (x ∷ xs) = (k.resting x).quantity + total xs

  -- what rests of one order once a quantity is taken off it
  abbrev pub left_over : ℕ → Resting → List X
  left_over taken x = if nat_lt taken x.quantity then k.quoted (less taken x) ∷ [] else []

  -- one fill, with the best of the resting orders; what is left of that one rests again
  pub record Meets (o : Order) (left : ℕ) (resting : List X) (f : Fill) (resting' : List X) : Type 0 where
    pub best : X
    pub others : List X
    pub all : IsPermutation resting (best ∷ others)
    pub first : AllByRecursion (Before best) others
    pub crosses : Crosses o.price best
    pub line : f ≡ fill_of o left (k.resting best)
    pub rest : IsPermutation (left_over left (k.resting best) ++ others) resting'

  -- a fill with the best where some order crosses, and none and no change where not
  abbrev pub MeetsBest : Order → (left : ℕ) → List X → Option Fill → List X → Type 0
  MeetsBest o left resting r resting' = MatchOption r ((resting' ≡ resting) × (any_crosses o.price resting ≡ false)) (λ f. Meets o left resting f resting')
