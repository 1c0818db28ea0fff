-- How an incoming order meets the resting orders of the other side, and what becomes of what is left.
-- It meets the longest run of the best that cross it, in their rank, and takes its quantity off their front.
use Rattle.std.specs.Prelude.{◌≡◌, ℕ, ◌+◌, ◌-◌, ◌<◌, Bool, false, if◌then◌else◌, not, ◌&&◌, List, [], ◌∷◌, ◌++◌, length, MatchBool, nat_lt}
use Rattle.std.specs.List.Sorted.{IsPermutation}
use Rattle.std.specs.List.{AllByRecursion}
use Rattle.lines.specs.Pages.{Page, full, Written}
use Rattle.book.specs.declared.order.Order.{Order}
use Rattle.book.specs.declared.order.Booked.{Booked}
use Rattle.book.specs.declared.fill.Fill.{Fill}
use Rattle.book.specs.Order.{at_rest}
use Rattle.book.specs.Fill.{fill_of}
use Rattle.book.specs.Quote.{Kind}
use Rattle.book.specs.Side.{Before, Crosses, any_crosses, total, left_over}

module _ {X : Type 0} (k : Kind X) where
  -- each one met ranks before those after it and before all beyond
  abbrev pub InRank : (met beyond : List X) → Type 0
  InRank [] beyond = Unit {0}
  InRank (x ∷ met) beyond = AllByRecursion (Before k x) (met ++ beyond) × InRank met beyond

  -- some of the quantity was left whenever one was met
  abbrev pub Wanted : ℕ → (met : List X) → Type 0
  Wanted q [] = Unit {0}
  Wanted q (x ∷ met) = (0 < q) × Wanted (q - (k.resting x).quantity) met

  -- the fills of a quantity with those met, one after another
  abbrev pub fills_of : Order → ℕ → (met : List X) → List Fill
  fills_of o q [] = []
  fills_of o q (x ∷ met) = fill_of o q (k.resting x) ∷ fills_of o (q - (k.resting x).quantity) met

  -- what rests of those met once a quantity is taken off them, one after another
  abbrev pub remains : ℕ → (met : List X) → List X
  remains q [] = []
  remains q (x ∷ met) = left_over k q (k.resting x) ++ remains (q - (k.resting x).quantity) met

  -- an order meets the best of the resting orders, in rank order, while it has quantity left
  pub record Matched (o : Order) (resting : List X) (fills : List Fill) (resting' : List X) (left : ℕ) : Type 0 where
    pub met : List X
    pub beyond : List X
    pub all : IsPermutation resting (met ++ beyond)
    pub ranked : InRank met beyond
    pub crosses : AllByRecursion (Crosses k o.price) met
    pub wanted : Wanted o.quantity met
    pub lines : fills ≡ fills_of o o.quantity met
    pub rest : IsPermutation (remains o.quantity met ++ beyond) resting'
    pub over : left ≡ o.quantity - total k met

  -- the fills are the next lines of the fill list
  abbrev pub Meeting : Order → List X → Page Fill → List X → Page Fill → (left : ℕ) → Type 0
  Meeting o resting p resting' p' left = (fills : List Fill) × Written p fills p' × Matched o resting fills resting' left

-- what is left rests where no opposite order crosses it and its side holds fewer than it may
abbrev pub rests : (left : ℕ) (crossed : Bool) (held room : ℕ) → Bool
rests left crossed held room = nat_lt 0 left && (not crossed && nat_lt held room)

-- an order's quantity joins its side where it stays, and the side is as it was where not
pub record Rested {Y : Type 0} (k : Kind Y) (o : Order) (arrival left : ℕ) (stays : Bool) (own own' : List Y) (rested : ℕ) : Type 0 where
  pub quantity : rested ≡ (if stays then left else 0)
  pub side : MatchBool stays (IsPermutation (k.quoted (at_rest o left arrival) ∷ own) own') (own' ≡ own)

-- of what is left, by whether it rests
abbrev pub Rests : {X Y : Type 0} → Kind X → Kind Y → Order → (arrival left room : ℕ) → (opposite : List X) (own own' : List Y) → (rested : ℕ) → Type 0
Rests there here o arrival left room opposite own own' rested = Rested here o arrival left (rests left (any_crosses there o.price opposite) (length own) room) own own' rested

-- the run met is the longest: with quantity and a line left, it ends only where no order crosses
abbrev pub Longest : {X : Type 0} → Kind X → Order → (full : Bool) → (opposite' : List X) → (left : ℕ) → Type 0
Longest there o full opposite' left = 0 < left → full ≡ false → any_crosses there o.price opposite' ≡ false

-- What becomes of an order. `full` says that no line of the fill list is left after its fills.
pub record Dealt {X Y : Type 0} (there : Kind X) (here : Kind Y) (o : Order) (arrival room : ℕ) (full : Bool) (opposite opposite' : List X) (own own' : List Y) (fills : List Fill) (r : Booked) : Type 0 where
  pub left : ℕ
  pub matched : Matched there o opposite fills opposite' left
  pub longest : Longest there o full opposite' left
  pub filled : r.filled + left ≡ o.quantity
  pub rest : Rests there here o arrival left room opposite' own own' r.rested
  pub dropped : r.rested + r.dropped ≡ left
  pub counted : r.fills ≡ length fills

-- the same, with the fills as the next lines of the fill list
abbrev pub Deals : {X Y : Type 0} → Kind X → Kind Y → Order → (arrival room : ℕ) → (opposite opposite' : List X) → (own own' : List Y) → (p p' : Page Fill) → Booked → Type 0
Deals there here o arrival room opposite opposite' own own' p p' r =
    (fills : List Fill) × Written p fills p' × Dealt there here o arrival room (full p') opposite opposite' own own' fills r
