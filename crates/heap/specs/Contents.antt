-- What a heap holds, and what always holds of the vector that it is kept in.
use Rattle.std.specs.Prelude.{ℕ, ◌≤◌, List, length}

-- the elements, the root first, how many there may be, and for how many there is memory
pub record Contents (X : Type 0) : Type 0 where
  pub items : List X
  pub bound : ℕ
  pub reserved : ℕ

-- a vector with room for so many has room for as many elements as there may be, and holds no more
pub record Sound {X : Type 0} (items : List X) (capacity bound : ℕ) : Type 0 where
  pub room : bound ≤ capacity
  pub within : length items ≤ bound
