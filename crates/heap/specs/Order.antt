-- What an order on keys has to be: of two keys one is up to the other, the order passes on, and two keys that are up to
-- each other are one key.
use Rattle.std.specs.Prelude.{◌≡◌, Bool, true, false}

-- upto a b says that a comes before b, or that they are one key
pub record Order {K : Type 0} (upto : K → K → Bool) : Type 0 where
  pub total : (a b : K) → upto a b ≡ false → upto b a ≡ true
  pub trans : (a b c : K) → upto a b ≡ true → upto b c ≡ true → upto a c ≡ true
  pub antisym : (a b : K) → upto a b ≡ true → upto b a ≡ true → a ≡ b
