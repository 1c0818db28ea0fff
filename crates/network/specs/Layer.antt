-- A layer over any network: a network again, whose arrivals are those of the one below, moved on.
use Rattle.std.specs.Prelude.{ℕ, ◌+◌, ◌-◌, ◌*◌, ◌/◌, ◌<◌, ◌≤◌, max, map, Option, Some, None}
use Rattle.std.specs.Option.{option_map}
use Rattle.network.specs.Network.{Link, Net, limit, capped}

-- a link with every arrival moved on by f, the last one too; none stays none
abbrev pub moved : {R : Type 0} → (ℕ → ℕ) → Link R → Link R
moved f l = record { pairs = map (λ p. (f p.0, p.1)) l.pairs; last = option_map f l.last }

-- the network below with every arrival moved on by f, which moves none by more than x
abbrev pub layered : {R : Type 0} → (ℕ → ℕ) → ℕ → Net R → Net R
layered f x n = record {
  links = λ k. moved f (n.links k);
  capacity = n.capacity;
  longest = capped (n.longest + x);
  formula = λ k nth m. option_map f (n.formula k nth m);
}

-- f moves arrivals on, in order, by at most x, and not past the limit
pub record Moves (f : ℕ → ℕ) (x : ℕ) : Type 0 where
  pub mono : (a b : ℕ) → a ≤ b → f a ≤ f b
  pub low : (a : ℕ) → capped a ≤ f a
  pub high : (a : ℕ) → f a ≤ a + x
  pub stop : (a : ℕ) → f a ≤ limit

-- a hop: e later
abbrev pub hop_at : ℕ → ℕ → ℕ
hop_at e a = capped (a + e)

abbrev pub hopped : {R : Type 0} → ℕ → Net R → Net R
hopped e = layered (hop_at e) e

-- a poll: up to the next multiple of g
abbrev pub poll_at : ℕ → ℕ → ℕ
poll_at g a = capped ((a + (g - 1)) / g * g)

-- a gap of 0 is taken as 1
abbrev pub gap : ℕ → ℕ
gap g = max g 1

abbrev pub polled : {R : Type 0} → ℕ → Net R → Net R
polled g = layered (poll_at (gap g)) (gap g - 1)

-- to ask below at b is to ask here at m: both are moments, and what arrives there by b is what arrives here by m
pub record AskAt (f : ℕ → ℕ) (m b : ℕ) : Type 0 where
  pub moment : m < limit
  pub early : b < limit
  pub arrives : (a : ℕ) → a ≤ b → f a ≤ m
  pub only : (a : ℕ) → f a ≤ m → a ≤ b

-- there is nothing to ask for: m is no moment, or nothing arrives here by m
pub record AskNever (f : ℕ → ℕ) (m : ℕ) : Type 0 where
  pub none : (a : ℕ) → m < limit → m < f a

-- when to ask the network below for what has arrived here by m
abbrev pub Before : (ℕ → ℕ) → ℕ → Option ℕ → Type 0
Before f m None = AskNever f m
Before f m (Some b) = AskAt f m b
