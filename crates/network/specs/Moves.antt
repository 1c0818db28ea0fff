-- What a layer that moves arrivals on keeps of the network below it, once for every such layer.
use Rattle.std.specs.Prelude.{◌≡◌, ℕ, ◌+◌, ◌-◌, ◌*◌, ◌/◌, ◌%◌, ◌<◌, ◌≤◌, max, true, ◌&&◌, List, [], ◌∷◌, map, Some, None, Ok, Err, Option, Result, nat_lt}
use Rattle.std.proofs.lemmas.List.{map-append, length-map}
use Rattle.std.proofs.Common.{refl, false, ⊎_elim, ap, ◌∙◌, add-mul, arith}
use Rattle.std.proofs.lemmas.Nat.{div-add-mod', mod_below, le-div, div_below, mul-le}
use Rattle.std.proofs.lemmas.Bool.{cases_lt}
use Rattle.std.proofs.lemmas.Bool.Decides.{nat_tests}
use Rattle.std.specs.Option.{option_map}
use Rattle.network.specs.Network.{Net, limit, capped, has_room, accepts, arrived, is_waiting, earliest, Follows, Only, Sends, Takes}
use Rattle.network.specs.Layer.{moved, layered, Moves, AskAt, AskNever, gap, hop_at, poll_at}

module _ (f : ℕ → ℕ) (x : ℕ) (v : Moves f x) where
  -- the bounds of an arrival are moved with it
  after_moved : (m a : ℕ) (o : Option ℕ) → m < limit → earliest m o ≤ a → earliest m (option_map f o) ≤ f a
  after_moved m a None h p = omega (arith, v.low a)
  after_moved m a (Some l) h p = omega (arith, v.low a, v.mono l a (omega arith))

  before_moved : (m a d : ℕ) (o : Option ℕ) → m < limit → a ≤ earliest m o + d → f a ≤ earliest m (option_map f o) + capped (d + x)
  before_moved m a d None h p = omega (arith, v.high a, v.stop a)
  before_moved m a d (Some l) h p = omega (arith, v.high a, v.stop a, v.low l)

  -- the later of two arrivals is moved to the later of the two moved
  later_moved : (a : ℕ) (o : Option ℕ) → f (earliest a o) ≡ earliest (f a) (option_map f o)
  later_moved a None = let e : max a 0 ≡ a = omega arith in ap f e ∙ omega arith
  later_moved a (Some l) = ⊎_elim first second (cases_lt a l)
    where
      first : a < l → f (max a l) ≡ max (f a) (f l)
      first h = let e : max a l ≡ l = omega arith in ap f e ∙ omega (arith, v.mono a l (omega arith))

      second : l ≤ a → f (max a l) ≡ max (f a) (f l)
      second h = let e : max a l ≡ a = omega arith in ap f e ∙ omega (arith, v.mono l a h)

  follows_moved : (g o : Option ℕ) (a : ℕ) → Follows g o a → Follows (option_map f g) (option_map f o) (f a)
  follows_moved None o a h = tt
  follows_moved (Some b) o a h = ap f h ∙ later_moved b o

module _ {R : Type 0} (f : ℕ → ℕ) (x : ℕ) where
  pub room_moved : (n : Net R) (k : ℕ) → has_room (layered f x n) k ≡ has_room n k
  room_moved n k = simp length-map

  only_moved : (n n' : Net R) (k : ℕ) → Only n n' k → Only (layered f x n) (layered f x n') k
  only_moved n n' k o = record {
    others = λ j h. ap (moved f) (o.others j h);
    capacity = o.capacity;
    longest = ap (λ d. capped (d + x)) o.longest;
  }

  accepts_moved : (n : Net R) (k m : ℕ) → accepts (layered f x n) k m ≡ accepts n k m
  accepts_moved n k m = ap (λ b. b && nat_lt m limit) (room_moved n k)

  early : (n : Net R) (k m : ℕ) → accepts n k m ≡ true → m < limit
  early n k m h = grind (arith, nat_tests)

  pub sends_moved : Moves f x → (n n' : Net R) (k m : ℕ) (y : R) {U : Type 0} (r : Result U R) → Sends n k m y r n' → Sends (layered f x n) k m y r (layered f x n')
  sends_moved v n n' k m y (Ok u) h =
      let e : m < limit = early n k m h.accepted in
      let a = h.added in
      record {
        accepted = accepts_moved n k m ∙ h.accepted;
        added = record {
          arrival = f a.arrival;
          follows = follows_moved f x v (n.formula k 0 m) (n.links k).last a.arrival a.follows;
          after = after_moved f x v m a.arrival (n.links k).last e a.after;
          before = before_moved f x v m a.arrival n.longest (n.links k).last e a.before;
          cap = v.stop a.arrival;
          pairs = ap (map (λ p. (f p.0, p.1))) a.pairs ∙ map-append (λ (p : ℕ × R). (f p.0, p.1)) (n.links k).pairs ((a.arrival, y) ∷ []);
          last = ap (option_map f) a.last;
        };
        only = only_moved n n' k h.only;
        formula = ap (λ (φ : ℕ → ℕ → ℕ → Option ℕ). λ k nth m. option_map f (φ k nth m)) h.formula;
      }
  sends_moved v n n' k m y (Err z) h = record {
    refused = accepts_moved n k m ∙ h.refused;
    handed_back = h.handed_back;
    same = ap (layered f x) h.same;
  }

  -- what has come above by m has come below by b
  pub arrived_moved : (m b : ℕ) → AskAt f m b → (ps : List (ℕ × R)) → arrived (map (λ p. (f p.0, p.1)) ps) m ≡ arrived ps b
  arrived_moved m b q [] = refl
  arrived_moved m b q (p ∷ ps) = grind (arith, nat_tests, q.arrives p.0, q.only p.0)

  pub waiting_moved : (n : Net R) (k m b : ℕ) → AskAt f m b → is_waiting (layered f x n) k m ≡ is_waiting n k b
  waiting_moved n k m b q = let e = arrived_moved m b q (n.links k).pairs in grind (arith, nat_tests)

  -- where nothing arrives above by m, none waits there and none is taken
  pub none_arrived : (m : ℕ) (ps : List (ℕ × R)) → AskNever f m → m < limit → arrived (map (λ p. (f p.0, p.1)) ps) m ≡ false
  none_arrived m [] q h = refl
  none_arrived m (p ∷ ps) q h = grind (arith, nat_tests, q.none p.0)

  pub none_waits : (n : Net R) (k m : ℕ) → AskNever f m → is_waiting (layered f x n) k m ≡ false
  none_waits n k m q = let e = none_arrived m (n.links k).pairs q in grind (arith, nat_tests)

  pub none_taken : (n : Net R) (k m : ℕ) (o : Option R) → AskNever f m → o ≡ None → Takes (layered f x n) k m o (layered f x n)
  none_taken n k m None q h = record { none = none_waits n k m q; same = refl }
  none_taken n k m (Some y) q h = cc

  pub takes_moved : (n n' : Net R) (k m b : ℕ) → AskAt f m b → (o : Option R) → Takes n k b o n' → Takes (layered f x n) k m o (layered f x n')
  takes_moved n n' k m b q None h = record { none = waiting_moved n k m b q ∙ h.none; same = ap (layered f x) h.same }
  takes_moved n n' k m b q (Some y) h = record {
    waited = waiting_moved n k m b q ∙ h.waited;
    arrival = f h.arrival;
    pairs = ap (map (λ p. (f p.0, p.1))) h.pairs;
    last = ap (option_map f) h.last;
    only = only_moved n n' k h.only;
    formula = ap (λ (φ : ℕ → ℕ → ℕ → Option ℕ). λ k nth m. option_map f (φ k nth m)) h.formula;
  }

pub hop_moves : (e : ℕ) → Moves (hop_at e) e
hop_moves e = record {
  mono = λ a b h. omega arith;
  low = λ a. omega arith;
  high = λ a. omega arith;
  stop = λ a. omega arith;
}

-- rounding up to a multiple of g, by its bounds
round_low : (g a : ℕ) → 0 < g → a ≤ (a + (g - 1)) / g * g
round_low g a h = omega (arith, div-add-mod' (a + (g - 1)) g, mod_below (a + (g - 1)) g h)

round_high : (g a : ℕ) → 0 < g → (a + (g - 1)) / g * g ≤ a + (g - 1)
round_high g a h = omega (arith, div-add-mod' (a + (g - 1)) g)

round_mono : (g a b : ℕ) → 0 < g → a ≤ b → (a + (g - 1)) / g * g ≤ (b + (g - 1)) / g * g
round_mono g a b h p =
    mul-le ((a + (g - 1)) / g) g ((b + (g - 1)) / g) g
    (le-div ((a + (g - 1)) / g) (b + (g - 1)) g h (omega (arith, round_high g a h))) (omega arith)

pub poll_moves : (g : ℕ) → 0 < g → Moves (poll_at g) (g - 1)
poll_moves g h = record {
  mono = λ a b p. omega (arith, round_mono g a b h p);
  low = λ a. omega (arith, round_low g a h);
  high = λ a. omega (arith, round_high g a h);
  stop = λ a. omega arith;
}

-- a poll of any gap moves arrivals on, 0 taken as 1
pub gap_moves : (g : ℕ) → Moves (poll_at (gap g)) (gap g - 1)
gap_moves g = poll_moves (gap g) (omega arith)

-- what is rounded up to m at most is what lies by the last multiple of g up to m
round_up : (g m a : ℕ) → 0 < g → a ≤ m - m % g → (a + (g - 1)) / g * g ≤ m
round_up g m a h p =
    let q : (a + (g - 1)) / g < m / g + 1 = div_below (a + (g - 1)) g (m / g + 1) h (omega (arith, div-add-mod' m g, add-mul (m / g) 1 g)) in
    let r : (a + (g - 1)) / g * g ≤ m / g * g = mul-le ((a + (g - 1)) / g) g (m / g) g (omega arith) (omega arith) in
    omega (arith, div-add-mod' m g)

round_down : (g m a : ℕ) → 0 < g → (a + (g - 1)) / g * g ≤ m → a ≤ m - m % g
round_down g m a h p =
    let q : (a + (g - 1)) / g ≤ m / g = le-div ((a + (g - 1)) / g) m g h p in
    let r : (a + (g - 1)) / g * g ≤ m / g * g = mul-le ((a + (g - 1)) / g) g (m / g) g q (omega arith) in
    omega (arith, div-add-mod' m g, round_low g a h)

pub poll_before : (g m b : ℕ) → 0 < g → m < limit → b ≡ m - m % g → AskAt (poll_at g) m b
poll_before g m b h p e = record {
  moment = p;
  early = omega arith;
  arrives = λ a l. omega (arith, round_up g m a h (omega arith));
  only = λ a l. omega (arith, round_down g m a h (omega arith));
}
