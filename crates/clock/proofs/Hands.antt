-- What a list of hands stands for, from what each of them does.
use Rattle.std.proofs.Common.{◌≡◌, ℕ, zero, suc, ◌<◌, cond, ◌==◌, List, [], ◌∷◌, map, length, get_or, set, slice_index, refl, ap, ap₂, ◌∙◌, arith}
use Rattle.std.proofs.Math.Path.{fun_ext}
use Rattle.std.proofs.Math.Seq.{map-set_same}
use Rattle.std.proofs.lemmas.List.{map-set}
use Rattle.std.proofs.lemmas.Grind.{common_steps}
use Rattle.clock.specs.declared.hand.Hand.{Hand}
use Rattle.clock.specs.Hands.{hand_moment, moments}
use Rattle.clock.specs.StopClock.{limit, unmarked}

module _ {A : Type 0} (f : A → ℕ) where
  -- a list is mapped to the list of its items' values
  pub map_from_each : (xs : List A) (ns : List ℕ) → length xs ≡ length ns → ((i : ℕ) (d : A) → i < length xs → f (get_or xs i d) ≡ get_or ns i 0) → map f xs ≡ ns
  map_from_each [] [] same each = refl
  map_from_each [] (n ∷ ns) same each = absurd (omega (arith, same))
  map_from_each (x ∷ xs) [] same each = absurd (omega (arith, same))
  map_from_each (x ∷ xs) (n ∷ ns) same each = ap₂ ◌∷◌ (each 0 x (omega arith)) (map_from_each xs ns (omega (arith, same)) (λ i d below. each (suc i) d (omega (arith, below))))

  -- what holds of 0 and of each item's value holds of what is read at any place
  read_from_each : (P : ℕ → Type 0) → P 0 → (xs : List A) → ((i : ℕ) (d : A) → i < length xs → P (f (get_or xs i d))) → (k : ℕ) → P (slice_index (map f xs) k)
  read_from_each P none [] each k = none
  read_from_each P none (x ∷ xs) each zero = each 0 x (omega arith)
  read_from_each P none (x ∷ xs) each (suc k) = read_from_each P none xs (λ i d below. each (suc i) d (omega (arith, below))) k

  pub unmarked_from_each : (xs : List A) → ((i : ℕ) (d : A) → i < length xs → f (get_or xs i d) ≡ 0) → (λ k. slice_index (map f xs) k) ≡ unmarked
  unmarked_from_each xs each = fun_ext (read_from_each (λ n. n ≡ 0) refl xs each)

-- the value at a place, once an item is set at a seat
pub read_after_set : {A : Type 0} (f : A → ℕ) (xs : List A) (seat : ℕ) (x : A) (k : ℕ) → seat < length xs → get_or (map f (set xs seat x)) k 0 ≡ cond (k == seat) (f x) (get_or (map f xs) k 0)
read_after_set f xs seat x k below = simp map-set (grind (arith, common_steps))

-- an item with the old one's value changes no value
pub same_after_set : {A : Type 0} (f : A → ℕ) (xs : List A) (seat : ℕ) (x old : A) → old ≡ get_or xs seat old → f x ≡ f old → map f (set xs seat x) ≡ map f xs
same_after_set f xs seat x old was same = map-set_same f xs seat x old (same ∙ ap f was)

-- every seat's mark is at a moment that there is
pub moments_early : {R : Type 0} {g : _} (hands : List (Hand R g)) (k : ℕ) → moments hands k < limit
moments_early hands k = read_from_each hand_moment (λ n. n < limit) (omega arith) hands (λ i d _. (get_or hands i d).early) k
