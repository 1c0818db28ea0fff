-- The first order of a side: a price crosses it or none.
use Rattle.std.proofs.Common.{◌≡◌, ℕ, ◌<◌, Bool, true, false, List, [], ◌∷◌, length, get_or, sym, refl, ap, ◌∙◌, ⊎_elim, arith}
use Rattle.std.specs.List.Sorted.{IsPermutation}
use Rattle.std.specs.List.{AllByRecursion}
use Rattle.std.proofs.ByRecursion.{All-weaker}
use Rattle.std.proofs.lemmas.List.Sorted.{IsPermutation-sym}
use Rattle.std.proofs.lemmas.Bool.{both_ways, cases_Bool, cond-false, cond-true}
use Rattle.std.proofs.Permutation.{every_shuffled}
use Rattle.heap.specs.Heaps.{Upto, First}
use Rattle.book.specs.Quote.{Kind, Lawful}
use Rattle.book.specs.Side.{Before, Crosses, Misses, any_crosses}

-- what the heap says of its first, in the words of the kind
pub ranked_first : {X K : Type 0} (key : X → K) (upto : K → K → Bool) (k : Kind X) → ((x y : X) → upto (key x) (key y) ≡ k.before x y) → (x : X) (xs : List X) → First (Upto key upto) x xs → AllByRecursion (Before k x) xs
ranked_first key upto k ranks x xs h = All-weaker (Upto key upto x) (Before k x) (λ y e. sym (ranks x y) ∙ e) xs h

module _ {X : Type 0} (k : Kind X) (p : ℕ) where
  -- no order crosses: the test and each order say the same
  pub none_crosses : (xs : List X) → AllByRecursion (Misses k p) xs → any_crosses k p xs ≡ false
  none_crosses [] h = refl
  none_crosses (y ∷ ys) h = cond-false _ _ _ h.0 ∙ none_crosses ys h.1

  -- and back
  pub each_misses : (xs : List X) → any_crosses k p xs ≡ false → AllByRecursion (Misses k p) xs
  each_misses [] h = tt
  each_misses (x ∷ xs) h = ⊎_elim
      (λ e. absurd (both_ways true (sym (cond-true _ _ _ e) ∙ h) refl))
      (λ e. (e, each_misses xs (sym (cond-false _ _ _ e) ∙ h))) (cases_Bool (k.meets p (k.resting x).price))

module _ {X : Type 0} (k : Kind X) (laws : Lawful k) (p : ℕ) where
  -- where the first does not cross, no other does
  misses_all : (x : X) (xs : List X) → AllByRecursion (Before k x) xs → Misses k p x → AllByRecursion (Misses k p) xs
  misses_all x xs h e = All-weaker (Before k x) (Misses k p) (λ y b. laws.falls p x y b e) xs h

  -- the first crosses, or none does: what a look at the first tells
  pub first_decides : (x : X) (xs : List X) → 0 < length xs → x ≡ get_or xs 0 x → AllByRecursion (Before k x) xs → k.meets p (k.resting x).price ≡ any_crosses k p xs
  first_decides x [] some at h = absurd (omega arith)
  first_decides x (y ∷ ys) some at h = ⊎_elim
      (λ e. e ∙ sym (cond-true _ _ _ (ap (λ (z : X). k.meets p (k.resting z).price) (sym at) ∙ e)))
      (λ e. e ∙ sym (none_crosses k p (y ∷ ys) (misses_all x (y ∷ ys) h e))) (cases_Bool (k.meets p (k.resting x).price))

  -- where some order crosses, the first does: what is taken out may be filled
  pub first_crosses : (x : X) (xs others : List X) → IsPermutation xs (x ∷ others) → AllByRecursion (Before k x) others → any_crosses k p xs ≡ true → Crosses k p x
  first_crosses x xs others s h some = ⊎_elim (λ e. e)
      (λ e. absurd (both_ways (any_crosses k p xs) (none_crosses k p xs (every_shuffled (Misses k p) (x ∷ others) xs (IsPermutation-sym xs (x ∷ others) s) (e, misses_all x others h e))) some))
      (cases_Bool (k.meets p (k.resting x).price))
