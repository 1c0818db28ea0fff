-- What the calls of a heap make of its list: an element at the end, the last one at the root, a slice written back.
use Rattle.std.proofs.Common.{◌≡◌, ℕ, ◌+◌, ◌<◌, ◌≤◌, List, [], ◌∷◌, ◌++◌, length, get_or, take, Some, None, Option, sym, refl, ap, ◌∙◌, subst, arith, take_all, Bor}
use Rattle.std.proofs.Math.ListN.{get_or-append}
use Rattle.std.proofs.lemmas.List.{take-append-le}
use Rattle.std.specs.List.{swap_remove}
use Rattle.std.specs.Slice.{IsGetResult}
use Rattle.std.specs.List.Sorted.{IsPermutation}
use Rattle.std.proofs.Permutation.{every_shuffled}
use Rattle.std.proofs.lemmas.List.Sorted.{IsPermutation-swap_remove, IsPermutation-trans, IsPermutation-sym, IsPermutation-cons, IsPermutation-to_front}
use Rattle.heap.specs.Calls.{Peeks}
use Rattle.heap.specs.Heaps.{AtRoot, First, Gap, Heaped}
use Rattle.heap.proofs.Sift.{at_child, by, root_first}

-- a heap whose length is 0 holds nothing
pub none_left : {X : Type 0} (xs : List X) → length xs ≤ 0 → xs ≡ []
none_left [] h = refl
none_left (x ∷ xs) h = absurd (omega arith)

-- a vector whose slice was sifted holds what the slice then held
pub refilled_is : {X : Type 0} (n : ℕ) (ws t : List X) → length ws ≡ n → take n (ws ++ t) ≡ ws
refilled_is n ws t e = take-append-le n ws t (omega arith) ∙ take_all n ws (omega arith)

-- an element at the end joins those before, and the sift only moves them
pub added : {X : Type 0} (xs ys ws zs : List X) (x : X) → ys ≡ xs ++ x ∷ [] → IsPermutation ys ws → zs ≡ ws → IsPermutation (x ∷ xs) zs
added {X} xs ys ws zs x is s e = subst (IsPermutation (x ∷ xs)) (sym e) (IsPermutation-trans (x ∷ xs) (xs ++ x ∷ []) ws (IsPermutation-sym _ _ (IsPermutation-to_front xs x)) (subst (λ (l : List X). IsPermutation l ws) is s))

-- the root and the rest are the elements before, and the sift only moves the rest
pub taken : {X : Type 0} (xs ys ws zs : List X) (x : X) → 0 < length xs → AtRoot x xs → ys ≡ swap_remove xs 0 x → IsPermutation ys ws → zs ≡ ws → IsPermutation xs (x ∷ zs)
taken {X} xs ys ws zs x some at is s e =
    let front : IsPermutation xs (x ∷ ys) = subst (λ (l : List X). IsPermutation xs (x ∷ l)) (sym is) (IsPermutation-swap_remove xs 0 x some at) in
    subst (λ (l : List X). IsPermutation xs (x ∷ l)) (sym e) (IsPermutation-trans xs (x ∷ ys) (x ∷ ws) front (IsPermutation-cons x ys ws s))

module _ {X : Type 0} (R : X → X → Type 0) where
  -- a heap with one element more at the end has its gap there
  pub appended : (xs ys : List X) (x : X) → ys ≡ xs ++ x ∷ [] → length ys ≡ length xs + 1 → Heaped R xs → Gap R ys (length xs)
  appended xs ys x is long h =
      let same : (i : ℕ) (d : X) → i < length xs → get_or ys i d ≡ get_or xs i d = λ i d lt. ap (λ (l : List X). get_or l i d) is ∙ get_or-append xs (x ∷ []) d i lt in
      record {
        rest = λ p k d a b f u v. by R _ _ _ _ (same p d (omega arith)) (same k d (omega arith)) (at_child R xs h p k d a b (omega arith));
        across = λ p k d a b f g i. absurd (omega arith);
      }

  -- a heap with its last element in the place of the root has its gap there
  pub uprooted : (xs ys : List X) → length ys + 1 ≡ length xs → ((k : ℕ) (d : X) → (k ≡ 0 → ⊥) → k + 1 < length xs → get_or ys k d ≡ get_or xs k d) → Heaped R xs → Gap R ys 0
  uprooted xs ys long same h = record {
    rest = λ p k d a b f u v. by R _ _ _ _ (same p d u (omega arith)) (same k d v (omega arith)) (at_child R xs h p k d a b (omega arith));
    across = λ p k d a b f g i. absurd (omega arith);
  }

  -- the root comes first of those that remain too
  pub first_left : (xs zs : List X) (x : X) → First R x xs → IsPermutation xs (x ∷ zs) → First R x zs
  first_left xs zs x h s = (every_shuffled (R x) xs (x ∷ zs) s h).1

  -- what was found at the root is what a peek answers
  pub peeked : (refl' : (x : X) → R x x) (trans : (x y z : X) → R x y → R y z → R x z) (xs : List X) (r : Option (Bor X)) → IsGetResult xs 0 0 r → Peeks R xs r
  peeked refl' trans xs None i = none_left xs i.3
  peeked refl' trans xs (Some x) i = (i.3.0, i.1, root_first R refl' trans xs x.now i.1)
