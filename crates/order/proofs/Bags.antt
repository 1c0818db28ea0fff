-- Lists up to a shuffle: what append does, one element more, and lists that are gathered by number.
use Rattle.std.proofs.Common.{◌≡◌, ℕ, zero, suc, ◌<◌, List, [], ◌∷◌, ◌++◌, sym, refl, ap, ◌∙◌, subst, ⊎_elim, append_assoc, append-nil, arith}
use Rattle.std.specs.List.{AllByRecursion}
use Rattle.std.specs.List.Sorted.{IsPermutation}
use Rattle.std.proofs.lemmas.List.Sorted.{IsPermutation-refl, IsPermutation-sym, IsPermutation-trans, IsPermutation-cons, IsPermutation-swap}
use Rattle.std.proofs.lemmas.Bool.{cases_eq}
use Rattle.std.proofs.ByRecursion.{All-append}
use Rattle.order.specs.Law.{gathered}

module _ {X : Type 0} where
  -- the first two may change places
  swap_front : (x y : X) (l : List X) → IsPermutation (x ∷ y ∷ l) (y ∷ x ∷ l)
  swap_front x y l = IsPermutation-swap (x ∷ y ∷ l) (y ∷ x ∷ l) 0 1 (omega arith) (omega arith) refl

  -- an element may go in anywhere
  into : (x : X) (a b : List X) → IsPermutation (x ∷ (a ++ b)) (a ++ x ∷ b)
  into x [] b = IsPermutation-refl (x ∷ b)
  into x (y ∷ a) b =
      IsPermutation-trans (x ∷ y ∷ (a ++ b)) (y ∷ x ∷ (a ++ b)) (y ∷ (a ++ x ∷ b))
      (swap_front x y (a ++ b))
      (IsPermutation-cons y (x ∷ (a ++ b)) (a ++ x ∷ b) (into x a b))

  -- shuffled behind the same list
  after_same : (a b c : List X) → IsPermutation b c → IsPermutation (a ++ b) (a ++ c)
  after_same [] b c h = h
  after_same (x ∷ a) b c h = IsPermutation-cons x (a ++ b) (a ++ c) (after_same a b c h)

  -- two lists may change places
  turned : (a b : List X) → IsPermutation (a ++ b) (b ++ a)
  turned [] b = subst (λ (l : List X). IsPermutation b l) (sym (append-nil b)) (IsPermutation-refl b)
  turned (x ∷ a) b =
      IsPermutation-trans (x ∷ (a ++ b)) (x ∷ (b ++ a)) (b ++ x ∷ a)
      (IsPermutation-cons x (a ++ b) (b ++ a) (turned a b))
      (into x b a)

  -- shuffled before the same list
  before_same : (a b c : List X) → IsPermutation a b → IsPermutation (a ++ c) (b ++ c)
  before_same a b c h =
      IsPermutation-trans (a ++ c) (c ++ a) (b ++ c) (turned a c)
      (IsPermutation-trans (c ++ a) (c ++ b) (b ++ c) (after_same c a b h) (turned c b))

  -- an element goes from the third of three lists to the second
  pub third_to_second : (x : X) (a b b' c c' : List X) → IsPermutation (x ∷ b) b' → IsPermutation (x ∷ c') c → IsPermutation (a ++ (b ++ c)) (a ++ (b' ++ c'))
  third_to_second x a b b' c c' h k =
      after_same a (b ++ c) (b' ++ c')
      (IsPermutation-trans (b ++ c) (b ++ x ∷ c') (b' ++ c')
      (after_same b c (x ∷ c') (IsPermutation-sym (x ∷ c') c k))
      (IsPermutation-trans (b ++ x ∷ c') (x ∷ (b ++ c')) (b' ++ c')
      (IsPermutation-sym (x ∷ (b ++ c')) (b ++ x ∷ c') (into x b c'))
      (before_same (x ∷ b) b' c' h)))

  -- an element goes from the second to the end of the first
  pub second_to_first : (x : X) (a b b' c : List X) → IsPermutation b (x ∷ b') → IsPermutation (a ++ (b ++ c)) ((a ++ x ∷ []) ++ (b' ++ c))
  second_to_first x a b b' c h =
      subst (λ (l : List X). IsPermutation (a ++ (b ++ c)) l) (sym (append_assoc a (x ∷ []) (b' ++ c)))
      (after_same a (b ++ c) (x ∷ (b' ++ c)) (before_same b (x ∷ b') c h))

  -- a new element goes into the third
  pub new_in_third : (x : X) (a b c c' : List X) → IsPermutation (x ∷ c) c' → IsPermutation (x ∷ (a ++ (b ++ c))) (a ++ (b ++ c'))
  new_in_third x a b c c' h =
      IsPermutation-trans (x ∷ (a ++ (b ++ c))) (a ++ x ∷ (b ++ c)) (a ++ (b ++ c'))
      (into x a (b ++ c))
      (after_same a (x ∷ (b ++ c)) (b ++ c')
      (IsPermutation-trans (x ∷ (b ++ c)) (b ++ x ∷ c) (b ++ c') (into x b c) (after_same b (x ∷ c) c' h)))

  -- lists that are the same are gathered to the same
  pub same_gathered : (f g : ℕ → List X) (n : ℕ) → ((j : ℕ) → j < n → g j ≡ f j) → gathered g n ≡ gathered f n
  same_gathered f g zero h = refl
  same_gathered f g (suc n) h =
      let ih : gathered g n ≡ gathered f n = same_gathered f g n (λ j p. h j (omega arith)) in
      let here : g n ≡ f n = h n (omega arith) in
      cc

  -- one element more in the list at n, or in one below
  module _ (x : X) (f g : ℕ → List X) (n : ℕ) where
    more_here : IsPermutation (x ∷ f n) (g n) → gathered g n ≡ gathered f n → IsPermutation (x ∷ (gathered f n ++ f n)) (gathered g n ++ g n)
    more_here here low =
        subst (λ (l : List X). IsPermutation (x ∷ (gathered f n ++ f n)) (l ++ g n)) (sym low)
        (IsPermutation-trans (x ∷ (gathered f n ++ f n)) (gathered f n ++ x ∷ f n) (gathered f n ++ g n)
        (into x (gathered f n) (f n)) (after_same (gathered f n) (x ∷ f n) (g n) here))

    more_below : g n ≡ f n → IsPermutation (x ∷ gathered f n) (gathered g n) → IsPermutation (x ∷ (gathered f n ++ f n)) (gathered g n ++ g n)
    more_below here low =
        subst (λ (l : List X). IsPermutation (x ∷ (gathered f n ++ f n)) (gathered g n ++ l)) (sym here)
        (before_same (x ∷ gathered f n) (gathered g n) (f n) low)

  -- one element more in one of the lists is one more in all
  pub one_more : (x : X) (f g : ℕ → List X) (n k : ℕ) → k < n → IsPermutation (x ∷ f k) (g k) → ((j : ℕ) → (j ≡ k → ⊥) → g j ≡ f j) → IsPermutation (x ∷ gathered f n) (gathered g n)
  one_more x f g zero k p h others = absurd (omega arith)
  one_more x f g (suc n) k p h others =
      ⊎_elim
      (λ e. more_here x f g n (subst (λ (m : ℕ). IsPermutation (x ∷ f m) (g m)) e h) (same_gathered f g n (λ j q. others j (omega arith))))
      (λ ne. more_below x f g n (others n (λ e. ne (sym e))) (one_more x f g n k (omega arith) h others))
      (cases_eq k n)

  -- what holds of each in every list holds of each that is gathered
  pub all_gathered : (P : X → Type 0) (f : ℕ → List X) (n : ℕ) → ((k : ℕ) → k < n → AllByRecursion P (f k)) → AllByRecursion P (gathered f n)
  all_gathered P f zero h = tt
  all_gathered P f (suc n) h = All-append P (gathered f n) (f n) (all_gathered P f n (λ k p. h k (omega arith))) (h n (omega arith))

  -- from empty lists nothing is gathered
  pub gathered_empty : (f : ℕ → List X) (n : ℕ) → ((k : ℕ) → k < n → f k ≡ []) → gathered f n ≡ []
  gathered_empty f zero h = refl
  gathered_empty f (suc n) h = ap (λ (l : List X). l ++ f n) (gathered_empty f n (λ k p. h k (omega arith))) ∙ h n (omega arith)
