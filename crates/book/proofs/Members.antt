-- Members of lists, and what holds of each, where the library has it in another form.
use Rattle.std.proofs.Common.{◌≡◌, ◌⊎◌, List, [], ◌∷◌, ◌++◌, sym, refl, subst, inl, inr, ⊎_elim}
use Rattle.std.specs.List.Sorted.{IsPermutation}
use Rattle.std.specs.List.{AllByRecursion, ContainsAt}
use Rattle.std.proofs.ByRecursion.{All-append, all-has, all_has_itself, All-weaker, has_append_left, has_append_right, has_shuffled}
use Rattle.std.proofs.lemmas.List.Sorted.{IsPermutation-cons, IsPermutation-sym}
use Rattle.book.specs.TakeOrder.{Same}

module _ {X : Type 0} where
  -- the same list before two with the same elements: those met stay while what is beyond moves
  pub shuffled_after : (xs ys zs : List X) → IsPermutation ys zs → IsPermutation (xs ++ ys) (xs ++ zs)
  shuffled_after [] ys zs s = s
  shuffled_after (x ∷ xs) ys zs s = IsPermutation-cons x (xs ++ ys) (xs ++ zs) (shuffled_after xs ys zs s)

  -- what holds of each of two lists in a row holds of each of either: of those met, and of those beyond
  pub every_parts : (P : X → Type 0) (xs ys : List X) → AllByRecursion P (xs ++ ys) → AllByRecursion P xs × AllByRecursion P ys
  every_parts P [] ys h = (tt, h)
  every_parts P (x ∷ xs) ys h = let r = every_parts P xs ys h.1 in ((h.0, r.0), r.1)

  -- what holds of each member holds of each element
  pub every_from_has : (P : X → Type 0) (xs : List X) → ((x : X) → ContainsAt xs x → P x) → AllByRecursion P xs
  every_from_has P xs h = All-weaker (ContainsAt xs) P h xs (all_has_itself xs)

  -- a member of two lists in a row is one of either: an order of a side was met or lies beyond
  pub has_either : (xs ys : List X) (x : X) → ContainsAt (xs ++ ys) x → ContainsAt xs x ⊎ ContainsAt ys x
  has_either xs ys x h =
      let P : X → Type 0 = λ z. ContainsAt xs z ⊎ ContainsAt ys z in
      all-has P (xs ++ ys) x (All-append P xs ys (every_from_has P xs (λ _ m. inl m)) (every_from_has P ys (λ _ m. inr m))) h

  -- a member is the first element or one of the others
  pub has_cons : (x : X) (xs : List X) (z : X) → ContainsAt (x ∷ xs) z → (x ≡ z) ⊎ ContainsAt xs z
  has_cons x xs z h = let P : X → Type 0 = λ w. (x ≡ w) ⊎ ContainsAt xs w in all-has P (x ∷ xs) z (inl refl, every_from_has P xs (λ _ m. inr m)) h

  -- equal lists have the same members
  pub same_refl : (xs ys : List X) → xs ≡ ys → Same xs ys
  same_refl xs ys e = (λ z m. subst (λ (l : List X). ContainsAt l z) e m, λ z m. subst (λ (l : List X). ContainsAt l z) (sym e) m)

  -- two lists with the elements of one have the same members
  pub same_shuffled : (xs ys zs : List X) → IsPermutation xs ys → IsPermutation xs zs → Same ys zs
  same_shuffled xs ys zs s t = (
    λ z m. has_shuffled xs zs z t (has_shuffled ys xs z (IsPermutation-sym xs ys s) m),
    λ z m. has_shuffled xs ys z s (has_shuffled zs xs z (IsPermutation-sym xs zs t) m),
  )

  -- after one list, two with the same members: what rests of those met, and the same orders beyond
  pub fewer_after : (xs ys zs us vs : List X) → Same ys zs → IsPermutation (xs ++ ys) us → IsPermutation (xs ++ zs) vs → (z : X) → ContainsAt us z → ContainsAt vs z
  fewer_after xs ys zs us vs same s t z m = has_shuffled (xs ++ zs) vs z t
      (⊎_elim (λ i. has_append_left xs zs z i) (λ i. has_append_right xs zs z (same.0 z i)) (has_either xs ys z (has_shuffled us (xs ++ ys) z (IsPermutation-sym (xs ++ ys) us s) m)))
