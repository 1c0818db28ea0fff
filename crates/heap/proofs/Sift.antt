-- What each step of a sift keeps, for any relation of parents to children and any exchange that is given by places.
use Rattle.std.proofs.Common.{◌≡◌, ℕ, zero, suc, ◌+◌, ◌-◌, ◌*◌, ◌/◌, ◌<◌, ◌≤◌, List, length, get_or, sym, refl, ap, ◌∙◌, subst, ⊎_elim, arith}
use Rattle.std.proofs.Permutation.{every_of}
use Rattle.std.proofs.lemmas.Bool.{cases_eq}
use Rattle.heap.specs.Heaps.{Child, First, Gap, Heaped, Over, Under}

-- ys is xs with the elements at a and b in each other's place: all that a sift asks of its exchange
abbrev pub Swapped : {X : Type 0} → List X → List X → ℕ → ℕ → Type 0
Swapped {X} xs ys a b = ((d : X) → get_or ys a d ≡ get_or xs b d) × ((d : X) → get_or ys b d ≡ get_or xs a d) × ((k : ℕ) (d : X) → (k ≡ a → ⊥) → (k ≡ b → ⊥) → get_or ys k d ≡ get_or xs k d)

module _ {X : Type 0} (R : X → X → Type 0) where
  -- the relation of two elements read at other places
  pub by : (a b x y : X) → a ≡ x → b ≡ y → R x y → R a b
  by a b x y p q h = subst (λ (u : X). R u b) (sym p) (subst (λ (v : X). R x v) (sym q) h)

  -- where a sift ends: the gap closes once its element fits its parent and its children
  pub closes : (xs : List X) (j : ℕ) → Gap R xs j → Under R xs j j → Over R xs j → Heaped R xs
  closes xs j h under over = λ k' d f. let k = k' + 1 in let p = k' / 2 in let a : p * 2 + 1 ≤ k = omega arith in let b : k ≤ p * 2 + 2 = omega arith in ⊎_elim
      (λ e. by _ _ _ _ (ap (λ m. get_or xs m d) e) refl (under k d (omega arith) (omega arith) f))
      (λ u. ⊎_elim
      (λ e. by _ _ _ _ refl (ap (λ m. get_or xs m d) e) (over p d (omega arith) (omega arith)))
      (λ v. h.rest p k d a b f u v) (cases_eq k j)) (cases_eq p j)

  -- a heap read by parent and child
  pub at_child : (xs : List X) → Heaped R xs → (p k : ℕ) (d : X) → p * 2 + 1 ≤ k → k ≤ p * 2 + 2 → k < length xs → R (get_or xs p d) (get_or xs k d)
  at_child xs h p k d a b f = let e : p ≡ (k - 1) / 2 = omega arith in let e' : k ≡ k - 1 + 1 = omega arith in by _ _ _ _ (ap (λ m. get_or xs m d) e) (ap (λ m. get_or xs m d) e') (h (k - 1) d (omega arith))

  -- a leaf has no children to fit
  pub leaf_under : (xs : List X) (j : ℕ) → length xs ≤ j * 2 + 1 → Under R xs j j
  leaf_under xs j h = λ k d a b f. absurd (omega arith)

  -- the root has no parent to fit
  pub root_over : (xs : List X) (j : ℕ) → j ≡ 0 → Over R xs j
  root_over xs j h = λ p d a b. absurd (omega arith)

  -- one step of a sift: the elements at j and at its child c change places
  module _ (xs ys : List X) (j c : ℕ) (child : Child j c) (within : c < length xs) (long : length ys ≡ length xs) (s : Swapped xs ys j c) where
    -- downwards, past the first child, the gap moves from j to c
    pub down : Under R xs c j → Gap R xs j → Gap R ys c
    down best h = record {
      rest = λ p k d a b f u v. ⊎_elim
          (λ e. by _ _ _ _ (ap (λ m. get_or ys m d) e ∙ s.0 d) (s.2 k d (omega arith) v) (best k d (omega arith) (omega arith) (omega arith)))
          (λ w. ⊎_elim
          (λ e. by _ _ _ _ (s.2 p d w u) (ap (λ m. get_or ys m d) e ∙ s.0 d) (h.across p c d (omega arith) (omega arith) child.0 child.1 within))
          (λ z. by _ _ _ _ (s.2 p d w u) (s.2 k d z v) (h.rest p k d a b (omega arith) w z)) (cases_eq k j)) (cases_eq p j);
      across = λ p k d a b f g i.
          let e : p ≡ j = omega arith in
          by _ _ _ _ (ap (λ m. get_or ys m d) e ∙ s.0 d) (s.2 k d (omega arith) (omega arith)) (h.rest c k d f g (omega arith) (omega arith) (omega arith));
    }

    -- downwards, the element fits its new parent
    pub down_over : ((d : X) → R (get_or xs c d) (get_or xs j d)) → Over R ys c
    down_over t = λ p d a b. let e : p ≡ j = omega arith in by _ _ _ _ (ap (λ m. get_or ys m d) e ∙ s.0 d) (s.1 d) (t d)

    module _ (trans : (x y z : X) → R x y → R y z → R x z) where
      -- upwards the gap moves from c to j
      pub up : Gap R xs c → Gap R ys j
      up h = record {
        rest = λ p k d a b f u v. ⊎_elim
            (λ e. by _ _ _ _ (ap (λ m. get_or ys m d) e ∙ s.1 d) (s.2 k d v (omega arith)) (h.across j k d child.0 child.1 (omega arith) (omega arith) (omega arith)))
            (λ w. let z : k ≡ c → ⊥ = omega arith in by _ _ _ _ (s.2 p d u w) (s.2 k d v z) (h.rest p k d a b (omega arith) w z)) (cases_eq p c);
        across = λ p k d a b f g i.
            let over = h.rest p j d a b (omega arith) (omega arith) (omega arith) in
            let same = s.2 p d (omega arith) (omega arith) in
            ⊎_elim
            (λ e. by _ _ _ _ same (ap (λ m. get_or ys m d) e ∙ s.1 d) over)
            (λ w. by _ _ _ _ same (s.2 k d (omega arith) w) (trans _ _ _ over (h.rest j k d f g (omega arith) (omega arith) w))) (cases_eq k c);
      }

      -- upwards, the element fits its new children
      pub up_under : ((d : X) → R (get_or xs c d) (get_or xs j d)) → Gap R xs c → Under R ys j j
      up_under t h = λ k d a b f. ⊎_elim
          (λ e. by _ _ _ _ (s.0 d) (ap (λ m. get_or ys m d) e ∙ s.1 d) (t d))
          (λ w. by _ _ _ _ (s.0 d) (s.2 k d (omega arith) w) (trans _ _ _ (t d) (h.rest j k d a b (omega arith) (omega arith) w))) (cases_eq k c)

  module _ (refl' : (x : X) → R x x) (trans : (x y z : X) → R x y → R y z → R x z) where
    -- from any place the parents lead to the root
    root_before : (xs : List X) (d : X) → Heaped R xs → (fuel k : ℕ) → k ≤ fuel → k < length xs → R (get_or xs 0 d) (get_or xs k d)
    root_before xs d h zero k a b = let e : k ≡ 0 = omega arith in by _ _ _ _ refl (ap (λ m. get_or xs m d) e) (refl' _)
    root_before xs d h (suc fuel) k a b = ⊎_elim (λ e. by _ _ _ _ refl (ap (λ m. get_or xs m d) e) (refl' _))
        (λ u. trans _ _ _ (root_before xs d h fuel ((k - 1) / 2) (omega arith) (omega arith)) (at_child xs h ((k - 1) / 2) k d (omega arith) (omega arith) b)) (cases_eq k 0)

    -- no element of a heap comes before the root
    pub root_first : (xs : List X) (x : X) → x ≡ get_or xs 0 x → Heaped R xs → First R x xs
    root_first xs x e h = every_of (R x) xs x (λ i p. by _ _ _ _ e refl (root_before xs x h i i (omega arith) p))
