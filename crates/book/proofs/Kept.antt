-- What taking an order keeps: no order crosses one of the other side, and no two of a side have one arrival number.
use Rattle.std.proofs.Common.{◌≡◌, ℕ, ◌+◌, ◌-◌, ◌≤◌, Bool, true, false, cond, not, eqb, ltb, ◌⊎◌, List, [], ◌∷◌, ◌++◌, length, count_by, sym, ap, ◌∙◌, subst, inl, inr, ⊎_elim, arith}
use Rattle.std.specs.List.{AllByRecursion, ContainsAt}
use Rattle.std.proofs.ByRecursion.{all-has, has_shuffled}
use Rattle.std.proofs.lemmas.List.Sorted.{IsPermutation-sym, sum_by-IsPermutation}
use Rattle.std.proofs.lemmas.List.Sums.{sum_by-append, sum_by-cons}
use Rattle.std.proofs.lemmas.Bool.{and_parts, cases_Bool, cond_both, not-true}
use Rattle.std.proofs.lemmas.Bool.Decides.{nat_tests, when_false, when_true}
use Rattle.std.proofs.Permutation.{every_append, every_shuffled}
use Rattle.book.specs.declared.order.Order.{Order}
use Rattle.book.specs.declared.order.Booked.{Booked}
use Rattle.book.specs.declared.order.Resting.{Resting}
use Rattle.book.specs.declared.fill.Fill.{Fill}
use Rattle.book.specs.Order.{at_rest, less, with_quantity}
use Rattle.book.specs.Quote.{Kind, Lawful}
use Rattle.book.specs.Side.{Misses, any_crosses, left_over}
use Rattle.book.specs.Matching.{Dealt, Matched, Rested, remains, rests}
use Rattle.book.specs.Book.{Numbered}
use Rattle.book.proofs.First.{each_misses}
use Rattle.book.proofs.Members.{every_from_has, every_parts, has_cons}

-- what holds of each resting order, whatever its quantity, still does once some are met
module _ {X : Type 0} (k : Kind X) (P : X → Type 0) (any : (x : X) (q : ℕ) → P x → P (k.quoted (with_quantity (k.resting x) q))) where
  -- of what rests of those met
  pub remains_keep : (q : ℕ) (met : List X) → AllByRecursion P met → AllByRecursion P (remains k q met)
  remains_keep q [] h = tt
  remains_keep q (x ∷ met) h = every_append P (left_over k q (k.resting x)) (remains k (q - (k.resting x).quantity) met)
      (cond_both (ltb q (k.resting x).quantity) _ _ (AllByRecursion P) (λ _. (any x _ h.0, tt)) (λ _. tt))
      (remains_keep (q - (k.resting x).quantity) met h.1)

  -- and so of the whole side
  pub matched_keeps : (o : Order) (before after : List X) (lines : List Fill) (left : ℕ) → Matched k o before lines after left → AllByRecursion P before → AllByRecursion P after
  matched_keeps o before after lines left m h =
      let parts = every_parts P m.met m.beyond (every_shuffled P before (m.met ++ m.beyond) m.all h) in
      every_shuffled P (remains k o.quantity m.met ++ m.beyond) after m.rest
      (every_append P (remains k o.quantity m.met) m.beyond (remains_keep o.quantity m.met parts.0) parts.1)

-- whoever stands on an order's own side after stood there before, or is what rests of the order
rested_has : {Y : Type 0} (k : Kind Y) (o : Order) (arrival left : ℕ) (stays : Bool) (own own' : List Y) (rested : ℕ) → Rested k o arrival left stays own own' rested → (y : Y) → ContainsAt own' y → ((stays ≡ true) × (k.quoted (at_rest o left arrival) ≡ y)) ⊎ ContainsAt own y
rested_has {Y} k o arrival left stays own own' rested s y m =
    let new = k.quoted (at_rest o left arrival) in
    ⊎_elim
    (λ e. ⊎_elim (λ i. inl (e, i)) (λ i. inr i) (has_cons new own y (has_shuffled own' (new ∷ own) y (IsPermutation-sym (new ∷ own) own' (when_true _ _ e s.side)) m)))
    (λ e. inr (subst (λ (l : List Y). ContainsAt l y) (when_false _ _ e s.side) m))
    (cases_Bool stays)

-- no order of the one side crosses one of the other
abbrev pub Clear : {X Y : Type 0} → Kind X → Kind Y → List X → List Y → Type 0
Clear {X} {Y} there here xs ys = (x : X) (y : Y) → ContainsAt xs x → ContainsAt ys y → Misses there (here.resting y).price x

module _ {X Y : Type 0} (there : Kind X) (here : Kind Y) (laws : Lawful there) (laws' : Lawful here) where
  -- the invariant of the two sides, once for an incoming buy and an incoming sell
  pub clear_kept : (o : Order) (arrival room : ℕ) (full : Bool) (opposite opposite' : List X) (own own' : List Y) (fills : List Fill) (r : Booked) → Dealt there here o arrival room full opposite opposite' own own' fills r → Clear there here opposite own → Clear there here opposite' own'
  clear_kept o arrival room full opposite opposite' own own' fills r d h x y m n =
      let crossed = any_crosses there o.price opposite' in
      let rest = at_rest o d.left arrival in
      ⊎_elim
      (λ i.
      let none : crossed ≡ false = not-true crossed (and_parts (not crossed) _ (and_parts (ltb 0 d.left) _ i.0).1).0 in
      let price : o.price ≡ (here.resting y).price = ap (λ (z : Resting). z.price) (sym (laws'.kept rest)) ∙ ap (λ (z : Y). (here.resting z).price) i.1 in
      subst (λ (p : ℕ). Misses there p x) price (all-has (Misses there o.price) opposite' x (each_misses there o.price opposite' none) m))
      (λ i.
      let P : X → Type 0 = Misses there (here.resting y).price in
      let any : (z : X) (q : ℕ) → P z → P (there.quoted (with_quantity (there.resting z) q)) = λ z q e. ap (λ (w : Resting). there.meets (here.resting y).price w.price) (laws.kept (with_quantity (there.resting z) q)) ∙ e in
      all-has P opposite' x (matched_keeps there P any o opposite opposite' fills d.left d.matched (every_from_has P opposite (λ z l. h z y l i))) m)
      (rested_has here o arrival d.left _ own own' r.rested d.rest y n)

module _ {X : Type 0} (k : Kind X) (n : ℕ) where
  -- 1 for an order that has the number
  abbrev pub numbered_one : X → ℕ
  numbered_one x = cond (eqb (k.resting x).arrival n) 1 0

  -- how many have it
  abbrev pub numbered : List X → ℕ
  numbered = count_by (λ x. eqb (k.resting x).arrival n)

module _ {X : Type 0} (k : Kind X) (laws : Lawful k) (n : ℕ) where
  -- shorter, for the sums below
  abbrev one : X → ℕ
  one = numbered_one k n

  -- an order keeps its number, so that what rests of those met has no more of one number
  count_remains : (q : ℕ) (met : List X) → numbered k n (remains k q met) ≤ numbered k n met
  count_remains q [] = omega arith
  count_remains q (x ∷ met) =
      let y = less q (k.resting x) in
      let whole = sum_by-cons one x met in
      let parts = sum_by-append one (left_over k q (k.resting x)) (remains k (q - (k.resting x).quantity) met) in
      let same : one (k.quoted y) ≡ one x = ap (λ (z : Resting). cond (eqb z.arrival n) 1 0) (laws.kept y) in
      let part : numbered k n (left_over k q (k.resting x)) ≤ one x = cond_both (ltb q (k.resting x).quantity) _ _ (λ l. numbered k n l ≤ one x) (λ _. let last = sum_by-cons one (k.quoted y) [] in omega arith) (λ _. omega arith) in
      let e = count_remains (q - (k.resting x).quantity) met in
      omega arith

  -- nor has the side
  count_after : (o : Order) (before after : List X) (fills : List Fill) (left : ℕ) → Matched k o before fills after left → numbered k n after ≤ numbered k n before
  count_after o before after fills left m =
      let r = remains k o.quantity m.met in
      let a = sum_by-IsPermutation one before (m.met ++ m.beyond) m.all in
      let b = sum_by-IsPermutation one (r ++ m.beyond) after m.rest in
      let c = sum_by-append one m.met m.beyond in
      let d = sum_by-append one r m.beyond in
      let e = count_remains o.quantity m.met in
      omega arith

-- one more number is given: the old ones still are, and the new one once
given_next : (n given arrival next : ℕ) → arrival ≡ given → next ≡ given + 1 → cond (eqb arrival n) 1 0 + cond (ltb n given) 1 0 ≤ cond (ltb n next) 1 0
given_next n given arrival next is more = grind (arith, nat_tests)

module _ {X Y : Type 0} (there : Kind X) (here : Kind Y) (laws : Lawful there) (laws' : Lawful here) (o : Order) (given arrival next room : ℕ) (full : Bool) (opposite opposite' : List X) (own own' : List Y) (fills : List Fill) (r : Booked) (is : arrival ≡ given) (more : next ≡ given + 1) (d : Dealt there here o arrival room full opposite opposite' own own' fills r) where
  -- the other side gets no number
  pub numbered_there : Numbered there given opposite → Numbered there next opposite'
  numbered_there h n = let a = h n in let b = given_next n given arrival next is more in let c = count_after there laws n o opposite opposite' fills d.left d.matched in omega arith

  -- the order's own side gets the number given to it, at most once
  pub numbered_here : Numbered here given own → Numbered here next own'
  numbered_here h n =
      let a = h n in
      let b = given_next n given arrival next is more in
      ⊎_elim
      (λ e.
      let x = at_rest o d.left arrival in
      let new = here.quoted x in
      let s = sum_by-IsPermutation (numbered_one here n) (new ∷ own) own' (when_true _ _ e d.rest.side) in
      let c = sum_by-cons (numbered_one here n) new own in
      let same : numbered_one here n new ≡ cond (eqb arrival n) 1 0 = ap (λ (z : Resting). cond (eqb z.arrival n) 1 0) (laws'.kept x) in
      omega arith)
      (λ e. let same = ap (numbered here n) (when_false _ _ e d.rest.side) in omega arith)
      (cases_Bool (rests d.left (any_crosses there o.price opposite') (length own) room))
