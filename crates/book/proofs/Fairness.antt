-- Every order that is dealt with by the rules is dealt with fairly.
use Rattle.std.proofs.Common.{◌≡◌, ℕ, ◌+◌, ◌-◌, ◌<◌, min, Bool, true, false, cond, ◌&&◌, ltb, List, [], ◌∷◌, ◌++◌, length, sum_by, sym, refl, ap, ◌∙◌, subst, ⊎_elim, arith}
use Rattle.std.specs.List.Sorted.{IsPermutation}
use Rattle.std.specs.List.{AllByRecursion}
use Rattle.std.proofs.ByRecursion.{all-has, All-weaker, has_append_right, has_shuffled}
use Rattle.std.proofs.lemmas.List.Sorted.{sum_by-IsPermutation}
use Rattle.std.proofs.lemmas.List.Sums.{sum_by-cons}
use Rattle.std.proofs.lemmas.Bool.{both_ways, cond_both, ltb-false}
use Rattle.std.proofs.lemmas.Bool.Decides.{nat_tests}
use Rattle.std.proofs.Permutation.{every_append, every_shuffled}
use Rattle.book.specs.declared.order.Order.{Order}
use Rattle.book.specs.declared.order.Booked.{Booked}
use Rattle.book.specs.declared.order.Resting.{Resting}
use Rattle.book.specs.declared.fill.Fill.{Fill}
use Rattle.book.specs.Order.{less}
use Rattle.book.specs.Quote.{Kind, Lawful}
use Rattle.book.specs.Side.{Before, any_crosses, left_over, total}
use Rattle.book.specs.Matching.{Dealt, InRank, Wanted, fills_of, remains, rests}
use Rattle.book.specs.Fair.{Fair, held_up, quantities}
use Rattle.book.proofs.Kept.{remains_keep}
use Rattle.book.proofs.Meeting.{none_over}
use Rattle.book.proofs.Members.{every_parts, has_either}

-- when quantity is dropped, in numbers alone
drops_when : (left q filled rested dropped held room : ℕ) (full crossed : Bool) → filled + left ≡ q → rested ≡ cond (rests left crossed held room) left 0 → rested + dropped ≡ left → (0 < left → full ≡ false → crossed ≡ false) → ltb 0 dropped ≡ (ltb filled q && held_up full crossed held room)
drops_when left q filled rested dropped held room true true a b c d = grind (arith, nat_tests)
drops_when left q filled rested dropped held room true false a b c d = grind (arith, nat_tests)
drops_when left q filled rested dropped held room false true a b c d = grind (arith, nat_tests)
drops_when left q filled rested dropped held room false false a b c d = grind (arith, nat_tests)

module _ {X : Type 0} (k : Kind X) (laws : Lawful k) where
  -- the quantity of a side is a sum, so that it does not hang on the places in the heap
  total_sum : (xs : List X) → total k xs ≡ sum_by (λ x. (k.resting x).quantity) xs
  total_sum [] = refl
  total_sum (x ∷ xs) = ap (λ (n : ℕ). (k.resting x).quantity + n) (total_sum xs) ∙ sym (sum_by-cons (λ (y : X). (k.resting y).quantity) x xs)

  -- as those met and those beyond are the side in another order
  total_shuffled : (xs ys : List X) → IsPermutation xs ys → total k ys ≡ total k xs
  total_shuffled xs ys s = total_sum ys ∙ sum_by-IsPermutation (λ x. (k.resting x).quantity) xs ys s ∙ sym (total_sum xs)

  -- and are counted apart
  total_append : (xs ys : List X) → total k (xs ++ ys) ≡ total k xs + total k ys
  total_append [] ys = omega arith
  total_append (x ∷ xs) ys = let e = total_append xs ys in omega arith

  -- those met lose the quantity that is taken off them
  total_remains : (q : ℕ) (met : List X) → total k (remains k q met) ≡ total k met - q
  total_remains q [] = omega arith
  total_remains q (x ∷ met) =
      let parts = total_append (left_over k q (k.resting x)) (remains k (q - (k.resting x).quantity) met) in
      let same = ap (λ (y : Resting). y.quantity) (laws.kept (less q (k.resting x))) in
      let part : total k (left_over k q (k.resting x)) ≡ (k.resting x).quantity - q = cond_both (ltb q (k.resting x).quantity) _ _ (λ l. total k l ≡ (k.resting x).quantity - q) (λ _. omega arith) (λ t. let le = ltb-false q _ t in omega arith) in
      let e = total_remains (q - (k.resting x).quantity) met in
      omega arith

  -- the fills are of the whole quantity, or of all that is met
  fills_total : (o : Order) (q : ℕ) (met : List X) → quantities (fills_of k o q met) ≡ min q (total k met)
  fills_total o q [] = omega arith
  fills_total o q (x ∷ met) = let e = fills_total o (q - (k.resting x).quantity) met in omega arith

  -- what holds of the prices of those met holds of the fills' prices
  fills_priced : (P : ℕ → Type 0) (o : Order) (q : ℕ) (met : List X) → AllByRecursion (λ x. P (k.resting x).price) met → AllByRecursion (λ f. P f.price) (fills_of k o q met)
  fills_priced P o q [] h = tt
  fills_priced P o q (x ∷ met) h = (h.0, fills_priced P o (q - (k.resting x).quantity) met h.1)

  -- one met ranks before what rests of itself, of those after it and of those beyond
  first_ahead : (q : ℕ) (x : X) (met beyond : List X) → AllByRecursion (Before k x) (met ++ beyond) → AllByRecursion (Before k x) (remains k q (x ∷ met) ++ beyond)
  first_ahead q x met beyond h =
      let parts = every_parts (Before k x) met beyond h in
      every_append (Before k x) (remains k q (x ∷ met)) beyond (remains_keep k (Before k x) (λ y n e. laws.alike x y n ∙ e) q (x ∷ met) (laws.itself x, parts.0)) parts.1

  -- each one met ranks before all that rest after, since all but the last one met are gone
  ahead : (q : ℕ) (met beyond : List X) → InRank k met beyond → Wanted k q met → AllByRecursion (λ x. AllByRecursion (Before k x) (remains k q met ++ beyond)) met
  ahead q [] beyond r w = tt
  ahead q (x ∷ []) beyond r w = (first_ahead q x [] beyond r.0, tt)
  ahead q (x ∷ y ∷ met) beyond r w =
      let next = q - (k.resting x).quantity in
      let gone : left_over k q (k.resting x) ≡ [] = none_over k q (k.resting x) (let m = w.1.0 in omega arith) in
      (first_ahead q x (y ∷ met) beyond r.0, subst (λ (l : List X). AllByRecursion (λ z. AllByRecursion (Before k z) ((l ++ remains k next (y ∷ met)) ++ beyond)) (y ∷ met)) (sym gone) (ahead next (y ∷ met) beyond r.1 w.1))

  -- what a trader may rely on follows from the rules
  pub fair : {Y : Type 0} (here : Kind Y) (o : Order) (arrival room : ℕ) (full : Bool) (opposite opposite' : List X) (own own' : List Y) (fills : List Fill) (r : Booked) → Dealt k here o arrival room full opposite opposite' own own' fills r → Fair k o room full opposite opposite' own fills r
  fair here o arrival room full opposite opposite' own own' fills r d =
      let m = d.matched in
      let q = o.quantity in
      let left = remains k q m.met in
      let filled = d.filled in
      let dropped = d.dropped in
      let over = m.over in
      let before = total_shuffled opposite (m.met ++ m.beyond) m.all in
      let after = total_shuffled (left ++ m.beyond) opposite' m.rest in
      let one = total_append m.met m.beyond in
      let two = total_append left m.beyond in
      let three = total_remains q m.met in
      let Ahead : X → Type 0 = λ x. AllByRecursion (Before k x) opposite' in
      let first : AllByRecursion Ahead m.met = All-weaker (λ x. AllByRecursion (Before k x) (left ++ m.beyond)) Ahead (λ x h. every_shuffled (Before k x) (left ++ m.beyond) opposite' m.rest h) m.met (ahead q m.met m.beyond m.ranked m.wanted) in
      let Through : ℕ → Type 0 = λ p. AllByRecursion (λ y. k.meets (k.resting y).price p ≡ true) opposite' in
      let priced : AllByRecursion (λ x. Through (k.resting x).price) m.met = All-weaker Ahead (λ x. Through (k.resting x).price) (λ x h. All-weaker (Before k x) (λ y. k.meets (k.resting y).price (k.resting x).price ≡ true) (laws.no_worse x) opposite' h) m.met first in
      record {
        conserved = record { parts = omega arith; tallied = ap quantities m.lines ∙ fills_total o q m.met ∙ omega arith; moved = omega arith };
        accepted = subst (AllByRecursion (λ f. k.meets o.price f.price ≡ true)) (sym m.lines) (fills_priced (λ p. k.meets o.price p ≡ true) o q m.met m.crosses);
        no_trade_through = subst (AllByRecursion (λ f. Through f.price)) (sym m.lines) (fills_priced Through o q m.met priced);
        priority = λ x y hx no hy. ⊎_elim
            (λ i. absurd (both_ways (k.before x y) no (all-has (Before k x) opposite' y (all-has Ahead m.met x first i) hy)))
            (λ i. has_shuffled (left ++ m.beyond) opposite' x m.rest (has_append_right left m.beyond x i))
            (has_either m.met m.beyond x (has_shuffled opposite (m.met ++ m.beyond) x m.all hx));
        dropped_when = drops_when d.left q r.filled r.rested r.dropped (length own) room full (any_crosses k o.price opposite') filled d.rest.quantity dropped d.longest;
      }
