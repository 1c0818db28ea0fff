-- One more fill: what an order has met so far, and then the first of what is left of the side.
use Rattle.std.proofs.Common.{◌≡◌, ℕ, ◌+◌, ◌-◌, ◌<◌, ◌≤◌, min, List, [], ◌∷◌, ◌++◌, sym, refl, ap, ◌∙◌, subst, append_assoc, append-nil, arith}
use Rattle.std.specs.List.Sorted.{IsPermutation}
use Rattle.std.specs.List.{AllByRecursion}
use Rattle.std.proofs.lemmas.List.Sorted.{IsPermutation-refl, IsPermutation-trans}
use Rattle.std.proofs.lemmas.Bool.{cond-false, le-ltb}
use Rattle.std.proofs.Permutation.{every_append, every_shuffled}
use Rattle.book.specs.declared.order.Order.{Order}
use Rattle.book.specs.declared.order.Resting.{Resting}
use Rattle.book.specs.declared.fill.Fill.{Fill}
use Rattle.book.specs.Fill.{fill_of}
use Rattle.book.specs.Quote.{Kind}
use Rattle.book.specs.Side.{Before, Crosses, Meets, left_over, total}
use Rattle.book.specs.Matching.{InRank, Matched, Wanted, fills_of, remains}
use Rattle.book.proofs.Members.{every_parts, shuffled_after}

module _ {X : Type 0} (k : Kind X) where
  -- the quantity of one more
  total_push : (met : List X) (x : X) → total k (met ++ x ∷ []) ≡ total k met + (k.resting x).quantity
  total_push [] x = omega arith
  total_push (y ∷ met) x = let e = total_push met x in omega arith

  -- one more is one more line, of what those before it leave
  fills_push : (o : Order) (q : ℕ) (met : List X) (x : X) → fills_of k o q (met ++ x ∷ []) ≡ fills_of k o q met ++ fill_of o (q - total k met) (k.resting x) ∷ []
  fills_push o q [] x = let e : q ≡ q - 0 = omega arith in ap (λ (n : ℕ). fill_of o n (k.resting x) ∷ []) e
  fills_push o q (y ∷ met) x =
      let e : q - (k.resting y).quantity - total k met ≡ q - ((k.resting y).quantity + total k met) = omega arith in
      ap (λ (l : List Fill). fill_of o q (k.resting y) ∷ l) (fills_push o (q - (k.resting y).quantity) met x ∙ ap (λ (n : ℕ). fills_of k o (q - (k.resting y).quantity) met ++ fill_of o n (k.resting x) ∷ []) e)

  -- whoever is met whole is gone
  pub none_over : (q : ℕ) (x : Resting) → x.quantity ≤ q → left_over k q x ≡ []
  none_over q x h = cond-false _ _ _ (le-ltb q x.quantity h)

  -- and so are all, while quantity is left
  remains_none : (q : ℕ) (met : List X) → total k met ≤ q → remains k q met ≡ []
  remains_none q [] h = refl
  remains_none q (y ∷ met) h = ap (λ (l : List X). l ++ remains k (q - (k.resting y).quantity) met) (none_over q (k.resting y) (omega arith)) ∙ remains_none (q - (k.resting y).quantity) met (omega arith)

  -- so that only the last one met can leave some of itself
  remains_push : (q : ℕ) (met : List X) (x : X) → total k met ≤ q → remains k q (met ++ x ∷ []) ≡ left_over k (q - total k met) (k.resting x)
  remains_push q [] x h = let e : q ≡ q - 0 = omega arith in append-nil (left_over k q (k.resting x)) ∙ ap (λ (n : ℕ). left_over k n (k.resting x)) e
  remains_push q (y ∷ met) x h =
      let e : q - (k.resting y).quantity - total k met ≡ q - ((k.resting y).quantity + total k met) = omega arith in
      ap (λ (l : List X). l ++ remains k (q - (k.resting y).quantity) (met ++ x ∷ [])) (none_over q (k.resting y) (omega arith)) ∙ remains_push (q - (k.resting y).quantity) met x (omega arith) ∙ ap (λ (n : ℕ). left_over k n (k.resting x)) e

  -- one more is wanted where those before it leave some quantity
  wanted_push : (q : ℕ) (met : List X) (x : X) → total k met < q → Wanted k q met → Wanted k q (met ++ x ∷ [])
  wanted_push q [] x h w = (h, tt)
  wanted_push q (y ∷ met) x h w = (w.0, wanted_push (q - (k.resting y).quantity) met x (omega arith) w.1)

  -- the first of those beyond is the next in rank
  rank_push : (met held others : List X) (x : X) → IsPermutation held (x ∷ others) → AllByRecursion (Before k x) others → InRank k met held → InRank k (met ++ x ∷ []) others
  rank_push [] held others x s f h = (f, tt)
  rank_push (y ∷ met) held others x s f h =
      let P = Before k y in
      let parts = every_parts P met held h.0 in
      (subst (AllByRecursion P) (sym (append_assoc met (x ∷ []) others)) (every_append P met (x ∷ others) parts.0 (every_shuffled P held (x ∷ others) s parts.1)), rank_push met held others x s f h.1)

  -- the loop begins with none met
  pub none_met : (o : Order) (held : List X) → Matched k o held [] held o.quantity
  none_met o held = record {
    met = [];
    beyond = held;
    all = IsPermutation-refl held;
    ranked = tt;
    crosses = tt;
    wanted = tt;
    lines = refl;
    rest = IsPermutation-refl held;
    over = omega arith;
  }

  -- each turn of the loop meets one more
  pub one_more : (o : Order) (before held after : List X) (lines : List Fill) (left : ℕ) (f : Fill) → 0 < left → Matched k o before lines held left → Meets k o left held f after → Matched k o before (lines ++ f ∷ []) after (left - f.quantity)
  one_more o before held after lines left f some m n =
      let q = o.quantity in
      let x = n.best in
      let over = m.over in
      let fits : total k m.met < q = omega arith in
      let none = remains_none q m.met (omega arith) in
      let here : IsPermutation m.beyond held = subst (λ (l : List X). IsPermutation (l ++ m.beyond) held) none m.rest in
      let found : IsPermutation m.beyond (x ∷ n.others) = IsPermutation-trans m.beyond held (x ∷ n.others) here n.all in
      let taken : f.quantity ≡ min left (k.resting x).quantity = ap (λ (y : Fill). y.quantity) n.line in
      let more = total_push m.met x in
      record {
        met = m.met ++ x ∷ [];
        beyond = n.others;
        all = subst (IsPermutation before) (sym (append_assoc m.met (x ∷ []) n.others)) (IsPermutation-trans before (m.met ++ m.beyond) (m.met ++ x ∷ n.others) m.all (shuffled_after m.met m.beyond (x ∷ n.others) found));
        ranked = rank_push m.met m.beyond n.others x found n.first m.ranked;
        crosses = every_append (Crosses k o.price) m.met (x ∷ []) m.crosses (n.crosses, tt);
        wanted = wanted_push q m.met x fits m.wanted;
        lines = ap (λ (l : List Fill). l ++ f ∷ []) m.lines ∙ ap (λ (y : Fill). fills_of k o q m.met ++ y ∷ []) (n.line ∙ ap (λ (a : ℕ). fill_of o a (k.resting x)) over) ∙ sym (fills_push o q m.met x);
        rest = subst (λ (l : List X). IsPermutation (l ++ n.others) after) (sym (remains_push q m.met x (omega arith) ∙ ap (λ (a : ℕ). left_over k a (k.resting x)) (sym over))) n.rest;
        over = omega arith;
      }
