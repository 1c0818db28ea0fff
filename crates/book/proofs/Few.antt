-- Each side keeps its room, and passes it never: the other side gets no order, and the order's own side gets one only where
-- there is room.
use Rattle.std.proofs.Common.{◌≡◌, ℕ, ◌-◌, ◌≤◌, Bool, true, not, ltb, List, [], ◌∷◌, ◌++◌, length, ap, ◌∙◌, ⊎_elim, arith, length-append}
use Rattle.std.proofs.lemmas.List.Sorted.{length_permutation}
use Rattle.std.proofs.lemmas.Bool.{and_parts, cases_Bool, cond_both}
use Rattle.std.proofs.lemmas.Bool.Decides.{nat_tests, when_false, when_true}
use Rattle.heap.specs.Contents.{Contents}
use Rattle.book.specs.declared.order.Order.{Order}
use Rattle.book.specs.declared.order.Booked.{Booked}
use Rattle.book.specs.declared.fill.Fill.{Fill}
use Rattle.book.specs.Order.{at_rest}
use Rattle.book.specs.Quote.{Kind}
use Rattle.book.specs.Side.{any_crosses, left_over}
use Rattle.book.specs.Matching.{Dealt, remains, rests}
use Rattle.book.specs.Book.{Few, Roomy, room}

-- a side that may hold as many, and has memory for as many, has room as before
pub still_roomy : {X : Type 0} (h h' : Contents X) → h'.bound ≡ h.bound → h'.reserved ≡ h.reserved → Roomy h → Roomy h'
still_roomy h h' bound reserved had = (bound ∙ had.0, omega arith)

-- of those met no more rest than were met
remain_few : {X : Type 0} (k : Kind X) (q : ℕ) (met : List X) → length (remains k q met) ≤ length met
remain_few k q [] = omega arith
remain_few k q (x ∷ met) =
    let rest = remains k (q - (k.resting x).quantity) met in
    let part : length (left_over k q (k.resting x)) ≤ 1 = cond_both (ltb q (k.resting x).quantity) _ _ (λ l. length l ≤ 1) (λ _. omega arith) (λ _. omega arith) in
    let both = length-append (left_over k q (k.resting x)) rest in
    let e = remain_few k (q - (k.resting x).quantity) met in
    omega arith

module _ {X Y : Type 0} (there : Kind X) (here : Kind Y) (o : Order) (arrival : ℕ) (full : Bool) (opposite opposite' : List X) (own own' : List Y) (fills : List Fill) (r : Booked) (d : Dealt there here o arrival room full opposite opposite' own own' fills r) where
  -- what is met leaves the other side, and what is left of one goes back
  pub few_there : Few opposite → Few opposite'
  few_there h =
      let m = d.matched in
      let before = length_permutation opposite (m.met ++ m.beyond) m.all in
      let after = length_permutation (remains there o.quantity m.met ++ m.beyond) opposite' m.rest in
      let a = length-append m.met m.beyond in
      let b = length-append (remains there o.quantity m.met) m.beyond in
      let e = remain_few there o.quantity m.met in
      omega arith

  -- what is left of the order rests where its side holds fewer than it may
  pub few_here : Few own → Few own'
  few_here h =
      let crossed = any_crosses there o.price opposite' in
      ⊎_elim
      (λ (e : rests d.left crossed (length own) room ≡ true).
      let joined = length_permutation (here.quoted (at_rest o d.left arrival) ∷ own) own' (when_true _ _ e d.rest.side) in
      let below : ltb (length own) room ≡ true = (and_parts (not crossed) _ (and_parts (ltb 0 d.left) _ e).1).1 in
      grind (arith, nat_tests))
      (λ e. let same = ap length (when_false _ _ e d.rest.side) in omega arith)
      (cases_Bool (rests d.left crossed (length own) room))
