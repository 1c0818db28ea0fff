-- The rules leave no choice: two outcomes of one order are one.
use Rattle.std.proofs.Common.{◌≡◌, ℕ, ◌-◌, ◌<◌, ◌≤◌, Bool, true, false, cond, eqb, ltb, List, [], ◌∷◌, ◌++◌, length, get_or, sym, refl, ap, ◌∙◌, subst, ⊎_elim, arith}
use Rattle.std.specs.List.Sorted.{IsPermutation}
use Rattle.std.specs.List.{AllByRecursion, ContainsAt}
use Rattle.std.proofs.ByRecursion.{all-has, all_has_itself, has_append_right, has_shuffled}
use Rattle.std.proofs.lemmas.List.Sorted.{sum_by-IsPermutation}
use Rattle.std.proofs.lemmas.List.Sums.{get_or-le-sum_by, sum_by-cons}
use Rattle.std.proofs.lemmas.Bool.{both_ways, cases_Bool, lt-leb}
use Rattle.std.proofs.lemmas.Bool.Decides.{nat_tests, when_false, when_true}
use Rattle.lines.specs.Pages.{Page, Written, full}
use Rattle.lines.proofs.Writing.{one_page, within}
use Rattle.book.specs.declared.order.Side.{Side}
use Rattle.book.specs.declared.order.Side.TheVariants as side
use Rattle.book.specs.declared.order.Order.{Order}
use Rattle.book.specs.declared.order.Booked.{Booked}
use Rattle.book.specs.declared.fill.Fill.{Fill}
use Rattle.book.specs.declared.book.Book.{Book}
use Rattle.book.specs.Order.{at_rest}
use Rattle.book.specs.Quote.{Kind, Lawful, resting_buys, resting_sells}
use Rattle.book.specs.Side.{Before, Crosses, Misses, any_crosses, total}
use Rattle.book.specs.Matching.{Dealt, InRank, Rested, Wanted, fills_of, remains, rests}
use Rattle.book.specs.Book.{Numbered, room}
use Rattle.book.specs.TakeOrder.{Alike, BySide, Same, Settled, Taken, most}
use Rattle.book.proofs.First.{each_misses, none_crosses}
use Rattle.book.proofs.Kept.{numbered, numbered_one}
use Rattle.book.proofs.Laws.{lawful_buys, lawful_sells}
use Rattle.book.proofs.Members.{every_from_has, fewer_after, has_cons, same_refl, same_shuffled}

-- an order has its own number
one_of_itself : (n : ℕ) → ◌≡◌ {A = ℕ} (cond (eqb n n) 1 0) 1
one_of_itself n = grind (arith, nat_tests)

-- at most one order has a number, given or not
at_most_one : (n given : ℕ) → cond (ltb n given) 1 0 ≤ 1
at_most_one n given = grind (arith, nat_tests)

-- ---- the orders met are the same

module _ {X : Type 0} (k : Kind X) (laws : Lawful k) where
  -- the first ranks before the second, and not the other way round
  abbrev Strictly : X → X → Type 0
  Strictly x y = (k.before x y ≡ true) × (k.before y x ≡ false)

  -- each one met ranks so before those after it and all beyond
  abbrev Strict : (met beyond : List X) → Type 0
  Strict [] beyond = Unit {0}
  Strict (x ∷ met) beyond = AllByRecursion (Strictly x) (met ++ beyond) × Strict met beyond

  -- a member counts
  count_has : (n : ℕ) (xs : List X) (y : X) → ContainsAt xs y → (k.resting y).arrival ≡ n → 1 ≤ numbered k n xs
  count_has n xs y m e =
      let le = get_or-le-sum_by (numbered_one k n) xs m.0 y m.1 in
      let is : numbered_one k n (get_or xs m.0 y) ≡ 1 = ap (numbered_one k n) (m.2 y) ∙ ap (λ (a : ℕ). cond (eqb a n) 1 0) e ∙ one_of_itself n in
      omega arith

  -- no two orders have one number, so that none ranks like another
  strict : (met beyond : List X) → ((n : ℕ) → numbered k n (met ++ beyond) ≤ 1) → InRank k met beyond → Strict met beyond
  strict [] beyond once r = tt
  strict (x ∷ met) beyond once r = (
    every_from_has (Strictly x) (met ++ beyond) (λ y m.
        let up = all-has (Before k x) (met ++ beyond) y r.0 m in (
          up,
          ⊎_elim
              (λ e. absurd (
              let n = (k.resting x).arrival in
              let a = once n in
              let b = sum_by-cons (numbered_one k n) x (met ++ beyond) in
              let c = count_has n (met ++ beyond) y m (sym (laws.one_rank x y up e)) in
              let d = one_of_itself n in
              omega arith))
              (λ e. e) (cases_Bool (k.before y x)),
        )),
    strict met beyond (λ n. let a = once n in let b = sum_by-cons (numbered_one k n) x (met ++ beyond) in omega arith) r.1,
  )

  -- whoever ranks before all of a list is not in it
  not_itself : (x : X) (xs : List X) → AllByRecursion (Strictly x) xs → (z : X) → ContainsAt xs z → x ≡ z → ⊥
  not_itself x xs h z m e = let s = subst (Strictly x) (sym e) (all-has (Strictly x) xs z h m) in both_ways (k.before x x) s.1 s.0

  -- past a first order that two sides have in common, they still have the same members
  fewer_tails : (x y : X) (xs ys : List X) → x ≡ y → AllByRecursion (Strictly x) xs → ((z : X) → ContainsAt (x ∷ xs) z → ContainsAt (y ∷ ys) z) → (z : X) → ContainsAt xs z → ContainsAt ys z
  fewer_tails x y xs ys e s f z m = ⊎_elim (λ i. absurd (not_itself x xs s z m (e ∙ i))) (λ i. i) (has_cons y ys z (f z (has_append_right (x ∷ []) xs z m)))

  -- two runs of one side that each stop only where the other does not go on are one
  module _ (C : X → Type 0) where
    same_met : (q : ℕ) (met met' beyond beyond' : List X) → Strict met beyond → Strict met' beyond' → Same (met ++ beyond) (met' ++ beyond') → Wanted k q met → Wanted k q met' → AllByRecursion C met → AllByRecursion C met' → (0 < q - total k met → length met < length met' → (z : X) → ContainsAt beyond z → C z → ⊥) → (0 < q - total k met' → length met' < length met → (z : X) → ContainsAt beyond' z → C z → ⊥) → (met ≡ met') × Same beyond beyond'
    same_met q [] [] beyond beyond' s s' same w w' c c' stop stop' = (refl, same)
    same_met q [] (y ∷ met') beyond beyond' s s' same w w' c c' stop stop' = absurd (stop (let a = w'.0 in omega arith) (omega arith) y (same.1 y (all_has_itself (y ∷ met' ++ beyond')).0) c'.0)
    same_met q (x ∷ met) [] beyond beyond' s s' same w w' c c' stop stop' = absurd (stop' (let a = w.0 in omega arith) (omega arith) x (same.0 x (all_has_itself (x ∷ met ++ beyond)).0) c.0)
    same_met q (x ∷ met) (y ∷ met') beyond beyond' s s' same w w' c c' stop stop' =
        let e : x ≡ y = ⊎_elim (λ e. sym e)
        (λ i. ⊎_elim (λ e. e)
        (λ j. absurd (both_ways (k.before x y) (all-has (Strictly y) (met' ++ beyond') x s'.0 i).1 (all-has (Strictly x) (met ++ beyond) y s.0 j).0))
        (has_cons x (met ++ beyond) y (same.1 y (all_has_itself (y ∷ met' ++ beyond')).0)))
        (has_cons y (met' ++ beyond') x (same.0 x (all_has_itself (x ∷ met ++ beyond)).0)) in
        let alike : (k.resting y).quantity ≡ (k.resting x).quantity = ap (λ (z : X). (k.resting z).quantity) (sym e) in
        let tails : Same (met ++ beyond) (met' ++ beyond') = (fewer_tails x y (met ++ beyond) (met' ++ beyond') e s.0 same.0, fewer_tails y x (met' ++ beyond') (met ++ beyond) (sym e) s'.0 same.1) in
        let rest = same_met (q - (k.resting x).quantity) met met' beyond beyond' s.1 s'.1 tails w.1 (subst (λ (n : ℕ). Wanted k (q - n) met') alike w'.1) c.1 c'.1
        (λ a l z m h. stop (omega arith) (omega arith) z m h)
        (λ a l z m h. stop' (omega arith) (omega arith) z m h) in
        (ap (λ (l : List X). x ∷ l) rest.0 ∙ ap (λ (z : X). z ∷ met') e, rest.1)

-- ---- whether an order crosses goes by the members

module _ {X : Type 0} (k : Kind X) (p : ℕ) where
  -- where no order crosses, none of fewer does
  fewer_miss : (xs ys : List X) → ((z : X) → ContainsAt xs z → ContainsAt ys z) → any_crosses k p ys ≡ false → any_crosses k p xs ≡ false
  fewer_miss xs ys f e = none_crosses k p xs (every_from_has (Misses k p) xs (λ z m. all-has (Misses k p) ys z (each_misses k p ys e) (f z m)))

  -- so that the same orders cross the same prices
  crosses_same : (xs ys : List X) → Same xs ys → any_crosses k p xs ≡ any_crosses k p ys
  crosses_same xs ys s = ⊎_elim
      (λ e. ⊎_elim (λ f. e ∙ sym f) (λ f. absurd (both_ways (any_crosses k p xs) (fewer_miss xs ys s.0 f) e)) (cases_Bool (any_crosses k p ys)))
      (λ e. e ∙ sym (fewer_miss ys xs s.1 e)) (cases_Bool (any_crosses k p xs))

-- ---- one outcome

-- there are as many fills as orders met
length_fills : {X : Type 0} (k : Kind X) (o : Order) (q : ℕ) (met : List X) → length (fills_of k o q met) ≡ length met
length_fills k o q [] = refl
length_fills k o q (x ∷ met) = let e = length_fills k o (q - (k.resting x).quantity) met in omega arith

-- the same quantity rests, and the side is then the same
same_rested : {Y : Type 0} (k : Kind Y) (o : Order) (arrival left left' : ℕ) (stays stays' : Bool) (own own' own'' : List Y) (n n' : ℕ) → left ≡ left' → stays ≡ stays' → Rested k o arrival left stays own own' n → Rested k o arrival left' stays' own own'' n' → (n ≡ n') × Same own' own''
same_rested {Y} k o arrival left left' stays stays' own own' own'' n n' e f a b =
    let b'' : Rested k o arrival left stays own own'' n' = subst (λ (l : ℕ). Rested k o arrival l stays own own'' n') (sym e) (subst (λ (t : Bool). Rested k o arrival left' t own own'' n') (sym f) b) in (
      a.quantity ∙ sym b''.quantity,
      ⊎_elim
          (λ t. same_shuffled (k.quoted (at_rest o left arrival) ∷ own) own' own'' (when_true _ _ t a.side) (when_true _ _ t b''.side))
          (λ t. same_refl own' own'' (when_false _ _ t a.side ∙ sym (when_false _ _ t b''.side))) (cases_Bool stays),
    )

module _ {X Y : Type 0} (there : Kind X) (here : Kind Y) (laws : Lawful there) (o : Order) (given : ℕ) (opposite : List X) (own : List Y) (p : Page Fill) (once-each : Numbered there given opposite) where
  -- one outcome of the order
  abbrev Deal : Page Fill → List X → List Y → List Fill → Booked → Type 0
  Deal p' opposite' own' fills r = Dealt there here o given room (full p') opposite opposite' own own' fills r

  -- a run stops only where no other would go on
  halts : (p' p'' : Page Fill) (opposite' : List X) (own' : List Y) (fills fills' : List Fill) (r : Booked) (met' : List X) → Written p fills p' → Written p fills' p'' → length fills' ≡ length met' → (d : Deal p' opposite' own' fills r) → 0 < o.quantity - total there d.matched.met → length d.matched.met < length met' → (z : X) → ContainsAt d.matched.beyond z → Crosses there o.price z → ⊥
  halts p' p'' opposite' own' fills fills' r met' w w' long d some fewer z m c =
      let n = d.matched in
      let over = n.over in
      let count = w.count in
      let count' = w'.count in
      let size = w.long in
      let written = ap length n.lines ∙ length_fills there o o.quantity n.met in
      let last = within p p'' fills' w' (omega arith) in
      let open' : full p' ≡ false = lt-leb (length p'.lines) p'.used (omega arith) in
      let none = each_misses there o.price opposite' (d.longest (omega arith) open') in
      let rests-on = has_shuffled (remains there o.quantity n.met ++ n.beyond) opposite' z n.rest (has_append_right (remains there o.quantity n.met) n.beyond z m) in
      both_ways (there.meets o.price (there.resting z).price) (all-has (Misses there o.price) opposite' z none rests-on) c

  -- the fills, both sides, the fill list and the answer are the same
  one_deal : (p' p'' : Page Fill) (opposite' opposite'' : List X) (own' own'' : List Y) (fills fills' : List Fill) (r s : Booked) → Written p fills p' → Written p fills' p'' → Deal p' opposite' own' fills r → Deal p'' opposite'' own'' fills' s → Same opposite' opposite'' × Same own' own'' × (p' ≡ p'') × (r ≡ s)
  one_deal p' p'' opposite' opposite'' own' own'' fills fills' r s w w' d d' =
      let m = d.matched in
      let n = d'.matched in
      let q = o.quantity in
      let once : (met beyond : List X) → IsPermutation opposite (met ++ beyond) → (i : ℕ) → numbered there i (met ++ beyond) ≤ 1 = λ met beyond t i. let a = once-each i in let b = at_most_one i given in let c = sum_by-IsPermutation (numbered_one there i) opposite (met ++ beyond) t in omega arith in
      let size = ap length m.lines ∙ length_fills there o q m.met in
      let size' = ap length n.lines ∙ length_fills there o q n.met in
      let same = same_met there laws (Crosses there o.price) q m.met n.met m.beyond n.beyond
      (strict there laws m.met m.beyond (once m.met m.beyond m.all) m.ranked)
      (strict there laws n.met n.beyond (once n.met n.beyond n.all) n.ranked)
      (same_shuffled opposite (m.met ++ m.beyond) (n.met ++ n.beyond) m.all n.all)
      m.wanted n.wanted m.crosses n.crosses
      (halts p' p'' opposite' own' fills fills' r n.met w w' size' d)
      (halts p'' p' opposite'' own'' fills' fills s m.met w' w size d') in
      let met : m.met ≡ n.met = same.0 in
      let lines : fills ≡ fills' = m.lines ∙ ap (fills_of there o q) met ∙ sym n.lines in
      let left : d.left ≡ d'.left = m.over ∙ ap (λ (l : List X). q - total there l) met ∙ sym n.over in
      let rest' : IsPermutation (remains there q m.met ++ n.beyond) opposite'' = subst (λ (l : List X). IsPermutation (remains there q l ++ n.beyond) opposite'') (sym met) n.rest in
      let sides : Same opposite' opposite'' = (fewer_after (remains there q m.met) m.beyond n.beyond opposite' opposite'' same.1 m.rest rest', fewer_after (remains there q m.met) n.beyond m.beyond opposite'' opposite' (same.1.1, same.1.0) rest' m.rest) in
      let stays : rests d.left (any_crosses there o.price opposite') (length own) room ≡ rests d'.left (any_crosses there o.price opposite'') (length own) room = ap (λ (l : ℕ). rests l (any_crosses there o.price opposite') (length own) room) left ∙ ap (λ (t : Bool). rests d'.left t (length own) room) (crosses_same there o.price opposite' opposite'' sides) in
      let kept = same_rested here o given d.left d'.left _ _ own own' own'' r.rested s.rested left stays d.rest d'.rest in
      let a = d.filled in
      let a' = d'.filled in
      let b = d.dropped in
      let b' = d'.dropped in
      let filled : r.filled ≡ s.filled = omega arith in
      let rested = kept.0 in
      let dropped : r.dropped ≡ s.dropped = omega arith in
      let counted : r.fills ≡ s.fills = d.counted ∙ ap length lines ∙ sym d'.counted in
      (sides, kept.1, one_page p p' p'' fills fills' lines w w', λ i. record { filled = filled i; rested = rested i; dropped = dropped i; fills = counted i })

-- of two outcomes of an accepted order each part is the same
by_side : (s : Side) (b b' b'' : Book) (o : Order) (p p' p'' : Page Fill) (fills fills' : List Fill) (r r'' : Booked) → b'.taken ≡ b''.taken → Written p fills p' → Written p fills' p'' → BySide s b o (full p') fills b' r → BySide s b o (full p'') fills' b'' r'' → Alike b' p' r b'' p'' r''
by_side side.Buy b b' b'' o p p' p'' fills fills' r r'' n w w' d d' =
    let h = one_deal resting_sells resting_buys lawful_sells o b.taken b.sells.items b.buys.items p b.sells_numbered p' p'' b'.sells.items b''.sells.items b'.buys.items b''.buys.items fills fills' r r'' w w' d.dealt d'.dealt in
    record { buys = h.1; sells = h.0; taken = n; list = h.2; booked = h.3 }
by_side side.Sell b b' b'' o p p' p'' fills fills' r r'' n w w' d d' =
    let h = one_deal resting_buys resting_sells lawful_buys o b.taken b.buys.items b.sells.items p b.buys_numbered p' p'' b'.buys.items b''.buys.items b'.sells.items b''.sells.items fills fills' r r'' w w' d.dealt d'.dealt in
    record { buys = h.0; sells = h.1; taken = n; list = h.2; booked = h.3 }

-- what is taken by the rules is settled: they allow no other outcome
pub settled : (b : Book) (o : Order) (p : Page Fill) (b' : Book) (p' : Page Fill) (r : Booked) → Taken b o p b' p' r → Settled b o p b' p' r
settled b o p b' p' r t = record {
  taken = t;
  only = λ b'' p'' r'' u. ⊎_elim
      (λ e.
      let x = when_true _ _ e t.took in
      let y = when_true _ _ e u.took in
      by_side o.side b b' b'' o p p' p'' t.fills u.fills r r'' (x.counted ∙ sym y.counted) t.written u.written x.served y.served)
      (λ e.
      let x = when_false _ _ e t.took in
      let y = when_false _ _ e u.took in
      let same : b' ≡ b'' = x.same ∙ sym y.same in
      record {
        buys = same_refl _ _ (ap (λ (z : Book). z.buys.items) same);
        sells = same_refl _ _ (ap (λ (z : Book). z.sells.items) same);
        taken = ap (λ (z : Book). z.taken) same;
        list = one_page p p' p'' t.fills u.fills (x.none ∙ sym y.none) t.written u.written;
        booked = x.dropped ∙ sym y.dropped;
      })
      (cases_Bool (ltb b.taken most));
}
