-- The trade at the root of the buffer is the first, which a release takes. No call's proof cites these two any more; they
-- stand for whoever proves something of a buffer.
use Rattle.std.proofs.Common.{◌≡◌, ◌<◌, List, [], ◌∷◌, length, IfSome, MatchOption, Some, None, Option, ap, sym, ◌∙◌, subst, arith}
use Rattle.std.specs.List.Sorted.{IsPermutation}
use Rattle.heap.specs.Heaps.{AtRoot, First}
use Rattle.records.specs.declared.trade.Trade.{Trade}
use Rattle.records.specs.Trade.{TradeUpto}
use Rattle.session.specs.Release.{Head}

-- there is one
pub one_root : (xs : List Trade) (x y : Trade) → 0 < length xs → AtRoot x xs → AtRoot y xs → x ≡ y
one_root [] x y lt e f = absurd (omega arith)
one_root (z ∷ xs) x y lt e f = e ∙ sym f

-- what a take hands out is the first trade
pub taken_head : (xs ys : List Trade) (r : Option Trade) (x : Trade) → 0 < length xs → AtRoot x xs → MatchOption r ((xs ≡ []) × (ys ≡ [])) (λ y. AtRoot y xs × IsPermutation xs (y ∷ ys)) → IfSome r (λ y. First TradeUpto y ys) → Head xs x ys
taken_head xs ys None x lt root taken first = absurd (let n = ap length taken.0 in omega arith)
taken_head xs ys (Some y) x lt root taken first =
    let e = one_root xs y x lt taken.0 root in
    subst (λ (z : Trade). Head xs z ys) e (record { all = taken.1; first = first })
