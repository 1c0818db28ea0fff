use Rattle.std.proofs.Common.{◌≡◌, sym, ap, ◌∙◌, subst}
use Rattle.std.specs.List.{AllByRecursion}
use Rattle.book.specs.Side.{Before}
use Rattle.heap.proofs.Roots.{root_has}
use Rattle.book.proofs.First.{ranked_first}
use Rattle.book.proofs.side.Quotes.best.Goals as goal

pub returns : goal.returns
returns g c =
    let r = g.S.Ranked in
    let k = g.S.Quote.kind in
    let laws = g.met.S.Quote in
    let xs = c.self.inside.heap.items in
    let seen = c.in_ok-peek.ensures in
    let x = c.in_ok-peek.field-0.now in
    let is : k.quoted c.order.result ≡ x = ap k.quoted c.order.ensures ∙ laws.lawful.whole x in
    let first : AllByRecursion (Before k x) xs = ranked_first r.key r.upto k laws.ranks x xs (seen.2 c.self.invariant.1) in
    rw (← c.self.view_is) (root_has xs x (k.quoted c.order.result) seen.0 seen.1 is, subst (λ y. AllByRecursion (Before k y) xs) (sym is) first)
