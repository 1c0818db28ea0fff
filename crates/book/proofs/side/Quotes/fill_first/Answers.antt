use Rattle.std.proofs.Common.{◌++◌, sym, ap, ◌∙◌, subst}
use Rattle.std.specs.List.Sorted.{IsPermutation}
use Rattle.std.specs.List.{AllByRecursion}
use Rattle.book.specs.declared.order.Resting.{Resting}
use Rattle.book.specs.Fill.{fill_of}
use Rattle.book.specs.Side.{Before, left_over}
use Rattle.book.proofs.First.{ranked_first, first_crosses}
use Rattle.book.proofs.side.Quotes.fill_first.Goals as goal

pub returns : goal.returns
returns g c =
    let r = g.S.Ranked in
    let k = g.S.Quote.kind in
    let laws = g.met.S.Quote in
    let x = c.in_ok-first.first in
    let took = c.in_ok-first.ensures in
    let others = c.take.new.self.items in
    let left = c.args.left in
    let is = c.order-resting.ensures in
    let back = c.put_back.ensures in
    let xs = c.self.inside.heap.items in
    let first : AllByRecursion (Before k x) others = ranked_first r.key r.upto k laws.ranks x others (took.taken.1 c.self.invariant.1) in
    let crossed = rw (← c.self.view_is) at c.crossed.ensures in
    rw (← c.self.view_is) (record {
      fill = record {
        best = x;
        others = others;
        all = took.taken.2;
        first = first;
        crosses = first_crosses k laws.lawful _ x xs others took.taken.2 first (sym crossed ∙ c.if-not-crossed.false);
        line = c.fill_of.ensures ∙ ap (fill_of c.args.order.now left) is;
        rest = subst (λ (z : Resting). IsPermutation (left_over k left z ++ others) c.put_back.new.self.items) is back.items;
      };
      kept = (λ h. back.kept.0 (took.heaped h), back.kept.1 ∙ took.taken.4, back.kept.2 ∙ took.taken.5);
    })
