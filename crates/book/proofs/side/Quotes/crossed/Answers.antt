use Rattle.std.proofs.Common.{◌∙◌}
use Rattle.book.proofs.First.{ranked_first, first_decides}
use Rattle.book.proofs.side.Quotes.crossed.Goals as goal

pub returns-in-Some : goal.returns-in-Some
returns-in-Some g c =
    let r = g.S.Ranked in
    let k = g.S.Quote.kind in
    let laws = g.met.S.Quote in
    let xs = c.self.inside.heap.items in
    let seen = c.in-Some.ensures in
    let x = c.in-Some.first.now in
    rw (← c.self.view_is) (c.crosses.ensures ∙ first_decides k laws.lawful c.args.price x xs seen.0 seen.1 (ranked_first r.key r.upto k laws.ranks x xs (seen.2 c.self.invariant.1)))
