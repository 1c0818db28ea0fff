use Rattle.std.proofs.Common.{◌≡◌, ◌-◌, length}
use Rattle.lines.specs.Pages.{page}
use Rattle.book.specs.Matching.{Meeting}
use Rattle.book.specs.Side.{Keeps}
use Rattle.book.proofs.side.Quotes.meet.Given as goal

abbrev pub invariant-loop-left : goal.invariant-loop-left
invariant-loop-left g l =
    Meeting g.S.Quote.kind l.order l.initial.self.items (page l.initial.fills) l.self.items (page l.fills) l.left
    × Keeps g.S.Ranked.key g.S.Ranked.upto l.initial.self l.self
    × (l.fills.lines.ghost_name ≡ l.initial.fills.lines.ghost_name)

abbrev pub decreases-loop-left : goal.decreases-loop-left
decreases-loop-left g l = length l.fills.lines.now - l.fills.used
