use Rattle.std.proofs.Common.{◌≡◌, true, [], ◌∷◌, ◌++◌, is_ok, sym, refl, ◌∙◌}
use Rattle.lines.specs.Pages.{page}
use Rattle.lines.proofs.Writing.{unwritten, and_then, was_ok}
use Rattle.book.proofs.Meeting.{none_met, one_more}
use Rattle.book.proofs.side.Quotes.meet.Goals as goal

pub loop-left-init : goal.loop-left-init
loop-left-init g c =
    (([], unwritten (page c.args.fills.now), none_met g.S.Quote.kind c.args.order.now c.args.self.now.items), (λ h. h, refl, refl), refl)

pub loop-left-preserved : goal.loop-left-preserved
loop-left-preserved g c =
    let l = c.loop-left in
    let w = c.write.ensures in
    let f = c.in-Some.fill in
    let before = l.invariant.1 in
    let kept = c.in-Some.ensures.kept in
    let lines = l.invariant.0.0 in
    let ok : is_ok c.write.result ≡ true = w.room ∙ sym c.if-has_room.ensures in
    let wrote = was_ok _ c.write.result w.line ok in
    ((lines ++ f ∷ [], and_then (page c.args.fills.now) (page l.fills) (page c.write.new.self) lines (f ∷ []) l.invariant.0.1 wrote, one_more g.S.Quote.kind c.args.order.now c.args.self.now.items l.self.items c.fill_first.new.self.items lines l.left f c.loop-left-test.true l.invariant.0.2 c.in-Some.ensures.fill), (λ h. kept.0 (before.0 h), kept.1 ∙ before.1, kept.2 ∙ before.2), w.same ∙ l.invariant.2)
