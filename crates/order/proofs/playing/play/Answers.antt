use Rattle.std.proofs.Common.{reverse, vec_items, refl, subst, rules}
use Rattle.lines.specs.Pages.{page}
use Rattle.session.specs.Layout.{plan}
use Rattle.session.specs.World.{World, world}
use Rattle.order.specs.Law.{Law}
use Rattle.order.specs.Run.{Run}
use Rattle.order.proofs.Chains.{opened_alike}
use Rattle.order.proofs.Laws.{conservation, equal_tapes, settlement}
use Rattle.order.proofs.Quick.{responses}
use Rattle.order.proofs.Witness.{some_settles}
use Rattle.order.proofs.playing.play.Goals as goal

law : Law
law = record { conservation = conservation; responses = responses; equal_tapes = equal_tapes; settlement = settlement }

pub returns-in_err-events : goal.returns-in_err-events
returns-in_err-events g c =
    let same = c.in_err-events.ensures in
    let parts = opened_alike (plan c.args.layout) _ _ same.performed.0 in
    let desks = same.performed.1 in
    record {
      played = search rules;
      fresh = λ f r m t. record { plan = plan c.args.layout; laid = c.open-session.ensures.laid; opening = refl; tape = t; forward = f; reverse = r; clock = m };
      law = law;
      settles = some_settles;
      points = same.points;
      tape = same.tape;
      fills = same.fills;
      venue = same.venue;
    }

pub returns : goal.returns
returns g c =
    let played = c.in_ok-events.ensures in
    let last = c.perform.new in
    let end = world last.session.state (g.F.Network.meaning last.venue.forward.now) (g.R.Network.meaning last.venue.reverse.now) (g.C.StopClock.meaning last.venue.clock.now) (page last.points) (page last.tape) in
    let events = reverse (vec_items c.in_ok-events.events) in
    record {
      played = record {
        made = played.performed.made;
        run = subst (λ (w : World). Run w events end) (c.open-session.ensures.world _ _ _ _ _) played.performed.run;
        booked = played.performed.booked;
      };
      fresh = λ f r m t. record { plan = plan c.args.layout; laid = c.open-session.ensures.laid; opening = refl; tape = t; forward = f; reverse = r; clock = m };
      law = law;
      settles = some_settles;
      points = played.points;
      tape = played.tape;
      fills = played.fills;
      venue = played.venue;
    }
