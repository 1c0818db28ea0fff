use Rattle.std.proofs.Common.{rules}
use Rattle.session.specs.World.{world}
use Rattle.session.proofs.Checking.{offer_refused, offer_counted}
use Rattle.session.proofs.session.Session.submit.Goals as goal

pub returns-in_err-check : goal.returns-in_err-check
returns-in_err-check g c = λ f p t.
    let w = world c.args.self.now.state f (g.R.Network.meaning c.args.reverse.now) (g.C.StopClock.meaning c.args.clock.now) p t in
    let all = offer_refused w c.args.at c.args.seat c.args.offer c.in_ok-record.record c.in_ok-turn.field-0 c.in_err-check.field-0.0 c.in_ok-timely.ensures c.in_ok-record.ensures c.in_ok-turn.ensures c.in_err-check.ensures in
    search rules

pub invariant_of-self : goal.invariant_of-self
invariant_of-self g c =
    let h = offer_counted c.in_ok-record.record c.args.seat c.args.offer (search rules) in
    search rules
