use Rattle.std.proofs.Common.{vec_items, ◌∙◌, rules}
use Rattle.order.specs.declared.call.Call.TheVariants as call
use Rattle.order.proofs.Chains.{booked_more, calls_more, run_more, same_more}
use Rattle.order.proofs.performing.perform.Goals as goal

pub loop-call-preserved : goal.loop-call-preserved
loop-call-preserved g c =
    let inv = c.loop-call.invariant in
    let old = vec_items c.loop-call.events in
    let new = vec_items c.push_reserved.new.self in
    let e = c.act.result in
    let pushed = c.push_reserved.ensures.items in
    let acted = c.act.ensures in (
      search rules,
      calls_more c.args.calls.now c.loop-call.call-index (call.Point 0 0) old new e c.loop-call-test.true pushed inv.1 acted.made,
      run_more _ _ _ old new e pushed inv.2 acted.step,
      booked_more _ _ _ old new e pushed inv.3 acted.booked,
      acted.points ∙ inv.4,
      acted.tape ∙ inv.5,
      acted.fills ∙ inv.6,
      same_more inv.7 acted.venue,
    )
