use Rattle.std.proofs.Common.{◌<◌, length, get_or, set, vec_items, sym, ap, ◌∙◌, subst, rules}
use Rattle.records.specs.declared.seat.Seat.{Seat}
use Rattle.records.specs.Seat.{blank, collected_with}
use Rattle.session.specs.Collect.{Put}
use Rattle.session.proofs.Balance.{Balanced, in_balance, balanced_pending, balanced_room, balanced_sent, balanced_tallied, balanced_trades, buffer_fits, put_balanced}
use Rattle.session.proofs.session.Session.collect.Goals as goal

pub put-collected-requires : goal.put-collected-requires
put-collected-requires g c = λ due.
    let s = c.args.self.now in
    let seats = vec_items s.state.seats in
    let k = c.args.seat in
    let inside : k < length seats = search rules in
    let more : (get_or seats k blank).collected < (get_or seats k blank).submitted = search rules in
    let fits = buffer_fits seats s.state.buffer k inside more (in_balance s) in
    search rules

pub invariant_of-self : goal.invariant_of-self
invariant_of-self g c =
    let s = c.args.self.now in
    let seats = vec_items s.state.seats in
    let k = c.args.seat in
    let own = get_or seats k blank in
    let message = c.in_ok-message.message in
    let n = c.put-collected.result in
    let m = c.watermark.result in
    let buffer = c.put-collected.new.self in
    let inside : k < length seats = search rules in
    let put : Put own k message n s.state.buffer buffer = search rules in
    let before = in_balance s in
    let new = c.note_collected.ensures ∙ ap (collected_with n m) c.seat_mut.ensures.value in
    let after : Balanced (set seats k c.note_collected.new.self) buffer =
    subst (λ (x : Seat). Balanced (set seats k x) buffer) (sym new) (put_balanced seats s.state.buffer buffer k n m message inside put before) in
    record {
      few = after.few;
      tallied = balanced_tallied _ _ after;
      sent = balanced_sent _ _ after;
      pending = balanced_pending _ _ after;
      trades = balanced_trades _ _ after;
      room = balanced_room _ _ after;
      ranked = c.put-collected.ensures.ranked s.ranked;
      points = s.points;
      counted = s.counted;
    }
