use Rattle.std.proofs.Common.{set, vec_items, sym, refl, ap, ◌∙◌, subst, rules}
use Rattle.records.specs.declared.seat.Seat.{Seat}
use Rattle.records.specs.Seat.{released_once}
use Rattle.session.specs.Release.{held_up, no_line}
use Rattle.session.proofs.Balance.{Balanced, in_balance, balanced_pending, balanced_release, balanced_room, balanced_sent, balanced_tallied, balanced_trades, held_known}
use Rattle.heap.proofs.Roots.{root_has}
use Rattle.session.proofs.session.Session.release.Goals as goal

pub returns-in-Some-holder : goal.returns-in-Some-holder
returns-in-Some-holder c =
    let s = c.args.self.now in
    let buffer = s.state.buffer in
    let x = c.in-Some.head in
    let first = c.in-Some.ensures in
    record {
      released = λ f b c' p. (held_up x c.in-Some-holder.seat (root_has buffer x x first.0 first.1 refl, first.2) (search rules) refl, search rules);
      same = search rules;
    }

pub returns-in_default-next_place : goal.returns-in_default-next_place
returns-in_default-next_place c =
    let s = c.args.self.now in
    let x = c.in-Some.head in
    let first = c.in-Some.ensures in
    record {
      released = λ f b c' p. (no_line x (root_has s.state.buffer x x first.0 first.1 refl, first.2) (search rules) (search rules) refl, search rules);
      same = search rules;
    }

pub seat_mut-requires : goal.seat_mut-requires
seat_mut-requires c =
    let s = c.args.self.now in
    let seats = vec_items s.state.seats in
    let buffer = s.state.buffer in
    let x = c.in-Some.head in
    let first = c.in-Some.ensures in
    let known = held_known seats buffer x (root_has buffer x x first.0 first.1 refl) (in_balance s) in
    search rules

pub invariant_of-self : goal.invariant_of-self
invariant_of-self c =
    let s = c.args.self.now in
    let seats = vec_items s.state.seats in
    let x = c.in-Some.head in
    let k = x.seat in
    let taken = c.take.ensures in
    let buffer = c.take.new.self in
    let before = in_balance s in
    let new = c.count_released.ensures ∙ ap released_once c.seat_mut.ensures.value in
    let after : Balanced (set seats k c.count_released.new.self) buffer =
    subst (λ (y : Seat). Balanced (set seats k y) buffer) (sym new) (balanced_release seats s.state.buffer x buffer taken.taken.all before) in
    record {
      few = after.few;
      tallied = balanced_tallied _ _ after;
      sent = balanced_sent _ _ after;
      pending = balanced_pending _ _ after;
      trades = balanced_trades _ _ after;
      room = balanced_room _ _ after;
      ranked = taken.ranked s.ranked;
      points = s.points;
      counted = s.counted;
    }
