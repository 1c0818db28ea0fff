-- One call more at the end of a run.
use Rattle.std.proofs.Common.{◌≡◌, ℕ, ◌+◌, ◌<◌, List, [], ◌∷◌, ◌++◌, map, reverse, length, get_or, take, sym, ap, ◌∙◌, subst}
use Rattle.std.proofs.lemmas.List.{take_more, reverse-append, map-append}
use Rattle.session.specs.Opening.{Plan, opened}
use Rattle.session.specs.World.{World}
use Rattle.order.specs.declared.call.Call.{Call}
use Rattle.order.specs.declared.event.Event.{Event}
use Rattle.order.specs.Booking.{BookedOver, Books, Desk}
use Rattle.order.specs.Run.{Run, Step, call_of}
use Rattle.order.specs.Venue.{SameVenue}
use Rattle.order.specs.declared.venue.Venue.{Venue}

-- the newest event comes first once a list is turned round
newest_first : (old new : List Event) (e : Event) → new ≡ old ++ e ∷ [] → reverse new ≡ e ∷ reverse old
newest_first old new e p = ap reverse p ∙ reverse-append old (e ∷ [])

pub run_more : (w u v : World) (old new : List Event) (e : Event) → new ≡ old ++ e ∷ [] → Run w (reverse old) u → Step u e v → Run w (reverse new) v
run_more w u v old new e p r s = subst (λ (es : List Event). Run w es v) (sym (newest_first old new e p)) (u, r, s)

pub booked_more : (d c e : Desk) (old new : List Event) (x : Event) → new ≡ old ++ x ∷ [] → BookedOver d (reverse old) c → Books c x e → BookedOver d (reverse new) e
booked_more d c e old new x p b s = subst (λ (xs : List Event). BookedOver d xs e) (sym (newest_first old new x p)) (c, b, s)

pub calls_more : (calls : List Call) (i : ℕ) (d : Call) (old new : List Event) (e : Event) → i < length calls → new ≡ old ++ e ∷ [] → map call_of old ≡ take i calls → call_of e ≡ get_or calls i d → map call_of new ≡ take (i + 1) calls
calls_more calls i d old new e h p q r =
    ap (map call_of) p ∙ map-append call_of old (e ∷ []) ∙ (rw (q, r) (sym (take_more calls i d h)))

-- where two worlds are one, so are sessions opened over their networks, stop-clocks and lists
pub opened_alike : (plan : Plan) (v w : World) → v ≡ w → opened plan v.forward v.reverse v.clock v.points v.tape ≡ opened plan w.forward w.reverse w.clock w.points w.tape
opened_alike plan v w e = ap (λ (u : World). opened plan u.forward u.reverse u.clock u.points u.tape) e

-- what is lent through two calls is what was lent before them
pub same_more : {F R C : Type 0} {v u w : Venue F R C} → SameVenue v u → SameVenue u w → SameVenue v w
same_more s t = record {
  forward = t.forward ∙ s.forward;
  reverse = t.reverse ∙ s.reverse;
  clock = t.clock ∙ s.clock;
  book = t.book ∙ s.book;
}
