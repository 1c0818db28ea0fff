-- What the answer of a check says of the list of checks that it stands in.
use Rattle.std.proofs.Common.{◌≡◌, ℕ, ◌+◌, ◌<◌, Bool, true, false, cond, leb, List, [], ◌∷◌, ◌++◌, length, Some, Ok, Err, subst, arith}
use Rattle.std.proofs.lemmas.Bool.Decides.{nat_tests}
use Rattle.records.specs.declared.offer.Offer.{Offer}
use Rattle.records.specs.declared.refusal.Refusal.{Refusal}
use Rattle.records.specs.declared.refusal.Refusal.TheVariants as refusal
use Rattle.records.specs.declared.seat.Condition.{Condition}
use Rattle.records.specs.declared.seat.Seat.{Seat}
use Rattle.records.specs.declared.seat.SeatCall.TheVariants as call
use Rattle.records.specs.Checks.{Check, checked, Passed, Refused}
use Rattle.records.specs.Seat.{is_bare, is_ended, turned}
use Rattle.records.specs.Offer.{most_pending, most_trades, offer_checks}
use Rattle.session.specs.Checks.{untimely, moment_check, seat_check, ended_check, reverse_check}
use Rattle.session.specs.Submit.{bare_check, submit_checks}
use Rattle.session.specs.World.{World, seat_of}

-- one check more in front: it refuses, or the others do
refused_from : (e : Refusal) (c : Check) (a b : List Check) → (Err e ≡ checked a → Refused (a ++ b) e) → Err e ≡ checked (c ∷ a) → Refused (c ∷ (a ++ b)) e
refused_from e c a b rest h = by_case c.fails h
  where
    by_case : (fails : Bool) → Err e ≡ checked ((record { fails = fails; refused = c.refused }) ∷ a) → Refused ((record { fails = fails; refused = c.refused }) ∷ (a ++ b)) e
    by_case true h = cc
    by_case false h = rest h

-- what the first checks refuse, all of them refuse so
pub refused_first : (e : Refusal) (a b : List Check) → Err e ≡ checked a → Refused (a ++ b) e
refused_first e [] b h = absurd (let z : ◌≡◌ {A = ℕ} 0 1 = cc in omega arith)
refused_first e (c ∷ a) b h = refused_from e c a b (refused_first e a b) h

-- one check more that passes
passed_from : (e : Refusal) (c : Check) (a b : List Check) → (Passed a → Refused (a ++ b) e) → Passed (c ∷ a) → Refused (c ∷ (a ++ b)) e
passed_from e c a b rest h = by_case c.fails h
  where
    by_case : (fails : Bool) → Passed ((record { fails = fails; refused = c.refused }) ∷ a) → Refused ((record { fails = fails; refused = c.refused }) ∷ (a ++ b)) e
    by_case true h = absurd (let z : ◌≡◌ {A = ℕ} 0 1 = cc in omega arith)
    by_case false h = rest h

-- where the first checks pass, the others refuse
pub refused_then : (e : Refusal) (a b : List Check) → Passed a → Refused b e → Refused (a ++ b) e
refused_then e [] b h k = k
refused_then e (c ∷ a) b h k = passed_from e c a b (λ p. refused_then e a b p k) h

-- an offer that the seat refuses, past the moment, the seat and its condition, is refused so
pub offer_refused : (w : World) (t k : ℕ) (o : Offer) (s : Seat) (c : Condition) (e : Refusal)
    → Ok (tt {0}) ≡ cond (untimely w.last t) (Err (refusal.BadMoment (Some k))) (Ok (tt {0}))
    → Ok s ≡ cond (leb (length w.seats) k) (Err (refusal.NoSeat k)) (Ok (seat_of w k))
    → Ok c ≡ turned s.condition call.Submit k
    → Err e ≡ checked (offer_checks s k o)
    → Refused (submit_checks w t k o) e
offer_refused w t k o s c e timely there served own =
    let is : s ≡ seat_of w k = grind (arith, nat_tests) in
    let turn : Ok c ≡ turned (seat_of w k).condition call.Submit k = subst (λ (x : Seat). Ok c ≡ turned x.condition call.Submit k) is served in
    refused_then e (moment_check w (Some k) t ∷ seat_check w k ∷ ended_check w k ∷ bare_check w k ∷ []) (offer_checks (seat_of w k) k o ++ reverse_check w k ∷ [])
    (passed (untimely w.last t) (leb (length w.seats) k) (seat_of w k).condition timely there turn)
    (refused_first e (offer_checks (seat_of w k) k o) (reverse_check w k ∷ []) (subst (λ (x : Seat). Err e ≡ checked (offer_checks x k o)) is own))
  where
    passed : (late none : Bool) (d : Condition) → Ok (tt {0}) ≡ cond late (Err (refusal.BadMoment (Some k))) (Ok (tt {0})) → Ok s ≡ cond none (Err (refusal.NoSeat k)) (Ok (seat_of w k)) → Ok c ≡ turned d call.Submit k
        → Passed ((record { fails = late; refused = refusal.BadMoment (Some k) }) ∷ (record { fails = none; refused = refusal.NoSeat k }) ∷ (record { fails = is_ended d; refused = refusal.Ended k }) ∷ (record { fails = is_bare d; refused = refusal.Bare k }) ∷ [])
    passed late none d p q r = grind (arith, nat_tests)

-- an offer is taken only where the seat may have one more trade
pub offer_counted : (s : Seat) (k : ℕ) (o : Offer) → Ok tt ≡ checked (offer_checks s k o) → (s.submitted < most_trades) × (s.submitted < s.released + most_pending)
offer_counted s k o h = (grind (arith, nat_tests), grind (arith, nat_tests))
