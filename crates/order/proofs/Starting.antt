-- What a fresh session has: no points, new seats and an empty buffer.
use Rattle.std.proofs.Common.{◌≡◌, ℕ, ◌<◌, ◌≤◌, [], length, get_or, ap, ◌∙◌, arith}
use Rattle.std.proofs.lemmas.List.{length-replicate, get_or-replicate}
use Rattle.records.specs.Market.{no_points}
use Rattle.records.specs.Seat.{blank}
use Rattle.session.specs.Opening.{Fresh, most_seats}
use Rattle.session.specs.World.{World, seat_of}

module _ (w : World) (o : Fresh w) where
  -- as many seats as were laid out
  fresh_count : length w.seats ≡ o.plan.seats
  fresh_count = ap (λ (v : World). length v.seats) o.opening ∙ length-replicate o.plan.seats blank

  pub fresh_few : length w.seats ≤ most_seats
  fresh_few = omega (arith, fresh_count, o.laid.few)

  pub fresh_market : w.market ≡ no_points
  fresh_market = ap (λ (v : World). v.market) o.opening

  pub fresh_buffer : w.buffer ≡ []
  fresh_buffer = ap (λ (v : World). v.buffer) o.opening

  pub fresh_blank : (k : ℕ) → k < length w.seats → seat_of w k ≡ blank
  fresh_blank k p = ap (λ (v : World). get_or v.seats k blank) o.opening ∙ get_or-replicate o.plan.seats k blank blank (omega (arith, fresh_count))
