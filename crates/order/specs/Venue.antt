-- What calls are made over, as it was lent: no call puts another network, stop-clock or book in the place of one.
use Rattle.std.specs.Prelude.{◌≡◌}
use Rattle.order.specs.declared.venue.Venue.{Venue}

pub record SameVenue {F R C : Type 0} (v v' : Venue F R C) : Type 0 where
  pub forward : v'.forward.ghost_name ≡ v.forward.ghost_name
  pub reverse : v'.reverse.ghost_name ≡ v.reverse.ghost_name
  pub clock : v'.clock.ghost_name ≡ v.clock.ghost_name
  pub book : v'.book.ghost_name ≡ v.book.ghost_name
