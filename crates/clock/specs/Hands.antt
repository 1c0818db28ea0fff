-- What the hands of a clock stand for, whatever they show.
use Rattle.std.specs.Prelude.{ℕ, List, map, slice_index}
use Rattle.clock.specs.declared.hand.Hand.{Hand}
use Rattle.clock.specs.Turns.{moment_of}

-- the moment that a hand's reading stands for
abbrev pub hand_moment : {R : Type 0} {g : _} → Hand R g → ℕ
hand_moment {g = g} h = moment_of g.turn h.start (g.count h.reading)

-- the moment that each seat's hand stands for, 0 of no seat
abbrev pub moments : {R : Type 0} {g : _} → List (Hand R g) → ℕ → ℕ
moments hands k = slice_index (map hand_moment hands) k

-- the start of each hand
abbrev pub starts_of : {R : Type 0} {g : _} → List (Hand R g) → List ℕ
starts_of hands = map (λ h. h.start) hands
