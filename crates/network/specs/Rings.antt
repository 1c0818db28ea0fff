-- Sixteen rings of equal size in one list of slots, as a network.
use Rattle.std.specs.Prelude.{◌≡◌, ℕ, zero, suc, ◌+◌, ◌<◌, List, [], ◌∷◌, ◌++◌, map, length, take, drop, Option, Some, None, slice_index_or}
use Rattle.network.specs.declared.ring.Ring.{Ring}
use Rattle.network.specs.declared.rings.Rings.{Rings}
use Rattle.network.specs.declared.rings.Slot.{Slot}
use Rattle.network.specs.Network.{Link, Net, Formula, capped, idle}
use Rattle.network.specs.Ring.{ring_size, ring_taken, place, blank}

-- what lies at the places p 0, p 1, .., n of them
abbrev pub reads : {X : Type 0} → List X → (ℕ → ℕ) → ℕ → List X
reads xs p zero = []
reads xs p (suc n) = take 1 (drop (p 0) xs) ++ reads xs (λ i. p (suc i)) n

abbrev pub pair_of : {R : Type 0} → Slot R → ℕ × R
pair_of s = (s.arrival, s.item)

-- the link of a ring
abbrev pub ring_link : {R : Type 0} → List (Slot R) → (size link : ℕ) → Ring → Link R
ring_link slots size k r = record {
  pairs = map pair_of (reads slots (place size k r.head) r.count);
  last = r.last;
}

-- the slot of a link's first record, which is ahead of those that its ring has without it
pub record Ahead {R : Type 0} (slots : List (Slot R)) (size k : ℕ) (r : Ring) (s : Slot R) : Type 0 where
  pub known : k < 16
  pub some : 0 < r.count
  pub pairs : (ring_link slots size k r).pairs ≡ pair_of s ∷ (ring_link slots size k (ring_taken r size)).pairs

-- the slot of a link's first record, if there is such a link and it has one
abbrev pub First : {R : Type 0} → List (Slot R) → (size link : ℕ) → Ring → Option (Slot R) → Type 0
First slots size k r None = k < 16 → (ring_link slots size k r).pairs ≡ []
First slots size k r (Some s) = Ahead slots size k r s

-- a formula with these delays: the delay after the moment
abbrev pub delayed : ((link nth : ℕ) → ℕ) → Formula
delayed delay = λ k nth m. Some (capped (m + delay k nth))

-- a network of rings of a size
abbrev pub ringed : {R : Type 0} → ℕ → List (Slot R) → List Ring → ((link nth : ℕ) → ℕ) → ℕ → Net R
ringed size slots rings delay longest = record {
  links = λ k. ring_link slots size k (slice_index_or rings k blank);
  capacity = size;
  longest = capped longest;
  formula = delayed delay;
}

-- what a struct of rings means, by what its delays mean
abbrev pub rings_net : {R D : Type 0} → (D → (link nth : ℕ) → ℕ) → (D → ℕ) → Rings R D → Net R
rings_net delay longest s =
    ringed (ring_size (length s.slots.now)) s.slots.now s.rings (delay s.delays) (longest s.delays)

-- an unused network of rings in so many slots
abbrev pub unused : {R : Type 0} → ℕ → ((link nth : ℕ) → ℕ) → ℕ → Net R
unused slots delay longest = record {
  links = λ _. idle;
  capacity = ring_size slots;
  longest = capped longest;
  formula = delayed delay;
}
