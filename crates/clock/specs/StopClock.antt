-- What every stop-clock does, by the one moment that it means for each seat.
-- There are the seats 0 to 15, and a moment is a count of nanoseconds below 2^48.
use Rattle.std.specs.Prelude.{ℕ, ◌-◌, ◌^◌, Bool, if◌then◌else◌, ◌&&◌, ◌==◌, nat_lt}

-- every moment is below this
abbrev pub limit : ℕ
limit = 2 ^ 48

-- there is such a seat and such a moment
abbrev pub fit : ℕ → ℕ → Bool
fit k t = nat_lt k 16 && nat_lt t limit

-- before any mark every seat's moment is 0
abbrev pub unmarked : ℕ → ℕ
unmarked = λ _. 0

-- a mark sets its seat's moment, and no other; with no such seat or moment it sets none
abbrev pub marked : (ℕ → ℕ) → ℕ → ℕ → (ℕ → ℕ)
marked m k t = λ j. if fit k t && j == k then t else m j

-- the time from the seat's moment to this one, which is 0 if this one is earlier, or there is no such seat or moment
abbrev pub elapsed : (ℕ → ℕ) → ℕ → ℕ → ℕ
elapsed m k t = if fit k t then t - m k else 0

-- a distance of readings too great for two moments means that the mark is the later, and no time has passed
abbrev pub unless_back : ℕ → ℕ
unless_back gone = if nat_lt gone limit then gone else 0
