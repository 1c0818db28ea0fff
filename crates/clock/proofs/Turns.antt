-- What readings that turn over tell of moments.
use Rattle.std.proofs.Common.{◌≡◌, ℕ, ◌+◌, ◌*◌, ◌-◌, ◌%◌, ◌<◌, ◌≤◌, ◌⊎◌, inl, inr, arith, mod-eq_of_lt, ◌∙◌}
use Rattle.std.proofs.Math.Nat.{mod-eq-sub-mod, mod-add-mod}
use Rattle.std.proofs.lemmas.Bool.{cases_lt}
use Rattle.clock.specs.StopClock.{limit, unless_back}
use Rattle.clock.specs.Turns.{moment_of, onward, shown}

-- a sum below two turns turns over once at most
turns_once : (turn j : ℕ) → j < turn + turn → ((j < turn) × (j % turn ≡ j)) ⊎ ((turn ≤ j) × (j % turn ≡ j - turn))
turns_once turn j below = elim (cases_lt j turn) [
  | inl low ↦ inl (low, mod-eq_of_lt low)
  | inr high ↦ inr (high, mod-eq-sub-mod high ∙ mod-eq_of_lt (omega arith))
]

-- what is shown, from the start's part of a turn
shown_mod : (turn start moment : ℕ) → 0 < turn → moment < turn → ((start + moment) % turn ≡ start % turn + moment) ⊎ ((turn ≤ start % turn + moment) × ((start + moment) % turn ≡ start % turn + moment - turn))
shown_mod turn start moment some below = grind (arith, turns_once turn (start % turn + moment) (omega arith), mod-add-mod start turn moment)

-- what a clock shows at a moment stands for that moment
pub moment_of_shown : (turn start moment : ℕ) → moment < turn → moment_of turn start (shown turn start moment) ≡ moment
moment_of_shown turn start moment below = grind (arith, shown_mod turn start moment (omega arith) below, turns_once turn (shown turn start moment + (turn - start % turn)) (omega arith))

-- a distance of `limit` or more leads to an earlier moment, since a turn is more than twice that
pub gone_since : (turn start reading moment : ℕ) → 2 * limit < turn → reading < turn → moment_of turn start reading < limit → moment < limit → unless_back (onward turn reading (shown turn start moment)) ≡ moment - moment_of turn start reading
gone_since turn start reading moment long below early asked = grind (
  arith,
  shown_mod turn start moment (omega arith) (omega arith),
  turns_once turn (reading + (turn - start % turn)) (omega arith),
  turns_once turn (shown turn start moment + (turn - reading)) (omega arith),
)
