-- What handing a record out to a member does to the member's line and clock.
use Rattle.std.specs.Prelude.{◌≡◌, ℕ, ◌<◌, Bool, true, false, ◌&&◌, nat_le}
use Rattle.clock.specs.StopClock.{elapsed, marked}
use Rattle.network.specs.Network.{Net, Taken, is_waiting}

-- the first record of the member's line has arrived, and the last hand-out lies at least the pace back
abbrev pub due : {R : Type 0} → Net R → (ℕ → ℕ) → (member pace at : ℕ) → Bool
due n c k pace at = nat_le pace (elapsed c k at) && is_waiting n k at

-- nothing is due, and nothing changes
pub record Held {R : Type 0} (n n' : Net R) (c c' : ℕ → ℕ) (k pace at : ℕ) : Type 0 where
  pub held : due n c k pace at ≡ false
  pub net : n' ≡ n
  pub clock : c' ≡ c

-- the record is taken, the clock is marked, and the table's two times are those of the line and of the clock
pub record HandedOut {R : Type 0} (n n' : Net R) (c c' : ℕ → ℕ) (k pace at : ℕ) (item : R) (arrived since : ℕ) : Type 0 where
  pub handed : due n c k pace at ≡ true
  pub net : Taken n n' k at item
  pub clock : c' ≡ marked c k at
  pub since_last : since ≡ elapsed c k at
  pub arrival : is_waiting n k arrived ≡ true
  pub not_before : (m : ℕ) → m < arrived → is_waiting n k m ≡ false
