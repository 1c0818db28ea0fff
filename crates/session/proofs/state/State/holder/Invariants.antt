use Rattle.std.proofs.Common.{◌≡◌, ℕ, ◌<◌, false, vec_items}
use Rattle.session.specs.Release.{holds_up}
use Rattle.session.proofs.state.State.holder.Given as goal

-- none of the seats so far holds the trade up
abbrev pub invariant-loop-k : goal.invariant-loop-k
invariant-loop-k l = (j : ℕ) → j < l.k → holds_up (vec_items l.self.seats) l.trade j ≡ false
