-- Where a network that has a formula takes its delays from: one for each link, or a recorded list.
use Rattle.std.specs.Prelude.{◌≡◌, ℕ, suc, ◌+◌, ◌%◌, max, if◌then◌else◌, List, [], ◌∷◌, length, ◌==◌, slice_index}
use Rattle.network.specs.declared.delays.Recording.{Recording}

-- the greatest of some delays, 0 of none
abbrev pub greatest : List ℕ → ℕ
greatest [] = 0
greatest (d ∷ ds) = max d (greatest ds)

-- one delay for each link, whichever record it is
abbrev pub fixed_delay : List ℕ → (link nth : ℕ) → ℕ
fixed_delay ds k nth = slice_index ds k

-- the nth entry of a list that starts anew at its end; 0 where it is empty
abbrev pub entry : List ℕ → ℕ → ℕ
entry ds n = slice_index ds (n % length ds)

-- a recorded list, from the entry at which each link stands
abbrev pub traced_delay : List ℕ → List ℕ → (link nth : ℕ) → ℕ
traced_delay ds at k nth = entry ds (slice_index at k + nth)

-- what a recording means
abbrev pub recorded_delay : Recording → (link nth : ℕ) → ℕ
recorded_delay s = traced_delay s.delays.now s.at

abbrev pub recorded_longest : Recording → ℕ
recorded_longest s = greatest s.delays.now

-- the next delay of a link is handed out, and its record counts as accepted
pub record Next (delay delay' : (link nth : ℕ) → ℕ) (k d : ℕ) : Type 0 where
  pub value : d ≡ delay k 0
  pub after : delay' ≡ (λ j nth. delay j (if j == k then suc nth else nth))
