-- The readings of the two clocks, each as one count of nanoseconds.
use Rattle.std.specs.Prelude.{ℕ, ◌+◌, ◌*◌, ◌^◌}

-- an offset clock turns over after 2^64 nanoseconds
abbrev pub offset_turn : ℕ
offset_turn = 2 ^ 64

-- a second in nanoseconds
abbrev pub one_second : ℕ
one_second = 1000000000

-- a split clock turns over after 2^32 seconds
abbrev pub split_turn : ℕ
split_turn = 2 ^ 32 * one_second

-- whole seconds and the nanoseconds below one, as one count
abbrev pub joined : (seconds nanos : ℕ) → ℕ
joined seconds nanos = seconds * one_second + nanos
