-- Orders by one number and then by another: the way to write an order on keys of several numbers.
use Rattle.std.specs.Prelude.{ℕ, Bool, true, false, if◌then◌else◌, nat_lt}

-- the lower first number decides, and where both are the same, the rest does
abbrev pub lex : ℕ → ℕ → Bool → Bool
lex a b rest = if nat_lt a b then true else if nat_lt b a then false else rest
