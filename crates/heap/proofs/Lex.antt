-- The laws of the order of numbers, and what `lex` keeps of an order: for implementations that owe the laws of theirs.
use Rattle.std.proofs.Common.{◌≡◌, ℕ, Bool, true, false, leb, arith}
use Rattle.std.proofs.lemmas.Bool.Decides.{nat_tests}
use Rattle.heap.specs.Keys.{lex}

-- of two numbers one is up to the other
pub leb_total : (a b : ℕ) → leb a b ≡ false → leb b a ≡ true
leb_total a b h = grind (arith, nat_tests)

-- the order of numbers passes on
pub leb_trans : (a b c : ℕ) → leb a b ≡ true → leb b c ≡ true → leb a c ≡ true
leb_trans a b c h k = grind (arith, nat_tests)

-- two numbers that are up to each other are one
pub leb_antisym : (a b : ℕ) → leb a b ≡ true → leb b a ≡ true → a ≡ b
leb_antisym a b h k = grind (arith, nat_tests)

-- by a number first: total where the rest is
pub lex_total : (a b : ℕ) (r s : Bool) → (r ≡ false → s ≡ true) → lex a b r ≡ false → lex b a s ≡ true
lex_total a b r s f h = grind (arith, nat_tests)

-- by a number first: it passes on where the rest does
pub lex_trans : (a b c : ℕ) (r s t : Bool) → (r ≡ true → s ≡ true → t ≡ true) → lex a b r ≡ true → lex b c s ≡ true → lex a c t ≡ true
lex_trans a b c r s t f h k = grind (arith, nat_tests)

-- by a number first: up to each other only where the numbers are one and the rest is up to each other
pub lex_same : (a b : ℕ) (r s : Bool) → lex a b r ≡ true → lex b a s ≡ true → (a ≡ b) × (r ≡ true) × (s ≡ true)
lex_same a b r s h k = (grind (arith, nat_tests), grind (arith, nat_tests), grind (arith, nat_tests))
