-- Both kinds of quote are lawful.
use Rattle.std.proofs.Common.{refl, arith}
use Rattle.std.proofs.lemmas.Bool.Decides.{nat_tests}
use Rattle.book.specs.Quote.{Lawful, resting_buys, resting_sells}

-- what is proved of a book, rather than of any two sides, cites the laws of buys
pub lawful_buys : Lawful resting_buys
lawful_buys = record {
  kept = λ _. refl;
  whole = λ _. refl;
  itself = λ x. grind (arith, nat_tests);
  alike = λ _ _ _. refl;
  one_rank = λ x y h k. grind (arith, nat_tests);
  falls = λ p x y h e. grind (arith, nat_tests);
  no_worse = λ x y h. grind (arith, nat_tests);
}

-- and for sells
pub lawful_sells : Lawful resting_sells
lawful_sells = record {
  kept = λ _. refl;
  whole = λ _. refl;
  itself = λ x. grind (arith, nat_tests);
  alike = λ _ _ _. refl;
  one_rank = λ x y h k. grind (arith, nat_tests);
  falls = λ p x y h e. grind (arith, nat_tests);
  no_worse = λ x y h. grind (arith, nat_tests);
}
