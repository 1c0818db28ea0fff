-- How a call is refused: its checks run in the order written, and the first that fails names the refusal.
use Rattle.std.specs.Prelude.{◌≡◌, Bool, if◌then◌else◌, List, [], ◌∷◌, Some, None, Ok, Err, Option, Result}
use Rattle.records.specs.declared.refusal.Refusal.{Refusal}

-- what makes a call fail, and how it is then refused
pub record Check : Type 0 where
  pub fails : Bool
  pub refused : Refusal

-- the first check that fails, if one does
abbrev pub first_failed : List Check → Option Refusal
first_failed [] = None
first_failed (c ∷ cs) = if c.fails then Some c.refused else first_failed cs

-- no check fails
abbrev pub Passed : List Check → Type 0
Passed cs = first_failed cs ≡ None

-- the first that fails is refused so
abbrev pub Refused : List Check → Refusal → Type 0
Refused cs e = first_failed cs ≡ Some e

-- the answer of a call that only checks
abbrev pub checked : List Check → Result (Unit {0}) Refusal
checked cs = elim (first_failed cs) [ None ↦ Ok tt | Some e ↦ Err e ]
