-- Why a layout can't be changed so.
use Rattle.std.specs.Prelude.{ℕ, List, codes}
use Rattle.records.specs.declared.flaw.Flaw.{Flaw}
use Rattle.records.specs.declared.flaw.Flaw.TheVariants as flaw

-- every flaw of a layout, with its number
abbrev pub flaw_number : Flaw → ℕ
flaw_number flaw.Horizon = 1
flaw_number flaw.Window = 2
flaw_number flaw.Seats = 3

-- what each is printed as
abbrev pub flaw_reason : Flaw → List ℕ
flaw_reason flaw.Horizon = codes "the horizon is 0 or too long"
flaw_reason flaw.Window = codes "the window is not longer than the horizon, or is too long"
flaw_reason flaw.Seats = codes "there are as many seats as there may be"
