-- What an accepted call tells: none of its checks failed.
use Rattle.std.proofs.Common.{◌≡◌, ℕ, ◌<◌, ◌≤◌, Bool, true, false, cond, List, [], ◌∷◌, Some, None, refl, arith}
use Rattle.std.proofs.lemmas.Bool.Decides.{nat_tests}
use Rattle.network.specs.Network.{limit}
use Rattle.records.specs.Checks.{Check, Passed, first_failed}
use Rattle.session.specs.Checks.{untimely}
use Rattle.session.specs.World.{World}

-- no check of a list fails, each as a fact of its own
abbrev pub NoneFail : List Check → Type 0
NoneFail [] = Unit {0}
NoneFail (c ∷ cs) = (c.fails ≡ false) × NoneFail cs

-- where a list passes, its first check does not fail and the others pass
first_passes : (c : Check) (cs : List Check) → Passed (c ∷ cs) → (c.fails ≡ false) × Passed cs
first_passes c cs p = by c.fails refl p
  where
    by : (b : Bool) → c.fails ≡ b → cond b (Some c.refused) (first_failed cs) ≡ None → (c.fails ≡ false) × Passed cs
    by true e q = absurd (let z : ◌≡◌ {A = ℕ} 0 1 = cc in omega arith)
    by false e q = (e, q)

-- a list that passes has no check that fails
pub none_fail : (cs : List Check) → Passed cs → NoneFail cs
none_fail [] p = tt
none_fail (c ∷ cs) p = let q = first_passes c cs p in (q.0, none_fail cs q.1)

-- the moment of an accepted call is not before the last one, and below the limit
pub timely : (w : World) (t : ℕ) → untimely w.last t ≡ false → (w.last ≤ t) × (t < limit)
timely w t h = (grind (arith, nat_tests), grind (arith, nat_tests))
