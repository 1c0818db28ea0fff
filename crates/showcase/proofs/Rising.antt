-- Whether values rise, as a test of each with the next tells.
use Rattle.std.proofs.Common.{◌≡◌, ℕ, ◌+◌, ◌<◌, ◌↔◌, Bool, true, false, List, [], ◌∷◌, map, length, get_or, take, Option, None, IsTrue, MatchBool, Bor, refl, sym, ap, subst, ◌∙◌, arith}
use Rattle.std.proofs.iter.runs.Made.{took}
use Rattle.std.proofs.lemmas.Iterator.{YieldsList}
use Rattle.std.proofs.lemmas.Iterator.Consumers.{YieldsList-end, YieldsList-so_far}
use Rattle.std.proofs.lemmas.List.{take-map}
use Rattle.std.proofs.lemmas.List.Sorted.{IsNonDecreasingBy-take, non_decreasing_from_is_sorted}
use Rattle.std.specs.Bool.{OnTrue}
use Rattle.std.specs.Iterator.Order.{IsSortedAnswer}
use Rattle.std.specs.Iterator.Runs.{Run}
use Rattle.std.specs.List.Sorted.{IsNonDecreasing}
use Rattle.std.specs.Ordering.{as_partial_cmp, nat_cmp, partial_le}

-- values that are read through references
map_now : {X : Type 0} (v : X → ℕ) (xs : List (Bor X)) → map (λ x. v x.now) xs ≡ map v (map (λ x. x.now) xs)
map_now v [] = refl
map_now v (x ∷ xs) = ap (λ ks. v x.now ∷ ks) (map_now v xs)

-- the first of some values fall only where the values do
decided : (r : Bool) (ks : List ℕ) → MatchBool r (IsNonDecreasing ks) ((k : ℕ) × (k + 1 < length ks) × ((d : ℕ) → get_or ks (k + 1) d < get_or ks k d)) → (values : List ℕ) (n : ℕ) → ks ≡ take n values → (r ≡ true → ks ≡ values) → IsTrue r ↔ IsNonDecreasing values
decided true ks up values n front all = (λ t. subst IsNonDecreasing (all refl) up, λ up. refl)
decided false ks (k, within, falls) values n front all = (
  λ t. cc,
  λ up.
      let rises : IsNonDecreasing ks = subst IsNonDecreasing (sym front) (IsNonDecreasingBy-take (λ x. x) n values up) in
      absurd (omega (arith, rises k (k + 1) 0 (omega arith) within, falls 0)),
)

-- at the answer yes, the run went to the end
on_true : (r whole : Bool) → OnTrue r (IsTrue whole) → r ≡ true → whole ≡ true
on_true true whole told t = told
on_true false whole told t = cc

-- what a test of the items of a run says of the list that its iterator gives
pub rises_from_run : {S X : Type 0} (steps : S → Option (Bor X) → S → Type 0) (s : S) (all : List X) (v : X → ℕ) (r : Bool) → YieldsList steps (λ x. x.now) s all
    → (p : Run steps) → p.from ≡ s → OnTrue r (IsTrue p.whole) → IsSortedAnswer (partial_le (as_partial_cmp nat_cmp)) (map (λ x. v x.now) p.items) r → IsTrue r ↔ IsNonDecreasing (map v all)
rises_from_run steps s all v r yields p from whole sorted =
    let gave = took p in
    let yielded : YieldsList steps (λ x. x.now) p.from all = subst (λ t. YieldsList steps (λ x. x.now) t all) (sym from) yields in
    let front = map_now v p.items ∙ ap (map v) (YieldsList-so_far yielded p.items gave.0 gave.1) ∙ sym (take-map v (length p.items) all) in
    decided r (map (λ x. v x.now) p.items) (non_decreasing_from_is_sorted (map (λ x. v x.now) p.items) r sorted.0) (map v all) (length p.items) front
    (λ t. let end = gave.2 (on_true r p.whole whole t) in map_now v p.items ∙ ap (map v) (YieldsList-end yielded p.items gave.0 gave.1 None end.0 refl end.1).0)
