-- Delays by link and by recorded list.
use Rattle.std.proofs.Common.{◌≡◌, ℕ, zero, suc, ◌+◌, ◌%◌, ◌<◌, ◌≤◌, Bool, true, false, cond, eqb, ◌⊎◌, List, [], ◌∷◌, length, get_or, set, replicate, sym, refl, ap, ◌∙◌, inl, inr, ⊎_elim, arith}
use Rattle.std.proofs.Math.Path.{fun_ext}
use Rattle.std.proofs.Math.Nat.{mod-add-mod}
use Rattle.std.proofs.lemmas.List.{get_or-set_same, get_or-set_other, get_or_past}
use Rattle.std.proofs.lemmas.Bool.Decides.{eqb_tells}
use Rattle.network.specs.Delays.{Next, greatest, entry, traced_delay}

-- no delay passes the greatest
pub within_greatest : (ds : List ℕ) (k : ℕ) → get_or ds k 0 ≤ greatest ds
within_greatest [] k = omega arith
within_greatest (d ∷ ds) zero = omega arith
within_greatest (d ∷ ds) (suc k) = omega (arith, within_greatest ds k)

-- an empty list has no delay
pub entry_none : (ds : List ℕ) (n : ℕ) → length ds ≡ 0 → entry ds n ≡ 0
entry_none ds n h = get_or_past ds (n % length ds) 0 (omega arith)

-- counted from the place after a, the nth entry is the one after the nth from a
entry_following : (ds : List ℕ) (a n : ℕ) → entry ds (cond (eqb (length ds) 0) 0 (a % length ds + 1) + n) ≡ entry ds (a + suc n)
entry_following ds a n = ⊎_elim none some (eqb_tells (length ds) 0)
  where
    none : (eqb (length ds) 0 ≡ true) × (length ds ≡ 0) → entry ds (cond (eqb (length ds) 0) 0 (a % length ds + 1) + n) ≡ entry ds (a + suc n)
    none h = entry_none ds _ h.1 ∙ sym (entry_none ds (a + suc n) h.1)

    some : (eqb (length ds) 0 ≡ false) × (length ds ≡ 0 → ⊥) → entry ds (cond (eqb (length ds) 0) 0 (a % length ds + 1) + n) ≡ entry ds (a + suc n)
    some h =
        let e : a % length ds + 1 + n ≡ a % length ds + suc n = omega arith in
        ap (λ (b : Bool). entry ds (cond b 0 (a % length ds + 1) + n)) h.0
        ∙ ap (λ (t : ℕ). get_or ds t 0) (ap (λ (t : ℕ). t % length ds) e ∙ mod-add-mod a (length ds) (suc n))

-- a link that stands one place on has its delays one record earlier, and the others have theirs
pub traced_following : (ds at : List ℕ) (k b : ℕ) → k < length at → b ≡ cond (eqb (length ds) 0) 0 (get_or at k 0 % length ds + 1) →
    traced_delay ds (set at k b) ≡ (λ j n. traced_delay ds at j (cond (eqb j k) (suc n) n))
traced_following ds at k b l h = fun_ext (λ j. fun_ext (λ n. go j n (eqb j k) (eqb_tells j k)))
  where
    go : (j n : ℕ) (q : Bool) → ((q ≡ true) × (j ≡ k)) ⊎ ((q ≡ false) × (j ≡ k → ⊥)) → traced_delay ds (set at k b) j n ≡ traced_delay ds at j (cond q (suc n) n)
    go j n true (inl e) =
        ap (λ (i : ℕ). traced_delay ds (set at k b) i n) e.1
        ∙ ap (λ (t : ℕ). entry ds (t + n)) (get_or-set_same at k b 0 l ∙ h)
        ∙ entry_following ds (get_or at k 0) n
        ∙ ap (λ (i : ℕ). traced_delay ds at i (suc n)) (sym e.1)
    go j n true (inr e) = let z : ◌≡◌ {A = ℕ} 0 1 = (let f = e.0 in cc) in absurd (omega arith)
    go j n false (inl e) = let z : ◌≡◌ {A = ℕ} 0 1 = (let f = e.0 in cc) in absurd (omega arith)
    go j n false (inr e) = ap (λ (t : ℕ). entry ds (t + n)) (get_or-set_other at k j b 0 e.1)

-- so a link that handed the entry of its place out has the next delay of its list
pub traced_next : (ds at : List ℕ) (k b d : ℕ) → d ≡ entry ds (get_or at k 0) → b ≡ cond (eqb (length ds) 0) 0 (get_or at k 0 % length ds + 1) → k < length at →
    Next (traced_delay ds at) (traced_delay ds (set at k b)) k d
traced_next ds at k b d e h l = record {
  value = (let zero : get_or at k 0 ≡ get_or at k 0 + 0 = omega arith in e ∙ ap (entry ds) zero);
  after = traced_following ds at k b l h;
}

-- a list of equal elements, also past its end
pub get_or_replicate_everywhere : {X : Type 0} (n : ℕ) (x : X) (k : ℕ) → get_or (replicate n x) k x ≡ x
get_or_replicate_everywhere zero x k = refl
get_or_replicate_everywhere (suc n) x zero = refl
get_or_replicate_everywhere (suc n) x (suc k) = get_or_replicate_everywhere n x k

-- links that stand at the start
pub traced_start : (ds at : List ℕ) → ((k : ℕ) → get_or at k 0 ≡ 0) → traced_delay ds at ≡ (λ _ n. entry ds n)
traced_start ds at h = fun_ext (λ k. fun_ext (λ n. let e : get_or at k 0 + n ≡ n = omega (arith, h k) in ap (entry ds) e))
