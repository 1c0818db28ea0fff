-- The parts of the law, from what every run keeps.
use Rattle.std.proofs.Common.{◌≡◌, ℕ, suc, ◌+◌, ◌-◌, ◌<◌, ◌⊎◌, List, [], ◌∷◌, ◌++◌, length, sym, refl, ap, ◌∙◌, subst, inl, inr, ⊎_elim, append-nil, arith, length-append}
use Rattle.std.specs.List.{AllByRecursion}
use Rattle.std.specs.List.Sorted.{IsPermutation}
use Rattle.std.proofs.lemmas.List.Sorted.{IsPermutation-sym, IsPermutation-trans, length_permutation}
use Rattle.std.proofs.ByRecursion.{all_shuffled, All-append, All-weaker}
use Rattle.records.specs.declared.line.Line.{Line}
use Rattle.records.specs.declared.trade.Trade.{Trade}
use Rattle.records.specs.declared.tag.Watermark.{Watermark}
use Rattle.records.specs.declared.tag.Watermark.TheVariants.{Top}
use Rattle.records.specs.Trade.{Precedes}
use Rattle.session.specs.World.{World, seat_of}
use Rattle.order.specs.declared.event.Event.{Event}
use Rattle.order.specs.History.{accepted_trades}
use Rattle.order.specs.Law.{tape_of, trades_on, carried, trades_among, on_the_way, Conserved, Conservation, EqualTapes, Settlement}
use Rattle.order.proofs.Bags.{all_gathered, gathered_empty}
use Rattle.order.proofs.Ranks.{precedes_not}
use Rattle.order.proofs.Links.{Coming, coming}
use Rattle.order.proofs.Seated.{ceiling}
use Rattle.order.proofs.Lined.{InRank, Placed, Passed, passed_precedes}
use Rattle.order.proofs.Kept.{Kept, run_kept, fresh_kept}

-- the trades on the way of seat k have yet to come
pub all_coming : (es : List Event) (v : World) (h : Kept es v) (k : ℕ) → k < length v.seats → AllByRecursion (Coming k (seat_of v k).collected (seat_of v k).watermark) (trades_among (carried v.reverse k))
all_coming es v h k p =
    let s = h.seated k p in
    coming k (seat_of v k).collected (seat_of v k).watermark (carried v.reverse k) (seat_of v k).submitted (ceiling (seat_of v k).condition (record { batch = (seat_of v k).batch; elapsed = v.last - v.clock k })) s.count s.climb

-- what every run keeps is conserved
pub kept_conserved : (es : List Event) (v : World) → Kept es v → Conserved es v
kept_conserved es v h = record {
  each_once = h.lined.each_once;
  in_rank = both (trades_on (tape_of v)) h.lined.passed h.lined.behind;
}
  where
    both : (ts : List Trade) → AllByRecursion (Passed v.seats) ts → AllByRecursion (λ x. AllByRecursion (Precedes x) v.buffer) ts → AllByRecursion (λ x. AllByRecursion (Precedes x) (v.buffer ++ on_the_way v)) ts
    both [] p b = tt
    both (x ∷ ts) p b = (
      All-append (Precedes x) v.buffer (on_the_way v) b.0
          (all_gathered (Precedes x) (λ k. trades_among (carried v.reverse k)) (length v.seats) (λ k q. All-weaker (Coming k (seat_of v k).collected (seat_of v k).watermark) (Precedes x) (passed_precedes v.seats x k q p.0) (trades_among (carried v.reverse k)) (all_coming es v h k q))),
      both ts p.1 b.1,
    )

pub conservation : Conservation
conservation w v es o r = kept_conserved es v (run_kept w (fresh_kept w o) es v r)

-- a trade stands in a list
abbrev pub In : List Trade → Trade → Type 0
In [] x = ⊥
In (y ∷ ys) x = (y ≡ x) ⊎ In ys x

-- a longer list has all that the shorter had
all_in_more : (y : Trade) (ys xs : List Trade) → AllByRecursion (In ys) xs → AllByRecursion (In (y ∷ ys)) xs
all_in_more y ys [] h = tt
all_in_more y ys (x ∷ xs) h = (inr h.0, all_in_more y ys xs h.1)

-- a list has all its own
all_in : (xs : List Trade) → AllByRecursion (In xs) xs
all_in [] = tt
all_in (x ∷ xs) = (inl refl, all_in_more x xs xs (all_in xs))

-- what holds of each holds of one that stands there
all_at : (P : Trade → Type 0) (xs : List Trade) (x : Trade) → AllByRecursion P xs → In xs x → P x
all_at P [] x h i = absurd i
all_at P (y ∷ xs) x h (inl e) = subst P e h.0
all_at P (y ∷ xs) x h (inr i) = all_at P xs x h.1 i

-- what comes after x is not x, so it stands in the rest
all_rest : (x : Trade) (ys zs : List Trade) → AllByRecursion (Precedes x) zs → AllByRecursion (In (x ∷ ys)) zs → AllByRecursion (In ys) zs
all_rest x ys [] h k = tt
all_rest x ys (z ∷ zs) h k = (
  ⊎_elim (λ (e : x ≡ z). absurd (let p : Precedes z z = subst (λ (y : Trade). Precedes y z) e h.0 in precedes_not z z p p)) (λ (i : In ys z). i) k.0,
  all_rest x ys zs h.1 k.1,
)

-- two lists in rank with the same elements are equal
pub ranked_same : (xs ys : List Trade) → InRank xs → InRank ys → AllByRecursion (In xs) ys → AllByRecursion (In ys) xs → xs ≡ ys
ranked_same [] [] hx hy a b = refl
ranked_same [] (y ∷ ys) hx hy a b = absurd a.0
ranked_same (x ∷ xs) [] hx hy a b = absurd b.0
ranked_same (x ∷ xs) (y ∷ ys) hx hy a b =
    let e : x ≡ y = heads a.0 b.0 in
    let a' : AllByRecursion (In xs) ys = all_rest x xs ys (subst (λ (z : Trade). AllByRecursion (Precedes z) ys) (sym e) hy.0) a.1 in
    let b' : AllByRecursion (In ys) xs = all_rest y ys xs (subst (λ (z : Trade). AllByRecursion (Precedes z) xs) e hx.0) b.1 in
    let rest : xs ≡ ys = ranked_same xs ys hx.1 hy.1 a' b' in
    cc
  where
    heads : In (x ∷ xs) y → In (y ∷ ys) x → x ≡ y
    heads (inl e) k = e
    heads (inr i) (inl e) = sym e
    heads (inr i) (inr j) = absurd (precedes_not x y (all_at (Precedes x) xs y hx.0 i) (all_at (Precedes y) ys x hy.0 j))

-- two lists of lines with the same trades and places from one number on are equal
pub placed_same : (n : ℕ) (xs ys : List Line) → Placed n xs → Placed n ys → trades_on xs ≡ trades_on ys → xs ≡ ys
placed_same n [] [] p q e = refl
placed_same n [] (y ∷ ys) p q e = absurd (let z : ◌≡◌ {A = ℕ} 0 1 = cc in omega arith)
placed_same n (x ∷ xs) [] p q e = absurd (let z : ◌≡◌ {A = ℕ} 0 1 = cc in omega arith)
placed_same n (x ∷ xs) (y ∷ ys) p q e =
    let place = p.0 ∙ sym q.0 in
    let trade : x.trade ≡ y.trade = cc in
    let tail : trades_on xs ≡ trades_on ys = cc in
    let rest : xs ≡ ys = placed_same (n + 1) xs ys p.1 q.1 tail in
    let line : x ≡ y = λ i. record { place = place i; trade = trade i } in
    cc

-- as many trades as lines
trades_on_long : (ls : List Line) → length (trades_on ls) ≡ length ls
trades_on_long [] = refl
trades_on_long (l ∷ ls) = ap suc (trades_on_long ls)

-- a list of no length is empty
empty : {X : Type 0} (xs : List X) → length xs ≡ 0 → xs ≡ []
empty [] e = refl
empty (x ∷ xs) e = absurd (omega arith)

-- as many lines as accepted trades: nothing is left over
pub nothing_left : (es : List Event) (v : World) → Kept es v → length (tape_of v) ≡ length (accepted_trades es) → v.buffer ++ on_the_way v ≡ []
nothing_left es v h e =
    empty (v.buffer ++ on_the_way v) (omega (arith, length_permutation (accepted_trades es) (trades_on (tape_of v) ++ (v.buffer ++ on_the_way v)) h.lined.each_once, length-append (trades_on (tape_of v)) (v.buffer ++ on_the_way v), trades_on_long (tape_of v)))

-- so the tape has all accepted trades
pub tape_has_all : (es : List Event) (v : World) → Kept es v → length (tape_of v) ≡ length (accepted_trades es) → IsPermutation (accepted_trades es) (trades_on (tape_of v))
tape_has_all es v h e =
    subst (λ (l : List Trade). IsPermutation (accepted_trades es) l) (ap (λ (l : List Trade). trades_on (tape_of v) ++ l) (nothing_left es v h e) ∙ append-nil (trades_on (tape_of v))) h.lined.each_once

pub equal_tapes : EqualTapes
equal_tapes w v w' v' es fs o r s o' r' s' =
    let h = run_kept w (fresh_kept w o) es v r in
    let h' = run_kept w' (fresh_kept w' o') fs v' r' in
    let a = trades_on (tape_of v) in
    let b = trades_on (tape_of v') in
    let on : IsPermutation (accepted_trades es) a = tape_has_all es v h s.lines in
    let on' : IsPermutation (accepted_trades fs) b = tape_has_all fs v' h' s'.lines in (
      λ e. IsPermutation-trans (accepted_trades es) b (accepted_trades fs) (subst (λ (l : List Line). IsPermutation (accepted_trades es) (trades_on l)) e on) (IsPermutation-sym (accepted_trades fs) b on'),
      λ same.
          let ab : IsPermutation a b = IsPermutation-trans a (accepted_trades es) b (IsPermutation-sym (accepted_trades es) a on) (IsPermutation-trans (accepted_trades es) (accepted_trades fs) b same on') in
          placed_same 1 (tape_of v) (tape_of v') h.lined.placed h'.lined.placed
          (ranked_same a b h.lined.in_rank h'.lined.in_rank (all_shuffled (In a) a b ab (all_in a)) (all_shuffled (In b) b a (IsPermutation-sym a b ab) (all_in b))),
    )

-- a seat whose watermark is top has no trade on the way
none_coming : (k c : ℕ) (xs : List Trade) → AllByRecursion (Coming k c Top) xs → xs ≡ []
none_coming k c [] h = refl
none_coming k c (x ∷ xs) h = absurd h.0.tag

-- of two lists that are empty together the first is
left_empty : (xs ys : List Trade) → xs ++ ys ≡ [] → xs ≡ []
left_empty [] ys e = refl
left_empty (x ∷ xs) ys e = absurd (let z : ◌≡◌ {A = ℕ} 0 1 = cc in omega arith)

pub settlement : Settlement
settlement w v es o r =
    let h = run_kept w (fresh_kept w o) es v r in (
      λ s.
          let way : on_the_way v ≡ [] = gathered_empty (λ k. trades_among (carried v.reverse k)) (length v.seats)
          (λ k p. none_coming k (seat_of v k).collected (trades_among (carried v.reverse k)) (subst (λ (m : Watermark). AllByRecursion (Coming k (seat_of v k).collected m) (trades_among (carried v.reverse k))) (s.ended k p) (all_coming es v h k p))) in
          let rest : v.buffer ++ on_the_way v ≡ [] = ap (λ (l : List Trade). l ++ on_the_way v) s.empty ∙ way in
          let short : length (v.buffer ++ on_the_way v) ≡ 0 = ap length rest in
          record {
            ends = λ k p. (h.ends k p).0 (s.ended k p);
            lines = omega (arith, short, length_permutation (accepted_trades es) (trades_on (tape_of v) ++ (v.buffer ++ on_the_way v)) h.lined.each_once, length-append (trades_on (tape_of v)) (v.buffer ++ on_the_way v), trades_on_long (tape_of v));
          },
      λ s. record {
        ended = λ k p. (h.ends k p).1 (s.ends k p);
        empty = left_empty v.buffer (on_the_way v) (nothing_left es v h s.lines);
      },
    )
