-- Rings in one list of slots: where their records lie, and what a send and a take leave of them.
use Rattle.std.proofs.Common.{◌≡◌, ℕ, zero, suc, ◌+◌, ◌-◌, ◌*◌, ◌/◌, ◌%◌, ◌<◌, ◌≤◌, ltb, List, [], ◌∷◌, ◌++◌, map, length, get_or, take, drop, set, replicate, Option, sym, refl, ap, ◌∙◌, ⊎_elim, append_assoc, append-nil, add-mul, add-one, arith, length-append, length-drop, length-set, length-take, drop-cons}
use Rattle.std.proofs.lemmas.List.{map-append, length-map, get_or-set_same, get_or-set_other}
use Rattle.std.proofs.Math.Path.{fun_ext}
use Rattle.std.proofs.Math.Nat.{mod-add-mod}
use Rattle.std.proofs.lemmas.Nat.{div-add-mod', mod_below, mul-le, mul-add-lt, div-mul-add}
use Rattle.std.proofs.lemmas.Bool.{cases_lt}
use Rattle.std.proofs.lemmas.Bool.Decides.{nat_tests}
use Rattle.std.specs.Option.{unwrap_or}
use Rattle.network.specs.declared.ring.Ring.{Ring}
use Rattle.network.specs.declared.rings.Slot.{Slot}
use Rattle.network.specs.Delays.{Next}
use Rattle.network.specs.Network.{Link, Net, limit, capped, has_room, arrived, earliest, Sent, Taken}
use Rattle.network.specs.Ring.{ring_size, place, blank, ring_sent, ring_taken}
use Rattle.network.specs.Rings.{reads, pair_of, ring_link, Ahead, delayed, ringed, unused}
use Rattle.network.proofs.Entries.{get_or_replicate_everywhere}

one_at : {X : Type 0} (xs : List X) (j : ℕ) (d : X) → j < length xs → take 1 (drop j xs) ≡ get_or xs j d ∷ []
one_at xs j d h = ap (take 1) (drop-cons xs j d h)

one_set_other : {X : Type 0} (xs : List X) (j q : ℕ) (v : X) → (j ≡ q → ⊥) → take 1 (drop j (set xs q v)) ≡ take 1 (drop j xs)
one_set_other [] j q v h = refl
one_set_other (x ∷ xs) zero zero v h = absurd (h refl)
one_set_other (x ∷ xs) zero (suc q) v h = refl
one_set_other (x ∷ xs) (suc j) zero v h = refl
one_set_other (x ∷ xs) (suc j) (suc q) v h = one_set_other xs j q v (λ e. h (ap suc e))

-- as many are read as there are places
reads_length : {X : Type 0} (xs : List X) (p : ℕ → ℕ) (n : ℕ) → ((i : ℕ) → p i < length xs) → length (reads xs p n) ≡ n
reads_length xs p zero h = refl
reads_length xs p (suc n) h =
    let e = reads_length xs (λ i. p (suc i)) n (λ i. h (suc i)) in
    let l = h 0 in
    simp (length-append, length-take, length-drop) (omega arith)

-- a write at none of the places
reads_set : {X : Type 0} (xs : List X) (p : ℕ → ℕ) (n q : ℕ) (v : X) → ((i : ℕ) → i < n → p i ≡ q → ⊥) → reads (set xs q v) p n ≡ reads xs p n
reads_set xs p zero q v h = refl
reads_set xs p (suc n) q v h =
    let a = one_set_other xs (p 0) q v (h 0 (omega arith)) in
    let b = reads_set xs (λ i. p (suc i)) n q v (λ i l. h (suc i) (omega arith)) in
    cc

-- one place more, at the end
reads_push : {X : Type 0} (xs : List X) (p : ℕ → ℕ) (n : ℕ) → reads xs p (suc n) ≡ reads xs p n ++ take 1 (drop (p n) xs)
reads_push xs p zero = append-nil (take 1 (drop (p 0) xs))
reads_push xs p (suc n) =
    ap (λ t. take 1 (drop (p 0) xs) ++ t) (reads_push xs (λ i. p (suc i)) n)
    ∙ sym (append_assoc (take 1 (drop (p 0) xs)) (reads xs (λ i. p (suc i)) n) (take 1 (drop (p (suc n)) xs)))

reads_same : {X : Type 0} (xs : List X) (p q : ℕ → ℕ) (n : ℕ) → ((i : ℕ) → p i ≡ q i) → reads xs p n ≡ reads xs q n
reads_same xs p q zero h = refl
reads_same xs p q (suc n) h =
    let a = h 0 in
    let b = reads_same xs (λ i. p (suc i)) (λ i. q (suc i)) n (λ i. h (suc i)) in
    cc

-- every place of a link lies in the sixteen rings
pub place_below : (c k i : ℕ) → k < 16 → 0 < c → k * c + i % c < 16 * c
place_below c k i l p = omega (arith, mul-add-lt k c (i % c) 16 l (mod_below i c p))

-- places of two links differ
links_apart : (c k j h g i n : ℕ) → 0 < c → (j ≡ k → ⊥) → place c j h i ≡ place c k g n → ⊥
links_apart c k j h g i n p ne e =
    ne (sym (div-mul-add j c ((h + i) % c) (mod_below (h + i) c p)) ∙ ap (λ y. y / c) e ∙ div-mul-add k c ((g + n) % c) (mod_below (g + n) c p))

mod_apart : (c a b : ℕ) → a < b → b < a + c → a % c ≡ b % c → ⊥
mod_apart c a b l u e = ⊎_elim
    (λ (h : a / c < b / c). omega (arith, div-add-mod' a c, div-add-mod' b c, mul-le (a / c + 1) c (b / c) c (omega arith) (omega arith), add-mul (a / c) 1 c))
    (λ (h : b / c ≤ a / c). omega (arith, div-add-mod' a c, div-add-mod' b c, mul-le (b / c) c (a / c) c h (omega arith)))
    (cases_lt (a / c) (b / c))

-- places of one link differ
turns_apart : (c k h i n : ℕ) → i < n → n < c → place c k h i ≡ place c k h n → ⊥
turns_apart c k h i n l u e = mod_apart c (h + i) (h + n) (omega arith) (omega arith) (omega arith)

module _ {X : Type 0} (xs : List X) (c k h n : ℕ) where
  -- one record more after the last of a ring
  reads_sent : (v : X) → k < 16 → n < c → 16 * c ≤ length xs → reads (set xs (place c k h n) v) (place c k h) (n + 1) ≡ reads xs (place c k h) n ++ (v ∷ [])
  reads_sent v l u w =
      let in-xs : place c k h n < length xs = omega (arith, place_below c k (h + n) l (omega arith)) in
      let in_ys : place c k h n < length (set xs (place c k h n) v) = simp length-set (omega arith) in
      let kept = reads_set xs (place c k h) n (place c k h n) v (λ i q. turns_apart c k h i n q u) in
      let new = one_at (set xs (place c k h n) v) (place c k h n) v in_ys in
      let got = get_or-set_same xs (place c k h n) v v in-xs in
      let push = reads_push (set xs (place c k h n) v) (place c k h) n in
      let one = add-one n in
      cc

  -- the ring of another link is as it was
  reads_apart : (v : X) (j g i : ℕ) → 0 < c → (j ≡ k → ⊥) → reads (set xs (place c k h n) v) (place c j g) i ≡ reads xs (place c j g) i
  reads_apart v j g i p ne = reads_set xs (place c j g) i (place c k h n) v (λ t q. links_apart c k j g h t n p ne)

  -- the first record of a ring, and the others from the next head
  reads_first : (d : X) → k < 16 → 0 < n → n ≤ c → 16 * c ≤ length xs → reads xs (place c k h) n ≡ get_or xs (place c k h 0) d ∷ reads xs (place c k ((h + 1) % c)) (n - 1)
  reads_first d l z u w =
      let in-xs : place c k h 0 < length xs = omega (arith, place_below c k (h + 0) l (omega arith)) in
      let first = one_at xs (place c k h 0) d in-xs in
      let more = reads_same xs (λ i. place c k h (suc i)) (place c k ((h + 1) % c)) (n - 1) (λ i. ap (λ t. k * c + t) (ap (λ t. t % c) (turn i) ∙ sym (mod-add-mod (h + 1) c i))) in
      let some : n ≡ suc (n - 1) = omega arith in
      ap (reads xs (place c k h)) some ∙ ap (λ t. t ++ reads xs (λ i. place c k h (suc i)) (n - 1)) first ∙ ap (λ t. get_or xs (place c k h 0) d ∷ t) more
    where
      turn : (i : ℕ) → h + suc i ≡ h + 1 + i
      turn i = omega arith

-- what a ring gives keeps the rules of an arrival
module _ (m d longest : ℕ) (o : Option ℕ) (soon : m < limit) (early : unwrap_or o 0 ≤ limit) where
  sent_follows : capped (earliest (m + d) o) ≡ earliest (capped (m + d)) o
  sent_follows = omega arith

  sent_after : earliest m o ≤ capped (earliest (m + d) o)
  sent_after = omega arith

  sent_before : d ≤ longest → capped (earliest (m + d) o) ≤ earliest m o + capped longest
  sent_before h = omega arith

-- as many records are read of a ring as it counts
pub ring_length : {X : Type 0} (xs : List X) (c k h n : ℕ) → k < 16 → n ≤ c → 16 * c ≤ length xs → length (reads xs (place c k h) n) ≡ n
ring_length xs c k h zero l u w = refl
ring_length xs c k h (suc n) l u w = reads_length xs (place c k h) (suc n) (λ i. omega (arith, place_below c k (h + i) l (omega arith)))

-- a link holds as many records as its ring counts
pub ring_holds : {R : Type 0} (xs : List (Slot R)) (c k : ℕ) (r : Ring) → k < 16 → r.count ≤ c → 16 * c ≤ length xs → length (map pair_of (reads xs (place c k r.head) r.count)) ≡ r.count
ring_holds xs c k r l u w = simp length-map (ring_length xs c k r.head r.count l u w)

-- the slot at a ring's head is that of its first record
pub ring_ahead : {R : Type 0} (xs : List (Slot R)) (c k : ℕ) (r : Ring) (s : Slot R) → s ≡ get_or xs (place c k r.head 0) s → k < 16 → 0 < r.count → r.count ≤ c → 16 * c ≤ length xs → Ahead xs c k r s
ring_ahead xs c k r s q l z u w = record {
  known = l;
  some = z;
  pairs =
      ap (map pair_of) (reads_first xs c k r.head r.count s l z u w)
      ∙ ap (λ t. pair_of t ∷ map pair_of (reads xs (place c k ((r.head + 1) % c)) (r.count - 1))) (sym q);
}

-- an empty ring has no record
pub ring_empty : {R : Type 0} (xs : List (Slot R)) (c k : ℕ) (r : Ring) → r.count ≡ 0 → (ring_link xs c k r).pairs ≡ []
ring_empty xs c k r z = ap (λ n. map pair_of (reads xs (place c k r.head) n)) z

module _ {R : Type 0} (c : ℕ) (xs : List (Slot R)) (rs : List Ring) (delay : ℕ → ℕ → ℕ) (longest k : ℕ) where
  -- a link has room while its ring is not full
  pub ringed_room : k < 16 → (get_or rs k blank).count ≤ c → 16 * c ≤ length xs → has_room (ringed c xs rs delay longest) k ≡ ltb (get_or rs k blank).count c
  ringed_room l u w = let e = ring_length xs c k (get_or rs k blank).head (get_or rs k blank).count l u w in simp length-map (grind (arith, nat_tests))

  -- a take leaves a ring without its oldest record
  pub ringed_taken : (m : ℕ) (s : Slot R) (r : Ring) → Ahead xs c k (get_or rs k blank) s → r ≡ ring_taken (get_or rs k blank) c → m < limit → s.arrival ≤ m → k < length rs →
      Taken (ringed c xs rs delay longest) (ringed c xs (set rs k r) delay longest) k m s.item
  ringed_taken m s r h er e a b =
      let new : get_or (set rs k r) k blank ≡ ring_taken (get_or rs k blank) c = get_or-set_same rs k r blank b ∙ er in
      record {
        waited = (let first = ap (λ ps. arrived ps m) h.pairs in grind (arith, nat_tests));
        arrival = s.arrival;
        pairs = h.pairs ∙ ap (λ (t : Ring). pair_of s ∷ (ring_link xs c k t).pairs) (sym new);
        last = ap (λ (t : Ring). t.last) new;
        only = record {
          others = λ j ne. ap (ring_link xs c j) (get_or-set_other rs k j r blank ne);
          capacity = refl;
          longest = refl;
        };
        formula = refl;
      }

  -- a send leaves a ring with one record more
  ringed_added : (m d : ℕ) (x : R) (delay' : ℕ → ℕ → ℕ) → k < 16 → k < length rs → m < limit → (get_or rs k blank).count < c → unwrap_or (get_or rs k blank).last 0 ≤ limit → 16 * c ≤ length xs →
      d ≤ longest → Next delay delay' k d →
      Sent (ringed c xs rs delay longest)
      (ringed c (set xs (place c k (get_or rs k blank).head (get_or rs k blank).count) (record { arrival = capped (earliest (m + d) (get_or rs k blank).last); item = x }))
      (set rs k (ring_sent (get_or rs k blank) (capped (earliest (m + d) (get_or rs k blank).last)))) delay' longest) k m x
  ringed_added m d x delay' l b e room early fit w next =
      let r = get_or rs k blank in
      let a = capped (earliest (m + d) (get_or rs k blank).last) in
      let v : Slot R = record { arrival = capped (earliest (m + d) (get_or rs k blank).last); item = x } in
      let new = get_or-set_same rs k (ring_sent r a) blank b in
      record {
        accepted = (let h = ringed_room l (omega arith) fit in grind (arith, nat_tests));
        added = record {
          arrival = a;
          follows = sent_follows m d longest r.last e early ∙ ap (λ t. earliest (capped (m + t)) r.last) next.value;
          after = sent_after m d longest r.last e early;
          before = sent_before m d longest r.last e early w;
          cap = omega arith;
          pairs =
              ap (λ (t : Ring). (ring_link (set xs (place c k r.head r.count) v) c k t).pairs) new
              ∙ ap (map pair_of) (reads_sent xs c k r.head r.count v l room fit)
              ∙ map-append pair_of (reads xs (place c k r.head) r.count) (v ∷ []);
          last = ap (λ (t : Ring). t.last) new;
        };
        only = record {
          others = λ j ne.
              ap (ring_link (set xs (place c k r.head r.count) v) c j) (get_or-set_other rs k j (ring_sent r a) blank ne)
              ∙ ap (λ (t : List (Slot R)). record { pairs = map pair_of t; last = (get_or rs j blank).last })
              (reads_apart xs c k r.head r.count v j (get_or rs j blank).head (get_or rs j blank).count (omega arith) ne);
          capacity = refl;
          longest = refl;
        };
        formula = ap delayed next.after;
      }

  -- the same of values that are known by equations
  pub ringed_sent : (m d : ℕ) (x : R) (delay' : ℕ → ℕ → ℕ) (c' slot a longest' : ℕ) (r : Ring) →
      c' ≡ c → slot ≡ place c k (get_or rs k blank).head (get_or rs k blank).count → a ≡ capped (earliest (m + d) (get_or rs k blank).last) → r ≡ ring_sent (get_or rs k blank) a → longest' ≡ longest →
      k < 16 → k < length rs → m < limit → (get_or rs k blank).count < c → unwrap_or (get_or rs k blank).last 0 ≤ limit → 16 * c ≤ length xs → d ≤ longest → Next delay delay' k d →
      Sent (ringed c xs rs delay longest) (ringed c' (set xs slot (record { arrival = a; item = x })) (set rs k r) delay' longest') k m x
  ringed_sent m d x delay' c' slot a longest' r ec es ea er el l b e room early fit w next = rw (er, ec, es, ea, el) (ringed_added m d x delay' l b e room early fit w next)

-- the same where the rings share the slots evenly, of a send at a link j that is k
pub rings_sent : {R : Type 0} (xs : List (Slot R)) (rs : List Ring) (delay delay' : ℕ → ℕ → ℕ) (longest longest' k m d p j t slot a : ℕ) (x : R) (r : Ring) →
    slot ≡ place p j (get_or rs k blank).head (get_or rs k blank).count → a ≡ capped (earliest (m + t) (get_or rs k blank).last) → r ≡ ring_sent (get_or rs k blank) a → longest' ≡ longest →
    t ≡ d → j ≡ k → p ≡ ring_size (length xs) → k < 16 → k < length rs → m < limit → (get_or rs k blank).count < p → unwrap_or (get_or rs k blank).last 0 ≤ limit → d ≤ longest → Next delay delay' k d →
    Sent (ringed (ring_size (length xs)) xs rs delay longest)
    (ringed (ring_size (length (set xs slot (record { arrival = a; item = x })))) (set xs slot (record { arrival = a; item = x })) (set rs k r) delay' longest') k m x
rings_sent xs rs delay delay' longest longest' k m d p j t slot a x r es ea er el em ej ep l b e room early w next =
    let last = (get_or rs k blank).last in
    let place' = ap (λ q. place q j (get_or rs k blank).head (get_or rs k blank).count) ep ∙ ap (λ q. place (ring_size (length xs)) q (get_or rs k blank).head (get_or rs k blank).count) ej in
    ringed_sent (ring_size (length xs)) xs rs delay longest k m d x delay' (ring_size (length (set xs slot (record { arrival = a; item = x })))) slot a longest' r
    (simp length-set) (es ∙ place') (ea ∙ ap (λ q. capped (earliest (m + q) last)) em) er el l b e (omega arith) early (omega arith) w next

-- an unused network is known by its delays
pub unused_same : {R : Type 0} (n : Net R) (slots longest longest' : ℕ) (delay delay' : ℕ → ℕ → ℕ) → n ≡ unused slots delay longest → delay ≡ delay' → longest ≡ longest' → n ≡ unused slots delay' longest'
unused_same n slots longest longest' delay delay' h d l = h ∙ ap (λ (f : ℕ → ℕ → ℕ). unused slots f longest) d ∙ ap (unused slots delay') l

-- empty rings make an unused network
pub ringed_fresh : {R : Type 0} (xs : List (Slot R)) (delay : ℕ → ℕ → ℕ) (longest : ℕ) → ringed (ring_size (length xs)) xs (replicate 16 blank) delay longest ≡ unused (length xs) delay longest
ringed_fresh xs delay longest =
    ap (λ (ls : ℕ → Link _). record { links = ls; capacity = ring_size (length xs); longest = capped longest; formula = delayed delay })
    (fun_ext (λ k. ap (ring_link xs (ring_size (length xs)) k) (get_or_replicate_everywhere 16 blank k)))
