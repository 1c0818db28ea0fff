-- What every run keeps of the accepted trades: where they are, and in which order.
use Rattle.std.proofs.Common.{◌≡◌, ℕ, ◌+◌, ◌<◌, ◌≤◌, true, cond, ◌&&◌, eqb, ◌⊎◌, List, [], ◌∷◌, ◌++◌, length, get_or, set, sum_by, sym, refl, ap, ◌∙◌, subst, inl, inr, ⊎_elim, arith, length-set, get_or-set_other, get_or-set_same}
use Rattle.std.specs.List.{AllByRecursion}
use Rattle.std.specs.List.Sorted.{IsPermutation}
use Rattle.std.proofs.lemmas.Bool.{cases_eq}
use Rattle.std.proofs.lemmas.Bool.Decides.{nat_tests}
use Rattle.std.proofs.lemmas.List.Sums.{sum_by-cons, sum_by-append}
use Rattle.std.proofs.lemmas.List.Sorted.{IsPermutation-trans, IsPermutation-cons, sum_by-IsPermutation}
use Rattle.std.proofs.ByRecursion.{all_shuffled, All-weaker, All-push}
use Rattle.records.specs.declared.line.Line.{Line}
use Rattle.records.specs.declared.seat.Seat.{Seat}
use Rattle.records.specs.declared.trade.Trade.{Trade}
use Rattle.records.specs.declared.tag.Watermark.TheVariants.{At}
use Rattle.records.specs.Seat.{blank}
use Rattle.records.specs.Tag.{above}
use Rattle.records.specs.Trade.{Precedes, TradeUpto}
use Rattle.order.specs.Law.{trades_on}
use Rattle.order.proofs.Bags.{third_to_second, second_to_first, new_in_third}
use Rattle.order.proofs.Ranks.{Upto, upto_refl, upto_trans, above_upto, precedes_below, precedes_later, precedes_total}
use Rattle.order.proofs.Links.{Coming}

-- the record of a seat
abbrev pub at_seat : List Seat → ℕ → Seat
at_seat seats k = get_or seats k blank

-- seats whose watermarks and counts have not fallen
pub record Grown (seats later : List Seat) : Type 0 where
  pub long : length later ≡ length seats
  pub watermarks : (j : ℕ) → Upto (at_seat seats j).watermark (at_seat later j).watermark
  pub collected : (j : ℕ) → (at_seat seats j).collected ≤ (at_seat later j).collected
  pub submitted : (j : ℕ) → (at_seat seats j).submitted ≤ (at_seat later j).submitted

pub grown_same : (seats : List Seat) → Grown seats seats
grown_same seats = record { long = refl; watermarks = λ j. upto_refl (at_seat seats j).watermark; collected = λ j. omega arith; submitted = λ j. omega arith }

-- one record has changed, and not fallen
pub grown_set : (seats : List Seat) (k : ℕ) (s : Seat) → k < length seats → Upto (at_seat seats k).watermark s.watermark → (at_seat seats k).collected ≤ s.collected → (at_seat seats k).submitted ≤ s.submitted → Grown seats (set seats k s)
grown_set seats k s p u c m = record {
  long = length-set seats k s;
  watermarks = each (λ x y. Upto x.watermark y.watermark) u (λ x. upto_refl x.watermark);
  collected = each (λ x y. x.collected ≤ y.collected) c (λ x. omega arith);
  submitted = each (λ x y. x.submitted ≤ y.submitted) m (λ x. omega arith);
}
  where
    each : (R : Seat → Seat → Type 0) → R (at_seat seats k) s → ((x : Seat) → R x x) → (j : ℕ) → R (at_seat seats j) (at_seat (set seats k s) j)
    each R here same j =
        ⊎_elim
        (λ e. subst (λ (i : ℕ). R (at_seat seats i) (at_seat (set seats k s) i)) (sym e) (subst (R (at_seat seats k)) (sym (get_or-set_same seats k s blank p)) here))
        (λ ne. subst (R (at_seat seats j)) (sym (get_or-set_other seats k j s blank ne)) (same (at_seat seats j)))
        (cases_eq j k)

-- a trade that was collected
pub record Held (seats : List Seat) (x : Trade) : Type 0 where
  pub seat : x.seat < length seats
  pub tag : Upto (At x.tag) (at_seat seats x.seat).watermark
  pub serial : x.serial ≤ (at_seat seats x.seat).collected

-- a trade that no other seat holds up
pub record Passed (seats : List Seat) (x : Trade) : Type 0 where
  pub held : Held seats x
  pub clear : (j : ℕ) → j < length seats → (j ≡ x.seat → ⊥) → above (at_seat seats j).watermark x.tag ≡ true

-- both last as the seats grow
module _ {seats later : List Seat} (g : Grown seats later) where
  pub held_on : (x : Trade) → Held seats x → Held later x
  held_on x h = record {
    seat = omega (arith, g.long, h.seat);
    tag = upto_trans (At x.tag) (at_seat seats x.seat).watermark (at_seat later x.seat).watermark h.tag (g.watermarks x.seat);
    serial = omega (arith, g.collected x.seat, h.serial);
  }

  pub passed_on : (x : Trade) → Passed seats x → Passed later x
  passed_on x h = record {
    held = held_on x h.held;
    clear = λ j p ne. above_upto (at_seat seats j).watermark (at_seat later j).watermark x.tag (h.clear j (omega (arith, g.long)) ne) (g.watermarks j);
  }

-- a passed trade precedes every one that has yet to come
pub passed_precedes : (seats : List Seat) (a : Trade) (k : ℕ) → k < length seats → Passed seats a → (x : Trade) → Coming k (at_seat seats k).collected (at_seat seats k).watermark x → Precedes a x
passed_precedes seats a k p h x c =
    ⊎_elim
    (λ (e : k ≡ a.seat).
    let own = h.held in
    let up : Upto (At a.tag) (At x.tag) = upto_trans (At a.tag) (at_seat seats a.seat).watermark (At x.tag) own.tag (subst (λ (i : ℕ). Upto (at_seat seats i).watermark (At x.tag)) e c.tag) in
    let less : (at_seat seats a.seat).collected < x.serial = subst (λ (i : ℕ). (at_seat seats i).collected < x.serial) e c.serial in
    precedes_later a x up (sym e ∙ sym c.seat) (omega (arith, own.serial)))
    (λ (ne : k ≡ a.seat → ⊥). precedes_below a x (above_upto (at_seat seats k).watermark (At x.tag) a.tag (h.clear k p ne) c.tag))
    (cases_eq k a.seat)

-- 1 for a trade with this seat and serial, and else 0
abbrev pub named : (k n : ℕ) → Trade → ℕ
named k n x = cond (eqb x.seat k && eqb x.serial n) 1 0

-- how many trades of a list have this seat and serial
abbrev pub times : (k n : ℕ) → List Trade → ℕ
times k n xs = sum_by (named k n) xs

-- none has, where all serials of the seat are lower
times_none : (f : ℕ → ℕ) (k n : ℕ) → f k < n → (xs : List Trade) → AllByRecursion (λ x. x.serial ≤ f x.seat) xs → times k n xs ≡ 0
times_none f k n p [] h = refl
times_none f k n p (x ∷ xs) h =
    let ih : times k n xs ≡ 0 = times_none f k n p xs h.1 in
    let less : x.seat ≡ k → x.serial < n = λ e. (let q : x.serial ≤ f k = subst (λ (i : ℕ). x.serial ≤ f i) e h.0 in omega arith) in
    let here : named k n x ≡ 0 = grind (arith, nat_tests) in
    omega (arith, sum_by-cons (named k n) x xs)

-- where none has, each differs in seat or serial
none_times : (k n : ℕ) (xs : List Trade) → times k n xs ≡ 0 → AllByRecursion (λ x. k ≡ x.seat → n ≡ x.serial → ⊥) xs
none_times k n [] h = tt
none_times k n (x ∷ xs) h =
    let all = sum_by-cons (named k n) x xs in
    let here : named k n x ≡ 0 = omega arith in
    (λ e f. (let one : named k n x ≡ 1 = grind (arith, nat_tests) in omega arith), none_times k n xs (omega arith))

-- trades in rank
abbrev pub InRank : List Trade → Type 0
InRank [] = Unit {0}
InRank (x ∷ xs) = AllByRecursion (Precedes x) xs × InRank xs

-- one more that all the others precede
in_rank_push : (xs : List Trade) (x : Trade) → InRank xs → AllByRecursion (λ y. Precedes y x) xs → InRank (xs ++ x ∷ [])
in_rank_push [] x h k = (tt, tt)
in_rank_push (y ∷ xs) x h k = (All-push (Precedes y) xs x h.0 k.0, in_rank_push xs x h.1 k.1)

-- lines with their places, counted from n
abbrev pub Placed : ℕ → List Line → Type 0
Placed n [] = Unit {0}
Placed n (l ∷ ls) = (l.place ≡ n) × Placed (n + 1) ls

-- one more line with the next place
placed_push : (n : ℕ) (ls : List Line) (l : Line) → Placed n ls → l.place ≡ length ls + n → Placed n (ls ++ l ∷ [])
placed_push n [] l h e = (omega arith, tt)
placed_push n (x ∷ ls) l h e = (h.0, placed_push (n + 1) ls l h.1 (omega arith))

-- one more line is one more trade
trades_on_push : (ls : List Line) (l : Line) → trades_on (ls ++ l ∷ []) ≡ trades_on ls ++ l.trade ∷ []
trades_on_push [] l = refl
trades_on_push (x ∷ ls) l = ap (λ (r : List Trade). x.trade ∷ r) (trades_on_push ls l)

-- the accepted trades, over the seats, the buffer, the tape and the trades on the way
pub record Lined (all : List Trade) (seats : List Seat) (buffer : List Trade) (tape : List Line) (way : List Trade) : Type 0 where
  pub each_once : IsPermutation all (trades_on tape ++ (buffer ++ way))
  pub apart : (k n : ℕ) → times k n all ≤ 1
  pub numbered : AllByRecursion (λ x. x.serial ≤ (at_seat seats x.seat).submitted) all
  pub held : AllByRecursion (Held seats) buffer
  pub passed : AllByRecursion (Passed seats) (trades_on tape)
  pub behind : AllByRecursion (λ x. AllByRecursion (Precedes x) buffer) (trades_on tape)
  pub in_rank : InRank (trades_on tape)
  pub placed : Placed 1 tape

-- nothing but the seats changes
pub lined_grown : {all : List Trade} {seats later : List Seat} {buffer : List Trade} {tape : List Line} {way way' : List Trade} → Grown seats later → way' ≡ way → Lined all seats buffer tape way → Lined all later buffer tape way'
lined_grown {all} {seats} {later} {buffer} {tape} g e h = record {
  each_once = subst (λ (l : List Trade). IsPermutation all (trades_on tape ++ (buffer ++ l))) (sym e) h.each_once;
  apart = h.apart;
  numbered = All-weaker (λ x. x.serial ≤ (at_seat seats x.seat).submitted) (λ x. x.serial ≤ (at_seat later x.seat).submitted) (λ x p. omega (arith, g.submitted x.seat)) all h.numbered;
  held = All-weaker (Held seats) (Held later) (held_on g) buffer h.held;
  passed = All-weaker (Passed seats) (Passed later) (passed_on g) (trades_on tape) h.passed;
  behind = h.behind;
  in_rank = h.in_rank;
  placed = h.placed;
}

-- a trade is accepted
pub lined_submit : {all : List Trade} {seats : List Seat} {buffer : List Trade} {tape : List Line} {way way' : List Trade} (x : Trade) (s : Seat) → x.seat < length seats → x.serial ≡ (at_seat seats x.seat).submitted + 1 → s.submitted ≡ x.serial → Grown seats (set seats x.seat s) → IsPermutation (x ∷ way) way' → Lined all seats buffer tape way → Lined (x ∷ all) (set seats x.seat s) buffer tape way'
lined_submit {all} {seats} {buffer} {tape} {way} {way'} x s p e f g w h =
    let later = set seats x.seat s in
    let l = lined_grown g refl h in
    let same : at_seat later x.seat ≡ s = get_or-set_same seats x.seat s blank p in
    let own : (at_seat later x.seat).submitted ≡ s.submitted = ap (λ (y : Seat). y.submitted) same in
    record {
      each_once = IsPermutation-trans (x ∷ all) (x ∷ (trades_on tape ++ (buffer ++ way))) (trades_on tape ++ (buffer ++ way')) (IsPermutation-cons x all (trades_on tape ++ (buffer ++ way)) h.each_once) (new_in_third x (trades_on tape) buffer way way' w);
      apart = λ k n. once k n;
      numbered = (omega arith, l.numbered);
      held = l.held;
      passed = l.passed;
      behind = l.behind;
      in_rank = l.in_rank;
      placed = l.placed;
    }
  where
    once : (k n : ℕ) → times k n (x ∷ all) ≤ 1
    once k n =
        let total = sum_by-cons (named k n) x all in
        let old = h.apart k n in
        ⊎_elim
        (λ (z : named k n x ≡ 0). omega arith)
        (λ (o : (x.seat ≡ k) × (x.serial ≡ n) × (named k n x ≡ 1)).
        let none : times k n all ≡ 0 = times_none (λ i. (at_seat seats i).submitted) k n (subst (λ (i : ℕ). (at_seat seats i).submitted < n) o.0 (omega arith)) all h.numbered in
        omega arith)
        (which k n)
      where
        which : (k n : ℕ) → (named k n x ≡ 0) ⊎ ((x.seat ≡ k) × (x.serial ≡ n) × (named k n x ≡ 1))
        which k n =
            ⊎_elim
            (λ e. ⊎_elim (λ f. inr (e, f, grind (arith, nat_tests))) (λ nf. inl (grind (arith, nat_tests))) (cases_eq x.serial n))
            (λ ne. inl (grind (arith, nat_tests)))
            (cases_eq x.seat k)

-- a trade goes from the way to the buffer
pub lined_collect : {all : List Trade} {seats later : List Seat} {buffer buffer' : List Trade} {tape : List Line} {way way' : List Trade} (x : Trade) → Grown seats later → Held later x → Coming x.seat (at_seat seats x.seat).collected (at_seat seats x.seat).watermark x → IsPermutation (x ∷ buffer) buffer' → IsPermutation (x ∷ way') way → Lined all seats buffer tape way → Lined all later buffer' tape way'
lined_collect {all} {seats} {later} {buffer} {buffer'} {tape} {way} {way'} x g k c b w h =
    let l = lined_grown g refl h in
    let p : x.seat < length seats = omega (arith, g.long, k.seat) in
    record {
      each_once = IsPermutation-trans all (trades_on tape ++ (buffer ++ way)) (trades_on tape ++ (buffer' ++ way')) h.each_once (third_to_second x (trades_on tape) buffer buffer' way way' b w);
      apart = h.apart;
      numbered = l.numbered;
      held = all_shuffled (Held later) (x ∷ buffer) buffer' b (k, l.held);
      passed = l.passed;
      behind = both (trades_on tape) h.passed h.behind p;
      in_rank = h.in_rank;
      placed = h.placed;
    }
  where
    both : (ts : List Trade) → AllByRecursion (Passed seats) ts → AllByRecursion (λ y. AllByRecursion (Precedes y) buffer) ts → x.seat < length seats → AllByRecursion (λ y. AllByRecursion (Precedes y) buffer') ts
    both [] h₁ h₂ p = tt
    both (y ∷ ts) h₁ h₂ p = (all_shuffled (Precedes y) (x ∷ buffer) buffer' b (passed_precedes seats y x.seat p h₁.0 x c, h₂.0), both ts h₁.1 h₂.1 p)

-- the first trade of the buffer is released
pub lined_release : {all : List Trade} {seats later : List Seat} {buffer buffer' : List Trade} {tape : List Line} {way way' : List Trade} (l : Line) → Grown seats later → IsPermutation buffer (l.trade ∷ buffer') → AllByRecursion (TradeUpto l.trade) buffer' → ((j : ℕ) → j < length seats → (j ≡ l.trade.seat → ⊥) → above (at_seat seats j).watermark l.trade.tag ≡ true) → l.place ≡ length tape + 1 → way' ≡ way → Lined all seats buffer tape way → Lined all later buffer' (tape ++ l ∷ []) way'
lined_release {all} {seats} {later} {buffer} {buffer'} {tape} {way} {way'} l g b first clear place e h =
    let x = l.trade in
    let all_held : Held seats x × AllByRecursion (Held seats) buffer' = all_shuffled (Held seats) buffer (x ∷ buffer') b h.held in
    let fresh : AllByRecursion (λ y. x.seat ≡ y.seat → x.serial ≡ y.serial → ⊥) buffer' = none_times x.seat x.serial buffer' lone in
    let after : AllByRecursion (Precedes x) buffer' = all_after buffer' first fresh in
    let tape-is = trades_on_push tape l in
    let now-passed : Passed seats x = record { held = all_held.0; clear = clear } in
    let split = cut (trades_on tape) h.behind in
    record {
      each_once = subst (λ (r : List Trade). IsPermutation all (r ++ (buffer' ++ way'))) (sym tape-is)
          (subst (λ (r : List Trade). IsPermutation all ((trades_on tape ++ x ∷ []) ++ (buffer' ++ r))) (sym e)
          (IsPermutation-trans all (trades_on tape ++ (buffer ++ way)) ((trades_on tape ++ x ∷ []) ++ (buffer' ++ way)) h.each_once (second_to_first x (trades_on tape) buffer buffer' way b)));
      apart = h.apart;
      numbered = All-weaker (λ x. x.serial ≤ (at_seat seats x.seat).submitted) (λ x. x.serial ≤ (at_seat later x.seat).submitted) (λ x p. omega (arith, g.submitted x.seat)) all h.numbered;
      held = All-weaker (Held seats) (Held later) (held_on g) buffer' all_held.1;
      passed = subst (λ (r : List Trade). AllByRecursion (Passed later) r) (sym tape-is) (All-push (Passed later) (trades_on tape) x (All-weaker (Passed seats) (Passed later) (passed_on g) (trades_on tape) h.passed) (passed_on g x now-passed));
      behind = subst (λ (r : List Trade). AllByRecursion (λ y. AllByRecursion (Precedes y) buffer') r) (sym tape-is) (All-push (λ y. AllByRecursion (Precedes y) buffer') (trades_on tape) x split.1 after);
      in_rank = subst InRank (sym tape-is) (in_rank_push (trades_on tape) x h.in_rank split.0);
      placed = placed_push 1 tape l h.placed place;
    }
  where
    lone : times l.trade.seat l.trade.serial buffer' ≡ 0
    lone =
        let k = l.trade.seat in
        let n = l.trade.serial in
        let most = h.apart k n in
        let all-is = sum_by-IsPermutation (named k n) all (trades_on tape ++ (buffer ++ way)) h.each_once in
        let s₁ = sum_by-append (named k n) (trades_on tape) (buffer ++ way) in
        let s₂ = sum_by-append (named k n) buffer way in
        let s₃ = sum_by-IsPermutation (named k n) buffer (l.trade ∷ buffer') b in
        let s₄ = sum_by-cons (named k n) l.trade buffer' in
        let one : named k n l.trade ≡ 1 = grind (arith, nat_tests) in
        omega arith

    all_after : (ys : List Trade) → AllByRecursion (TradeUpto l.trade) ys → AllByRecursion (λ y. l.trade.seat ≡ y.seat → l.trade.serial ≡ y.serial → ⊥) ys → AllByRecursion (Precedes l.trade) ys
    all_after [] f₁ f₂ = tt
    all_after (y ∷ ys) f₁ f₂ = (precedes_total l.trade y f₁.0 f₂.0, all_after ys f₁.1 f₂.1)

    cut : (ts : List Trade) → AllByRecursion (λ y. AllByRecursion (Precedes y) buffer) ts → AllByRecursion (λ y. Precedes y l.trade) ts × AllByRecursion (λ y. AllByRecursion (Precedes y) buffer') ts
    cut [] f = (tt, tt)
    cut (y ∷ ts) f =
        let here : Precedes y l.trade × AllByRecursion (Precedes y) buffer' = all_shuffled (Precedes y) buffer (l.trade ∷ buffer') b f.0 in
        let rest = cut ts f.1 in
        ((here.0, rest.0), (here.1, rest.1))
