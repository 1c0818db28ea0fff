-- The seats' counts agree with the buffer at the start, and still do after each change of a seat or of the buffer. So
-- each trade there is of a seat, and the buffer has room for any that is yet to be collected.
use Rattle.std.proofs.Common.{◌≡◌, ℕ, zero, suc, ◌+◌, ◌*◌, ◌<◌, ◌≤◌, true, cond, ◌&&◌, eqb, ltb, leb, List, [], ◌∷◌, length, get_or, set, count_by, vec_items, sym, refl, ap, ◌∙◌, subst, ⊎_elim, arith, length-set, get_or-set_other, get_or-set_same}
use Rattle.std.proofs.lemmas.List.{get_or_past}
use Rattle.std.specs.List.Sorted.{IsPermutation}
use Rattle.std.specs.List.{ContainsAt, AllByRecursion}
use Rattle.std.proofs.ByRecursion.{all-has, all_shuffled}
use Rattle.std.proofs.lemmas.List.Sorted.{sum_by-IsPermutation}
use Rattle.std.proofs.lemmas.List.Sums.{get_or-le-sum_by, sum_by-cons}
use Rattle.std.proofs.lemmas.Bool.{and_parts, cases_Bool, cases_eq, cases_lt, eqb-true, leb-true}
use Rattle.std.proofs.lemmas.Bool.Decides.{nat_tests, when_false, when_true}
use Rattle.records.specs.declared.message.Message.{Message}
use Rattle.records.specs.declared.message.Message.TheVariants as message
use Rattle.records.specs.declared.seat.Seat.{Seat}
use Rattle.records.specs.declared.tag.Watermark.{Watermark}
use Rattle.records.specs.declared.trade.Trade.{Trade}
use Rattle.records.specs.Seat.{is_next}
use Rattle.records.specs.Seat.{blank, collected_with, released_once}
use Rattle.records.specs.Offer.{most_pending, most_trades}
use Rattle.session.specs.declared.session.Session.{Session}
use Rattle.session.specs.Balance.{FewPending, FewTrades, SentFirst, Tallied, buffer_room, of_seat}
use Rattle.session.specs.Collect.{Put}
use Rattle.session.specs.Opening.{most_seats}

-- one seat's counts, with so many of its trades in the buffer
pub record Counts (s : Seat) (buffered : ℕ) : Type 0 where
  pub in_buffer : s.released + buffered ≡ s.collected
  pub sent : s.collected ≤ s.submitted
  pub pending : s.submitted ≤ s.released + most_pending
  pub most : s.submitted ≤ most_trades

-- what a session keeps of its seats and its buffer, seat by seat
pub record Balanced (seats : List Seat) (buffer : List Trade) : Type 0 where
  pub few : length seats ≤ most_seats
  pub known : AllByRecursion (λ x. x.seat < length seats) buffer
  pub tallied : (k : ℕ) → k < length seats → Counts (get_or seats k blank) (of_seat k buffer)

-- 1 for a seat that is the given one
abbrev is_one : (k a : ℕ) → ℕ
is_one k a = cond (eqb a k) 1 0

-- 1 for a trade of the seat
abbrev one : ℕ → Trade → ℕ
one k x = is_one k x.seat

-- a trade counts with its seat
of_seat_own : (k : ℕ) (x : Trade) (xs : List Trade) → x.seat ≡ k → of_seat k (x ∷ xs) ≡ of_seat k xs + 1
of_seat_own k x xs e = let c = sum_by-cons (one k) x xs in let o : one k x ≡ 1 = grind (arith, nat_tests) in omega arith

-- and with no other
of_seat_other : (k : ℕ) (x : Trade) (xs : List Trade) → (x.seat ≡ k → ⊥) → of_seat k (x ∷ xs) ≡ of_seat k xs
of_seat_other k x xs n = let c = sum_by-cons (one k) x xs in let o : one k x ≡ 0 = grind (arith, nat_tests) in omega arith

-- the order of trades does not matter to the counts
of_seat_shuffled : (k : ℕ) (xs ys : List Trade) → IsPermutation xs ys → of_seat k ys ≡ of_seat k xs
of_seat_shuffled k = sum_by-IsPermutation (one k)

-- a list without trades of the seats from n on
known_below : (n : ℕ) (xs : List Trade) → ((k : ℕ) → n ≤ k → of_seat k xs ≡ 0) → AllByRecursion (λ x. x.seat < n) xs
known_below n [] h = tt
known_below n (x ∷ xs) h = (
  ⊎_elim (λ lt. lt) (λ le. absurd (let own = of_seat_own x.seat x xs refl in let none = h x.seat le in omega arith)) (cases_lt x.seat n),
  known_below n xs (λ k le. let c = sum_by-cons (one k) x xs in let none = h k le in omega arith),
)

-- and the other way round
none_from : (n k : ℕ) (xs : List Trade) → n ≤ k → AllByRecursion (λ x. x.seat < n) xs → of_seat k xs ≡ 0
none_from n k [] le h = refl
none_from n k (x ∷ xs) le h = of_seat_other k x xs (λ e. let lt = h.0 in omega arith) ∙ none_from n k xs le h.1

-- the four facts that a session keeps, seat by seat
balanced : (seats : List Seat) (buffer : List Trade) → length seats ≤ most_seats → Tallied seats buffer → SentFirst seats → FewPending seats → FewTrades seats → Balanced seats buffer
balanced seats buffer few tallied sent pending trades = record {
  few = few;
  known = known_below (length seats) buffer (λ k le. let t = tallied k in let e = get_or_past seats k blank le in let c = ap (λ (s : Seat). s.collected) e in omega arith);
  tallied = λ k lt. record { in_buffer = tallied k; sent = sent k; pending = pending k; most = trades k };
}

-- so every session is balanced
pub in_balance : (s : Session) → Balanced (vec_items s.state.seats) s.state.buffer
in_balance s = balanced (vec_items s.state.seats) s.state.buffer s.few s.tallied s.sent s.pending s.trades

-- what holds of each seat's counts holds of every number, since a seat that does not exist has none
each_seat : (seats : List Seat) (buffer : List Trade) → Balanced seats buffer → (k : ℕ) → Counts (get_or seats k blank) (of_seat k buffer)
each_seat seats buffer b k = ⊎_elim
    (λ lt. b.tallied k lt)
    (λ le. subst (λ (s : Seat). Counts s (of_seat k buffer)) (sym (get_or_past seats k blank le)) (record { in_buffer = omega (arith, none_from (length seats) k buffer le b.known); sent = omega arith; pending = omega arith; most = omega arith }))
    (cases_lt k (length seats))

pub balanced_tallied : (seats : List Seat) (buffer : List Trade) → Balanced seats buffer → Tallied seats buffer
balanced_tallied seats buffer b k = (each_seat seats buffer b k).in_buffer

pub balanced_sent : (seats : List Seat) (buffer : List Trade) → Balanced seats buffer → SentFirst seats
balanced_sent seats buffer b k = (each_seat seats buffer b k).sent

pub balanced_pending : (seats : List Seat) (buffer : List Trade) → Balanced seats buffer → FewPending seats
balanced_pending seats buffer b k = (each_seat seats buffer b k).pending

pub balanced_trades : (seats : List Seat) (buffer : List Trade) → Balanced seats buffer → FewTrades seats
balanced_trades seats buffer b k = (each_seat seats buffer b k).most

-- a seat's record and the buffer change: the balance stays if the two agree, and the buffer has as many of each other seat
balanced_set : (seats : List Seat) (buffer buffer' : List Trade) (k : ℕ) (s : Seat) → Balanced seats buffer → AllByRecursion (λ x. x.seat < length seats) buffer' → (k < length seats → Counts s (of_seat k buffer')) → ((j : ℕ) → (j ≡ k → ⊥) → of_seat j buffer' ≡ of_seat j buffer) → Balanced (set seats k s) buffer'
balanced_set seats buffer buffer' k s b known own others =
    let long = length-set seats k s in record {
      few = let few = b.few in omega arith;
      known = subst (λ (n : ℕ). AllByRecursion (λ x. x.seat < n) buffer') (sym long) known;
      tallied = λ j lt. let inside : j < length seats = omega arith in ⊎_elim
          (λ e. let here : k < length seats = omega arith in subst (λ (i : ℕ). Counts (get_or (set seats k s) i blank) (of_seat i buffer')) (sym e) (subst (λ (z : Seat). Counts z (of_seat k buffer')) (sym (get_or-set_same seats k s blank here)) (own here)))
          (λ n. subst (λ (z : Seat). Counts z (of_seat j buffer')) (sym (get_or-set_other seats k j s blank n)) (subst (Counts (get_or seats j blank)) (sym (others j n)) (b.tallied j inside)))
          (cases_eq j k);
    }

-- a seat's record may change in all but its counts
pub balanced_same : (seats : List Seat) (buffer : List Trade) (k : ℕ) (s : Seat) → Balanced seats buffer → s.submitted ≡ (get_or seats k blank).submitted → s.collected ≡ (get_or seats k blank).collected → s.released ≡ (get_or seats k blank).released → Balanced (set seats k s) buffer
balanced_same seats buffer k s b e₁ e₂ e₃ = balanced_set seats buffer buffer k s b b.known
    (λ lt. let t = b.tallied k lt in record { in_buffer = omega arith; sent = omega arith; pending = omega arith; most = omega arith })
    (λ _ _. refl)

-- a trade was collected, and went into the buffer
pub balanced_collect : (seats : List Seat) (buffer buffer' : List Trade) (k : ℕ) (m : Watermark) (x : Trade) → k < length seats → is_next (get_or seats k blank) k x ≡ true → IsPermutation (x ∷ buffer) buffer' → Balanced seats buffer → Balanced (set seats k (collected_with ((get_or seats k blank).collected + 1) m (get_or seats k blank))) buffer'
balanced_collect seats buffer buffer' k m x lt next all b =
    let s = get_or seats k blank in
    let parts = and_parts (eqb x.seat k && eqb x.serial (s.collected + 1)) (leb x.serial s.submitted) next in
    let named = and_parts (eqb x.seat k) (eqb x.serial (s.collected + 1)) parts.0 in
    let seat : x.seat ≡ k = eqb-true x.seat k named.0 in
    let serial : x.serial ≡ s.collected + 1 = eqb-true x.serial (s.collected + 1) named.1 in
    let sent : x.serial ≤ s.submitted = leb-true x.serial s.submitted parts.1 in
    balanced_set seats buffer buffer' k (collected_with (s.collected + 1) m s) b
    (all_shuffled (λ y. y.seat < length seats) (x ∷ buffer) buffer' all (omega arith, b.known))
    (λ _.
    let t = b.tallied k lt in
    let c = of_seat_shuffled k (x ∷ buffer) buffer' all in
    let d = of_seat_own k x buffer seat in
    record { in_buffer = omega arith; sent = omega arith; pending = t.pending; most = t.most })
    (λ j n. of_seat_shuffled j (x ∷ buffer) buffer' all ∙ of_seat_other j x buffer (λ e. n (sym e ∙ seat)))

-- nothing went into the buffer
put_nothing : (seats : List Seat) (buffer buffer' : List Trade) (k n : ℕ) (m : Watermark) → (n ≡ (get_or seats k blank).collected) × (buffer' ≡ buffer) → Balanced seats buffer → Balanced (set seats k (collected_with n m (get_or seats k blank))) buffer'
put_nothing seats buffer buffer' k n m put b = subst (Balanced (set seats k (collected_with n m (get_or seats k blank)))) (sym put.1) (balanced_same seats buffer k (collected_with n m (get_or seats k blank)) b refl put.0 refl)

-- a message was collected: a trade that is the seat's next, one that is stray, or no trade
pub put_balanced : (seats : List Seat) (buffer buffer' : List Trade) (k n : ℕ) (m : Watermark) (v : Message) → k < length seats → Put (get_or seats k blank) k v n buffer buffer' → Balanced seats buffer → Balanced (set seats k (collected_with n m (get_or seats k blank))) buffer'
put_balanced seats buffer buffer' k n m (message.Trade x) lt put b = ⊎_elim
    (λ e. let p = when_true _ _ e put in subst (λ (i : ℕ). Balanced (set seats k (collected_with i m (get_or seats k blank))) buffer') (sym p.0) (balanced_collect seats buffer buffer' k m x lt e p.1 b))
    (λ e. put_nothing seats buffer buffer' k n m (when_false _ _ e put) b)
    (cases_Bool (is_next (get_or seats k blank) k x))
put_balanced seats buffer buffer' k n m (message.Beat g) lt put b = put_nothing seats buffer buffer' k n m put b
put_balanced seats buffer buffer' k n m message.End lt put b = put_nothing seats buffer buffer' k n m put b

-- a trade was released
pub balanced_release : (seats : List Seat) (buffer : List Trade) (x : Trade) (others : List Trade) → IsPermutation buffer (x ∷ others) → Balanced seats buffer → Balanced (set seats x.seat (released_once (get_or seats x.seat blank))) others
balanced_release seats buffer x others all b =
    let k = x.seat in
    let s = get_or seats k blank in
    balanced_set seats buffer others k (released_once s) b
    (all_shuffled (λ y. y.seat < length seats) buffer (x ∷ others) all b.known).1
    (λ lt.
    let t = b.tallied k lt in
    let c = of_seat_shuffled k buffer (x ∷ others) all in
    let d = of_seat_own k x others refl in
    record { in_buffer = omega arith; sent = t.sent; pending = omega arith; most = t.most })
    (λ j n. sym (of_seat_other j x others (λ e. n (sym e))) ∙ of_seat_shuffled j buffer (x ∷ others) all)

-- a trade of the buffer is of one of the seats, which has not had all its trades released
pub held_known : (seats : List Seat) (buffer : List Trade) (x : Trade) → ContainsAt buffer x → Balanced seats buffer → (x.seat < length seats) × ((get_or seats x.seat blank).released < most_trades)
held_known seats buffer x held b =
    let k = x.seat in
    let lt : k < length seats = all-has (λ y. y.seat < length seats) buffer x b.known held in
    let t = b.tallied k lt in
    let own : one k x ≡ 1 = grind (arith, nat_tests) in
    let at = ap (one k) (held.2 x) in
    let some = get_or-le-sum_by (one k) buffer held.0 x held.1 in
    (lt, omega arith)

-- 1 for a seat before the given one
abbrev before_one : (n a : ℕ) → ℕ
before_one n a = cond (ltb a n) 1 0

-- 1 for a trade of a seat before the given one
abbrev first_one : ℕ → Trade → ℕ
first_one n x = before_one n x.seat

-- how many trades are of the seats before the given one
abbrev of_first : ℕ → List Trade → ℕ
of_first n xs = count_by (λ x. ltb x.seat n) xs

-- a seat is before the next one if it is before this one, or is this one
before_next : (n a : ℕ) → before_one (suc n) a ≡ before_one n a + is_one n a
before_next n a = grind (arith, nat_tests)

-- so the trades of the seats before the next one are those of the seats before this one, and its own
of_first_next : (n : ℕ) (xs : List Trade) → of_first (suc n) xs ≡ of_first n xs + of_seat n xs
of_first_next n [] = refl
of_first_next n (x ∷ xs) =
    let a = sum_by-cons (first_one (suc n)) x xs in
    let b = sum_by-cons (first_one n) x xs in
    let c = sum_by-cons (one n) x xs in
    let d = before_next n x.seat in
    let e = of_first_next n xs in
    omega arith

-- no seat is before the first
before_none : (a : ℕ) → before_one 0 a ≡ 0
before_none a = grind (arith, nat_tests)

-- so no trade is of one
of_first_none : (xs : List Trade) → of_first 0 xs ≡ 0
of_first_none [] = refl
of_first_none (x ∷ xs) = let a = sum_by-cons (first_one 0) x xs in let b = before_none x.seat in let c = of_first_none xs in omega arith

-- a seat that is before the given one counts
before_some : (n a : ℕ) → a < n → before_one n a ≡ 1
before_some n a lt = grind (arith, nat_tests)

-- where every trade is of one of the first n seats, the count is the length
of_first_all : (n : ℕ) (xs : List Trade) → AllByRecursion (λ x. x.seat < n) xs → of_first n xs ≡ length xs
of_first_all n [] h = refl
of_first_all n (x ∷ xs) h = let a = sum_by-cons (first_one n) x xs in let b = before_some n x.seat h.0 in let c = of_first_all n xs h.1 in omega arith

-- with at most 16 trades of each seat, and fewer of seat k, the first n seats have at most 16 each, and fewer if k is among them
of_first_few : (k : ℕ) (xs : List Trade) (n : ℕ) → ((j : ℕ) → j < n → of_seat j xs + is_one j k ≤ most_pending) → of_first n xs + before_one n k ≤ n * most_pending
of_first_few k xs zero h = let a = of_first_none xs in let b = before_none k in omega arith
of_first_few k xs (suc n) h =
    let a = of_first_next n xs in
    let b = before_next n k in
    let c = of_first_few k xs n (λ j lt. h j (omega arith)) in
    let d = h n (omega arith) in
    omega arith

-- where no seat has more than 16 trades with one more of seat k, the buffer has room for them
room_with : (seats : List Seat) (buffer : List Trade) (k : ℕ) → Balanced seats buffer → ((j : ℕ) → j < length seats → of_seat j buffer + is_one j k ≤ most_pending) → length buffer + before_one (length seats) k ≤ buffer_room
room_with seats buffer k b each =
    let few = b.few in
    let all = of_first_all (length seats) buffer b.known in
    let sum = of_first_few k buffer (length seats) each in
    omega arith

-- while a seat has a trade that is not yet collected, the buffer has room for one
pub buffer_fits : (seats : List Seat) (buffer : List Trade) (k : ℕ) → k < length seats → (get_or seats k blank).collected < (get_or seats k blank).submitted → Balanced seats buffer → length buffer < buffer_room
buffer_fits seats buffer k lt due b =
    let own = before_some (length seats) k lt in
    let sum = room_with seats buffer k b (λ j in'. let t = b.tallied j in' in grind (arith, nat_tests)) in
    omega arith

-- the buffer never holds more than it has room for
pub balanced_room : (seats : List Seat) (buffer : List Trade) → Balanced seats buffer → length buffer ≤ buffer_room
balanced_room seats buffer b =
    let sum = room_with seats buffer (length seats) b (λ j in'. let t = b.tallied j in' in grind (arith, nat_tests)) in
    omega arith
