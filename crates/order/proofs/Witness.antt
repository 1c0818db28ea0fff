-- A session of two seats that settles: each trades on the one point, and the quicker stands first.
use Rattle.std.proofs.Common.{◌≡◌, ℕ, zero, suc, ◌<◌, ◌≤◌, Bool, true, false, cond, eqb, List, [], ◌∷◌, ◌++◌, set, Some, None, Ok, unwrap_or, sym, refl, ap, ◌∙◌, subst, arith}
use Rattle.std.proofs.lemmas.List.Sorted.{IsPermutation-refl}
use Rattle.std.proofs.lemmas.Bool.{eq-eqb, ne_eqb, cond-true, cond-false}
use Rattle.network.specs.Network.{Link, Net, Added, Only, Sent, Taken, accepts, idle, is_waiting, limit}
use Rattle.clock.specs.StopClock.{marked, unmarked}
use Rattle.lines.specs.Pages.{Page, blank_page}
use Rattle.book.specs.declared.order.Side.TheVariants.{Buy}
use Rattle.records.specs.declared.batch.Batch.{Batch}
use Rattle.records.specs.declared.line.Line.{Line}
use Rattle.records.specs.declared.message.Kind.TheVariants as kind
use Rattle.records.specs.declared.message.Message.{Message}
use Rattle.records.specs.declared.message.Message.TheVariants as message
use Rattle.records.specs.declared.offer.Offer.{Offer}
use Rattle.records.specs.declared.seat.Seat.{Seat}
use Rattle.records.specs.declared.tag.Watermark.TheVariants.{Top}
use Rattle.records.specs.declared.trade.Trade.{Trade}
use Rattle.records.specs.Message.{stamp}
use Rattle.records.specs.Market.{no_points}
use Rattle.records.specs.Market.{one_point_more}
use Rattle.records.specs.Market.{open_batch, sealed_once}
use Rattle.records.specs.Seat.{blank, served_with, submitted_once, ended_now, collected_with, released_once}
use Rattle.session.specs.Collect.{Collects}
use Rattle.session.specs.Deliver.{Delivers}
use Rattle.session.specs.End.{Ends}
use Rattle.session.specs.Opening.{Fresh}
use Rattle.session.specs.Point.{Points}
use Rattle.session.specs.Release.{Released, holds_up}
use Rattle.session.specs.Seal.{Dealt, DealtLink, Seals, due}
use Rattle.session.specs.Submit.{Submits}
use Rattle.session.specs.World.{World, seat_of}
use Rattle.order.specs.declared.event.Event.{Event}
use Rattle.order.specs.declared.event.Event.TheVariants as event
use Rattle.order.specs.declared.event.Outcome.{Outcome}
use Rattle.order.specs.Law.{SomeSettles}
use Rattle.order.specs.Run.{Run}

-- a network without a formula whose records arrive at once
module _ {R : Type 0} where
  abbrev prompt : (ℕ → Link R) → Net R
  prompt links = record { links = links; capacity = 64; longest = 0; formula = λ _ _ _. None }

  abbrev longer : Link R → ℕ → R → Link R
  longer l m r = record { pairs = l.pairs ++ (m, r) ∷ []; last = Some m }

  abbrev rest_of : List (ℕ × R) → List (ℕ × R)
  rest_of [] = []
  rest_of (p ∷ ps) = ps

  abbrev shorter : Link R → Link R
  shorter l = record { pairs = rest_of l.pairs; last = l.last }

  -- the links at which a test passes are changed
  abbrev changed : (ℕ → Link R) → (ℕ → Bool) → (Link R → Link R) → ℕ → Link R
  changed links here f = λ j. cond (here j) (f (links j)) (links j)

  abbrev put : (ℕ → Link R) → (k m : ℕ) → R → ℕ → Link R
  put links k m r = changed links (λ j. eqb j k) (λ l. longer l m r)

  abbrev pull : (ℕ → Link R) → ℕ → ℕ → Link R
  pull links k = changed links (λ j. eqb j k) shorter

  -- a change at one link leaves all else of the network
  only_here : (links : ℕ → Link R) (k : ℕ) (f : Link R → Link R) → Only (prompt links) (prompt (changed links (λ j. eqb j k) f)) k
  only_here links k f = record {
    others = λ j ne. cond-false (eqb j k) (f (links j)) (links j) (ne_eqb j k ne);
    capacity = refl;
    longest = refl;
  }

  is_here : (links : ℕ → Link R) (k : ℕ) (f : Link R → Link R) → changed links (λ j. eqb j k) f k ≡ f (links k)
  is_here links k f = cond-true (eqb k k) (f (links k)) (links k) (eq-eqb k k refl)

  at_once : (l : Link R) (m : ℕ) (r : R) → unwrap_or l.last 0 ≤ m → m < limit → Added None 0 l (longer l m r) m r
  at_once l m r p q = record { arrival = m; follows = tt; after = omega arith; before = omega arith; cap = omega arith; pairs = refl; last = refl }

  put_sent : (links : ℕ → Link R) (k m : ℕ) (r : R) → accepts (prompt links) k m ≡ true → unwrap_or (links k).last 0 ≤ m → m < limit → Sent (prompt links) (prompt (put links k m r)) k m r
  put_sent links k m r room p q = record {
    accepted = room;
    added = subst (λ (l : Link R). Added None 0 (links k) l m r) (sym (is_here links k (λ l. longer l m r))) (at_once (links k) m r p q);
    only = only_here links k (λ l. longer l m r);
    formula = refl;
  }

  pull_taken : (links : ℕ → Link R) (k m a : ℕ) (r : R) → is_waiting (prompt links) k m ≡ true → (links k).pairs ≡ (a, r) ∷ rest_of (links k).pairs → Taken (prompt links) (prompt (pull links k)) k m r
  pull_taken links k m a r due e =
      let is = is_here links k shorter in
      record {
        waited = due;
        arrival = a;
        pairs = e ∙ ap (λ (l : Link R). (a, r) ∷ l.pairs) (sym is);
        last = ap (λ (l : Link R). l.last) is;
        only = only_here links k shorter;
        formula = refl;
      }

-- a batch sent over links that were never used
all_dealt : (due : ℕ → Bool) (m : ℕ) (b : Batch) → m < limit → Dealt due (prompt (λ _. idle)) (prompt (changed (λ _. idle) due (λ l. longer l m b))) m b
all_dealt due m b p = record { links = λ k. link (due k); capacity = refl; longest = refl; formula = λ k i j. refl }
  where
    link : (d : Bool) → DealtLink d None 0 idle (cond d (longer idle m b) idle) m b
    link true = at_once idle m b (omega arith) p
    link false = refl

-- what each call leaves
abbrev pointed : World → (t : ℕ) → Page ℕ → World
pointed w t page = record {
  times = w.times;
  last = t;
  market = one_point_more w.market;
  seats = w.seats;
  buffer = w.buffer;
  points = page;
  tape = w.tape;
  forward = w.forward;
  reverse = w.reverse;
  clock = w.clock;
}

abbrev sealed_at : World → ℕ → World
sealed_at w t = record {
  times = w.times;
  last = t;
  market = sealed_once w.market t;
  seats = w.seats;
  buffer = w.buffer;
  points = w.points;
  tape = w.tape;
  forward = prompt (changed w.forward.links (due w.seats) (λ l. longer l t (open_batch w.market)));
  reverse = w.reverse;
  clock = w.clock;
}

abbrev delivered : World → (t k : ℕ) → Batch → World
delivered w t k b = record {
  times = w.times;
  last = t;
  market = w.market;
  seats = set w.seats k (served_with b (seat_of w k));
  buffer = w.buffer;
  points = w.points;
  tape = w.tape;
  forward = prompt (pull w.forward.links k);
  reverse = w.reverse;
  clock = marked w.clock k t;
}

abbrev sent : World → (t k : ℕ) → (Seat → Seat) → Message → World
sent w t k change m = record {
  times = w.times;
  last = t;
  market = w.market;
  seats = set w.seats k (change (seat_of w k));
  buffer = w.buffer;
  points = w.points;
  tape = w.tape;
  forward = w.forward;
  reverse = prompt (put w.reverse.links k t m);
  clock = w.clock;
}

abbrev collected : World → (t k : ℕ) → Message → List Trade → World
collected w t k m buffer = record {
  times = w.times;
  last = t;
  market = w.market;
  seats = set w.seats k (collected_with 1 (stamp m) (seat_of w k));
  buffer = buffer;
  points = w.points;
  tape = w.tape;
  forward = w.forward;
  reverse = prompt (pull w.reverse.links k);
  clock = w.clock;
}

abbrev released : World → (seat : ℕ) → List Trade → Page Line → World
released w k buffer page = record {
  times = w.times;
  last = w.last;
  market = w.market;
  seats = set w.seats k (released_once (seat_of w k));
  buffer = buffer;
  points = w.points;
  tape = page;
  forward = w.forward;
  reverse = w.reverse;
  clock = w.clock;
}

-- what is sent and written
abbrev batch : Batch
batch = record { number = 1; first = 1; count = 1 }

abbrev offer : Offer
offer = record { trigger = 1; side = Buy; price = 10; quantity = 5 }

abbrev slow : Trade
slow = record { seat = 0; serial = 1; tag = record { batch = 1; elapsed = 3 }; trigger = 1; side = Buy; price = 10; quantity = 5 }

abbrev quick : Trade
quick = record { seat = 1; serial = 1; tag = record { batch = 1; elapsed = 2 }; trigger = 1; side = Buy; price = 10; quantity = 5 }

abbrev first_line : Line
first_line = record { place = 1; trade = quick }

abbrev second_line : Line
second_line = record { place = 2; trade = slow }

-- a line that is not written yet
abbrev no_line : Line
no_line = record { place = 0; trade = slow }

abbrev no_lines : Page Line
no_lines = blank_page (no_line ∷ no_line ∷ [])

abbrev one_line : Page Line
one_line = record { lines = first_line ∷ no_line ∷ []; used = 1 }

abbrev two_lines : Page Line
two_lines = record { lines = first_line ∷ second_line ∷ []; used = 2 }

abbrev one_point : Page ℕ
one_point = record { lines = 7 ∷ []; used = 1 }

-- the session
abbrev w₀ : World
w₀ = record {
  times = record { horizon = 10; window = 11 };
  last = 0;
  market = no_points;
  seats = blank ∷ blank ∷ [];
  buffer = [];
  points = blank_page (0 ∷ []);
  tape = no_lines;
  forward = prompt (λ _. idle);
  reverse = prompt (λ _. idle);
  clock = unmarked;
}

abbrev w₁ : World
w₁ = pointed w₀ 1 one_point

abbrev w₂ : World
w₂ = sealed_at w₁ 2

abbrev w₃ : World
w₃ = delivered w₂ 3 0 batch

abbrev w₄ : World
w₄ = delivered w₃ 4 1 batch

abbrev w₅ : World
w₅ = sent w₄ 6 0 submitted_once (message.Trade slow)

abbrev w₆ : World
w₆ = sent w₅ 6 1 submitted_once (message.Trade quick)

abbrev w₇ : World
w₇ = sent w₆ 7 0 ended_now message.End

abbrev w₈ : World
w₈ = sent w₇ 7 1 ended_now message.End

abbrev w₉ : World
w₉ = collected w₈ 8 0 (message.Trade slow) (slow ∷ [])

abbrev w₁₀ : World
w₁₀ = collected w₉ 8 0 message.End (slow ∷ [])

abbrev w₁₁ : World
w₁₁ = collected w₁₀ 8 1 (message.Trade quick) (quick ∷ slow ∷ [])

abbrev w₁₂ : World
w₁₂ = collected w₁₁ 8 1 message.End (quick ∷ slow ∷ [])

abbrev w₁₃ : World
w₁₃ = released w₁₂ 1 (slow ∷ []) one_line

abbrev w₁₄ : World
w₁₄ = released w₁₃ 0 [] two_lines

-- what holds of each of two seats
of_two : (P : ℕ → Type 0) → P 0 → P 1 → (k : ℕ) → k < 2 → P k
of_two P a b zero p = a
of_two P a b (suc zero) p = b
of_two P a b (suc (suc k)) p = absurd (omega arith)

fresh : Fresh w₀
fresh = record {
  plan = record { times = w₀.times; seats = 2 };
  laid = record { some = omega arith; apart = omega arith; near = omega arith; far = omega arith; few = omega arith };
  opening = refl;
  tape = refl;
  forward = λ k. refl;
  reverse = λ k. refl;
  clock = refl;
}

s₁ : Points w₀ 1 7 (Ok 1) w₁
s₁ = (refl, record { numbered = refl; page = one_point; wrote = record { count = refl; front = refl; back = refl; long = refl }; after = refl })

s₂ : Seals w₁ 2 (Ok 1) w₂
s₂ = (refl, record { numbered = refl; net = w₂.forward; dealt = all_dealt (due w₁.seats) 2 batch (omega arith); after = refl })

s₃ : Delivers w₂ 3 0 (Ok batch) w₃
s₃ = (refl, record { net = w₃.forward; taken = pull_taken w₂.forward.links 0 3 2 batch refl refl; after = refl })

s₄ : Delivers w₃ 4 1 (Ok batch) w₄
s₄ = (refl, record { net = w₄.forward; taken = pull_taken w₃.forward.links 1 4 2 batch refl refl; after = refl })

s₅ : Submits w₄ 6 0 offer (Ok 1) w₅
s₅ = (refl, record { numbered = refl; net = w₅.reverse; sent = put_sent w₄.reverse.links 0 6 (message.Trade slow) refl (omega arith) (omega arith); after = refl })

s₆ : Submits w₅ 6 1 offer (Ok 1) w₆
s₆ = (refl, record { numbered = refl; net = w₆.reverse; sent = put_sent w₅.reverse.links 1 6 (message.Trade quick) refl (omega arith) (omega arith); after = refl })

s₇ : Ends w₆ 7 0 (Ok (tt {0})) w₇
s₇ = (refl, record { net = w₇.reverse; sent = put_sent w₆.reverse.links 0 7 message.End refl (omega arith) (omega arith); after = refl })

s₈ : Ends w₇ 7 1 (Ok (tt {0})) w₈
s₈ = (refl, record { net = w₈.reverse; sent = put_sent w₇.reverse.links 1 7 message.End refl (omega arith) (omega arith); after = refl })

s₉ : Collects w₈ 8 0 (Ok kind.Trade) w₉
s₉ = (
  refl,
  record {
    message = message.Trade slow;
    named = refl;
    net = w₉.reverse;
    taken = pull_taken w₈.reverse.links 0 8 6 (message.Trade slow) refl refl;
    count = 1;
    buffer = slow ∷ [];
    put = (refl, IsPermutation-refl (slow ∷ []));
    after = refl;
  },
)

s₁₀ : Collects w₉ 8 0 (Ok kind.End) w₁₀
s₁₀ = (
  refl,
  record {
    message = message.End;
    named = refl;
    net = w₁₀.reverse;
    taken = pull_taken w₉.reverse.links 0 8 7 message.End refl refl;
    count = 1;
    buffer = slow ∷ [];
    put = (refl, refl);
    after = refl;
  },
)

s₁₁ : Collects w₁₀ 8 1 (Ok kind.Trade) w₁₁
s₁₁ = (
  refl,
  record {
    message = message.Trade quick;
    named = refl;
    net = w₁₁.reverse;
    taken = pull_taken w₁₀.reverse.links 1 8 6 (message.Trade quick) refl refl;
    count = 1;
    buffer = quick ∷ slow ∷ [];
    put = (refl, IsPermutation-refl (quick ∷ slow ∷ []));
    after = refl;
  },
)

s₁₂ : Collects w₁₁ 8 1 (Ok kind.End) w₁₂
s₁₂ = (
  refl,
  record {
    message = message.End;
    named = refl;
    net = w₁₂.reverse;
    taken = pull_taken w₁₁.reverse.links 1 8 7 message.End refl refl;
    count = 1;
    buffer = quick ∷ slow ∷ [];
    put = (refl, refl);
    after = refl;
  },
)

s₁₃ : Released w₁₂ first_line w₁₃
s₁₃ = record {
  others = slow ∷ [];
  head = record { all = IsPermutation-refl (quick ∷ slow ∷ []); first = (refl, tt) };
  clear = of_two (λ j. holds_up w₁₂.seats quick j ≡ false) refl refl;
  free = refl;
  placed = refl;
  page = one_line;
  wrote = record { count = refl; front = refl; back = refl; long = refl };
  after = refl;
}

s₁₄ : Released w₁₃ second_line w₁₄
s₁₄ = record {
  others = [];
  head = record { all = IsPermutation-refl (slow ∷ []); first = tt };
  clear = of_two (λ j. holds_up w₁₃.seats slow j ≡ false) refl refl;
  free = refl;
  placed = refl;
  page = two_lines;
  wrote = record { count = refl; front = refl; back = refl; long = refl };
  after = refl;
}

-- a released trade that finds no other order comes to rest
abbrev rested : Line → Outcome
rested l = record { line = l; booked = record { filled = 0; rested = 5; dropped = 0; fills = 0 } }

abbrev events : List Event
events =
    event.Release (Ok (rested second_line)) ∷ event.Release (Ok (rested first_line))
    ∷ event.Collect 8 1 (Ok kind.End) ∷ event.Collect 8 1 (Ok kind.Trade) ∷ event.Collect 8 0 (Ok kind.End) ∷ event.Collect 8 0 (Ok kind.Trade)
    ∷ event.End 7 1 (Ok tt) ∷ event.End 7 0 (Ok tt)
    ∷ event.Submit 6 1 offer (Ok 1) ∷ event.Submit 6 0 offer (Ok 1)
    ∷ event.Deliver 4 1 (Ok batch) ∷ event.Deliver 3 0 (Ok batch)
    ∷ event.Seal 2 (Ok 1) ∷ event.Point 1 7 (Ok 1) ∷ []

run : Run w₀ events w₁₄
run =
    (w₁₃, (w₁₂, (w₁₁, (w₁₀, (w₉, (w₈, (w₇, (w₆, (w₅, (w₄, (w₃, (w₂, (w₁, (w₀, refl, s₁), s₂), s₃), s₄), s₅), s₆), s₇), s₈), s₉), s₁₀), s₁₁), s₁₂), s₁₃), s₁₄)

pub some_settles : SomeSettles
some_settles = (
  w₀,
  w₁₄,
  events,
  fresh,
  run,
  record { ended = of_two (λ k. (seat_of w₁₄ k).watermark ≡ Top) refl refl; empty = refl },
  refl,
  ((refl, omega arith), ((refl, omega arith), tt)),
)
