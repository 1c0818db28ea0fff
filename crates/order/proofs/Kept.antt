-- What every run keeps, call by call.
use Rattle.std.proofs.Common.{◌≡◌, ℕ, ◌+◌, ◌-◌, ◌<◌, ◌≤◌, Bool, true, false, not, ◌&&◌, eqb, List, [], ◌∷◌, ◌++◌, length, get_or, take, set, Ok, Err, sym, refl, ap, ◌∙◌, subst, inl, inr, ⊎_elim, true≢false, arith, length-append, length-set, get_or-set_same}
use Rattle.std.specs.List.{AllByRecursion}
use Rattle.std.specs.List.Sorted.{IsPermutation}
use Rattle.std.proofs.lemmas.Bool.{cases_eq, eq-eqb, ne_eqb, leb-false, cond-true, cond-false}
use Rattle.std.proofs.lemmas.Bool.Decides.{nat_tests, when_true}
use Rattle.std.proofs.lemmas.List.Sorted.{IsPermutation-refl, IsPermutation-sym, IsPermutation-to_front}
use Rattle.std.proofs.ByRecursion.{all_shuffled}
use Rattle.network.specs.Network.{Net, Link, Added, limit}
use Rattle.clock.specs.StopClock.{elapsed, marked}
use Rattle.records.specs.declared.batch.Batch.{Batch}
use Rattle.records.specs.declared.line.Line.{Line}
use Rattle.records.specs.declared.market.Market.{Market}
use Rattle.records.specs.declared.message.Kind.{Kind}
use Rattle.records.specs.declared.message.Kind.TheVariants as kind
use Rattle.records.specs.declared.message.Message.{Message}
use Rattle.records.specs.declared.message.Message.TheVariants as message
use Rattle.records.specs.declared.offer.Offer.{Offer}
use Rattle.records.specs.declared.seat.Seat.{Seat}
use Rattle.records.specs.declared.tag.Tag.{Tag}
use Rattle.records.specs.declared.tag.Watermark.{Watermark}
use Rattle.records.specs.declared.tag.Watermark.TheVariants.{At, Top}
use Rattle.records.specs.declared.trade.Trade.{Trade}
use Rattle.records.specs.Seat.{is_next}
use Rattle.records.specs.Message.{kind_of, stamp}
use Rattle.records.specs.Market.{open_batch}
use Rattle.records.specs.Seat.{blank, served_with, submitted_once, ended_now, collected_with, released_once}
use Rattle.records.specs.Tag.{above}
use Rattle.session.specs.Beat.{Beats, send_checks}
use Rattle.session.specs.Collect.{Collects, Put, collect_checks}
use Rattle.session.specs.Deliver.{Delivers, deliver_checks}
use Rattle.session.specs.End.{Ends}
use Rattle.session.specs.Opening.{Fresh}
use Rattle.session.specs.Point.{Points, point_checks}
use Rattle.session.specs.Release.{Released, holds_up}
use Rattle.session.specs.Seal.{Seals, DealtLink, due, seal_checks}
use Rattle.session.specs.Submit.{Submits, submit_checks, trade_of}
use Rattle.session.specs.World.{World, seat_of, tag_at}
use Rattle.order.specs.declared.event.Event.{Event}
use Rattle.order.specs.declared.event.Event.TheVariants as event
use Rattle.order.specs.declared.event.Outcome.{Outcome}
use Rattle.order.specs.History.{deliveries, last_moment, last_number, accepted_trades, EndCollected}
use Rattle.order.specs.Law.{tape_of, records, carried, trades_among, gathered, on_the_way}
use Rattle.order.specs.Run.{Step, Run}
use Rattle.order.proofs.Bags.{one_more, same_gathered, gathered_empty}
use Rattle.order.proofs.Ranks.{Upto, upto_refl}
use Rattle.order.proofs.Links.{records_push, Climb, Count, count_upto, Coming, coming, trades_push, trades_beat}
use Rattle.order.proofs.Passing.{none_fail, timely}
use Rattle.order.proofs.Starting.{fresh_blank, fresh_buffer, fresh_few, fresh_market}
use Rattle.order.proofs.Seated.{Open, ceiling, Seated, seated_later, seated_seal, seated_deliver, seated_submit, seated_beat, seated_end, seated_collect, seated_release, at_each}
use Rattle.order.proofs.Lined.{Lined, Grown, grown_same, grown_set, Held, lined_grown, lined_submit, lined_collect, lined_release}

-- the points of the batches sealed
abbrev pub sealed_points : World → ℕ
sealed_points v = v.market.points - v.market.unsealed

-- the seat's watermark is top exactly when an end of it was collected
abbrev pub TopWhen : Type 0 → Seat → Type 0
TopWhen ended s = (s.watermark ≡ Top → ended) × (ended → s.watermark ≡ Top)

-- the world, beside what the history says: the accepted trades, and by seat the moment and the batch of the last deliver,
-- and whether an end was collected
pub record Keeps (trades : List Trade) (delivery batch : ℕ → ℕ) (ended : ℕ → Type 0) (v : World) : Type 0 where
  pub few : length v.seats ≤ 16
  pub counted : v.market.unsealed ≤ v.market.points
  pub seated : (k : ℕ) → k < length v.seats → Seated v.last v.market.batches (sealed_points v) k (seat_of v k) (v.clock k) (carried v.forward k) (carried v.reverse k) (delivery k) (batch k)
  pub written : v.tape.used ≡ length (tape_of v)
  pub lined : Lined trades v.seats v.buffer (tape_of v) (on_the_way v)
  pub ends : (k : ℕ) → k < length v.seats → TopWhen (ended k) (seat_of v k)

-- the moment of the last deliver to a seat, or 0
abbrev pub last_delivery : List Event → ℕ → ℕ
last_delivery es k = last_moment (deliveries es k)

-- the batch of the last deliver to a seat, or 0
abbrev pub last_batch : List Event → ℕ → ℕ
last_batch es k = last_number (deliveries es k)

-- what holds after every list of calls
abbrev pub Kept : List Event → World → Type 0
Kept es v = Keeps (accepted_trades es) (last_delivery es) (last_batch es) (EndCollected es) v

-- what a deliver adds to the history of its seat
pub delivered_here : (es : List Event) (t k : ℕ) (b : Batch) → deliveries (event.Deliver t k (Ok b) ∷ es) k ≡ (record { moment = t; batch = b }) ∷ deliveries es k
delivered_here es t k b = cond-true (eqb k k) ((record { moment = t; batch = b }) ∷ deliveries es k) (deliveries es k) (eq-eqb k k refl)

-- and at another seat nothing
pub delivered_elsewhere : (es : List Event) (t k : ℕ) (b : Batch) (j : ℕ) → (j ≡ k → ⊥) → deliveries (event.Deliver t k (Ok b) ∷ es) j ≡ deliveries es j
delivered_elsewhere es t k b j ne = cond-false (eqb j k) ((record { moment = t; batch = b }) ∷ deliveries es j) (deliveries es j) (ne_eqb j k ne)

-- a record of seat k holds with the links and the mark of the world
abbrev SeatedAt : List Event → World → ℕ → Seat → Type 0
SeatedAt es v k s = Seated v.last v.market.batches (sealed_points v) k s (v.clock k) (carried v.forward k) (carried v.reverse k) (last_delivery es k) (last_batch es k)

-- the same of its watermark
abbrev EndsKnown : List Event → ℕ → Seat → Type 0
EndsKnown es k s = TopWhen (EndCollected es k) s

-- a point is written
pub point_kept : (es : List Event) (u v : World) (t x n : ℕ) → Kept es u → Points u t x (Ok n) v → Kept (event.Point t x (Ok n) ∷ es) v
point_kept es u v t x n h s =
    let P : World → Type 0 = λ w. Kept (event.Point t x (Ok n) ∷ es) w in
    let now = timely u t (none_fail (point_checks u t) s.0).0 in
    let same : sealed_points u ≡ u.market.points + 1 - (u.market.unsealed + 1) = omega arith in
    subst P (sym s.1.after) (record {
      few = h.few;
      counted = omega (arith, h.counted);
      seated = λ k p. subst (λ (q : ℕ). Seated t u.market.batches q k (seat_of u k) (u.clock k) (carried u.forward k) (carried u.reverse k) (last_delivery es k) (last_batch es k)) same
          (seated_later (h.seated k p) t now.0 refl refl refl refl refl);
      written = h.written;
      lined = h.lined;
      ends = h.ends;
    })

-- a batch is due to an open seat
open_due : (u : World) (k : ℕ) → k < length u.seats → Open (seat_of u k) → due u.seats k ≡ true
open_due u k p o = grind (arith, nat_tests)

-- the open batch is sealed
pub seal_kept : (es : List Event) (u v : World) (t n : ℕ) → Kept es u → Seals u t (Ok n) v → Kept (event.Seal t (Ok n) ∷ es) v
seal_kept es u v t n h s =
    let P : World → Type 0 = λ w. Kept (event.Seal t (Ok n) ∷ es) w in
    let checks = none_fail (seal_checks u t) s.0 in
    let now = timely u t checks.0 in
    let filled : 1 ≤ u.market.unsealed = grind (arith, nat_tests) in
    let d = s.1 in
    let b = open_batch u.market in
    let all : sealed_points u + u.market.unsealed ≡ u.market.points - 0 = omega (arith, h.counted) in
    let more : (k : ℕ) → k < length u.seats → Open (seat_of u k) → carried d.net k ≡ carried u.forward k ++ b ∷ [] =
    λ k p o.
    let a : Added (u.forward.formula k 0 t) u.forward.longest (u.forward.links k) (d.net.links k) t b =
    subst (λ (i : Bool). DealtLink i (u.forward.formula k 0 t) u.forward.longest (u.forward.links k) (d.net.links k) t b) (open_due u k p o) (d.dealt.links k) in
    ap records a.pairs ∙ records_push (u.forward.links k).pairs a.arrival b in
    subst P (sym d.after) (record {
      few = h.few;
      counted = omega arith;
      seated = λ k p. subst (λ (q : ℕ). Seated t (u.market.batches + 1) q k (seat_of u k) (u.clock k) (carried d.net k) (carried u.reverse k) (last_delivery es k) (last_batch es k)) all
          (seated_seal (h.seated k p) t now.0 b (carried d.net k) (more k p) refl refl filled);
      written = h.written;
      lined = h.lined;
      ends = h.ends;
    })

-- the trades on the way stay, where only the record of a seat changes
pub way_same : (f : ℕ → List Trade) (seats : List Seat) (k : ℕ) (s : Seat) → gathered f (length (set seats k s)) ≡ gathered f (length seats)
way_same f seats k s = ap (λ (n : ℕ). gathered f n) (length-set seats k s)

-- a batch is delivered
pub deliver_kept : (es : List Event) (u v : World) (t k : ℕ) (b : Batch) → Kept es u → Delivers u t k (Ok b) v → Kept (event.Deliver t k (Ok b) ∷ es) v
deliver_kept es u v t k b h s =
    let P : World → Type 0 = λ w. Kept (event.Deliver t k (Ok b) ∷ es) w in
    let checks = none_fail (deliver_checks u t k) s.0 in
    let now = timely u t checks.0 in
    let p : k < length u.seats = leb-false (length u.seats) k checks.1.0 in
    let d = s.1 in
    let few = h.few in
    let early = now.1 in
    let new = served_with b (seat_of u k) in
    let mark : marked u.clock k t k ≡ t = grind (arith, nat_tests) in
    let own : last_delivery (event.Deliver t k (Ok b) ∷ es) k ≡ t = ap last_moment (delivered_here es t k b) in
    let own-batch : last_batch (event.Deliver t k (Ok b) ∷ es) k ≡ b.number = ap last_number (delivered_here es t k b) in
    subst P (sym d.after) (record {
      few = simp length-set h.few;
      counted = h.counted;
      seated = at_each u.seats k new p
          (λ j x. Seated t u.market.batches (sealed_points u) j x (marked u.clock k t j) (carried d.net j) (carried u.reverse j) (last_delivery (event.Deliver t k (Ok b) ∷ es) j) (last_batch (event.Deliver t k (Ok b) ∷ es) j))
          (seated_deliver (h.seated k p) t now.0 checks.1.1.0 b (carried d.net k) (ap records d.taken.pairs) mark own own-batch)
          (λ j ne q.
          let m : marked u.clock k t j ≡ u.clock j = grind (arith, nat_tests) in
          let e : last_delivery (event.Deliver t k (Ok b) ∷ es) j ≡ last_delivery es j = ap last_moment (delivered_elsewhere es t k b j ne) in
          let n : last_batch (event.Deliver t k (Ok b) ∷ es) j ≡ last_batch es j = ap last_number (delivered_elsewhere es t k b j ne) in
          seated_later (h.seated j q) t now.0 m (ap (λ (l : Link Batch). records l.pairs) (d.taken.only.others j ne)) refl e n);
      written = h.written;
      lined = lined_grown (grown_set u.seats k new p (upto_refl (seat_of u k).watermark) (omega arith) (omega arith)) (way_same (λ j. trades_among (carried u.reverse j)) u.seats k new) h.lined;
      ends = at_each u.seats k new p (EndsKnown es) (h.ends k p) (λ j ne q. h.ends j q);
    })

-- a message was added to link k of the reverse network
sent_more : (u : World) (net : Net Message) (k : ℕ) (a : ℕ) (m : Message) → (net.links k).pairs ≡ (u.reverse.links k).pairs ++ (a, m) ∷ [] → carried net k ≡ carried u.reverse k ++ m ∷ []
sent_more u net k a m e = ap records e ∙ records_push (u.reverse.links k).pairs a m

-- equal links carry equal records
pub link_same : (l m : Link Message) → l ≡ m → records l.pairs ≡ records m.pairs
link_same l m e = ap (λ (x : Link Message). records x.pairs) e

-- what the stop-clock of a seat reads
pub since_is : (clock : ℕ → ℕ) (k t d n : ℕ) → clock k ≡ d → k < n → n ≤ 16 → t < limit → elapsed clock k t ≡ t - d
since_is clock k t d n e p q r = grind (arith, nat_tests)

-- a trade is submitted
pub submit_kept : (es : List Event) (u v : World) (t k : ℕ) (o : Offer) (n : ℕ) → Kept es u → Submits u t k o (Ok n) v → Kept (event.Submit t k o (Ok n) ∷ es) v
submit_kept es u v t k o n h s =
    let P : World → Type 0 = λ w. Kept (event.Submit t k o (Ok n) ∷ es) w in
    let checks = none_fail (submit_checks u t k o) s.0 in
    let now = timely u t checks.0 in
    let q : k < length u.seats = leb-false (length u.seats) k checks.1.0 in
    let d = s.1 in
    let x = trade_of u t k o in
    let own = h.seated k q in
    let new = submitted_once (seat_of u k) in
    let is = sent_more u d.net k d.sent.added.arrival (message.Trade x) d.sent.added.pairs in
    let grown : Grown u.seats (set u.seats k new) = grown_set u.seats k new q (upto_refl (seat_of u k).watermark) (omega arith) (omega arith) in
    let f : ℕ → List Trade = λ j. trades_among (carried u.reverse j) in
    let g : ℕ → List Trade = λ j. trades_among (carried d.net j) in
    let last_one : g k ≡ f k ++ x ∷ [] = ap trades_among is ∙ trades_push (carried u.reverse k) x in
    let here : IsPermutation (x ∷ f k) (g k) = subst (λ (l : List Trade). IsPermutation (x ∷ f k) l) (sym last_one) (IsPermutation-sym (f k ++ x ∷ []) (x ∷ f k) (IsPermutation-to_front (f k) x)) in
    let way : IsPermutation (x ∷ gathered f (length u.seats)) (gathered g (length (set u.seats k new))) =
    subst (λ (l : List Trade). IsPermutation (x ∷ gathered f (length u.seats)) l) (sym (way_same g u.seats k new))
    (one_more x f g (length u.seats) k q here (λ j ne. ap trades_among (link_same (d.net.links j) (u.reverse.links j) (d.sent.only.others j ne)))) in
    let e₁ = sym d.numbered in
    let e₂ = own.served in
    let e₃ = since_is u.clock k t (last_delivery es k) (length u.seats) own.marked q h.few now.1 in
    let same : x ≡ record { seat = k; serial = n; tag = record { batch = last_batch es k; elapsed = t - last_delivery es k }; trigger = o.trigger; side = o.side; price = o.price; quantity = o.quantity } =
    λ i. record { seat = k; serial = e₁ i; tag = record { batch = e₂ i; elapsed = e₃ i }; trigger = o.trigger; side = o.side; price = o.price; quantity = o.quantity } in
    subst P (sym d.after) (record {
      few = simp length-set h.few;
      counted = h.counted;
      seated = at_each u.seats k new q
          (λ j y. Seated t u.market.batches (sealed_points u) j y (u.clock j) (carried u.forward j) (carried d.net j) (last_delivery es j) (last_batch es j))
          (seated_submit own t now.0 checks.1.1.0 x refl refl refl (since_is u.clock k t (u.clock k) (length u.seats) refl q h.few now.1) is)
          (λ j ne r. seated_later (h.seated j r) t now.0 refl refl (link_same (d.net.links j) (u.reverse.links j) (d.sent.only.others j ne)) refl refl);
      written = h.written;
      lined = subst (λ (y : Trade). Lined (y ∷ accepted_trades es) (set u.seats k new) u.buffer (tape_of u) (gathered g (length (set u.seats k new)))) same
          (lined_submit x new q refl refl grown way h.lined);
      ends = at_each u.seats k new q (EndsKnown es) (h.ends k q) (λ j ne r. h.ends j r);
    })

-- what holds at k and at all others holds at each
pub here_or : (n k : ℕ) (P : ℕ → Type 0) → P k → ((j : ℕ) → (j ≡ k → ⊥) → j < n → P j) → (j : ℕ) → j < n → P j
here_or n k P here others j q = ⊎_elim (λ e. subst P (sym e) here) (λ ne. others j ne q) (cases_eq j k)

-- a message that is no trade leaves the trades on the way
pub way_beat : (u : World) (net : Net Message) (k : ℕ) (m : Message) → carried net k ≡ carried u.reverse k ++ m ∷ [] → trades_among (m ∷ []) ≡ [] → ((j : ℕ) → (j ≡ k → ⊥) → net.links j ≡ u.reverse.links j) → gathered (λ j. trades_among (carried net j)) (length u.seats) ≡ on_the_way u
way_beat u net k m is none others =
    same_gathered (λ j. trades_among (carried u.reverse j)) (λ j. trades_among (carried net j)) (length u.seats)
    (here_or (length u.seats) k (λ j. trades_among (carried net j) ≡ trades_among (carried u.reverse j))
    (ap trades_among is ∙ trades_beat (carried u.reverse k) m none)
    (λ j ne q. ap trades_among (link_same (net.links j) (u.reverse.links j) (others j ne))))

-- a beat is sent
pub beat_kept : (es : List Event) (u v : World) (t k : ℕ) (a : Unit {0}) → Kept es u → Beats u t k (Ok a) v → Kept (event.Beat t k (Ok a) ∷ es) v
beat_kept es u v t k a h s =
    let P : World → Type 0 = λ w. Kept (event.Beat t k (Ok a) ∷ es) w in
    let checks = none_fail (send_checks u t k) s.0 in
    let now = timely u t checks.0 in
    let q : k < length u.seats = leb-false (length u.seats) k checks.1.0 in
    let d = s.1 in
    let g = tag_at u k t in
    let is = sent_more u d.net k d.sent.added.arrival (message.Beat g) d.sent.added.pairs in
    subst P (sym d.after) (record {
      few = h.few;
      counted = h.counted;
      seated = here_or (length u.seats) k
          (λ j. Seated t u.market.batches (sealed_points u) j (seat_of u j) (u.clock j) (carried u.forward j) (carried d.net j) (last_delivery es j) (last_batch es j))
          (seated_beat (h.seated k q) t now.0 checks.1.1.0 g refl (since_is u.clock k t (u.clock k) (length u.seats) refl q h.few now.1) is)
          (λ j ne r. seated_later (h.seated j r) t now.0 refl refl (link_same (d.net.links j) (u.reverse.links j) (d.sent.only.others j ne)) refl refl);
      written = h.written;
      lined = lined_grown (grown_same u.seats) (way_beat u d.net k (message.Beat g) is refl d.sent.only.others) h.lined;
      ends = h.ends;
    })

-- an end is sent
pub end_kept : (es : List Event) (u v : World) (t k : ℕ) (a : Unit {0}) → Kept es u → Ends u t k (Ok a) v → Kept (event.End t k (Ok a) ∷ es) v
end_kept es u v t k a h s =
    let P : World → Type 0 = λ w. Kept (event.End t k (Ok a) ∷ es) w in
    let checks = none_fail (send_checks u t k) s.0 in
    let now = timely u t checks.0 in
    let q : k < length u.seats = leb-false (length u.seats) k checks.1.0 in
    let d = s.1 in
    let new = ended_now (seat_of u k) in
    let is = sent_more u d.net k d.sent.added.arrival message.End d.sent.added.pairs in
    subst P (sym d.after) (record {
      few = simp length-set h.few;
      counted = h.counted;
      seated = at_each u.seats k new q
          (λ j y. Seated t u.market.batches (sealed_points u) j y (u.clock j) (carried u.forward j) (carried d.net j) (last_delivery es j) (last_batch es j))
          (seated_end (h.seated k q) t now.0 checks.1.1.0 is)
          (λ j ne r. seated_later (h.seated j r) t now.0 refl refl (link_same (d.net.links j) (u.reverse.links j) (d.sent.only.others j ne)) refl refl);
      written = h.written;
      lined = lined_grown (grown_set u.seats k new q (upto_refl (seat_of u k).watermark) (omega arith) (omega arith))
          (way_same (λ j. trades_among (carried d.net j)) u.seats k new ∙ way_beat u d.net k message.End is refl d.sent.only.others) h.lined;
      ends = at_each u.seats k new q (EndsKnown es) (h.ends k q) (λ j ne r. h.ends j r);
    })

-- a seat that does not hold a trade up is its own, or has a watermark above it
not_held_up : (u : World) (x : Trade) (j : ℕ) → holds_up u.seats x j ≡ false → (j ≡ x.seat → ⊥) → above (seat_of u j).watermark x.tag ≡ true
not_held_up u x j h ne = other (eqb j x.seat) (above (seat_of u j).watermark x.tag) h (ne_eqb j x.seat ne)
  where
    other : (e a : Bool) → not e && not a ≡ false → e ≡ false → a ≡ true
    other true a h k = absurd (true≢false k)
    other false true h k = refl
    other false false h k = absurd (true≢false h)

-- a trade is released
pub release_kept : (es : List Event) (u v : World) (x : Outcome) → Kept es u → Released u x.line v → Kept (event.Release (Ok x) ∷ es) v
release_kept es u v x h s =
    let P : World → Type 0 = λ w. Kept (event.Release (Ok x) ∷ es) w in
    let l = x.line in
    let k = l.trade.seat in
    let first : Held u.seats l.trade × AllByRecursion (Held u.seats) s.others = all_shuffled (Held u.seats) u.buffer (l.trade ∷ s.others) s.head.all h.lined.held in
    let q : k < length u.seats = first.0.seat in
    let new = released_once (seat_of u k) in
    let front : tape_of u ++ l ∷ [] ≡ take s.page.used s.page.lines = sym s.wrote.front in
    let long : length (take s.page.used s.page.lines) ≡ length (tape_of u) + 1 = ap length s.wrote.front ∙ length-append (tape_of u) (l ∷ []) in
    subst P (sym s.after) (record {
      few = simp length-set h.few;
      counted = h.counted;
      seated = at_each u.seats k new q (SeatedAt es u) (seated_release (h.seated k q)) (λ j ne r. h.seated j r);
      written = omega (arith, s.wrote.count, h.written, long);
      lined = subst (λ (r : List Line). Lined (accepted_trades es) (set u.seats k new) s.others r (gathered (λ j. trades_among (carried u.reverse j)) (length (set u.seats k new)))) front
          (lined_release l (grown_set u.seats k new q (upto_refl (seat_of u k).watermark) (omega arith) (omega arith)) s.head.all s.head.first (λ j p. not_held_up u l.trade j (s.clear j p)) (omega (arith, s.placed, h.written)) (way_same (λ j. trades_among (carried u.reverse j)) u.seats k new) h.lined);
      ends = at_each u.seats k new q (EndsKnown es) (h.ends k q) (λ j ne r. h.ends j r);
    })

-- a tag is not top
pub at_not_top : (g : Tag) → At g ≡ Top → ⊥
at_not_top g e = let z : ◌≡◌ {A = ℕ} 0 1 = cc in omega arith

-- and top is not up to a tag
pub top_upto : (m : Watermark) (g : Tag) → m ≡ Top → Upto m (At g) → ⊥
top_upto m g e u = subst (λ (x : Watermark). Upto x (At g)) e u

module _ (es : List Event) (u : World) (t k : ℕ) (h : Kept es u) (now : u.last ≤ t) (q : k < length u.seats) (net : Net Message) (others : (j : ℕ) → (j ≡ k → ⊥) → net.links j ≡ u.reverse.links j) where
  -- the world after a message was collected
  abbrev after_collect : (m : Message) (c : ℕ) (buffer : List Trade) → World
  after_collect m c buffer = record {
    times = u.times;
    last = t;
    market = u.market;
    seats = set u.seats k (collected_with c (stamp m) (seat_of u k));
    buffer = buffer;
    points = u.points;
    tape = u.tape;
    forward = u.forward;
    reverse = net;
    clock = u.clock;
  }

  -- the highest tag that the seat has sent or could send
  abbrev high : Watermark
  high = ceiling (seat_of u k).condition (record { batch = (seat_of u k).batch; elapsed = u.last - u.clock k })

  -- the tags and serials on the seat's link, from the message on
  climb_of : (m : Message) → carried u.reverse k ≡ m ∷ carried net k → Climb (seat_of u k).watermark (m ∷ carried net k) high
  climb_of m is = subst (λ (l : List Message). Climb (seat_of u k).watermark l high) is (h.seated k q).climb

  count_of : (m : Message) → carried u.reverse k ≡ m ∷ carried net k → Count k (seat_of u k).collected (m ∷ carried net k) (seat_of u k).submitted
  count_of m is = subst (λ (l : List Message). Count k (seat_of u k).collected l (seat_of u k).submitted) is (h.seated k q).count

  -- the trades on a seat's link before, and after
  abbrev f : ℕ → List Trade
  f j = trades_among (carried u.reverse j)

  abbrev g : ℕ → List Trade
  g j = trades_among (carried net j)

  -- what stays to be shown of a message: its count, the trades and the watermark
  collect_with : (m : Message) → carried u.reverse k ≡ m ∷ carried net k → (c : ℕ) (buffer : List Trade)
      → Count k c (carried net k) (seat_of u k).submitted
      → Lined (accepted_trades es) (set u.seats k (collected_with c (stamp m) (seat_of u k))) buffer (tape_of u) (on_the_way (after_collect m c buffer))
      → EndsKnown (event.Collect t k (Ok (kind_of m)) ∷ es) k (collected_with c (stamp m) (seat_of u k))
      → Kept (event.Collect t k (Ok (kind_of m)) ∷ es) (after_collect m c buffer)
  collect_with m is c buffer n lined here =
      let new = collected_with c (stamp m) (seat_of u k) in
      record {
        few = simp length-set h.few;
        counted = h.counted;
        seated = at_each u.seats k new q
            (λ j y. Seated t u.market.batches (sealed_points u) j y (u.clock j) (carried u.forward j) (carried net j) (last_delivery es j) (last_batch es j))
            (seated_collect (h.seated k q) t now m (carried net k) is c n)
            (λ j ne r. seated_later (h.seated j r) t now refl refl (link_same (net.links j) (u.reverse.links j) (others j ne)) refl refl);
        written = h.written;
        lined = lined;
        ends = at_each u.seats k new q (EndsKnown (event.Collect t k (Ok (kind_of m)) ∷ es)) here
            (λ j ne r. let old = h.ends j r in (λ e. inr (old.0 e), λ e. ⊎_elim (λ (i : (j ≡ k) × (kind_of m ≡ kind.End)). absurd (ne i.0)) (λ (i : EndCollected es j). old.1 i) e));
      }

  -- a beat or an end leaves the trades as they are
  collect_quiet : (m : Message) → carried u.reverse k ≡ m ∷ carried net k → trades_among (m ∷ carried net k) ≡ trades_among (carried net k) → (c : ℕ) → c ≡ (seat_of u k).collected
      → Lined (accepted_trades es) (set u.seats k (collected_with c (stamp m) (seat_of u k))) u.buffer (tape_of u) (on_the_way (after_collect m c u.buffer))
  collect_quiet m is quiet c e =
      let new = collected_with c (stamp m) (seat_of u k) in
      let climb = climb_of m is in
      lined_grown (grown_set u.seats k new q climb.0 (omega arith) (omega arith))
      (way_same g u.seats k new ∙ same_gathered f g (length u.seats) (here_or (length u.seats) k (λ j. g j ≡ f j) (sym (ap trades_among is ∙ quiet)) (λ j ne r. ap trades_among (link_same (net.links j) (u.reverse.links j) (others j ne)))))
      h.lined

  -- a trade goes from the way into the buffer
  collect_trade : (x : Trade) → carried u.reverse k ≡ message.Trade x ∷ carried net k → (c : ℕ) (buffer : List Trade) → c ≡ (seat_of u k).collected + 1 → IsPermutation (x ∷ u.buffer) buffer
      → Lined (accepted_trades es) (set u.seats k (collected_with c (At x.tag) (seat_of u k))) buffer (tape_of u) (on_the_way (after_collect (message.Trade x) c buffer))
  collect_trade x is c buffer e b =
      let new = collected_with c (At x.tag) (seat_of u k) in
      let climb = climb_of (message.Trade x) is in
      let count = count_of (message.Trade x) is in
      let grown = grown_set u.seats k new q climb.0 (omega arith) (omega arith) in
      let n = length u.seats in
      let now-is : seat_of (after_collect (message.Trade x) c buffer) k ≡ new = get_or-set_same u.seats k new blank q in
      let xk = sym count.0 in
      let here : IsPermutation (x ∷ g k) (f k) = subst (λ (l : List Message). IsPermutation (x ∷ g k) (trades_among l)) (sym is) (IsPermutation-refl (x ∷ g k)) in
      let way : IsPermutation (x ∷ gathered g n) (gathered f n) = one_more x g f n k q here (λ j ne. sym (ap trades_among (link_same (net.links j) (u.reverse.links j) (others j ne)))) in
      let come : Coming k (seat_of u k).collected (seat_of u k).watermark x = (coming k (seat_of u k).collected (seat_of u k).watermark (message.Trade x ∷ carried net k) (seat_of u k).submitted high count climb).0 in
      let held-tag : Upto (At x.tag) (get_or (set u.seats k new) k blank).watermark = subst (λ (s : Seat). Upto (At x.tag) s.watermark) (sym now-is) (upto_refl (At x.tag)) in
      let held-serial : x.serial ≤ (get_or (set u.seats k new) k blank).collected = subst (λ (s : Seat). x.serial ≤ s.collected) (sym now-is) (omega (arith, count.1)) in
      let held : Held (set u.seats k new) x = record {
        seat = omega (arith, length-set u.seats k new, count.0);
        tag = subst (λ (i : ℕ). Upto (At x.tag) (get_or (set u.seats k new) i blank).watermark) xk held-tag;
        serial = subst (λ (i : ℕ). x.serial ≤ (get_or (set u.seats k new) i blank).collected) xk held-serial;
      } in
      lined_collect x grown held
      (subst (λ (i : ℕ). Coming i (seat_of u i).collected (seat_of u i).watermark x) xk come)
      b
      (subst (λ (l : List Trade). IsPermutation (x ∷ l) (gathered f n)) (sym (way_same g u.seats k new)) way)
      h.lined

  -- the watermark is a tag, and no end was collected
  still_below : {a : Kind} (b : Tag) → Upto (seat_of u k).watermark (At b) → (a ≡ kind.End → ⊥) → (At b ≡ Top → EndCollected (event.Collect t k (Ok a) ∷ es) k) × (EndCollected (event.Collect t k (Ok a) ∷ es) k → At b ≡ Top)
  still_below b up other = (λ e. absurd (at_not_top b e), λ e. ⊎_elim (λ i. absurd (other i.1)) (λ i. absurd (top_upto (seat_of u k).watermark b ((h.ends k q).1 i) up)) e)

  -- by the kind of message
  collect_by : (m : Message) → carried u.reverse k ≡ m ∷ carried net k → (c : ℕ) (buffer : List Trade) → Put (seat_of u k) k m c u.buffer buffer → Kept (event.Collect t k (Ok (kind_of m)) ∷ es) (after_collect m c buffer)
  collect_by (message.Trade x) is c buffer put =
      let count = count_of (message.Trade x) is in
      let climb = climb_of (message.Trade x) is in
      let seat = count.0 in
      let serial = count.1 in
      let known : x.serial ≤ (seat_of u k).submitted = omega (arith, count_upto k ((seat_of u k).collected + 1) (carried net k) (seat_of u k).submitted count.2) in
      let next : is_next (seat_of u k) k x ≡ true = grind (arith, nat_tests) in
      let done = when_true ((c ≡ (seat_of u k).collected + 1) × IsPermutation (x ∷ u.buffer) buffer) ((c ≡ (seat_of u k).collected) × (buffer ≡ u.buffer)) next put in
      collect_with (message.Trade x) is c buffer
      (subst (λ (i : ℕ). Count k i (carried net k) (seat_of u k).submitted) (sym done.0) count.2)
      (collect_trade x is c buffer done.0 done.1)
      (still_below x.tag climb.0 (λ e. (let z : ◌≡◌ {A = ℕ} 0 1 = cc in omega arith)))
  collect_by (message.Beat b) is c buffer put =
      let climb = climb_of (message.Beat b) is in
      let P : List Trade → Type 0 = λ l. Kept (event.Collect t k (Ok (kind_of (message.Beat b))) ∷ es) (after_collect (message.Beat b) c l) in
      subst P (sym put.1) (collect_with (message.Beat b) is c u.buffer
      (subst (λ (i : ℕ). Count k i (carried net k) (seat_of u k).submitted) (sym put.0) (count_of (message.Beat b) is))
      (collect_quiet (message.Beat b) is refl c put.0)
      (still_below b climb.0 (λ e. (let z : ◌≡◌ {A = ℕ} 0 1 = cc in omega arith))))
  collect_by message.End is c buffer put =
      let P : List Trade → Type 0 = λ l. Kept (event.Collect t k (Ok (kind_of message.End)) ∷ es) (after_collect message.End c l) in
      subst P (sym put.1) (collect_with message.End is c u.buffer
      (subst (λ (i : ℕ). Count k i (carried net k) (seat_of u k).submitted) (sym put.0) (count_of message.End is))
      (collect_quiet message.End is refl c put.0)
      (λ e. inl (refl, refl), λ e. refl))

-- a message is collected
pub collect_kept : (es : List Event) (u v : World) (t k : ℕ) (a : Kind) → Kept es u → Collects u t k (Ok a) v → Kept (event.Collect t k (Ok a) ∷ es) v
collect_kept es u v t k a h s =
    let P : World → Type 0 = λ w. Kept (event.Collect t k (Ok a) ∷ es) w in
    let checks = none_fail (collect_checks u t k) s.0 in
    let now = timely u t checks.0 in
    let q : k < length u.seats = leb-false (length u.seats) k checks.1.0 in
    let d = s.1 in
    let others = d.taken.only.others in
    let Q : Kind → Type 0 = λ x. Kept (event.Collect t k (Ok x) ∷ es) (after_collect es u t k h now.0 q d.net others d.message d.count d.buffer) in
    subst P (sym d.after) (subst Q (sym d.named) (collect_by es u t k h now.0 q d.net others d.message (ap records d.taken.pairs) d.count d.buffer d.put))

-- a refused call changes nothing, in the world and in what the history says
same_kept : (es : List Event) (u v : World) → Kept es u → v ≡ u → Kept es v
same_kept es u v h e = let P : World → Type 0 = λ w. Kept es w in subst P (sym e) h

-- each call keeps it
pub step_kept : (es : List Event) (e : Event) (u v : World) → Kept es u → Step u e v → Kept (e ∷ es) v
step_kept es (event.Point t x (Ok n)) u v h s = point_kept es u v t x n h s
step_kept es (event.Point t x (Err e)) u v h s = same_kept es u v h s.1
step_kept es (event.Seal t (Ok n)) u v h s = seal_kept es u v t n h s
step_kept es (event.Seal t (Err e)) u v h s = same_kept es u v h s.1
step_kept es (event.Deliver t k (Ok b)) u v h s = deliver_kept es u v t k b h s
step_kept es (event.Deliver t k (Err e)) u v h s = same_kept es u v h s.1
step_kept es (event.Submit t k o (Ok n)) u v h s = submit_kept es u v t k o n h s
step_kept es (event.Submit t k o (Err e)) u v h s = same_kept es u v h s.1
step_kept es (event.Beat t k (Ok a)) u v h s = beat_kept es u v t k a h s
step_kept es (event.Beat t k (Err e)) u v h s = same_kept es u v h s.1
step_kept es (event.End t k (Ok a)) u v h s = end_kept es u v t k a h s
step_kept es (event.End t k (Err e)) u v h s = same_kept es u v h s.1
step_kept es (event.Collect t k (Ok a)) u v h s = collect_kept es u v t k a h s
step_kept es (event.Collect t k (Err e)) u v h s = same_kept es u v h s.1
step_kept es (event.Release (Ok x)) u v h s = release_kept es u v x h s
step_kept es (event.Release (Err e)) u v h s = same_kept es u v h s.1

-- and so does every run
pub run_kept : (w : World) → Kept [] w → (es : List Event) (v : World) → Run w es v → Kept es v
run_kept w h [] v r = let P : World → Type 0 = λ u. Kept [] u in subst P (sym r) h
run_kept w h (e ∷ es) v r = step_kept es e r.0 v (run_kept w h es r.0 r.1) r.2

-- a fresh session keeps it, with no history
pub fresh_kept : (w : World) → Fresh w → Kept [] w
fresh_kept w o = record {
  few = fresh_few w o;
  counted = omega (arith, none);
  seated = λ k p.
      let base : Seated w.last w.market.batches (sealed_points w) k blank 0 [] [] 0 0 = record {
        marked = refl;
        served = refl;
        past = omega arith;
        follow = λ _. (sym sealed_none, omega (arith, no_points));
        climb = omega arith;
        count = refl;
      } in
      subst (λ (s : Seat). Seated w.last w.market.batches (sealed_points w) k s (w.clock k) (carried w.forward k) (carried w.reverse k) 0 0) (sym (fresh_blank w o k p))
      (subst (λ (m : ℕ). Seated w.last w.market.batches (sealed_points w) k blank m (carried w.forward k) (carried w.reverse k) 0 0) (sym (ap (λ (c : ℕ → ℕ). c k) o.clock))
      (subst (λ (l : List Batch). Seated w.last w.market.batches (sealed_points w) k blank 0 l (carried w.reverse k) 0 0) (sym (ap (λ (l : Link Batch). records l.pairs) (o.forward k)))
      (subst (λ (l : List Message). Seated w.last w.market.batches (sealed_points w) k blank 0 [] l 0 0) (sym (ap (λ (l : Link Message). records l.pairs) (o.reverse k)))
      base)));
  written = o.tape ∙ sym (ap length no_lines);
  lined =
      let way : on_the_way w ≡ [] = gathered_empty (λ k. trades_among (carried w.reverse k)) (length w.seats) (λ k _. ap (λ (l : Link Message). trades_among (records l.pairs)) (o.reverse k)) in
      subst (λ (l : List Trade). Lined [] w.seats l (tape_of w) (on_the_way w)) (sym (fresh_buffer w o))
      (subst (λ (l : List Line). Lined [] w.seats [] l (on_the_way w)) (sym no_lines)
      (subst (λ (l : List Trade). Lined [] w.seats [] [] l) (sym way)
      (record { each_once = IsPermutation-refl []; apart = λ k n. omega arith; numbered = tt; held = tt; passed = tt; behind = tt; in_rank = tt; placed = tt })));
  ends = λ k p. (λ e. at_not_top (record { batch = 0; elapsed = 0 }) (ap (λ (s : Seat). s.watermark) (sym (fresh_blank w o k p)) ∙ e), λ e. absurd e);
}
  where
    none : w.market.unsealed ≡ 0
    none = ap (λ (m : Market). m.unsealed) (fresh_market w o)

    no_points : w.market.points ≡ 0
    no_points = ap (λ (m : Market). m.points) (fresh_market w o)

    sealed_none : w.market.batches ≡ 0
    sealed_none = ap (λ (m : Market). m.batches) (fresh_market w o)

    no_lines : tape_of w ≡ []
    no_lines = ap (λ (n : ℕ). take n w.tape.lines) o.tape
