-- What every run keeps of the points: in which batch each is, when it reached a seat, and that deliveries keep their
-- distance.
use Rattle.std.proofs.Common.{◌≡◌, ℕ, ◌+◌, ◌-◌, ◌<◌, ◌≤◌, Bool, true, false, cond, ◌&&◌, eqb, leb, List, [], ◌∷◌, length, get_or, set, Ok, Err, sym, refl, ap, ◌∙◌, subst, ⊎_elim, true≢false, arith}
use Rattle.std.proofs.Math.Path.{fun_ext}
use Rattle.std.specs.List.{AllByRecursion}
use Rattle.std.proofs.ByRecursion.{All-weaker, All-push, all_shuffled}
use Rattle.std.proofs.lemmas.Bool.{cases_lt, leb-false}
use Rattle.std.proofs.lemmas.Bool.Decides.{nat_tests}
use Rattle.network.specs.Network.{Link}
use Rattle.clock.specs.StopClock.{marked}
use Rattle.records.specs.declared.batch.Batch.{Batch}
use Rattle.records.specs.declared.market.Market.{Market}
use Rattle.records.specs.declared.message.Kind.{Kind}
use Rattle.records.specs.declared.offer.Offer.{Offer}
use Rattle.records.specs.declared.seat.Condition.{Condition}
use Rattle.records.specs.declared.seat.Condition.TheVariants.{Bare, Served, Ended}
use Rattle.records.specs.declared.seat.Seat.{Seat}
use Rattle.records.specs.Checks.{Passed}
use Rattle.records.specs.Message.{stamp}
use Rattle.records.specs.Market.{open_batch}
use Rattle.records.specs.Seat.{blank, is_bare, is_served, is_ended, served_with, submitted_once, ended_now, collected_with, released_once}
use Rattle.session.specs.Beat.{Beaten, send_checks}
use Rattle.session.specs.Collect.{Collected, collect_checks}
use Rattle.session.specs.Deliver.{Delivered, deliver_checks}
use Rattle.session.specs.End.{Ended as EndSent}
use Rattle.session.specs.Opening.{Fresh}
use Rattle.session.specs.Point.{Pointed}
use Rattle.session.specs.Release.{Released}
use Rattle.session.specs.Seal.{Sealed, DealtLink, due}
use Rattle.session.specs.Submit.{Submitted, submit_checks}
use Rattle.session.specs.World.{World, seat_of}
use Rattle.order.specs.declared.event.Event.{Event}
use Rattle.order.specs.declared.event.Event.TheVariants as event
use Rattle.order.specs.declared.event.Outcome.{Outcome}
use Rattle.order.specs.History.{Delivery, deliveries, reached, holds, Submission, submissions}
use Rattle.order.specs.Law.{carried, records}
use Rattle.order.specs.Run.{Run, Step}
use Rattle.order.proofs.Starting.{fresh_blank, fresh_market}
use Rattle.order.proofs.Kept.{last_delivery, last_batch, delivered_here, delivered_elsewhere, Kept, sealed_points, since_is, run_kept}
use Rattle.order.proofs.Lined.{Held}
use Rattle.order.proofs.Links.{records_push, Follow}
use Rattle.order.proofs.Passing.{none_fail, timely}
use Rattle.order.proofs.Seated.{Open, at_each}

-- how many points were written
abbrev pub points_of : List Event → ℕ
points_of [] = 0
points_of (event.Point t x (Ok n) ∷ es) = n
points_of (event.Point t x (Err e) ∷ es) = points_of es
points_of (event.Seal t r ∷ es) = points_of es
points_of (event.Deliver t j r ∷ es) = points_of es
points_of (event.Submit t j o r ∷ es) = points_of es
points_of (event.Beat t j r ∷ es) = points_of es
points_of (event.End t j r ∷ es) = points_of es
points_of (event.Collect t j r ∷ es) = points_of es
points_of (event.Release r ∷ es) = points_of es

-- the batch of a point, that of the first seal after it was written, or 0
abbrev pub batch_of : List Event → ℕ → ℕ
batch_of [] p = 0
batch_of (event.Seal t (Ok n) ∷ es) p = cond (eqb (batch_of es p) 0 && leb p (points_of es)) n (batch_of es p)
batch_of (event.Seal t (Err e) ∷ es) p = batch_of es p
batch_of (event.Point t x r ∷ es) p = batch_of es p
batch_of (event.Deliver t j r ∷ es) p = batch_of es p
batch_of (event.Submit t j o r ∷ es) p = batch_of es p
batch_of (event.Beat t j r ∷ es) p = batch_of es p
batch_of (event.End t j r ∷ es) p = batch_of es p
batch_of (event.Collect t j r ∷ es) p = batch_of es p
batch_of (event.Release r ∷ es) p = batch_of es p

-- a batch is that of each of its points
abbrev pub Known : (ℕ → ℕ) → Batch → Type 0
Known of b = (1 ≤ b.number) × ((p : ℕ) → b.first ≤ p → p < b.first + b.count → of p ≡ b.number)

-- every point delivered to a seat reached it by its mark; less than the horizon before only if it is of the last batch
pub record Pace (horizon : ℕ) (of when : ℕ → ℕ) (s : Seat) (mark : ℕ) (due : List Batch) : Type 0 where
  pub told : (p : ℕ) → 1 ≤ p → p ≤ s.point → (1 ≤ of p) × (when p ≤ mark) × (mark < when p + horizon → (of p ≡ s.batch) × (when p ≡ mark))
  pub bare : is_bare s.condition ≡ true → s.point ≡ 0
  pub known : Open s → AllByRecursion (Known of) due

-- a submission within the horizon is tagged with its trigger's batch and its response
abbrev pub Prompt : ℕ → (ℕ → ℕ) → Submission → Type 0
Prompt horizon of x = (1 ≤ of x.trade.trigger) × (x.response < horizon → (x.trade.tag.batch ≡ of x.trade.trigger) × (x.trade.tag.elapsed ≡ x.response))

-- the world, beside what the history says: the points written, the batch of each, when each reached a seat, and the
-- submissions
pub record Paces (horizon points : ℕ) (of : ℕ → ℕ) (when : ℕ → ℕ → ℕ) (all : List Submission) (v : World) : Type 0 where
  pub times : v.times.horizon ≡ horizon
  pub written : points ≡ v.market.points
  pub unsealed : (p : ℕ) → sealed_points v < p → of p ≡ 0
  pub pace : (k : ℕ) → k < length v.seats → Pace horizon of (when k) (seat_of v k) (v.clock k) (carried v.forward k)
  pub prompt : AllByRecursion (Prompt horizon of) all

-- when a point reached a seat
abbrev pub reached_at : List Event → (k p : ℕ) → ℕ
reached_at es k p = reached (deliveries es k) p

-- what a run of these events keeps
abbrev pub Paced : ℕ → List Event → World → Type 0
Paced horizon es v = Paces horizon (points_of es) (batch_of es) (reached_at es) (submissions es) v

-- a point keeps the batch that it once has
module _ (of of' : ℕ → ℕ) (stays : (p : ℕ) → 1 ≤ of p → of' p ≡ of p) where
  known_stays : (b : Batch) → Known of b → Known of' b
  known_stays b h = (h.0, λ p l r. (let e = h.1 p l r in stays p (omega (arith, h.0)) ∙ e))

  pace_stays : (horizon : ℕ) (when : ℕ → ℕ) (s : Seat) (mark : ℕ) (due : List Batch) → Pace horizon of when s mark due → Pace horizon of' when s mark due
  pace_stays horizon when s mark due h = record {
    told = λ p l r.
        (let old = h.told p l r in
        let e = stays p old.0 in
        (omega arith, old.1, λ q. (e ∙ (old.2 q).0, (old.2 q).1)));
    bare = h.bare;
    known = λ o. All-weaker (Known of) (Known of') known_stays due (h.known o);
  }

  prompt_stays : (horizon : ℕ) (x : Submission) → Prompt horizon of x → Prompt horizon of' x
  prompt_stays horizon x h = let e = stays x.trade.trigger h.0 in (omega (arith, h.0), λ q. ((h.1 q).0 ∙ sym e, (h.1 q).1))

-- a seat that is neither ended nor bare is served
else_served : (c : Condition) → is_ended c ≡ false → (is_bare c ≡ true → ⊥) → is_served c ≡ true
else_served Bare e b = absurd (b refl)
else_served Served e b = refl
else_served Ended e b = absurd (true≢false e)

module _ (horizon : ℕ) (es : List Event) (u v : World) (kept : Kept es u) (h : Paced horizon es u) where
  -- only the record of one seat changes
  one_seat : (k : ℕ) (s : Seat) → k < length u.seats → Pace horizon (batch_of es) (reached_at es k) s (u.clock k) (carried u.forward k) → (j : ℕ) → j < length (set u.seats k s) → Pace horizon (batch_of es) (reached_at es j) (get_or (set u.seats k s) j blank) (u.clock j) (carried u.forward j)
  one_seat k s q here =
      at_each u.seats k s q (λ j x. Pace horizon (batch_of es) (reached_at es j) x (u.clock j) (carried u.forward j)) here (λ j ne r. h.pace j r)

  -- a point is written
  point_paced : (t x n : ℕ) → Pointed u t x n v → Paced horizon (event.Point t x (Ok n) ∷ es) v
  point_paced t x n s =
      let P : World → Type 0 = λ w. Paced horizon (event.Point t x (Ok n) ∷ es) w in
      subst P (sym s.after) (record {
        times = h.times;
        written = s.numbered;
        unsealed = λ p q. h.unsealed p (omega arith);
        pace = h.pace;
        prompt = h.prompt;
      })

  -- the open batch is sealed, and its points have a batch now
  seal_paced : (t n : ℕ) → Sealed u t n v → Paced horizon (event.Seal t (Ok n) ∷ es) v
  seal_paced t n s =
      let P : World → Type 0 = λ w. Paced horizon (event.Seal t (Ok n) ∷ es) w in
      let new = batch_of (event.Seal t (Ok n) ∷ es) in
      let stays : (p : ℕ) → 1 ≤ batch_of es p → new p ≡ batch_of es p = λ p q. grind (arith, nat_tests) in
      let b = open_batch u.market in
      let fresh : Known new b = (
        omega arith,
        λ p l r.
            (let none : batch_of es p ≡ 0 = h.unsealed p (omega arith) in
            let low : p ≤ points_of es = omega (arith, h.written, kept.counted) in
            let is = s.numbered in
            grind (arith, nat_tests)),
      ) in
      subst P (sym s.after) (record {
        times = h.times;
        written = h.written;
        unsealed = λ p q.
            (let none : batch_of es p ≡ 0 = h.unsealed p (omega arith) in
            let high : points_of es < p = omega (arith, h.written) in
            grind (arith, nat_tests));
        pace = λ k q.
            (let old = pace_stays (batch_of es) new stays horizon (reached_at es k) (seat_of u k) (u.clock k) (carried u.forward k) (h.pace k q) in
            record {
              told = old.told;
              bare = old.bare;
              known = λ o.
                  (let is-due : due u.seats k ≡ true = grind (arith, nat_tests) in
                  let a = subst (λ (d : Bool). DealtLink d (u.forward.formula k 0 t) u.forward.longest (u.forward.links k) (s.net.links k) t b) is-due (s.dealt.links k) in
                  subst (λ (l : List Batch). AllByRecursion (Known new) l) (sym (ap records a.pairs ∙ records_push (u.forward.links k).pairs a.arrival b))
                  (All-push (Known new) (carried u.forward k) b (old.known o) fresh));
            });
        prompt = All-weaker (Prompt horizon (batch_of es)) (Prompt horizon new) (prompt_stays (batch_of es) new stays horizon) (submissions es) h.prompt;
      })

  -- a batch is delivered: its points reach the seat now, and all earlier ones did at least the horizon before
  deliver_paced : (t k : ℕ) (b : Batch) → Passed (deliver_checks u t k) → Delivered u t k b v → Paced horizon (event.Deliver t k (Ok b) ∷ es) v
  deliver_paced t k b passed s =
      let P : World → Type 0 = λ w. Paced horizon (event.Deliver t k (Ok b) ∷ es) w in
      let checks = none_fail (deliver_checks u t k) passed in
      let on-time = timely u t checks.0 in
      let q : k < length u.seats = leb-false (length u.seats) k checks.1.0 in
      let not-ended : Open (seat_of u k) = checks.1.1.0 in
      let few = kept.few in
      let old = h.pace k q in
      let own = kept.seated k q in
      let is : carried u.forward k ≡ b ∷ carried s.net k = ap records s.taken.pairs in
      let known : AllByRecursion (Known (batch_of es)) (b ∷ carried s.net k) = subst (λ (l : List Batch). AllByRecursion (Known (batch_of es)) l) is (old.known not-ended) in
      let follow : Follow (seat_of u k).batch (seat_of u k).point (b ∷ carried s.net k) u.market.batches (sealed_points u) = subst (λ (l : List Batch). Follow (seat_of u k).batch (seat_of u k).point l u.market.batches (sealed_points u)) is (own.follow not-ended) in
      let mark : marked u.clock k t k ≡ t = grind (arith, nat_tests) in
      let when = reached_at (event.Deliver t k (Ok b) ∷ es) k in
      let now : (p : ℕ) → when p ≡ cond (holds b p) t (reached_at es k p) = λ p. ap (λ (ds : List Delivery). reached ds p) (delivered_here es t k b) in
      let here : Pace horizon (batch_of es) when (served_with b (seat_of u k)) t (carried s.net k) = record {
        told = λ p l r. ⊎_elim
            (λ (low : p < b.first).
            let is-now = now p in
            let was : reached_at es k p ≡ when p = grind (arith, nat_tests) in
            let told = old.told p l (omega arith) in
            let served = else_served (seat_of u k).condition not-ended (λ e. (let z = old.bare e in omega arith)) in
            let gone = since_is u.clock k t (u.clock k) (length u.seats) refl q few on-time.1 in
            let late = checks.1.1.1.1.0 in
            let times = h.times in
            let far : horizon ≤ t - u.clock k = grind (arith, nat_tests) in
            (told.0, omega (arith, own.past, on-time.0), λ near. absurd (omega (arith, own.past, on-time.0))))
            (λ (high : b.first ≤ p).
            let in_b : p < b.first + b.count = omega arith in
            let is-now = now p in
            let was : when p ≡ t = grind (arith, nat_tests) in
            let of = known.0.1 p high in_b in
            (omega (arith, known.0.0), omega arith, λ _. (of, was)))
            (cases_lt p b.first);
        bare = λ e. absurd (true≢false (sym e));
        known = λ _. known.1;
      } in
      subst P (sym s.after) (record {
        times = h.times;
        written = h.written;
        unsealed = h.unsealed;
        pace = at_each u.seats k (served_with b (seat_of u k)) q
            (λ j x. Pace horizon (batch_of es) (reached_at (event.Deliver t k (Ok b) ∷ es) j) x (marked u.clock k t j) (carried s.net j))
            (subst (λ (m : ℕ). Pace horizon (batch_of es) when (served_with b (seat_of u k)) m (carried s.net k)) (sym mark) here)
            (λ j ne r.
            let m : u.clock j ≡ marked u.clock k t j = grind (arith, nat_tests) in
            let same : (p : ℕ) → reached_at (event.Deliver t k (Ok b) ∷ es) j p ≡ reached_at es j p = λ p. ap (λ (ds : List Delivery). reached ds p) (delivered_elsewhere es t k b j ne) in
            let due : carried u.forward j ≡ carried s.net j = ap (λ (l : Link Batch). records l.pairs) (sym (s.taken.only.others j ne)) in
            subst (λ (i : ℕ). Pace horizon (batch_of es) (reached_at (event.Deliver t k (Ok b) ∷ es) j) (seat_of u j) i (carried s.net j)) m
            (subst (λ (l : List Batch). Pace horizon (batch_of es) (reached_at (event.Deliver t k (Ok b) ∷ es) j) (seat_of u j) (u.clock j) l) due
            (subst (λ (f : ℕ → ℕ). Pace horizon (batch_of es) f (seat_of u j) (u.clock j) (carried u.forward j)) (fun_ext (λ p. sym (same p))) (h.pace j r))));
        prompt = h.prompt;
      })

  -- a trade is submitted: within the horizon its trigger is of the last batch, which came when the trigger did
  submit_paced : (t k : ℕ) (o : Offer) (n : ℕ) → Passed (submit_checks u t k o) → Submitted u t k o n v → Paced horizon (event.Submit t k o (Ok n) ∷ es) v
  submit_paced t k o n passed s =
      let P : World → Type 0 = λ w. Paced horizon (event.Submit t k o (Ok n) ∷ es) w in
      let checks = none_fail (submit_checks u t k o) passed in
      let on-time = timely u t checks.0 in
      let q : k < length u.seats = leb-false (length u.seats) k checks.1.0 in
      let triggered = checks.1.1.1.1.0 in
      let own = kept.seated k q in
      let old = h.pace k q in
      let told = old.told o.trigger (grind (arith, nat_tests)) (grind (arith, nat_tests)) in
      let tagged : t - reached_at es k o.trigger < horizon → (last_batch es k ≡ batch_of es o.trigger) × (t - last_delivery es k ≡ t - reached_at es k o.trigger) = λ near.
      (let both = told.2 (omega (arith, own.past, on-time.0, told.1)) in
      (sym own.served ∙ sym both.0, ap (λ (d : ℕ). t - d) (sym own.marked ∙ sym both.1))) in
      subst P (sym s.after) (record {
        times = h.times;
        written = h.written;
        unsealed = h.unsealed;
        pace = one_seat k (submitted_once (seat_of u k)) q (record { told = old.told; bare = old.bare; known = old.known });
        prompt = ((told.0, tagged), h.prompt);
      })

  -- a beat is sent
  beat_paced : (t k : ℕ) (a : Unit {0}) → Beaten u t k v → Paced horizon (event.Beat t k (Ok a) ∷ es) v
  beat_paced t k a s =
      let P : World → Type 0 = λ w. Paced horizon (event.Beat t k (Ok a) ∷ es) w in
      subst P (sym s.after) (record { times = h.times; written = h.written; unsealed = h.unsealed; pace = h.pace; prompt = h.prompt })

  -- an end is sent
  end_paced : (t k : ℕ) (a : Unit {0}) → Passed (send_checks u t k) → EndSent u t k v → Paced horizon (event.End t k (Ok a) ∷ es) v
  end_paced t k a passed s =
      let P : World → Type 0 = λ w. Paced horizon (event.End t k (Ok a) ∷ es) w in
      let checks = none_fail (send_checks u t k) passed in
      let q : k < length u.seats = leb-false (length u.seats) k checks.1.0 in
      let old = h.pace k q in
      subst P (sym s.after) (record {
        times = h.times;
        written = h.written;
        unsealed = h.unsealed;
        pace = one_seat k (ended_now (seat_of u k)) q (record { told = old.told; bare = λ e. absurd (true≢false (sym e)); known = λ e. absurd (true≢false e) });
        prompt = h.prompt;
      })

  -- a message is collected
  collect_paced : (t k : ℕ) (a : Kind) → Passed (collect_checks u t k) → Collected u t k a v → Paced horizon (event.Collect t k (Ok a) ∷ es) v
  collect_paced t k a passed s =
      let P : World → Type 0 = λ w. Paced horizon (event.Collect t k (Ok a) ∷ es) w in
      let checks = none_fail (collect_checks u t k) passed in
      let q : k < length u.seats = leb-false (length u.seats) k checks.1.0 in
      let old = h.pace k q in
      subst P (sym s.after) (record {
        times = h.times;
        written = h.written;
        unsealed = h.unsealed;
        pace = one_seat k (collected_with s.count (stamp s.message) (seat_of u k)) q (record { told = old.told; bare = old.bare; known = old.known });
        prompt = h.prompt;
      })

  -- a trade is released
  release_paced : (x : Outcome) → Released u x.line v → Paced horizon (event.Release (Ok x) ∷ es) v
  release_paced x s =
      let P : World → Type 0 = λ w. Paced horizon (event.Release (Ok x) ∷ es) w in
      let l = x.line.trade in
      let first : Held u.seats l × AllByRecursion (Held u.seats) s.others = all_shuffled (Held u.seats) u.buffer (l ∷ s.others) s.head.all kept.lined.held in
      let q : l.seat < length u.seats = first.0.seat in
      let old = h.pace l.seat q in
      subst P (sym s.after) (record {
        times = h.times;
        written = h.written;
        unsealed = h.unsealed;
        pace = one_seat l.seat (released_once (seat_of u l.seat)) q (record { told = old.told; bare = old.bare; known = old.known });
        prompt = h.prompt;
      })

-- a refused call changes nothing, in the world and in what the history says
same_paced : (horizon : ℕ) (es : List Event) (u v : World) → Paced horizon es u → v ≡ u → Paced horizon es v
same_paced horizon es u v h e = let P : World → Type 0 = λ w. Paced horizon es w in subst P (sym e) h

-- every call keeps the pace
step_paced : (horizon : ℕ) (es : List Event) (e : Event) (u v : World) → Kept es u → Paced horizon es u → Step u e v → Paced horizon (e ∷ es) v
step_paced horizon es (event.Point t x (Ok n)) u v kept h s = point_paced horizon es u v kept h t x n s.1
step_paced horizon es (event.Point t x (Err r)) u v kept h s = same_paced horizon es u v h s.1
step_paced horizon es (event.Seal t (Ok n)) u v kept h s = seal_paced horizon es u v kept h t n s.1
step_paced horizon es (event.Seal t (Err r)) u v kept h s = same_paced horizon es u v h s.1
step_paced horizon es (event.Deliver t k (Ok b)) u v kept h s = deliver_paced horizon es u v kept h t k b s.0 s.1
step_paced horizon es (event.Deliver t k (Err r)) u v kept h s = same_paced horizon es u v h s.1
step_paced horizon es (event.Submit t k o (Ok n)) u v kept h s = submit_paced horizon es u v kept h t k o n s.0 s.1
step_paced horizon es (event.Submit t k o (Err r)) u v kept h s = same_paced horizon es u v h s.1
step_paced horizon es (event.Beat t k (Ok a)) u v kept h s = beat_paced horizon es u v kept h t k a s.1
step_paced horizon es (event.Beat t k (Err r)) u v kept h s = same_paced horizon es u v h s.1
step_paced horizon es (event.End t k (Ok a)) u v kept h s = end_paced horizon es u v kept h t k a s.0 s.1
step_paced horizon es (event.End t k (Err r)) u v kept h s = same_paced horizon es u v h s.1
step_paced horizon es (event.Collect t k (Ok a)) u v kept h s = collect_paced horizon es u v kept h t k a s.0 s.1
step_paced horizon es (event.Collect t k (Err r)) u v kept h s = same_paced horizon es u v h s.1
step_paced horizon es (event.Release (Ok x)) u v kept h s = release_paced horizon es u v kept h x s
step_paced horizon es (event.Release (Err r)) u v kept h s = same_paced horizon es u v h s.1

-- and so does every run
pub run_paced : (horizon : ℕ) (w : World) → Kept [] w → Paced horizon [] w → (es : List Event) (v : World) → Run w es v → Paced horizon es v
run_paced horizon w k h [] v r = let P : World → Type 0 = λ u. Paced horizon [] u in subst P (sym r) h
run_paced horizon w k h (e ∷ es) v r = step_paced horizon es e r.0 v (run_kept w k es r.0 r.1) (run_paced horizon w k h es r.0 r.1) r.2

-- and every session starts with it
pub fresh_paced : (w : World) → Fresh w → Paced w.times.horizon [] w
fresh_paced w f = record {
  times = refl;
  written = sym (ap (λ (m : Market). m.points) (fresh_market w f));
  unsealed = λ p q. refl;
  pace = λ k q.
      let bare : seat_of w k ≡ blank = fresh_blank w f k q in
      subst (λ (s : Seat). Pace w.times.horizon (batch_of []) (reached_at [] k) s (w.clock k) (carried w.forward k)) (sym bare)
      (subst (λ (l : Link Batch). Pace w.times.horizon (batch_of []) (reached_at [] k) blank (w.clock k) (records l.pairs)) (sym (f.forward k))
      (record { told = λ p l r. absurd (omega arith); bare = λ _. refl; known = λ _. tt }));
  prompt = tt;
}
