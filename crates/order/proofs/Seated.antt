-- What every run keeps of one seat, and what each call does to it.
use Rattle.std.proofs.Common.{◌≡◌, ℕ, ◌+◌, ◌-◌, ◌<◌, ◌≤◌, false, List, [], ◌∷◌, ◌++◌, length, get_or, set, sym, refl, ap, ◌∙◌, subst, ⊎_elim, true≢false, arith, length-set, get_or-set_other, get_or-set_same}
use Rattle.std.proofs.lemmas.Bool.{cases_eq}
use Rattle.records.specs.declared.batch.Batch.{Batch}
use Rattle.records.specs.declared.seat.Condition.{Condition}
use Rattle.records.specs.declared.seat.Condition.TheVariants.{Bare, Served, Ended}
use Rattle.records.specs.declared.message.Message.{Message}
use Rattle.records.specs.declared.message.Message.TheVariants as message
use Rattle.records.specs.declared.seat.Seat.{Seat}
use Rattle.records.specs.declared.tag.Tag.{Tag}
use Rattle.records.specs.declared.trade.Trade.{Trade}
use Rattle.records.specs.declared.tag.Watermark.{Watermark}
use Rattle.records.specs.declared.tag.Watermark.TheVariants.{At, Top}
use Rattle.records.specs.Message.{stamp}
use Rattle.records.specs.Seat.{blank, is_ended, served_with, submitted_once, ended_now, collected_with, released_once}
use Rattle.order.proofs.Ranks.{Upto, upto_top}
use Rattle.order.proofs.Links.{Follow, follow_push, Climb, climb_raise, climb_push, Count, count_trade, count_beat}

-- the highest tag that a seat has sent or could send now
abbrev pub ceiling : Condition → Tag → Watermark
ceiling Bare g = At g
ceiling Served g = At g
ceiling Ended g = Top

-- while the seat has not ended, it is its tag
pub ceiling_open : (c : Condition) (g : Tag) → is_ended c ≡ false → ceiling c g ≡ At g
ceiling_open Bare g h = refl
ceiling_open Served g h = refl
ceiling_open Ended g h = absurd (true≢false h)

-- it rises with the tag
pub ceiling_raise : (c : Condition) (g h : Tag) → Upto (At g) (At h) → Upto (ceiling c g) (ceiling c h)
ceiling_raise Bare g h u = u
ceiling_raise Served g h u = u
ceiling_raise Ended g h u = tt

-- the seat has not ended
abbrev pub Open : Seat → Type 0
Open s = is_ended s.condition ≡ false

-- seat k: its record, its mark on the stop-clock, the batches and the messages on its links,
-- and the moment and the batch of its last accepted deliver
pub record Seated (last sealed points k : ℕ) (s : Seat) (mark : ℕ) (due : List Batch) (sent : List Message) (delivery batch : ℕ) : Type 0 where
  pub marked : mark ≡ delivery
  pub served : s.batch ≡ batch
  pub past : mark ≤ last
  pub follow : Open s → Follow s.batch s.point due sealed points
  pub climb : Climb s.watermark sent (ceiling s.condition (record { batch = s.batch; elapsed = last - mark }))
  pub count : Count k s.collected sent s.submitted

module _ {last sealed points k : ℕ} {s : Seat} {mark : ℕ} {due : List Batch} {sent : List Message} {delivery batch : ℕ} (h : Seated last sealed points k s mark due sent delivery batch) where
  -- time passes, and all that the seat has stays
  pub seated_later : (t : ℕ) → last ≤ t → {mark' : ℕ} {due' : List Batch} {sent' : List Message} {delivery' batch' : ℕ} → mark' ≡ mark → due' ≡ due → sent' ≡ sent → delivery' ≡ delivery → batch' ≡ batch → Seated t sealed points k s mark' due' sent' delivery' batch'
  seated_later t p {mark'} {due'} {sent'} m d e f g = record {
    marked = m ∙ h.marked ∙ sym f;
    served = h.served ∙ sym g;
    past = omega (arith, h.past);
    follow = λ o. subst (λ (l : List Batch). Follow s.batch s.point l sealed points) (sym d) (h.follow o);
    climb = subst (λ (l : List Message). Climb s.watermark l (ceiling s.condition (record { batch = s.batch; elapsed = t - mark' }))) (sym e)
        (climb_raise s.watermark sent (ceiling s.condition (record { batch = s.batch; elapsed = last - mark })) (ceiling s.condition (record { batch = s.batch; elapsed = t - mark' })) h.climb
        (ceiling_raise s.condition (record { batch = s.batch; elapsed = last - mark }) (record { batch = s.batch; elapsed = t - mark' }) (omega arith)));
    count = subst (λ (l : List Message). Count k s.collected l s.submitted) (sym e) h.count;
  }

  -- a batch is sealed
  pub seated_seal : (t : ℕ) → last ≤ t → (b : Batch) (due' : List Batch) → (Open s → due' ≡ due ++ b ∷ []) → b.number ≡ sealed + 1 → b.first ≡ points + 1 → 1 ≤ b.count → Seated t (sealed + 1) (points + b.count) k s mark due' sent delivery batch
  seated_seal t p b due' d e f c =
      let l = seated_later t p refl refl refl refl refl in
      record {
        marked = l.marked;
        served = l.served;
        past = l.past;
        climb = l.climb;
        count = l.count;
        follow = λ o. subst (λ (l : List Batch). Follow s.batch s.point l (sealed + 1) (points + b.count)) (sym (d o)) (follow_push s.batch s.point due sealed points b (h.follow o) e f c);
      }

  -- a batch is delivered, and the stop-clock marked
  pub seated_deliver : (t : ℕ) → last ≤ t → Open s → (b : Batch) (rest : List Batch) → due ≡ b ∷ rest → {mark' delivery' batch' : ℕ} → mark' ≡ t → delivery' ≡ t → batch' ≡ b.number → Seated t sealed points k (served_with b s) mark' rest sent delivery' batch'
  seated_deliver t p o b rest e {mark'} m d n =
      let f : Follow s.batch s.point (b ∷ rest) sealed points = subst (λ (l : List Batch). Follow s.batch s.point l sealed points) e (h.follow o) in
      let old : Tag = record { batch = s.batch; elapsed = last - mark } in
      let new : Tag = record { batch = b.number; elapsed = t - mark' } in
      let up : Upto (ceiling s.condition old) (At new) = subst (λ (c : Watermark). Upto c (At new)) (sym (ceiling_open s.condition old o)) (omega arith) in
      let e₁ : s.batch + 1 ≡ b.number = omega arith in
      let e₂ : s.point + b.count ≡ b.first + b.count - 1 = omega arith in
      record {
        marked = m ∙ sym d;
        served = sym n;
        past = omega arith;
        follow = λ _. subst (λ (i : ℕ). Follow i (b.first + b.count - 1) rest sealed points) e₁ (subst (λ (i : ℕ). Follow (s.batch + 1) i rest sealed points) e₂ f.3);
        climb = climb_raise s.watermark sent (ceiling s.condition old) (At new) h.climb up;
        count = h.count;
      }

  -- a message with the seat's present tag is sent
  module _ (t : ℕ) (p : last ≤ t) (o : Open s) (m : Message) (g : Tag) (is : stamp m ≡ At g) (gb : g.batch ≡ s.batch) (ge : g.elapsed ≡ t - mark) where
    tagged_climb : Climb s.watermark (sent ++ m ∷ []) (ceiling s.condition (record { batch = s.batch; elapsed = t - mark }))
    tagged_climb =
        let before : Tag = record { batch = s.batch; elapsed = last - mark } in
        let after : Tag = record { batch = s.batch; elapsed = t - mark } in
        let up : Upto (ceiling s.condition before) (At g) = subst (λ (c : Watermark). Upto c (At g)) (sym (ceiling_open s.condition before o)) (omega arith) in
        let b = sym gb in
        let e = sym ge in
        let same : after ≡ g = λ i. record { batch = b i; elapsed = e i } in
        let top : stamp m ≡ ceiling s.condition after = is ∙ sym (ceiling_open s.condition after o ∙ ap (λ (x : Tag). At x) same) in
        subst (λ (c : Watermark). Climb s.watermark (sent ++ m ∷ []) c) top
        (climb_push s.watermark sent (ceiling s.condition before) m h.climb (subst (λ (c : Watermark). Upto (ceiling s.condition before) c) (sym is) up))

  -- a trade, a beat or an end is sent
  module _ (t : ℕ) (p : last ≤ t) (o : Open s) where
    pub seated_submit : (x : Trade) → x.seat ≡ k → x.serial ≡ s.submitted + 1 → x.tag.batch ≡ s.batch → x.tag.elapsed ≡ t - mark → {sent' : List Message} → sent' ≡ sent ++ message.Trade x ∷ [] → Seated t sealed points k (submitted_once s) mark due sent' delivery batch
    seated_submit x e f gb ge {sent'} is =
        let P : List Message → Type 0 = λ l. Seated t sealed points k (submitted_once s) mark due l delivery batch in
        subst P (sym is) (record {
          marked = h.marked;
          served = h.served;
          past = omega (arith, h.past);
          follow = h.follow;
          climb = tagged_climb t p o (message.Trade x) x.tag refl gb ge;
          count = count_trade k s.collected sent s.submitted x h.count e f;
        })

    pub seated_beat : (g : Tag) → g.batch ≡ s.batch → g.elapsed ≡ t - mark → {sent' : List Message} → sent' ≡ sent ++ message.Beat g ∷ [] → Seated t sealed points k s mark due sent' delivery batch
    seated_beat g gb ge {sent'} is =
        let P : List Message → Type 0 = λ l. Seated t sealed points k s mark due l delivery batch in
        subst P (sym is) (record {
          marked = h.marked;
          served = h.served;
          past = omega (arith, h.past);
          follow = h.follow;
          climb = tagged_climb t p o (message.Beat g) g refl gb ge;
          count = count_beat k s.collected sent s.submitted (message.Beat g) (λ c e. e) h.count;
        })

    pub seated_end : {sent' : List Message} → sent' ≡ sent ++ message.End ∷ [] → Seated t sealed points k (ended_now s) mark due sent' delivery batch
    seated_end {sent'} is =
        let P : List Message → Type 0 = λ l. Seated t sealed points k (ended_now s) mark due l delivery batch in
        let high = ceiling s.condition (record { batch = s.batch; elapsed = last - mark }) in
        subst P (sym is) (record {
          marked = h.marked;
          served = h.served;
          past = omega (arith, h.past);
          follow = λ o. absurd (true≢false o);
          climb = climb_push s.watermark sent high message.End h.climb (upto_top high);
          count = count_beat k s.collected sent s.submitted message.End (λ c e. e) h.count;
        })

  -- a message is collected
  pub seated_collect : (t : ℕ) → last ≤ t → (m : Message) (rest : List Message) → sent ≡ m ∷ rest → (c : ℕ) → Count k c rest s.submitted → Seated t sealed points k (collected_with c (stamp m) s) mark due rest delivery batch
  seated_collect t p m rest e c n =
      let l = seated_later t p refl refl (sym e) refl refl in
      record { marked = l.marked; served = l.served; past = l.past; follow = l.follow; climb = l.climb.1; count = n }

  -- a trade is released
  pub seated_release : Seated last sealed points k (released_once s) mark due sent delivery batch
  seated_release = record { marked = h.marked; served = h.served; past = h.past; follow = h.follow; climb = h.climb; count = h.count }

-- what holds of each seat, where one has changed
pub at_each : (seats : List Seat) (k : ℕ) (s : Seat) → k < length seats → (P : ℕ → Seat → Type 0) → P k s → ((j : ℕ) → (j ≡ k → ⊥) → j < length seats → P j (get_or seats j blank)) → (j : ℕ) → j < length (set seats k s) → P j (get_or (set seats k s) j blank)
at_each seats k s p P here others j q =
    ⊎_elim
    (λ e. subst (λ (i : ℕ). P i (get_or (set seats k s) i blank)) (sym e) (subst (P k) (sym (get_or-set_same seats k s blank p)) here))
    (λ ne. subst (P j) (sym (get_or-set_other seats k j s blank ne)) (others j ne (subst (λ (n : ℕ). j < n) (length-set seats k s) q)))
    (cases_eq j k)
