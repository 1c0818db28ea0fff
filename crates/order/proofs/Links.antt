-- What stands on a seat's two links: batches that follow one another, and messages whose tags and serials climb.
use Rattle.std.proofs.Common.{◌≡◌, ℕ, ◌+◌, ◌<◌, ◌≤◌, List, [], ◌∷◌, ◌++◌, refl, ap, arith}
use Rattle.std.specs.List.{AllByRecursion}
use Rattle.records.specs.declared.batch.Batch.{Batch}
use Rattle.records.specs.declared.message.Message.{Message}
use Rattle.records.specs.declared.message.Message.TheVariants as message
use Rattle.records.specs.declared.trade.Trade.{Trade}
use Rattle.records.specs.declared.tag.Watermark.{Watermark}
use Rattle.records.specs.declared.tag.Watermark.TheVariants.{At, Top}
use Rattle.records.specs.Message.{stamp}
use Rattle.order.specs.Law.{records, trades_among}
use Rattle.order.proofs.Ranks.{Upto, upto_refl, upto_trans}

-- one pair more is one record more
pub records_push : {R : Type 0} (ps : List (ℕ × R)) (a : ℕ) (r : R) → records (ps ++ (a, r) ∷ []) ≡ records ps ++ r ∷ []
records_push [] a r = refl
records_push (p ∷ ps) a r = ap (λ l. p.1 ∷ l) (records_push ps a r)

-- batches follow one another from the last one delivered, with its last point, up to the last one sealed
abbrev pub Follow : (batch point : ℕ) → List Batch → (sealed points : ℕ) → Type 0
Follow n p [] s q = (n ≡ s) × (p ≡ q)
Follow n p (b ∷ bs) s q = (b.number ≡ n + 1) × (b.first ≡ p + 1) × (1 ≤ b.count) × Follow (n + 1) (p + b.count) bs s q

-- the next batch follows the last one
pub follow_push : (n p : ℕ) (bs : List Batch) (s q : ℕ) (b : Batch) → Follow n p bs s q → b.number ≡ s + 1 → b.first ≡ q + 1 → 1 ≤ b.count → Follow n p (bs ++ b ∷ []) (s + 1) (q + b.count)
follow_push n p [] s q b h e f c = omega arith
follow_push n p (x ∷ bs) s q b h e f c = (h.0, h.1, h.2, follow_push (n + 1) (p + x.count) bs s q b h.3 e f c)

-- the tags of messages never fall, from the watermark on
abbrev pub Climb : Watermark → List Message → Watermark → Type 0
Climb low [] high = Upto low high
Climb low (m ∷ ms) high = Upto low (stamp m) × Climb (stamp m) ms high

-- a higher end is an end too
pub climb_raise : (low : Watermark) (ms : List Message) (high top : Watermark) → Climb low ms high → Upto high top → Climb low ms top
climb_raise low [] high top h u = upto_trans low high top h u
climb_raise low (m ∷ ms) high top h u = (h.0, climb_raise (stamp m) ms high top h.1 u)

-- a message that is not below the end goes on from it
pub climb_push : (low : Watermark) (ms : List Message) (high : Watermark) (m : Message) → Climb low ms high → Upto high (stamp m) → Climb low (ms ++ m ∷ []) (stamp m)
climb_push low [] high m h u = (upto_trans low high (stamp m) h u, upto_refl (stamp m))
climb_push low (x ∷ ms) high m h u = (h.0, climb_push (stamp x) ms high m h.1 u)

-- the trades among messages are seat k's, with serials from the one after c up to s
abbrev pub Count : (k c : ℕ) → List Message → (s : ℕ) → Type 0
Count k c [] s = c ≡ s
Count k c (message.Trade x ∷ ms) s = (x.seat ≡ k) × (x.serial ≡ c + 1) × Count k (c + 1) ms s
Count k c (message.Beat g ∷ ms) s = Count k c ms s
Count k c (message.End ∷ ms) s = Count k c ms s

-- serials only rise
pub count_upto : (k c : ℕ) (ms : List Message) (s : ℕ) → Count k c ms s → c ≤ s
count_upto k c [] s h = omega arith
count_upto k c (message.Trade x ∷ ms) s h = omega (arith, count_upto k (c + 1) ms s h.2)
count_upto k c (message.Beat g ∷ ms) s h = count_upto k c ms s h
count_upto k c (message.End ∷ ms) s h = count_upto k c ms s h

-- the next trade counts one more
pub count_trade : (k c : ℕ) (ms : List Message) (s : ℕ) (x : Trade) → Count k c ms s → x.seat ≡ k → x.serial ≡ s + 1 → Count k c (ms ++ message.Trade x ∷ []) (s + 1)
count_trade k c [] s x h e f = omega arith
count_trade k c (message.Trade y ∷ ms) s x h e f = (h.0, h.1, count_trade k (c + 1) ms s x h.2 e f)
count_trade k c (message.Beat g ∷ ms) s x h e f = count_trade k c ms s x h e f
count_trade k c (message.End ∷ ms) s x h e f = count_trade k c ms s x h e f

-- a message that is no trade counts none
pub count_beat : (k c : ℕ) (ms : List Message) (s : ℕ) (m : Message) → ((c : ℕ) → c ≡ s → Count k c (m ∷ []) s) → Count k c ms s → Count k c (ms ++ m ∷ []) s
count_beat k c [] s m e h = e c h
count_beat k c (message.Trade y ∷ ms) s m e h = (h.0, h.1, count_beat k (c + 1) ms s m e h.2)
count_beat k c (message.Beat g ∷ ms) s m e h = count_beat k c ms s m e h
count_beat k c (message.End ∷ ms) s m e h = count_beat k c ms s m e h

-- a trade on the link: later than those collected, and not below the watermark
pub record Coming (k c : ℕ) (low : Watermark) (x : Trade) : Type 0 where
  pub seat : x.seat ≡ k
  pub serial : c < x.serial
  pub tag : Upto low (At x.tag)

-- every trade on the link is such a one
pub coming : (k c : ℕ) (low : Watermark) (ms : List Message) (s : ℕ) (high : Watermark) → Count k c ms s → Climb low ms high → AllByRecursion (Coming k c low) (trades_among ms)
coming k c low ms s high h u = go c low c low ms (omega arith) (upto_refl low) h u
  where
    go : (c₀ : ℕ) (low₀ : Watermark) (c : ℕ) (low : Watermark) (ms : List Message) → c₀ ≤ c → Upto low₀ low → Count k c ms s → Climb low ms high → AllByRecursion (Coming k c₀ low₀) (trades_among ms)
    go c₀ low₀ c low [] p q h u = tt
    go c₀ low₀ c low (message.Trade x ∷ ms) p q h u = (
      record { seat = h.0; serial = omega arith; tag = upto_trans low₀ low (At x.tag) q u.0 },
      go c₀ low₀ (c + 1) (At x.tag) ms (omega arith) (upto_trans low₀ low (At x.tag) q u.0) h.2 u.1,
    )
    go c₀ low₀ c low (message.Beat g ∷ ms) p q h u = go c₀ low₀ c (At g) ms p (upto_trans low₀ low (At g) q u.0) h u.1
    go c₀ low₀ c low (message.End ∷ ms) p q h u = go c₀ low₀ c Top ms p (upto_trans low₀ low Top q u.0) h u.1

-- a trade at the end of the messages is the last of the trades
pub trades_push : (ms : List Message) (x : Trade) → trades_among (ms ++ message.Trade x ∷ []) ≡ trades_among ms ++ x ∷ []
trades_push [] x = refl
trades_push (message.Trade y ∷ ms) x = ap (λ (l : List Trade). y ∷ l) (trades_push ms x)
trades_push (message.Beat g ∷ ms) x = trades_push ms x
trades_push (message.End ∷ ms) x = trades_push ms x

-- a message that is no trade adds none
pub trades_beat : (ms : List Message) (m : Message) → trades_among (m ∷ []) ≡ [] → trades_among (ms ++ m ∷ []) ≡ trades_among ms
trades_beat [] m e = e
trades_beat (message.Trade y ∷ ms) m e = ap (λ (l : List Trade). y ∷ l) (trades_beat ms m e)
trades_beat (message.Beat g ∷ ms) m e = trades_beat ms m e
trades_beat (message.End ∷ ms) m e = trades_beat ms m e
