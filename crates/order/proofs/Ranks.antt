-- The orders of tags, watermarks and trades. How trades rank is read off their key here and nowhere else; the proofs that
-- follow cite only the laws of `Precedes` below.
use Rattle.std.proofs.Common.{◌≡◌, ◌<◌, ◌≤◌, true, sym, refl, ap, ◌∙◌, ⊎_elim, true≢false, arith}
use Rattle.std.proofs.lemmas.Bool.{cases_Bool}
use Rattle.std.proofs.lemmas.Bool.Decides.{nat_tests}
use Rattle.records.specs.declared.tag.Tag.{Tag}
use Rattle.records.specs.declared.tag.Watermark.{Watermark}
use Rattle.records.specs.declared.tag.Watermark.TheVariants.{At, Top}
use Rattle.records.specs.declared.trade.DeliveryKey.{DeliveryKey}
use Rattle.records.specs.declared.trade.Trade.{Trade}
use Rattle.records.specs.Tag.{above}
use Rattle.records.specs.Trade.{Precedes, TradeUpto, key_upto, trade_key}
use Rattle.records.specs.Keys.{keys_lawful}

-- one tag is not above another
abbrev pub TagUpto : Tag → Tag → Type 0
TagUpto a b = (a.batch ≤ b.batch) × (a.batch ≡ b.batch → a.elapsed ≤ b.elapsed)

-- one watermark is not above another
abbrev pub Upto : Watermark → Watermark → Type 0
Upto (At a) (At b) = TagUpto a b
Upto (At a) Top = Unit {0}
Upto Top (At b) = ⊥
Upto Top Top = Unit {0}

pub upto_refl : (a : Watermark) → Upto a a
upto_refl (At a) = omega arith
upto_refl Top = tt

pub upto_top : (a : Watermark) → Upto a Top
upto_top (At a) = tt
upto_top Top = tt

pub upto_trans : (a b c : Watermark) → Upto a b → Upto b c → Upto a c
upto_trans (At a) (At b) (At c) h k = omega arith
upto_trans (At a) (At b) Top h k = tt
upto_trans (At a) Top (At c) h k = absurd k
upto_trans (At a) Top Top h k = tt
upto_trans Top (At b) c h k = absurd h
upto_trans Top Top (At c) h k = absurd k
upto_trans Top Top Top h k = tt

-- what a watermark is above, a later one is above
pub above_upto : (m n : Watermark) (g : Tag) → above m g ≡ true → Upto m n → above n g ≡ true
above_upto (At a) (At b) g h k = grind (arith, nat_tests)
above_upto (At a) Top g h k = refl
above_upto Top (At b) g h k = absurd k
above_upto Top Top g h k = refl

-- a trade ranks before another by its numbers, one after another
abbrev pub InOrder : Trade → Trade → Type 0
InOrder a b =
    (a.tag.batch ≤ b.tag.batch)
    × (a.tag.batch ≡ b.tag.batch → a.tag.elapsed ≤ b.tag.elapsed)
    × (a.tag.batch ≡ b.tag.batch → a.tag.elapsed ≡ b.tag.elapsed → a.seat ≤ b.seat)
    × (a.tag.batch ≡ b.tag.batch → a.tag.elapsed ≡ b.tag.elapsed → a.seat ≡ b.seat → a.serial < b.serial)

-- so it precedes it by its key
pub precedes_in_order : (a b : Trade) → InOrder a b → Precedes a b
precedes_in_order a b h = grind (arith, nat_tests)

-- a trade precedes those with a higher tag
pub precedes_below : (a b : Trade) → above (At b.tag) a.tag ≡ true → Precedes a b
precedes_below a b h = grind (arith, nat_tests)

-- a trade precedes the later ones of its seat
pub precedes_later : (a b : Trade) → TagUpto a.tag b.tag → a.seat ≡ b.seat → a.serial < b.serial → Precedes a b
precedes_later a b h e k = precedes_in_order a b (omega arith)

-- no two trades precede each other
pub precedes_not : (a b : Trade) → Precedes a b → Precedes b a → ⊥
precedes_not a b h k = true≢false (sym (keys_lawful.total (trade_key b) (trade_key a) h) ∙ k)

-- of two trades that differ in seat or serial, the one that ranks first precedes the other
pub precedes_total : (a b : Trade) → TradeUpto a b → (a.seat ≡ b.seat → a.serial ≡ b.serial → ⊥) → Precedes a b
precedes_total a b h apart =
    ⊎_elim
    (λ (k : key_upto (trade_key b) (trade_key a) ≡ true).
    let same : trade_key a ≡ trade_key b = keys_lawful.antisym (trade_key a) (trade_key b) h k in
    absurd (apart (ap (λ (x : DeliveryKey). x.seat) same) (ap (λ (x : DeliveryKey). x.serial) same)))
    (λ k. k)
    (cases_Bool (key_upto (trade_key b) (trade_key a)))
