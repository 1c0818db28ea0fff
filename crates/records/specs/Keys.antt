-- The order on delivery keys is lawful: by four numbers, one after another.
use Rattle.std.specs.Prelude.{◌≡◌, true, false}
use Rattle.heap.specs.Order.{Order}
use Rattle.heap.proofs.Lex.{leb_total, leb_trans, leb_antisym, lex_total, lex_trans, lex_same}
use Rattle.records.specs.declared.trade.DeliveryKey.{DeliveryKey}
use Rattle.records.specs.Trade.{key_upto}

keys_total : (a b : DeliveryKey) → key_upto a b ≡ false → key_upto b a ≡ true
keys_total a b =
    lex_total a.tag.batch b.tag.batch _ _
    (lex_total a.tag.elapsed b.tag.elapsed _ _
    (lex_total a.seat b.seat _ _
    (leb_total a.serial b.serial)))

keys_trans : (a b c : DeliveryKey) → key_upto a b ≡ true → key_upto b c ≡ true → key_upto a c ≡ true
keys_trans a b c =
    lex_trans a.tag.batch b.tag.batch c.tag.batch _ _ _
    (lex_trans a.tag.elapsed b.tag.elapsed c.tag.elapsed _ _ _
    (lex_trans a.seat b.seat c.seat _ _ _
    (leb_trans a.serial b.serial c.serial)))

keys_antisym : (a b : DeliveryKey) → key_upto a b ≡ true → key_upto b a ≡ true → a ≡ b
keys_antisym a b h k =
    let p = lex_same a.tag.batch b.tag.batch _ _ h k in
    let q = lex_same a.tag.elapsed b.tag.elapsed _ _ p.1 p.2 in
    let r = lex_same a.seat b.seat _ _ q.1 q.2 in
    let e₁ = p.0 in
    let e₂ = q.0 in
    let e₃ = r.0 in
    let e₄ = leb_antisym a.serial b.serial r.1 r.2 in
    λ i. record { tag = record { batch = e₁ i; elapsed = e₂ i }; seat = e₃ i; serial = e₄ i }

-- trades rank by a lawful order
pub keys_lawful : Order key_upto
keys_lawful = record { total = keys_total; trans = keys_trans; antisym = keys_antisym }
