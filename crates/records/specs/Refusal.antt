-- What each refusal says: its number, the seat that it names, the network that it is about, and a batch.
use Rattle.std.specs.Prelude.{ℕ, List, Some, None, Option, codes}
use Rattle.records.specs.declared.refusal.Direction.{Direction}
use Rattle.records.specs.declared.refusal.Direction.TheVariants.{Forward, Reverse}
use Rattle.records.specs.declared.refusal.Refusal.{Refusal}
use Rattle.records.specs.declared.refusal.Refusal.TheVariants as refusal

pub record Spelled : Type 0 where
  pub number : ℕ
  pub seat : Option ℕ
  pub hop : Option Direction
  pub batch : ℕ

-- a refusal that names nothing, a seat, or a seat and a batch
abbrev pub bare_number : ℕ → Spelled
bare_number n = record { number = n; seat = None; hop = None; batch = 0 }

abbrev pub at_seat : ℕ → ℕ → Spelled
at_seat n k = record { number = n; seat = Some k; hop = None; batch = 0 }

-- every refusal, with its number
abbrev pub spelled : Refusal → Spelled
spelled (refusal.BadMoment k) = record { number = 10; seat = k; hop = None; batch = 0 }
spelled (refusal.NoSeat k) = at_seat 11 k
spelled (refusal.Ended k) = at_seat 12 k
spelled refusal.BatchFull = bare_number 20
spelled refusal.PointsFull = bare_number 21
spelled refusal.BatchEmpty = bare_number 22
spelled refusal.SealedLately = bare_number 23
spelled (refusal.ForwardFull k b) = record { number = 24; seat = Some k; hop = Some Forward; batch = b }
spelled (refusal.NoBatch k b) = record { number = 30; seat = Some k; hop = Some Forward; batch = b }
spelled (refusal.ServedLately k b) = record { number = 31; seat = Some k; hop = None; batch = b }
spelled (refusal.Bare k) = at_seat 40 k
spelled (refusal.BadTrigger k) = at_seat 41 k
spelled (refusal.BadOrder k) = at_seat 42 k
spelled (refusal.TradesSpent k) = at_seat 43 k
spelled (refusal.TooManyPending k) = at_seat 44 k
spelled (refusal.ReverseFull k) = record { number = 45; seat = Some k; hop = Some Reverse; batch = 0 }
spelled (refusal.NoMessage k) = record { number = 50; seat = Some k; hop = Some Reverse; batch = 0 }
spelled refusal.BufferEmpty = bare_number 60
spelled (refusal.HeldUp k b) = record { number = 61; seat = Some k; hop = None; batch = b }
spelled refusal.TapeFull = bare_number 62

-- what each is printed as
abbrev pub reason : Refusal → List ℕ
reason (refusal.BadMoment k) = codes "the moment is before that of the last accepted call, or is none"
reason (refusal.NoSeat k) = codes "there is no such seat"
reason (refusal.Ended k) = codes "the seat has ended"
reason refusal.BatchFull = codes "the open batch is full"
reason refusal.PointsFull = codes "there is no room for another point"
reason refusal.BatchEmpty = codes "the open batch is empty"
reason refusal.SealedLately = codes "less than the window has passed since the last seal"
reason (refusal.ForwardFull k b) = codes "the seat's forward link has no room"
reason (refusal.NoBatch k b) = codes "no batch is waiting for the seat"
reason (refusal.ServedLately k b) = codes "less than the horizon has passed since the seat's last delivery"
reason (refusal.Bare k) = codes "the seat had no delivery yet"
reason (refusal.BadTrigger k) = codes "the trigger is no point that was delivered to the seat"
reason (refusal.BadOrder k) = codes "the price or the quantity is out of range"
reason (refusal.TradesSpent k) = codes "the seat has had all the trades that it may have"
reason (refusal.TooManyPending k) = codes "as many of the seat's trades as may be are not released"
reason (refusal.ReverseFull k) = codes "the seat's reverse link has no room"
reason (refusal.NoMessage k) = codes "no message of the seat is waiting"
reason refusal.BufferEmpty = codes "the buffer is empty"
reason (refusal.HeldUp k b) = codes "the seat holds the buffer's first trade up"
reason refusal.TapeFull = codes "the tape has no free line"
