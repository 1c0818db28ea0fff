-- What a network means: sixteen links, each with the records on their way, and how its calls change that.
-- The code speaks of it through the ghost member `meaning` of the trait `Network`.
use Rattle.std.specs.Prelude.{◌≡◌, ℕ, suc, ◌+◌, ◌^◌, ◌≤◌, min, max, Bool, true, false, if◌then◌else◌, ◌&&◌, List, [], ◌∷◌, ◌++◌, length, IfSome, Some, None, Ok, Err, Option, Result, ◌==◌, ◌≢◌, nat_le, nat_lt}
use Rattle.std.specs.Option.{unwrap_or}

-- moments are below this
abbrev pub limit : ℕ
limit = 2 ^ 48

-- an arrival or a longest delay of 2^48 or more counts as 2^48
abbrev pub capped : ℕ → ℕ
capped a = min a limit

-- one link: (arrival, record) for each record on its way, oldest first, and the last arrival ever given, or none
pub record Link (R : Type 0) : Type 0 where
  pub pairs : List (ℕ × R)
  pub last : Option ℕ

-- what a formula gives, if the network has one, for the nth record accepted on a link from now on and sent at a
-- moment: its arrival on a line where nothing is ahead of it
abbrev pub Formula : Type 0
Formula = (link nth moment : ℕ) → Option ℕ

-- a network. The capacity, at most 64, and the longest delay never change
pub record Net (R : Type 0) : Type 0 where
  pub links : ℕ → Link R
  pub capacity : ℕ
  pub longest : ℕ
  pub formula : Formula

-- a link that was never used
abbrev pub idle : {R : Type 0} → Link R
idle = record { pairs = []; last = None }

-- a network that was never used
abbrev pub Unused : {R : Type 0} → Net R → Type 0
Unused n = (k : ℕ) → n.links k ≡ idle

-- room on a link: there are sixteen, and each holds as many records as the capacity says
abbrev pub has_room : {R : Type 0} → Net R → ℕ → Bool
has_room n k = nat_lt k 16 && nat_lt (length (n.links k).pairs) n.capacity

-- a send is accepted exactly with room and at a moment
abbrev pub accepts : {R : Type 0} → Net R → (link moment : ℕ) → Bool
accepts n k m = has_room n k && nat_lt m limit

-- the first of these pairs has arrived at a moment
abbrev pub arrived : {R : Type 0} → List (ℕ × R) → ℕ → Bool
arrived [] m = false
arrived (p ∷ _) m = nat_le p.0 m

-- a record waits on a link at a moment
abbrev pub is_waiting : {R : Type 0} → Net R → (link moment : ℕ) → Bool
is_waiting n k m = nat_lt k 16 && nat_lt m limit && arrived (n.links k).pairs m

-- the later of a moment and the last arrival
abbrev pub earliest : ℕ → Option ℕ → ℕ
earliest m last = max m (unwrap_or last 0)

-- no record overtakes: where the formula gives one, the arrival is the later of that and the last arrival
abbrev pub Follows : Option ℕ → Option ℕ → ℕ → Type 0
Follows given last arrival = IfSome given (λ a. arrival ≡ earliest a last)

-- a link with one record more, at the end of its list
pub record Added {R : Type 0} (given : Option ℕ) (longest : ℕ) (l l' : Link R) (m : ℕ) (x : R) : Type 0 where
  pub arrival : ℕ
  pub follows : Follows given l.last arrival
  pub after : earliest m l.last ≤ arrival
  pub before : arrival ≤ earliest m l.last + longest
  pub cap : arrival ≤ limit
  pub pairs : l'.pairs ≡ l.pairs ++ ((arrival, x) ∷ [])
  pub last : l'.last ≡ Some arrival

-- every other link is as it was, and so are the capacity and the longest delay
pub record Only {R : Type 0} (n n' : Net R) (k : ℕ) : Type 0 where
  pub others : (j : ℕ) → (j ≢ k) → n'.links j ≡ n.links j
  pub capacity : n'.capacity ≡ n.capacity
  pub longest : n'.longest ≡ n.longest

-- the formula once one more record was accepted on a link
abbrev pub counted : Formula → ℕ → Formula
counted f k = λ j i. f j (if j == k then suc i else i)

-- an accepted send
pub record Sent {R : Type 0} (n n' : Net R) (k m : ℕ) (x : R) : Type 0 where
  pub accepted : accepts n k m ≡ true
  pub added : Added (n.formula k 0 m) n.longest (n.links k) (n'.links k) m x
  pub only : Only n n' k
  pub formula : n'.formula ≡ counted n.formula k

-- a refused send hands the record back and changes nothing
pub record Refused {R : Type 0} (n n' : Net R) (k m : ℕ) (x back : R) : Type 0 where
  pub refused : accepts n k m ≡ false
  pub handed_back : back ≡ x
  pub same : n' ≡ n

-- what a send answers and leaves
abbrev pub Sends : {R U : Type 0} → Net R → (k m : ℕ) → R → Result U R → Net R → Type 0
Sends n k m x (Ok _) n' = Sent n n' k m x
Sends n k m x (Err back) n' = Refused n n' k m x back

-- a take: the first pair of the link is gone, and its record is handed out
pub record Taken {R : Type 0} (n n' : Net R) (k m : ℕ) (x : R) : Type 0 where
  pub waited : is_waiting n k m ≡ true
  pub arrival : ℕ
  pub pairs : (n.links k).pairs ≡ (arrival, x) ∷ (n'.links k).pairs
  pub last : (n'.links k).last ≡ (n.links k).last
  pub only : Only n n' k
  pub formula : n'.formula ≡ n.formula

-- a take where none waits changes nothing
pub record Nothing {R : Type 0} (n n' : Net R) (k m : ℕ) : Type 0 where
  pub none : is_waiting n k m ≡ false
  pub same : n' ≡ n

-- what a take answers and leaves
abbrev pub Takes : {R : Type 0} → Net R → (k m : ℕ) → Option R → Net R → Type 0
Takes n k m None n' = Nothing n n' k m
Takes n k m (Some x) n' = Taken n n' k m x
