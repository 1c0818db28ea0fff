-- What a lent list is: its lines, of which the first ones are written. Later lines are as the caller left them.
use Rattle.std.specs.Prelude.{◌≡◌, ℕ, ◌+◌, Bool, List, ◌++◌, length, take, drop, nat_le}
use Rattle.lines.specs.declared.lines.Lines.{Lines}

-- the lines, and how many of them are written
pub record Page (X : Type 0) : Type 0 where
  pub lines : List X
  pub used : ℕ

module _ {X : Type 0} where
  -- the page that a lent list is
  abbrev pub page : Lines X → Page X
  page l = record { lines = l.lines.now; used = l.used }

  -- a page of these lines of which none is written
  abbrev pub blank_page : List X → Page X
  blank_page xs = record { lines = xs; used = 0 }

  -- no line is free
  abbrev pub full : Page X → Bool
  full p = nat_le (length p.lines) p.used

  -- `more` are the next lines that are written, and no other line changes
  pub record Written (p : Page X) (more : List X) (p' : Page X) : Type 0 where
    pub count : p'.used ≡ p.used + length more
    pub front : take p'.used p'.lines ≡ take p.used p.lines ++ more
    pub back : drop p'.used p'.lines ≡ drop p'.used p.lines
    pub long : length p'.lines ≡ length p.lines
