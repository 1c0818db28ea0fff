-- What one write answers, and what it leaves of a lent list.
use Rattle.std.specs.Prelude.{◌≡◌, ◌+◌, [], ◌∷◌, Result, MatchResult, slice_set}
use Rattle.lines.specs.declared.lines.Lines.{Lines}
use Rattle.lines.specs.Pages.{Page, Written, page}

module _ {X : Type 0} where
  -- a page with its next line written
  abbrev pub with_line : Page X → X → Page X
  with_line p x = record { lines = slice_set p.lines p.used x; used = p.used + 1 }

  -- a write makes the line the next one, or hands it back and changes nothing
  abbrev pub Writes : {U : Type 0} → Lines X → X → Result U X → Lines X → Type 0
  Writes l x r l' = MatchResult r (λ _. Written (page l) (x ∷ []) (page l')) (λ y. (y ≡ x) × (l' ≡ l))
