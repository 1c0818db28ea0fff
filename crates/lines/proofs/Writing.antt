-- No line written, one line written, and one write after another.
use Rattle.std.proofs.Common.{◌≡◌, ℕ, ◌+◌, ◌<◌, ◌≤◌, true, List, [], ◌∷◌, ◌++◌, length, take, drop, is_ok, Ok, Err, Result, sym, refl, ap, ◌∙◌, append_assoc, append-nil, arith, length-append, length-set, length-take, MatchResult}
use Rattle.std.proofs.lemmas.List.{take_more_set, drop-drop, drop-set-lt, take-append-drop}
use Rattle.std.proofs.lemmas.Bool.{false≢true}
use Rattle.lines.specs.Pages.{Page, Written}
use Rattle.lines.specs.Writes.{with_line}

module _ {X : Type 0} where
  -- where a run of writes begins
  pub unwritten : (p : Page X) → Written p [] p
  unwritten p = record { count = omega arith; front = sym (append-nil (take p.used p.lines)); back = refl; long = refl }

  -- a line in the next place is a write of it
  pub one_line : (p : Page X) (x : X) → p.used < length p.lines → Written p (x ∷ []) (with_line p x)
  one_line p x free = record { count = omega arith; front = take_more_set p.lines p.used x free; back = drop-set-lt (p.used + 1) p.lines p.used x (omega arith); long = length-set p.lines p.used x }

  -- two runs of writes are one
  pub and_then : (p p' p'' : Page X) (xs ys : List X) → Written p xs p' → Written p' ys p'' → Written p (xs ++ ys) p''
  and_then p p' p'' xs ys v w =
      let a = v.count in
      let b = w.count in
      let past : (l : List X) → drop p''.used l ≡ drop (length ys) (drop p'.used l) = λ l. ap (λ (n : ℕ). drop n l) b ∙ sym (drop-drop (length ys) p'.used l) in
      record {
        count = simp length-append (omega arith);
        front = w.front ∙ ap (λ (l : List X). l ++ ys) v.front ∙ append_assoc (take p.used p.lines) xs ys;
        back = w.back ∙ past p'.lines ∙ ap (drop (length ys)) v.back ∙ sym (past p.lines);
        long = w.long ∙ v.long;
      }

  -- some line was written, so there was room for it
  pub within : (p p' : Page X) (xs : List X) → Written p xs p' → 0 < length xs → p'.used ≤ length p.lines
  within p p' xs w some =
      let a = w.count in
      let b = w.long in
      let c = ap length w.front in
      let d = length-take p'.used p'.lines in
      let e = length-take p.used p.lines in
      let f = length-append (take p.used p.lines) xs in
      omega arith

  -- what is written says what the list then is
  pub one_page : (p p' p'' : Page X) (xs ys : List X) → xs ≡ ys → Written p xs p' → Written p ys p'' → p' ≡ p''
  one_page p p' p'' xs ys same w w' =
      let n : p'.used ≡ p''.used = w.count ∙ ap (λ (l : List X). p.used + length l) same ∙ sym w'.count in
      let front : take p'.used p'.lines ≡ take p''.used p''.lines = w.front ∙ ap (λ (l : List X). take p.used p.lines ++ l) same ∙ sym w'.front in
      let back : drop p'.used p'.lines ≡ drop p''.used p''.lines = w.back ∙ ap (λ (i : ℕ). drop i p.lines) n ∙ sym w'.back in
      let l : p'.lines ≡ p''.lines = sym (take-append-drop p'.used p'.lines) ∙ ap (λ (a : List X). a ++ drop p'.used p'.lines) front ∙ ap (λ (a : List X). take p''.used p''.lines ++ a) back ∙ take-append-drop p''.used p''.lines in
      λ i. record { lines = l i; used = n i }

-- what a call that answered `Ok` says
pub was_ok : {A B P : Type 0} (Q : B → Type 0) (r : Result A B) → MatchResult r (λ _. P) Q → is_ok r ≡ true → P
was_ok Q (Ok a) h e = h
was_ok Q (Err b) h e = absurd (false≢true e)
