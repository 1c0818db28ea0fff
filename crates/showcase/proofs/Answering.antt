-- What a search for an answer among events gives.
use Rattle.std.proofs.Common.{◌≡◌, ℕ, zero, suc, ◌+◌, ◌<◌, ◌≤◌, List, [], ◌∷◌, length, get_or, Some, None, Option, IfSome, IsSomeAnd, MatchOption, IsTrue, Bor, refl, sym, ap, subst, ◌∙◌, arith}
use Rattle.std.specs.Fn.{Called}
use Rattle.std.specs.Iterator.Adapters.{IterYieldsInOrder}
use Rattle.std.specs.Iterator.Runs.{AllItemsGive, CallKeepsClosure, IsFirstToGive, ItemsMapTo, SomeRun}
use Rattle.std.specs.List.{cons_option, filter_map, slice_get}
use Rattle.std.specs.Option.{option_map}
use Rattle.std.specs.Slice.Iter.{iter_rest, iter_steps}
use Rattle.std.specs.declared.slice.Iter.{Iter}
use denote.Param.Members.{Mut}
use Rattle.order.specs.declared.event.Event.{Event}
use Rattle.showcase.specs.Race.{first_answer}

-- no event answers
none_answers : (q : Event → Option ℕ) (es : List Event) → ((k : ℕ) (d : Event) → k < length es → q (get_or es k d) ≡ None) → first_answer q es ≡ None
none_answers q [] none = refl
none_answers q (e ∷ es) none =
    ap (λ a. slice_get (cons_option a (filter_map q es)) 0) (none 0 e (omega arith)) ∙ none_answers q es (λ k d within. none (suc k) d (omega arith))

-- an event answers, and none before it
first_at : (q : Event → Option ℕ) (es : List Event) (i a : ℕ) → i < length es → ((d : Event) → q (get_or es i d) ≡ Some a) → ((k : ℕ) (d : Event) → k < i → q (get_or es k d) ≡ None) → first_answer q es ≡ Some a
first_at q [] i a within here before = absurd (omega arith)
first_at q (e ∷ es) zero a within here before = ap (λ o. slice_get (cons_option o (filter_map q es)) 0) (here e)
first_at q (e ∷ es) (suc i) a within here before =
    ap (λ o. slice_get (cons_option o (filter_map q es)) 0) (before 0 e (omega arith)) ∙ first_at q es i a (omega arith) here (λ k d below. before (suc k) d (omega arith))

-- a closure that answers each event as q does
module _ {F : Type 0} (g : Mut F (Bor Event × Unit {0}) (Option ℕ)) (f : F) (q : Event → Option ℕ)
    (computes : (x : Bor Event) (a : Option ℕ) (f' : F) → Called g f (x, tt) a f' → (f' ≡ f) × (a ≡ q x.now)) where
  -- a call leaves the closure as it was
  keeps : CallKeepsClosure g f
  keeps (x, t) a f' call = (computes x a f' call).0

  -- what it answered of the event that an item is of
  told : (o : Option (Bor Event)) (e : Event) (a : Option ℕ) → option_map (λ y. y.now) o ≡ Some e → IfSome o (λ x. Called g f (x, tt) a f) → q e ≡ a
  told None e a is call = cc
  told (Some x) e a is call =
      let same : e ≡ x.now = cc in
      ap q same ∙ sym (computes x a f call).1

  -- the same, where the item is known to be there
  told_some : (o : Option (Bor Event)) (e : Event) (a : Option ℕ) → option_map (λ y. y.now) o ≡ Some e → IsSomeAnd o (λ x. Called g f (x, tt) a f) → q e ≡ a
  told_some None e a is call = absurd call
  told_some (Some x) e a is call = told (Some x) e a is call

  -- what `find_map` gives of a slice's events
  pub first_from_find_map : (es : List Event) (s : Iter Event) (r : Option ℕ) → iter_rest s ≡ es → IterYieldsInOrder Event
      → SomeRun iter_steps s (λ p. MatchOption r (IsTrue p.whole × AllItemsGive p g f None) (λ a. (i : ℕ) × (i < p.len) × (p.len ≡ i + 1) × IsFirstToGive p g f (Some a) None i))
      → r ≡ first_answer q es
  first_from_find_map es s None rest order (p, from, end) =
      let items : ItemsMapTo p (λ y. y.now) es = subst (λ xs. ItemsMapTo p (λ y. y.now) xs) (ap iter_rest from ∙ rest) (order p p.seen) in
      let all : p.len ≡ length es = items.1 end.0 in
      sym (none_answers q es (λ k d within. told (p.at k) (get_or es k d) None (items.2 k d (omega arith)) (end.1 keeps k)))
  first_from_find_map es s (Some a) rest order (p, from, (i, within, last, gave)) =
      let items : ItemsMapTo p (λ y. y.now) es = subst (λ xs. ItemsMapTo p (λ y. y.now) xs) (ap iter_rest from ∙ rest) (order p p.seen) in
      let within_list : p.len ≤ length es = items.0 in
      let answers = gave keeps in
      sym (first_at q es i a (omega arith)
      (λ d. told_some (p.at i) (get_or es i d) (Some a) (items.2 i d within) answers.0)
      (λ k d below. told_some (p.at k) (get_or es k d) None (items.2 k d (omega arith)) (answers.1 k below)))
