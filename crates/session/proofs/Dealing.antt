-- Dealing a batch out seat by seat, and looking for the lowest number that passes a test.
use Rattle.std.proofs.Common.{◌≡◌, ℕ, zero, suc, ◌+◌, ◌<◌, Bool, true, false, cond, not, ◌&&◌, eqb, ltb, List, length, get_or, Some, None, Option, sym, refl, ap, ◌∙◌, subst, ⊎_elim, arith}
use Rattle.std.proofs.lemmas.Bool.{cases_eq, cases_lt, cond-false, cond-true, eq-eqb, ne_eqb}
use Rattle.std.proofs.lemmas.Bool.Decides.{nat_tests}
use Rattle.network.specs.Network.{Net, Link, Added, Sent, has_room}
use Rattle.records.specs.declared.batch.Batch.{Batch}
use Rattle.records.specs.declared.seat.Seat.{Seat}
use Rattle.records.specs.Seat.{blank, is_ended}
use Rattle.session.specs.Seal.{Dealt, DealtLink, SentIf, crowded, lowest}

-- what was found below a number, or else the number if it passed
abbrev or_passed : ℕ → Bool → Option ℕ → Option ℕ
or_passed n passed o = elim o [ Some j ↦ Some j | None ↦ cond passed (Some n) None ]

-- the first that passes is the lowest, however far one looks
pub lowest_found : (test : ℕ → Bool) (k n : ℕ) → lowest test k ≡ None → test k ≡ true → k < n → lowest test n ≡ Some k
lowest_found test k zero none is lt = absurd (omega arith)
lowest_found test k (suc n) none is lt = ⊎_elim
    (λ e. subst (λ (i : ℕ). lowest test (suc i) ≡ Some k) e (ap (or_passed k (test k)) none ∙ cond-true (test k) (Some k) None is))
    (λ ne. ap (or_passed n (test n)) (lowest_found test k n none is (omega arith)))
    (cases_eq k n)

-- where none is found, none passes
pub lowest_none : (test : ℕ → Bool) (n : ℕ) → lowest test n ≡ None → (k : ℕ) → k < n → test k ≡ false
lowest_none test zero none k lt = absurd (omega arith)
lowest_none test (suc n) none k lt = by_case (lowest test n) (test n) refl refl none (λ below lower. lowest_none test n below k lower)
  where
    by_case : (o : Option ℕ) (passed : Bool) → lowest test n ≡ o → test n ≡ passed → or_passed n passed o ≡ None → (lowest test n ≡ None → k < n → test k ≡ false) → test k ≡ false
    by_case (Some j) passed below here h lower = absurd (let z : ◌≡◌ {A = ℕ} 0 1 = cc in omega arith)
    by_case None true below here h lower = absurd (let z : ◌≡◌ {A = ℕ} 0 1 = cc in omega arith)
    by_case None false below here h lower = ⊎_elim (λ e. ap test e ∙ here) (λ ne. lower below (omega arith)) (cases_eq k n)

-- a seat of the table is crowded as the code tests it
pub crowded_inside : (seats : List Seat) (n : Net Batch) (k : ℕ) → k < length seats → crowded seats n k ≡ (not (is_ended (get_or seats k blank).condition) && not (has_room n k))
crowded_inside seats n k lt = grind (arith, nat_tests)

-- where no seat of the table is crowded, none is
pub none_crowded : (seats : List Seat) (n : Net Batch) → lowest (crowded seats n) (length seats) ≡ None → (k : ℕ) → crowded seats n k ≡ false
none_crowded seats n none k = ⊎_elim (lowest_none (crowded seats n) (length seats) none k) (λ le. grind (arith, nat_tests)) (cases_lt k (length seats))

-- a batch is due to those of the first so many seats that have not ended
abbrev pub due_first : List Seat → ℕ → ℕ → Bool
due_first seats n k = ltb k n && not (is_ended (get_or seats k blank).condition)

-- the next seat is not among the first so many
due_not_yet : (seats : List Seat) (k : ℕ) → due_first seats k k ≡ false
due_not_yet seats k = grind (arith, nat_tests)

-- a link to which nothing was due is as it was
link_kept : (d : Bool) (given : Option ℕ) (longest : ℕ) (l l' : Link Batch) (t : ℕ) (b : Batch) → d ≡ false → DealtLink d given longest l l' t b → l' ≡ l
link_kept true given longest l l' t b is h = absurd (let z : ◌≡◌ {A = ℕ} 0 1 = cc in omega arith)
link_kept false given longest l l' t b is h = h

-- two tests that agree deal alike
dealt_same : (d d' : ℕ → Bool) (n m : Net Batch) (t : ℕ) (b : Batch) → ((j : ℕ) → d' j ≡ d j) → Dealt d n m t b → Dealt d' n m t b
dealt_same d d' n m t b same h = record {
  links = λ j. subst (λ (x : Bool). DealtLink x (n.formula j 0 t) n.longest (n.links j) (m.links j) t b) (sym (same j)) (h.links j);
  capacity = h.capacity;
  longest = h.longest;
  formula = λ j i x. h.formula j i x ∙ ap (λ (y : Bool). n.formula j (cond y (suc i) i) x) (sym (same j));
}

-- a batch sent on one link more is dealt by the test that has that link too
dealt_also : (d d' : ℕ → Bool) (n m m' : Net Batch) (k t : ℕ) (b : Batch) → d k ≡ false → d' k ≡ true → ((j : ℕ) → (j ≡ k → ⊥) → d' j ≡ d j) → Dealt d n m t b → Sent m m' k t b → Dealt d' n m' t b
dealt_also d d' n m m' k t b before after others h s = record {
  links = λ j. ⊎_elim (λ e. subst (λ (i : ℕ). LinkAfter i) (sym e) here) (λ ne. elsewhere j ne) (cases_eq j k);
  capacity = s.only.capacity ∙ h.capacity;
  longest = s.only.longest ∙ h.longest;
  formula = λ j i x. ap (λ f. f j i x) s.formula ∙ h.formula j (cond (eqb j k) (suc i) i) x ∙ ap (λ (y : ℕ). n.formula j y x) (count j i);
}
  where
    LinkAfter : ℕ → Type 0
    LinkAfter j = DealtLink (d' j) (n.formula j 0 t) n.longest (n.links j) (m'.links j) t b

    link_same : m.links k ≡ n.links k
    link_same = link_kept (d k) (n.formula k 0 t) n.longest (n.links k) (m.links k) t b before (h.links k)

    given_same : m.formula k 0 t ≡ n.formula k 0 t
    given_same = h.formula k 0 t ∙ ap (λ (y : ℕ). n.formula k y t) (cond-false (d k) 1 0 before)

    here : LinkAfter k
    here = subst (λ (x : Bool). DealtLink x (n.formula k 0 t) n.longest (n.links k) (m'.links k) t b) (sym after)
        (subst (λ (g : Option ℕ). Added g n.longest (n.links k) (m'.links k) t b) given_same
        (subst (λ (y : ℕ). Added (m.formula k 0 t) y (n.links k) (m'.links k) t b) h.longest
        (subst (λ (l : Link Batch). Added (m.formula k 0 t) m.longest l (m'.links k) t b) link_same s.added)))

    elsewhere : (j : ℕ) → (j ≡ k → ⊥) → LinkAfter j
    elsewhere j ne = subst (λ (x : Bool). DealtLink x (n.formula j 0 t) n.longest (n.links j) (m'.links j) t b) (sym (others j ne))
        (subst (λ (l : Link Batch). DealtLink (d j) (n.formula j 0 t) n.longest (n.links j) l t b) (sym (s.only.others j ne)) (h.links j))

    count : (j i : ℕ) → cond (d j) (suc (cond (eqb j k) (suc i) i)) (cond (eqb j k) (suc i) i) ≡ cond (d' j) (suc i) i
    count j i = ⊎_elim
        (λ e. let p : d j ≡ false = ap d e ∙ before in let q : d' j ≡ true = ap d' e ∙ after in let r = eq-eqb j k e in grind (arith, nat_tests))
        (λ ne. let p = others j ne in let r = ne_eqb j k ne in grind (arith, nat_tests))
        (cases_eq j k)

-- the next seat has its batch, unless it has ended
pub dealt_one : (seats : List Seat) (n m m' : Net Batch) (k t : ℕ) (b : Batch) → Dealt (due_first seats k) n m t b → SentIf (not (is_ended (get_or seats k blank).condition)) m m' k t b → Dealt (due_first seats (k + 1)) n m' t b
dealt_one seats n m m' k t b h s = by_case (not (is_ended (get_or seats k blank).condition)) refl s
  where
    others : (j : ℕ) → (j ≡ k → ⊥) → due_first seats (k + 1) j ≡ due_first seats k j
    others j ne = grind (arith, nat_tests)

    by_case : (x : Bool) → not (is_ended (get_or seats k blank).condition) ≡ x → SentIf x m m' k t b → Dealt (due_first seats (k + 1)) n m' t b
    by_case true is s = dealt_also (due_first seats k) (due_first seats (k + 1)) n m m' k t b (due_not_yet seats k) (grind (arith, nat_tests)) others h s
    by_case false is s =
        let now : due_first seats (k + 1) k ≡ false = grind (arith, nat_tests) in
        subst (λ (x : Net Batch). Dealt (due_first seats (k + 1)) n x t b) (sym s)
        (dealt_same (due_first seats k) (due_first seats (k + 1)) n m t b (λ j. ⊎_elim (λ e. ap (due_first seats (k + 1)) e ∙ now ∙ sym (due_not_yet seats k) ∙ ap (due_first seats k) (sym e)) (others j) (cases_eq j k)) h)
