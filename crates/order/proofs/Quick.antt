-- The law of responses: of two trades on one trigger, both within the horizon, the quicker stands first on the tape.
use Rattle.std.proofs.Common.{◌≡◌, ℕ, zero, suc, ◌+◌, ◌<◌, ◌⊎◌, List, [], ◌∷◌, length, get_or, sym, refl, ap, ◌∙◌, subst, ⊎_elim, arith}
use Rattle.std.specs.List.{ContainsAt}
use Rattle.std.proofs.ByRecursion.{All-get_or, all-has}
use Rattle.std.proofs.lemmas.Bool.{cases_order}
use Rattle.records.specs.declared.line.Line.{Line}
use Rattle.records.specs.declared.trade.Trade.{Trade}
use Rattle.records.specs.Trade.{Precedes}
use Rattle.order.specs.History.{Submission, submissions}
use Rattle.order.specs.Law.{Quicker, Responses, tape_of, trades_on}
use Rattle.order.proofs.Kept.{run_kept, fresh_kept}
use Rattle.order.proofs.Lined.{InRank, Placed}
use Rattle.order.proofs.Paced.{Prompt, batch_of, run_paced, fresh_paced}
use Rattle.order.proofs.Ranks.{precedes_in_order, precedes_not}

-- a tape in rank, by places
in_rank_at : (ts : List Trade) → InRank ts → (i j : ℕ) (d : Trade) → i < j → j < length ts → Precedes (get_or ts i d) (get_or ts j d)
in_rank_at [] h i j d p q = absurd (omega arith)
in_rank_at (x ∷ ts) h i zero d p q = absurd (omega arith)
in_rank_at (x ∷ ts) h zero (suc j) d p q = All-get_or (Precedes x) ts j d (omega arith) h.0
in_rank_at (x ∷ ts) h (suc i) (suc j) d p q = in_rank_at ts h.1 i j d (omega arith) (omega arith)

-- of two prompt submissions on one trigger the quicker precedes
prompt_precedes : (horizon : ℕ) (of : ℕ → ℕ) (a b : Submission) → Prompt horizon of a → Prompt horizon of b → a.trade.trigger ≡ b.trade.trigger → a.response < horizon → b.response < horizon → Quicker a b → Precedes a.trade b.trade
prompt_precedes horizon of a b p q e l r quick =
    let pa = p.1 l in
    let pb = q.1 r in
    let one : of a.trade.trigger ≡ of b.trade.trigger = ap of e in
    precedes_in_order a.trade b.trade (omega arith)

-- a line's place, by where it stands
place_at : (n : ℕ) (ls : List Line) → Placed n ls → (i : ℕ) (d : Line) → i < length ls → (get_or ls i d).place ≡ n + i
place_at n [] h i d p = absurd (omega arith)
place_at n (l ∷ ls) h zero d p = omega (arith, h.0)
place_at n (l ∷ ls) h (suc i) d p = omega (arith, place_at (n + 1) ls h.1 i d (omega arith))

-- a line's trade, by where it stands
trade_at : (ls : List Line) (i : ℕ) (d : Line) → i < length ls → (i < length (trades_on ls)) × (get_or (trades_on ls) i d.trade ≡ (get_or ls i d).trade)
trade_at [] i d p = absurd (omega arith)
trade_at (l ∷ ls) zero d p = (omega arith, refl)
trade_at (l ∷ ls) (suc i) d p = let more = trade_at ls i d (omega arith) in (omega arith, more.1)

-- on a tape in rank, the line of the trade that precedes has the smaller place
stands_first : (ls : List Line) → InRank (trades_on ls) → Placed 1 ls → (l m : Line) → ContainsAt ls l → ContainsAt ls m → Precedes l.trade m.trade → l.place < m.place
stands_first ls h p l m at-l at-m before =
    let i = at-l.0 in
    let j = at-m.0 in
    let tl = trade_at ls i l at-l.1 in
    let tm = trade_at ls j l at-m.1 in
    let is-l : get_or ls i l ≡ l = at-l.2 l in
    let is_m : get_or ls j l ≡ m = at-m.2 l in
    let pl : l.place ≡ 1 + i = sym (ap (λ (x : Line). x.place) is-l) ∙ place_at 1 ls p i l at-l.1 in
    let pm : m.place ≡ 1 + j = sym (ap (λ (x : Line). x.place) is_m) ∙ place_at 1 ls p j l at-m.1 in
    let el : get_or (trades_on ls) i l.trade ≡ l.trade = tl.1 ∙ ap (λ (x : Line). x.trade) is-l in
    let em : get_or (trades_on ls) j l.trade ≡ m.trade = tm.1 ∙ ap (λ (x : Line). x.trade) is_m in
    ⊎_elim
    (λ (same : i ≡ j).
    let one : l.trade ≡ m.trade = sym el ∙ ap (λ (n : ℕ). get_or (trades_on ls) n l.trade) same ∙ em in
    let self : Precedes l.trade l.trade = subst (λ (x : Trade). Precedes l.trade x) (sym one) before in
    absurd (precedes_not l.trade l.trade self self))
    (λ (other : (i < j) ⊎ (j < i)). ⊎_elim
    (λ (less : i < j). omega arith)
    (λ (more : j < i).
    let back = in_rank_at (trades_on ls) h j i l.trade more tl.0 in
    let turned : Precedes m.trade l.trade = subst (λ (x : Trade). Precedes m.trade x) el (subst (λ (x : Trade). Precedes x (get_or (trades_on ls) i l.trade)) em back) in
    absurd (precedes_not l.trade m.trade before turned))
    other)
    (cases_order i j)

pub responses : Responses
responses w v es f r a b l m ha hb hl hm la lb e near-a near-b quick =
    let kept = run_kept w (fresh_kept w f) es v r in
    let paced = run_paced w.times.horizon w (fresh_kept w f) (fresh_paced w f) es v r in
    let P = Prompt w.times.horizon (batch_of es) in
    let pa = all-has P (submissions es) a paced.prompt ha in
    let pb = all-has P (submissions es) b paced.prompt hb in
    let before : Precedes a.trade b.trade = prompt_precedes w.times.horizon (batch_of es) a b pa pb e near-a near-b quick in
    stands_first (tape_of v) kept.lined.in_rank kept.lined.placed l m hl hm
    (subst (λ (x : Trade). Precedes x m.trade) (sym la) (subst (λ (x : Trade). Precedes a.trade x) (sym lb) before))
