use Rattle.std.proofs.Common.{rules}
use Rattle.std.proofs.lemmas.Bool.{leb-false, lt-leb}
use Rattle.book.specs.Quote.{resting_buys, resting_sells}
use Rattle.book.proofs.Fairness.{fair}
use Rattle.book.proofs.Few.{few_here, few_there, still_roomy}
use Rattle.book.proofs.Kept.{clear_kept, numbered_here, numbered_there}
use Rattle.book.proofs.Laws.{lawful_buys, lawful_sells}
use Rattle.book.proofs.Only.{settled}
use Rattle.book.proofs.book.Book.take_order.Goals as goal

-- the invariants after an incoming buy, and after an incoming sell
pub invariant_of-self : goal.invariant_of-self
invariant_of-self c =
    let b = c.args.self.now in
    let is = c.in-Some.ensures in
    let e = c.deal.ensures in
    let d = e.dealt.2 in
    record {
      buys_stand = e.here.0 b.buys_stand;
      sells_stand = e.there.0 b.sells_stand;
      buys_room = still_roomy b.buys c.deal.new.own e.here.1 e.here.2 b.buys_room;
      sells_room = still_roomy b.sells c.deal.new.opposite e.there.1 e.there.2 b.sells_room;
      buys_few = few_here resting_sells resting_buys _ _ _ _ _ _ _ _ _ d b.buys_few;
      sells_few = few_there resting_sells resting_buys _ _ _ _ _ _ _ _ _ d b.sells_few;
      apart = λ x y i j. leb-false _ _ (clear_kept resting_sells resting_buys lawful_sells lawful_buys _ _ _ _ _ _ _ _ _ _ d (λ y x j i. lt-leb _ _ (b.apart x y i j)) y x j i);
      buys_numbered = numbered_here resting_sells resting_buys lawful_sells lawful_buys _ b.taken _ _ _ _ _ _ _ _ _ _ is.0 is.1 d b.buys_numbered;
      sells_numbered = numbered_there resting_sells resting_buys lawful_sells lawful_buys _ b.taken _ _ _ _ _ _ _ _ _ _ is.0 is.1 d b.sells_numbered;
    }

pub invariant_of-self-in-Sell : goal.invariant_of-self-in-Sell
invariant_of-self-in-Sell c =
    let b = c.args.self.now in
    let is = c.in-Some.ensures in
    let e = c.deal-in-Sell.ensures in
    let d = e.dealt.2 in
    record {
      buys_stand = e.there.0 b.buys_stand;
      sells_stand = e.here.0 b.sells_stand;
      buys_room = still_roomy b.buys c.deal-in-Sell.new.opposite e.there.1 e.there.2 b.buys_room;
      sells_room = still_roomy b.sells c.deal-in-Sell.new.own e.here.1 e.here.2 b.sells_room;
      buys_few = few_there resting_buys resting_sells _ _ _ _ _ _ _ _ _ d b.buys_few;
      sells_few = few_here resting_buys resting_sells _ _ _ _ _ _ _ _ _ d b.sells_few;
      apart = λ x y i j. leb-false _ _ (clear_kept resting_buys resting_sells lawful_buys lawful_sells _ _ _ _ _ _ _ _ _ _ d (λ x y i j. lt-leb _ _ (b.apart x y i j)) x y i j);
      buys_numbered = numbered_there resting_buys resting_sells lawful_buys lawful_sells _ b.taken _ _ _ _ _ _ _ _ _ _ is.0 is.1 d b.buys_numbered;
      sells_numbered = numbered_here resting_buys resting_sells lawful_buys lawful_sells _ b.taken _ _ _ _ _ _ _ _ _ _ is.0 is.1 d b.sells_numbered;
    }

pub returns-in-Buy : goal.returns-in-Buy
returns-in-Buy c =
    let e = c.deal.ensures.dealt in
    let is = c.in-Some.ensures in
    let f = fair resting_sells lawful_sells resting_buys _ _ _ _ _ _ _ _ _ _ e.2 in
    record { settled = settled _ _ _ _ _ _ (search rules); same = search rules }

pub returns-in-Sell : goal.returns-in-Sell
returns-in-Sell c =
    let e = c.deal-in-Sell.ensures.dealt in
    let is = c.in-Some.ensures in
    let f = fair resting_buys lawful_buys resting_sells _ _ _ _ _ _ _ _ _ _ e.2 in
    record { settled = settled _ _ _ _ _ _ (search rules); same = search rules }

pub returns-in_default : goal.returns-in_default
returns-in_default c = record { settled = settled _ _ _ _ _ _ (search rules); same = search rules }
