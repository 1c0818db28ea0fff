use Rattle.std.proofs.Common.{replicate}
use Rattle.network.proofs.Entries.{get_or_replicate_everywhere, traced_start}
use Rattle.network.proofs.delays.Recording.new.Goals as goal

pub returns-clause-start : goal.returns-clause-start
returns-clause-start c = traced_start c.args.delays.now (replicate 16 0) (get_or_replicate_everywhere 16 0)
