use Rattle.std.proofs.Common.{arith}
use Rattle.network.proofs.Entries.{traced_next}
use Rattle.network.proofs.delays.RecordingDelays.next.Goals as goal

pub returns-clause-link : goal.returns-clause-link
returns-clause-link c h =
    let s = c.args.self.now in
    traced_next s.delays.now s.at c.args.link c.following.result c.entry_at.result c.entry_at.ensures.value c.following.ensures (omega arith)
