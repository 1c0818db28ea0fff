use Rattle.std.proofs.Common.{◌<◌, arith}
use Rattle.std.proofs.lemmas.Bool.Decides.{nat_tests}
use Rattle.network.proofs.Places.{rings_sent}
use Rattle.network.proofs.rings.RingsNetwork.send.Goals as goal

pub returns : goal.returns
returns g c =
    let part = c.in-Some.ensures in
    let known : c.args.link < 16 = omega arith in
    rings_sent _ _ _ _ _ _ _ _ c.next.result _ _ _ _ _ _ _
    c.free.ensures.value c.send-arrival.ensures.arrival c.send-arrival.ensures.ring c.next.ensures.same c.from.ensures part.0 part.1
    known (omega arith) c.if-moment-ge-END.false (grind (arith, nat_tests)) (c.args.self.now.early c.args.link) c.next.ensures.within (c.next.ensures.link known)
