use Rattle.std.proofs.Common.{sym, arith}
use Rattle.station.proofs.Answering.{shown}
use Rattle.station.proofs.Parts.{station_parts}
use Rattle.station.proofs.message.message_for.Goals as goal

pub shown_to-requires : goal.shown_to-requires
shown_to-requires c =
    let peer = shown c.args.s c.args.to (sym c.in-Ok.ensures) in
    let s = station_parts c.args.s peer.sound in
    omega (arith, peer.below, s.most)
