use Rattle.capture_midstream.proofs.Spots.{begun}
use Rattle.capture_midstream.proofs.sync_search.begun_of.Goals as goal

pub returns : goal.returns
returns c =
    begun c.args.session c.args.side c.args.packets.now c.deref.result.now c.in_ok-pieces.pieces.items c.first_number-first.result c.number_at.result c.in_ok-spot.spot
    c.deref.ensures.value c.in_ok-pieces.ensures c.first_number-first.ensures c.number_at.ensures c.in_ok-spot.ensures
