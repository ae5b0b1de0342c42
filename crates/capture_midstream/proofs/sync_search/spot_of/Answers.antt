use Rattle.capture_midstream.proofs.Spots.{spots}
use Rattle.capture_midstream.proofs.sync_search.spot_of.Goals as goal

pub returns : goal.returns
returns c =
    spots c.args.session c.args.pieces.now c.lowest-low.result c.unbroken-from.result c.highest-upto.result c.in_ok-held.held c.find.result
    c.unbroken-from.ensures.value c.lowest-low.ensures.value c.highest-upto.ensures.value c.in_ok-held.ensures.held c.find.ensures
