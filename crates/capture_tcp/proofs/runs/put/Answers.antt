use Rattle.std.proofs.Common.{◌+◌, refl}
use Rattle.std.proofs.lemmas.Result.{on_ok_weaker}
use Rattle.capture_tcp.proofs.StoredRuns.{stores_rest}
use Rattle.capture_tcp.proofs.runs.put.Goals as goal

pub returns-clause-ok : goal.returns-clause-ok
returns-clause-ok c =
    on_ok_weaker c.put_after.result
    (λ stores. stores_rest c.place_after-index.result c.args.place c.known_from-known.result (c.args.place + c.known_from-known.result) c.args.cells.now c.split_at.result.1.now
    c.args.runs.now.items c.put_after.new.runs.items c.place_after-index.ensures c.known_from-known.ensures refl c.split_at.ensures.back stores) c.put_after.ensures.ok
