use Rattle.secs_text.proofs.Results.{ok_one, ok_where_one, err_one, err_where_one}
use Rattle.secs_text.proofs.reading.read.Goals as goal

pub returns : goal.returns
returns c =
    let text = c.args.text.now in
    let r = c.read_one.result in
    let reads = c.read_one.ensures in
    record {
      ok = ok_one text c.args.depth r reads;
      ok_where = ok_where_one text c.args.depth r reads;
      err = err_one text c.args.depth r reads;
      err_where = err_where_one text c.args.depth r reads;
    }
