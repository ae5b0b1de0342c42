use Rattle.secs_text.specs.View.{contents}
use Rattle.secs_text.proofs.Results.{ok_all, ok_where_all, err_all, err_where_all}
use Rattle.secs_text.proofs.reading.read_all.Goals as goal

pub returns : goal.returns
returns c =
    let text = c.args.text.now in
    let r = c.read_several.result in
    let reads = c.read_several.ensures in
    record {
      ok = ok_all (λ v. contents v.items) text c.args.depth r reads;
      ok_where = ok_where_all (λ v. contents v.items) text c.args.depth r reads;
      err = err_all (λ v. contents v.items) text c.args.depth r reads;
      err_where = err_where_all (λ v. contents v.items) text c.args.depth r reads;
    }
