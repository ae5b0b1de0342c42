use Rattle.secs_text.proofs.ParsingMessages.{given_ok, given_ok_where, given_err, given_err_where}
use Rattle.secs_text.proofs.parsing.encode_texts.Goals as goal

pub returns : goal.returns
returns g c =
    let text = c.args.text.now in
    let r = c.encode_several.result in
    let given = c.encode_several.ensures in
    record {
      ok = given_ok c.args.depth r text (λ kept. g.R.Receiver.Given kept c.args.receiver.now) (λ kept. g.R.Receiver.Given kept c.encode_several.new.receiver) given;
      ok_where = given_ok_where c.args.depth r text (λ kept. g.R.Receiver.Given kept c.args.receiver.now) (λ kept. g.R.Receiver.Given kept c.encode_several.new.receiver) given;
      err = given_err c.args.depth r text (λ kept. g.R.Receiver.Given kept c.args.receiver.now) (λ kept. g.R.Receiver.Given kept c.encode_several.new.receiver) given;
      err_where = given_err_where c.args.depth r text (λ kept. g.R.Receiver.Given kept c.args.receiver.now) (λ kept. g.R.Receiver.Given kept c.encode_several.new.receiver) given;
    }
