use Rattle.secs_text.proofs.Blocks.{puts_then, puts_same}
use Rattle.secs_text.proofs.printing.items.put_item_of_words.Goals as goal

pub returns : goal.returns
returns g c = puts_then (puts_then c.put_opening-at.ensures (puts_same _ (c.requires.words c.args.body.now) c.put_words-at.ensures)) c.put_end.ensures
