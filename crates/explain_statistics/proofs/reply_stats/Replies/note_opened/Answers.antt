use Rattle.explain_statistics.proofs.Outcomes.{opened_more}
use Rattle.explain_statistics.proofs.reply_stats.Replies.note_opened.Goals as goal

pub returns : goal.returns
returns c = λ deeds has.
    opened_more deeds _ _ _ _ c.args.key c.args.kind c.counts_of.result c.with_opened-counts.result has c.counts_of.ensures
    c.with_opened-counts.ensures c.in_ok-insert.ensures.updates c.in_ok-insert-2.ensures.updates
