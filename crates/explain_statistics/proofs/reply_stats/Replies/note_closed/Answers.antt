use Rattle.std.proofs.Common.{◌∙◌, sym}
use Rattle.explain_statistics.proofs.Outcomes.{closed_more}
use Rattle.explain_statistics.proofs.reply_stats.Replies.note_closed.Goals as goal

pub returns-clause-counted : goal.returns-clause-counted
returns-clause-counted c = λ deeds has.
    closed_more deeds _ _ _ _ c.args.key c.in-Some.kind c.args.reply_outcome c.args.after c.args.line c.counts_of.result
    c.with_closed-counts.result has c.counts_of.ensures (sym c.swap_remove.ensures.value ∙ c.in-Some.is)
    c.with_closed-counts.ensures c.in_ok-insert.ensures.updates c.swap_remove.ensures.updates
