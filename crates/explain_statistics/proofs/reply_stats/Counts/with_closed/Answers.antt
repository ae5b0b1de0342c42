use Rattle.std.proofs.Common.{◌∷◌, sym, subst}
use Rattle.explain_statistics.specs.declared.reply_stats.ReplyOutcome.{ReplyOutcome}
use Rattle.explain_statistics.specs.InnerReplyStats.{IsCounts}
use Rattle.explain_statistics.proofs.reply_stats.Counts.with_closed.Goals as goal

pub returns-in-Answered : goal.returns-in-Answered
returns-in-Answered c = λ opened replies counts.
    let P : ReplyOutcome → Type 0 = λ f. IsCounts opened (record { reply_outcome = f; after = c.args.after; line = c.args.line } ∷ replies) c.with_answered.result in
    subst P (sym c.in-Answered.is) (c.with_answered.ensures opened replies counts)
