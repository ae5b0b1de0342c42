-- Outcomes of the primaries that request a reply.
use Rattle.std.specs.Prelude.{◌≡◌, ◌+◌, ℕ, Bool, true, false, List, [], ◌∷◌, length, if◌then◌else◌}
use Rattle.explain_statistics.specs.declared.reply_stats.ReplyOutcome.{ReplyOutcome}
use Rattle.explain_statistics.specs.declared.reply_stats.ReplyOutcome.TheVariants.{Answered, Unmeasured, Aborted, Expired, Rejected}

-- A closing, after a number of ms, at a line.
pub record Reply : Type 0 where
  pub reply_outcome : ReplyOutcome
  pub after : ℕ
  pub line : ℕ

abbrev pub has : ReplyOutcome → ReplyOutcome → Bool
has Answered Answered = true
has Unmeasured Unmeasured = true
has Aborted Aborted = true
has Expired Expired = true
has Rejected Rejected = true
has reply_outcome other = false

-- The number of closings with this outcome.
abbrev pub count_of : ReplyOutcome → List Reply → ℕ
count_of reply_outcome [] = 0
count_of reply_outcome (reply ∷ replies) = if has reply_outcome reply.reply_outcome then count_of reply_outcome replies + 1 else count_of reply_outcome replies

-- Each closing has exactly one outcome.
abbrev pub FatesAddUp : Type 0
FatesAddUp =
    (replies : List Reply)
    → count_of Answered replies + count_of Unmeasured replies + count_of Aborted replies + count_of Expired replies + count_of Rejected replies
    ≡ length replies
