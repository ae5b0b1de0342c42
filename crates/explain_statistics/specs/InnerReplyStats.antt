-- What only contracts of private functions use, besides the definitions of `ReplyStats`.
use Rattle.std.specs.Prelude.{◌≡◌, ◌+◌, ◌-◌, ◌^◌, ◌&&◌, ℕ, min, Bool, false, nat_eq, nat_le, List, [], ◌∷◌, Option, Some, None, unwrap_or, if◌then◌else◌}
use Rattle.indexmap.specs.IndexMap.{IndexMap, get}
use Rattle.explain_lines.specs.Counted.{counted}
use Rattle.explain_statistics.specs.declared.reply_stats.Counts.{Counts}
use Rattle.explain_statistics.specs.declared.reply_stats.ReplyOutcome.{ReplyOutcome}
use Rattle.explain_statistics.specs.declared.reply_stats.ReplyOutcome.TheVariants.{Answered, Unmeasured, Aborted, Expired, Rejected}
use Rattle.explain_statistics.specs.ReplyStats.{Reply, has, count_of}

-- An event, in numbers. A primary of a kind is opened under a key, made of its direction and system bytes. The primary
-- that is open under a key is closed, after a number of ms, at a line. All earlier connections are ended.
pub data Deed : Type 0 where
  Opened : (key kind : ℕ) → Deed
  Closed : (key : ℕ) (reply_outcome : ReplyOutcome) (after line : ℕ) → Deed
  Ended : Deed

-- The kind of the primary that is open under the key after these events, newest first.
abbrev pub open_of : ℕ → List Deed → Option ℕ
open_of key [] = None
open_of key (Opened other kind ∷ deeds) = if nat_eq other key then Some kind else open_of key deeds
open_of key (Closed other reply_outcome after line ∷ deeds) = if nat_eq other key then None else open_of key deeds
open_of key (Ended ∷ deeds) = None

abbrev pub is_kind : Option ℕ → ℕ → Bool
is_kind (Some other) kind = nat_eq other kind
is_kind None kind = false

-- The number of opened primaries of a kind.
abbrev pub opened_of : ℕ → List Deed → ℕ
opened_of kind [] = 0
opened_of kind (Opened key other ∷ deeds) = if nat_eq other kind then opened_of kind deeds + 1 else opened_of kind deeds
opened_of kind (Closed key reply_outcome after line ∷ deeds) = opened_of kind deeds
opened_of kind (Ended ∷ deeds) = opened_of kind deeds

-- The closings of primaries of a kind, newest first.
abbrev pub replies_of : ℕ → List Deed → List Reply
replies_of kind [] = []
replies_of kind (Opened key other ∷ deeds) = replies_of kind deeds
replies_of kind (Closed key reply_outcome after line ∷ deeds) =
    if is_kind (open_of key deeds) kind then record { reply_outcome = reply_outcome; after = after; line = line } ∷ replies_of kind deeds else replies_of kind deeds
replies_of kind (Ended ∷ deeds) = replies_of kind deeds

-- The minimum time of the answered ones.
abbrev pub least_of : List Reply → ℕ
least_of [] = 2 ^ 64 - 1
least_of (reply ∷ replies) = if has Answered reply.reply_outcome then min reply.after (least_of replies) else least_of replies

-- The maximum time of the answered ones, and the line of the last reply that took that long.
abbrev pub longest_of : List Reply → ℕ × ℕ
longest_of [] = (0, 0)
longest_of (reply ∷ replies) =
    if has Answered reply.reply_outcome && nat_le (longest_of replies).0 reply.after then (reply.after, reply.line) else longest_of replies

-- The counts of `primaries` primaries, of which these were closed.
pub record IsCounts (primaries : ℕ) (replies : List Reply) (counts : Counts) : Type 0 where
  pub opened : counts.opened ≡ counted primaries
  pub answered : counts.answered ≡ counted (count_of Answered replies)
  pub unmeasured : counts.unmeasured ≡ counted (count_of Unmeasured replies)
  pub aborted : counts.aborted ≡ counted (count_of Aborted replies)
  pub expired : counts.expired ≡ counted (count_of Expired replies)
  pub rejected : counts.rejected ≡ counted (count_of Rejected replies)
  pub least : counts.least ≡ least_of replies
  pub greatest : counts.greatest ≡ (longest_of replies).0
  pub line : counts.line ≡ (longest_of replies).1

-- The counts before any primary.
abbrev pub no_counts : Counts
no_counts = record { opened = 0; answered = 0; unmeasured = 0; aborted = 0; expired = 0; rejected = 0; least = 2 ^ 64 - 1; greatest = 0; line = 0 }

abbrev pub counts_at : {S : Type 0} → IndexMap ℕ Counts S → ℕ → Counts
counts_at counts kind = unwrap_or (get nat_eq counts kind) no_counts

-- Holds if the open primaries, and the counts of each kind, are those of the events, newest first.
pub record HasReplies {S T : Type 0} (deeds : List Deed) (open_now : IndexMap ℕ ℕ S) (kinds : IndexMap ℕ Counts T) : Type 0 where
  pub still_open : (key : ℕ) → get nat_eq open_now key ≡ open_of key deeds
  pub each_kind : (kind : ℕ) → IsCounts (opened_of kind deeds) (replies_of kind deeds) (counts_at kinds kind)
