-- Outcomes of primaries, after one more event.
use Rattle.std.proofs.Common.{◌≡◌, ◌+◌, ℕ, Bool, true, false, cond, nat_eq, List, [], ◌∷◌, Some, None, refl, sym, ◌∙◌, ap, subst, eqb-true, arith, length, add-one}
use Rattle.std.specs.Prelude.{Option, unwrap_or, if◌then◌else◌}
use Rattle.indexmap.specs.IndexMap.{IndexMap, get, Updates}
use Rattle.explain_statistics.specs.declared.reply_stats.Counts.{Counts}
use Rattle.explain_statistics.specs.declared.reply_stats.ReplyOutcome.{ReplyOutcome}
use Rattle.explain_statistics.specs.declared.reply_stats.ReplyOutcome.TheVariants.{Answered, Unmeasured, Aborted, Expired, Rejected}
use Rattle.explain_statistics.specs.ReplyStats.{Reply, has, FatesAddUp}
use Rattle.explain_statistics.specs.InnerReplyStats.{Deed, Opened, Closed, IsCounts, HasReplies, counts_at, no_counts, open_of, opened_of, replies_of, is_kind}

module _ {T : Type 0} (kinds next : IndexMap ℕ Counts T) (kind : ℕ) (counts : Counts) (updates : Updates nat_eq kinds next kind (Some counts)) where
  -- The counts of a kind, if the new counts of one kind are these.
  changed : (q : ℕ) (b : Bool) → nat_eq kind q ≡ b → counts_at next q ≡ unwrap_or (cond b (Some counts) (get nat_eq kinds q)) no_counts
  changed q b is = ap (λ o. unwrap_or o no_counts) (updates.0 q ∙ ap (λ c. cond c (Some counts) (get nat_eq kinds q)) is)

  -- One more primary of the kind was opened.
  opened_kind : (deeds : List Deed) → ((q : ℕ) → IsCounts (opened_of q deeds) (replies_of q deeds) (counts_at kinds q))
      → IsCounts (opened_of kind deeds + 1) (replies_of kind deeds) counts
      → (q : ℕ) (b : Bool) → nat_eq kind q ≡ b
      → IsCounts (if b then opened_of q deeds + 1 else opened_of q deeds) (replies_of q deeds) (counts_at next q)
  opened_kind deeds each grown q true is =
      let P : ℕ → Type 0 = λ k. IsCounts (opened_of k deeds + 1) (replies_of k deeds) counts in
      let Q : Counts → Type 0 = λ c. IsCounts (opened_of q deeds + 1) (replies_of q deeds) c in
      subst Q (sym (changed q true is)) (subst P (eqb-true kind q is) grown)
  opened_kind deeds each grown q false is =
      let Q : Counts → Type 0 = λ c. IsCounts (opened_of q deeds) (replies_of q deeds) c in
      subst Q (sym (changed q false is)) (each q)

  -- A primary of the kind was closed.
  closed_kind : (deeds : List Deed) (reply : Reply) → ((q : ℕ) → IsCounts (opened_of q deeds) (replies_of q deeds) (counts_at kinds q))
      → IsCounts (opened_of kind deeds) (reply ∷ replies_of kind deeds) counts
      → (q : ℕ) (b : Bool) → nat_eq kind q ≡ b
      → IsCounts (opened_of q deeds) (if b then reply ∷ replies_of q deeds else replies_of q deeds) (counts_at next q)
  closed_kind deeds reply each grown q true is =
      let P : ℕ → Type 0 = λ k. IsCounts (opened_of k deeds) (reply ∷ replies_of k deeds) counts in
      let Q : Counts → Type 0 = λ c. IsCounts (opened_of q deeds) (reply ∷ replies_of q deeds) c in
      subst Q (sym (changed q true is)) (subst P (eqb-true kind q is) grown)
  closed_kind deeds reply each grown q false is =
      let Q : Counts → Type 0 = λ c. IsCounts (opened_of q deeds) (replies_of q deeds) c in
      subst Q (sym (changed q false is)) (each q)

-- A primary was opened.
pub opened_more : {S T : Type 0} (deeds : List Deed) (open_now open_then : IndexMap ℕ ℕ S) (kinds next : IndexMap ℕ Counts T)
    (key kind : ℕ) (before counts : Counts) → HasReplies deeds open_now kinds → before ≡ counts_at kinds kind
    → ((opened : ℕ) (replies : List Reply) → IsCounts opened replies before → IsCounts (opened + 1) replies counts)
    → Updates nat_eq kinds next kind (Some counts) → Updates nat_eq open_now open_then key (Some kind)
    → HasReplies (Opened key kind ∷ deeds) open_then next
opened_more {S} {T} deeds open_now open_then kinds next key kind before counts has is grown updates opens =
    let P : Counts → Type 0 = λ c. IsCounts (opened_of kind deeds) (replies_of kind deeds) c in
    let more = grown (opened_of kind deeds) (replies_of kind deeds) (subst P (sym is) (has.each_kind kind)) in
    record {
      still_open = λ q. opens.0 q ∙ ap (λ o. cond (nat_eq key q) (Some kind) o) (has.still_open q);
      each_kind = λ q. opened_kind kinds next kind counts updates deeds has.each_kind more q (nat_eq kind q) refl;
    }

-- A primary that was open was closed.
pub closed_more : {S T : Type 0} (deeds : List Deed) (open_now open_then : IndexMap ℕ ℕ S) (kinds next : IndexMap ℕ Counts T)
    (key kind : ℕ) (reply_outcome : ReplyOutcome) (after line : ℕ) (before counts : Counts) → HasReplies deeds open_now kinds → before ≡ counts_at kinds kind
    → get nat_eq open_now key ≡ Some kind
    → ((opened : ℕ) (replies : List Reply) → IsCounts opened replies before → IsCounts opened (record { reply_outcome = reply_outcome; after = after; line = line } ∷ replies) counts)
    → Updates nat_eq kinds next kind (Some counts) → Updates nat_eq open_now open_then key None
    → HasReplies (Closed key reply_outcome after line ∷ deeds) open_then next
closed_more {S} {T} deeds open_now open_then kinds next key kind reply_outcome after line before counts has is found grown updates closes =
    let reply : Reply = record { reply_outcome = reply_outcome; after = after; line = line } in
    let P : Counts → Type 0 = λ c. IsCounts (opened_of kind deeds) (replies_of kind deeds) c in
    let more = grown (opened_of kind deeds) (replies_of kind deeds) (subst P (sym is) (has.each_kind kind)) in
    let open_is : open_of key deeds ≡ Some kind = sym (has.still_open key) ∙ found in
    record {
      still_open = λ q. closes.0 q ∙ ap (λ o. cond (nat_eq key q) None o) (has.still_open q);
      each_kind = λ q.
          let R : Option ℕ → Type 0 = λ o. IsCounts (opened_of q deeds) (if is_kind o q then reply ∷ replies_of q deeds else replies_of q deeds) (counts_at next q) in
          subst R (sym open_is) (closed_kind kinds next kind counts updates deeds reply has.each_kind more q (nat_eq kind q) refl);
    }

-- One more reply has exactly one outcome.
one_more : (reply_outcome : ReplyOutcome) (a u b c d n : ℕ) → a + u + b + c + d ≡ n
    → (if has Answered reply_outcome then a + 1 else a) + (if has Unmeasured reply_outcome then u + 1 else u)
    + (if has Aborted reply_outcome then b + 1 else b) + (if has Expired reply_outcome then c + 1 else c)
    + (if has Rejected reply_outcome then d + 1 else d) ≡ n + 1
one_more Answered a u b c d n is = omega (arith, is)
one_more Unmeasured a u b c d n is = omega (arith, is)
one_more Aborted a u b c d n is = omega (arith, is)
one_more Expired a u b c d n is = omega (arith, is)
one_more Rejected a u b c d n is = omega (arith, is)

pub add_up : FatesAddUp
add_up [] = refl
add_up (reply ∷ replies) = one_more reply.reply_outcome _ _ _ _ _ _ (add_up replies) ∙ add-one (length replies)
