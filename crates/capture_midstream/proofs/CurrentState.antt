-- Messages that stand one behind another.
use Rattle.std.proofs.Common.{◌≡◌, ◌+◌, ◌++◌, ℕ, zero, suc, List, [], ◌∷◌, length, drop, flat_map, Some, None, refl, sym, ◌∙◌, ap, subst, append_assoc, arith}
use Rattle.std.proofs.lemmas.List.{drop_at}
use Rattle.hsms_frame.specs.Frame.{Frame, frame_octets, IsOctets}
use Rattle.hsms_frame.proofs.Octets.{IsOctets-drop}
use Rattle.capture_midstream.specs.declared.session_filter.Session.{Session}
use Rattle.capture_midstream.specs.declared.sync_point.Beginning.TheVariants.{Sure}
use Rattle.capture_midstream.specs.declared.message_check.Found.TheVariants.{Missing, Begun, Whole, Other}
use Rattle.capture_midstream.specs.MessageCheck.{FrontAs}
use Rattle.capture_midstream.specs.SyncPoint.{BeginsAs, CountsAs, most}
use Rattle.capture_midstream.specs.Laws.{AreMessagesOf, IsMessageOf, HasMessages}
use Rattle.capture_midstream.proofs.Messages.{frame_size, messages_are_found, found_are_messages}

-- what stands behind a message
after_message : (octets more : List ℕ) (f : Frame) (size : ℕ) → octets ≡ frame_octets f ++ more → size ≡ 14 + length f.text → drop size octets ≡ more
after_message octets more f size is count =
    ap (λ xs. drop size xs) is ∙ drop_at (frame_octets f) more size (frame_size f ∙ sym count)

-- one message more stands in front
messages_more : (s : Session) (left size : ℕ) (octets more : List ℕ) (f : Frame) → IsMessageOf s f → octets ≡ frame_octets f ++ more
    → size ≡ 14 + length f.text → HasMessages s left (drop size octets) → HasMessages s (suc left) octets
messages_more s left size octets more f m is count (fs, rest, number, all, same) =
    let subsequent : more ≡ flat_map frame_octets fs ++ rest = sym (after_message octets more f size is count) ∙ same in (
      f ∷ fs,
      rest,
      omega (arith, number),
      (m, all),
      is ∙ ap (λ xs. frame_octets f ++ xs) subsequent ∙ sym (append_assoc (frame_octets f) (flat_map frame_octets fs) rest),
    )

counts_messages : (s : Session) (left : ℕ) (octets : List ℕ) → IsOctets octets → CountsAs s left octets (Some left) → HasMessages s left octets
unfolding CountsAs
counts_messages s zero octets fits h = ([], octets, refl, tt, refl)
counts_messages s (suc left) octets fits (Missing, front, is) = absurd cc
counts_messages s (suc left) octets fits (Begun, front, is) = absurd cc
counts_messages s (suc left) octets fits (Whole size, front, (None, counts, is)) = absurd cc
counts_messages s (suc left) octets fits (Whole size, front, (Some n, counts, is)) =
    let same : n ≡ left = (let e : suc left ≡ n + 1 = cc in omega arith) in
    let P : ℕ → Type 0 = λ k. CountsAs s left (drop size octets) (Some k) in
    let found = found_are_messages s octets size fits front in
    messages_more s left size octets found.1 found.0 found.2 found.3 found.4
    (counts_messages s left (drop size octets) (IsOctets-drop size octets fits) (subst P same counts))
counts_messages s (suc left) octets fits (Other, front, is) = absurd cc

pub sure_is_three : (s : Session) (octets : List ℕ) (from place : ℕ) → IsOctets octets → BeginsAs s octets from (Sure place) → HasMessages s 3 (drop place octets)
sure_is_three s octets from place fits h = counts_messages s 3 (drop place octets) (IsOctets-drop place octets fits) h.here

messages_counted : (s : Session) (left : ℕ) (octets : List ℕ) (fs : List Frame) (more : List ℕ) → length fs ≡ left → AreMessagesOf s fs
    → octets ≡ flat_map frame_octets fs ++ more → CountsAs s left octets (Some left)
unfolding CountsAs
messages_counted s zero octets fs more number all is = refl
messages_counted s (suc left) octets [] more number all is = absurd (omega arith)
messages_counted s (suc left) octets (f ∷ fs) more number all is =
    let size : ℕ = 14 + length f.text in
    let rest : List ℕ = flat_map frame_octets fs ++ more in
    let whole : octets ≡ frame_octets f ++ rest = is ∙ append_assoc (frame_octets f) (flat_map frame_octets fs) more in
    let P : List ℕ → Type 0 = λ xs. FrontAs s xs (Whole size) in
    let front : FrontAs s octets (Whole size) = subst P (sym whole) (messages_are_found s f rest all.0) in
    let subsequent : drop size octets ≡ rest = after_message octets rest f size whole refl in
    let count : length fs ≡ left = omega arith in
    (Whole size, front, (Some left, messages_counted s left (drop size octets) fs more count all.1 subsequent, ap Some (omega arith)))

pub three_are_sure : (s : Session) (octets : List ℕ) (place : ℕ) → HasMessages s 3 (drop place octets) → CountsAs s most (drop place octets) (Some 3)
three_are_sure s octets place (fs, more, number, all, is) = messages_counted s 3 (drop place octets) fs more number all is
