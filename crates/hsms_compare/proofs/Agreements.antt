-- How far two logs agree.
use Rattle.std.proofs.Common.{◌≡◌, ◌++◌, ◌+◌, ◌≤◌, ℕ, List, [], ◌∷◌, length, take, drop, get_or, refl, sym, ◌∙◌, ap, subst, inl, inr, arith}
use Rattle.std.proofs.lemmas.List.{append_assoc, length-append, length_push, length-take-le, take_at, take-take, take-append-drop, take_more, drop_more, get_or_at}
use Rattle.std.proofs.lemmas.Bool.{cases_lt}
use Rattle.hsms_frame.specs.Frame.{Frame}
use Rattle.hsms_machine.specs.declared.entry.Entry.{Entry}
use Rattle.hsms_machine.specs.declared.entry.Event.TheVariants.{Up}
use Rattle.hsms_machine.specs.Entry.{entry_at}
use Rattle.hsms_compare.specs.declared.stop.Stop.{Stop}
use Rattle.hsms_compare.specs.declared.stop.Stop.TheVariants.{Ended, Waits, OtherSent}
use Rattle.hsms_compare.specs.Conversation.{Agree, IsDelivered, Line, entries, peer, sent, received}
use Rattle.hsms_compare.specs.InnerConversation.{numbered}
use Rattle.hsms_machine.specs.declared.settings.Role.{Role}
use Rattle.hsms_machine.specs.declared.settings.Role.TheVariants.{Host, Equipment}
use Rattle.hsms_compare.specs.declared.merge.Merge.{Merge}
use Rattle.hsms_compare.specs.Agreement.{AgreeUpTo, AreLost, StopsAt, ReceivesAs, SendsAs}
use Rattle.hsms_compare.specs.Merge.{IsMergeOf}
use Rattle.hsms_compare.proofs.Merges.{between-swap}
use Rattle.hsms_compare.proofs.Numbered.{entries-numbered}
use Rattle.hsms_compare.proofs.Histories.{agree_along, agree-swap, delivered-as, delivered-more, received-more, sent-append}

-- The log has no entry at i that can be merged with the other log.
abbrev pub IsStuck : List Entry → ℕ → List Entry → Type 0
IsStuck log i other = IsDelivered other (take (i + 1) log) → length log ≤ i

-- ---- a log that stops is stuck

pub received-next : (log : List Entry) (i : ℕ) (frame : Frame) (n : ℕ) → ReceivesAs log i frame n → received (take (i + 1) log) ≡ received (take i log) ++ frame ∷ []
received-next log i frame n r =
    ap received (take_more log i (record { time = 0; event = Up }) r.there)
    ∙ received-more (take i log) (entry_at log i) ∙ ap (λ x. received (take i log) ++ x) r.frame_is

sent-at : (log : List Entry) (k : ℕ) (frame : Frame) (n : ℕ) → SendsAs log k frame n → sent log ≡ sent (take k log) ++ frame ∷ sent (drop (k + 1) log)
sent-at log k frame n s =
    ap sent (sym (take-append-drop k log)) ∙ sent-append (take k log) (drop k log)
    ∙ ap (λ x. sent (take k log) ++ x) (ap sent (drop_more log k (record { time = 0; event = Up }) s.there) ∙ ap (λ x. x ++ sent (drop (k + 1) log)) s.frame_is)

pub stuck : (log : List Entry) (i : ℕ) (other : List Entry) (stop : Stop) → StopsAt log i other stop → IsStuck log i other
stuck log i other Ended h d = omega arith
stuck log i other Waits (frame, n, r, few) (rest, e) =
    absurd (
    let a = ap length (received-next log i frame n r) in
    let b = length_push (received (take i log)) frame in
    let c = ap length e in
    let f = length-append (received (take (i + 1) log)) rest in
    let g = r.number in
    omega arith)
stuck log i other (OtherSent k) (frame, another, n, r, s, apart) (rest, e) =
    absurd (apart (
    let a : sent other ≡ received (take i log) ++ frame ∷ rest = e ∙ ap (λ x. x ++ rest) (received-next log i frame n r) ∙ append_assoc (received (take i log)) (frame ∷ []) rest in
    let b = sent-at other k another n s in
    let c = get_or_at (received (take i log)) frame rest frame n (sym r.number) in
    let f = get_or_at (sent (take k other)) another (sent (drop (k + 1) other)) frame n (sym s.number) in
    sym f ∙ ap (λ x. get_or x n frame) (sym b ∙ a) ∙ c))

-- ---- no prefix that agrees is longer

prefix_of_take : (xs b r : List Entry) (j : ℕ) → xs ≡ b ++ r → length b ≤ j → take j xs ≡ b ++ drop (length b) (take j xs)
prefix_of_take xs b r j e le =
    sym (take-append-drop (length b) (take j xs))
    ∙ ap (λ x. x ++ drop (length b) (take j xs)) (take-take (length b) j xs le ∙ ap (λ x. take (length b) x) e ∙ take_at b r (length b) refl)

one_step : (log other : List Entry) (i j : ℕ) → IsStuck log i (take j other) → (a b : List Entry) (e : Entry) → length a ≤ i → length b ≤ j → IsDelivered b (a ++ e ∷ []) → (ra rb : List Entry) → log ≡ (a ++ e ∷ []) ++ ra → other ≡ b ++ rb → length (a ++ e ∷ []) ≤ i
one_step log other i j is_stuck a b e le le' d ra rb in_log in_other =
    let n = length_push a e in
    elim (cases_lt (length a) i) [
      | inl lt ↦ omega arith
      | inr ge ↦
          let next : take (i + 1) log ≡ a ++ e ∷ [] = ap (λ x. take (i + 1) x) in_log ∙ take_at (a ++ e ∷ []) ra (i + 1) (omega arith) in
          let more : IsDelivered (b ++ drop (length b) (take j other)) (a ++ e ∷ []) = delivered-more b (drop (length b) (take j other)) (a ++ e ∷ []) d in
          let over : length log ≤ i = is_stuck (delivered-as (b ++ drop (length b) (take j other)) (take j other) (a ++ e ∷ []) (take (i + 1) log) (prefix_of_take other b rb j in_other le') next more) in
          let m = ap length in_log in
          let k = length-append (a ++ e ∷ []) ra in
          omega arith
    ]

pub encounters : (host equipment : List Entry) (i j : ℕ) → i ≤ length host → j ≤ length equipment → Agree (take i host) (take j equipment) → IsStuck host i (take j equipment) → IsStuck equipment j (take i host) → AgreeUpTo host equipment i j
encounters host equipment i j within_host within_equipment agree host_stuck equipment_stuck = record {
  within_host = within_host;
  within_equipment = within_equipment;
  agree = agree;
  furthest = λ m n le le' g.
      (let both : (length (take m host) ≤ i) × (length (take n equipment) ≤ j) = no_further (take m host) (take n equipment) g (drop m host) (drop n equipment) (sym (take-append-drop m host)) (sym (take-append-drop n equipment)) in
      let x = length-take-le m host le in
      let y = length-take-le n equipment le' in
      (omega (arith, both.0), omega (arith, both.1)));
}
  where
    no_further : (a b : List Entry) → Agree a b → (ra rb : List Entry) → host ≡ a ++ ra → equipment ≡ b ++ rb → (length a ≤ i) × (length b ≤ j)
    no_further = agree_along (λ a b. (ra rb : List Entry) → host ≡ a ++ ra → equipment ≡ b ++ rb → (length a ≤ i) × (length b ≤ j))
        (λ ra rb x y. (omega arith, omega arith))
        (λ a b e p d ra rb x y.
        (let before : (length a ≤ i) × (length b ≤ j) = p (e ∷ ra) rb (x ∙ append_assoc a (e ∷ []) ra) y in
        (one_step host equipment i j host_stuck a b e before.0 before.1 d ra rb x y, before.1)))
        (λ a b e p d ra rb x y.
        (let before : (length a ≤ i) × (length b ≤ j) = p ra (e ∷ rb) x (y ∙ append_assoc b (e ∷ []) rb) in
        (before.0, one_step equipment host j i equipment_stuck b a e before.1 before.0 d rb ra y x)))

pub stops_as : (log other : List Entry) (i m n : ℕ) (stop : Stop) → m ≡ n → StopsAt log i (take n other) stop → StopsAt log i (take m other) stop
stops_as log other i m n stop e h =
    let P : ℕ → Type 0 = λ x. StopsAt log i (take x other) stop in
    subst P (sym e) h

pub is_merge-swap : (end : Role) (merge : Merge) (own other : List Line) → IsMergeOf end merge own other → IsMergeOf (peer end) merge other own
is_merge-swap Host merge own other s = between-swap merge.to_host merge.to_equipment own other s
is_merge-swap Equipment merge own other s = between-swap merge.to_equipment merge.to_host own other s

-- Both logs stop here.
pub merged : (host equipment : List Entry) (i j n : ℕ) (merge : Merge) (ours theirs : Stop) → i ≤ length host → j ≤ length equipment → IsMergeOf Equipment merge (numbered 0 (take j equipment)) (numbered 0 (take i host)) → j ≡ n → StopsAt host i (take n equipment) ours → StopsAt equipment j (take i host) theirs → AgreeUpTo host equipment i j
merged host equipment i j n merge ours theirs within_host within_equipment s e h h' =
    let P : List Entry → Type 0 = λ x. Agree x (entries (numbered 0 (take i host))) in
    let Q : List Entry → Type 0 = λ x. Agree (take j equipment) x in
    let agree : Agree (take j equipment) (take i host) = subst Q (entries-numbered 0 (take i host)) (subst P (entries-numbered 0 (take j equipment)) s.agree) in
    encounters host equipment i j within_host within_equipment (agree-swap (take j equipment) (take i host) agree)
    (stuck host i (take j equipment) ours (stops_as host equipment i j n ours e h)) (stuck equipment j (take i host) theirs h')

-- The number of lost frames.
pub lost_so : (own other : List Entry) (n : ℕ) → n + length (received (entries (numbered 0 own))) ≡ length (sent (entries (numbered 0 other))) → AreLost other own n
lost_so own other n e =
    ap (λ x. n + length (received x)) (sym (entries-numbered 0 own)) ∙ e ∙ ap (λ x. length (sent x)) (entries-numbered 0 other)
