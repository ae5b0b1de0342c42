-- Two logs that are read once.
use Rattle.std.proofs.Common.{◌≡◌, ◌++◌, ◌+◌, ◌<◌, ◌≤◌, ℕ, suc, List, [], ◌∷◌, length, take, drop, refl, sym, ◌∙◌, ap, subst, arith}
use Rattle.std.specs.Prelude.{◌-◌, Option, Some, None, Result, Ok, Err, IfOk}
use Rattle.std.proofs.lemmas.List.{append_assoc, length-append, length-map, map-append, take_at, drop_at, get_or_at, get_or_append_left}
use Rattle.hsms_frame.specs.Frame.{Frame}
use Rattle.hsms_machine.specs.declared.entry.Entry.{Entry}
use Rattle.hsms_machine.specs.declared.entry.Event.TheVariants.{Up}
use Rattle.hsms_machine.specs.declared.settings.Role.{Role}
use Rattle.hsms_machine.specs.declared.settings.Role.TheVariants.{Host, Equipment}
use Rattle.hsms_machine.specs.Entry.{entry_at}
use Rattle.hsms_compare.specs.declared.stop.Stop.TheVariants as stop
use Rattle.hsms_compare.specs.declared.merge.Merge.{Merge}
use Rattle.hsms_compare.specs.declared.reading.NumberedEntry.{NumberedEntry}
use Rattle.hsms_compare.specs.declared.pass.Pause.{Pause}
use Rattle.hsms_compare.specs.declared.pass.Pause.TheVariants.{Done, Waits}
use Rattle.hsms_compare.specs.declared.pass.Turn.{Turn}
use Rattle.hsms_compare.specs.declared.pass.Turn.TheVariants.{Merged, Differs, Stopped}
use Rattle.hsms_compare.specs.declared.pass.PassEnd.TheVariants as end
use Rattle.hsms_compare.specs.declared.pass.Offered.{Offered}
use Rattle.hsms_compare.specs.declared.pass.Offered.TheVariants.{Takes, Stops}
use Rattle.hsms_compare.specs.Conversation.{Agree, Line, entries, sent, received, received_by}
use Rattle.hsms_compare.specs.Agreement.{AgreeUpTo, ReceivesAs, SendsAs, StopsAt}
use Rattle.hsms_compare.specs.Merge.{IsMergeOf, line_at}
use Rattle.hsms_compare.specs.Readings.{IsRead, line_of, pending}
use Rattle.hsms_compare.specs.InnerPasses.{HasStopped, HavePaused, IsDifferentAt, IsOffered, IsPause, IsTurn, TakesOf, TurnsOf}
use Rattle.hsms_compare.proofs.Agreements.{IsStuck, is_merge-swap, encounters, stuck}
use Rattle.hsms_compare.proofs.Contradictions.{different}
use Rattle.hsms_compare.proofs.Histories.{agree-swap}
use Rattle.hsms_compare.proofs.Completions.{completed, up_to-swap}

-- The state between two lines.
pub record HasRead (host equipment : List Line) (merge : Merge) (host_next equipment_next : Option NumberedEntry) (left_host left_equipment : List Line) : Type 0 where
  pub own : List Line
  pub other : List Line
  pub rest : List Line
  pub rest_too : List Line
  pub merged : IsMergeOf Host merge own other
  pub host_so : host ≡ own ++ rest
  pub host_read : IsRead rest host_next left_host
  pub equipment_so : equipment ≡ other ++ rest_too
  pub equipment_read : IsRead rest_too equipment_next left_equipment

-- ---- an offer

pub offered_as : (own other : List Line) (end : Role) (a b : Option NumberedEntry) (old : Merge) (offer : Offered) (new : Merge) → a ≡ b → IsOffered own other end b old offer new → IsOffered own other end a old offer new
offered_as own other end a b old offer new e h =
    let P : Option NumberedEntry → Type 0 = λ x. IsOffered own other end x old offer new in
    subst P (sym e) h

pub offer_is : (own other : List Line) (end : Role) (next : Option NumberedEntry) (old new : Merge) (a b : Offered) → a ≡ b → IsOffered own other end next old a new → IsOffered own other end next old b new
offer_is own other end next old new a b e h =
    let P : Offered → Type 0 = λ x. IsOffered own other end next old x new in
    subst P e h

-- If a log stops, the merge does not change.
pub stopped_same : (own other : List Line) (end : Role) (next : Option NumberedEntry) (old : Merge) (pause : Pause) (new : Merge) → IsOffered own other end next old (Stops pause) new → new ≡ old
stopped_same own other end None old Done new h = h
stopped_same own other end None old (Waits position) new h = absurd h
stopped_same own other end (Some next) old Done new h = absurd h
stopped_same own other end (Some next) old (Waits position) new h = h.1.3

-- The same offers to an equal merge.
pub offers_from : (own other : List Line) (end : Role) (next : Option NumberedEntry) (old old' new new' : Merge) (a : Offered) → old ≡ old' → new ≡ new' → IsOffered own other end next old a new → IsOffered own other end next old' a new'
offers_from own other end next old old' new new' a e f h =
    let P : Merge → Type 0 = λ x. IsOffered own other end next x a new in
    let Q : Merge → Type 0 = λ x. IsOffered own other end next old' a x in
    subst Q f (subst P e h)

no_host : {A : Type 0} → Host ≡ Equipment → A
no_host e = absurd (cc e)

no_equipment : {A : Type 0} → Equipment ≡ Host → A
no_equipment e = absurd (cc e)

pub turn_of_host : (host equipment : List Line) (host_next equipment_next : Option NumberedEntry) (old : Merge) (turn : Turn) (new : Merge) → IsOffered host equipment Host host_next old (Takes turn) new → IsTurn host equipment host_next equipment_next old turn new
turn_of_host host equipment None equipment_next old turn new h = absurd h
turn_of_host host equipment (Some next) equipment_next old (Merged Host) new h = h
turn_of_host host equipment (Some next) equipment_next old (Merged Equipment) new h = no_equipment h.0
turn_of_host host equipment (Some next) equipment_next old (Differs Host sender position) new h = h
turn_of_host host equipment (Some next) equipment_next old (Differs Equipment sender position) new h = no_equipment h.0
turn_of_host host equipment (Some next) equipment_next old (Stopped one another) new h = absurd h

pub turn_of_equipment : (host equipment : List Line) (host_next equipment_next : Option NumberedEntry) (old : Merge) (turn : Turn) (new : Merge) → IsOffered equipment host Equipment equipment_next old (Takes turn) new → IsTurn host equipment host_next equipment_next old turn new
turn_of_equipment host equipment host_next None old turn new h = absurd h
turn_of_equipment host equipment host_next (Some next) old (Merged Equipment) new h = h
turn_of_equipment host equipment host_next (Some next) old (Merged Host) new h = no_host h.0
turn_of_equipment host equipment host_next (Some next) old (Differs Equipment sender position) new h = h
turn_of_equipment host equipment host_next (Some next) old (Differs Host sender position) new h = no_host h.0
turn_of_equipment host equipment host_next (Some next) old (Stopped one another) new h = absurd h

pub turns_of_host : (host_next equipment_next : Option NumberedEntry) (turn : Turn) → TakesOf Host host_next (Takes turn) → TurnsOf host_next equipment_next turn
turns_of_host host_next equipment_next (Merged Host) h = h.1
turns_of_host host_next equipment_next (Merged Equipment) h = no_equipment h.0
turns_of_host host_next equipment_next (Differs which sender position) h = tt
turns_of_host host_next equipment_next (Stopped one another) h = tt

pub turns_of_equipment : (host_next equipment_next : Option NumberedEntry) (turn : Turn) → TakesOf Equipment equipment_next (Takes turn) → TurnsOf host_next equipment_next turn
turns_of_equipment host_next equipment_next (Merged Equipment) h = h.1
turns_of_equipment host_next equipment_next (Merged Host) h = no_host h.0
turns_of_equipment host_next equipment_next (Differs which sender position) h = tt
turns_of_equipment host_next equipment_next (Stopped one another) h = tt

pub takes_as : (role : Role) (next : Option NumberedEntry) (a b : Offered) → a ≡ b → TakesOf role next a → TakesOf role next b
takes_as role next a b e h =
    let P : Offered → Type 0 = λ x. TakesOf role next x in
    subst P e h

pub turn_from : (host equipment : List Line) (host_next equipment_next : Option NumberedEntry) (old old' : Merge) (turn : Turn) (new : Merge) → old ≡ old' → IsTurn host equipment host_next equipment_next old turn new → IsTurn host equipment host_next equipment_next old' turn new
turn_from host equipment host_next equipment_next old old' turn new e h =
    let P : Merge → Type 0 = λ x. IsTurn host equipment host_next equipment_next x turn new in
    subst P e h

pub turn_is : (host equipment : List Line) (host_next equipment_next : Option NumberedEntry) (old new : Merge) (a b : Turn) → a ≡ b → IsTurn host equipment host_next equipment_next old a new → IsTurn host equipment host_next equipment_next old b new
turn_is host equipment host_next equipment_next old new a b e h =
    let P : Turn → Type 0 = λ x. IsTurn host equipment host_next equipment_next old x new in
    subst P e h

pub merge_is : (host equipment : List Line) (old new : Merge) → new ≡ old → IsMergeOf Host old host equipment → IsMergeOf Host new host equipment
merge_is host equipment old new e h =
    let P : Merge → Type 0 = λ x. IsMergeOf Host x host equipment in
    subst P (sym e) h

pub turns_from : {F : Type 0} (host_next equipment_next : Option NumberedEntry) (result : Result Turn F) (old mid new : Merge) → ((host equipment : List Line) → IsMergeOf Host old host equipment → mid ≡ old)
    → IfOk result (λ turn. (host equipment : List Line) → IsMergeOf Host mid host equipment → IsTurn host equipment host_next equipment_next mid turn new)
    → IfOk result (λ turn. (host equipment : List Line) → IsMergeOf Host old host equipment → IsTurn host equipment host_next equipment_next old turn new)
turns_from host_next equipment_next (Err e) old mid new same h = tt
turns_from host_next equipment_next (Ok turn) old mid new same h =
    λ host equipment s. turn_from host equipment host_next equipment_next mid old turn new (same host equipment s) (h host equipment (merge_is host equipment old mid (same host equipment s) s))

-- ---- an entry that is merged

took_more : (all own rest left : List Line) (next : NumberedEntry) → all ≡ own ++ rest → rest ≡ line_of next ∷ left → all ≡ (own ++ line_of next ∷ []) ++ left
took_more all own rest left next e f = e ∙ ap (λ x. own ++ x) f ∙ sym (append_assoc own (line_of next ∷ []) left)

pub took_host : (host equipment : List Line) (old new : Merge) (host_next host_next' equipment_next : Option NumberedEntry) (left left' left_equipment : List Line) → (h : HasRead host equipment old host_next equipment_next left left_equipment) → IsTurn h.own h.other host_next equipment_next old (Merged Host) new → IsRead left host_next' left' → HasRead host equipment new host_next' equipment_next left' left_equipment
took_host host equipment old new None host_next' equipment_next left left' left_equipment h t r = absurd t
took_host host equipment old new (Some next) host_next' equipment_next left left' left_equipment h t r = record {
  own = h.own ++ line_of next ∷ [];
  other = h.other;
  rest = left;
  rest_too = h.rest_too;
  merged = t.1;
  host_so = took_more host h.own h.rest left next h.host_so h.host_read;
  host_read = r;
  equipment_so = h.equipment_so;
  equipment_read = h.equipment_read;
}

pub took_equipment : (host equipment : List Line) (old new : Merge) (host_next equipment_next equipment_next' : Option NumberedEntry) (left_host left left' : List Line) → (h : HasRead host equipment old host_next equipment_next left_host left) → IsTurn h.own h.other host_next equipment_next old (Merged Equipment) new → IsRead left equipment_next' left' → HasRead host equipment new host_next equipment_next' left_host left'
took_equipment host equipment old new host_next None equipment_next' left_host left left' h t r = absurd t
took_equipment host equipment old new host_next (Some next) equipment_next' left_host left left' h t r = record {
  own = h.own;
  other = h.other ++ line_of next ∷ [];
  rest = h.rest;
  rest_too = left;
  merged = is_merge-swap Equipment new (h.other ++ line_of next ∷ []) h.own t.1;
  host_so = h.host_so;
  host_read = h.host_read;
  equipment_so = took_more equipment h.other h.rest_too left next h.equipment_so h.equipment_read;
  equipment_read = r;
}

-- ---- a log that stops

entries-split : (all own rest : List Line) → all ≡ own ++ rest → entries all ≡ entries own ++ entries rest
entries-split all own rest e = ap entries e ∙ map-append (λ (one : Line). one.entry) own rest

pub length-entries : (lines : List Line) → length (entries lines) ≡ length lines
length-entries lines = length-map lines (λ (one : Line). one.entry)

prefix_of : (all own rest : List Line) → all ≡ own ++ rest → take (length own) (entries all) ≡ entries own
prefix_of all own rest e =
    ap (λ x. take (length own) x) (entries-split all own rest e) ∙ take_at (entries own) (entries rest) (length own) (length-entries own)

within : (all own rest : List Line) → all ≡ own ++ rest → length own ≤ length (entries all)
within all own rest e = let l = length-entries all in let m = ap length e in let n = length-append own rest in omega arith

module _ (all own rest others other rest_too left : List Line) (all_so : all ≡ own ++ rest) (others_so : others ≡ other ++ rest_too) where
  receives_next : (next : NumberedEntry) (frame : Frame) → rest ≡ line_of next ∷ left → received_by next.entry.event ≡ frame ∷ [] → ReceivesAs (entries all) (length own) frame (length (received (entries own)))
  receives_next next frame e is =
      let split : entries all ≡ entries own ++ next.entry ∷ entries left = entries-split all own rest all_so ∙ ap (λ x. entries own ++ entries x) e in
      record {
        there =
            (let a = ap length split in
            let b = length-append (entries own) (next.entry ∷ entries left) in
            let c = length-entries own in
            omega arith);
        frame_is =
            ap (λ x. received_by (entry_at x (length own)).event) split
            ∙ ap (λ (x : Entry). received_by x.event) (get_or_at (entries own) next.entry (entries left) (record { time = 0; event = Up }) (length own) (length-entries own)) ∙ is;
        number = ap (λ x. length (received x)) (sym (prefix_of all own rest all_so));
      }

  line_next : (next : NumberedEntry) → rest ≡ line_of next ∷ left → (line_at all (length own)).position ≡ next.position
  line_next next e =
      ap (λ x. (line_at x (length own)).position) (all_so ∙ ap (λ x. own ++ x) e)
      ∙ ap (λ (x : Line). x.position) (get_or_at own (line_of next) left (record { position = 0; entry = record { time = 0; event = Up } }) (length own) refl)

  pub pause_at : (end : Role) (next : Option NumberedEntry) (old : Merge) (pause : Pause) (new : Merge) → IsRead rest next left → IsOffered own other end next old (Stops pause) new → IsPause all (length own) others (length other) left pause
  pause_at end None old Done new r h =
      (let a = ap length all_so in let b = length-append own rest in let c = ap length r.0 in omega arith, r.1)
  pause_at end None old (Waits position) new r h = absurd h
  pause_at end (Some next) old Done new r h = absurd h
  pause_at end (Some next) old (Waits position) new r (at, (frame, is, all_received, same)) =
      let n = ap length (ap sent (prefix_of others other rest_too others_so) ∙ all_received) in
      let first : drop (length own) all ≡ line_of next ∷ left =
      ap (λ x. drop (length own) x) all_so ∙ drop_at own rest (length own) refl ∙ r in
      (line_next next r ∙ sym at, (frame, length (received (entries own)), receives_next next frame r is, omega arith), (line_of next, first))

  pub different_at : (end which : Role) (next : Option NumberedEntry) (old : Merge) (sender position : ℕ) (new : Merge) → IsRead rest next left → IsOffered own other end next old (Takes (Differs which sender position)) new → IsDifferentAt others all (length own) sender position
  different_at end which None old sender position new r h = absurd h
  different_at end which (Some next) old sender position new r (of_end, at, (frame, another, k, is, position_is, sends, apart, same)) =
      let P : List Entry → Type 0 = λ x. SendsAs x k another (length (received (entries own))) in
      let within : k < length other = (let t = sends.there in let l = length-entries other in omega arith) in
      let line : line_at others k ≡ line_at other k =
      ap (λ x. line_at x k) others_so ∙ get_or_append_left other rest_too (record { position = 0; entry = record { time = 0; event = Up } }) k within in
      let stops : StopsAt (entries all) (length own) (take (length other) (entries others)) (stop.OtherSent k) =
      (frame, another, length (received (entries own)), receives_next next frame r is, subst P (sym (prefix_of others other rest_too others_so)) sends, apart) in (
        k,
        ap (λ (x : Line). x.position) line ∙ position_is,
        line_next next r ∙ sym at,
        different (entries all) (entries others) (length own) (length other) k stops,
      )

stuck_end : (all others left : List Line) (i j : ℕ) (pause : Pause) → IsPause all i others j left pause → IsStuck (entries all) i (take j (entries others))
stuck_end all others left i j Done h d = let l = length-entries all in let e = h.0 in omega arith
stuck_end all others left i j (Waits position) h d = stuck (entries all) i (take j (entries others)) stop.Waits h.1 d

module _ (host equipment : List Line) (merge : Merge) (host_next equipment_next : Option NumberedEntry) (left left' : List Line) (h : HasRead host equipment merge host_next equipment_next left left') where
  agree_so_far : Agree (take (length h.own) (entries host)) (take (length h.other) (entries equipment))
  agree_so_far =
      let P : List Entry → Type 0 = λ x. Agree x (entries h.other) in
      let Q : List Entry → Type 0 = λ x. Agree (take (length h.own) (entries host)) x in
      subst Q (sym (prefix_of equipment h.other h.rest_too h.equipment_so)) (subst P (sym (prefix_of host h.own h.rest h.host_so)) h.merged.agree)

  pub paused : (host_pause equipment_pause : Pause) (new : Merge) → IsTurn h.own h.other host_next equipment_next merge (Stopped host_pause equipment_pause) new → HavePaused host equipment left left' host_pause equipment_pause
  paused host_pause equipment_pause new t =
      let a : IsPause host (length h.own) equipment (length h.other) left host_pause =
      pause_at host h.own h.rest equipment h.other h.rest_too left h.host_so h.equipment_so Host host_next merge host_pause merge h.host_read t.0 in
      let b : IsPause equipment (length h.other) host (length h.own) left' equipment_pause =
      pause_at equipment h.other h.rest_too host h.own h.rest left' h.equipment_so h.host_so Equipment equipment_next merge equipment_pause merge h.equipment_read t.1 in
      record {
        i = length h.own;
        j = length h.other;
        up_to =
            encounters (entries host) (entries equipment) (length h.own) (length h.other)
            (within host h.own h.rest h.host_so) (within equipment h.other h.rest_too h.equipment_so) agree_so_far
            (stuck_end host equipment left (length h.own) (length h.other) host_pause a) (stuck_end equipment host left' (length h.other) (length h.own) equipment_pause b);
        host_so = a;
        equipment_so = b;
      }

  pub host_differs : (sender position : ℕ) (new : Merge) → IsTurn h.own h.other host_next equipment_next merge (Differs Host sender position) new
      → (i : ℕ) × (j : ℕ) × AgreeUpTo (entries host) (entries equipment) i j × IsDifferentAt equipment host i sender position
  host_differs sender position new t =
      let d : IsDifferentAt equipment host (length h.own) sender position =
      different_at host h.own h.rest equipment h.other h.rest_too left h.host_so h.equipment_so Host Host host_next merge sender position new h.host_read t in
      let in_equipment = within equipment h.other h.rest_too h.equipment_so in
      let c = completed (entries host) (entries equipment) (length h.own) d.0 (within host h.own h.rest h.host_so) d.3
      (length (entries equipment) - length h.other) (length h.other) (omega arith) agree_so_far in
      (length h.own, c.0, c.1, d)

  pub equipment_differs : (sender position : ℕ) (new : Merge) → IsTurn h.own h.other host_next equipment_next merge (Differs Equipment sender position) new
      → (i : ℕ) × (j : ℕ) × AgreeUpTo (entries host) (entries equipment) i j × IsDifferentAt host equipment j sender position
  equipment_differs sender position new t =
      let d : IsDifferentAt host equipment (length h.other) sender position =
      different_at equipment h.other h.rest_too host h.own h.rest left' h.equipment_so h.host_so Equipment Equipment equipment_next merge sender position new h.equipment_read t in
      let in_host = within host h.own h.rest h.host_so in
      let c = completed (entries equipment) (entries host) (length h.other) d.0 (within equipment h.other h.rest_too h.equipment_so) d.3
      (length (entries host) - length h.own) (length h.own) (omega arith)
      (agree-swap (take (length h.own) (entries host)) (take (length h.other) (entries equipment)) agree_so_far) in
      (c.0, length h.other, up_to-swap (entries equipment) (entries host) (length h.other) c.0 c.1, d)

  pub differs : (role : Role) (sender position : ℕ) (new : Merge) → IsTurn h.own h.other host_next equipment_next merge (Differs role sender position) new → HasStopped host equipment left left' (end.Differs role sender position)
  differs Host sender position new t = host_differs sender position new t
  differs Equipment sender position new t = equipment_differs sender position new t
