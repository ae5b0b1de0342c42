-- The first contradiction of two logs, by line numbers.
use Rattle.std.proofs.Common.{◌≡◌, ◌++◌, ◌+◌, ◌<◌, ◌≤◌, ℕ, suc, List, [], ◌∷◌, length, take, drop, get_or, refl, sym, ◌∙◌, ap, subst, inl, inr, arith}
use Rattle.std.specs.Prelude.{◌⊎◌, ◌↔◌, Bool, true, false, IsTrue, Option, Some, None}
use Rattle.std.proofs.lemmas.List.{append_assoc, append-nil, length-append, length-take-le, take-append-drop, take_at, drop-map, get_or-drop, get_or_at, map-append}
use Rattle.hsms_frame.specs.Frame.{Frame}
use Rattle.hsms_machine.specs.declared.entry.Entry.{Entry}
use Rattle.hsms_machine.specs.declared.entry.Event.TheVariants.{Up}
use Rattle.hsms_machine.specs.declared.settings.Role.{Role}
use Rattle.hsms_machine.specs.declared.settings.Role.TheVariants.{Host, Equipment}
use Rattle.hsms_machine.specs.Entry.{entry_at}
use Rattle.hsms_compare.specs.declared.stop.Stop.TheVariants as stop
use Rattle.hsms_compare.specs.declared.contradiction.Contradiction.{Contradiction}
use Rattle.hsms_compare.specs.declared.contradiction.Contradiction.TheVariants.{Differs, Unsent, Order}
use Rattle.hsms_compare.specs.declared.line_contradiction.LineContradiction.{LineContradiction}
use Rattle.hsms_compare.specs.declared.line_contradiction.LineContradiction.TheVariants as by_lines
use Rattle.hsms_compare.specs.declared.reading.NumberedEntry.{NumberedEntry}
use Rattle.hsms_compare.specs.declared.pass.Pause.{Pause}
use Rattle.hsms_compare.specs.declared.pass.Pause.TheVariants.{Done, Waits}
use Rattle.hsms_compare.specs.declared.pass.PassEnd.{PassEnd}
use Rattle.hsms_compare.specs.declared.pass.PassEnd.TheVariants as end
use Rattle.hsms_compare.specs.Conversation.{Line, IsDelivered, entries, sent, received, sent_by, received_by}
use Rattle.hsms_compare.specs.Agreement.{SendsAs, StopsAt, IsSentLater}
use Rattle.hsms_compare.specs.Merge.{line_at}
use Rattle.hsms_compare.specs.LineContradiction.{FirstByLines, IsSentAt, number_at}
use Rattle.hsms_compare.specs.Readings.{IsRead, line_of}
use Rattle.hsms_compare.specs.InnerPasses.{HasStopped, HavePaused, IsFirstSent, IsPause}
use Rattle.hsms_compare.proofs.Contradictions.{receives_silent, sends-append, unsent, unsent_at_end}
use Rattle.hsms_compare.proofs.Histories.{agree-delivered, sent-append}
use Rattle.hsms_compare.proofs.LinesRead.{length-entries}
use Rattle.hsms_compare.proofs.Merges.{sends-later, sends_cases}
use Rattle.hsms_compare.proofs.OpenLogs.{can_agree_later, can_agree_later_too, can_agree_now}

-- ---- what is left of a log

module _ (lines left : List Line) (j : ℕ) (line : Line) (rest : drop j lines ≡ line ∷ left) where
  rest_so : drop j (entries lines) ≡ line.entry ∷ entries left
  rest_so = drop-map (λ (one : Line). one.entry) j lines ∙ ap entries rest

  entry_there : entry_at (entries lines) j ≡ line.entry
  entry_there =
      ap (λ x. entry_at (entries lines) x) (let x : j ≡ j + 0 = omega arith in x)
      ∙ sym (get_or-drop j (entries lines) 0 (record { time = 0; event = Up }))
      ∙ ap (λ x. get_or x 0 (record { time = 0; event = Up })) rest_so

  silent : (other : List Entry) → StopsAt (entries lines) j other stop.Waits → sent_by line.entry.event ≡ []
  silent other (frame, n, r, few) =
      receives_silent line.entry.event frame (ap (λ (x : Entry). received_by x.event) (sym entry_there) ∙ r.frame_is)

  rest_sends : (other : List Entry) → StopsAt (entries lines) j other stop.Waits → sent (drop j (entries lines)) ≡ sent (entries left)
  rest_sends other s = ap sent rest_so ∙ ap (λ x. x ++ sent (entries left)) (silent other s)

  later_line : (k : ℕ) → line_at lines (j + suc k) ≡ line_at left k
  later_line k =
      sym (get_or-drop j lines (suc k) (record { position = 0; entry = record { time = 0; event = Up } }))
      ∙ ap (λ x. get_or x (suc k) (record { position = 0; entry = record { time = 0; event = Up } })) rest

  -- The first frame that is sent after j is the one that the other log waits for.
  sent_there : (log : List Line) (i : ℕ) → j ≤ length (entries lines) → IsDelivered (take j (entries lines)) (take i (entries log)) → StopsAt (entries log) i (take j (entries lines)) stop.Waits → StopsAt (entries lines) j (take i (entries log)) stop.Waits
      → (position k : ℕ) (another : Frame) → (line_at left k).position ≡ position → SendsAs (entries left) k another 0
      → IsSentAt (entries lines) (entries log) (j + suc k) i × IsSentLater (entries lines) (entries log) j i × (number_at lines (j + suc k) ≡ position)
  sent_there log i inside (more, e) (frame, n, r, few) waits position k another at s =
      let all : length (sent (take j (entries lines))) ≡ n =
      (let l = ap length e in let m = length-append (received (take i (entries log))) more in let g = r.number in omega arith) in
      let first : SendsAs (line.entry ∷ entries left) (suc k) another 0 =
      sends-later line.entry (entries left) k another 0 0 s (let z = ap length (silent (take i (entries log)) waits) in omega arith) in
      let P : List Entry → Type 0 = λ x. SendsAs x (length (take j (entries lines)) + suc k) another (length (sent (take j (entries lines))) + 0) in
      let Q : ℕ → Type 0 = λ x. SendsAs (entries lines) x another (length (sent (take j (entries lines))) + 0) in
      let R : ℕ → Type 0 = λ x. SendsAs (entries lines) (j + suc k) another x in
      let l : length (take j (entries lines)) ≡ j = length-take-le j (entries lines) inside in
      let whole_log : take j (entries lines) ++ (line.entry ∷ entries left) ≡ entries lines =
      ap (λ x. take j (entries lines) ++ x) (sym rest_so) ∙ take-append-drop j (entries lines) in
      let there : SendsAs (entries lines) (j + suc k) another n =
      subst R (let x : length (sent (take j (entries lines))) + 0 ≡ n = omega arith in x)
      (subst Q (let x : length (take j (entries lines)) + suc k ≡ j + suc k = omega arith in x)
      (subst P whole_log (sends-append (take j (entries lines)) (line.entry ∷ entries left) (suc k) another 0 first))) in (
        (frame, another, n, r, there),
        (frame, another, n, j + suc k, r, there, omega arith),
        ap (λ (x : Line). x.position) (later_line k) ∙ at,
      )

-- ---- both logs stop

all_entries : (lines : List Line) (i : ℕ) → i ≡ length lines → i ≡ length (entries lines)
all_entries lines i e = let l = length-entries lines in omega arith

module _ (host_open equipment_open : Bool) (host equipment host_left equipment_left : List Line) where
  pub both_done : HavePaused host equipment host_left equipment_left Done Done → FirstByLines host_open equipment_open host equipment None
  both_done h =
      can_agree_now host_open equipment_open (entries host) (entries equipment) h.i h.j h.up_to
      (all_entries host h.i h.host_so.0) (all_entries equipment h.j h.equipment_so.0)

  pub equipment_waits : (b : Bool) (line : ℕ) → b ≡ host_open → HavePaused host equipment host_left equipment_left Done (Waits line) → (found : Option LineContradiction) → (b ≡ true → found ≡ None) → (b ≡ false → found ≡ Some (by_lines.Unsent Equipment line)) → FirstByLines host_open equipment_open host equipment found
  equipment_waits true line b h found some_more no_more =
      let P : Option LineContradiction → Type 0 = λ x. FirstByLines host_open equipment_open host equipment x in
      subst P (sym (some_more refl))
      (can_agree_later host_open equipment_open (entries host) (entries equipment) h.i h.j h.up_to
      (all_entries host h.i h.host_so.0) (sym b) h.equipment_so.1)
  equipment_waits false line b h found some_more no_more =
      let P : Option LineContradiction → Type 0 = λ x. FirstByLines host_open equipment_open host equipment x in
      subst P (sym (no_more refl)) (
        Unsent Equipment h.j,
        (
          h.i,
          h.j,
          h.up_to,
          (
            refl,
            unsent_at_end (entries equipment) (entries host) h.j h.i h.equipment_so.1 (all_entries host h.i h.host_so.0),
            λ t. (let e : false ≡ true = b ∙ t in absurd (cc e)),
          ),
        ),
        ap (λ x. by_lines.Unsent Equipment x) (sym h.equipment_so.0),
      )

  pub host_waits : (b : Bool) (line : ℕ) → b ≡ equipment_open → HavePaused host equipment host_left equipment_left (Waits line) Done → (found : Option LineContradiction) → (b ≡ true → found ≡ None) → (b ≡ false → found ≡ Some (by_lines.Unsent Host line)) → FirstByLines host_open equipment_open host equipment found
  host_waits true line b h found some_more no_more =
      let P : Option LineContradiction → Type 0 = λ x. FirstByLines host_open equipment_open host equipment x in
      subst P (sym (some_more refl))
      (can_agree_later_too host_open equipment_open (entries host) (entries equipment) h.i h.j h.up_to
      (all_entries equipment h.j h.equipment_so.0) (sym b) h.host_so.1)
  host_waits false line b h found some_more no_more =
      let P : Option LineContradiction → Type 0 = λ x. FirstByLines host_open equipment_open host equipment x in
      subst P (sym (no_more refl)) (
        Unsent Host h.i,
        (
          h.i,
          h.j,
          h.up_to,
          (
            refl,
            unsent_at_end (entries host) (entries equipment) h.i h.j h.host_so.1 (all_entries equipment h.j h.equipment_so.0),
            λ t. (let e : false ≡ true = b ∙ t in absurd (cc e)),
          ),
        ),
        ap (λ x. by_lines.Unsent Host x) (sym h.host_so.0),
      )

  pub host_unsent : (host_line equipment_line : ℕ) → HavePaused host equipment host_left equipment_left (Waits host_line) (Waits equipment_line) → IsFirstSent equipment_left None → FirstByLines host_open equipment_open host equipment (Some (by_lines.Unsent Host host_line))
  host_unsent host_line equipment_line h none = (
    Unsent Host h.i,
    (
      h.i,
      h.j,
      h.up_to,
      (
        refl,
        unsent (entries host) (entries equipment) h.i h.j h.host_so.1
            (λ some.
            let e = ap length (rest_sends equipment equipment_left h.j h.equipment_so.2.0 h.equipment_so.2.1 (take h.i (entries host)) h.equipment_so.1 ∙ none) in
            omega arith),
        (λ t. h.equipment_so.1.2.there),
      ),
    ),
    ap (λ x. by_lines.Unsent Host x) (sym h.host_so.0),
  )

  pub equipment_unsent : (host_line equipment_line : ℕ) → HavePaused host equipment host_left equipment_left (Waits host_line) (Waits equipment_line) → IsFirstSent host_left None → FirstByLines host_open equipment_open host equipment (Some (by_lines.Unsent Equipment equipment_line))
  equipment_unsent host_line equipment_line h none = (
    Unsent Equipment h.j,
    (
      h.i,
      h.j,
      h.up_to,
      (
        refl,
        unsent (entries equipment) (entries host) h.j h.i h.equipment_so.1
            (λ some.
            let e = ap length (rest_sends host host_left h.i h.host_so.2.0 h.host_so.2.1 (take h.j (entries equipment)) h.host_so.1 ∙ none) in
            omega arith),
        (λ t. h.host_so.1.2.there),
      ),
    ),
    ap (λ x. by_lines.Unsent Equipment x) (sym h.equipment_so.0),
  )

  pub in_order : (host_line host_from equipment_line equipment_from : ℕ) → HavePaused host equipment host_left equipment_left (Waits host_line) (Waits equipment_line) → IsFirstSent equipment_left (Some host_from) → IsFirstSent host_left (Some equipment_from)
      → FirstByLines host_open equipment_open host equipment (Some (by_lines.Order host_line host_from equipment_line equipment_from))
  in_order host_line host_from equipment_line equipment_from h of_equipment of_host =
      let delivered = agree-delivered (take h.i (entries host)) (take h.j (entries equipment)) h.up_to.agree in
      let a = sent_there equipment equipment_left h.j h.equipment_so.2.0 h.equipment_so.2.1 host h.i h.up_to.within_equipment delivered.1 h.host_so.1 h.equipment_so.1
      host_from of_equipment.0 of_equipment.1 of_equipment.2 of_equipment.3 in
      let b = sent_there host host_left h.i h.host_so.2.0 h.host_so.2.1 equipment h.j h.up_to.within_host delivered.0 h.equipment_so.1 h.host_so.1
      equipment_from of_host.0 of_host.1 of_host.2 of_host.3 in (
        Order h.i h.j,
        (h.i, h.j, h.up_to, (refl, refl, a.1, b.1)),
        (
          h.j + suc of_equipment.0,
          h.i + suc of_host.0,
          a.0,
          b.0,
          ap (λ x. by_lines.Order x host_from equipment_line equipment_from) (sym h.host_so.0)
              ∙ ap (λ x. by_lines.Order (number_at host h.i) x equipment_line equipment_from) (sym a.2)
              ∙ ap (λ x. by_lines.Order (number_at host h.i) (number_at equipment (h.j + suc of_equipment.0)) x equipment_from) (sym h.equipment_so.0)
              ∙ ap (λ x. by_lines.Order (number_at host h.i) (number_at equipment (h.j + suc of_equipment.0)) (number_at equipment h.j) x) (sym b.2),
        ),
      )

  pub different_lines : (role : Role) (sender received_at : ℕ) → HasStopped host equipment host_left equipment_left (end.Differs role sender received_at) → FirstByLines host_open equipment_open host equipment (Some (by_lines.Differs role sender received_at))
  different_lines Host sender received_at (i, j, up_to, (k, at, at_receiver, different)) = (
    Differs Host k i,
    (i, j, up_to, (refl, different)),
    ap (λ x. by_lines.Differs Host x received_at) (sym at) ∙ ap (λ x. by_lines.Differs Host (number_at equipment k) x) (sym at_receiver),
  )
  different_lines Equipment sender received_at (i, j, up_to, (k, at, at_receiver, different)) = (
    Differs Equipment k j,
    (i, j, up_to, (refl, different)),
    ap (λ x. by_lines.Differs Equipment x received_at) (sym at) ∙ ap (λ x. by_lines.Differs Equipment (number_at host k) x) (sym at_receiver),
  )

-- ---- the first line that sends

module _ (lines before left left' : List Line) (next : NumberedEntry) (lines_so : lines ≡ before ++ left) (none : sent (entries before) ≡ []) (read : left ≡ line_of next ∷ left') where
  split_there : entries lines ≡ entries before ++ next.entry ∷ entries left'
  split_there = ap entries (lines_so ∙ ap (λ x. before ++ x) read) ∙ map-append (λ (one : Line). one.entry) before (line_of next ∷ left')

  pub first_there : 0 < length (sent_by next.entry.event) → IsFirstSent lines (Some next.position)
  first_there some =
      elim (sends_cases next.entry.event) [
        | inl nothing ↦ absurd (let e = ap length nothing in omega arith)
        | inr (frame, one) ↦
            let first : SendsAs (next.entry ∷ entries left') 0 frame 0 = record { there = omega arith; frame_is = one; number = refl } in
            let s = sends-append (entries before) (next.entry ∷ entries left') 0 frame 0 first in
            let P : List Entry → Type 0 = λ x. SendsAs x (length (entries before) + 0) frame (length (sent (entries before)) + 0) in
            let Q : ℕ → Type 0 = λ x. SendsAs (entries lines) x frame (length (sent (entries before)) + 0) in
            let R : ℕ → Type 0 = λ x. SendsAs (entries lines) (length before) frame x in
            let there : SendsAs (entries lines) (length before) frame 0 =
            subst R (let e = ap length none in let x : length (sent (entries before)) + 0 ≡ 0 = omega arith in x)
            (subst Q (let e = length-entries before in let x : length (entries before) + 0 ≡ length before = omega arith in x) (subst P (sym split_there) s)) in (
              length before,
              frame,
              ap (λ x. (line_at x (length before)).position) (lines_so ∙ ap (λ x. before ++ x) read)
                  ∙ ap (λ (x : Line). x.position) (get_or_at before (line_of next) left' (record { position = 0; entry = record { time = 0; event = Up } }) (length before) refl),
              there,
            )
      ]

  pub not_there : (0 < length (sent_by next.entry.event) → ⊥) → (lines ≡ (before ++ line_of next ∷ []) ++ left') × (sent (entries (before ++ line_of next ∷ [])) ≡ [])
  not_there few = (
    lines_so ∙ ap (λ x. before ++ x) read ∙ sym (append_assoc before (line_of next ∷ []) left'),
    ap sent (map-append (λ (one : Line). one.entry) before (line_of next ∷ [])) ∙ sent-append (entries before) (next.entry ∷ [])
        ∙ ap (λ x. x ++ sent (next.entry ∷ [])) none ∙ append-nil (sent_by next.entry.event) ∙ nothing (sends_cases next.entry.event),
  )
    where
      nothing : (sent_by next.entry.event ≡ []) ⊎ ((frame : Frame) × (sent_by next.entry.event ≡ frame ∷ [])) → sent_by next.entry.event ≡ []
      nothing (inl e) = e
      nothing (inr (frame, e)) = absurd (few (let l = ap length e in omega arith))

pub none_there : (lines before left : List Line) → lines ≡ before ++ left → sent (entries before) ≡ [] → left ≡ [] → IsFirstSent lines None
none_there lines before left lines_so none ended =
    ap (λ x. sent (entries x)) (lines_so ∙ ap (λ x. before ++ x) ended ∙ append-nil before) ∙ none

-- ---- the same for an equal result

pub not_both : (b : Bool) → b ≡ false → b ≡ true → ⊥
not_both b e f = let g : false ≡ true = sym e ∙ f in absurd (cc g)

pub read_as : (old new : List Line) (a b : Option NumberedEntry) → a ≡ b → IsRead old a new → IsRead old b new
read_as old new a b e h =
    let P : Option NumberedEntry → Type 0 = λ x. IsRead old x new in
    subst P e h

pub first_as : (lines : List Line) (a b : Option ℕ) → a ≡ b → IsFirstSent lines a → IsFirstSent lines b
first_as lines a b e h =
    let P : Option ℕ → Type 0 = λ x. IsFirstSent lines x in
    subst P e h

pub paused_as : (host equipment host_left equipment_left : List Line) (a a' b b' : Pause) → a ≡ a' → b ≡ b' → HavePaused host equipment host_left equipment_left a b → HavePaused host equipment host_left equipment_left a' b'
paused_as host equipment host_left equipment_left a a' b b' e f h =
    let P : Pause → Type 0 = λ x. HavePaused host equipment host_left equipment_left x b in
    let Q : Pause → Type 0 = λ x. HavePaused host equipment host_left equipment_left a' x in
    subst Q f (subst P e h)

pub stopped_as : (host equipment host_left equipment_left : List Line) (a b : PassEnd) → a ≡ b → HasStopped host equipment host_left equipment_left a → HasStopped host equipment host_left equipment_left b
stopped_as host equipment host_left equipment_left a b e h =
    let P : PassEnd → Type 0 = λ x. HasStopped host equipment host_left equipment_left x in
    subst P e h
