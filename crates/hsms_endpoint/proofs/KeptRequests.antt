-- No received byte is lost.
use Rattle.std.proofs.Common.{◌≡◌, ℕ, Bool, true, false, ◌&&◌, ◌==◌, List, [], ◌∷◌, ◌++◌, map, max, Option, Some, None, refl, sym, ap, ◌∙◌, append-nil, append_assoc, if◌then◌else◌}
use Rattle.secs_text.specs.Content.{Content}
use Rattle.hsms_frame.specs.declared.header.Header.{Header}
use Rattle.hsms_frame.specs.declared.kinds.Kind.{Kind}
use Rattle.hsms_frame.specs.declared.kinds.Kind.TheVariants as kind
use Rattle.hsms_frame.specs.Header.{kind_of, wait_of}
use Rattle.hsms_frame.specs.Frame.{Frame, frame_octets}
use Rattle.hsms_machine.specs.declared.entry.Entry.{Entry}
use Rattle.hsms_machine.specs.declared.entry.Cause.{Cause}
use Rattle.hsms_machine.specs.declared.entry.Cause.TheVariants.{Length}
use Rattle.hsms_machine.specs.declared.entry.Event.TheVariants.{Sent, Down}
use Rattle.hsms_machine.specs.declared.open_transactions.Transaction.{Transaction}
use Rattle.hsms_machine.specs.declared.settings.Side.{Side}
use Rattle.hsms_machine.specs.declared.settings.Side.TheVariants.{Active, Passive}
use Rattle.hsms_machine.specs.declared.rule.Rule.{Rule}
use Rattle.hsms_machine.specs.declared.rule.Rule.TheVariants as rule
use Rattle.hsms_machine.specs.Message.{is_data}
use Rattle.hsms_machine.specs.ViewRules.{is_selected}
use Rattle.hsms_machine.specs.Settings.{Parameters}
use Rattle.hsms_endpoint.specs.Answer.{Answered, replies, quiet, no_stream, no_function, illegal}
use Rattle.hsms_endpoint.specs.EndState.{EndState}
use Rattle.hsms_endpoint.specs.Frame.{warning, abort_of, reply_of, linktest_req, separate_req, message_frame}
use Rattle.hsms_endpoint.specs.Action.{Act, logs, asks, Acts, with_event, with_number}
use Rattle.hsms_endpoint.specs.Reaction.{is_equipment, warns, aborts, rejects, is_control_response, answers_primary, answers_taken, answers_discarded, reaction}
use Rattle.hsms_endpoint.specs.Turn.{opening_of, expiry, expiry_warning, cut_by, after_expiries, expiries, expired_at, overdue_cause, received_as, with_asked, Handles, warns_too_long, Rests, is_down, waits, too_short, too_long, Receives, with_octets, InputEvent, start, tick, bytes, send, linktest, separate, lost, Turn}
use Rattle.hsms_endpoint.specs.Drive.{Responds, is_refused, is_accepted, Drives, octets_of, input_octets, octets_in, octets_received}

-- ---- the bytes that acts receive

abbrev pub receipt : Act → List ℕ
receipt (logs event) = octets_in event
receipt (asks frame) = []

abbrev pub receipts : List Act → List ℕ
receipts [] = []
receipts (act ∷ acts) = receipt act ++ receipts acts

receipts_append : (acts more : List Act) → receipts (acts ++ more) ≡ receipts acts ++ receipts more
receipts_append [] more = refl
receipts_append (act ∷ acts) more = ap (λ xs. receipt act ++ xs) (receipts_append acts more) ∙ sym (append_assoc (receipt act) (receipts acts) (receipts more))

-- Two consecutive lists of acts that receive nothing.
none_append : (acts more : List Act) → receipts acts ≡ [] → receipts more ≡ [] → receipts (acts ++ more) ≡ []
none_append acts more a m = receipts_append acts more ∙ ap (λ xs. xs ++ receipts more) a ∙ m

none_if : (b : Bool) (acts : List Act) → receipts acts ≡ [] → receipts (if b then acts else []) ≡ []
none_if true acts e = e
none_if false acts e = refl

acts_receive : (acts : List Act) (end : EndState) (entries : List Entry) (end' : EndState) → Acts end acts entries end' → (octets_received entries ≡ receipts acts) × (end'.pending ≡ end.pending)
acts_receive [] end entries end' h = (ap octets_received h.0, ap (λ (k : EndState). k.pending) h.1)
acts_receive (logs event ∷ acts) end entries end' h =
    let rest = acts_receive acts (with_event end event) h.0 end' h.2 in
    (ap octets_received h.1 ∙ ap (λ xs. octets_in event ++ xs) rest.0, rest.1)
acts_receive (asks frame ∷ acts) end entries end' h =
    let rest = acts_receive acts (with_number end (frame h.0) h.0) h.1 end' h.4 in
    (ap octets_received h.3 ∙ rest.0, rest.1)

-- ---- an endpoint receives nothing by its own acts

warns_none : (settings : Parameters) (function : ℕ) (header : Header) → receipts (warns settings function header) ≡ []
warns_none settings function header = none_if (is_equipment settings.role) (asks (warning settings function header) ∷ []) refl

aborts_none : (settings : Parameters) (header : Header) → receipts (aborts settings header) ≡ []
aborts_none settings header = none_if (wait_of header) (logs (Sent (abort_of settings header)) ∷ []) refl

warned_and_aborted : (settings : Parameters) (function : ℕ) (header : Header) → receipts (warns settings function header ++ aborts settings header) ≡ []
warned_and_aborted settings function header =
    none_append (warns settings function header) (aborts settings header) (warns_none settings function header) (aborts_none settings header)

primary_none : (settings : Parameters) (header : Header) (answer : Answered) → receipts (answers_primary settings header answer) ≡ []
primary_none settings header (replies item) = none_if (wait_of header) (logs (Sent (reply_of settings header item)) ∷ []) refl
primary_none settings header quiet = aborts_none settings header
primary_none settings header no_stream = warned_and_aborted settings 3 header
primary_none settings header no_function = warned_and_aborted settings 5 header
primary_none settings header illegal = warned_and_aborted settings 7 header

taken_none : (settings : Parameters) (selected : Bool) (of : Kind) (header : Header) (answer : Answered) → receipts (answers_taken settings selected of header answer) ≡ []
taken_none settings selected kind.Primary header answer = primary_none settings header answer
taken_none settings selected kind.Reply header answer = refl
taken_none settings selected kind.SelectReq header answer = refl
taken_none settings selected kind.SelectRsp header answer = refl
taken_none settings selected kind.LinktestReq header answer = refl
taken_none settings selected kind.LinktestRsp header answer = refl
taken_none settings selected kind.Reject header answer = refl
taken_none settings selected kind.Separate header answer = refl
taken_none settings selected kind.OtherSType header answer = refl
taken_none settings selected kind.OtherPType header answer = refl

discarded_none : (settings : Parameters) (selected : Bool) (header : Header) (broken : Rule) → receipts (answers_discarded settings selected header broken) ≡ []
discarded_none settings selected header rule.PType = refl
discarded_none settings selected header rule.SType = refl
discarded_none settings selected header rule.NotSelected = refl
discarded_none settings selected header rule.NoTransaction = none_if (is_control_response (kind_of header)) (rejects header 3) refl
discarded_none settings selected header rule.Session = none_if (is_data header && selected) (warns settings 1 header) (warns_none settings 1 header)
discarded_none settings selected header rule.Text = warns_none settings 7 header
discarded_none settings selected header rule.Backwards = refl
discarded_none settings selected header rule.NotUp = refl
discarded_none settings selected header rule.Ended = refl
discarded_none settings selected header rule.T3Overdue = refl
discarded_none settings selected header rule.LinkOverdue = refl
discarded_none settings selected header rule.NotDue = refl
discarded_none settings selected header rule.TooLong = refl
discarded_none settings selected header rule.ControlText = refl
discarded_none settings selected header rule.Direction = refl
discarded_none settings selected header rule.WBit = refl
discarded_none settings selected header rule.SystemInUse = refl
discarded_none settings selected header rule.SelectStatus = refl
discarded_none settings selected header rule.NoCause = refl

pub reaction_none : (settings : Parameters) (selected : Bool) (header : Header) (broken : Option Rule) (answer : Answered) → receipts (reaction settings selected header broken answer) ≡ []
reaction_none settings selected header None answer = taken_none settings selected (kind_of header) header answer
reaction_none settings selected header (Some broken) answer = discarded_none settings selected header broken

pub opening_none : (link : Side) → receipts (opening_of link) ≡ []
opening_none Active = refl
opening_none Passive = refl

expired_none : (xs : List Transaction) → receipts (map expiry xs) ≡ []
expired_none [] = refl
expired_none (x ∷ xs) = expired_none xs

warnings_none : (settings : Parameters) (xs : List Transaction) → receipts (map (expiry_warning settings) xs) ≡ []
warnings_none settings [] = refl
warnings_none settings (x ∷ xs) = warnings_none settings xs

after_none : (settings : Parameters) (xs : List Transaction) (cause : Option Cause) → receipts (after_expiries settings xs cause) ≡ []
after_none settings xs (Some cause) = refl
after_none settings xs None = none_if (is_equipment settings.role) (map (expiry_warning settings) xs) (warnings_none settings xs)

pub expiries_none : (end : EndState) → receipts (expiries end) ≡ []
expiries_none end =
    none_append (map expiry (expired_at end.view end.moment)) (after_expiries end.settings (expired_at end.view end.moment) (overdue_cause end))
    (expired_none (expired_at end.view end.moment)) (after_none end.settings (expired_at end.view end.moment) (overdue_cause end))

pub too_long_none : (end : EndState) (header : Header) → receipts (warns_too_long end header ++ cut_by Length) ≡ []
too_long_none end header =
    none_append (warns_too_long end header) (cut_by Length)
    (none_if (is_selected end.view.phase && (header.stype == 0) && (header.ptype == 0) && (header.session == end.settings.device)) (warns end.settings 11 header) (warns_none end.settings 11 header)) refl

-- ---- the part of the bytes that is received

-- Acts that receive nothing do not change the pending bytes.
kept_by : (acts : List Act) (end : EndState) (entries : List Entry) (end' : EndState) → receipts acts ≡ [] → Acts end acts entries end' → end.pending ≡ octets_received entries ++ end'.pending
kept_by acts end entries end' none h =
    let received = acts_receive acts end entries end' h in
    sym received.1 ∙ ap (λ xs. xs ++ end'.pending) (sym (received.0 ∙ none))

rests_keep : (end : EndState) (entries : List Entry) (end' : EndState) → Rests end entries end' → end.pending ≡ octets_received entries ++ end'.pending
rests_keep end entries end' (is_down down none same) = ap (λ (k : EndState). k.pending) (sym same) ∙ ap (λ es. octets_received es ++ end'.pending) (sym none)
rests_keep end entries end' (waits up front none same) = ap (λ (k : EndState). k.pending) (sym same) ∙ ap (λ es. octets_received es ++ end'.pending) (sym none)
rests_keep end entries end' (too_short n up front acts) = kept_by (cut_by Length) end entries end' refl acts
rests_keep end entries end' (too_long n header up front acts) = kept_by (warns_too_long end header ++ cut_by Length) end entries end' (too_long_none end header) acts

received_frame : (frame : Frame) (broken : Option Rule) → octets_in (received_as frame broken) ≡ frame_octets frame
received_frame frame None = refl
received_frame frame (Some broken) = refl

-- Handling a frame receives it, and does not change the pending bytes.
handled_keeps : (desk : ℕ → Content → Answered) (end : EndState) (frame : Frame) (entries : List Entry) (end' : EndState) → Handles desk end frame entries end' → (octets_received entries ≡ frame_octets frame) × (end'.pending ≡ end.pending)
handled_keeps desk end frame entries end' h =
    let broken : Option Rule = h.0 in
    let received = acts_receive (logs (received_as frame broken) ∷ reaction end.settings (is_selected end.view.phase) frame.header broken h.1) (with_asked end frame broken) entries end' h.4 in (
      received.0
          ∙ ap (λ xs. octets_in (received_as frame broken) ++ xs) (reaction_none end.settings (is_selected end.view.phase) frame.header broken h.1)
          ∙ append-nil (octets_in (received_as frame broken)) ∙ received_frame frame broken,
      received.1,
    )

received_append : (entries more : List Entry) → octets_received (entries ++ more) ≡ octets_received entries ++ octets_received more
received_append [] more = refl
received_append (entry ∷ entries) more =
    ap (λ xs. octets_in entry.event ++ xs) (received_append entries more)
    ∙ sym (append_assoc (octets_in entry.event) (octets_received entries) (octets_received more))

receives_keep : (desk : ℕ → Content → Answered) (end : EndState) (frames : List Frame) (entries : List Entry) (end' : EndState) → Receives desk end frames entries end' → end.pending ≡ octets_received entries ++ end'.pending
receives_keep desk end [] entries end' h = rests_keep end entries end' h
receives_keep desk end (frame ∷ frames) entries end' h =
    let off : EndState = h.0 in
    let next : EndState = h.1 in
    let first : List Entry = h.2 in
    let later : List Entry = h.3 in
    let handled = handled_keeps desk off frame first next h.5 in
    let left : h.4.rest ≡ octets_received later ++ end'.pending =
    ap (λ (k : EndState). k.pending) (sym h.4.off) ∙ sym handled.1 ∙ receives_keep desk next frames later end' h.6 in
    h.4.front.0
    ∙ ap (λ xs. frame_octets frame ++ xs) left
    ∙ ap (λ xs. xs ++ (octets_received later ++ end'.pending)) (sym handled.0)
    ∙ sym (append_assoc (octets_received first) (octets_received later) end'.pending)
    ∙ ap (λ xs. xs ++ end'.pending) (sym (received_append first later))
    ∙ ap (λ es. octets_received es ++ end'.pending) (sym h.7)

-- ---- a turn

-- A turn without bytes.
quiet_turn : (acts : List Act) (end from : EndState) (entries : List Entry) (end' : EndState) → receipts acts ≡ [] → Acts from acts entries end' → from.pending ≡ end.pending → end.pending ++ [] ≡ octets_received entries ++ end'.pending
quiet_turn acts end from entries end' none h same = append-nil end.pending ∙ sym same ∙ kept_by acts from entries end' none h

pub turn_keeps_octets : (desk : ℕ → Content → Answered) (end : EndState) (input : InputEvent) (entries : List Entry) (end' : EndState) → Turn desk end input entries end' → end.pending ++ octets_of input ≡ octets_received entries ++ end'.pending
turn_keeps_octets desk end (start now) entries end' h =
    quiet_turn (opening_of end.settings.link) end (record end { moment = max end.moment now }) entries end' (opening_none end.settings.link) h refl
turn_keeps_octets desk end (tick now) entries end' h =
    let later : EndState = record end { moment = max end.moment now } in
    quiet_turn (expiries later) end later entries end' (expiries_none later) h refl
turn_keeps_octets desk end (bytes octets) entries end' h = receives_keep desk (with_octets end octets) h.0 entries end' h.1
turn_keeps_octets desk end (send message) entries end' h = quiet_turn (asks (message_frame end.settings message h.0) ∷ []) end end entries end' refl h.2 refl
turn_keeps_octets desk end linktest entries end' h = quiet_turn (asks linktest_req ∷ []) end end entries end' refl h refl
turn_keeps_octets desk end separate entries end' h = quiet_turn (asks separate_req ∷ logs Down ∷ []) end end entries end' refl h refl
turn_keeps_octets desk end lost entries end' h = quiet_turn (logs Down ∷ []) end end entries end' refl h refl

-- ---- a list of inputs

emitted_append : (inputs more : List InputEvent) → input_octets (inputs ++ more) ≡ input_octets inputs ++ input_octets more
emitted_append [] more = refl
emitted_append (input ∷ inputs) more =
    ap (λ xs. octets_of input ++ xs) (emitted_append inputs more)
    ∙ sym (append_assoc (octets_of input) (input_octets inputs) (input_octets more))

response_keeps : (desk : ℕ → Content → Answered) (end : EndState) (input : InputEvent) (accepted : List InputEvent) (entries : List Entry) (end' : EndState) → Responds desk end input accepted entries end' → end.pending ++ input_octets accepted ≡ octets_received entries ++ end'.pending
response_keeps desk end input accepted entries end' (is_refused fault encounters none empty same) =
    ap (λ xs. end.pending ++ input_octets xs) none ∙ append-nil end.pending ∙ ap (λ (k : EndState). k.pending) (sym same)
    ∙ ap (λ es. octets_received es ++ end'.pending) (sym empty)
response_keeps desk end input accepted entries end' (is_accepted encounters turn one) =
    ap (λ xs. end.pending ++ input_octets xs) one ∙ ap (λ xs. end.pending ++ xs) (append-nil (octets_of input)) ∙ turn_keeps_octets desk end input entries end' turn

pub drive_keeps_octets : (desk : ℕ → Content → Answered) (end : EndState) (inputs accepted : List InputEvent) (entries : List Entry) (end' : EndState) → Drives desk end inputs accepted entries end' → end.pending ++ input_octets accepted ≡ octets_received entries ++ end'.pending
drive_keeps_octets desk end [] accepted entries end' h =
    ap (λ xs. end.pending ++ input_octets xs) h.0 ∙ append-nil end.pending ∙ ap (λ (k : EndState). k.pending) (sym h.2)
    ∙ ap (λ es. octets_received es ++ end'.pending) (sym h.1)
drive_keeps_octets desk end (input ∷ inputs) accepted entries end' h =
    let next : EndState = h.0 in
    let one : List InputEvent = h.1 in
    let more : List InputEvent = h.2 in
    let first : List Entry = h.3 in
    let later : List Entry = h.4 in
    ap (λ xs. end.pending ++ input_octets xs) h.7
    ∙ ap (λ xs. end.pending ++ xs) (emitted_append one more)
    ∙ sym (append_assoc end.pending (input_octets one) (input_octets more))
    ∙ ap (λ xs. xs ++ input_octets more) (response_keeps desk end input one first next h.5)
    ∙ append_assoc (octets_received first) next.pending (input_octets more)
    ∙ ap (λ xs. octets_received first ++ xs) (drive_keeps_octets desk next inputs more later end' h.6)
    ∙ sym (append_assoc (octets_received first) (octets_received later) end'.pending)
    ∙ ap (λ xs. xs ++ end'.pending) (sym (received_append first later))
    ∙ ap (λ es. octets_received es ++ end'.pending) (sym h.8)
