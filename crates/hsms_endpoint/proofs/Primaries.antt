-- The messages that an endpoint sends after a primary are valid, and settle the answers that it owes.
use Rattle.std.proofs.Common.{◌≡◌, ℕ, ◌+◌, ◌≤◌, ◌%◌, ◌==◌, Bool, true, false, ◌&&◌, ◌||◌, not, List, [], ◌∷◌, ◌++◌, length, option_to_list, Some, None, refl, sym, ap, subst, ◌∙◌, inl, arith, if◌then◌else◌}
use Rattle.std.proofs.lemmas.Bool.Decides.{nat_tests}
use Rattle.secs_item.specs.Encoding.{IsText}
use Rattle.hsms_frame.specs.declared.header.Header.{Header}
use Rattle.hsms_frame.specs.Frame.{Frame}
use Rattle.hsms_frame.specs.declared.kinds.Kind.{Kind}
use Rattle.hsms_frame.specs.declared.kinds.Kind.TheVariants.{Primary, Reply as ReplyKind, SelectReq, SelectRsp, LinktestReq, LinktestRsp, Reject, Separate, OtherSType, OtherPType}
use Rattle.hsms_frame.specs.Build.{data_header_of}
use Rattle.hsms_frame.specs.Header.{kind_of, kind_by_stype, stream_of, wait_of}
use Rattle.hsms_machine.specs.declared.entry.Entry.{Entry}
use Rattle.hsms_machine.specs.declared.entry.Event.TheVariants.{Sent}
use Rattle.hsms_machine.specs.declared.open_transactions.Transaction.{Transaction}
use Rattle.hsms_machine.specs.Settings.{Parameters, IsWithinLimits}
use Rattle.hsms_machine.specs.Message.{is_data_request, is_control_request, separates, is_separate_kind, opens_data, opens_control}
use Rattle.hsms_machine.specs.Transaction.{answers, answers_kind, opened_by}
use Rattle.hsms_endpoint.specs.declared.state.State.{State}
use Rattle.hsms_endpoint.specs.InnerInternals.{after_event}
use Rattle.hsms_endpoint.specs.Frame.{abort_of}
use Rattle.hsms_endpoint.specs.declared.answer.Answer.{Answer}
use Rattle.hsms_endpoint.specs.declared.answer.Answer.TheVariants.{Reply, Quiet, NoStream, NoFunction, Illegal}
use Rattle.hsms_endpoint.specs.Action.{Act, logs}
use Rattle.hsms_endpoint.specs.Answer.{Answered, answered}
use Rattle.hsms_endpoint.specs.Reaction.{warns, answers_primary}
use Rattle.hsms_endpoint.specs.InnerActionSteps.{IsValidEvent, Performs, HasLogged}
use Rattle.hsms_endpoint.proofs.Acts.{does_then}
use Rattle.hsms_endpoint.specs.InnerAwaitingReply.{PeerAwaits, IsSame, Settles, Interjects, reply_by, replies_by, IsAsked, IsReplyTo}
use Rattle.hsms_endpoint.proofs.ValidOutputs.{sent_valid}
use Rattle.hsms_endpoint.proofs.DataFrames.{IsSendable, data_fine}
use Rattle.hsms_endpoint.proofs.AwaitingReplies.{IsQuiet, left_by, sent_awaits, does_nothing}
use Rattle.hsms_endpoint.proofs.Controls.{left_answered, one_open, same_system}

-- ---- the function of a primary is odd

by_stype : (a b c d e f : Bool) → (if a then SelectReq else if b then SelectRsp else if c then LinktestReq else if d then LinktestRsp else if e then Reject else if f then Separate else OtherSType) ≡ Primary → ⊥
by_stype true b c d e f is = let x : SelectReq ≡ Primary = is in cc
by_stype false true c d e f is = let x : SelectRsp ≡ Primary = is in cc
by_stype false false true d e f is = let x : LinktestReq ≡ Primary = is in cc
by_stype false false false true e f is = let x : LinktestRsp ≡ Primary = is in cc
by_stype false false false false true f is = let x : Reject ≡ Primary = is in cc
by_stype false false false false false true is = let x : Separate ≡ Primary = is in cc
by_stype false false false false false false is = let x : OtherSType ≡ Primary = is in cc

by_function : (odd : Bool) → (if odd then Primary else ReplyKind) ≡ Primary → odd ≡ true
by_function true is = refl
by_function false is = let x : ReplyKind ≡ Primary = is in absurd cc

by_data : (zero odd : Bool) (other : Kind) → (other ≡ Primary → ⊥) → (if zero then (if odd then Primary else ReplyKind) else other) ≡ Primary → odd ≡ true
by_data true odd other never is = by_function odd is
by_data false odd other never is = absurd (never is)

by_ptype : (zero odd : Bool) (kind : Kind) → (kind ≡ Primary → odd ≡ true) → (if zero then kind else OtherPType) ≡ Primary → odd ≡ true
by_ptype true odd kind h is = h is
by_ptype false odd kind h is = let x : OtherPType ≡ Primary = is in absurd cc

odd_function : (h : Header) → kind_of h ≡ Primary → (h.byte3 % 2 == 1) ≡ true
odd_function h is =
    by_ptype (h.ptype == 0) (h.byte3 % 2 == 1) (kind_by_stype h.stype h.byte3)
    (by_data (h.stype == 0) (h.byte3 % 2 == 1) _ (by_stype (h.stype == 1) (h.stype == 2) (h.stype == 5) (h.stype == 6) (h.stype == 7) (h.stype == 9))) is

even_next : (n : ℕ) → (n % 2 == 1) ≡ true → ((n + 1) % 2 == 1) ≡ false
even_next n odd = grind (arith, nat_tests)

is_number : (m n : ℕ) → (m == n) ≡ true → m ≡ n
is_number m n e = grind (arith, nat_tests)

either_of : (a b : Bool) {P : Type 0} → (a || b) ≡ true → (a ≡ true → P) → (b ≡ true → P) → P
either_of true b e f g = f refl
either_of false b e f g = g e

even_reply : (function n : ℕ) → (n % 2 == 1) ≡ true → ((function == 0) || (function == n + 1)) ≡ true → (function % 2 == 1) ≡ false
even_reply function n odd either =
    either_of (function == 0) (function == n + 1) either
    (λ e. ap (λ m. m % 2 == 1) (is_number function 0 e))
    (λ e. ap (λ m. m % 2 == 1) (is_number function (n + 1) e) ∙ even_next n odd)

no_wait : (n : ℕ) → wait_of (record { session = 0; byte2 = n % 128; byte3 = 0; ptype = 0; stype = 0; system = 0 }) ≡ false
no_wait n = grind (arith, nat_tests)

same_stream : (n : ℕ) → ((n % 128) % 128 == n % 128) ≡ true
same_stream n = grind (arith, nat_tests)

-- ---- the answers that are owed

abbrev pub opened_at : ℕ → Header → Transaction
opened_at time header = record { time = time; header = header }

opened_is : (time : ℕ) (header : Header) (wait : Bool) → kind_of header ≡ Primary → wait_of header ≡ wait → option_to_list (opened_by is_data_request time header) ≡ option_to_list (if wait then Some (opened_at time header) else None)
unfolding is_data_request
opened_is time header wait kind is =
    ap (λ k. option_to_list (if opens_data k (wait_of header) then Some (opened_at time header) else None)) kind
    ∙ ap (λ b. option_to_list (if b then Some (opened_at time header) else None)) is

module _ (end : State) (header : Header) (asked : IsAsked end header) where
  pub not_waiting : wait_of header ≡ false → PeerAwaits end [] []
  not_waiting is = subst (λ xs. PeerAwaits end xs []) (opened_is asked.time header false asked.kind is) asked.awaits

  pub waiting : wait_of header ≡ true → PeerAwaits end (opened_at asked.time header ∷ []) []
  waiting is = subst (λ xs. PeerAwaits end xs []) (opened_is asked.time header true asked.kind is) asked.awaits

  pub still_asked : (end' : State) → ((primaries controls : List Transaction) → PeerAwaits end primaries controls → PeerAwaits end' primaries controls) → IsSame end end' → IsAsked end' header
  still_asked end' onward same =
      record { time = asked.time; awaits = onward _ _ asked.awaits; kind = asked.kind; selected = same.phase ∙ asked.selected }

-- ---- replies

module _ (settings : Parameters) (primary : Header) (odd : (primary.byte3 % 2 == 1) ≡ true) (function : ℕ) (either : ((function == 0) || (function == primary.byte3 + 1)) ≡ true) where
  abbrev reply_header : Header
  reply_header = data_header_of settings.device (stream_of primary) function false primary.system

  reply_kind : kind_of reply_header ≡ ReplyKind
  reply_kind = ap (λ (b : Bool). if b then Primary else ReplyKind) (even_reply function primary.byte3 odd either)

  reply_wait : wait_of reply_header ≡ false
  reply_wait = no_wait primary.byte2

  reply_quiet : IsQuiet reply_header
  unfolding separates is_data_request is_control_request
  reply_quiet = record { stays = ap is_separate_kind reply_kind; no_data = ap (λ k. opens_data k (wait_of reply_header)) reply_kind; no_control = ap opens_control reply_kind }

  reply_answers : kind_of primary ≡ Primary → wait_of primary ≡ true → answers primary reply_header ≡ true
  unfolding answers
  reply_answers kind wait =
      ap (λ b. b && answers_kind (kind_of primary) (kind_of reply_header) primary reply_header) (same_system primary.system)
      ∙ ap (λ k. answers_kind k (kind_of reply_header) primary reply_header) kind
      ∙ ap (λ k. answers_kind Primary k primary reply_header) reply_kind
      ∙ ap (λ b. b && (stream_of reply_header == stream_of primary) && ((function == 0) || (function == primary.byte3 + 1))) wait
      ∙ ap (λ b. b && ((function == 0) || (function == primary.byte3 + 1))) (same_stream primary.byte2)
      ∙ either

module _ (end : State) (header : Header) (asked : IsAsked end header) (wait : wait_of header ≡ true) (frame : Frame) (reply : IsReplyTo end.settings header frame) where
  odd : (header.byte3 % 2 == 1) ≡ true
  odd = odd_function header asked.kind

  answers_it : answers header frame.header ≡ true
  answers_it = subst (λ (h : Header). answers header h ≡ true) (sym reply.header) (reply_answers end.settings header odd reply.function reply.either asked.kind wait)

  sendable : IsSendable end.tracker frame ReplyKind
  sendable =
      record {
        kind_is = ap kind_of reply.header ∙ reply_kind end.settings header odd reply.function reply.either;
        carries = refl;
        size = subst (λ (s : Parameters). 10 + length frame.text ≤ s.max) asked.awaits.settings reply.size;
        session = ap (λ (s : Parameters). frame.header.session == s.device) (sym asked.awaits.settings) ∙ ap (λ (h : Header). h.session == end.settings.device) reply.header ∙ same_system end.settings.device;
        direction = refl;
        wait = ap (λ (h : Header). not (wait_of h)) reply.header ∙ ap not (reply_wait end.settings header odd reply.function reply.either);
        selected = asked.selected;
        text = subst (λ (s : Parameters). IsText s.depth frame.text) asked.awaits.settings reply.text;
        free = λ h. absurd (let d : false ≡ true = h in cc);
        answer = λ h. inl (one_open (λ (opened : Transaction). answers opened.header frame.header) (opened_at asked.time header) end.tracker.taken_data (waiting end header asked wait).taken_data answers_it);
      }

  pub reply_valid : IsValidEvent end (Sent frame)
  reply_valid = sent_valid end asked.awaits.up asked.awaits.calm frame (data_fine end.tracker frame ReplyKind sendable)

  pub reply_awaits : (end' : State) → end' ≡ after_event end (Sent frame) → PeerAwaits end' [] []
  reply_awaits end' after =
      let sent : PeerAwaits (after_event end (Sent frame)) (left_by frame.header (opened_at asked.time header ∷ [])) [] =
      sent_awaits end frame (opened_at asked.time header ∷ []) [] (waiting end header asked wait)
      (subst IsQuiet (sym reply.header) (reply_quiet end.settings header odd reply.function reply.either)) in
      subst (λ (s : State). PeerAwaits s [] []) (sym after)
      (subst (λ xs. PeerAwaits (after_event end (Sent frame)) xs []) (left_answered (opened_at asked.time header) frame.header answers_it) sent)

pub abort_reply : (settings : Parameters) (primary : Header) (frame : Frame) → IsWithinLimits settings → frame ≡ abort_of settings primary → IsReplyTo settings primary frame
abort_reply settings primary frame within is =
    subst (λ (f : Frame). IsReplyTo settings primary f) (sym is)
    (record { function = 0; either = refl; header = refl; size = (let h = within.least_max in omega arith); text = (None, refl) })

next_either : (n : ℕ) → ((n + 1 == 0) || (n + 1 == n + 1)) ≡ true
next_either n = grind (arith, nat_tests)

pub text_reply : (settings : Parameters) (primary : Header) (text : List ℕ) → IsText settings.depth text → 10 + length text ≤ settings.max → IsReplyTo settings primary (record { header = data_header_of settings.device (stream_of primary) (primary.byte3 + 1) false primary.system; text = text })
text_reply settings primary text is size = record { function = primary.byte3 + 1; either = next_either primary.byte3; header = refl; size = size; text = is }

-- ---- messages sent for the handler's answer

pub not_replied : (end : State) (header : Header) (answer : Answered) (before : List Entry) → IsAsked end header → wait_of header ≡ false → Settles end before (replies_by end.settings header answer) end before
not_replied end header answer before asked is =
    record {
      does = subst (λ (b : Bool). Performs end before (if b then logs (Sent (reply_by end.settings header answer)) ∷ [] else []) end before) (sym is) (does_nothing end before);
      awaits = not_waiting end header asked is;
      framer = refl;
    }

pub replied : (end end' : State) (header : Header) (answer : Answered) (frame : Frame) (before entries : List Entry) → IsAsked end header → wait_of header ≡ true
    → frame ≡ reply_by end.settings header answer → IsReplyTo end.settings header frame → HasLogged end before (Sent frame) end' entries
    → Settles end before (replies_by end.settings header answer) end' entries
replied end end' header answer frame before entries asked wait is reply sent =
    record {
      does = subst (λ (b : Bool). Performs end before (if b then logs (Sent (reply_by end.settings header answer)) ∷ [] else []) end' entries) (sym wait)
          (subst (λ (f : Frame). Performs end before (logs (Sent f) ∷ []) end' entries) is sent.does);
      awaits = reply_awaits end header asked wait frame reply end' sent.after;
      framer = ap (λ (s : State). s.framer) sent.after;
    }

pub aborts_by : (settings : Parameters) (header : Header) (answer : Answer) → ((item : _) → answer ≡ Reply item → ⊥) → abort_of settings header ≡ reply_by settings header (answered answer)
aborts_by settings header (Reply item) never = absurd (never item refl)
aborts_by settings header Quiet never = refl
aborts_by settings header NoStream never = refl
aborts_by settings header NoFunction never = refl
aborts_by settings header Illegal never = refl

-- No error is reported before the reply.
pub unwarned : (end end' : State) (header : Header) (answer : Answer) (before entries : List Entry) → (answer ≡ NoStream → ⊥) → (answer ≡ NoFunction → ⊥) → (answer ≡ Illegal → ⊥)
    → Settles end before (replies_by end.settings header (answered answer)) end' entries → Settles end before (answers_primary end.settings header (answered answer)) end' entries
unwarned end end' header (Reply item) before entries n1 n2 n3 sent = sent
unwarned end end' header Quiet before entries n1 n2 n3 sent = sent
unwarned end end' header NoStream before entries n1 n2 n3 sent = absurd (n1 refl)
unwarned end end' header NoFunction before entries n1 n2 n3 sent = absurd (n2 refl)
unwarned end end' header Illegal before entries n1 n2 n3 sent = absurd (n3 refl)

-- An error is reported before the reply.
pub warned_and_replied : (end mid end' : State) (header : Header) (answer : Answered) (before middle entries : List Entry) (acts : List Act)
    → acts ++ replies_by end.settings header answer ≡ answers_primary end.settings header answer
    → Interjects end before acts mid middle → Settles mid middle (replies_by mid.settings header answer) end' entries
    → Settles end before (answers_primary end.settings header answer) end' entries
warned_and_replied end mid end' header answer before middle entries acts is warned sent =
    record {
      does = subst (λ (l : List Act). Performs end before l end' entries) is
          (does_then end mid end' before middle entries acts (replies_by end.settings header answer) warned.does
          (subst (λ (s : Parameters). Performs mid middle (replies_by s header answer) end' entries) warned.same.settings sent.does));
      awaits = sent.awaits;
      framer = sent.framer ∙ warned.same.framer;
    }

-- The error is reported by its function of stream 9.
pub reported_as : (settings : Parameters) (header : Header) (answer error : Answer) (function by : ℕ) → answer ≡ error → function ≡ by
    → warns settings by header ++ replies_by settings header (answered error) ≡ answers_primary settings header (answered error)
    → warns settings function header ++ replies_by settings header (answered answer) ≡ answers_primary settings header (answered answer)
reported_as settings header answer error function by is function_is same =
    subst (λ (n : ℕ). warns settings n header ++ replies_by settings header (answered answer) ≡ answers_primary settings header (answered answer)) (sym function_is)
    (subst (λ (a : Answer). warns settings by header ++ replies_by settings header (answered a) ≡ answers_primary settings header (answered a)) (sym is) same)
