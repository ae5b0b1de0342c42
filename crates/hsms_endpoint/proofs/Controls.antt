-- The responses and Rejects of an endpoint are valid, and settle the answers that it owes.
use Rattle.std.proofs.Common.{◌≡◌, ℕ, ◌+◌, ◌<◌, ◌==◌, Bool, true, false, ◌&&◌, ◌||◌, not, List, [], ◌∷◌, ◌++◌, refl, sym, ap, subst, ◌∙◌, inr, arith, if◌then◌else◌}
use Rattle.std.specs.List.{list_any}
use Rattle.std.specs.Int.{from_bool}
use Rattle.std.proofs.lemmas.Bool.Decides.{nat_tests}
use Rattle.hsms_frame.specs.declared.header.Header.{Header}
use Rattle.hsms_frame.specs.Frame.{Frame}
use Rattle.hsms_frame.specs.declared.kinds.Kind.TheVariants.{SelectReq, SelectRsp, LinktestReq, LinktestRsp, Reject, OtherSType, OtherPType}
use Rattle.hsms_frame.specs.Header.{kind_of}
use Rattle.hsms_machine.specs.declared.entry.Entry.{Entry}
use Rattle.hsms_machine.specs.declared.entry.Event.TheVariants.{Sent}
use Rattle.hsms_machine.specs.declared.phase.Phase.{Phase}
use Rattle.hsms_machine.specs.declared.phase.Phase.TheVariants.{Selected}
use Rattle.hsms_machine.specs.declared.settings.Side.{Side}
use Rattle.hsms_machine.specs.declared.settings.Side.TheVariants.{Passive}
use Rattle.hsms_machine.specs.declared.rule.Rule.TheVariants.{TooLong, PType, SType, ControlText, Session, Direction, NotSelected, WBit, Text, SystemInUse, NoTransaction, SelectStatus}
use Rattle.hsms_machine.specs.declared.open_transactions.Transaction.{Transaction}
use Rattle.hsms_machine.specs.declared.direction.Flow.TheVariants.{Outgoing}
use Rattle.hsms_machine.specs.declared.view.View.{View}
use Rattle.hsms_machine.specs.Settings.{Parameters, IsWithinLimits}
use Rattle.hsms_machine.specs.Message.{is_data, is_control, is_response, establishes, separates, has_right_session, has_right_direction, has_right_wait, is_data_request, is_control_request, is_from_active}
use Rattle.hsms_machine.specs.Transaction.{answers, rejects, answers_kind}
use Rattle.hsms_machine.specs.Rule.{IsAnswer}
use Rattle.hsms_machine.specs.ViewRules.{facts_of, is_selected}
use Rattle.hsms_endpoint.specs.declared.state.State.{State}
use Rattle.hsms_endpoint.specs.InnerInternals.{after_event}
use Rattle.hsms_endpoint.specs.Frame.{select_rsp, linktest_rsp, reject_req}
use Rattle.hsms_endpoint.specs.Action.{logs}
use Rattle.hsms_endpoint.specs.Reaction.{rejects as rejects_by}
use Rattle.hsms_endpoint.specs.InnerActionSteps.{IsValidEvent, Performs, HasLogged}
use Rattle.hsms_endpoint.specs.InnerAwaitingReply.{PeerAwaits, Settles, IsAskedToSelect, IsAskedForLink}
use Rattle.hsms_endpoint.proofs.ValidOutputs.{sent_valid}
use Rattle.hsms_endpoint.proofs.OwnFrames.{IsFine}
use Rattle.hsms_endpoint.proofs.AwaitingReplies.{IsQuiet, left_by, sent_awaits}

pub same_system : (n : ℕ) → (n == n) ≡ true
same_system n = grind (arith, nat_tests)

module _ (view : View) (within : IsWithinLimits view.settings) where
  small_bare : view.settings.max < 10 + 0 → ⊥
  small_bare b = let h = within.least_max in absurd (omega arith)

  reject_fine : (header : Header) (reason : ℕ) → IsFine view (reject_req header reason)
  unfolding is_data is_control is_response establishes has_right_session has_right_direction has_right_wait is_data_request is_control_request
  reject_fine header reason TooLong b = small_bare b
  reject_fine header reason PType b = let d : Reject ≡ OtherPType = b in cc
  reject_fine header reason SType b = let d : Reject ≡ OtherSType = b in cc
  reject_fine header reason ControlText b = let d : 0 < 0 = b.1 in absurd (omega arith)
  reject_fine header reason Session b = b refl
  reject_fine header reason Direction b = b refl
  reject_fine header reason NotSelected b = let d : false ≡ true = b.0 in cc
  reject_fine header reason WBit b = b refl
  reject_fine header reason Text b = let d : false ≡ true = b.0 in cc
  reject_fine header reason SystemInUse b = let d : false ≡ true = b.0 in cc
  reject_fine header reason NoTransaction b = let d : false ≡ true = b.0 in cc
  reject_fine header reason SelectStatus b = let d : false ≡ true = b.0 in cc
  reject_fine header reason rule b = b

  linktest_rsp_fine : (request : Header) → IsAnswer (facts_of view) Outgoing (linktest_rsp request).header → IsFine view (linktest_rsp request)
  unfolding is_data is_control is_response establishes has_right_session has_right_direction has_right_wait is_data_request is_control_request
  linktest_rsp_fine request is TooLong b = small_bare b
  linktest_rsp_fine request is PType b = let d : LinktestRsp ≡ OtherPType = b in cc
  linktest_rsp_fine request is SType b = let d : LinktestRsp ≡ OtherSType = b in cc
  linktest_rsp_fine request is ControlText b = let d : 0 < 0 = b.1 in absurd (omega arith)
  linktest_rsp_fine request is Session b = b refl
  linktest_rsp_fine request is Direction b = b refl
  linktest_rsp_fine request is NotSelected b = let d : false ≡ true = b.0 in cc
  linktest_rsp_fine request is WBit b = b refl
  linktest_rsp_fine request is Text b = let d : false ≡ true = b.0 in cc
  linktest_rsp_fine request is SystemInUse b = let d : false ≡ true = b.0 in cc
  linktest_rsp_fine request is NoTransaction b = b.1 is
  linktest_rsp_fine request is SelectStatus b = let d : false ≡ true = b.0 in cc
  linktest_rsp_fine request is rule b = b

  select_rsp_fine : (request : Header) (status : ℕ) → view.settings.link ≡ Passive → IsAnswer (facts_of view) Outgoing (select_rsp request status).header → ((status == 0) ≡ true → view.phase ≡ Selected → ⊥) → IsFine view (select_rsp request status)
  unfolding is_data is_control is_response establishes has_right_session has_right_direction has_right_wait is_data_request is_control_request
  select_rsp_fine request status passive is never TooLong b = small_bare b
  select_rsp_fine request status passive is never PType b = let d : SelectRsp ≡ OtherPType = b in cc
  select_rsp_fine request status passive is never SType b = let d : SelectRsp ≡ OtherSType = b in cc
  select_rsp_fine request status passive is never ControlText b = let d : 0 < 0 = b.1 in absurd (omega arith)
  select_rsp_fine request status passive is never Session b = b refl
  select_rsp_fine request status passive is never Direction b = b (ap (λ (link : Side). not (is_from_active link Outgoing)) passive)
  select_rsp_fine request status passive is never NotSelected b = let d : false ≡ true = b.0 in cc
  select_rsp_fine request status passive is never WBit b = b refl
  select_rsp_fine request status passive is never Text b = let d : false ≡ true = b.0 in cc
  select_rsp_fine request status passive is never SystemInUse b = let d : false ≡ true = b.0 in cc
  select_rsp_fine request status passive is never NoTransaction b = b.1 is
  select_rsp_fine request status passive is never SelectStatus b = never b.0 b.1
  select_rsp_fine request status passive is never rule b = b

-- ---- answers

answers_select : (request : Header) (status : ℕ) → kind_of request ≡ SelectReq → answers request (select_rsp request status).header ≡ true
unfolding answers
answers_select request status e =
    ap (λ k. (request.system == request.system) && answers_kind k SelectRsp request (select_rsp request status).header) e
    ∙ ap (λ b. b && true) (same_system request.system)

answers_linktest : (request : Header) → kind_of request ≡ LinktestReq → answers request (linktest_rsp request).header ≡ true
unfolding answers
answers_linktest request e =
    ap (λ k. (request.system == request.system) && answers_kind k LinktestRsp request (linktest_rsp request).header) e
    ∙ ap (λ b. b && true) (same_system request.system)

-- The one request is answered.
pub left_answered : (request : Transaction) (response : Header) → answers request.header response ≡ true → left_by response (request ∷ []) ≡ []
left_answered request response e = ap (λ b. (if not (b || rejects request.header response) then request ∷ [] else []) ++ []) e

pub one_open : (test : Transaction → Bool) (request : Transaction) (opened : List Transaction) → opened ≡ request ∷ [] → test request ≡ true → list_any test opened ≡ true
one_open test request opened is e = ap (λ (xs : List Transaction). list_any test xs) is ∙ ap (λ b. b || false) e

pub status_of : (selected : Bool) → from_bool selected ≡ (if selected then 1 else 0)
status_of true = refl
status_of false = refl

never_again : (p : Phase) (selected : Bool) → is_selected p ≡ selected → ((if selected then 1 else 0) == 0) ≡ true → p ≡ Selected → ⊥
never_again p true e zero is = let d : false ≡ true = zero in cc
never_again p false e zero is = let d : true ≡ false = ap is_selected (sym is) ∙ e in cc

reject_quiet : (header : Header) (reason : ℕ) → IsQuiet (reject_req header reason).header
unfolding separates is_data_request is_control_request
reject_quiet header reason = record { stays = refl; no_data = refl; no_control = refl }

select_quiet : (request : Header) (status : ℕ) → IsQuiet (select_rsp request status).header
unfolding separates is_data_request is_control_request
select_quiet request status = record { stays = refl; no_data = refl; no_control = refl }

linktest_quiet : (request : Header) → IsQuiet (linktest_rsp request).header
unfolding separates is_data_request is_control_request
linktest_quiet request = record { stays = refl; no_data = refl; no_control = refl }

module _ (end : State) (awaits : PeerAwaits end [] []) (header : Header) (reason : ℕ) where
  pub reject_valid : (frame : Frame) → frame ≡ reject_req header reason → IsValidEvent end (Sent frame)
  reject_valid frame is =
      subst (λ (f : Frame). IsValidEvent end (Sent f)) (sym is)
      (sent_valid end awaits.up awaits.calm (reject_req header reason) (reject_fine end.tracker (subst IsWithinLimits awaits.settings awaits.within) header reason))

  pub reject_settles : (end' : State) (frame : Frame) (before entries : List Entry) → frame ≡ reject_req header reason → HasLogged end before (Sent frame) end' entries → Settles end before (rejects_by header reason) end' entries
  reject_settles end' frame before entries is sent =
      record {
        does = subst (λ (f : Frame). Performs end before (logs (Sent f) ∷ []) end' entries) is sent.does;
        awaits = subst (λ (s : State). PeerAwaits s [] []) (sym (sent.after ∙ ap (λ f. after_event end (Sent f)) is)) (sent_awaits end (reject_req header reason) [] [] awaits (reject_quiet header reason));
        framer = ap (λ (s : State). s.framer) sent.after;
      }

module _ (end : State) (header : Header) (selected : Bool) (asked : IsAskedToSelect end header selected) where
  pub select_rsp_valid : (frame : Frame) → frame ≡ select_rsp header (if selected then 1 else 0) → IsValidEvent end (Sent frame)
  select_rsp_valid frame is =
      subst (λ (f : Frame). IsValidEvent end (Sent f)) (sym is)
      (sent_valid end asked.awaits.up asked.awaits.calm (select_rsp header (if selected then 1 else 0))
      (select_rsp_fine end.tracker (subst IsWithinLimits asked.awaits.settings asked.awaits.within) header (if selected then 1 else 0)
      (ap (λ (s : Parameters). s.link) (sym asked.awaits.settings) ∙ asked.passive)
      (inr (one_open (λ (opened : Transaction). answers opened.header (select_rsp header (if selected then 1 else 0)).header) (record { time = asked.time; header = header }) end.tracker.taken_control asked.awaits.taken_control (answers_select header (if selected then 1 else 0) asked.kind)))
      (never_again end.tracker.phase selected asked.before)))

  select_rsp_awaits : (end' : State) (frame : Frame) → frame ≡ select_rsp header (if selected then 1 else 0) → end' ≡ after_event end (Sent frame) → PeerAwaits end' [] []
  select_rsp_awaits end' frame is after =
      let sent : PeerAwaits (after_event end (Sent (select_rsp header (if selected then 1 else 0)))) [] (left_by (select_rsp header (if selected then 1 else 0)).header (record { time = asked.time; header = header } ∷ [])) =
      sent_awaits end (select_rsp header (if selected then 1 else 0)) [] (record { time = asked.time; header = header } ∷ []) asked.awaits (select_quiet header (if selected then 1 else 0)) in
      subst (λ (s : State). PeerAwaits s [] []) (sym (after ∙ ap (λ f. after_event end (Sent f)) is))
      (subst (λ xs. PeerAwaits (after_event end (Sent (select_rsp header (if selected then 1 else 0)))) [] xs) (left_answered (record { time = asked.time; header = header }) (select_rsp header (if selected then 1 else 0)).header (answers_select header (if selected then 1 else 0) asked.kind)) sent)

  pub select_settles : (end' : State) (frame : Frame) (before entries : List Entry) → frame ≡ select_rsp header (if selected then 1 else 0) → HasLogged end before (Sent frame) end' entries → Settles end before (logs (Sent (select_rsp header (if selected then 1 else 0))) ∷ []) end' entries
  select_settles end' frame before entries is sent =
      record {
        does = subst (λ (f : Frame). Performs end before (logs (Sent f) ∷ []) end' entries) is sent.does;
        awaits = select_rsp_awaits end' frame is sent.after;
        framer = ap (λ (s : State). s.framer) sent.after;
      }

module _ (end : State) (header : Header) (asked : IsAskedForLink end header) where
  pub linktest_rsp_valid : (frame : Frame) → frame ≡ linktest_rsp header → IsValidEvent end (Sent frame)
  linktest_rsp_valid frame is =
      subst (λ (f : Frame). IsValidEvent end (Sent f)) (sym is)
      (sent_valid end asked.awaits.up asked.awaits.calm (linktest_rsp header)
      (linktest_rsp_fine end.tracker (subst IsWithinLimits asked.awaits.settings asked.awaits.within) header
      (inr (one_open (λ (opened : Transaction). answers opened.header (linktest_rsp header).header) (record { time = asked.time; header = header }) end.tracker.taken_control asked.awaits.taken_control (answers_linktest header asked.kind)))))

  linktest_rsp_awaits : (end' : State) (frame : Frame) → frame ≡ linktest_rsp header → end' ≡ after_event end (Sent frame) → PeerAwaits end' [] []
  linktest_rsp_awaits end' frame is after =
      let sent : PeerAwaits (after_event end (Sent (linktest_rsp header))) [] (left_by (linktest_rsp header).header (record { time = asked.time; header = header } ∷ [])) =
      sent_awaits end (linktest_rsp header) [] (record { time = asked.time; header = header } ∷ []) asked.awaits (linktest_quiet header) in
      subst (λ (s : State). PeerAwaits s [] []) (sym (after ∙ ap (λ f. after_event end (Sent f)) is))
      (subst (λ xs. PeerAwaits (after_event end (Sent (linktest_rsp header))) [] xs) (left_answered (record { time = asked.time; header = header }) (linktest_rsp header).header (answers_linktest header asked.kind)) sent)

  pub linktest_settles : (end' : State) (frame : Frame) (before entries : List Entry) → frame ≡ linktest_rsp header → HasLogged end before (Sent frame) end' entries → Settles end before (logs (Sent (linktest_rsp header)) ∷ []) end' entries
  linktest_settles end' frame before entries is sent =
      record {
        does = subst (λ (f : Frame). Performs end before (logs (Sent f) ∷ []) end' entries) is sent.does;
        awaits = linktest_rsp_awaits end' frame is sent.after;
        framer = ap (λ (s : State). s.framer) sent.after;
      }
