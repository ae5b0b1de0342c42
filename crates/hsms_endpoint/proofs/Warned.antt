-- Equipment that reports an error: its message is valid, and does not change the answers that the endpoint owes.
use Rattle.std.proofs.Common.{◌≡◌, ℕ, ◌+◌, ◌<◌, ◌%◌, ◌^◌, ◌==◌, suc, Bool, true, false, ◌&&◌, ◌||◌, not, List, [], ◌∷◌, ◌++◌, filter, refl, sym, ap, subst, ◌∙◌, if◌then◌else◌}
use Rattle.std.specs.List.{AllByRecursion}
use Rattle.std.specs.Prelude.{slice_index}
use Rattle.hsms_frame.specs.declared.header.Header.{Header}
use Rattle.hsms_frame.specs.Frame.{Frame}
use Rattle.hsms_frame.specs.declared.kinds.Kind.{Kind}
use Rattle.hsms_frame.specs.declared.kinds.Kind.TheVariants.{Primary, Reply, SelectReq, SelectRsp, LinktestReq, LinktestRsp, Reject, Separate, OtherSType, OtherPType}
use Rattle.hsms_frame.specs.Header.{header_octets, kind_of}
use Rattle.hsms_machine.specs.declared.entry.Event.TheVariants.{Sent}
use Rattle.hsms_machine.specs.declared.phase.Phase.TheVariants.{Selected}
use Rattle.hsms_machine.specs.declared.settings.Role.TheVariants.{Equipment}
use Rattle.hsms_machine.specs.declared.open_transactions.Transaction.{Transaction}
use Rattle.hsms_machine.specs.Settings.{Parameters, IsWithinLimits}
use Rattle.hsms_machine.specs.Message.{is_data_request, is_control_request, establishes, separates, is_select_response, is_separate_kind, is_reject_kind, opens_data, opens_control}
use Rattle.hsms_machine.specs.Transaction.{answers, rejects, answers_kind, concludes}
use Rattle.hsms_endpoint.specs.declared.state.State.{State}
use Rattle.hsms_endpoint.specs.InnerInternals.{after_event, after_number}
use Rattle.hsms_endpoint.specs.Frame.{warning}
use Rattle.hsms_endpoint.specs.InnerActionSteps.{IsValidEvent}
use Rattle.hsms_endpoint.specs.InnerAwaitingReply.{PeerAwaits, IsSame}
use Rattle.hsms_endpoint.proofs.ValidOutputs.{sent_valid}
use Rattle.hsms_endpoint.proofs.Warnings.{warning_fine}
use Rattle.hsms_endpoint.proofs.Steadiness.{kept_phase}
use Rattle.hsms_endpoint.proofs.AwaitingReplies.{IsQuiet, left_by, sent_awaits, awaits_numbered}

pub all_octets : (xs : List ℕ) → ((i : ℕ) → slice_index xs i < 256) → AllByRecursion (λ n. n < 256) xs
all_octets [] h = tt
all_octets (x ∷ xs) h = (h 0, all_octets xs (λ i. h (suc i)))

pub and_no : (a : Bool) → (a && false) ≡ false
and_no true = refl
and_no false = refl

no_answer : (kind : Kind) (request response : Header) → answers_kind kind Primary request response ≡ false
no_answer Primary request response = refl
no_answer Reply request response = refl
no_answer SelectReq request response = refl
no_answer SelectRsp request response = refl
no_answer LinktestReq request response = refl
no_answer LinktestRsp request response = refl
no_answer Reject request response = refl
no_answer Separate request response = refl
no_answer OtherSType request response = refl
no_answer OtherPType request response = refl

-- A primary ends no transaction.
pub no_end : (request other : Header) → kind_of other ≡ Primary → concludes request other ≡ false
unfolding answers rejects
no_end request other e =
    ap (λ k. ((other.system == request.system) && answers_kind (kind_of request) k request other) || ((other.system == request.system) && is_reject_kind k)) e
    ∙ ap (λ b. ((other.system == request.system) && b) || ((other.system == request.system) && false)) (no_answer (kind_of request) request other)
    ∙ ap (λ b. b || b) (and_no (other.system == request.system))

pub kept_all : (stays : Transaction → Bool) (xs : List Transaction) → ((x : Transaction) → stays x ≡ true) → filter stays xs ++ [] ≡ xs
kept_all stays [] h = refl
kept_all stays (x ∷ xs) h =
    ap (λ b. (if b then x ∷ filter stays xs else filter stays xs) ++ []) (h x) ∙ ap (λ (ys : List Transaction). x ∷ ys) (kept_all stays xs h)

pub left_alone : (header : Header) (xs : List Transaction) → kind_of header ≡ Primary → left_by header xs ≡ xs
left_alone header xs e = kept_all (λ (t : Transaction). not (concludes t.header header)) xs (λ t. ap not (no_end t.header header e))

module _ (settings : Parameters) (function : ℕ) (header : Header) (number : ℕ) (odd : (function % 2 == 1) ≡ true) where
  warning_kind : kind_of (warning settings function header number).header ≡ Primary
  warning_kind = ap (λ (b : Bool). if b then Primary else Reply) odd

  pub warning_quiet : IsQuiet (warning settings function header number).header
  unfolding separates is_data_request is_control_request
  warning_quiet = record { stays = ap is_separate_kind warning_kind; no_data = ap (λ k. opens_data k false) warning_kind; no_control = ap opens_control warning_kind }

  warning_selects : establishes (warning settings function header number).header ≡ false
  unfolding establishes
  warning_selects = ap (λ k. is_select_response k && (function == 0)) warning_kind

module _ (end : State) (primaries controls : List Transaction) (awaits : PeerAwaits end primaries controls) (function : ℕ) (header : Header) (number : ℕ) (odd : (function % 2 == 1) ≡ true) where
  pub warn_valid : (frame : Frame) → frame ≡ warning end.settings function header number → end.tracker.phase ≡ Selected → end.settings.role ≡ Equipment → AllByRecursion (λ n. n < 256) (header_octets header) → IsValidEvent end (Sent frame)
  warn_valid frame is selected equipment octets =
      subst (λ (f : Frame). IsValidEvent end (Sent f)) (ap (λ (s : Parameters). warning s function header number) (sym awaits.settings) ∙ sym is)
      (sent_valid end awaits.up awaits.calm (warning end.tracker.settings function header number)
      (warning_fine end.tracker function header number odd (subst IsWithinLimits awaits.settings awaits.within) (ap (λ (s : Parameters). s.role) (sym awaits.settings) ∙ equipment) selected octets))

  pub warn_awaits : (end' : State) (frame : Frame) → frame ≡ warning end.settings function header number → end' ≡ after_number end frame number → PeerAwaits end' primaries controls
  warn_awaits end' frame is after =
      let sent : PeerAwaits (after_event end (Sent (warning end.settings function header number))) (left_by (warning end.settings function header number).header primaries) (left_by (warning end.settings function header number).header controls) =
      sent_awaits end (warning end.settings function header number) primaries controls awaits (warning_quiet end.settings function header number odd) in
      let left : PeerAwaits (after_event end (Sent (warning end.settings function header number))) primaries controls =
      subst (λ xs. PeerAwaits (after_event end (Sent (warning end.settings function header number))) primaries xs) (left_alone (warning end.settings function header number).header controls (warning_kind end.settings function header number odd))
      (subst (λ xs. PeerAwaits (after_event end (Sent (warning end.settings function header number))) xs (left_by (warning end.settings function header number).header controls)) (left_alone (warning end.settings function header number).header primaries (warning_kind end.settings function header number odd)) sent) in
      subst (λ (s : State). PeerAwaits s primaries controls) (sym (after ∙ ap (λ f. after_number end f number) is))
      (awaits_numbered (after_event end (Sent (warning end.settings function header number))) ((number + 1) % 2 ^ 32) primaries controls left)

  pub warn_same : (end' : State) (frame : Frame) → frame ≡ warning end.settings function header number → end' ≡ after_number end frame number → IsSame end end'
  warn_same end' frame is after =
      subst (λ (s : State). IsSame end s) (sym (after ∙ ap (λ f. after_number end f number) is))
      (record {
        settings = refl;
        framer = refl;
        phase = kept_phase end.tracker.phase (separates (warning end.settings function header number).header) (establishes (warning end.settings function header number).header) awaits.up (warning_quiet end.settings function header number odd).stays (warning_selects end.settings function header number odd);
      })
