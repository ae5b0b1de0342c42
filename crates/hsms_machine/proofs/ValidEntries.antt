-- The laws of runs.
use Rattle.std.proofs.Common.{◌≡◌, ℕ, ◌+◌, ◌-◌, ◌<◌, ◌≤◌, ◌==◌, Bool, true, false, cond, List, length, take, Some, None, IsTrue, ◌⊎◌, inl, inr, refl, sym, subst, ◌∙◌, arith, nat_lt}
use Rattle.std.specs.List.{list_any}
use Rattle.std.proofs.lemmas.Bool.{cases_Bool, cases_order, cases_lt, or_cases, and_parts, or_left, eqb-true, eq-eqb, lt-ltb}
use Rattle.std.proofs.lemmas.List.{length-take-le, get_or-take}
use Rattle.hsms_frame.specs.Header.{kind_of}
use Rattle.hsms_frame.specs.declared.header.Header.{Header}
use Rattle.hsms_frame.specs.Frame.{Frame}
use Rattle.hsms_frame.specs.declared.kinds.Kind.{Kind}
use Rattle.hsms_frame.specs.declared.kinds.Kind.TheVariants.{SelectReq, LinktestReq}
use Rattle.hsms_machine.specs.declared.entry.Entry.{Entry}
use Rattle.hsms_machine.specs.declared.entry.Event.{Event}
use Rattle.hsms_machine.specs.declared.entry.Event.TheVariants.{Up, Sent, Taken}
use Rattle.hsms_machine.specs.declared.rule.Rule.{Rule}
use Rattle.hsms_machine.specs.declared.rule.Rule.TheVariants.{Backwards, NotUp, Ended, T3Overdue, LinkOverdue, NotDue, TooLong, PType, SType, ControlText, Session, Direction, NotSelected, WBit, Text, SystemInUse, NoTransaction, SelectStatus, NoCause}
use Rattle.hsms_machine.specs.declared.open_transactions.Transaction.{Transaction}
use Rattle.hsms_machine.specs.Settings.{Parameters}
use Rattle.hsms_machine.specs.Entry.{entry_at, SomeBefore, connection_of, is_up, is_down, is_t3}
use Rattle.hsms_machine.specs.Message.{is_data_kind, opens_control, is_data_request, is_control_request, is_request, is_data}
use Rattle.hsms_machine.specs.Transaction.{Pool, SentData, SentControl, TakenData, TakenControl, answers, answers_kind, rejects, opens, closes, opened_as_at, IsOpen, passes, SomeOpen}
use Rattle.hsms_machine.specs.Session.{FollowsDown, facts_before, IsSelected, IsOver, selects}
use Rattle.hsms_machine.specs.Rule.{IsNotUp, needs_session, Breaks, all_rules}
use Rattle.hsms_machine.specs.Run.{Broken, IsRun}
use Rattle.hsms_machine.specs.View.{open_of}
use Rattle.hsms_machine.specs.Laws.{answers_event, is_response_event, is_data_event, is_sent_data, shares_system, EachResponseAnswersOne, DataFlowsWhileSelected, ExpiryIsLoggedFirst, RepliesComeWithinT3, SystemBytesAreUnique, OneConnectionInVersionOne, EachConnectionFollowsDown, NothingIsOpenOverUp, ValidEntryExtendsRun, NoEntryHasTwoAnswers, EmptyLogIsRun}
use Rattle.hsms_machine.proofs.First.{first_same}
use Rattle.hsms_machine.proofs.SameFacts.{Never}
use Rattle.hsms_machine.proofs.ViewsOfRuns.{is_valid, any_from_some, some_from_any, open_from_pool, pool_from_open}
use Rattle.hsms_machine.proofs.Connection.{SameBefore, on-before, on-no_up, on-between, on-last}
use Rattle.hsms_machine.proofs.Runs.{some-same, some_open-same, same-sym, run-push, empty_run}

-- An entry of a run breaks no rule.
obeys : (settings : Parameters) (log : List Entry) → IsRun settings log → (i : ℕ) → i < length log → (r : Rule) → Breaks (facts_before log i) settings (entry_at log i) r → ⊥
obeys settings log run i lt r =
    let n : Never (Breaks (facts_before log i) settings (entry_at log i)) all_rules = is_valid settings log run i lt in
    elim r as (λ q. Breaks (facts_before log i) settings (entry_at log i) q → ⊥) [
      | Backwards ↦ n.0
      | NotUp ↦ n.1.0
      | Ended ↦ n.1.1.0
      | T3Overdue ↦ n.1.1.1.0
      | LinkOverdue ↦ n.1.1.1.1.0
      | NotDue ↦ n.1.1.1.1.1.0
      | TooLong ↦ n.1.1.1.1.1.1.0
      | PType ↦ n.1.1.1.1.1.1.1.0
      | SType ↦ n.1.1.1.1.1.1.1.1.0
      | ControlText ↦ n.1.1.1.1.1.1.1.1.1.0
      | Session ↦ n.1.1.1.1.1.1.1.1.1.1.0
      | Direction ↦ n.1.1.1.1.1.1.1.1.1.1.1.0
      | NotSelected ↦ n.1.1.1.1.1.1.1.1.1.1.1.1.0
      | WBit ↦ n.1.1.1.1.1.1.1.1.1.1.1.1.1.0
      | Text ↦ n.1.1.1.1.1.1.1.1.1.1.1.1.1.1.0
      | SystemInUse ↦ n.1.1.1.1.1.1.1.1.1.1.1.1.1.1.1.0
      | NoTransaction ↦ n.1.1.1.1.1.1.1.1.1.1.1.1.1.1.1.1.0
      | SelectStatus ↦ n.1.1.1.1.1.1.1.1.1.1.1.1.1.1.1.1.1.0
      | NoCause ↦ n.1.1.1.1.1.1.1.1.1.1.1.1.1.1.1.1.1.1.0
    ]

-- What holds before a position is decided by the entries before it.

module _ (log : List Entry) (i : ℕ) (le : i ≤ length log) where
  prefix_len : length (take i log) ≡ i
  prefix_len = length-take-le i log le

  prefix_same : SameBefore (take i log) log i
  prefix_same k lt = get_or-take i log k (record { time = 0; event = Up }) lt

  pub before_cases : (test : Entry → Bool) → SomeBefore log i test ⊎ (SomeBefore log i test → ⊥)
  before_cases test = elim (cases_Bool (list_any test (connection_of (take i log)))) [
    | inl t ↦
        let s : SomeBefore (take i log) i test = subst (λ n. SomeBefore (take i log) n test) prefix_len (some_from_any test (take i log) t) in
        inl (some-same (take i log) log i prefix_same test s)
    | inr f ↦ inr (λ s.
        let back = some-same log (take i log) i (same-sym (take i log) log i prefix_same) test s in
        let t : list_any test (connection_of (take i log)) ≡ true = any_from_some test (take i log) (subst (λ n. SomeBefore (take i log) n test) (sym prefix_len) back) in
        (let d : true ≡ false = sym t ∙ f in cc))
  ]

  pub open_cases : (pool : Pool) (test : Transaction → Bool) → SomeOpen log i pool test ⊎ (SomeOpen log i pool test → ⊥)
  open_cases pool test = elim (cases_Bool (list_any test (open_of pool (take i log)))) [
    | inl t ↦
        let s : SomeOpen (take i log) i pool test = subst (λ n. SomeOpen (take i log) n pool test) prefix_len (open_from_pool pool (take i log) test t) in
        inl (some_open-same (take i log) log i prefix_same pool test s)
    | inr f ↦ inr (λ s.
        let back = some_open-same log (take i log) i (same-sym (take i log) log i prefix_same) pool test s in
        let t : list_any test (open_of pool (take i log)) ≡ true = pool_from_open pool (take i log) test (subst (λ n. SomeOpen (take i log) n pool test) (sym prefix_len) back) in
        (let d : true ≡ false = sym t ∙ f in cc))
  ]

pub follows_cases : (log : List Entry) (i : ℕ) → FollowsDown log i ⊎ (FollowsDown log i → ⊥)
follows_cases log i = elim (cases_lt 0 i) [
  | inl pos ↦ elim (cases_Bool (is_down (entry_at log (i - 1)).event)) [
    | inl down ↦ inl (i - 1, omega arith, down)
    | inr other ↦ inr (λ s.
        let e : s.0 ≡ i - 1 = (let next : s.0 + 1 ≡ i = s.1 in omega arith) in
        let down : is_down (entry_at log (i - 1)).event ≡ true = subst (λ k. is_down (entry_at log k).event ≡ true) e s.2 in
        let d : true ≡ false = sym down ∙ other in cc)
  ]
  | inr le ↦ inr (λ s. let next : s.0 + 1 ≡ i = s.1 in omega arith)
]

-- Data flows while the session is selected.

data_by : (settings : Parameters) (log : List Entry) (i : ℕ) (time : ℕ) (event : Event) → IsTrue (is_data_event event) → (Breaks (facts_before log i) settings (record { time = time; event = event }) NotSelected → ⊥) → (Breaks (facts_before log i) settings (record { time = time; event = event }) Ended → ⊥) → ((IsSelected log i → ⊥) → ⊥) × (IsOver log i → ⊥)
data_by settings log i time (Sent frame) is_data not_selected ended = ((λ n. not_selected (is_data, n)), (λ o. ended (refl, o)))
data_by settings log i time (Taken frame) is_data not_selected ended = ((λ n. not_selected (is_data, n)), (λ o. ended (refl, o)))
data_by settings log i time event is_data not_selected ended = absurd (let d : false ≡ true = is_data in cc)

pub data_flows : DataFlowsWhileSelected
data_flows settings log run i lt is_data =
    let named_rule = data_by settings log i (entry_at log i).time (entry_at log i).event is_data (obeys settings log run i lt NotSelected) (obeys settings log run i lt Ended) in
    elim (before_cases log i (omega arith) (λ entry. selects entry.event)) [
      | inl s ↦ (s, named_rule.1)
      | inr n ↦ absurd (named_rule.0 n)
    ]

-- Expiries.

passes_one : (b : Bool) (t : Transaction) (test : Transaction → Bool) → b ≡ true → test t ≡ true → passes test (cond b (Some t) None) ≡ true
passes_one true t test e h = h
passes_one false t test e h = absurd (let d : false ≡ true = e in cc)

one_passes : (b : Bool) (t : Transaction) (test : Transaction → Bool) → passes test (cond b (Some t) None) ≡ true → (b ≡ true) × (test t ≡ true)
one_passes true t test h = (refl, h)
one_passes false t test h = absurd (let d : false ≡ true = h in cc)

data_kind_opens : (kind : Kind) → is_data_kind kind ≡ true → opens_control kind ≡ false
data_kind_opens SelectReq e = absurd (let d : false ≡ true = e in cc)
data_kind_opens LinktestReq e = absurd (let d : false ≡ true = e in cc)
data_kind_opens kind e = refl

-- Data that opens a transaction opens a data transaction.
data_request : (header : Header) → is_data header ≡ true → is_request header ≡ true → is_data_request header ≡ true
unfolding is_data is_control_request
data_request header data_is opens_is = elim (or_cases (is_data_request header) (is_control_request header) opens_is) [
  | inl d ↦ d
  | inr c ↦ absurd (let d : true ≡ false = sym c ∙ data_kind_opens (kind_of header) data_is in cc)
]

awaited_in : (time : ℕ) (event : Event) (test : ℕ → Bool) → IsTrue (is_sent_data event) → opens event ≡ true → test time ≡ true → passes (λ opened. test opened.time) (opened_as_at SentData time event) ≡ true
awaited_in time (Sent frame) test a o t = passes_one (is_data_request frame.header) (record { time = time; header = frame.header }) (λ opened. test opened.time) (data_request frame.header a o) t
awaited_in time event test a o t = absurd (let d : false ≡ true = a in cc)

pub expiry_first : ExpiryIsLoggedFirst
expiry_first settings log run j i before lt awaited not_t3 not_over not_down late open_before =
    let over_t3 : ℕ → Bool = λ time. nat_lt settings.t3 ((entry_at log i).time - time) in
    obeys settings log run i lt T3Overdue
    (not_t3, ((not_over, not_down), (j, open_before, awaited_in (entry_at log j).time (entry_at log j).event over_t3 awaited open_before.opened (lt-ltb settings.t3 ((entry_at log i).time - (entry_at log j).time) late))))

answer_kind : (opening event : Event) → IsTrue (answers_event opening event) → (needs_session event ≡ true) × (IsTrue (is_t3 event) → ⊥)
answer_kind (Sent request) (Taken response) a = (refl, (λ t. let d : false ≡ true = t in cc))
answer_kind (Taken request) (Sent response) a = (refl, (λ t. let d : false ≡ true = t in cc))
answer_kind opening event a = absurd (let d : false ≡ true = a in cc)

-- An event that needs a session does not follow a `down`.
no_down : (log : List Entry) (i : ℕ) (settings : Parameters) (event : Event) → needs_session event ≡ true → (IsNotUp (facts_before log i) settings event → ⊥) → FollowsDown log i → ⊥
no_down log i settings Up needs obeyed s = let d : false ≡ true = needs in cc
no_down log i settings event needs obeyed s = obeyed (inr (s.0, on-last log s.0 i s.1, s.2))

pub within_t3 : RepliesComeWithinT3
within_t3 settings log run j i lt open_before awaited answered =
    let kind = answer_kind (entry_at log j).event (entry_at log i).event answered in
    let not_over : IsOver log i → ⊥ = λ o. obeys settings log run i lt Ended (kind.0, o) in
    let not_down : FollowsDown log i → ⊥ = no_down log i settings (entry_at log i).event kind.0 (obeys settings log run i lt NotUp) in
    elim (cases_lt settings.t3 ((entry_at log i).time - (entry_at log j).time)) [
      | inl late ↦ absurd (expiry_first settings log run j i (on-before log j i open_before.earlier) lt awaited kind.1 not_over not_down late open_before)
      | inr le ↦ le
    ]

-- System bytes.

-- An open transaction is in one of the two pools of its direction.
module _ (log : List Entry) (i : ℕ) where
  in_sent : (time : ℕ) (frame : Frame) (test : Transaction → Bool) → is_request frame.header ≡ true → test (record { time = time; header = frame.header }) ≡ true → (passes test (opened_as_at SentData time (Sent frame)) ≡ true) ⊎ (passes test (opened_as_at SentControl time (Sent frame)) ≡ true)
  in_sent time frame test o t = elim (or_cases (is_data_request frame.header) (is_control_request frame.header) o) [
    | inl d ↦ inl (passes_one (is_data_request frame.header) (record { time = time; header = frame.header }) test d t)
    | inr c ↦ inr (passes_one (is_control_request frame.header) (record { time = time; header = frame.header }) test c t)
  ]

  -- An open transaction whose system bytes a later request of its direction shares.
  in_use : (j : ℕ) → IsOpen log j i → (time : ℕ) (opening event : Event) → (entry_at log j).time ≡ time → (entry_at log j).event ≡ opening → opens opening ≡ true → opens event ≡ true → shares_system opening event ≡ true → (settings : Parameters) (at : ℕ) → Breaks (facts_before log i) settings (record { time = at; event = event }) SystemInUse
  in_use j h time (Sent f) (Sent g) et ee oj oi shared settings at = (
    oi,
    elim (in_sent time f (λ opened. opened.header.system == g.header.system) oj shared) [
      | inl d ↦ inl (j, h, subst (λ t. passes (λ opened. opened.header.system == g.header.system) (opened_as_at SentData t (entry_at log j).event) ≡ true) (sym et) (subst (λ x. passes (λ opened. opened.header.system == g.header.system) (opened_as_at SentData time x) ≡ true) (sym ee) d))
      | inr c ↦ inr (j, h, subst (λ t. passes (λ opened. opened.header.system == g.header.system) (opened_as_at SentControl t (entry_at log j).event) ≡ true) (sym et) (subst (λ x. passes (λ opened. opened.header.system == g.header.system) (opened_as_at SentControl time x) ≡ true) (sym ee) c))
    ],
  )
  in_use j h time (Taken f) (Taken g) et ee oj oi shared settings at = (
    oi,
    elim (in_sent time f (λ opened. opened.header.system == g.header.system) oj shared) [
      | inl d ↦ inl (j, h, subst (λ t. passes (λ opened. opened.header.system == g.header.system) (opened_as_at TakenData t (entry_at log j).event) ≡ true) (sym et) (subst (λ x. passes (λ opened. opened.header.system == g.header.system) (opened_as_at TakenData time x) ≡ true) (sym ee) d))
      | inr c ↦ inr (j, h, subst (λ t. passes (λ opened. opened.header.system == g.header.system) (opened_as_at TakenControl t (entry_at log j).event) ≡ true) (sym et) (subst (λ x. passes (λ opened. opened.header.system == g.header.system) (opened_as_at TakenControl time x) ≡ true) (sym ee) c))
    ],
  )
  in_use j h time opening event et ee oj oi shared settings at = absurd (let d : false ≡ true = shared in cc)

shorter_open : (log : List Entry) (j k i : ℕ) → j < k → k ≤ i → IsOpen log j i → IsOpen log j k
shorter_open log j k i lt le h = record {
  opened = h.opened;
  earlier = on-between log j k i lt le h.earlier;
  not_closed = λ n after before c. h.not_closed n after (omega arith) c;
}

not_both : (settings : Parameters) (log : List Entry) → IsRun settings log → (i j k : ℕ) → i ≤ length log → j < k → IsOpen log j i → IsOpen log k i → shares_system (entry_at log j).event (entry_at log k).event ≡ true → ⊥
not_both settings log run i j k le lt hj hk shared =
    let ki : k < i = on-before log k i hk.earlier in
    obeys settings log run k (omega arith) SystemInUse
    (in_use log k j (shorter_open log j k i lt (omega arith) hj) (entry_at log j).time (entry_at log j).event (entry_at log k).event refl refl hj.opened hk.opened shared settings (entry_at log k).time)

shares-sym : (a b : Event) → shares_system a b ≡ true → shares_system b a ≡ true
shares-sym (Sent f) (Sent g) h = eq-eqb g.header.system f.header.system (sym (eqb-true f.header.system g.header.system h))
shares-sym (Taken f) (Taken g) h = eq-eqb g.header.system f.header.system (sym (eqb-true f.header.system g.header.system h))
shares-sym a b h = absurd (let d : false ≡ true = h in cc)

pub unique_system : SystemBytesAreUnique
unique_system settings log run i j k le hj hk shared = elim (cases_order j k) [
  | inl same ↦ same
  | inr other ↦ elim other [
    | inl lt ↦ absurd (not_both settings log run i j k le lt hj hk shared)
    | inr gt ↦ absurd (not_both settings log run i k j le gt hk hj (shares-sym (entry_at log j).event (entry_at log k).event shared))
  ]
]

-- Responses.

answers_system : (request response : Header) → answers request response ≡ true → response.system ≡ request.system
unfolding answers
answers_system request response h =
    eqb-true response.system request.system (and_parts (response.system == request.system) (answers_kind (kind_of request) (kind_of response) request response) h).0

-- Two requests that one response answers are of one direction, with the same system bytes.
answered_share : (a b c : Event) → answers_event a c ≡ true → answers_event b c ≡ true → shares_system a b ≡ true
answered_share (Sent f) (Sent g) (Taken h) p q = eq-eqb f.header.system g.header.system (sym (answers_system f.header h.header p) ∙ answers_system g.header h.header q)
answered_share (Taken f) (Taken g) (Sent h) p q = eq-eqb f.header.system g.header.system (sym (answers_system f.header h.header p) ∙ answers_system g.header h.header q)
answered_share (Sent f) b (Taken h) p q = absurd (let d : false ≡ true = q in cc)
answered_share (Taken f) b (Sent h) p q = absurd (let d : false ≡ true = q in cc)
answered_share a b c p q = absurd (let d : false ≡ true = p in cc)

answer_closes : (a c : Event) → answers_event a c ≡ true → closes a c ≡ true
answer_closes (Sent f) (Taken h) p = or_left (answers f.header h.header) (rejects f.header h.header) p
answer_closes (Taken f) (Sent h) p = or_left (answers f.header h.header) (rejects f.header h.header) p
answer_closes a c p = absurd (let d : false ≡ true = p in cc)

-- The entry of a pool that a response answers.
answered-sent_data : (time : ℕ) (event : Event) (response : Frame) → passes (λ opened. answers opened.header response.header) (opened_as_at SentData time event) ≡ true → answers_event event (Taken response) ≡ true
answered-sent_data time (Sent f) response h = (one_passes (is_data_request f.header) (record { time = time; header = f.header }) (λ opened. answers opened.header response.header) h).1
answered-sent_data time event response h = absurd (let d : false ≡ true = h in cc)

answered-sent_control : (time : ℕ) (event : Event) (response : Frame) → passes (λ opened. answers opened.header response.header) (opened_as_at SentControl time event) ≡ true → answers_event event (Taken response) ≡ true
answered-sent_control time (Sent f) response h = (one_passes (is_control_request f.header) (record { time = time; header = f.header }) (λ opened. answers opened.header response.header) h).1
answered-sent_control time event response h = absurd (let d : false ≡ true = h in cc)

answered-taken_data : (time : ℕ) (event : Event) (response : Frame) → passes (λ opened. answers opened.header response.header) (opened_as_at TakenData time event) ≡ true → answers_event event (Sent response) ≡ true
answered-taken_data time (Taken f) response h = (one_passes (is_data_request f.header) (record { time = time; header = f.header }) (λ opened. answers opened.header response.header) h).1
answered-taken_data time event response h = absurd (let d : false ≡ true = h in cc)

answered-taken_control : (time : ℕ) (event : Event) (response : Frame) → passes (λ opened. answers opened.header response.header) (opened_as_at TakenControl time event) ≡ true → answers_event event (Sent response) ≡ true
answered-taken_control time (Taken f) response h = (one_passes (is_control_request f.header) (record { time = time; header = f.header }) (λ opened. answers opened.header response.header) h).1
answered-taken_control time event response h = absurd (let d : false ≡ true = h in cc)

module _ (log : List Entry) (i : ℕ) (le : i ≤ length log) where
  -- Holds if the event answers some open transaction.
  abbrev pub SomeAnswered : Event → Type 0
  SomeAnswered event = (j : ℕ) × IsOpen log j i × IsTrue (answers_event (entry_at log j).event event)

  answered_by : (settings : Parameters) (at : ℕ) (event : Event) → IsTrue (is_response_event event) → (Breaks (facts_before log i) settings (record { time = at; event = event }) NoTransaction → ⊥) → SomeAnswered event
  answered_by settings at (Taken frame) r obeyed =
      let test : Transaction → Bool = λ opened. answers opened.header frame.header in
      elim (open_cases log i le SentData test) as (λ u. SomeAnswered (Taken frame)) [
        | inl s ↦ (s.0, s.1, answered-sent_data (entry_at log s.0).time (entry_at log s.0).event frame s.2)
        | inr n ↦ elim (open_cases log i le SentControl test) as (λ u. SomeAnswered (Taken frame)) [
          | inl s ↦ (s.0, s.1, answered-sent_control (entry_at log s.0).time (entry_at log s.0).event frame s.2)
          | inr m ↦ absurd (obeyed (r, (λ a. elim a [ inl p ↦ n p | inr q ↦ m q ])))
        ]
      ]
  answered_by settings at (Sent frame) r obeyed =
      let test : Transaction → Bool = λ opened. answers opened.header frame.header in
      elim (open_cases log i le TakenData test) as (λ u. SomeAnswered (Sent frame)) [
        | inl s ↦ (s.0, s.1, answered-taken_data (entry_at log s.0).time (entry_at log s.0).event frame s.2)
        | inr n ↦ elim (open_cases log i le TakenControl test) as (λ u. SomeAnswered (Sent frame)) [
          | inl s ↦ (s.0, s.1, answered-taken_control (entry_at log s.0).time (entry_at log s.0).event frame s.2)
          | inr m ↦ absurd (obeyed (r, (λ a. elim a [ inl p ↦ n p | inr q ↦ m q ])))
        ]
      ]
  answered_by settings at event r obeyed = absurd (let d : false ≡ true = r in cc)

pub answers_one : EachResponseAnswersOne
answers_one settings log run i lt response =
    let found = answered_by log i (omega arith) settings (entry_at log i).time (entry_at log i).event response (obeys settings log run i lt NoTransaction) in
    let j = found.0 in
    let opened : IsOpen log j i = found.1 in (
      j,
      record { open_before = opened; answered = found.2 },
      (λ other h. unique_system settings log run i other j (omega arith) h.open_before opened
          (answered_share (entry_at log other).event (entry_at log j).event (entry_at log i).event h.answered found.2)),
      (λ later after h. h.not_closed i (on-before log j i opened.earlier) after (answer_closes (entry_at log j).event (entry_at log i).event found.2)),
    )

-- Connections.

-- A later `up` breaks no rule only in version 2, directly after `down`.
later_up_by : (log : List Entry) (i : ℕ) (settings : Parameters) (event : Event) → 0 < i → is_up event ≡ true → (IsNotUp (facts_before log i) settings event → ⊥) → (settings.version ≡ 2) × FollowsDown log i
later_up_by log i settings Up pos up obeyed = elim (follows_cases log i) [
  | inl down ↦ elim (cases_order settings.version 2) [
    | inl two ↦ (two, down)
    | inr other ↦ absurd (obeyed (pos, (λ c. let two : settings.version ≡ 2 = c.0 in elim other [ inl lt ↦ omega arith | inr gt ↦ omega arith ])))
  ]
  | inr not_down ↦ absurd (obeyed (pos, (λ c. not_down c.1)))
]
later_up_by log i settings event pos up obeyed = absurd (let d : false ≡ true = up in cc)

pub each_follows_down : EachConnectionFollowsDown
each_follows_down settings log run i pos lt up = later_up_by log i settings (entry_at log i).event pos up (obeys settings log run i lt NotUp)

pub one_connection : OneConnectionInVersionOne
one_connection settings log run one i lt up = elim (cases_lt 0 i) [
  | inl pos ↦
      let two : settings.version ≡ 2 = (each_follows_down settings log run i pos lt up).0 in
      absurd (omega arith)
  | inr le ↦ omega arith
]

pub none_over_up : NothingIsOpenOverUp
none_over_up log j k i after before up h =
    let n : is_up (entry_at log k).event ≡ false = on-no_up log j i h.earlier k after before in
    let d : true ≡ false = sym up ∙ n in cc

pub extends : ValidEntryExtendsRun
extends settings log entry run valid_entry = run-push settings log entry run valid_entry

pub one_first : NoEntryHasTwoAnswers
unfolding Broken
one_first settings log entry one other h k =
    first_same (Breaks (facts_before log (length log)) settings entry) all_rules one other h k

pub empty : EmptyLogIsRun
empty settings = empty_run settings
