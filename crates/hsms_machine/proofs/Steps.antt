-- Facts for the code of the view: the rules of an event by its cases, and the steps of the pools.
use Rattle.std.proofs.Common.{◌≡◌, ℕ, Bool, true, false, not, ◌==◌, List, [], ◌∷◌, ◌++◌, Option, None, IsTrue, inr, refl, sym, ap, subst, ◌∙◌, filter, option_to_list}
use Rattle.std.proofs.lemmas.List.{append-nil}
use Rattle.hsms_frame.specs.Header.{kind_of, wait_of}
use Rattle.hsms_frame.specs.declared.header.Header.{Header}
use Rattle.hsms_frame.specs.Frame.{Frame}
use Rattle.hsms_frame.specs.declared.kinds.Kind.{Kind}
use Rattle.hsms_frame.specs.declared.kinds.Kind.TheVariants.{Primary, SelectReq, LinktestReq}
use Rattle.hsms_machine.specs.declared.entry.Entry.{Entry}
use Rattle.hsms_machine.specs.declared.entry.Event.{Event}
use Rattle.hsms_machine.specs.declared.entry.Event.TheVariants.{Sent, Taken, Discarded, T3}
use Rattle.hsms_machine.specs.declared.entry.Act.{Act}
use Rattle.hsms_machine.specs.declared.entry.Act.TheVariants.{Up as ActUp, Sent as ActSent, Taken as ActTaken, T3 as ActT3}
use Rattle.hsms_machine.specs.declared.rule.Rule.{Rule}
use Rattle.hsms_machine.specs.declared.rule.Rule.TheVariants.{TooLong, PType, SType, ControlText, Session, Direction, NotSelected, WBit, Text, SystemInUse, NoTransaction, SelectStatus, NoCause}
use Rattle.hsms_machine.specs.declared.open_transactions.Transaction.{Transaction}
use Rattle.hsms_machine.specs.Settings.{Parameters}
use Rattle.hsms_machine.specs.Message.{is_data_request, is_control_request, opens_data, opens_control}
use Rattle.hsms_machine.specs.Transaction.{Pool, SentData, SentControl, TakenData, TakenControl, opened_by, concludes}
use Rattle.hsms_machine.specs.Session.{Facts}
use Rattle.hsms_machine.specs.Rule.{Breaks, FrameBreaks, IsNoCause, IsFirst, format_rules, transaction_rules}
use Rattle.hsms_machine.specs.EventParts.{entry_of}
use Rattle.hsms_machine.specs.ViewRules.{pool_after}
use Rattle.hsms_machine.specs.declared.direction.Flow.{Flow}
use Rattle.hsms_machine.specs.declared.direction.Flow.TheVariants.{Outgoing, Incoming}
use Rattle.hsms_machine.specs.declared.view.View.{View}
use Rattle.hsms_machine.proofs.First.{first_extend, none_head, first_none}

pub not_iff : (b : Bool) → (IsTrue (not b) → IsTrue b → ⊥) × ((IsTrue b → ⊥) → IsTrue (not b))
not_iff true = ((λ e h. let d : false ≡ true = e in cc), (λ never. absurd (never refl)))
not_iff false = ((λ e h. let d : false ≡ true = h in cc), (λ never. refl))

kinds_differ : (kind : Kind) (wait : Bool) → opens_data kind wait ≡ true → opens_control kind ≡ false
kinds_differ SelectReq wait e = absurd (let d : false ≡ true = e in cc)
kinds_differ LinktestReq wait e = absurd (let d : false ≡ true = e in cc)
kinds_differ kind wait e = refl

-- No message opens a data and a control transaction.
pub data_not_control : (header : Header) → is_data_request header ≡ true → is_control_request header ≡ false
unfolding is_data_request is_control_request
data_not_control header e = kinds_differ (kind_of header) (wait_of header) e

control_kind_differs : (kind : Kind) (wait : Bool) → opens_control kind ≡ true → opens_data kind wait ≡ false
control_kind_differs Primary wait e = absurd (let d : false ≡ true = e in cc)
control_kind_differs kind wait e = refl

pub control_not_data : (header : Header) → is_control_request header ≡ true → is_data_request header ≡ false
unfolding is_data_request is_control_request
control_not_data header e = control_kind_differs (kind_of header) (wait_of header) e

module _ (facts : Facts) (settings : Parameters) where
  -- If none of the frame rules is the first one, none is broken.
  pub frame_none : (flow : Flow) (frame : Frame) → IsFirst (FrameBreaks facts settings flow frame) (format_rules ++ transaction_rules) None → (r : Rule) → FrameBreaks facts settings flow frame r → ⊥
  frame_none flow frame h r =
      let P : Rule → Type 0 = λ q. FrameBreaks facts settings flow frame q in
      let h1 = none_head P TooLong (PType ∷ SType ∷ ControlText ∷ Session ∷ Direction ∷ transaction_rules) h in
      let h2 = none_head P PType (SType ∷ ControlText ∷ Session ∷ Direction ∷ transaction_rules) h1.1 in
      let h3 = none_head P SType (ControlText ∷ Session ∷ Direction ∷ transaction_rules) h2.1 in
      let h4 = none_head P ControlText (Session ∷ Direction ∷ transaction_rules) h3.1 in
      let h5 = none_head P Session (Direction ∷ transaction_rules) h4.1 in
      let h6 = none_head P Direction transaction_rules h5.1 in
      let h7 = none_head P NotSelected (WBit ∷ Text ∷ SystemInUse ∷ NoTransaction ∷ SelectStatus ∷ []) h6.1 in
      let h8 = none_head P WBit (Text ∷ SystemInUse ∷ NoTransaction ∷ SelectStatus ∷ []) h7.1 in
      let h9 = none_head P Text (SystemInUse ∷ NoTransaction ∷ SelectStatus ∷ []) h8.1 in
      let h10 = none_head P SystemInUse (NoTransaction ∷ SelectStatus ∷ []) h9.1 in
      let h11 = none_head P NoTransaction (SelectStatus ∷ []) h10.1 in
      let h12 = none_head P SelectStatus [] h11.1 in
      elim r as (λ q. FrameBreaks facts settings flow frame q → ⊥) [
        | TooLong ↦ h1.0
        | PType ↦ h2.0
        | SType ↦ h3.0
        | ControlText ↦ h4.0
        | Session ↦ h5.0
        | Direction ↦ h6.0
        | NotSelected ↦ h7.0
        | WBit ↦ h8.0
        | Text ↦ h9.0
        | SystemInUse ↦ h10.0
        | NoTransaction ↦ h11.0
        | SelectStatus ↦ h12.0
        | _ ↦ λ e. e
      ]

  -- A discarded frame lacks a cause exactly if the frame rules return none.
  pub no_cause_iff : (frame : Frame) (a : Option Rule) → IsFirst (FrameBreaks facts settings Incoming frame) (format_rules ++ transaction_rules) a → (a ≡ None → (r : Rule) → FrameBreaks facts settings Incoming frame r → ⊥) × (((r : Rule) → FrameBreaks facts settings Incoming frame r → ⊥) → a ≡ None)
  no_cause_iff frame a h = (
    (λ e. frame_none Incoming frame (subst (λ b. IsFirst (FrameBreaks facts settings Incoming frame) (format_rules ++ transaction_rules) b) e h)),
    (λ never. first_none (FrameBreaks facts settings Incoming frame) (format_rules ++ transaction_rules) a never h),
  )

  -- Holds if the result is the first of the rules 7 to 19 that the event breaks.
  abbrev pub EventFirst : ℕ → Option Rule → Event → Type 0
  EventFirst time a event = IsFirst (Breaks facts settings (record { time = time; event = event })) (format_rules ++ (transaction_rules ++ NoCause ∷ [])) a

  pub sent_first : (entry : Entry) (frame : Frame) (a : Option Rule) → entry.event ≡ Sent frame → IsFirst (FrameBreaks facts settings Outgoing frame) (format_rules ++ transaction_rules) a → EventFirst entry.time a entry.event
  sent_first entry frame a e h =
      subst (EventFirst entry.time a) (sym e)
      (first_extend (Breaks facts settings (record { time = entry.time; event = Sent frame })) (format_rules ++ transaction_rules) NoCause a (λ never. never) h)

  pub taken_first : (entry : Entry) (frame : Frame) (a : Option Rule) → entry.event ≡ Taken frame → IsFirst (FrameBreaks facts settings Incoming frame) (format_rules ++ transaction_rules) a → EventFirst entry.time a entry.event
  taken_first entry frame a e h =
      subst (EventFirst entry.time a) (sym e)
      (first_extend (Breaks facts settings (record { time = entry.time; event = Taken frame })) (format_rules ++ transaction_rules) NoCause a (λ never. never) h)

  none_of : (e : ⊥) → ⊥
  none_of e = e

  pub discard_first : (time : ℕ) (frame : Frame) (a : Option Rule) → IsFirst (λ rule. IsNoCause facts settings (Discarded frame)) (NoCause ∷ []) a → EventFirst time a (Discarded frame)
  discard_first time frame a h =
      inr (
        none_of,
        inr (
          none_of,
          inr (
            none_of,
            inr (
              none_of,
              inr (
                none_of,
                inr (
                  none_of,
                  inr (none_of, inr (none_of, inr (none_of, inr (none_of, inr (none_of, inr (none_of, h)))))),
                ),
              ),
            ),
          ),
        ),
      )

pub keep_all : (test : Transaction → Bool) → ((x : Transaction) → test x ≡ true) → (xs : List Transaction) → filter test xs ≡ xs
keep_all test all [] = refl
keep_all test all (x ∷ xs) = rw (all x) (ap (λ l. x ∷ l) (keep_all test all xs))

module _ (xs : List Transaction) (time : ℕ) (frame : Frame) where
  nothing_closed : filter (λ transaction. not false) xs ≡ xs
  nothing_closed = keep_all (λ transaction. not false) (λ x. refl) xs

  pub sent_data-sent : pool_after SentData xs (record { time = time; event = Sent frame }) ≡ xs ++ option_to_list (opened_by is_data_request time frame.header)
  sent_data-sent = ap (λ l. l ++ option_to_list (opened_by is_data_request time frame.header)) nothing_closed

  pub sent_control-sent : pool_after SentControl xs (record { time = time; event = Sent frame }) ≡ xs ++ option_to_list (opened_by is_control_request time frame.header)
  sent_control-sent = ap (λ l. l ++ option_to_list (opened_by is_control_request time frame.header)) nothing_closed

  pub taken_data-sent : pool_after TakenData xs (record { time = time; event = Sent frame }) ≡ filter (λ opened. not (concludes opened.header frame.header)) xs
  taken_data-sent = append-nil (filter (λ opened. not (concludes opened.header frame.header)) xs)

  pub taken_control-sent : pool_after TakenControl xs (record { time = time; event = Sent frame }) ≡ filter (λ opened. not (concludes opened.header frame.header)) xs
  taken_control-sent = append-nil (filter (λ opened. not (concludes opened.header frame.header)) xs)

  pub taken_data-taken : pool_after TakenData xs (record { time = time; event = Taken frame }) ≡ xs ++ option_to_list (opened_by is_data_request time frame.header)
  taken_data-taken = ap (λ l. l ++ option_to_list (opened_by is_data_request time frame.header)) nothing_closed

  pub taken_control-taken : pool_after TakenControl xs (record { time = time; event = Taken frame }) ≡ xs ++ option_to_list (opened_by is_control_request time frame.header)
  taken_control-taken = ap (λ l. l ++ option_to_list (opened_by is_control_request time frame.header)) nothing_closed

  pub sent_data-taken : pool_after SentData xs (record { time = time; event = Taken frame }) ≡ filter (λ opened. not (concludes opened.header frame.header)) xs
  sent_data-taken = append-nil (filter (λ opened. not (concludes opened.header frame.header)) xs)

  pub sent_control-taken : pool_after SentControl xs (record { time = time; event = Taken frame }) ≡ filter (λ opened. not (concludes opened.header frame.header)) xs
  sent_control-taken = append-nil (filter (λ opened. not (concludes opened.header frame.header)) xs)

pub sent_data-t3 : (xs : List Transaction) (time system : ℕ) → pool_after SentData xs (record { time = time; event = T3 system }) ≡ filter (λ opened. not (opened.header.system == system)) xs
sent_data-t3 xs time system = append-nil (filter (λ opened. not (opened.header.system == system)) xs)

-- An event that neither opens nor closes a transaction of the pool.
pub pool-idle : (xs : List Transaction) → filter (λ (transaction : Transaction). not false) xs ++ [] ≡ xs
pool-idle xs = append-nil (filter (λ transaction. not false) xs) ∙ keep_all (λ transaction. not false) (λ x. refl) xs

pool-quiet : (pool : Pool) (xs : List Transaction) (time : ℕ) (act : Act) → (act ≡ ActUp → ⊥) → ((header : Header) → act ≡ ActSent header → ⊥) → ((header : Header) → act ≡ ActTaken header → ⊥) → ((system : ℕ) → act ≡ ActT3 system → ⊥) → pool_after pool xs (entry_of time act []) ≡ xs
pool-quiet pool xs time ActUp up sent taken t3 = absurd (up refl)
pool-quiet pool xs time (ActSent header) up sent taken t3 = absurd (sent header refl)
pool-quiet pool xs time (ActTaken header) up sent taken t3 = absurd (taken header refl)
pool-quiet pool xs time (ActT3 system) up sent taken t3 = absurd (t3 system refl)
pool-quiet SentData xs time act up sent taken t3 = pool-idle xs
pool-quiet SentControl xs time act up sent taken t3 = pool-idle xs
pool-quiet TakenData xs time act up sent taken t3 = pool-idle xs
pool-quiet TakenControl xs time act up sent taken t3 = pool-idle xs

-- An event that neither opens nor closes a transaction leaves the pools unchanged.
pub view-quiet : (view : View) (time : ℕ) (act : Act) → (act ≡ ActUp → ⊥) → ((header : Header) → act ≡ ActSent header → ⊥) → ((header : Header) → act ≡ ActTaken header → ⊥) → ((system : ℕ) → act ≡ ActT3 system → ⊥) → view ≡ record view { sent_data = pool_after SentData view.sent_data (entry_of time act []); sent_control = pool_after SentControl view.sent_control (entry_of time act []); taken_data = pool_after TakenData view.taken_data (entry_of time act []); taken_control = pool_after TakenControl view.taken_control (entry_of time act []) }
view-quiet view time act up sent taken t3 =
    let e1 = pool-quiet SentData view.sent_data time act up sent taken t3 in
    let e2 = pool-quiet SentControl view.sent_control time act up sent taken t3 in
    let e3 = pool-quiet TakenData view.taken_data time act up sent taken t3 in
    let e4 = pool-quiet TakenControl view.taken_control time act up sent taken t3 in
    rw (e1, e2, e3, e4) refl
