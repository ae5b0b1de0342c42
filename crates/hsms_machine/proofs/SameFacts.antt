-- Equivalent facts lead to the same broken rules.
use Rattle.std.proofs.Common.{◌≡◌, ◌↔◌, ℕ, ◌-◌, Bool, true, false, List, [], ◌∷◌, ◌++◌, Option, Some, None, ◌⊎◌, inl, inr, refl, sym, subst, ◌∙◌, nat_lt, nat_le, ◌==◌, ◌&&◌}
use Rattle.hsms_frame.specs.Frame.{Frame}
use Rattle.hsms_machine.specs.declared.entry.Entry.{Entry}
use Rattle.hsms_machine.specs.declared.entry.Event.{Event}
use Rattle.hsms_machine.specs.declared.entry.Cause.{Cause}
use Rattle.hsms_machine.specs.declared.entry.Cause.TheVariants.{T6, T7}
use Rattle.hsms_machine.specs.declared.entry.Event.TheVariants.{Up, Sent, Taken, Discarded, T3, Cut, Down}
use Rattle.hsms_machine.specs.declared.rule.Rule.{Rule}
use Rattle.hsms_machine.specs.declared.rule.Rule.TheVariants.{Backwards, NotUp, Ended, T3Overdue, LinkOverdue, NotDue, NotSelected, SystemInUse, NoTransaction, SelectStatus, NoCause}
use Rattle.hsms_machine.specs.declared.open_transactions.Transaction.{Transaction}
use Rattle.hsms_machine.specs.Settings.{Parameters}
use Rattle.hsms_machine.specs.Transaction.{Pool, SentData, SentControl, TakenData, TakenControl, answers}
use Rattle.hsms_machine.specs.Session.{Facts}
use Rattle.hsms_machine.specs.Timer.{IsTimed, IsT3Overdue, IsT6Overdue, IsT7Overdue, IsCutNotDue, IsNotDue}
use Rattle.hsms_machine.specs.Rule.{Breaks, EventBreaks, FrameBreaks, SomeOpenOf, opposite, IsNotUp, IsNoCause, IsFirst, needs_session, all_rules, timer_rules, format_rules, transaction_rules}
use Rattle.hsms_machine.specs.declared.direction.Flow.{Flow}
use Rattle.hsms_machine.specs.declared.direction.Flow.TheVariants.{Outgoing, Incoming}
use Rattle.hsms_machine.proofs.First.{first_agrees}

-- Holds if the facts that the rules of order use are equivalent, except the end of the session.
pub record OrdersAgree (F G : Facts) : Type 0 where
  pub past : (time : ℕ) → F.IsPast time ↔ G.IsPast time
  pub entry : F.HasEntry ↔ G.HasEntry
  pub up : F.HasUp ↔ G.HasUp
  pub down : F.HasDown ↔ G.HasDown
  pub follows : F.FollowsDown ↔ G.FollowsDown

pub record FactsAgree (F G : Facts) : Type 0 where
  pub order : OrdersAgree F G
  pub up_since : (test : ℕ → Bool) → F.IsUpSince test ↔ G.IsUpSince test
  pub selected : F.IsSelected ↔ G.IsSelected
  pub over : F.IsOver ↔ G.IsOver
  pub some_open : (pool : Pool) (test : Transaction → Bool) → F.SomeOpen pool test ↔ G.SomeOpen pool test

pub orders_agree-sym : (F G : Facts) → OrdersAgree F G → OrdersAgree G F
orders_agree-sym F G h = record {
  past = λ time. ((h.past time).1, (h.past time).0);
  entry = (h.entry.1, h.entry.0);
  up = (h.up.1, h.up.0);
  down = (h.down.1, h.down.0);
  follows = (h.follows.1, h.follows.0);
}

pub facts_agree-sym : (F G : Facts) → FactsAgree F G → FactsAgree G F
facts_agree-sym F G h = record {
  order = orders_agree-sym F G h.order;
  up_since = λ test. ((h.up_since test).1, (h.up_since test).0);
  selected = (h.selected.1, h.selected.0);
  over = (h.over.1, h.over.0);
  some_open = λ pool test. ((h.some_open pool test).1, (h.some_open pool test).0);
}

not_up-facts_agree : (F G : Facts) → OrdersAgree F G → (settings : Parameters) (event : Event) → IsNotUp F settings event → IsNotUp G settings event
not_up-facts_agree F G h settings Up b = (h.entry.0 b.0, (λ c. b.1 (c.0, h.follows.1 c.1)))
not_up-facts_agree F G h settings event b = elim b [ inl e ↦ inl (λ u. e (h.up.1 u)) | inr d ↦ inr (h.down.0 d) ]

pub backwards-facts_agree : (F G : Facts) → OrdersAgree F G → (settings : Parameters) (entry : Entry) → Breaks F settings entry Backwards → Breaks G settings entry Backwards
backwards-facts_agree F G h settings entry b = (h.past entry.time).0 b

pub breaks_up-facts_agree : (F G : Facts) → OrdersAgree F G → (settings : Parameters) (entry : Entry) → Breaks F settings entry NotUp → Breaks G settings entry NotUp
breaks_up-facts_agree F G h settings entry b = not_up-facts_agree F G h settings entry.event b

some_of-facts_agree : (F G : Facts) → FactsAgree F G → (flow : Flow) (test : Transaction → Bool) → SomeOpenOf F flow test → SomeOpenOf G flow test
some_of-facts_agree F G h Outgoing test b = elim b [ inl p ↦ inl ((h.some_open SentData test).0 p) | inr q ↦ inr ((h.some_open SentControl test).0 q) ]
some_of-facts_agree F G h Incoming test b = elim b [ inl p ↦ inl ((h.some_open TakenData test).0 p) | inr q ↦ inr ((h.some_open TakenControl test).0 q) ]

frame-facts_agree : (F G : Facts) → FactsAgree F G → (settings : Parameters) (flow : Flow) (frame : Frame) (r : Rule) → FrameBreaks F settings flow frame r → FrameBreaks G settings flow frame r
frame-facts_agree F G h settings flow frame NotSelected b = (b.0, (λ s. b.1 (h.selected.1 s)))
frame-facts_agree F G h settings flow frame SystemInUse b = (b.0, some_of-facts_agree F G h flow (λ opened. opened.header.system == frame.header.system) b.1)
frame-facts_agree F G h settings flow frame NoTransaction b =
    (b.0, (λ a. b.1 (some_of-facts_agree G F (facts_agree-sym F G h) (opposite flow) (λ opened. answers opened.header frame.header) a)))
frame-facts_agree F G h settings flow frame SelectStatus b = (b.0, h.selected.0 b.1)
frame-facts_agree F G h settings flow frame r b = b

timed-facts_agree : (F G : Facts) → FactsAgree F G → IsTimed F → IsTimed G
timed-facts_agree F G h b = ((λ o. b.0 (h.over.1 o)), (λ d. b.1 (h.order.follows.1 d)))

t3-facts_agree : (F G : Facts) → FactsAgree F G → (settings : Parameters) (time : ℕ) → IsT3Overdue F settings time → IsT3Overdue G settings time
t3-facts_agree F G h settings time b = (timed-facts_agree F G h b.0, (h.some_open SentData (λ opened. nat_lt settings.t3 (time - opened.time))).0 b.1)

link-facts_agree : (F G : Facts) → FactsAgree F G → (settings : Parameters) (time : ℕ) → (IsT6Overdue F settings time ⊎ IsT7Overdue F settings time) → IsT6Overdue G settings time ⊎ IsT7Overdue G settings time
link-facts_agree F G h settings time b = elim b [
  | inl p ↦ inl (timed-facts_agree F G h p.0, (h.some_open SentControl (λ opened. nat_lt settings.t6 (time - opened.time))).0 p.1)
  | inr q ↦ inr (timed-facts_agree F G h q.0, (λ s. q.1 (h.selected.1 s)), (h.up_since (λ up. nat_lt settings.t7 (time - up))).0 q.2)
]

cut-facts_agree : (F G : Facts) → FactsAgree F G → (settings : Parameters) (time : ℕ) (cause : Cause) → IsCutNotDue F settings time cause → IsCutNotDue G settings time cause
cut-facts_agree F G h settings time T6 b = λ o. b ((h.some_open SentControl (λ opened. nat_le settings.t6 (time - opened.time))).1 o)
cut-facts_agree F G h settings time T7 b = elim b [ inl s ↦ inl (h.selected.0 s) | inr u ↦ inr ((h.up_since (λ up. nat_lt (time - up) settings.t7)).0 u) ]
cut-facts_agree F G h settings time cause b = absurd b

due-facts_agree : (F G : Facts) → FactsAgree F G → (settings : Parameters) (time : ℕ) (event : Event) → IsNotDue F settings time event → IsNotDue G settings time event
due-facts_agree F G h settings time (T3 system) b =
    λ o. b ((h.some_open SentData (λ opened. (opened.header.system == system) && nat_le settings.t3 (time - opened.time))).1 o)
due-facts_agree F G h settings time (Cut cause) b = cut-facts_agree F G h settings time cause b
due-facts_agree F G h settings time event b = absurd b

cause-facts_agree : (F G : Facts) → FactsAgree F G → (settings : Parameters) (event : Event) → IsNoCause F settings event → IsNoCause G settings event
cause-facts_agree F G h settings (Discarded frame) b =
    ((λ o. b.0 (h.over.1 o)), (λ r e. b.1 r (frame-facts_agree G F (facts_agree-sym F G h) settings Incoming frame r e)))
cause-facts_agree F G h settings event b = absurd b

event-facts_agree : (F G : Facts) → FactsAgree F G → (settings : Parameters) (event : Event) (r : Rule) → EventBreaks F settings event r → EventBreaks G settings event r
event-facts_agree F G h settings (Sent frame) r b = frame-facts_agree F G h settings Outgoing frame r b
event-facts_agree F G h settings (Taken frame) r b = frame-facts_agree F G h settings Incoming frame r b
event-facts_agree F G h settings event r b = absurd b

pub breaks-facts_agree : (F G : Facts) → FactsAgree F G → (settings : Parameters) (entry : Entry) (r : Rule) → Breaks F settings entry r → Breaks G settings entry r
breaks-facts_agree F G h settings entry Backwards b = (h.order.past entry.time).0 b
breaks-facts_agree F G h settings entry NotUp b = not_up-facts_agree F G h.order settings entry.event b
breaks-facts_agree F G h settings entry Ended b = (b.0, h.over.0 b.1)
breaks-facts_agree F G h settings entry T3Overdue b = (b.0, t3-facts_agree F G h settings entry.time b.1)
breaks-facts_agree F G h settings entry LinkOverdue b = (b.0, link-facts_agree F G h settings entry.time b.1)
breaks-facts_agree F G h settings entry NotDue b = due-facts_agree F G h settings entry.time entry.event b
breaks-facts_agree F G h settings entry NoCause b = cause-facts_agree F G h settings entry.event b
breaks-facts_agree F G h settings entry r b = event-facts_agree F G h settings entry.event r b

-- The first broken rule is the same.
pub first_broken-facts_agree : (F G : Facts) → FactsAgree F G → (settings : Parameters) (entry : Entry) (rules : List Rule) (a : Option Rule) → IsFirst (Breaks F settings entry) rules a → IsFirst (Breaks G settings entry) rules a
first_broken-facts_agree F G h settings entry rules a b =
    first_agrees (Breaks F settings entry) (Breaks G settings entry) rules a (breaks-facts_agree F G h settings entry) (breaks-facts_agree G F (facts_agree-sym F G h) settings entry) b

-- None of these rules applies.
abbrev pub Never : (Rule → Type 0) → List Rule → Type 0
Never Applies [] = Unit {0}
Never Applies (rule ∷ rules) = (Applies rule → ⊥) × Never Applies rules

pub never_none : (Applies : Rule → Type 0) (rules : List Rule) (a : Option Rule) → Never Applies rules → IsFirst Applies rules a → a ≡ None
never_none Applies [] a n h = h
never_none Applies (r ∷ rs) a n h = elim h [ inl p ↦ absurd (n.0 p.0) | inr q ↦ never_none Applies rs a n.1 q.1 ]

pub none_never : (Applies : Rule → Type 0) (rules : List Rule) → Never Applies rules → IsFirst Applies rules None
none_never Applies [] n = refl
none_never Applies (r ∷ rs) n = inr (n.0, none_never Applies rs n.1)

pub never_from : (Applies : Rule → Type 0) (rules : List Rule) → IsFirst Applies rules None → Never Applies rules
never_from Applies [] h = tt
never_from Applies (r ∷ rs) h = elim h [
  | inl p ↦ absurd (let e : None ≡ Some r = p.1 in cc)
  | inr q ↦ (q.0, never_from Applies rs q.1)
]

abbrev pub late_rules : List Rule
late_rules = timer_rules ++ (format_rules ++ (transaction_rules ++ NoCause ∷ []))

-- Once the session has ended, an event that needs no session breaks only rules of order.
late_by : (F : Facts) → F.IsOver → (settings : Parameters) (time : ℕ) (event : Event) → needs_session event ≡ false → Never (Breaks F settings (record { time = time; event = event })) late_rules
late_by F over settings time Up e = ((λ b. b.1.0.0 over), ((λ b. elim b.1 [ inl p ↦ p.0.0 over | inr q ↦ q.0.0 over ]), ((λ b. b), ((λ b. b), ((λ b. b), ((λ b. b), ((λ b. b), ((λ b. b), ((λ b. b), ((λ b. b), ((λ b. b), ((λ b. b), ((λ b. b), ((λ b. b), ((λ b. b), ((λ b. b), tt))))))))))))))))
late_by F over settings time Down e = ((λ b. b.1.0.0 over), ((λ b. elim b.1 [ inl p ↦ p.0.0 over | inr q ↦ q.0.0 over ]), ((λ b. b), ((λ b. b), ((λ b. b), ((λ b. b), ((λ b. b), ((λ b. b), ((λ b. b), ((λ b. b), ((λ b. b), ((λ b. b), ((λ b. b), ((λ b. b), ((λ b. b), ((λ b. b), tt))))))))))))))))
late_by F over settings time (Discarded frame) e = ((λ b. b.1.0.0 over), ((λ b. elim b.1 [ inl p ↦ p.0.0 over | inr q ↦ q.0.0 over ]), ((λ b. b), ((λ b. b), ((λ b. b), ((λ b. b), ((λ b. b), ((λ b. b), ((λ b. b), ((λ b. b), ((λ b. b), ((λ b. b), ((λ b. b), ((λ b. b), ((λ b. b), ((λ b. b.0 over), tt))))))))))))))))
late_by F over settings time event e = absurd (let d : true ≡ false = e in cc)

pub late : (F : Facts) → F.IsOver → (settings : Parameters) (entry : Entry) → needs_session entry.event ≡ false → Never (Breaks F settings entry) late_rules
late F over settings entry e = late_by F over settings entry.time entry.event e

-- Directly after `down`, an `up` breaks only rules of order.
pub late_up : (F : Facts) → F.FollowsDown → (settings : Parameters) (time : ℕ) → Never (Breaks F settings (record { time = time; event = Up })) late_rules
late_up F down settings time = ((λ b. b.1.0.1 down), ((λ b. elim b.1 [ inl p ↦ p.0.1 down | inr q ↦ q.0.1 down ]), ((λ b. b), ((λ b. b), ((λ b. b), ((λ b. b), ((λ b. b), ((λ b. b), ((λ b. b), ((λ b. b), ((λ b. b), ((λ b. b), ((λ b. b), ((λ b. b), ((λ b. b), ((λ b. b), tt))))))))))))))))

bool_cases : (b : Bool) → (b ≡ true) ⊎ (b ≡ false)
bool_cases true = inl refl
bool_cases false = inr refl

-- After the session has ended, the facts of order and the end decide.
pub over_agrees : (F G : Facts) → OrdersAgree F G → F.IsOver → G.IsOver → (settings : Parameters) (entry : Entry) (a : Option Rule) → IsFirst (Breaks F settings entry) all_rules a → IsFirst (Breaks G settings entry) all_rules a
over_agrees F G h f g settings entry a b =
    let back = orders_agree-sym F G h in
    elim b [
      | inl p ↦ inl (backwards-facts_agree F G h settings entry p.0, p.1)
      | inr q ↦ inr (
        (λ x. q.0 (backwards-facts_agree G F back settings entry x)),
        elim q.1 as (λ u. IsFirst (Breaks G settings entry) (NotUp ∷ Ended ∷ late_rules) a) [
          | inl p ↦ inl (breaks_up-facts_agree F G h settings entry p.0, p.1)
          | inr r ↦ inr (
            (λ x. r.0 (breaks_up-facts_agree G F back settings entry x)),
            elim r.1 as (λ u. IsFirst (Breaks G settings entry) (Ended ∷ late_rules) a) [
              | inl p ↦ inl ((p.0.0, g), p.1)
              | inr s ↦ elim (bool_cases (needs_session entry.event)) as (λ u. IsFirst (Breaks G settings entry) (Ended ∷ late_rules) a) [
                | inl needs ↦ absurd (s.0 (needs, f))
                | inr needs ↦
                    let none : a ≡ None = never_none (Breaks F settings entry) late_rules a (late F f settings entry needs) s.1 in
                    let never : Breaks G settings entry Ended → ⊥ = λ x. (let d : true ≡ false = sym x.0 ∙ needs in cc) in
                    inr (never, subst (λ c. IsFirst (Breaks G settings entry) late_rules c) (sym none) (none_never (Breaks G settings entry) late_rules (late G g settings entry needs)))
              ]
            ],
          )
        ],
      )
    ]

-- If the entry breaks the rule that the connection is established, the facts of order decide.
pub down_agrees : (F G : Facts) → OrdersAgree F G → (settings : Parameters) (entry : Entry) → Breaks F settings entry NotUp → (a : Option Rule) → IsFirst (Breaks F settings entry) all_rules a → IsFirst (Breaks G settings entry) all_rules a
down_agrees F G h settings entry broken a b =
    let back = orders_agree-sym F G h in
    elim b [
      | inl p ↦ inl (backwards-facts_agree F G h settings entry p.0, p.1)
      | inr q ↦ inr (
        (λ x. q.0 (backwards-facts_agree G F back settings entry x)),
        elim q.1 as (λ u. IsFirst (Breaks G settings entry) (NotUp ∷ Ended ∷ late_rules) a) [
          | inl p ↦ inl (breaks_up-facts_agree F G h settings entry p.0, p.1)
          | inr r ↦ absurd (r.0 broken)
        ],
      )
    ]

-- If an event that needs no session can break only rules of order, these decide.
quiet_agrees : (F G : Facts) → OrdersAgree F G → (settings : Parameters) (entry : Entry) → needs_session entry.event ≡ false → Never (Breaks F settings entry) late_rules → Never (Breaks G settings entry) late_rules → (a : Option Rule) → IsFirst (Breaks F settings entry) all_rules a → IsFirst (Breaks G settings entry) all_rules a
quiet_agrees F G h settings entry needs f g a b =
    let back = orders_agree-sym F G h in
    elim b [
      | inl p ↦ inl (backwards-facts_agree F G h settings entry p.0, p.1)
      | inr q ↦ inr (
        (λ x. q.0 (backwards-facts_agree G F back settings entry x)),
        elim q.1 as (λ u. IsFirst (Breaks G settings entry) (NotUp ∷ Ended ∷ late_rules) a) [
          | inl p ↦ inl (breaks_up-facts_agree F G h settings entry p.0, p.1)
          | inr r ↦ inr (
            (λ x. r.0 (breaks_up-facts_agree G F back settings entry x)),
            elim r.1 as (λ u. IsFirst (Breaks G settings entry) (Ended ∷ late_rules) a) [
              | inl p ↦ absurd (let d : true ≡ false = sym p.0.0 ∙ needs in cc)
              | inr s ↦
                  let none : a ≡ None = never_none (Breaks F settings entry) late_rules a f s.1 in
                  let never : Breaks G settings entry Ended → ⊥ = λ x. (let d : true ≡ false = sym x.0 ∙ needs in cc) in
                  inr (never, subst (λ c. IsFirst (Breaks G settings entry) late_rules c) (sym none) (none_never (Breaks G settings entry) late_rules g))
            ],
          )
        ],
      )
    ]

-- Directly after `down`, the facts of order decide.
module _ (F G : Facts) (h : OrdersAgree F G) (down : F.HasDown) (f : F.FollowsDown) (g : G.FollowsDown) (settings : Parameters) where
  gone_at : (time : ℕ) (event : Event) (a : Option Rule) → IsFirst (Breaks F settings (record { time = time; event = event })) all_rules a → IsFirst (Breaks G settings (record { time = time; event = event })) all_rules a
  gone_at time Up a b = quiet_agrees F G h settings (record { time = time; event = Up }) refl (late_up F f settings time) (late_up G g settings time) a b
  gone_at time event a b = down_agrees F G h settings (record { time = time; event = event }) (inr down) a b

  pub gone_agrees : (entry : Entry) (a : Option Rule) → IsFirst (Breaks F settings entry) all_rules a → IsFirst (Breaks G settings entry) all_rules a
  gone_agrees entry a b = gone_at entry.time entry.event a b

-- If both state that the connection is not established, the first two rules decide.
pub barred_agrees : (F G : Facts) → ((time : ℕ) → F.IsPast time ↔ G.IsPast time) → (settings : Parameters) (entry : Entry) → Breaks F settings entry NotUp → Breaks G settings entry NotUp → (a : Option Rule) → IsFirst (Breaks F settings entry) all_rules a → IsFirst (Breaks G settings entry) all_rules a
barred_agrees F G past settings entry f g a b = elim b [
  | inl p ↦ inl ((past entry.time).0 p.0, p.1)
  | inr q ↦ inr (
    (λ x. q.0 ((past entry.time).1 x)),
    elim q.1 as (λ u. IsFirst (Breaks G settings entry) (NotUp ∷ Ended ∷ late_rules) a) [
      | inl p ↦ inl (g, p.1)
      | inr r ↦ absurd (r.0 f)
    ],
  )
]
