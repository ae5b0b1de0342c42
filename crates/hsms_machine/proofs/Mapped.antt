-- The open transactions of a map, by the list of its values.
use Rattle.std.proofs.Common.{◌≡◌, ℕ, ◌+◌, ◌-◌, ◌^◌, ◌<◌, ◌≤◌, min, Bool, true, false, not, cond, ◌==◌, ◌&&◌, ◌||◌, List, [], ◌∷◌, Option, Some, None, is_some, inl, inr, refl, sym, ap, subst, ◌∙◌, arith, filter, nat_lt, nat_le, length}
use Rattle.std.specs.Prelude.{IfSome, IfNone}
use Rattle.std.specs.Bool.{then_some}
use Rattle.std.specs.List.{AllByRecursion, list_any, find, cons_option}
use Rattle.std.specs.Map.{values_of}
use Rattle.std.proofs.lemmas.Bool.{cases_Bool, and_parts, or_cases, eqb-true, eq-eqb, ltb-true, ltb-false, lt-ltb, le-ltb, leb-true, le-leb}
use Rattle.hsms_frame.specs.Header.{kind_of}
use Rattle.hsms_frame.specs.declared.header.Header.{Header}
use Rattle.hsms_machine.specs.declared.open_transactions.Transaction.{Transaction}
use Rattle.hsms_frame.specs.declared.kinds.Kind.{Kind}
use Rattle.hsms_frame.specs.declared.kinds.Kind.TheVariants.{Primary, Reply, SelectReq, SelectRsp, LinktestReq, LinktestRsp, Reject}
use Rattle.hsms_machine.specs.Message.{is_reject_kind, is_response_kind}
use Rattle.hsms_machine.specs.InnerMessage.{may_conclude}
use Rattle.hsms_machine.specs.Transaction.{passes, answers, answers_kind, rejects, concludes}
use Rattle.hsms_machine.specs.Timer.{due_at, due_times, least_of, least_in}
use Rattle.hsms_machine.specs.OpeningOrder.{IsOrdered, AreUntil, first_of}
use Rattle.hsms_machine.specs.InnerOpeningOrder.{AreSince, AreInOrder, AreApart, uses}

-- The parts of an `
--
-- ` that is false.
pub or_parts : (a b : Bool) → (a || b) ≡ false → (a ≡ false) × (b ≡ false)
or_parts true b e = absurd (let d : true ≡ false = e in cc)
or_parts false b e = (refl, e)

pub or_false : (a b : Bool) → b ≡ false → (a || b) ≡ a
or_false true b e = refl
or_false false b e = e

-- ---- a look-up by system bytes

some_cond : (b : Bool) (x : Transaction) (r : Option Transaction) (c : Bool) → is_some r ≡ c → is_some (cond b (Some x) r) ≡ (b || c)
some_cond true x r c e = refl
some_cond false x r c e = e

pub find-some : (test : Transaction → Bool) (xs : List Transaction) → is_some (find test xs) ≡ list_any test xs
find-some test [] = refl
find-some test (x ∷ xs) = some_cond (test x) x (find test xs) (list_any test xs) (find-some test xs)

found_case : (test : Transaction → Bool) (x opened : Transaction) (xs : List Transaction) (b : Bool) → test x ≡ b → (find test xs ≡ Some opened → list_any (λ other. test other && (other.time == opened.time)) xs ≡ true) → cond b (Some x) (find test xs) ≡ Some opened → ((b && (x.time == opened.time)) || list_any (λ other. test other && (other.time == opened.time)) xs) ≡ true
found_case test x opened xs true t later e =
    let is : x ≡ opened = cc in
    let same : (x.time == opened.time) ≡ true = eq-eqb x.time opened.time (ap (λ (y : Transaction). y.time) is) in
    rw same refl
found_case test x opened xs false t later e = later e

pub found_any : (test : Transaction → Bool) (opened : Transaction) (xs : List Transaction) → find test xs ≡ Some opened → list_any (λ other. test other && (other.time == opened.time)) xs ≡ true
found_any test opened [] e = absurd cc
found_any test opened (x ∷ xs) e = found_case test x opened xs (test x) refl (found_any test opened xs) e

-- ---- a test that only the transaction of some system bytes can pass

module _ (test : Transaction → Bool) (system : ℕ) (only : (x : Transaction) → test x ≡ true → x.header.system ≡ system) where
  other_fails : (x : Transaction) → (x.header.system == system) ≡ false → test x ≡ false
  other_fails x differs = elim (cases_Bool (test x)) [
    | inl t ↦ absurd (let d : true ≡ false = sym (eq-eqb x.header.system system (only x t)) ∙ differs in cc)
    | inr f ↦ f
  ]

  pub any_none : (xs : List Transaction) → uses system xs ≡ false → list_any test xs ≡ false
  any_none [] none = refl
  any_none (x ∷ xs) none =
      let parts = or_parts (x.header.system == system) (uses system xs) none in
      let here : test x ≡ false = other_fails x parts.0 in
      rw here (any_none xs parts.1)

  -- No other transaction has the system bytes of the first.
  unused_after : (x : Transaction) (xs : List Transaction) → (x.header.system == system) ≡ true → uses x.header.system xs ≡ false → uses system xs ≡ false
  unused_after x xs is apart = subst (λ s. uses s xs ≡ false) (eqb-true x.header.system system is) apart

  pub any_at : (xs : List Transaction) → AreApart xs → list_any test xs ≡ passes test (find (λ opened. opened.header.system == system) xs)
  any_at [] apart = refl
  any_at (x ∷ xs) apart = elim (cases_Bool (x.header.system == system)) [
    | inl is ↦ rw is (or_false (test x) (list_any test xs) (any_none xs (unused_after x xs is apart.0)))
    | inr differs ↦
        let here : test x ≡ false = other_fails x differs in
        rw (differs, here) (any_at xs apart.1)
  ]

-- Among those with the system bytes, the rest of a test decides.
pub passes_found : (test : Transaction → Bool) (system : ℕ) (xs : List Transaction) → passes (λ opened. (opened.header.system == system) && test opened) (find (λ opened. opened.header.system == system) xs) ≡ passes test (find (λ opened. opened.header.system == system) xs)
passes_found test system [] = refl
passes_found test system (x ∷ xs) = by_case (passes_found test system xs) (x.header.system == system) refl
  where
    by_case : passes (λ opened. (opened.header.system == system) && test opened) (find (λ opened. opened.header.system == system) xs) ≡ passes test (find (λ opened. opened.header.system == system) xs) → (b : Bool) → (x.header.system == system) ≡ b → passes (λ opened. (opened.header.system == system) && test opened) (cond b (Some x) (find (λ opened. opened.header.system == system) xs)) ≡ passes test (cond b (Some x) (find (λ opened. opened.header.system == system) xs))
    by_case later true e = ap (λ c. c && test x) e
    by_case later false e = later

pub due_only : (system now limit : ℕ) (x : Transaction) → ((x.header.system == system) && nat_le limit (now - x.time)) ≡ true → x.header.system ≡ system
due_only system now limit x e = eqb-true x.header.system system (and_parts (x.header.system == system) (nat_le limit (now - x.time)) e).0

pub answers_only : (response : Header) (x : Transaction) → answers x.header response ≡ true → x.header.system ≡ response.system
unfolding answers
answers_only response x e =
    sym (eqb-true response.system x.header.system (and_parts (response.system == x.header.system) (answers_kind (kind_of x.header) (kind_of response) x.header response) e).0)

rejects_only : (other : Header) (x : Transaction) → rejects x.header other ≡ true → x.header.system ≡ other.system
unfolding rejects
rejects_only other x e =
    sym (eqb-true other.system x.header.system (and_parts (other.system == x.header.system) (is_reject_kind (kind_of other)) e).0)

pub concludes_only : (other : Header) (x : Transaction) → concludes x.header other ≡ true → x.header.system ≡ other.system
concludes_only other x e = elim (or_cases (answers x.header other) (rejects x.header other) e) [
  | inl a ↦ answers_only other x a
  | inr r ↦ rejects_only other x r
]

-- So it is with a time.
pub timed_only : (other : Header) (time : ℕ) (x : Transaction) → (concludes x.header other && (x.time == time)) ≡ true → x.header.system ≡ other.system
timed_only other time x e = concludes_only other x (and_parts (concludes x.header other) (x.time == time) e).0

pub timed_here : (b : Bool) (time : ℕ) → b ≡ true → (b && (time == time)) ≡ true
timed_here b time e = rw e (eq-eqb time time refl)

pub filter_none : (test : Transaction → Bool) (xs : List Transaction) → list_any test xs ≡ false → filter (λ x. not (test x)) xs ≡ xs
filter_none test [] none = refl
filter_none test (x ∷ xs) none =
    let parts = or_parts (test x) (list_any test xs) none in
    rw parts.0 (ap (λ l. x ∷ l) (filter_none test xs parts.1))

module _ (test : Transaction → Bool) (system : ℕ) (only : (x : Transaction) → test x ≡ true → x.header.system ≡ system) where
  -- If one passes, it is the one with the system bytes.
  pub filter_one : (xs : List Transaction) → AreApart xs → list_any test xs ≡ true → filter (λ x. not (x.header.system == system)) xs ≡ filter (λ x. not (test x)) xs
  filter_one [] apart some = refl
  filter_one (x ∷ xs) apart some = elim (cases_Bool (x.header.system == system)) [
    | inl is ↦
        let unused : uses system xs ≡ false = unused_after test system only x xs is apart.0 in
        let none : list_any test xs ≡ false = any_none test system only xs unused in
        let here : test x ≡ true = sym (or_false (test x) (list_any test xs) none) ∙ some in
        rw (is, here) (filter_none (λ opened. opened.header.system == system) xs unused ∙ sym (filter_none test xs none))
    | inr differs ↦
        let here : test x ≡ false = other_fails test system only x differs in
        let later : list_any test xs ≡ true = sym (ap (λ b. b || list_any test xs) here) ∙ some in
        rw (differs, here) (ap (λ l. x ∷ l) (filter_one xs apart.1 later))
  ]

-- ---- no message of another kind ends a transaction

answers_none : (request other : Kind) (one two : Header) → (is_response_kind other || is_reject_kind other) ≡ false → answers_kind request other one two ≡ false
answers_none Primary Reply one two e = absurd (let d : true ≡ false = e in cc)
answers_none SelectReq SelectRsp one two e = absurd (let d : true ≡ false = e in cc)
answers_none LinktestReq LinktestRsp one two e = absurd (let d : true ≡ false = e in cc)
answers_none request other one two e = refl

rejects_none : (other : Kind) → (is_response_kind other || is_reject_kind other) ≡ false → is_reject_kind other ≡ false
rejects_none Reject e = absurd (let d : true ≡ false = e in cc)
rejects_none other e = refl

neither : (a b : Bool) → a ≡ false → b ≡ false → (a || b) ≡ false
neither true b e f = absurd (let d : true ≡ false = e in cc)
neither false b e f = f

and_false : (a b : Bool) → b ≡ false → (a && b) ≡ false
and_false true b e = e
and_false false b e = refl

concludes_none : (request other : Header) → may_conclude other ≡ false → concludes request other ≡ false
unfolding may_conclude answers rejects
concludes_none request other e =
    neither _ _ (and_false _ _ (answers_none (kind_of request) (kind_of other) request other e)) (and_false _ _ (rejects_none (kind_of other) e))

pub any_concluded-none : (other : Header) → may_conclude other ≡ false → (xs : List Transaction) → list_any (λ opened. concludes opened.header other) xs ≡ false
any_concluded-none other e [] = refl
any_concluded-none other e (x ∷ xs) = neither _ _ (concludes_none x.header other e) (any_concluded-none other e xs)

pub any_empty : (test : Transaction → Bool) (es : List (ℕ × Transaction)) → length es ≡ 0 → list_any test (values_of es) ≡ false
any_empty test [] e = refl
any_empty test (x ∷ es) e = absurd (omega arith)

-- ---- they are in order

all_since : (time : ℕ) (xs : List Transaction) → AreSince time xs → AllByRecursion (λ other. time ≤ other.time) xs
all_since time [] h = tt
all_since time (x ∷ xs) h = (h.0, all_since time xs h.1)

all_apart : (system : ℕ) (xs : List Transaction) → uses system xs ≡ false → AllByRecursion (λ other. (other.header.system == system) ≡ false) xs
all_apart system [] none = tt
all_apart system (x ∷ xs) none =
    let parts = or_parts (x.header.system == system) (uses system xs) none in
    (parts.0, all_apart system xs parts.1)

pub ordered : (moment : ℕ) (xs : List Transaction) → AreUntil moment xs → AreInOrder xs → AreApart xs → IsOrdered moment xs
ordered moment [] until in_order apart = tt
ordered moment (x ∷ xs) until in_order apart = (
  until.0,
  all_since x.time xs in_order.0,
  all_apart x.header.system xs apart.0,
  ordered moment xs until.1 in_order.1 apart.1,
)

-- ---- the first is the oldest

module _ (test : ℕ → Bool) (falls : (a b : ℕ) → a ≤ b → test b ≡ true → test a ≡ true) where
  none_since : (time : ℕ) → test time ≡ false → (xs : List Transaction) → AreSince time xs → list_any (λ opened. test opened.time) xs ≡ false
  none_since time none [] h = refl
  none_since time none (x ∷ xs) h = elim (cases_Bool (test x.time)) [
    | inl t ↦ absurd (let d : true ≡ false = sym (falls time x.time h.0 t) ∙ none in cc)
    | inr f ↦ rw f (none_since time none xs h.1)
  ]

  pub any_first : (xs : List Transaction) → AreInOrder xs → list_any (λ opened. test opened.time) xs ≡ passes (λ opened. test opened.time) (first_of xs)
  any_first [] h = refl
  any_first (x ∷ xs) h = elim (cases_Bool (test x.time)) [
    | inl t ↦ rw t refl
    | inr f ↦ rw f (none_since x.time f xs h.0)
  ]

pub overdue_falls : (now limit a b : ℕ) → a ≤ b → nat_lt limit (now - b) ≡ true → nat_lt limit (now - a) ≡ true
overdue_falls now limit a b le late =
    let h : limit < now - b = ltb-true limit (now - b) late in
    lt-ltb limit (now - a) (omega arith)

pub due_falls : (now limit a b : ℕ) → a ≤ b → nat_le limit (now - b) ≡ true → nat_le limit (now - a) ≡ true
due_falls now limit a b le late =
    let h : limit ≤ now - b = leb-true limit (now - b) late in
    le-leb limit (now - a) (omega arith)

module _ (limit : ℕ) where
  -- The due time of a transaction, if there is one.
  abbrev pub due_of : Option Transaction → Option ℕ
  due_of None = None
  due_of (Some opened) = due_at limit opened.time

  no_due : (time : ℕ) → nat_lt (time + limit) (2 ^ 64) ≡ false → (xs : List Transaction) → AreSince time xs → due_times limit xs ≡ []
  no_due time far [] h = refl
  no_due time far (x ∷ xs) h =
      let above : 2 ^ 64 ≤ time + limit = ltb-false (time + limit) (2 ^ 64) far in
      let le : time ≤ x.time = h.0 in
      let here : nat_lt (x.time + limit) (2 ^ 64) ≡ false = le-ltb (x.time + limit) (2 ^ 64) (omega arith) in
      rw here (no_due time far xs h.1)

  -- The time is none, or not before this one.
  abbrev IsNotBefore : ℕ → Option ℕ → Type 0
  IsNotBefore moment None = Unit {0}
  IsNotBefore moment (Some other) = moment ≤ other

  not_before_cons : (moment one : ℕ) (rest : Option ℕ) → moment ≤ one → IsNotBefore moment rest → IsNotBefore moment (least_of (Some one) rest)
  not_before_cons moment one None le h = le
  not_before_cons moment one (Some other) le h = omega arith

  not_before_option : (moment one : ℕ) (b : Bool) (rest : List ℕ) → moment ≤ one → IsNotBefore moment (least_in rest) → IsNotBefore moment (least_in (cons_option (cond b (Some one) None) rest))
  not_before_option moment one true rest le h = not_before_cons moment one (least_in rest) le h
  not_before_option moment one false rest le h = h

  due_since : (time : ℕ) (xs : List Transaction) → AreSince time xs → IsNotBefore (time + limit) (least_in (due_times limit xs))
  due_since time [] h = tt
  due_since time (x ∷ xs) h =
      let le : time ≤ x.time = h.0 in
      not_before_option (time + limit) (x.time + limit) (nat_lt (x.time + limit) (2 ^ 64)) (due_times limit xs) (omega arith) (due_since time xs h.1)

  least_first : (moment : ℕ) (rest : Option ℕ) → IsNotBefore moment rest → least_of (Some moment) rest ≡ Some moment
  least_first moment None h = refl
  least_first moment (Some other) h = ap (λ n. Some n) (let e : min moment other ≡ moment = omega arith in e)

  pub due_first : (xs : List Transaction) → AreInOrder xs → least_in (due_times limit xs) ≡ due_of (first_of xs)
  due_first [] h = refl
  due_first (x ∷ xs) h = elim (cases_Bool (nat_lt (x.time + limit) (2 ^ 64))) [
    | inl near ↦ rw near (least_first (x.time + limit) (least_in (due_times limit xs)) (due_since x.time xs h.0))
    | inr far ↦ rw far (ap least_in (no_due x.time far xs h.0))
  ]

-- ---- what a test decides

module _ {A : Type 0} where
  pub some_where : (b : Bool) (x : A) (r : Option A) (P : A → Type 0) → r ≡ then_some b x → (b ≡ true → P x) → IfSome r P
  some_where true x r P is holds = let Q : Option A → Type 0 = λ o. IfSome o P in subst Q (sym is) (holds refl)
  some_where false x r P is holds = let Q : Option A → Type 0 = λ o. IfSome o P in subst Q (sym is) tt

  pub none_where : (b : Bool) (x : A) (r : Option A) (P : Type 0) → r ≡ then_some b x → (b ≡ false → P) → IfNone r P
  none_where true x r P is fails = let Q : Option A → Type 0 = λ o. IfNone o P in subst Q (sym is) tt
  none_where false x r P is fails = let Q : Option A → Type 0 = λ o. IfNone o P in subst Q (sym is) (fails refl)
