-- The entries of a connection. The other proofs use only the facts about it in this file.
use Rattle.std.proofs.Common.{◌≡◌, ℕ, zero, suc, ◌+◌, ◌-◌, ◌<◌, ◌≤◌, Bool, true, false, cond, ◌||◌, List, [], ◌∷◌, ◌++◌, length, fold, IsTrue, ◌⊎◌, inl, inr, refl, sym, ap, subst, ◌∙◌, arith, zero-add}
use Rattle.std.specs.List.{list_any}
use Rattle.std.proofs.lemmas.Bool.{cases_lt}
use Rattle.std.proofs.lemmas.List.Folds.{list_any_at, list_any-append}
use Rattle.hsms_machine.specs.declared.entry.Entry.{Entry}
use Rattle.hsms_machine.specs.declared.entry.Event.TheVariants.{Up}
use Rattle.hsms_machine.specs.Entry.{entry_at, is_up, IsOnConnection, SomeBefore, connection_of}
use Rattle.hsms_machine.specs.Transaction.{opens, closes, IsOpen}
use Rattle.hsms_machine.specs.View.{up_time_of}

-- Holds if two logs have the same entries before position i.
abbrev pub SameBefore : List Entry → List Entry → ℕ → Type 0
SameBefore log other i = (k : ℕ) → k < i → entry_at log k ≡ entry_at other k

-- ---- tests of entries

bool_split : (b : Bool) → (b ≡ true) ⊎ (b ≡ false)
bool_split true = inl refl
bool_split false = inr refl

not_true : (b : Bool) → (b ≡ true → ⊥) → b ≡ false
not_true true never = absurd (never refl)
not_true false never = refl

-- No entry of the list is an `up`, if a search finds none.
no_up_in : (entries : List Entry) → list_any (λ entry. is_up entry.event) entries ≡ false → (k : ℕ) → k < length entries → is_up (entry_at entries k).event ≡ true → ⊥
no_up_in entries none k lt u =
    let found : list_any (λ entry. is_up entry.event) entries ≡ true = list_any_at (λ (entry : Entry). is_up entry.event) entries k (record { time = 0; event = Up }) lt u in
    let d : true ≡ false = sym found ∙ none in cc

some_case : (x : Entry) (xs : List Entry) (b : Bool) → is_up x.event ≡ b → (list_any (λ entry. is_up entry.event) xs ≡ true → (k : ℕ) × (k < length xs) × (is_up (entry_at xs k).event ≡ true)) → (b || list_any (λ entry. is_up entry.event) xs) ≡ true → (k : ℕ) × (k < length (x ∷ xs)) × (is_up (entry_at (x ∷ xs) k).event ≡ true)
some_case x xs true u later e = (0, omega arith, u)
some_case x xs false u later e =
    let s = later e in
    (suc s.0, (let h : s.0 < length xs = s.1 in omega arith), s.2)

some_up_in : (entries : List Entry) → list_any (λ entry. is_up entry.event) entries ≡ true → (k : ℕ) × (k < length entries) × (is_up (entry_at entries k).event ≡ true)
some_up_in [] e = absurd (let d : false ≡ true = e in cc)
some_up_in (x ∷ xs) e = some_case x xs (is_up x.event) refl (some_up_in xs) e

-- ---- facts about it

-- An entry on the connection of a position is before the position.
pub on-before : (log : List Entry) (k i : ℕ) → IsOnConnection log k i → k < i
unfolding IsOnConnection
on-before log k i h = h.0

-- No `up` is between them.
pub on-no_up : (log : List Entry) (k i : ℕ) → IsOnConnection log k i → (m : ℕ) → k < m → m < i → is_up (entry_at log m).event ≡ false
unfolding IsOnConnection
on-no_up log k i h m after before = not_true (is_up (entry_at log m).event) (h.1 m after before)

-- If no `up` is between them, an entry before the position is on its connection.
pub on-where : (log : List Entry) (k i : ℕ) → k < i → ((m : ℕ) → k < m → m < i → is_up (entry_at log m).event ≡ false) → IsOnConnection log k i
unfolding IsOnConnection
on-where log k i lt none = (lt, (λ m after before u. let d : true ≡ false = sym u ∙ none m after before in cc))

-- The entries before the position decide.
pub on-same : (log other : List Entry) (i : ℕ) → SameBefore log other i → (k : ℕ) → IsOnConnection log k i → IsOnConnection other k i
on-same log other i same k h =
    on-where other k i (on-before log k i h)
    (λ m after before. sym (ap (λ (x : Entry). is_up x.event) (same m before)) ∙ on-no_up log k i h m after before)

-- It is also on the connection of each position between them.
pub on-between : (log : List Entry) (j k i : ℕ) → j < k → k ≤ i → IsOnConnection log j i → IsOnConnection log j k
on-between log j k i lt le h = on-where log j k lt (λ m after before. on-no_up log j i h m after (omega arith))

-- The entry before a position is on the position's connection.
pub on-last : (log : List Entry) (k i : ℕ) → k + 1 ≡ i → IsOnConnection log k i
on-last log k i e = on-where log k i (omega arith) (λ m after before. absurd (omega arith))

-- Holds if the entries of the last connection are those of the log from this position on. They are on the connection of
-- the log's end, and no others are. The first of them is an `up`, or the first of all, and no other is an `up`.
pub record IsFrom (log connection : List Entry) (start : ℕ) : Type 0 where
  pub whole : start + length connection ≡ length log
  pub at : (k : ℕ) → entry_at log (start + k) ≡ entry_at connection k
  pub all_on : (k : ℕ) → k < length connection → IsOnConnection log (start + k) (length log)
  pub no_other : (j : ℕ) → IsOnConnection log j (length log) → start ≤ j
  pub some : 0 < length log → 0 < length connection
  pub first : (start ≡ 0) ⊎ IsTrue (is_up (entry_at connection 0).event)
  pub alone : (k : ℕ) → 0 < k → k < length connection → is_up (entry_at connection k).event ≡ false

-- An entry at the front, if an `up` comes later.
module _ (x : Entry) (xs connection : List Entry) (start : ℕ) (from : IsFrom xs connection start) (later : list_any (λ entry. is_up entry.event) xs ≡ true) where
  up_at : (k : ℕ) × (k < length xs) × (is_up (entry_at xs k).event ≡ true)
  up_at = some_up_in xs later

  on-moved : (k : ℕ) → IsOnConnection xs k (length xs) → IsOnConnection (x ∷ xs) (suc k) (length (x ∷ xs))
  on-moved k h = on-where (x ∷ xs) (suc k) (length (x ∷ xs)) (let lt : k < length xs = on-before xs k (length xs) h in omega arith) (λ m. none_at m) where
    none_at : (m : ℕ) → suc k < m → m < length (x ∷ xs) → is_up (entry_at (x ∷ xs) m).event ≡ false
    none_at zero after before = absurd (omega arith)
    none_at (suc m) after before = on-no_up xs k (length xs) h m (omega arith) (omega arith)

  no_other_later : (j : ℕ) → IsOnConnection (x ∷ xs) j (length (x ∷ xs)) → suc start ≤ j
  no_other_later zero h =
      let lt : up_at.0 < length xs = up_at.1 in
      let none : is_up (entry_at xs up_at.0).event ≡ false = on-no_up (x ∷ xs) 0 (length (x ∷ xs)) h (suc up_at.0) (omega arith) (omega arith) in
      absurd (let d : true ≡ false = sym up_at.2 ∙ none in cc)
  no_other_later (suc j) h =
      let lt : suc j < length (x ∷ xs) = on-before (x ∷ xs) (suc j) (length (x ∷ xs)) h in
      let on : IsOnConnection xs j (length xs) =
      on-where xs j (length xs) (omega arith) (λ m after before. on-no_up (x ∷ xs) (suc j) (length (x ∷ xs)) h (suc m) (omega arith) (omega arith)) in
      let le : start ≤ j = from.no_other j on in
      omega arith

  -- The first entry of the later connection is an `up`, because there is one.
  first_later : start ≡ 0 → is_up (entry_at connection 0).event ≡ true
  first_later z =
      let e : start + up_at.0 ≡ up_at.0 = omega arith in
      let at : entry_at xs up_at.0 ≡ entry_at connection up_at.0 = sym (ap (entry_at xs) e) ∙ from.at up_at.0 in
      let u : is_up (entry_at connection up_at.0).event ≡ true = sym (ap (λ (y : Entry). is_up y.event) at) ∙ up_at.2 in
      let whole : start + length connection ≡ length xs = from.whole in
      let lt : up_at.0 < length xs = up_at.1 in
      elim (cases_lt 0 up_at.0) [
        | inl pos ↦ absurd (let d : true ≡ false = sym u ∙ from.alone up_at.0 pos (omega arith) in cc)
        | inr le ↦
            let n : up_at.0 ≡ 0 = omega arith in
            subst (λ k. is_up (entry_at connection k).event ≡ true) n u
      ]

  from-later : IsFrom (x ∷ xs) connection (suc start)
  from-later =
      let whole : start + length connection ≡ length xs = from.whole in
      record {
        whole = omega arith;
        at = λ k. ap (entry_at (x ∷ xs)) (let e : suc start + k ≡ suc (start + k) = omega arith in e) ∙ from.at k;
        all_on = λ k lt. subst (λ n. IsOnConnection (x ∷ xs) n (length (x ∷ xs))) (let e : suc (start + k) ≡ suc start + k = omega arith in e) (on-moved (start + k) (from.all_on k lt));
        no_other = no_other_later;
        some = λ lt. from.some (let l : up_at.0 < length xs = up_at.1 in omega arith);
        first = inr (elim from.first [ inl z ↦ first_later z | inr u ↦ u ]);
        alone = from.alone;
      }

-- An entry at the front, if no `up` comes later.
module _ (x : Entry) (xs : List Entry) (none : list_any (λ entry. is_up entry.event) xs ≡ false) where
  none_later : (k : ℕ) → 0 < k → k < length (x ∷ xs) → is_up (entry_at (x ∷ xs) k).event ≡ false
  none_later zero pos lt = absurd (omega arith)
  none_later (suc k) pos lt = not_true (is_up (entry_at xs k).event) (no_up_in xs none k (omega arith))

  from-here : IsFrom (x ∷ xs) (x ∷ xs) 0
  from-here = record {
    whole = zero-add (length (x ∷ xs));
    at = λ k. ap (entry_at (x ∷ xs)) (zero-add k);
    all_on = λ k lt. on-where (x ∷ xs) (0 + k) (length (x ∷ xs)) (omega arith) (λ m after before. none_later m (omega arith) before);
    no_other = λ j on. omega arith;
    some = λ lt. lt;
    first = inl refl;
    alone = none_later;
  }

from-empty : IsFrom [] [] 0
from-empty = record {
  whole = zero-add 0;
  at = λ k. ap (entry_at []) (zero-add k);
  all_on = λ k lt. absurd (let l : k < 0 = lt in omega arith);
  no_other = λ j on. omega arith;
  some = λ lt. lt;
  first = inl refl;
  alone = λ k pos lt. absurd (let l : k < 0 = lt in omega arith);
}

connection-later : (x : Entry) (xs : List Entry) (b : Bool) → list_any (λ entry. is_up entry.event) xs ≡ b → connection_of (x ∷ xs) ≡ cond b (connection_of xs) (x ∷ xs)
unfolding connection_of
connection-later x xs b e = ap (λ c. cond c (connection_of xs) (x ∷ xs)) e

pub connection-empty : connection_of [] ≡ []
unfolding connection_of
connection-empty = refl

pub connection-from : (log : List Entry) → (start : ℕ) × IsFrom log (connection_of log) start
connection-from [] = (0, subst (λ c. IsFrom [] c 0) (sym connection-empty) from-empty)
connection-from (x ∷ xs) =
    let rest = connection-from xs in
    elim (bool_split (list_any (λ entry. is_up entry.event) xs)) as (λ u. (start : ℕ) × IsFrom (x ∷ xs) (connection_of (x ∷ xs)) start) [
      | inl later ↦ (suc rest.0, subst (λ c. IsFrom (x ∷ xs) c (suc rest.0)) (sym (connection-later x xs true later)) (from-later x xs (connection_of xs) rest.0 rest.1 later))
      | inr none ↦ (0, subst (λ c. IsFrom (x ∷ xs) c 0) (sym (connection-later x xs false none)) (from-here x xs none))
    ]

-- If no later entry is an `up`, all entries are the connection.
pub connection-whole : (log : List Entry) → ((m : ℕ) → 0 < m → m < length log → is_up (entry_at log m).event ≡ false) → connection_of log ≡ log
connection-whole [] single = connection-empty
connection-whole (x ∷ xs) single = elim (bool_split (list_any (λ entry. is_up entry.event) xs)) [
  | inl later ↦
      let up = some_up_in xs later in
      let lt : up.0 < length xs = up.1 in
      let none : is_up (entry_at xs up.0).event ≡ false = single (suc up.0) (omega arith) (omega arith) in
      absurd (let d : true ≡ false = sym up.2 ∙ none in cc)
  | inr none ↦ connection-later x xs false none
]

push-case : (u later : Bool) (C : List Entry) (x : Entry) (xs : List Entry) (entry : Entry) → cond (later || (u || false)) (cond u (entry ∷ []) (C ++ entry ∷ [])) (x ∷ (xs ++ entry ∷ [])) ≡ cond u (entry ∷ []) (cond later C (x ∷ xs) ++ entry ∷ [])
push-case true true C x xs entry = refl
push-case true false C x xs entry = refl
push-case false true C x xs entry = refl
push-case false false C x xs entry = refl

push-first : (u : Bool) (entry : Entry) → entry ∷ [] ≡ cond u (entry ∷ []) (entry ∷ [])
push-first true entry = refl
push-first false entry = refl

-- The connection of a log with one more entry.
pub connection-push : (log : List Entry) (entry : Entry) → connection_of (log ++ entry ∷ []) ≡ cond (is_up entry.event) (entry ∷ []) (connection_of log ++ entry ∷ [])
connection-push [] entry =
    connection-later entry [] false refl ∙ push-first (is_up entry.event) entry
    ∙ ap (λ c. cond (is_up entry.event) (entry ∷ []) (c ++ entry ∷ [])) (sym connection-empty)
connection-push (x ∷ xs) entry =
    let more = xs ++ entry ∷ [] in
    let any = list_any-append (λ (other : Entry). is_up other.event) xs (entry ∷ []) in
    let later = list_any (λ (other : Entry). is_up other.event) xs in
    connection-later x more (later || (is_up entry.event || false)) any
    ∙ ap (λ c. cond (later || (is_up entry.event || false)) c (x ∷ more)) (connection-push xs entry)
    ∙ push-case (is_up entry.event) later (connection_of xs) x xs entry
    ∙ ap (λ c. cond (is_up entry.event) (entry ∷ []) (c ++ entry ∷ [])) (sym (connection-later x xs later refl))

time-case : (u later : Bool) (C : List Entry) (x : Entry) (xs : List Entry) (time : ℕ) → cond later (entry_at C 0).time (cond u x.time time) ≡ cond (u || later) (entry_at (cond later C (x ∷ xs)) 0).time time
time-case true true C x xs time = refl
time-case true false C x xs time = refl
time-case false true C x xs time = refl
time-case false false C x xs time = refl

-- The time of the last `up` is that of the connection's first entry, if there is an `up`.
up_time-from : (log : List Entry) (time : ℕ) → fold (λ t entry. cond (is_up entry.event) entry.time t) time log ≡ cond (list_any (λ entry. is_up entry.event) log) (entry_at (connection_of log) 0).time time
up_time-from [] time = refl
up_time-from (x ∷ xs) time =
    let later = list_any (λ (other : Entry). is_up other.event) xs in
    up_time-from xs (cond (is_up x.event) x.time time)
    ∙ time-case (is_up x.event) later (connection_of xs) x xs time
    ∙ ap (λ c. cond (is_up x.event || later) (entry_at c 0).time time) (sym (connection-later x xs later refl))

pub up_time-first : (log : List Entry) (k : ℕ) → k < length log → is_up (entry_at log k).event ≡ true → up_time_of log ≡ (entry_at (connection_of log) 0).time
up_time-first log k lt u =
    let any : list_any (λ entry. is_up entry.event) log ≡ true = list_any_at (λ (entry : Entry). is_up entry.event) log k (record { time = 0; event = Up }) lt u in
    up_time-from log 0 ∙ ap (λ b. cond b (entry_at (connection_of log) 0).time 0) any

-- ---- what holds for a log and for its connection

-- Holds if some entry of the list passes the test.
abbrev pub SomeIn : List Entry → (Entry → Bool) → Type 0
SomeIn entries test = (k : ℕ) × (k < length entries) × IsTrue (test (entry_at entries k))

-- Holds if the transaction that the entry at j opened is not closed before position i of the list.
pub record IsOpenIn (entries : List Entry) (j i : ℕ) : Type 0 where
  pub opened : IsTrue (opens (entry_at entries j).event)
  pub earlier : j < i
  pub not_closed : (k : ℕ) → j < k → k < i → IsTrue (closes (entry_at entries j).event (entry_at entries k).event) → ⊥

module _ (log connection : List Entry) (start : ℕ) (from : IsFrom log connection start) where
  -- The position in the connection of a position of the log.
  place : (j : ℕ) → IsOnConnection log j (length log) → (m : ℕ) × (m < length connection) × (j ≡ start + m)
  place j on =
      let before : j < length log = on-before log j (length log) on in
      let le : start ≤ j = from.no_other j on in
      let whole : start + length connection ≡ length log = from.whole in
      (j - start, omega arith, omega arith)

  at_place : (j m : ℕ) → j ≡ start + m → entry_at log j ≡ entry_at connection m
  at_place j m e = ap (entry_at log) e ∙ from.at m

  pub some-in : (test : Entry → Bool) → SomeBefore log (length log) test → SomeIn connection test
  some-in test s =
      let p = place s.0 s.1 in
      (p.0, p.1, subst (λ x. test x ≡ true) (at_place s.0 p.0 p.2) s.2)

  pub some-out : (test : Entry → Bool) → SomeIn connection test → SomeBefore log (length log) test
  some-out test s = (start + s.0, from.all_on s.0 s.1, subst (λ x. test x ≡ true) (sym (from.at s.0)) s.2)

  closes_at : (j k m n : ℕ) → j ≡ start + m → k ≡ start + n → closes (entry_at log j).event (entry_at log k).event ≡ closes (entry_at connection m).event (entry_at connection n).event
  closes_at j k m n e f =
      ap (λ x. closes x.event (entry_at log k).event) (at_place j m e)
      ∙ ap (λ x. closes (entry_at connection m).event x.event) (at_place k n f)

  pub open-in : (j : ℕ) → IsOpen log j (length log) → (m : ℕ) × (j ≡ start + m) × IsOpenIn connection m (length connection)
  open-in j h =
      let p = place j h.earlier in
      let e : j ≡ start + p.0 = p.2 in
      let whole : start + length connection ≡ length log = from.whole in (
        p.0,
        e,
        record {
          opened = subst (λ x. opens x.event ≡ true) (at_place j p.0 e) h.opened;
          earlier = p.1;
          not_closed = λ k lt gt c.
              h.not_closed (start + k) (omega arith) (omega arith) (closes_at j (start + k) p.0 k e refl ∙ c);
        },
      )

  pub open-out : (m : ℕ) → IsOpenIn connection m (length connection) → IsOpen log (start + m) (length log)
  open-out m h =
      let whole : start + length connection ≡ length log = from.whole in
      record {
        opened = subst (λ x. opens x.event ≡ true) (sym (from.at m)) h.opened;
        earlier = from.all_on m h.earlier;
        not_closed = λ k lt gt c.
            h.not_closed (k - start) (omega arith) (omega arith)
            (sym (closes_at (start + m) k m (k - start) refl (omega arith)) ∙ c);
      }
