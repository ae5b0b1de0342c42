-- Logs of several connections.
use Rattle.std.proofs.Common.{◌≡◌, ◌++◌, ◌+◌, ◌-◌, ◌<◌, ◌≤◌, ℕ, zero, suc, List, [], ◌∷◌, length, take, drop, get_or, refl, sym, ◌∙◌, ap, subst, inl, inr, arith}
use Rattle.std.specs.Prelude.{◌⊎◌, ◌==◌, ◌&&◌, Bool, true, false, if◌then◌else◌, Some}
use Rattle.std.proofs.lemmas.List.{append-nil, append_assoc, take_more, drop_more, drop_all, drop-drop, length-drop, nil_from_length}
use Rattle.std.proofs.lemmas.Bool.{cases_lt}
use Rattle.hsms_machine.specs.declared.entry.Entry.{Entry}
use Rattle.hsms_machine.specs.Entry.{is_up}
use Rattle.hsms_compare.specs.declared.contradiction.Contradiction.{Contradiction}
use Rattle.hsms_compare.specs.Agreement.{CanAgree, FirstContradiction, is_open}
use Rattle.hsms_compare.specs.Connections.{CanAgreeBefore, CanAgreeFirst, CanAgreeThroughout, IsFirstIn, first_connection, from_connection, from_up, is_open_first, later_connections, until_up}

-- ---- the first connection, entry by entry

-- Up to i no later entry is an `up`.
pub record IsWithin (log : List Entry) (i : ℕ) : Type 0 where
  pub prefix : first_connection log ≡ take i log ++ until_up (drop i log)
  pub rest : later_connections log ≡ from_up (drop i log)

pub within_one : (log : List Entry) → IsWithin log 1
within_one [] = record { prefix = refl; rest = refl }
within_one (entry ∷ log) = record { prefix = refl; rest = refl }

until_is : (x : Entry) (log : List Entry) (b : Bool) → is_up x.event ≡ b → until_up (x ∷ log) ≡ (if b then [] else x ∷ until_up log)
until_is x log b e = ap (λ (c : Bool). if c then [] else x ∷ until_up log) e

from_is : (x : Entry) (log : List Entry) (b : Bool) → is_up x.event ≡ b → from_up (x ∷ log) ≡ (if b then x ∷ log else from_up log)
from_is x log b e = ap (λ (c : Bool). if c then x ∷ log else from_up log) e

module _ (log : List Entry) (i : ℕ) (x : Entry) (there : i < length log) (x_is : x ≡ get_or log i x) where
  split : drop i log ≡ x ∷ drop (i + 1) log
  split = drop_more log i x there ∙ ap (λ (y : Entry). y ∷ drop (i + 1) log) (sym x_is)

  pub within_more : is_up x.event ≡ false → IsWithin log i → IsWithin log (i + 1)
  within_more e w = record {
    prefix = w.prefix ∙ ap (λ y. take i log ++ until_up y) split ∙ ap (λ y. take i log ++ y) (until_is x (drop (i + 1) log) false e)
        ∙ sym (append_assoc (take i log) (x ∷ []) (until_up (drop (i + 1) log)))
        ∙ ap (λ y. y ++ until_up (drop (i + 1) log)) (ap (λ (y : Entry). take i log ++ y ∷ []) x_is ∙ sym (take_more log i x there));
    rest = w.rest ∙ ap from_up split ∙ from_is x (drop (i + 1) log) false e;
  }

  pub prefix_here : is_up x.event ≡ true → IsWithin log i → take i log ≡ first_connection log
  prefix_here e w =
      sym (w.prefix ∙ ap (λ y. take i log ++ until_up y) split ∙ ap (λ y. take i log ++ y) (until_is x (drop (i + 1) log) true e) ∙ append-nil (take i log))

  pub rest_here : is_up x.event ≡ true → IsWithin log i → drop i log ≡ later_connections log
  rest_here e w = split ∙ sym (w.rest ∙ ap from_up split ∙ from_is x (drop (i + 1) log) true e)

pub prefix_all : (log : List Entry) (i : ℕ) → length log ≤ i → IsWithin log i → take i log ≡ first_connection log
prefix_all log i le w = sym (w.prefix ∙ ap (λ y. take i log ++ until_up y) (drop_all i log le) ∙ append-nil (take i log))

pub rest_all : (log : List Entry) (i : ℕ) → length log ≤ i → IsWithin log i → drop i log ≡ later_connections log
rest_all log i le w = drop_all i log le ∙ sym (w.rest ∙ ap from_up (drop_all i log le))

-- ---- connection by connection

from_connection-more : (k : ℕ) (log : List Entry) → from_connection (suc k) log ≡ later_connections (from_connection k log)
from_connection-more zero log = refl
from_connection-more (suc k) log = from_connection-more k (later_connections log)

none_left : (k : ℕ) → from_connection k [] ≡ []
none_left zero = refl
none_left (suc k) = none_left k

from_connection-add : (k m : ℕ) (log : List Entry) → from_connection (k + m) log ≡ from_connection m (from_connection k log)
from_connection-add zero m log = ap (λ n. from_connection n log) (let e : 0 + m ≡ m = omega arith in e)
from_connection-add (suc k) m log = ap (λ n. from_connection n log) (let e : suc k + m ≡ suc (k + m) = omega arith in e) ∙ from_connection-add k m (later_connections log)

-- The remaining entries of both logs, after k connections that agree.
pub record HasConsumed (host equipment host_left equipment_left : List Entry) : Type 0 where
  pub k : ℕ
  pub before : CanAgreeBefore k host equipment
  pub at_host : host_left ≡ from_connection k host
  pub at_equipment : equipment_left ≡ from_connection k equipment

pub none_consumed : (host equipment : List Entry) → HasConsumed host equipment host equipment
none_consumed host equipment = record { k = 0; before = λ m lt. absurd (omega arith); at_host = refl; at_equipment = refl }

can_agree_as : (a a' b b' : Bool) (x x' y y' : List Entry) → a ≡ a' → b ≡ b' → x ≡ x' → y ≡ y' → CanAgree a b x y → CanAgree a' b' x' y'
can_agree_as a a' b b' x x' y y' e f g h c =
    let P : Bool → Type 0 = λ z. CanAgree z b x y in
    let Q : Bool → Type 0 = λ z. CanAgree a' z x y in
    let R : List Entry → Type 0 = λ z. CanAgree a' b' z y in
    let S : List Entry → Type 0 = λ z. CanAgree a' b' x' z in
    subst S h (subst R g (subst Q f (subst P e c)))

contradicts_as : (a a' b b' : Bool) (x x' y y' : List Entry) (found : Contradiction) → a ≡ a' → b ≡ b' → x ≡ x' → y ≡ y' → FirstContradiction a b x y (Some found) → FirstContradiction a' b' x' y' (Some found)
contradicts_as a a' b b' x x' y y' found e f g h c =
    let P : Bool → Type 0 = λ z. FirstContradiction z b x y (Some found) in
    let Q : Bool → Type 0 = λ z. FirstContradiction a' z x y (Some found) in
    let R : List Entry → Type 0 = λ z. FirstContradiction a' b' z y (Some found) in
    let S : List Entry → Type 0 = λ z. FirstContradiction a' b' x' z (Some found) in
    subst S h (subst R g (subst Q f (subst P e c)))

-- A log's first connection and what follows it, as they were split.
pub record IsSplit (left part rest : List Entry) (may_go_on : Bool) : Type 0 where
  pub part_so : part ≡ first_connection left
  pub rest_so : rest ≡ later_connections left
  pub open_so : may_go_on ≡ ((length rest == 0) && is_open part)

open_first : (left part rest : List Entry) (may_go_on : Bool) → IsSplit left part rest may_go_on → may_go_on ≡ is_open_first left
open_first left part rest may_go_on s =
    s.open_so ∙ ap (λ x. (length x == 0) && is_open part) s.rest_so
    ∙ ap (λ x. (length (later_connections left) == 0) && is_open x) s.part_so

pub one_consumed : (host equipment host_left equipment_left host_part equipment_part host_rest equipment_rest : List Entry) (host_open equipment_open : Bool) → HasConsumed host equipment host_left equipment_left → IsSplit host_left host_part host_rest host_open → IsSplit equipment_left equipment_part equipment_rest equipment_open → CanAgree host_open equipment_open host_part equipment_part → HasConsumed host equipment host_rest equipment_rest
one_consumed host equipment host_left equipment_left host_part equipment_part host_rest equipment_rest host_open equipment_open g s t agree =
    let here : CanAgreeFirst host_left equipment_left =
    can_agree_as host_open (is_open_first host_left) equipment_open (is_open_first equipment_left) host_part (first_connection host_left) equipment_part (first_connection equipment_left)
    (open_first host_left host_part host_rest host_open s) (open_first equipment_left equipment_part equipment_rest equipment_open t) s.part_so t.part_so agree in
    record {
      k = suc g.k;
      before = λ m lt.
          elim (cases_lt m g.k) [
            | inl l ↦ g.before m l
            | inr ge ↦
                let at : g.k ≡ m = omega arith in
                let P : List Entry → Type 0 = λ x. CanAgreeFirst x equipment_left in
                let Q : List Entry → Type 0 = λ x. CanAgreeFirst (from_connection m host) x in
                subst Q (g.at_equipment ∙ ap (λ n. from_connection n equipment) at) (subst P (g.at_host ∙ ap (λ n. from_connection n host) at) here)
          ];
      at_host = s.rest_so ∙ ap later_connections g.at_host ∙ sym (from_connection-more g.k host);
      at_equipment = t.rest_so ∙ ap later_connections g.at_equipment ∙ sym (from_connection-more g.k equipment);
    }

empty_after : (log left : List Entry) (k m : ℕ) → left ≡ from_connection k log → left ≡ [] → k ≤ m → from_connection m log ≡ []
empty_after log left k m at none le =
    ap (λ n. from_connection n log) (let e : m ≡ k + (m - k) = omega arith in e)
    ∙ from_connection-add k (m - k) log ∙ ap (λ x. from_connection (m - k) x) (sym at ∙ none) ∙ none_left (m - k)

no_entries : (log left : List Entry) (k m : ℕ) → left ≡ from_connection k log → length left ≡ 0 → k ≤ m → 0 < length (from_connection m log) → ⊥
no_entries log left k m at none le some =
    let e = ap length (empty_after log left k m at (nil_from_length left none) le) in
    omega arith

pub all_consumed : (host equipment host_left equipment_left : List Entry) → HasConsumed host equipment host_left equipment_left → (length host_left ≡ 0) ⊎ (length equipment_left ≡ 0) → CanAgreeThroughout host equipment
all_consumed host equipment host_left equipment_left g none m some some_too =
    elim (cases_lt m g.k) [
      | inl l ↦ g.before m l
      | inr ge ↦ elim none [
        | inl no_host ↦ absurd (no_entries host host_left g.k m g.at_host no_host ge some)
        | inr no_equipment ↦ absurd (no_entries equipment equipment_left g.k m g.at_equipment no_equipment ge some_too)
      ]
    ]

-- The remaining entries are those after a position.
pub record IsAfter (log left : List Entry) : Type 0 where
  pub position : ℕ
  pub within : position ≤ length log
  pub left_so : left ≡ drop position log

pub after_all : (log : List Entry) → IsAfter log log
after_all log = record { position = 0; within = omega arith; left_so = refl }

pub after_more : (log left later : List Entry) (n : ℕ) → IsAfter log left → n ≤ length left → later ≡ drop n left → IsAfter log later
after_more log left later n b le e =
    let l = ap length b.left_so in
    let m = length-drop b.position log in
    let w = b.within in
    record { position = b.position + n; within = omega arith; left_so = e ∙ ap (λ x. drop n x) b.left_so ∙ drop-drop n b.position log }

after_position : (log left : List Entry) → IsAfter log left → drop (length log - length left) log ≡ left
after_position log left b =
    let l = ap length b.left_so in
    let m = length-drop b.position log in
    let w = b.within in
    ap (λ n. drop n log) (let e : length log - length left ≡ b.position = omega arith in e) ∙ sym b.left_so

pub is_first_in : (host equipment host_left equipment_left host_part equipment_part host_rest equipment_rest : List Entry) (host_open equipment_open : Bool) (found : Contradiction) → HasConsumed host equipment host_left equipment_left → IsAfter host host_left → IsAfter equipment equipment_left → IsSplit host_left host_part host_rest host_open → IsSplit equipment_left equipment_part equipment_rest equipment_open → FirstContradiction host_open equipment_open host_part equipment_part (Some found) → IsFirstIn host equipment (record { host = length host - length host_left; equipment = length equipment - length equipment_left; contradiction = found })
is_first_in host equipment host_left equipment_left host_part equipment_part host_rest equipment_rest host_open equipment_open found g b b' s t first =
    record {
      k = g.k;
      before = g.before;
      at_host = after_position host host_left b ∙ g.at_host;
      at_equipment = after_position equipment equipment_left b' ∙ g.at_equipment;
      contradicts = contradicts_as host_open (is_open_first (from_connection g.k host)) equipment_open (is_open_first (from_connection g.k equipment))
          host_part (first_connection (from_connection g.k host)) equipment_part (first_connection (from_connection g.k equipment)) found
          (open_first host_left host_part host_rest host_open s ∙ ap is_open_first g.at_host)
          (open_first equipment_left equipment_part equipment_rest equipment_open t ∙ ap is_open_first g.at_equipment)
          (s.part_so ∙ ap first_connection g.at_host) (t.part_so ∙ ap first_connection g.at_equipment) first;
    }
