-- The slots of a map of transactions: those of closed ones are empty.
use Rattle.std.proofs.Common.{◌≡◌, ℕ, ◌+◌, ◌^◌, ◌<◌, ◌≤◌, Bool, true, false, not, ◌==◌, ◌||◌, List, [], ◌∷◌, ◌++◌, Option, Some, None, inl, inr, refl, sym, ap, subst, ◌∙◌, arith, filter, slice_get, slice_set, slice_index_or, swap, length, nat_eq, zero, suc, cond, is_some, length-append, length-set}
use Rattle.std.specs.Prelude.{IfSome}
use Rattle.std.specs.List.{list_any, find, cons_option, position_or_len, IsDistinct, AllByRecursion}
use Rattle.std.specs.Option.{option_flatten, option_map}
use Rattle.std.specs.Cmp.{nat_eq_equiv}
use Rattle.std.specs.Map.{values_of, keys_of, lookup}
use Rattle.std.proofs.lemmas.Bool.{cases_Bool, eqb-true, eq-eqb}
use Rattle.std.proofs.lemmas.Bool.Decides.{nat_tests}
use Rattle.std.proofs.lemmas.List.{set-append_left}
use Rattle.std.proofs.Math.Seq.{set-append_seam}
use Rattle.std.proofs.lemmas.List.Folds.{list_any-append}
use Rattle.std.proofs.lemmas.Map.Entries.{length-values_of}
use Rattle.indexmap.specs.IndexMap.{insert_entry, set_value_at}
use Rattle.hsms_machine.specs.declared.open_transactions.Transaction.{Transaction}
use Rattle.hsms_machine.specs.OpeningOrder.{AreUntil, first_of}
use Rattle.hsms_machine.specs.InnerOpeningOrder.{AreKeyed, AreBelow, AreSince, AreInOrder, AreApart, AreKept, uses, open_in, open_at, first_open}
use Rattle.hsms_machine.proofs.Mapped.{or_parts, filter_none}

-- ---- an appended transaction

pub apart-push : (xs : List Transaction) (opened : Transaction) → AreApart xs → uses opened.header.system xs ≡ false → AreApart (xs ++ opened ∷ [])
apart-push [] opened h fresh = (refl, tt)
apart-push (x ∷ xs) opened h fresh =
    let parts = or_parts (x.header.system == opened.header.system) (uses opened.header.system xs) fresh in
    let other : (opened.header.system == x.header.system) ≡ false = nat_eq_equiv.symm opened.header.system x.header.system ∙ parts.0 in
    let last : uses x.header.system (opened ∷ []) ≡ false = ap (λ b. b || false) other in (
      list_any-append (λ transaction. transaction.header.system == x.header.system) xs (opened ∷ []) ∙ ap (λ b. b || uses x.header.system (opened ∷ [])) h.0 ∙ last,
      apart-push xs opened h.1 parts.1,
    )

since-push : (time : ℕ) (xs : List Transaction) (opened : Transaction) → AreSince time xs → time ≤ opened.time → AreSince time (xs ++ opened ∷ [])
since-push time [] opened h le = (le, tt)
since-push time (x ∷ xs) opened h le = (h.0, since-push time xs opened h.1 le)

pub in_order-push : (xs : List Transaction) (opened : Transaction) → AreInOrder xs → AreUntil opened.time xs → AreInOrder (xs ++ opened ∷ [])
in_order-push [] opened h until = (tt, tt)
in_order-push (x ∷ xs) opened h until = (since-push x.time xs opened h.0 until.0, in_order-push xs opened h.1 until.1)

pub open-push : (slots : List (Option Transaction)) (opened : Transaction) → open_in (slots ++ Some opened ∷ []) ≡ open_in slots ++ opened ∷ []
open-push [] opened = refl
open-push (None ∷ slots) opened = open-push slots opened
open-push (Some x ∷ slots) opened = ap (λ l. x ∷ l) (open-push slots opened)

first-push : (slots : List (Option Transaction)) (opened : Transaction) → first_open (slots ++ Some opened ∷ []) ≡ first_open slots
first-push [] opened = refl
first-push (None ∷ slots) opened = ap suc (first-push slots opened)
first-push (Some x ∷ slots) opened = refl

pub kept-push : (first empty : ℕ) (es more : List (ℕ × Option Transaction)) (opened : Transaction) → AreKept first empty es → values_of more ≡ values_of es ++ Some opened ∷ [] → AreKeyed more → AreBelow (2 ^ 32 + length more) more
    → uses opened.header.system (open_in (values_of es)) ≡ false → AreUntil opened.time (open_in (values_of es)) → AreKept first empty more
kept-push first empty es more opened h is keyed below fresh until =
    let slots = values_of es in
    let open_ones : open_in (values_of more) ≡ open_in slots ++ opened ∷ [] = ap open_in is ∙ open-push slots opened in
    let size : length more ≡ length es + 1 = sym (length-values_of more) ∙ ap length is ∙ length-append slots (Some opened ∷ []) ∙ ap (λ n. n + 1) (length-values_of es) in
    let count : length (open_in (values_of more)) ≡ length (open_in slots) + 1 = ap length open_ones ∙ length-append (open_in slots) (opened ∷ []) in
    record {
      counted = omega (arith, size, count, h.counted);
      starts = h.starts ∙ sym (ap first_open is ∙ first-push slots opened);
      keyed = keyed;
      below = below;
      apart = subst AreApart (sym open_ones) (apart-push (open_in slots) opened h.apart fresh);
      in_order = subst AreInOrder (sym open_ones) (in_order-push (open_in slots) opened h.in_order until);
    }

-- ---- the values of entries

pub values-push : (es : List (ℕ × Option Transaction)) (e : ℕ × Option Transaction) → values_of (es ++ e ∷ []) ≡ values_of es ++ e.1 ∷ []
values-push [] e = refl
values-push (x ∷ xs) e = ap (λ l. x.1 ∷ l) (values-push xs e)

pub values-value : (es : List (ℕ × Option Transaction)) (i : ℕ) (slot : Option Transaction) → values_of (set_value_at es i slot) ≡ slice_set (values_of es) i slot
values-value [] i slot = refl
values-value (e ∷ es) zero slot = refl
values-value (e ∷ es) (suc i) slot = ap (λ l. e.1 ∷ l) (values-value es i slot)

-- An empty slot gets another key.
values-rekeyed : (es : List (ℕ × Option Transaction)) (i k : ℕ) → slice_get (values_of es) i ≡ Some None → values_of (slice_set es i (k, None)) ≡ values_of es
values-rekeyed [] i k e = refl
values-rekeyed (e ∷ es) zero k at =
    let is : None ≡ e.1 = cc in
    ap (λ slot. slot ∷ values_of es) is
values-rekeyed (e ∷ es) (suc i) k at = ap (λ l. e.1 ∷ l) (values-rekeyed es i k at)

-- ---- the keys of entries

keyed-push : (es : List (ℕ × Option Transaction)) (opened : Transaction) → AreKeyed es → opened.header.system < 2 ^ 32 → AreKeyed (es ++ (opened.header.system, Some opened) ∷ [])
keyed-push [] opened h fits = ((refl, fits), tt)
keyed-push (e ∷ es) opened h fits = (h.0, keyed-push es opened h.1 fits)

keyed-rekeyed : (es : List (ℕ × Option Transaction)) (i k : ℕ) → AreKeyed es → AreKeyed (slice_set es i (k, None))
keyed-rekeyed [] i k h = tt
keyed-rekeyed (e ∷ es) zero k h = (tt, h.1)
keyed-rekeyed (e ∷ es) (suc i) k h = (h.0, keyed-rekeyed es i k h.1)

keyed-emptied : (es : List (ℕ × Option Transaction)) (i : ℕ) → AreKeyed es → AreKeyed (set_value_at es i None)
keyed-emptied [] i h = tt
keyed-emptied (e ∷ es) zero h = (tt, h.1)
keyed-emptied (e ∷ es) (suc i) h = (h.0, keyed-emptied es i h.1)

below-more : (n m : ℕ) (es : List (ℕ × Option Transaction)) → n ≤ m → AreBelow n es → AreBelow m es
below-more n m [] le h = tt
below-more n m (e ∷ es) le h =
    let lt : e.0 < n = h.0 in
    (omega arith, below-more n m es le h.1)

below-push : (n : ℕ) (es : List (ℕ × Option Transaction)) (e : ℕ × Option Transaction) → AreBelow n es → e.0 < n → AreBelow n (es ++ e ∷ [])
below-push n [] e h lt = (lt, tt)
below-push n (x ∷ xs) e h lt = (h.0, below-push n xs e h.1 lt)

below-rekeyed : (n : ℕ) (es : List (ℕ × Option Transaction)) (i : ℕ) (e : ℕ × Option Transaction) → AreBelow n es → e.0 < n → AreBelow n (slice_set es i e)
below-rekeyed n [] i e h lt = tt
below-rekeyed n (x ∷ xs) zero e h lt = (lt, h.1)
below-rekeyed n (x ∷ xs) (suc i) e h lt = (h.0, below-rekeyed n xs i e h.1 lt)

below-value : (n : ℕ) (es : List (ℕ × Option Transaction)) (i : ℕ) (slot : Option Transaction) → AreBelow n es → AreBelow n (set_value_at es i slot)
below-value n [] i slot h = tt
below-value n (x ∷ xs) zero slot h = h
below-value n (x ∷ xs) (suc i) slot h = (h.0, below-value n xs i slot h.1)

-- No entry has a key that is not below the limit.
pub lookup-spare : (n k : ℕ) (es : List (ℕ × Option Transaction)) → AreBelow n es → n ≤ k → lookup (nat_eq k) es ≡ None
lookup-spare n k [] h le = refl
lookup-spare n k (e ∷ es) h le =
    let lt : e.0 < n = h.0 in
    let differs : nat_eq k e.0 ≡ false = grind (arith, nat_tests) in
    rw differs (lookup-spare n k es h.1 le)

length-value : (es : List (ℕ × Option Transaction)) (i : ℕ) (slot : Option Transaction) → length (set_value_at es i slot) ≡ length es
length-value [] i slot = refl
length-value (e ∷ es) zero slot = refl
length-value (e ∷ es) (suc i) slot = ap suc (length-value es i slot)

-- ---- a new entry

pub kept-new : (first empty : ℕ) (es : List (ℕ × Option Transaction)) (opened : Transaction) → AreKept first empty es → opened.header.system < 2 ^ 32
    → uses opened.header.system (open_in (values_of es)) ≡ false → AreUntil opened.time (open_in (values_of es)) → AreKept first empty (es ++ (opened.header.system, Some opened) ∷ [])
kept-new first empty es opened h fits fresh until =
    let e : ℕ × Option Transaction = (opened.header.system, Some opened) in
    let size : length (es ++ e ∷ []) ≡ length es + 1 = length-append es (e ∷ []) in
    let more : 2 ^ 32 + length es ≤ 2 ^ 32 + length (es ++ e ∷ []) = omega (arith, size) in
    let fits_more : opened.header.system < 2 ^ 32 + length (es ++ e ∷ []) = omega (arith, fits) in
    kept-push first empty es (es ++ e ∷ []) opened h (values-push es e) (keyed-push es opened h.keyed fits)
    (below-push (2 ^ 32 + length (es ++ e ∷ [])) es e (below-more (2 ^ 32 + length es) (2 ^ 32 + length (es ++ e ∷ [])) es more h.below) fits_more) fresh until

-- ---- an entry in an empty slot with its key

-- The entry with a key.
pub record Placed (es : List (ℕ × Option Transaction)) (key : ℕ) (slot : Option Transaction) : Type 0 where
  pub index : ℕ
  pub is : position_or_len (nat_eq key) (keys_of es) ≡ index
  pub within : index < length es
  pub empty : slice_get (values_of es) index ≡ Some None
  pub entry : slice_get (insert_entry nat_eq es key slot) index ≡ Some (key, slot)
  pub size : length (insert_entry nat_eq es key slot) ≡ length es
  pub below : (limit : ℕ) → AreBelow limit es → AreBelow limit (insert_entry nat_eq es key slot)
  pub rekeyed : (e : ℕ × Option Transaction) → slice_set (insert_entry nat_eq es key slot) index e ≡ slice_set es index e
  pub emptied : set_value_at (insert_entry nat_eq es key slot) index None ≡ es

placed-first : (x : ℕ × Option Transaction) (xs : List (ℕ × Option Transaction)) (key : ℕ) (slot : Option Transaction) → nat_eq key x.0 ≡ true → x.1 ≡ None → Placed (x ∷ xs) key slot
placed-first x xs key slot same there = record {
  index = 0;
  is = ap (λ b. cond (not b) (1 + position_or_len (nat_eq key) (keys_of xs)) 0) same;
  within = omega arith;
  empty = ap (λ s. Some s) there;
  entry = rw same (ap (λ k. Some (k, slot)) (sym (eqb-true key x.0 same)));
  size = rw same refl;
  below = λ limit h. rw same h;
  rekeyed = λ other. rw same refl;
  emptied = rw same (ap (λ s. (x.0, s) ∷ xs) (sym there));
}

placed-next : (x : ℕ × Option Transaction) (xs : List (ℕ × Option Transaction)) (key : ℕ) (slot : Option Transaction) → nat_eq key x.0 ≡ false → Placed xs key slot → Placed (x ∷ xs) key slot
placed-next x xs key slot differs rest = record {
  index = suc rest.index;
  is = ap (λ b. cond (not b) (1 + position_or_len (nat_eq key) (keys_of xs)) 0) differs ∙ ap (λ n. 1 + n) rest.is ∙ omega arith;
  within = omega (arith, rest.within);
  empty = rest.empty;
  entry = rw differs rest.entry;
  size = rw differs (ap suc rest.size);
  below = λ limit h. rw differs (h.0, rest.below limit h.1);
  rekeyed = λ other. rw differs (ap (λ l. x ∷ l) (rest.rekeyed other));
  emptied = rw differs (ap (λ l. x ∷ l) rest.emptied);
}

pub placed : (es : List (ℕ × Option Transaction)) (key : ℕ) (slot : Option Transaction) → lookup (nat_eq key) es ≡ Some None → Placed es key slot
placed [] key slot e = absurd cc
placed (x ∷ xs) key slot e = elim (cases_Bool (nat_eq key x.0)) [
  | inl same ↦ placed-first x xs key slot same (let found : Some x.1 ≡ Some None = sym (ap (λ b. cond b (Some x.1) (lookup (nat_eq key) xs)) same) ∙ e in cc)
  | inr differs ↦ placed-next x xs key slot differs (placed xs key slot (sym (ap (λ b. cond b (Some x.1) (lookup (nat_eq key) xs)) differs) ∙ e))
]

-- If no open transaction has the system bytes of a slot, the slot is empty.
pub unused-empty : (system : ℕ) (es : List (ℕ × Option Transaction)) (slot : Option Transaction) → AreKeyed es → uses system (open_in (values_of es)) ≡ false → lookup (nat_eq system) es ≡ Some slot → slot ≡ None
unused-empty system [] slot keyed unused found = absurd cc
unused-empty system (e ∷ es) slot keyed unused found = elim (cases_Bool (nat_eq system e.0)) [
  | inl same ↦ here e.1 keyed.0 unused same (sym (ap (λ b. cond b (Some e.1) (lookup (nat_eq system) es)) same) ∙ found)
  | inr differs ↦ unused-empty system es slot keyed.1 (later e.1 unused) (sym (ap (λ b. cond b (Some e.1) (lookup (nat_eq system) es)) differs) ∙ found)
]
  where
    here : (own : Option Transaction) → IfSome own (λ opened. (e.0 ≡ opened.header.system) × (e.0 < 2 ^ 32)) → uses system (cons_option own (open_in (values_of es))) ≡ false → nat_eq system e.0 ≡ true → Some own ≡ Some slot → slot ≡ None
    here None is none same at = cc
    here (Some opened) is none same at =
        let its : e.0 ≡ opened.header.system = is.0 in
        let differs : (opened.header.system == system) ≡ false = (or_parts (opened.header.system == system) (uses system (open_in (values_of es))) none).0 in
        let agrees : (opened.header.system == system) ≡ true = grind (arith, nat_tests) in
        absurd (let d : true ≡ false = sym agrees ∙ differs in cc)

    later : (own : Option Transaction) → uses system (cons_option own (open_in (values_of es))) ≡ false → uses system (open_in (values_of es)) ≡ false
    later None none = none
    later (Some opened) none = (or_parts (opened.header.system == system) (uses system (open_in (values_of es))) none).1

-- What an insertion returns: nothing under a new key,
pub new_by : (before found : Option (Option Transaction)) → before ≡ found → is_some before ≡ false → found ≡ None
new_by None found is none = sym is
new_by (Some slot) found is none = absurd (let d : true ≡ false = none in cc)

-- or the slot that it replaces.
pub placed_by : (es : List (ℕ × Option Transaction)) (opened : Transaction) (before : Option (Option Transaction)) → AreKeyed es → uses opened.header.system (open_in (values_of es)) ≡ false → before ≡ lookup (nat_eq opened.header.system) es → is_some before ≡ true
    → Placed es opened.header.system (Some opened)
placed_by es opened None keyed unused is some = absurd (let d : false ≡ true = some in cc)
placed_by es opened (Some slot) keyed unused is some =
    placed es opened.header.system (Some opened) (sym is ∙ ap (λ s. Some s) (unused-empty opened.header.system es slot keyed unused (sym is)))

-- The entries once the transaction is moved to the end.
abbrev pub moved : List (ℕ × Option Transaction) → ℕ → Transaction → List (ℕ × Option Transaction)
moved es i opened = slice_set es i (2 ^ 32 + length es, None) ++ (opened.header.system, Some opened) ∷ []

pub moved-entries : (es : List (ℕ × Option Transaction)) (opened : Transaction) (p : Placed es opened.header.system (Some opened)) (index : ℕ) (inserted left : List (ℕ × Option Transaction)) → index ≡ p.index → inserted ≡ insert_entry nat_eq es opened.header.system (Some opened)
    → ((slot : ℕ × Option Transaction) → slice_get inserted index ≡ Some slot → left ≡ slice_set inserted index (2 ^ 32 + length inserted, None) ++ slot ∷ []) → left ≡ moved es p.index opened
moved-entries es opened p index inserted left at is has =
    let e : ℕ × Option Transaction = (opened.header.system, Some opened) in
    let entry : slice_get inserted index ≡ Some e = (λ i. slice_get (is i) (at i)) ∙ p.entry in
    let size : length inserted ≡ length es = ap length is ∙ p.size in
    let slots : slice_set inserted index (2 ^ 32 + length inserted, None) ≡ slice_set es p.index (2 ^ 32 + length es, None) = (λ i. slice_set (is i) (at i) (2 ^ 32 + size i, None)) ∙ p.rekeyed (2 ^ 32 + length es, None) in
    has e entry ∙ ap (λ l. l ++ e ∷ []) slots

pub left-entries : (es : List (ℕ × Option Transaction)) (opened : Transaction) (p : Placed es opened.header.system (Some opened)) (index : ℕ) (inserted left : List (ℕ × Option Transaction)) → index ≡ p.index → inserted ≡ insert_entry nat_eq es opened.header.system (Some opened)
    → left ≡ set_value_at inserted index None → left ≡ es
left-entries es opened p index inserted left at is has = has ∙ (λ i. set_value_at (is i) (at i) None) ∙ p.emptied

pub values-moved : (es : List (ℕ × Option Transaction)) (i : ℕ) (opened : Transaction) → slice_get (values_of es) i ≡ Some None → values_of (moved es i opened) ≡ values_of es ++ Some opened ∷ []
values-moved es i opened at =
    values-push (slice_set es i (2 ^ 32 + length es, None)) (opened.header.system, Some opened) ∙ ap (λ l. l ++ Some opened ∷ []) (values-rekeyed es i (2 ^ 32 + length es) at)

pub kept-moved : (first empty : ℕ) (es : List (ℕ × Option Transaction)) (i : ℕ) (opened : Transaction) → AreKept first empty es → slice_get (values_of es) i ≡ Some None → opened.header.system < 2 ^ 32
    → uses opened.header.system (open_in (values_of es)) ≡ false → AreUntil opened.time (open_in (values_of es)) → AreKept first empty (moved es i opened)
kept-moved first empty es i opened h at fits fresh until =
    let spare : ℕ × Option Transaction = (2 ^ 32 + length es, None) in
    let e : ℕ × Option Transaction = (opened.header.system, Some opened) in
    let size : length (moved es i opened) ≡ length es + 1 = length-append (slice_set es i spare) (e ∷ []) ∙ ap (λ n. n + 1) (length-set es i spare) in
    let limit : ℕ = 2 ^ 32 + length (moved es i opened) in
    let later : 2 ^ 32 + length es ≤ 2 ^ 32 + length (moved es i opened) = omega (arith, size) in
    let spare_fits : 2 ^ 32 + length es < 2 ^ 32 + length (moved es i opened) = omega (arith, size) in
    let system_fits : opened.header.system < 2 ^ 32 + length (moved es i opened) = omega (arith, fits) in
    let more : AreBelow limit es = below-more (2 ^ 32 + length es) limit es later h.below in
    kept-push first empty es (moved es i opened) opened h (values-moved es i opened at) (keyed-push (slice_set es i spare) opened (keyed-rekeyed es i (2 ^ 32 + length es) h.keyed) fits)
    (below-push limit (slice_set es i spare) e (below-rekeyed limit es i spare more spare_fits) system_fits) fresh until

-- ---- the exchange of an entry and the last one

index-of : {X : Type 0} (xs : List X) (i : ℕ) (x y d : X) → slice_get xs i ≡ Some y → slice_index_or (xs ++ x ∷ []) i d ≡ y
index-of [] i x y d e = absurd cc
index-of (z ∷ zs) zero x y d e = cc
index-of (z ∷ zs) (suc i) x y d e = index-of zs i x y d e

last_of : {X : Type 0} (xs : List X) (x d : X) → slice_index_or (xs ++ x ∷ []) (length xs) d ≡ x
last_of [] x d = refl
last_of (y ∷ ys) x d = last_of ys x d

pub swap-last : {X : Type 0} (xs : List X) (i : ℕ) (x y : X) → slice_get xs i ≡ Some y → i < length xs → swap (xs ++ x ∷ []) i (length xs) ≡ slice_set xs i x ++ y ∷ []
swap-last [] i x y e lt = absurd cc
swap-last (z ∷ zs) i x y e lt =
    let xs = z ∷ zs in
    let other = ap (λ w. slice_set (slice_set (xs ++ x ∷ []) i w) (length xs) (slice_index_or (xs ++ x ∷ []) i z)) (last_of xs x z) in
    let own = ap (λ w. slice_set (slice_set (xs ++ x ∷ []) i x) (length xs) w) (index-of xs i x y z e) in
    let front = ap (λ l. slice_set l (length xs) y) (set-append_left xs (x ∷ []) i x lt) in
    let size = ap (λ n. slice_set (slice_set xs i x ++ x ∷ []) n y) (sym (length-set xs i x)) in
    other ∙ own ∙ front ∙ size ∙ set-append_seam (slice_set xs i x) x [] y

-- ---- a transaction by its index

pub at-first : (slots : List (Option Transaction)) → open_at slots (first_open slots) ≡ first_of (open_in slots)
at-first [] = refl
at-first (None ∷ slots) = at-first slots
at-first (Some x ∷ slots) = refl

pub at-value : (slots : List (Option Transaction)) (i : ℕ) → open_at slots i ≡ option_flatten (slice_get slots i)
at-value [] i = refl
at-value (slot ∷ slots) zero = refl
at-value (slot ∷ slots) (suc i) = at-value slots i

pub at-entry : (es : List (ℕ × Option Transaction)) (i : ℕ) → open_at (values_of es) i ≡ option_flatten (option_map (λ e. e.1) (slice_get es i))
at-entry [] i = refl
at-entry (e ∷ es) zero = refl
at-entry (e ∷ es) (suc i) = at-entry es i

pub none-at : {A : Type 0} (o : Option A) → false ≡ is_some o → o ≡ None
none-at None e = refl
none-at (Some x) e = absurd (let d : false ≡ true = e in cc)

pub at-within : (slots : List (Option Transaction)) (i : ℕ) (opened : Transaction) → open_at slots i ≡ Some opened → i < length slots
at-within [] i opened e = absurd cc
at-within (slot ∷ slots) zero opened e = omega arith
at-within (slot ∷ slots) (suc i) opened e = let lt = at-within slots i opened e in omega (arith, lt)

-- ---- the first open one

pub first-within : (slots : List (Option Transaction)) → first_open slots ≤ length slots
first-within [] = omega arith
first-within (None ∷ slots) = let le = first-within slots in omega (arith, le)
first-within (Some x ∷ slots) = omega arith

pub first-here : (slots : List (Option Transaction)) (i : ℕ) (opened : Transaction) → i ≤ first_open slots → open_at slots i ≡ Some opened → i ≡ first_open slots
first-here [] i opened le e = absurd cc
first-here (None ∷ slots) zero opened le e = absurd cc
first-here (Some x ∷ slots) zero opened le e = refl
first-here (None ∷ slots) (suc i) opened le e = ap suc (first-here slots i opened (omega (arith, le)) e)
first-here (Some x ∷ slots) (suc i) opened le e = absurd (omega (arith, le))

pub first-later : (slots : List (Option Transaction)) (i : ℕ) → i ≤ first_open slots → open_at slots i ≡ None → i < length slots → i + 1 ≤ first_open slots
first-later [] i le e lt = absurd (omega (arith, lt))
first-later (None ∷ slots) zero le e lt = omega arith
first-later (Some x ∷ slots) zero le e lt = absurd cc
first-later (None ∷ slots) (suc i) le e lt = let later = first-later slots i (omega (arith, le)) e (omega (arith, lt)) in omega (arith, later)
first-later (Some x ∷ slots) (suc i) le e lt = absurd (omega (arith, le))

-- ---- a look-up by system bytes

find-first : (test : Transaction → Bool) (xs : List Transaction) (opened : Transaction) → first_of xs ≡ Some opened → test opened ≡ true → find test xs ≡ Some opened
find-first test [] opened e is = absurd cc
find-first test (x ∷ xs) opened e is =
    let same : opened ≡ x = cc in
    let here : test x ≡ true = subst (λ y. test y ≡ true) same is in
    rw here e

find-none : (test : Transaction → Bool) (xs : List Transaction) → first_of xs ≡ None → find test xs ≡ None
find-none test [] e = refl
find-none test (x ∷ xs) e = absurd cc

pub find-oldest : (system : ℕ) (slots : List (Option Transaction)) (first : ℕ) (opened : Transaction) → first ≡ first_open slots → open_at slots first ≡ Some opened → (opened.header.system == system) ≡ true → find (λ other. other.header.system == system) (open_in slots) ≡ Some opened
find-oldest system slots first opened is at same =
    find-first (λ other. other.header.system == system) (open_in slots) opened (sym (ap (open_at slots) is ∙ at-first slots) ∙ at) same

pub find-empty : (system : ℕ) (slots : List (Option Transaction)) (first : ℕ) → first ≡ first_open slots → open_at slots first ≡ None → find (λ other. other.header.system == system) (open_in slots) ≡ None
find-empty system slots first is at =
    find-none (λ other. other.header.system == system) (open_in slots) (sym (ap (open_at slots) is ∙ at-first slots) ∙ at)

find-other : (system key : ℕ) (es : List (ℕ × Option Transaction)) → AreKeyed es → nat_eq system key ≡ true → AllByRecursion (λ other. nat_eq key other ≡ false) (keys_of es) → find (λ opened. opened.header.system == system) (open_in (values_of es)) ≡ None
find-other system key [] keyed same apart = refl
find-other system key (e ∷ es) keyed same apart = by_case e.1 keyed.0 (find-other system key es keyed.1 same apart.1)
  where
    by_case : (slot : Option Transaction) → IfSome slot (λ opened. (e.0 ≡ opened.header.system) × (e.0 < 2 ^ 32)) → find (λ opened. opened.header.system == system) (open_in (values_of es)) ≡ None → find (λ opened. opened.header.system == system) (cons_option slot (open_in (values_of es))) ≡ None
    by_case None is later = later
    by_case (Some opened) is later =
        let apart_here : nat_eq key e.0 ≡ false = apart.0 in
        let its : e.0 ≡ opened.header.system = is.0 in
        let differs : (opened.header.system == system) ≡ false = grind (arith, nat_tests) in
        rw differs later

pub find-lookup : (system : ℕ) (es : List (ℕ × Option Transaction)) → AreKeyed es → IsDistinct nat_eq (keys_of es) → find (λ opened. opened.header.system == system) (open_in (values_of es)) ≡ option_flatten (lookup (nat_eq system) es)
unfolding IsDistinct
find-lookup system [] keyed distinct = refl
find-lookup system (e ∷ es) keyed distinct = elim (cases_Bool (nat_eq system e.0)) [
  | inl same ↦ rw same (at_key e.1 keyed.0 same (find-other system e.0 es keyed.1 same distinct.0))
  | inr differs ↦ rw differs (at_other e.1 keyed.0 differs (find-lookup system es keyed.1 distinct.1))
]
  where
    at_key : (slot : Option Transaction) → IfSome slot (λ opened. (e.0 ≡ opened.header.system) × (e.0 < 2 ^ 32)) → nat_eq system e.0 ≡ true → find (λ opened. opened.header.system == system) (open_in (values_of es)) ≡ None → find (λ opened. opened.header.system == system) (cons_option slot (open_in (values_of es))) ≡ slot
    at_key None is same later = later
    at_key (Some opened) is same later =
        let its : e.0 ≡ opened.header.system = is.0 in
        let here : (opened.header.system == system) ≡ true = grind (arith, nat_tests) in
        rw here refl

    at_other : (slot : Option Transaction) → IfSome slot (λ opened. (e.0 ≡ opened.header.system) × (e.0 < 2 ^ 32)) → nat_eq system e.0 ≡ false → find (λ opened. opened.header.system == system) (open_in (values_of es)) ≡ option_flatten (lookup (nat_eq system) es) → find (λ opened. opened.header.system == system) (cons_option slot (open_in (values_of es))) ≡ option_flatten (lookup (nat_eq system) es)
    at_other None is differs later = later
    at_other (Some opened) is differs later =
        let its : e.0 ≡ opened.header.system = is.0 in
        let not_here : (opened.header.system == system) ≡ false = grind (arith, nat_tests) in
        rw not_here later

-- ---- a closed transaction

or_right : (a b : Bool) → b ≡ true → (a || b) ≡ true
or_right true b e = refl
or_right false b e = e

used_in : (slots : List (Option Transaction)) (i : ℕ) (opened : Transaction) → open_at slots i ≡ Some opened → uses opened.header.system (open_in slots) ≡ true
used_in [] i opened e = absurd cc
used_in (None ∷ slots) zero opened e = absurd cc
used_in (Some x ∷ slots) zero opened e =
    let same : opened ≡ x = cc in
    let here : (x.header.system == opened.header.system) ≡ true = eq-eqb x.header.system opened.header.system (ap (λ (y : Transaction). y.header.system) (sym same)) in
    rw here refl
used_in (None ∷ slots) (suc i) opened e = used_in slots i opened e
used_in (Some x ∷ slots) (suc i) opened e = or_right (x.header.system == opened.header.system) (uses opened.header.system (open_in slots)) (used_in slots i opened e)

-- Emptying its slot closes the transaction with its system bytes.
pub closed_at : (slots : List (Option Transaction)) (i : ℕ) (opened : Transaction) → AreApart (open_in slots) → open_at slots i ≡ Some opened → open_in (slice_set slots i None) ≡ filter (λ other. not (other.header.system == opened.header.system)) (open_in slots)
closed_at [] i opened apart e = absurd cc
closed_at (None ∷ slots) zero opened apart e = absurd cc
closed_at (Some x ∷ slots) zero opened apart e =
    let same : x ≡ opened = cc in
    let here : (x.header.system == opened.header.system) ≡ true = eq-eqb x.header.system opened.header.system (ap (λ (y : Transaction). y.header.system) same) in
    let unused : uses opened.header.system (open_in slots) ≡ false = subst (λ (y : Transaction). uses y.header.system (open_in slots) ≡ false) same apart.0 in
    rw here (sym (filter_none (λ other. other.header.system == opened.header.system) (open_in slots) unused))
closed_at (None ∷ slots) (suc i) opened apart e = closed_at slots i opened apart e
closed_at (Some x ∷ slots) (suc i) opened apart e =
    let used : uses opened.header.system (open_in slots) ≡ true = used_in slots i opened e in
    elim (cases_Bool (x.header.system == opened.header.system)) [
      | inl same ↦
          let unused : uses opened.header.system (open_in slots) ≡ false = subst (λ s. uses s (open_in slots) ≡ false) (eqb-true x.header.system opened.header.system same) apart.0 in
          absurd (let d : true ≡ false = sym used ∙ unused in cc)
      | inr differs ↦ rw differs (ap (λ l. x ∷ l) (closed_at slots i opened apart.1 e))
    ]

close-count : (slots : List (Option Transaction)) (i : ℕ) (opened : Transaction) → open_at slots i ≡ Some opened → length (open_in (slice_set slots i None)) + 1 ≡ length (open_in slots)
close-count [] i opened e = absurd cc
close-count (None ∷ slots) zero opened e = absurd cc
close-count (Some x ∷ slots) zero opened e = omega arith
close-count (None ∷ slots) (suc i) opened e = close-count slots i opened e
close-count (Some x ∷ slots) (suc i) opened e = let h = close-count slots i opened e in omega (arith, h)

pub close-first : (slots : List (Option Transaction)) (i : ℕ) → first_open slots ≤ first_open (slice_set slots i None)
close-first [] i = omega arith
close-first (None ∷ slots) zero = omega arith
close-first (Some x ∷ slots) zero = omega arith
close-first (None ∷ slots) (suc i) = let le = close-first slots i in omega (arith, le)
close-first (Some x ∷ slots) (suc i) = omega arith

module _ (test : Transaction → Bool) where
  uses-filter : (system : ℕ) (xs : List Transaction) → uses system xs ≡ false → uses system (filter test xs) ≡ false
  uses-filter system [] h = refl
  uses-filter system (x ∷ xs) h = by_case (uses-filter system xs parts.1) (test x)
    where
      parts : ((x.header.system == system) ≡ false) × (uses system xs ≡ false)
      parts = or_parts (x.header.system == system) (uses system xs) h

      by_case : uses system (filter test xs) ≡ false → (b : Bool) → uses system (cond b (x ∷ filter test xs) (filter test xs)) ≡ false
      by_case later true = ap (λ c. c || uses system (filter test xs)) parts.0 ∙ later
      by_case later false = later

  pub apart-filter : (xs : List Transaction) → AreApart xs → AreApart (filter test xs)
  apart-filter [] h = tt
  apart-filter (x ∷ xs) h = by_case (apart-filter xs h.1) (test x)
    where
      by_case : AreApart (filter test xs) → (b : Bool) → AreApart (cond b (x ∷ filter test xs) (filter test xs))
      by_case later true = (uses-filter x.header.system xs h.0, later)
      by_case later false = later

  since-filter : (time : ℕ) (xs : List Transaction) → AreSince time xs → AreSince time (filter test xs)
  since-filter time [] h = tt
  since-filter time (x ∷ xs) h = by_case (since-filter time xs h.1) (test x)
    where
      by_case : AreSince time (filter test xs) → (b : Bool) → AreSince time (cond b (x ∷ filter test xs) (filter test xs))
      by_case later true = (h.0, later)
      by_case later false = later

  pub in_order-filter : (xs : List Transaction) → AreInOrder xs → AreInOrder (filter test xs)
  in_order-filter [] h = tt
  in_order-filter (x ∷ xs) h = by_case (in_order-filter xs h.1) (test x)
    where
      by_case : AreInOrder (filter test xs) → (b : Bool) → AreInOrder (cond b (x ∷ filter test xs) (filter test xs))
      by_case later true = (since-filter x.time xs h.0, later)
      by_case later false = later

pub open-closed : (first empty : ℕ) (es : List (ℕ × Option Transaction)) (i : ℕ) (opened : Transaction) → AreKept first empty es → open_at (values_of es) i ≡ Some opened
    → open_in (values_of (set_value_at es i None)) ≡ filter (λ other. not (other.header.system == opened.header.system)) (open_in (values_of es))
open-closed first empty es i opened h at = ap open_in (values-value es i None) ∙ closed_at (values_of es) i opened h.apart at

pub kept-closed : (first empty more next : ℕ) (es : List (ℕ × Option Transaction)) (i : ℕ) (opened : Transaction) → AreKept first empty es → open_at (values_of es) i ≡ Some opened → more ≡ empty + 1 → next ≡ first_open (values_of (set_value_at es i None))
    → AreKept next more (set_value_at es i None)
kept-closed first empty more next es i opened h at one starts =
    let slots = values_of es in
    let test : Transaction → Bool = λ other. not (other.header.system == opened.header.system) in
    let is = open-closed first empty es i opened h at in
    let count : length (open_in (values_of (set_value_at es i None))) + 1 ≡ length (open_in slots) = ap (λ l. length (open_in l) + 1) (values-value es i None) ∙ close-count slots i opened at in
    let size = length-value es i None in
    record {
      counted = omega (arith, count, size, one, h.counted);
      starts = starts;
      keyed = keyed-emptied es i h.keyed;
      below = subst (λ n. AreBelow (2 ^ 32 + n) (set_value_at es i None)) (sym size) (below-value (2 ^ 32 + length es) es i None h.below);
      apart = subst AreApart (sym is) (apart-filter test (open_in slots) h.apart);
      in_order = subst AreInOrder (sym is) (in_order-filter test (open_in slots) h.in_order);
    }

pub first-emptied : (es : List (ℕ × Option Transaction)) (i first : ℕ) → first ≡ first_open (values_of es) → first ≤ first_open (values_of (set_value_at es i None))
first-emptied es i first is =
    let le : first_open (values_of es) ≤ first_open (slice_set (values_of es) i None) = close-first (values_of es) i in
    subst (λ n. n ≤ first_open (values_of (set_value_at es i None))) (sym is) (subst (λ l. first_open (values_of es) ≤ first_open l) (sym (values-value es i None)) le)

-- Nothing is removed if none passes.
pub filter-of : (test : Transaction → Bool) (xs ys : List Transaction) → xs ≡ ys → list_any test xs ≡ false → ys ≡ filter (λ x. not (test x)) ys
filter-of test xs ys is none = sym (filter_none test ys (ap (list_any test) (sym is) ∙ none))

pub found_passes : (test : Transaction → Bool) (opened : Transaction) (xs : List Transaction) → find test xs ≡ Some opened → test opened ≡ true
found_passes test opened [] e = absurd cc
found_passes test opened (x ∷ xs) e = by_case (found_passes test opened xs) (test x) refl e
  where
    by_case : (find test xs ≡ Some opened → test opened ≡ true) → (b : Bool) → test x ≡ b → cond b (Some x) (find test xs) ≡ Some opened → test opened ≡ true
    by_case later true t e =
        let same : x ≡ opened = cc in
        subst (λ y. test y ≡ true) same t
    by_case later false t e = later e

pub kept-none : AreKept 0 0 []
kept-none = record { counted = refl; starts = refl; keyed = tt; below = tt; apart = tt; in_order = tt }

-- ---- the sweep

module _ (e : ℕ × Option Transaction) (es : List (ℕ × Option Transaction)) where
  -- The entries that remain, if the first one has this slot.
  abbrev left : Option Transaction → List (ℕ × Option Transaction)
  left slot = cond (is_some slot) (e ∷ filter (λ x. is_some x.1) es) (filter (λ x. is_some x.1) es)

  left-open : (slot : Option Transaction) → e.1 ≡ slot → open_in (values_of (filter (λ x. is_some x.1) es)) ≡ open_in (values_of es) → open_in (values_of (left slot)) ≡ cons_option slot (open_in (values_of es))
  left-open None is h = h
  left-open (Some x) is h = ap (λ slot. cons_option slot (open_in (values_of (filter (λ x. is_some x.1) es)))) is ∙ ap (λ l. x ∷ l) h

  left-count : (slot : Option Transaction) → length (filter (λ x. is_some x.1) es) ≡ length (open_in (values_of es)) → length (left slot) ≡ length (cons_option slot (open_in (values_of es)))
  left-count None h = h
  left-count (Some x) h = ap suc h

  left-first : (slot : Option Transaction) → e.1 ≡ slot → first_open (values_of (filter (λ x. is_some x.1) es)) ≡ 0 → first_open (values_of (left slot)) ≡ 0
  left-first None is h = h
  left-first (Some x) is h = ap (λ slot. cond (is_some slot) 0 (suc (first_open (values_of (filter (λ x. is_some x.1) es))))) is

  left-keyed : (slot : Option Transaction) → AreKeyed (e ∷ []) → AreKeyed (filter (λ x. is_some x.1) es) → AreKeyed (left slot)
  left-keyed None here h = h
  left-keyed (Some x) here h = (here.0, h)

  left-below : (n : ℕ) (slot : Option Transaction) → e.1 ≡ slot → IfSome e.1 (λ opened. (e.0 ≡ opened.header.system) × (e.0 < 2 ^ 32)) → AreBelow (2 ^ 32 + n) (filter (λ x. is_some x.1) es) → AreBelow (2 ^ 32 + n) (left slot)
  left-below n None is here h = h
  left-below n (Some x) is here h =
      let its : IfSome (Some x) (λ opened. (e.0 ≡ opened.header.system) × (e.0 < 2 ^ 32)) = subst (λ slot. IfSome slot (λ opened. (e.0 ≡ opened.header.system) × (e.0 < 2 ^ 32))) is here in
      let lt : e.0 < 2 ^ 32 = its.1 in
      (omega (arith, lt), h)

pub open-swept : (es : List (ℕ × Option Transaction)) → open_in (values_of (filter (λ e. is_some e.1) es)) ≡ open_in (values_of es)
open-swept [] = refl
open-swept (e ∷ es) = left-open e es e.1 refl (open-swept es)

count-swept : (es : List (ℕ × Option Transaction)) → length (filter (λ e. is_some e.1) es) ≡ length (open_in (values_of es))
count-swept [] = refl
count-swept (e ∷ es) = left-count e es e.1 (count-swept es)

first-swept : (es : List (ℕ × Option Transaction)) → first_open (values_of (filter (λ e. is_some e.1) es)) ≡ 0
first-swept [] = refl
first-swept (e ∷ es) = left-first e es e.1 refl (first-swept es)

keyed-swept : (es : List (ℕ × Option Transaction)) → AreKeyed es → AreKeyed (filter (λ e. is_some e.1) es)
keyed-swept [] h = tt
keyed-swept (e ∷ es) h = left-keyed e es e.1 (h.0, tt) (keyed-swept es h.1)

below-swept : (n : ℕ) (es : List (ℕ × Option Transaction)) → AreKeyed es → AreBelow (2 ^ 32 + n) (filter (λ e. is_some e.1) es)
below-swept n [] h = tt
below-swept n (e ∷ es) h = left-below e es n e.1 refl h.0 (below-swept n es h.1)

pub kept-swept : (first empty : ℕ) (es : List (ℕ × Option Transaction)) → AreKept first empty es → AreKept 0 0 (filter (λ e. is_some e.1) es)
kept-swept first empty es h =
    let left_ones = filter (λ (e : ℕ × Option Transaction). is_some e.1) es in
    let is = open-swept es in
    let count : length (open_in (values_of left_ones)) ≡ length (open_in (values_of es)) = ap length is in
    let size : length left_ones ≡ length (open_in (values_of es)) = count-swept es in
    record {
      counted = omega (arith, count, size);
      starts = sym (first-swept es);
      keyed = keyed-swept es h.keyed;
      below = below-swept (length left_ones) es h.keyed;
      apart = subst AreApart (sym is) h.apart;
      in_order = subst AreInOrder (sym is) h.in_order;
    }
