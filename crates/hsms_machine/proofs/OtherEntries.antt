-- The oldest open transaction may be stored outside the map.
use Rattle.std.proofs.Common.{◌≡◌, ℕ, ◌-◌, ◌^◌, ◌<◌, ◌≤◌, Bool, true, false, not, ◌==◌, List, [], ◌∷◌, ◌++◌, Option, Some, None, refl, sym, ap, subst, ◌∙◌, arith, filter, length, cond, option_to_list, append_assoc}
use Rattle.std.specs.List.{find}
use Rattle.std.proofs.lemmas.Bool.{eqb-true}
use Rattle.std.proofs.lemmas.List.Elements.{filter-append}
use Rattle.hsms_machine.specs.declared.open_transactions.Transaction.{Transaction}
use Rattle.hsms_machine.specs.OpeningOrder.{AreUntil}
use Rattle.hsms_machine.specs.InnerOpeningOrder.{AreInOrder, AreApart, AreListed, uses}
use Rattle.hsms_machine.proofs.Mapped.{or_parts, or_false, any_none, filter_none}
use Rattle.hsms_machine.proofs.KeptTransactions.{apart-push, in_order-push, apart-filter, in_order-filter}

-- ---- some system bytes

used_alone : (system : ℕ) (opened : Transaction) (b : Bool) → uses system (opened ∷ []) ≡ b → (opened.header.system == system) ≡ b
used_alone system opened b used = sym (or_false (opened.header.system == system) false refl) ∙ used

pub found_oldest : (system : ℕ) (oldest : Option Transaction) (xs : List Transaction) → uses system (option_to_list oldest) ≡ true → oldest ≡ find (λ opened. opened.header.system == system) (option_to_list oldest ++ xs)
found_oldest system None xs used = absurd (let d : false ≡ true = used in cc)
found_oldest system (Some opened) xs used = let is = used_alone system opened true used in rw is refl

pub found_later : (system : ℕ) (oldest : Option Transaction) (xs : List Transaction) → uses system (option_to_list oldest) ≡ false → find (λ opened. opened.header.system == system) xs ≡ find (λ opened. opened.header.system == system) (option_to_list oldest ++ xs)
found_later system None xs unused = refl
found_later system (Some opened) xs unused = let differs = used_alone system opened false unused in rw differs refl

-- If the oldest has them, no later one does.
later_unused : (system : ℕ) (oldest : Option Transaction) (xs : List Transaction) → AreApart (option_to_list oldest ++ xs) → uses system (option_to_list oldest) ≡ true → uses system xs ≡ false
later_unused system None xs apart used = absurd (let d : false ≡ true = used in cc)
later_unused system (Some opened) xs apart used =
    subst (λ s. uses s xs ≡ false) (eqb-true opened.header.system system (used_alone system opened true used)) apart.0

-- The transaction with the system bytes is removed.
pub oldest_out : (system : ℕ) (oldest : Option Transaction) → uses system (option_to_list oldest) ≡ true → [] ≡ filter (λ x. not (x.header.system == system)) (option_to_list oldest)
oldest_out system None used = refl
oldest_out system (Some opened) used = let is = used_alone system opened true used in rw is refl

-- ---- what remains by a test that only the transaction with some system bytes fails

module _ (test : Transaction → Bool) (system : ℕ) (only : (x : Transaction) → test x ≡ true → x.header.system ≡ system) where
  pub filter_oldest : (oldest left : Option Transaction) (xs : List Transaction) → AreApart (option_to_list oldest ++ xs) → uses system (option_to_list oldest) ≡ true → option_to_list left ≡ filter (λ x. not (test x)) (option_to_list oldest)
      → option_to_list left ++ xs ≡ filter (λ x. not (test x)) (option_to_list oldest ++ xs)
  filter_oldest oldest left xs apart used is =
      let others = filter_none test xs (any_none test system only xs (later_unused system oldest xs apart used)) in
      ap (λ l. l ++ xs) is ∙ ap (λ l. filter (λ x. not (test x)) (option_to_list oldest) ++ l) (sym others) ∙ sym (filter-append (λ x. not (test x)) (option_to_list oldest) xs)

  pub filter_later : (oldest : Option Transaction) (xs left : List Transaction) → uses system (option_to_list oldest) ≡ false → left ≡ filter (λ x. not (test x)) xs
      → option_to_list oldest ++ left ≡ filter (λ x. not (test x)) (option_to_list oldest ++ xs)
  filter_later oldest xs left unused is =
      let other = filter_none test (option_to_list oldest) (any_none test system only (option_to_list oldest) unused) in
      ap (λ l. option_to_list oldest ++ l) is ∙ ap (λ l. l ++ filter (λ x. not (test x)) xs) (sym other) ∙ sym (filter-append (λ x. not (test x)) (option_to_list oldest) xs)

module _ (test : Transaction → Bool) where
  pub fewer : (xs : List Transaction) → length (filter test xs) ≤ length xs
  fewer [] = omega arith
  fewer (x ∷ xs) = by_case (fewer xs) (test x)
    where
      by_case : length (filter test xs) ≤ length xs → (b : Bool) → length (cond b (x ∷ filter test xs) (filter test xs)) ≤ length (x ∷ xs)
      by_case later true = omega (arith, later)
      by_case later false = omega (arith, later)

  pub listed-filter : (oldest last : Option Transaction) (queue left : List Transaction) → AreListed oldest queue → option_to_list last ++ left ≡ filter test (option_to_list oldest ++ queue) → length left ≤ length queue → AreListed last left
  listed-filter oldest last queue left h is le =
      let few : length queue < 2 ^ 63 - 1 = h.few in
      record {
        few = omega (arith, few, le);
        apart = subst AreApart (sym is) (apart-filter test (option_to_list oldest ++ queue) h.apart);
        in_order = subst AreInOrder (sym is) (in_order-filter test (option_to_list oldest ++ queue) h.in_order);
      }

-- ---- none

pub nothing_queued : (queue : List Transaction) → length queue ≡ 0 → queue ≡ []
nothing_queued [] e = refl
nothing_queued (x ∷ xs) e = absurd (omega (arith, e))

-- ---- one more

-- None is open.
pub none_queued : (oldest : Option Transaction) (queue : List Transaction) → length (option_to_list oldest ++ queue) ≡ 0 → queue ≡ []
none_queued None [] e = refl
none_queued None (x ∷ xs) e = absurd (omega (arith, e))
none_queued (Some opened) queue e = absurd (omega (arith, e))

pub listed-alone : (opened : Transaction) (queue : List Transaction) → queue ≡ [] → AreListed (Some opened) queue
listed-alone opened queue none = subst (AreListed (Some opened)) (sym none) (record { few = omega arith; apart = (refl, tt); in_order = (tt, tt) })

-- System bytes that are fresh among all are fresh among the later ones. A transaction that comes after all also comes
-- after these.
pub fresh_later : (system : ℕ) (oldest : Option Transaction) (queue : List Transaction) → uses system (option_to_list oldest ++ queue) ≡ false → uses system queue ≡ false
fresh_later system None queue fresh = fresh
fresh_later system (Some opened) queue fresh = (or_parts (opened.header.system == system) (uses system queue) fresh).1

pub until_later : (time : ℕ) (oldest : Option Transaction) (queue : List Transaction) → AreUntil time (option_to_list oldest ++ queue) → AreUntil time queue
until_later time None queue until = until
until_later time (Some opened) queue until = until.1

pub listed-push : (oldest : Option Transaction) (queue more : List Transaction) (opened : Transaction) → AreListed oldest queue → more ≡ queue ++ opened ∷ [] → length more < 2 ^ 63 - 1
    → uses opened.header.system (option_to_list oldest ++ queue) ≡ false → AreUntil opened.time (option_to_list oldest ++ queue) → AreListed oldest more
listed-push oldest queue more opened h is few fresh until =
    let all : (option_to_list oldest ++ queue) ++ opened ∷ [] ≡ option_to_list oldest ++ more = append_assoc (option_to_list oldest) queue (opened ∷ []) ∙ ap (λ l. option_to_list oldest ++ l) (sym is) in
    record {
      few = few;
      apart = subst AreApart all (apart-push (option_to_list oldest ++ queue) opened h.apart fresh);
      in_order = subst AreInOrder all (in_order-push (option_to_list oldest ++ queue) opened h.in_order until);
    }
