-- The entries of a view's lists are those at the open positions.
use Rattle.std.proofs.Common.{◌≡◌, ℕ, zero, suc, ◌+◌, ◌<◌, Bool, true, false, not, ◌&&◌, List, [], ◌∷◌, length, map, inl, inr, refl, sym, ap, subst, ◌∙◌, arith, one-add}
use Rattle.std.specs.List.{list_any}
use Rattle.std.proofs.lemmas.Bool.{and_parts}
use Rattle.hsms_machine.specs.declared.entry.Entry.{Entry}
use Rattle.hsms_machine.specs.Entry.{entry_at, connection_of}
use Rattle.hsms_machine.specs.Transaction.{opens, closes, IsOpen}
use Rattle.hsms_machine.specs.View.{open_entries}
use Rattle.hsms_machine.specs.Laws.{IsIn, Ascends, ViewListsWhatIsOpen}
use Rattle.hsms_machine.proofs.Connection.{IsFrom, connection-from, IsOpenIn, open-in, open-out}
use Rattle.hsms_machine.proofs.ViewsOfRuns.{open_later, open_earlier, open_here, here_not_closed}

-- The positions, each increased by a number.

abbrev moved_by : ℕ → List ℕ → List ℕ
moved_by start positions = map (λ n. start + n) positions

in_moved : (start j : ℕ) (js : List ℕ) → IsIn j js → IsIn (start + j) (moved_by start js)
in_moved start j [] h = absurd h
in_moved start j (k ∷ ks) h = elim h [ inl e ↦ inl (ap (λ n. start + n) e) | inr i ↦ inr (in_moved start j ks i) ]

from_moved : (start j : ℕ) (js : List ℕ) → IsIn j (moved_by start js) → (k : ℕ) × (j ≡ start + k) × IsIn k js
from_moved start j [] h = absurd h
from_moved start j (k ∷ ks) h = elim h [
  | inl e ↦ (k, e, inl refl)
  | inr i ↦ let r = from_moved start j ks i in (r.0, r.1, inr r.2)
]

ascends-moved : (start : ℕ) (js : List ℕ) → Ascends js → Ascends (moved_by start js)
ascends-moved start [] h = tt
ascends-moved start (j ∷ js) h = (
  (λ k i.
      let r = from_moved start k js i in
      let lt : j < r.0 = h.0 r.0 r.2 in
      let e : k ≡ start + r.0 = r.1 in
      omega arith),
  ascends-moved start js h.1,
)

-- Entries of one list at increased positions are those of another at the original positions.
entries-moved : (log entries : List Entry) (start : ℕ) → ((k : ℕ) → entry_at log (start + k) ≡ entry_at entries k) → (js : List ℕ) → map (entry_at log) (moved_by start js) ≡ map (entry_at entries) js
entries-moved log entries start at [] = refl
entries-moved log entries start at (j ∷ js) =
    ap (λ x. x ∷ map (entry_at log) (moved_by start js)) (at j) ∙ ap (λ l. entry_at entries j ∷ l) (entries-moved log entries start at js)

abbrev moved : List ℕ → List ℕ
moved positions = moved_by 1 positions

above_zero : (js : List ℕ) (k : ℕ) → IsIn k (moved js) → 0 < k
above_zero js k i =
    let e : k ≡ 1 + (from_moved 1 k js i).0 = (from_moved 1 k js i).1 in
    omega arith

-- ---- the open transactions of a list

-- Holds if these are the positions of the list whose opened transactions are not closed, in order.
record AreOpenIn (entries : List Entry) (positions : List ℕ) : Type 0 where
  ascends : Ascends positions
  all_open : (j : ℕ) → IsIn j positions → IsOpenIn entries j (length entries)
  all_listed : (j : ℕ) → IsOpenIn entries j (length entries) → IsIn j positions
  entries_are : open_entries entries ≡ map (entry_at entries) positions

-- ---- one more entry at the front

module _ (x : Entry) (xs : List Entry) (js : List ℕ) (listed : AreOpenIn xs js) where
  abbrev is_closed : Bool
  is_closed = list_any (λ other. closes x.event other.event) xs

  later_open : (j : ℕ) → IsIn j (moved js) → IsOpenIn (x ∷ xs) j (length (x ∷ xs))
  later_open j i =
      let r = from_moved 1 j js i in
      subst (λ n. IsOpenIn (x ∷ xs) n (length (x ∷ xs))) (sym (r.1 ∙ one-add r.0)) (open_later x xs r.0 (length xs) (listed.all_open r.0 r.2))

  later_listed : (j : ℕ) → IsOpenIn (x ∷ xs) (suc j) (length (x ∷ xs)) → IsIn (suc j) (moved js)
  later_listed j h = subst (λ n. IsIn n (moved js)) (one-add j) (in_moved 1 j js (listed.all_listed j (open_earlier x xs j (length xs) h)))

  with_first : (opens x.event && not is_closed) ≡ true → AreOpenIn (x ∷ xs) (0 ∷ moved js)
  with_first e = record {
    ascends = (above_zero js, ascends-moved 1 js listed.ascends);
    all_open = λ j i. elim i [
      | inl z ↦ subst (λ n. IsOpenIn (x ∷ xs) n (length (x ∷ xs))) (sym z) (open_here x xs parts.0 (closed_not is_closed parts.1))
      | inr i ↦ later_open j i
    ];
    all_listed = λ j. listed_at j;
    entries_are = rw e (ap (λ l. x ∷ l) (listed.entries_are ∙ sym (entries-moved (x ∷ xs) xs 1 (λ k. ap (entry_at (x ∷ xs)) (one-add k)) js)));
  } where
    closed_not : (b : Bool) → not b ≡ true → b ≡ false
    closed_not true n = absurd (let d : false ≡ true = n in cc)
    closed_not false n = refl

    parts : (opens x.event ≡ true) × (not is_closed ≡ true)
    parts = and_parts (opens x.event) (not is_closed) e

    listed_at : (j : ℕ) → IsOpenIn (x ∷ xs) j (length (x ∷ xs)) → IsIn j (0 ∷ moved js)
    listed_at zero h = inl refl
    listed_at (suc j) h = inr (later_listed j h)

  without_first : (opens x.event && not is_closed) ≡ false → AreOpenIn (x ∷ xs) (moved js)
  without_first e = record {
    ascends = ascends-moved 1 js listed.ascends;
    all_open = later_open;
    all_listed = λ j. listed_at j;
    entries_are = rw e (listed.entries_are ∙ sym (entries-moved (x ∷ xs) xs 1 (λ k. ap (entry_at (x ∷ xs)) (one-add k)) js));
  } where
    listed_at : (j : ℕ) → IsOpenIn (x ∷ xs) j (length (x ∷ xs)) → IsIn j (moved js)
    listed_at zero h =
        let o : opens x.event ≡ true = h.opened in
        let c : is_closed ≡ false = here_not_closed x xs h in
        absurd (let d : true ≡ false = sym (rw (o, c) refl) ∙ e in cc)
    listed_at (suc j) h = later_listed j h

  by_first : (b : Bool) → (opens x.event && not is_closed) ≡ b → (positions : List ℕ) × AreOpenIn (x ∷ xs) positions
  by_first true e = (0 ∷ moved js, with_first e)
  by_first false e = (moved js, without_first e)

none_open : (j : ℕ) → IsOpenIn [] j 0 → IsIn j []
none_open j h = absurd (let lt : j < 0 = h.earlier in omega arith)

listed_in : (entries : List Entry) → (positions : List ℕ) × AreOpenIn entries positions
listed_in [] = ([], record { ascends = tt; all_open = (λ j i. absurd i); all_listed = none_open; entries_are = refl })
listed_in (x ∷ xs) =
    let rest = listed_in xs in
    by_first x xs rest.0 rest.1 (opens x.event && not (list_any (λ other. closes x.event other.event) xs)) refl

-- ---- the open transactions of the connection

pub lists_open : ViewListsWhatIsOpen
lists_open log =
    let connection = connection_of log in
    let start = (connection-from log).0 in
    let from : IsFrom log connection start = (connection-from log).1 in
    let js = (listed_in connection).0 in
    let listed : AreOpenIn connection js = (listed_in connection).1 in (
      moved_by start js,
      record {
        ascends = ascends-moved start js listed.ascends;
        all_open = λ j i.
            let r = from_moved start j js i in
            subst (λ n. IsOpen log n (length log)) (sym r.1) (open-out log connection start from r.0 (listed.all_open r.0 r.2));
        all_listed = λ j h.
            let r = open-in log connection start from j h in
            subst (λ n. IsIn n (moved_by start js)) (sym r.1) (in_moved start r.0 js (listed.all_listed r.0 r.2));
        entries = listed.entries_are ∙ sym (entries-moved log connection start from.at js);
      },
    )
