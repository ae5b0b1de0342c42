-- Lists that a loop appends to: what it has found so far, and what the rest gives, is the list of all.
use Rattle.std.proofs.Common.{◌≡◌, ◌∙◌, ◌<◌, ◌≤◌, ◌+◌, ℕ, List, [], ◌∷◌, ◌++◌, Bool, Option, length, drop, get_or, refl, subst, sym, ap, append_assoc, append-nil}
use Rattle.std.proofs.lemmas.List.{drop_more, drop_all}
use Rattle.hsms_machine.specs.declared.entry.Entry.{Entry}
use Rattle.hsms_machine.specs.Settings.{Parameters}
use Rattle.hsms_compare.specs.Conversation.{sent_by, received_by}
use Rattle.hsms_compare_causes.specs.declared.failed_request.FailedRequest.{FailedRequest}
use Rattle.hsms_compare_causes.specs.declared.traced_log.Counterpart.{Counterpart}
use Rattle.hsms_compare_causes.specs.declared.traced_log.TracedLog.{TracedLog}
use Rattle.hsms_compare_causes.specs.Counterparts.{counterpart_by, counterparts_from, index_if, indexes_from}
use Rattle.hsms_compare_causes.specs.Failures.{AreFailures, IsFailureAt, failure_list}

pub indexes_step : (test : Entry → Bool) (log : List Entry) (i : ℕ) (found next total : List ℕ) (b : Bool) (d : Entry) → i < length log → next ≡ found ++ index_if b i → b ≡ test (get_or log i d) → found ++ indexes_from test i (drop i log) ≡ total → next ++ indexes_from test (i + 1) (drop (i + 1) log) ≡ total
indexes_step test log i found next total b d lt is b_is before =
    let rest : List ℕ = indexes_from test (i + 1) (drop (i + 1) log) in
    ap (λ x. x ++ rest) is
    ∙ append_assoc found (index_if b i) rest
    ∙ ap (λ (x : Bool). found ++ (index_if x i ++ rest)) b_is
    ∙ ap (λ (xs : List Entry). found ++ indexes_from test i xs) (sym (drop_more log i d lt))
    ∙ before

pub indexes_end : (test : Entry → Bool) (log : List Entry) (i : ℕ) (found total : List ℕ) → length log ≤ i → found ++ indexes_from test i (drop i log) ≡ total → found ≡ total
indexes_end test log i found total le so =
    sym (append-nil found) ∙ ap (λ (xs : List Entry). found ++ indexes_from test i xs) (sym (drop_all i log le)) ∙ so

module _ (sent received : List ℕ) (more : Bool) where
  pub counterparts_step : (own : List Entry) (i n r n' r' : ℕ) (found next total : List Counterpart) (c : Counterpart) (x d : Entry) → i < length own → x ≡ get_or own i d → next ≡ found ++ c ∷ [] → c ≡ counterpart_by sent received more n r x.event → n' ≡ n + length (sent_by x.event) → r' ≡ r + length (received_by x.event) → found ++ counterparts_from sent received more n r (drop i own) ≡ total → next ++ counterparts_from sent received more n' r' (drop (i + 1) own) ≡ total
  counterparts_step own i n r n' r' found next total c x d lt x_is is c_is n_is r_is before =
      let after : List Entry = drop (i + 1) own in
      ap (λ y. y ++ counterparts_from sent received more n' r' after) is
      ∙ append_assoc found (c ∷ []) (counterparts_from sent received more n' r' after)
      ∙ ap (λ (y : Counterpart). found ++ y ∷ counterparts_from sent received more n' r' after) c_is
      ∙ ap (λ (k : ℕ). found ++ counterpart_by sent received more n r x.event ∷ counterparts_from sent received more k r' after) n_is
      ∙ ap (λ (k : ℕ). found ++ counterpart_by sent received more n r x.event ∷ counterparts_from sent received more (n + length (sent_by x.event)) k after) r_is
      ∙ ap (λ (y : Entry). found ++ counterparts_from sent received more n r (y ∷ after)) x_is
      ∙ ap (λ (xs : List Entry). found ++ counterparts_from sent received more n r xs) (sym (drop_more own i d lt))
      ∙ before

  pub counterparts_end : (own : List Entry) (i n r : ℕ) (found total : List Counterpart) → length own ≤ i → found ++ counterparts_from sent received more n r (drop i own) ≡ total → found ≡ total
  counterparts_end own i n r found total le so =
      sym (append-nil found) ∙ ap (λ (xs : List Entry). found ++ counterparts_from sent received more n r xs) (sym (drop_all i own le)) ∙ so

module _ (own other : TracedLog) (settings : Parameters) where
  pub failures_step : (i : ℕ) (found next : List FailedRequest) (f : Option FailedRequest) (d : Entry) → i < length own.entries → IsFailureAt own other settings i f → next ≡ found ++ failure_list f → ((later : List FailedRequest) → AreFailures own other settings i (drop i own.entries) later → AreFailures own other settings 0 own.entries (found ++ later)) → (later : List FailedRequest) → AreFailures own other settings (i + 1) (drop (i + 1) own.entries) later → AreFailures own other settings 0 own.entries (next ++ later)
  failures_step i found next f d lt at is before later rest =
      let P : List FailedRequest → Type 0 = λ xs. AreFailures own other settings 0 own.entries xs in
      let Q : List Entry → Type 0 = λ xs. AreFailures own other settings i xs (failure_list f ++ later) in
      subst P (sym (append_assoc found (failure_list f) later) ∙ ap (λ x. x ++ later) (sym is))
      (before (failure_list f ++ later) (subst Q (sym (drop_more own.entries i d lt)) (f, later, at, rest, refl)))

  pub failures_end : (i : ℕ) (found : List FailedRequest) → length own.entries ≤ i → ((later : List FailedRequest) → AreFailures own other settings i (drop i own.entries) later → AreFailures own other settings 0 own.entries (found ++ later)) → AreFailures own other settings 0 own.entries found
  failures_end i found le before =
      let P : List FailedRequest → Type 0 = λ xs. AreFailures own other settings 0 own.entries xs in
      let Q : List Entry → Type 0 = λ xs. AreFailures own other settings i xs [] in
      subst P (append-nil found) (before [] (subst Q (sym (drop_all i own.entries le)) refl))
