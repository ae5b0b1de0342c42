-- Messages that are encoded to bytes and passed to a receiver, one by one.
use Rattle.std.proofs.Common.{◌≡◌, ℕ, ◌⊎◌, Bool, List, [], ◌++◌, refl, sym, ap, ◌∙◌}
use Rattle.std.specs.Prelude.{Ok, Err, Option, Some, None, option_map, Result, IfErr, IsErrAnd, OnOk}
use Rattle.secs_item.specs.Item.{Value}
use Rattle.secs_text.specs.Content.{Content, AllWithin}
use Rattle.secs_text.specs.Fault.{NotesFault}
use Rattle.secs_text.specs.Notation.{Notations}
use Rattle.secs_text.specs.EncodedText.{text_of}
use Rattle.secs_text.specs.InnerEncodedText.{appended_text, AppendsBytes, AllGiven}
use Rattle.secs_text.specs.declared.fault.TextFault.{TextFault}
use Rattle.secs_text.specs.declared.fault.TextFault.TheVariants as fault
use Rattle.secs_text.proofs.Results.{ok_all, ok_where_all, err_all, err_where_all}

-- A message text in the form that the receiver gets.
pub is_encoded : (item : Option Value) (fits : Bool) (old octets : List ℕ) → old ≡ [] → AppendsBytes fits old octets (text_of item) → text_of item ≡ appended_text fits octets
is_encoded item fits old octets none h = same (text_of item) ∙ ap (λ p. option_map (λ o. p ++ o) (text_of item)) (sym none) ∙ sym h
  where
    same : (r : Option (List ℕ)) → r ≡ option_map (λ o. [] ++ o) r
    same None = refl
    same (Some o) = refl

-- ---- results

pub given_ok : {K : Type 0} (depth : ℕ) (r : Result (Unit {0}) TextFault) (text : List ℕ) (Old New : K → List Content → Type 0) → AllGiven depth r text Old New
    → OnOk r ((ms : List Content) × Notations ms text × AllWithin depth ms × ((kept : K) (earlier : List Content) → Old kept earlier → New kept (earlier ++ ms)))
given_ok depth (Ok x) text Old New h =
    let n = ok_all (λ (x : Unit {0}). h.0) text depth (Ok x) h.1 in
    (h.0, n.0, n.1, h.2)
given_ok depth (Err f) text Old New h = tt

pub given_ok_where : {K : Type 0} (depth : ℕ) (r : Result (Unit {0}) TextFault) (text : List ℕ) (Old New : K → List Content → Type 0) → AllGiven depth r text Old New
    → (ms : List Content) → Notations ms text → AllWithin depth ms → IfErr r (λ f. f ≡ fault.Memory)
given_ok_where depth (Ok x) text Old New h ms n within = tt
given_ok_where depth (Err f) text Old New h ms n within = ok_where_all (λ (x : Unit {0}). []) text depth (Err f) h ms n within

pub given_err : {K : Type 0} (depth : ℕ) (r : Result (Unit {0}) TextFault) (text : List ℕ) (Old New : K → List Content → Type 0) → AllGiven depth r text Old New
    → IfErr r (λ f. (f ≡ fault.Memory) ⊎ NotesFault text depth f)
given_err depth (Ok x) text Old New h = tt
given_err depth (Err f) text Old New h = err_all (λ (x : Unit {0}). []) text depth (Err f) h

pub given_err_where : {K : Type 0} (depth : ℕ) (r : Result (Unit {0}) TextFault) (text : List ℕ) (Old New : K → List Content → Type 0) → AllGiven depth r text Old New
    → (f : TextFault) → NotesFault text depth f → IsErrAnd r (λ e. (e ≡ f) ⊎ (e ≡ fault.Memory))
given_err_where depth (Ok x) text Old New h = err_where_all (λ (x : Unit {0}). h.0) text depth (Ok x) h.1
given_err_where depth (Err f) text Old New h = err_where_all (λ (x : Unit {0}). []) text depth (Err f) h
