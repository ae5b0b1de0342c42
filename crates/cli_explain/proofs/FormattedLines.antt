-- The output for an input.
use Rattle.std.proofs.Common.{◌≡◌, ◌≤◌, ◌<◌, ◌+◌, ◌^◌, ◌++◌, ℕ, Bool, List, [], Some, Ok, Err, refl, sym, ◌∙◌, ap, subst, length, take, drop, append_assoc, length-append, take-append-drop, codes, inl, inr, get_or, arith, ◌≢◌}
use Rattle.std.specs.Prelude.{Option, Result, IfOk, IfErr, OnErr}
use Rattle.std.proofs.lemmas.List.{append-nil}
use Rattle.hsms_frame.specs.Io.{IfRecorded, Takes, Grows, GrowsByFront, IsAtEnd, Stays}
use Rattle.hsms_log.specs.declared.verdict.Verdict.{Verdict}
use Rattle.cli_options.specs.declared.explain_options.OutputFormat.{OutputFormat}
use Rattle.cli_options.specs.declared.fault.ToolFault.{ToolFault}
use Rattle.cli_options.specs.declared.fault.ToolFault.TheVariants.{Refused, Device, Memory}
use Rattle.cli_output.specs.IoErrors.{CountsFailure, LeavesPart, IsReadWriteOrEndless, IsWrite}
use Rattle.cli_explain.specs.declared.explainer.Explainer.{Explainer}
use Rattle.cli_explain.specs.VerdictOutput.{ending_of}
use Rattle.cli_explain.specs.Explain.{GrowsBySome, EndsWithVerdict, Concludes, ExplainsTo}
use Rattle.cli_explain.specs.InnerExplain.{IsOfExplaining}
use Rattle.cli_explain.specs.InnerLinesProcessed.{HasProcessed}

-- ---- what was written

pub none_more : (old : Option (List ℕ)) → GrowsBySome old old
none_more old octets is = ([], is ∙ ap Some (sym (append-nil octets)))

pub all_more : (old new : Option (List ℕ)) (text : List ℕ) → Grows old new text → GrowsBySome old new
all_more old new text grows octets is = (text, grows octets is)

pub front_more : (old new : Option (List ℕ)) (text : List ℕ) → GrowsByFront old new text → GrowsBySome old new
front_more old new text grows octets is = let n = grows octets is in (take n.0 text, n.2)

pub some_more : (old mid new : Option (List ℕ)) → GrowsBySome old mid → GrowsBySome mid new → GrowsBySome old new
some_more old mid new before subsequent octets is =
    let one = before octets is in
    let two = subsequent (octets ++ one.0) one.1 in
    (one.0 ++ two.0, two.1 ∙ ap Some (append_assoc octets one.0 two.0))

pub verdict_last : (form : OutputFormat) (old mid new : Option (List ℕ)) (line : List ℕ) (verdict : Verdict) → GrowsBySome old mid → Grows mid new line
    → line ≡ ending_of form verdict → EndsWithVerdict form old new verdict
verdict_last form old mid new line verdict before subsequent is octets shown_line =
    let one = before octets shown_line in (
      one.0,
      subsequent (octets ++ one.0) one.1 ∙ ap (λ l. Some (octets ++ one.0 ++ l)) is,
    )

ends_following : (form : OutputFormat) (old mid new : Option (List ℕ)) (verdict : Verdict) → GrowsBySome old mid → EndsWithVerdict form mid new verdict
    → EndsWithVerdict form old new verdict
ends_following form old mid new verdict before subsequent octets shown_line =
    let one = before octets shown_line in
    let two = subsequent (octets ++ one.0) one.1 in
    let line = ending_of form verdict in (
      one.0 ++ two.0,
      two.1 ∙ ap (λ l. Some (l ++ line)) (append_assoc octets one.0 two.0),
    )

pub concludes_after : (form : OutputFormat) (text : List ℕ) (passes : Bool) (old mid new : Option (List ℕ)) → GrowsBySome old mid
    → Concludes form text passes mid new → Concludes form text passes old new
concludes_after form text passes old mid new before shown_line = (shown_line.0, shown_line.1, shown_line.2, ends_following form old mid new shown_line.0 before shown_line.3)

-- A fact that holds in any case holds if an error is returned.
pub on_err : {T E : Type 0} (X : Type 0) (r : Result T E) → X → OnErr r X
on_err X (Ok _) fact = tt
on_err X (Err _) fact = fact

-- ---- what was read

-- Holds if the bytes read of an input, at most this many, are the text that was processed.
abbrev pub HasRead : Option (List ℕ) → ℕ → Explainer → Option (List ℕ) → Type 0
HasRead old most explainer new =
    IfRecorded old (λ input. (text rest : List ℕ) × (input ≡ text ++ rest) × (new ≡ Some rest) × (length text ≤ most) × HasProcessed explainer text)

pub none_read : (old : Option (List ℕ)) (explainer : Explainer) → HasProcessed explainer [] → HasRead old 0 explainer old
none_read old explainer reception input shown_line = ([], input, refl, shown_line, omega arith, reception)

-- The processed text grows with one more read.
pub read_on : (old mid new : Option (List ℕ)) (n most next_most : ℕ) (buffer : List ℕ) (explainer next : Explainer) → HasRead old most explainer mid
    → Takes mid new n buffer → most + length (take n buffer) ≤ next_most
    → ((text : List ℕ) → HasProcessed explainer text → HasProcessed next (text ++ take n buffer)) → HasRead old next_most next new
read_on old mid new n most next_most buffer explainer next so_far takes fits on input shown_line =
    let before = so_far input shown_line in
    let text = before.0 in
    let rest = before.1 in
    let step = takes rest before.3 in
    let size = length-append text (take n buffer) in
    let few = before.4 in (
      text ++ take n buffer,
      drop n rest,
      before.2 ∙ ap (λ l. text ++ l) (sym (take-append-drop n rest)) ∙ ap (λ l. text ++ (l ++ drop n rest)) (sym step.1)
          ∙ sym (append_assoc text (take n buffer) (drop n rest)),
      step.2,
      omega (arith, size, few, fits),
      on text before.5,
    )

-- Part of the input is left.
pub part_left : (old new : Option (List ℕ)) (most : ℕ) (explainer : Explainer) → HasRead old most explainer new → IfRecorded old (λ input. LeavesPart input new)
part_left old new most explainer so_far input shown_line =
    let before = so_far input shown_line in (before.0, before.1, before.2, before.3)

-- Part of the input is left after one more read, however much of it was processed.
pub less_left : (old mid new : Option (List ℕ)) (n most : ℕ) (buffer : List ℕ) (explainer : Explainer) → HasRead old most explainer mid
    → Takes mid new n buffer → IfRecorded old (λ input. LeavesPart input new)
less_left old mid new n most buffer explainer so_far takes input shown_line =
    let before = so_far input shown_line in
    let text = before.0 in
    let rest = before.1 in
    let step = takes rest before.3 in (
      text ++ take n rest,
      drop n rest,
      before.2 ∙ ap (λ l. text ++ l) (sym (take-append-drop n rest)) ∙ sym (append_assoc text (take n rest) (drop n rest)),
      step.2,
    )

-- Part of the input is left after a read that failed.
pub same_left : (old mid new : Option (List ℕ)) (most : ℕ) (explainer : Explainer) → HasRead old most explainer mid → Stays mid new
    → IfRecorded old (λ input. LeavesPart input new)
same_left old mid new most explainer so_far same input shown_line =
    let before = so_far input shown_line in (before.0, before.1, before.2, same before.1 before.3)

-- The end was found.
pub all_read : (old mid new : Option (List ℕ)) (n most : ℕ) (buffer : List ℕ) (explainer : Explainer) → HasRead old most explainer mid
    → Takes mid new n buffer → n ≡ 0 → IsAtEnd mid → IfRecorded old (λ input. (length input ≤ most) × HasProcessed explainer input × (new ≡ Some []))
all_read old mid new n most buffer explainer so_far takes none at_end input shown_line =
    let before = so_far input shown_line in
    let text = before.0 in
    let rest = before.1 in
    let rest_is : rest ≡ [] = at_end rest before.3 in
    let step = takes rest before.3 in
    let whole : text ≡ input = sym (before.2 ∙ ap (λ l. text ++ l) rest_is ∙ append-nil text) in
    let P : List ℕ → Type 0 = λ l. (length l ≤ most) × HasProcessed explainer l in
    let both = subst P whole (before.4, before.5) in
    (both.0, both.1, step.2 ∙ ap (λ k. Some (drop k rest)) none ∙ ap (λ l. Some l) rest_is)

-- ---- the results

pub stops_early : (form : OutputFormat) (input : List ℕ) (fault : ToolFault) (left : Option (List ℕ)) (ended : Type 0) (old new : Option (List ℕ))
    → IsOfExplaining fault → LeavesPart input left → GrowsBySome old new → ExplainsTo form input (Err fault) left ended old new
stops_early form input (Refused words) left ended old new fault part some = fault
stops_early form input (Device word) left ended old new fault part some = (part, some)
stops_early form input Memory left ended old new fault part some = (part, some)

pub of_write : (fault : ToolFault) → IsWrite fault → IsOfExplaining fault
of_write (Refused words) word = word
of_write (Device word) is = is
of_write Memory word = tt

pub wider : (fault : ToolFault) → IsOfExplaining fault → IsReadWriteOrEndless fault
wider (Refused words) word = absurd word
wider (Device word) is = inr (inl is)
wider Memory word = tt

-- The output after the lines, at the end of the input.
pub concluded : (form : OutputFormat) (input : List ℕ) (r : Result Bool ToolFault) (explainer : Explainer) (left : Option (List ℕ)) (ended : Type 0) (old mid new : Option (List ℕ))
    → length input < 2 ^ 63 → HasProcessed explainer input → left ≡ Some [] → ended → GrowsBySome old mid
    → IfOk r (λ passes. (text : List ℕ) → length text < 2 ^ 63 → HasProcessed explainer text → Concludes form text passes mid new)
    → OnErr r (GrowsBySome mid new) → IfErr r IsOfExplaining → ExplainsTo form input r left ended old new
concluded form input (Ok passes) explainer left ended old mid new few reception none found before shown_line some fault =
    (concludes_after form input passes old mid new before (shown_line input few reception), none, found)
concluded form input (Err fault_is) explainer left ended old mid new few reception none found before shown_line some fault =
    stops_early form input fault_is left ended old new fault (input, [], sym (append-nil input), none) (some_more old mid new before some)

pub fault_wider : (r : Result Bool ToolFault) → IfErr r IsOfExplaining → IfErr r IsReadWriteOrEndless
fault_wider (Ok passes) fault = tt
fault_wider (Err given) fault = wider given fault

write_is_no_read : (given : List ℕ) → given ≡ codes "Write" → given ≢ codes "Read"
write_is_no_read given w e = let first : ◌≡◌ {A = ℕ} 87 82 = ap (λ xs. get_or xs 0 0) (sym w ∙ e) in absurd (omega arith)

-- No read failed.
pub reads_none : (r : Result Bool ToolFault) (n : ℕ) → IfErr r IsOfExplaining → CountsFailure (codes "Read") r n n
reads_none (Ok passes) n fault = refl
reads_none (Err (Refused words)) n fault = refl
reads_none (Err (Device word)) n fault = inr (write_is_no_read word.now fault, refl)
reads_none (Err Memory) n fault = refl
