use Rattle.std.proofs.Common.{◌≡◌, ◌≤◌, ◌++◌, ◌∙◌, ℕ, Bool, List, [], ◌∷◌, ap, inl, inr, length, map, subst}
use Rattle.std.specs.Prelude.{◌⊎◌, Option, if◌then◌else◌}
use Rattle.std.proofs.lemmas.Result.{err_from_is_err_and}
use Rattle.secs_text.specs.declared.message.Message.{Message}
use Rattle.secs_text.specs.Content.{AllWithin}
use Rattle.secs_text.specs.Notation.{Notations}
use Rattle.secs_text.specs.View.{contents}
use Rattle.hsms_ends.specs.declared.step.Step.{Step}
use Rattle.hsms_ends.specs.declared.step.Step.TheVariants.{Send, Separate}
use Rattle.secs_text.specs.Fault.{NotesFault}
use Rattle.secs_text.specs.declared.fault.TextFault.{TextFault}
use Rattle.secs_text.specs.declared.fault.TextFault.TheVariants as text
use Rattle.cli_filters.specs.declared.encode_error.EncodeError.{EncodeError}
use Rattle.cli_filters.specs.declared.encode_error.EncodeError.TheVariants.{Input, Text, Frame, Read, Write}
use Rattle.cli_filters.specs.Encode.{IsPartOfInput, IsWholeInput, input_limit}
use Rattle.cli_serve.specs.declared.script.Script.{Script}
use Rattle.cli_serve.specs.declared.comments.Part.TheVariants.{Plain}
use Rattle.cli_serve.specs.Comments.{without_comments}
use Rattle.cli_serve.specs.Script.{IsNoScript, IsScript, replies_of, steps_of}
use Rattle.cli_serve.proofs.BlankedBytes.{blanked_length}
use Rattle.cli_serve.proofs.script.read_script.Goals as goal

-- An input that was not read completely.
stops_reading : (depth : ℕ) (input : List ℕ) (error : EncodeError) (left : Option (List ℕ)) → IsPartOfInput input_limit input error left
    → IsNoScript depth input error left
stops_reading depth input Input left part = part
stops_reading depth input Read left part = part
stops_reading depth input (Text fault) left part = let memory : fault ≡ text.Memory = cc in inl memory
stops_reading depth input Write left part = cc
stops_reading depth input (Frame why) left part = cc

-- An input that was read completely, and is not messages.
not_messages : (depth : ℕ) (octets input : List ℕ) (fault : TextFault) → IsWholeInput input_limit octets input
    → (fault ≡ text.Memory) ⊎ NotesFault (without_comments octets) depth fault
    → (fault ≡ text.Memory) ⊎ ((length input ≤ input_limit) × NotesFault (without_comments input) depth fault)
not_messages depth octets input fault whole (inl memory) = inl memory
not_messages depth octets input fault whole (inr faulty) =
    let P : List ℕ → Type 0 = λ text. NotesFault (without_comments text) depth fault in inr (whole.1, subst P whole.0 faulty)

-- An input that was read completely, and is the notation of messages.
reads_script : (depth : ℕ) (send answer : Bool) (octets input : List ℕ) (messages : List Message) (script : Script) → IsWholeInput input_limit octets input
    → Notations (contents messages) (without_comments octets) × AllWithin depth (contents messages) → script.replies.items ≡ replies_of answer messages
    → script.steps.items ≡ steps_of send answer messages → IsScript depth send answer script input
reads_script depth send answer octets input messages script whole noted replies steps =
    let P : List ℕ → Type 0 = λ text. Notations (contents messages) (without_comments text) in
    let short : length (without_comments input) ≤ input_limit = rw (blanked_length Plain input) whole.1 in
    (messages, (short, subst P whole.0 noted.0, noted.1), replies, steps)

pub returns-in_err-input-clause-err : goal.returns-in_err-input-clause-err
returns-in_err-input-clause-err g c =
    let p = err_from_is_err_and c.from_residual.result c.from_residual.ensures.1 in
    rw (p.1, p.2) (λ input link_state. stops_reading _ _ _ _ (c.in_err-input.ensures.err input link_state))

pub returns-in_err-messages-clause-err : goal.returns-in_err-messages-clause-err
returns-in_err-messages-clause-err g c =
    let p = err_from_is_err_and c.from_residual-in_err-messages.result c.from_residual-in_err-messages.ensures.1 in
    let noted = rw (c.deref.ensures.value, c.without_comments-text.ensures, c.depth.ensures.value) at c.in_err-messages.ensures.err in
    rw (p.1, p.2) (λ input link_state. not_messages _ _ input _ (c.in_ok-input.ensures.ok input link_state) noted)

pub returns-clause-ok : goal.returns-clause-ok
returns-clause-ok g c = λ input link_state.
    let noted = rw (c.deref.ensures.value, c.without_comments-text.ensures, c.depth.ensures.value) at c.in_ok-messages.ensures.ok in
    let sent : List Message → List Step = λ ms. map (λ m. Send m) ms ++ (if c.args.service.now.send then Separate ∷ [] else []) in
    let script : Script = record { steps = c.in_ok-steps.steps; replies = c.in_ok-replies.replies } in
    reads_script _ _ _ _ _ _ script (c.in_ok-input.ensures.ok input link_state) noted c.in_ok-replies.ensures.0 (c.in_ok-steps.ensures ∙ ap sent c.in_ok-replies.ensures.1)
