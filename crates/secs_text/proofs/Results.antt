-- The laws of reading, and their consequences for a result.
use Rattle.std.proofs.Common.{◌≡◌, ℕ, ◌+◌, ◌≤◌, ◌⊎◌, inl, inr, List, [], ◌∷◌, ◌++◌, refl, sym, ap, ◌∙◌, subst, arith}
use Rattle.std.specs.Prelude.{Ok, Err, Result, Option, Some, None, MatchOption, MatchResult, IfOk, IfErr, IsErrAnd}
use Rattle.secs_item.specs.Item.{Value, nest}
use Rattle.secs_text.specs.declared.fault.TextFault.{TextFault}
use Rattle.secs_text.specs.declared.fault.TextFault.TheVariants as fault
use Rattle.secs_text.specs.declared.message.Message.{Message}
use Rattle.secs_text.specs.Content.{Content, IsWithin, AllWithin}
use Rattle.secs_text.specs.Token.{Placed, tokens}
use Rattle.secs_text.specs.Notation.{Notation, Notations}
use Rattle.secs_text.specs.Fault.{one_message, any_messages, FirstFault, NoteFault, NotesFault}
use Rattle.secs_text.specs.ParserStates.{Rules, Place, Step, start, finished, walk, step, ◌>>=◌, reading}
use Rattle.secs_text.specs.InnerParseSteps.{Reads, Fails}
use Rattle.secs_text.specs.View.{content}
use Rattle.secs_text.proofs.Completeness.{walk_append}
use Rattle.secs_text.proofs.MessagePrefixes.{let_through, all_let_through}
use Rattle.secs_text.proofs.Soundness.{is_notation, all_are_notations}
use Rattle.secs_text.proofs.Endings.{Outcome, through, at_fault, reading_outcome}

-- ---- errors

-- The first token at which walking fails.
record Stops (rules : Rules) (place : Place) (ps : List Placed) (f : TextFault) : Type 0 where
  before : List Placed
  stop : Place
  leads : walk rules place before ≡ Ok stop
  token : Placed
  faults : step rules stop token.at token.token ≡ Err f
  after : List Placed
  parts : ps ≡ before ++ token ∷ after

stops_at : (rules : Rules) (place : Place) (p : Placed) (ps : List Placed) (f : TextFault) (r : Step) → step rules place p.at p.token ≡ r → r >>= (λ next. walk rules next ps) ≡ Err f → ((next : Place) → walk rules next ps ≡ Err f → Stops rules next ps f) → Stops rules place (p ∷ ps) f
stops_at rules place p ps f (Ok next) is e more =
    let s = more next e in
    record { before = p ∷ s.before; stop = s.stop; leads = ap (λ r. r >>= (λ o. walk rules o s.before)) is ∙ s.leads; token = s.token; faults = s.faults; after = s.after; parts = ap (λ o. p ∷ o) s.parts }
stops_at rules place p ps f (Err g) is e more =
    let same : g ≡ f = cc in
    record { before = []; stop = place; leads = refl; token = p; faults = is ∙ ap (λ o. Err o) same; after = ps; parts = refl }

stops : (rules : Rules) (ps : List Placed) (place : Place) (f : TextFault) → walk rules place ps ≡ Err f → Stops rules place ps f
stops rules [] place f e = cc
stops rules (p ∷ ps) place f e = stops_at rules place p ps f (step rules place p.at p.token) refl e (λ next. stops rules ps next f)

pub first_fault : (rules : Rules) (text : List ℕ) (f : TextFault) → reading rules text ≡ Err f → FirstFault rules text f
first_fault rules text f e =
    let s = stops rules (tokens text) (start []) f e in
    record { before = s.before; place = s.stop; leads = s.leads; token = s.token; faults = s.faults; after = s.after; parts = s.parts }

pub fault_read : (rules : Rules) (text : List ℕ) (f : TextFault) → FirstFault rules text f → reading rules text ≡ Err f
fault_read rules text f h =
    let rest = h.token ∷ h.after in
    ap (λ o. walk rules (start []) o) h.parts ∙ walk_append rules (start []) h.before rest
    ∙ ap (λ r. r >>= (λ next. walk rules next rest)) h.leads ∙ ap (λ r. r >>= (λ next. walk rules next h.after)) h.faults

-- ---- one result

abbrev depth_of : Option Value → ℕ
depth_of None = 0
depth_of (Some v) = nest v

within_more : (item : Option Value) (k : ℕ) → MatchOption item (Unit {0}) (λ v. nest v ≤ depth_of item + k)
within_more None k = tt
within_more (Some v) k = omega arith

within_other : (item : Option Value) (k : ℕ) → MatchOption item (Unit {0}) (λ v. nest v ≤ k + depth_of item)
within_other None k = tt
within_other (Some v) k = omega arith

pub one_message_law : (text : List ℕ) (m n : Content) → Notation m text → Notation n text → m ≡ n
one_message_law text m n h k =
    let depth = depth_of m.item + depth_of n.item in
    let first = let_through text depth m h (within_more m.item (depth_of n.item)) in
    let second = let_through text depth n k (within_other n.item (depth_of m.item)) in
    cc

abbrev deepest : List Content → ℕ
deepest [] = 0
deepest (m ∷ ms) = depth_of m.item + deepest ms

within_item : (item : Option Value) (depth : ℕ) → depth_of item ≤ depth → MatchOption item (Unit {0}) (λ v. nest v ≤ depth)
within_item None depth le = tt
within_item (Some v) depth le = le

all_within : (ms : List Content) (depth : ℕ) → deepest ms ≤ depth → AllWithin depth ms
all_within [] depth le = tt
all_within (m ∷ ms) depth le = (within_item m.item depth (omega arith), all_within ms depth (omega arith))

pub one_list_law : (text : List ℕ) (ms ns : List Content) → Notations ms text → Notations ns text → ms ≡ ns
one_list_law text ms ns h k =
    let depth = deepest ms + deepest ns in
    let first = all_let_through text depth ms h (all_within ms depth (omega arith)) in
    let second = all_let_through text depth ns k (all_within ns depth (omega arith)) in
    cc

message_or_fault_of : (text : List ℕ) (depth : ℕ) → Outcome (reading (one_message depth) text) → ((m : Content) × Notation m text × IsWithin depth m) ⊎ ((f : TextFault) × NoteFault text depth f)
message_or_fault_of text depth (through ms e) = let n = is_notation text depth ms e in inl (n.0, n.2, n.3)
message_or_fault_of text depth (at_fault f e) = inr (f, first_fault (one_message depth) text f e)

pub message_or_fault : (text : List ℕ) (depth : ℕ) → ((m : Content) × Notation m text × IsWithin depth m) ⊎ ((f : TextFault) × NoteFault text depth f)
message_or_fault text depth = message_or_fault_of text depth (reading_outcome (one_message depth) text)

messages_or_fault_of : (text : List ℕ) (depth : ℕ) → Outcome (reading (any_messages depth) text) → ((ms : List Content) × Notations ms text × AllWithin depth ms) ⊎ ((f : TextFault) × NotesFault text depth f)
messages_or_fault_of text depth (through ms e) = let n = all_are_notations text depth ms e in inl (ms, n.0, n.1)
messages_or_fault_of text depth (at_fault f e) = inr (f, first_fault (any_messages depth) text f e)

pub messages_or_fault : (text : List ℕ) (depth : ℕ) → ((ms : List Content) × Notations ms text × AllWithin depth ms) ⊎ ((f : TextFault) × NotesFault text depth f)
messages_or_fault text depth = messages_or_fault_of text depth (reading_outcome (any_messages depth) text)

pub not_both : (text : List ℕ) (depth : ℕ) (m : Content) (f : TextFault) → Notation m text → IsWithin depth m → NoteFault text depth f → ⊥
not_both text depth m f h within k =
    let first = let_through text depth m h within in
    let second = fault_read (one_message depth) text f k in
    cc

pub all_not_both : (text : List ℕ) (depth : ℕ) (ms : List Content) (f : TextFault) → Notations ms text → AllWithin depth ms → NotesFault text depth f → ⊥
all_not_both text depth ms f h within k =
    let first = all_let_through text depth ms h within in
    let second = fault_read (any_messages depth) text f k in
    cc

pub one_fault : (text : List ℕ) (depth : ℕ) (f g : TextFault) → NoteFault text depth f → NoteFault text depth g → f ≡ g
one_fault text depth f g h k =
    let first = fault_read (one_message depth) text f h in
    let second = fault_read (one_message depth) text g k in
    cc

pub one_fault_of_all : (text : List ℕ) (depth : ℕ) (f g : TextFault) → NotesFault text depth f → NotesFault text depth g → f ≡ g
one_fault_of_all text depth f g h k =
    let first = fault_read (any_messages depth) text f h in
    let second = fault_read (any_messages depth) text g k in
    cc

-- ---- results

failed : (f : TextFault) (rules : Rules) (text : List ℕ) → Fails f (reading rules text) → (f ≡ fault.Memory) ⊎ FirstFault rules text f
failed fault.Memory rules text h = inl refl
failed (fault.Syntax at) rules text h = inr (first_fault rules text (fault.Syntax at) h)
failed (fault.Number at) rules text h = inr (first_fault rules text (fault.Number at) h)
failed (fault.Count at) rules text h = inr (first_fault rules text (fault.Count at) h)
failed (fault.Deep at) rules text h = inr (first_fault rules text (fault.Deep at) h)

-- If the text is accepted, only an allocation can have failed.
only_memory : (f : TextFault) (s : Step) (place : Place) → Fails f s → s ≡ Ok place → f ≡ fault.Memory
only_memory fault.Memory s place h e = refl
only_memory (fault.Syntax at) s place h e = cc
only_memory (fault.Number at) s place h e = cc
only_memory (fault.Count at) s place h e = cc
only_memory (fault.Deep at) s place h e = cc

-- If the text has an error, this is the result unless an allocation failed.
this_or_memory : (f g : TextFault) (s : Step) → Fails f s → s ≡ Err g → (f ≡ g) ⊎ (f ≡ fault.Memory)
this_or_memory fault.Memory g s h e = inr refl
this_or_memory (fault.Syntax at) g s h e = inl (cc)
this_or_memory (fault.Number at) g s h e = inl (cc)
this_or_memory (fault.Count at) g s h e = inl (cc)
this_or_memory (fault.Deep at) g s h e = inl (cc)

abbrev ReadsOne : List ℕ → ℕ → Result Message TextFault → Type 0
ReadsOne text depth r = Reads r (reading (one_message depth) text) (λ m. Ok (finished (content m ∷ [])))

pub ok_one : (text : List ℕ) (depth : ℕ) (r : Result Message TextFault) → ReadsOne text depth r → IfOk r (λ m. Notation (content m) text × IsWithin depth (content m))
ok_one text depth (Ok m) h =
    let n = is_notation text depth (content m ∷ []) h in
    let same : content m ≡ n.0 = cc in
    let P : Content → Type 0 = λ o. Notation o text × IsWithin depth o in
    subst P (sym same) (n.2, n.3)
ok_one text depth (Err f) h = tt

pub ok_where_one : (text : List ℕ) (depth : ℕ) (r : Result Message TextFault) → ReadsOne text depth r → (m : Content) → Notation m text → IsWithin depth m → MatchResult r (λ x. content x ≡ m) (λ f. f ≡ fault.Memory)
ok_where_one text depth (Ok x) h m n within = let through = let_through text depth m n within in cc
ok_where_one text depth (Err f) h m n within = only_memory f (reading (one_message depth) text) (finished (m ∷ [])) h (let_through text depth m n within)

pub err_one : (text : List ℕ) (depth : ℕ) (r : Result Message TextFault) → ReadsOne text depth r → IfErr r (λ f. (f ≡ fault.Memory) ⊎ NoteFault text depth f)
err_one text depth (Ok m) h = tt
err_one text depth (Err f) h = failed f (one_message depth) text h

pub err_where_one : (text : List ℕ) (depth : ℕ) (r : Result Message TextFault) → ReadsOne text depth r → (f : TextFault) → NoteFault text depth f → IsErrAnd r (λ e. (e ≡ f) ⊎ (e ≡ fault.Memory))
err_where_one text depth (Ok m) h f n = absurd (let faulty = fault_read (one_message depth) text f n in cc)
err_where_one text depth (Err e) h f n = this_or_memory e f (reading (one_message depth) text) h (fault_read (one_message depth) text f n)

module _ {X : Type 0} (shown : X → List Content) (text : List ℕ) (depth : ℕ) where
  abbrev ReadsAll : Result X TextFault → Type 0
  ReadsAll r = Reads r (reading (any_messages depth) text) (λ x. Ok (finished (shown x)))

  pub ok_all : (r : Result X TextFault) → ReadsAll r → IfOk r (λ x. Notations (shown x) text × AllWithin depth (shown x))
  ok_all (Ok x) h = all_are_notations text depth (shown x) h
  ok_all (Err f) h = tt

  pub ok_where_all : (r : Result X TextFault) → ReadsAll r → (ms : List Content) → Notations ms text → AllWithin depth ms → MatchResult r (λ x. shown x ≡ ms) (λ f. f ≡ fault.Memory)
  ok_where_all (Ok x) h ms n within = let through = all_let_through text depth ms n within in cc
  ok_where_all (Err f) h ms n within = only_memory f (reading (any_messages depth) text) (finished ms) h (all_let_through text depth ms n within)

  pub err_all : (r : Result X TextFault) → ReadsAll r → IfErr r (λ f. (f ≡ fault.Memory) ⊎ NotesFault text depth f)
  err_all (Ok x) h = tt
  err_all (Err f) h = failed f (any_messages depth) text h

  pub err_where_all : (r : Result X TextFault) → ReadsAll r → (f : TextFault) → NotesFault text depth f → IsErrAnd r (λ e. (e ≡ f) ⊎ (e ≡ fault.Memory))
  err_where_all (Ok x) h f n = absurd (let faulty = fault_read (any_messages depth) text f n in cc)
  err_where_all (Err e) h f n = this_or_memory e f (reading (any_messages depth) text) h (fault_read (any_messages depth) text f n)
