-- The error of a token is never a failed allocation.
use Rattle.std.proofs.Common.{ℕ, Bool, true, false, ◌||◌, not, ◌⊎◌, inl, inr, List, length, subst, if◌then◌else◌}
use Rattle.std.specs.Prelude.{Ok, Err, Option, Some, None, nat_lt, ◌^◌}
use Rattle.secs_item.specs.Item.{Value, list, values, Values, no_elements, count_of}
use Rattle.secs_item.specs.declared.format.Format.{Format}
use Rattle.secs_item.specs.declared.format.Format.TheVariants as format
use Rattle.secs_text.specs.declared.fault.TextFault.TheVariants as fault
use Rattle.secs_text.specs.Content.{Content}
use Rattle.secs_text.specs.Token.{Token, word, quoted, less, greater, bracket, bracket_end, stop, end}
use Rattle.secs_text.specs.TypeName.{format_named}
use Rattle.secs_text.specs.Words.{HeadWord, head, bad_head, no_head, head_word, number_below, is_one}
use Rattle.secs_text.specs.Fault.{one_message, any_messages, FirstFault, NoteFault, NotesFault}
use Rattle.secs_text.specs.ParserStates.{Rules, Count, Before, Place, Step, start, after_head, after_wait, type_expected, after_type, count_expected, after_count, in_item, stop_expected, finished, step, is_empty, is_counted, count_place, closed, with_word, with_quoted, or_fault, after_head_word, after_name, after_number, at_in_item}

-- Holds if the step succeeds or has the error of a token.
abbrev IsTokenFault : Step → Type 0
IsTokenFault (Err fault.Memory) = ⊥
IsTokenFault s = Unit {0}

either : (b : Bool) (r s : Step) → IsTokenFault r → IsTokenFault s → IsTokenFault (if b then r else s)
either true r s h k = h
either false r s h k = k

head_fault : (ms : List Content) (at : ℕ) (h : HeadWord) → IsTokenFault (after_head_word ms at h)
head_fault ms at (head stream function) = tt
head_fault ms at bad_head = tt
head_fault ms at no_head = tt

name_fault : (rules : Rules) (b : Before) (opening at : ℕ) (o : Option Format) → IsTokenFault (after_name rules b opening at o)
name_fault rules b opening at None = tt
name_fault rules b opening at (Some format.List) = either (nat_lt (length b.lists) rules.depth) (Ok (after_type b (list no_elements))) (Err (fault.Deep opening)) tt tt
name_fault rules b opening at (Some f) = tt

number_fault : (b : Before) (v : Value) (opening at : ℕ) (o : Option ℕ) → IsTokenFault (after_number b v opening at o)
number_fault b v opening at None = tt
number_fault b v opening at (Some n) = tt

word_fault : (at : ℕ) (b : Before) (c : Option Count) (o : Option Values) → IsTokenFault (or_fault (fault.Number at) b c o)
word_fault at b c None = tt
word_fault at b c (Some v) = tt

quoted_fault : (at : ℕ) (b : Before) (c : Option Count) (o : Option Values) → IsTokenFault (or_fault (fault.Syntax at) b c o)
quoted_fault at b c None = tt
quoted_fault at b c (Some v) = tt

in_item_fault : (b : Before) (c : Option Count) (v : Value) (at : ℕ) (t : Token) → IsTokenFault (at_in_item b (record { count = c; so_far = v }) at t)
in_item_fault b c v at greater = either (is_counted c (count_of v)) (Ok (closed b.lists b v)) (Err (fault.Count (count_place c))) tt tt
in_item_fault b c (values v) at (word w) = word_fault at b c (with_word v w)
in_item_fault b c (values v) at (quoted text) = quoted_fault at b c (with_quoted v text)
in_item_fault b c (values v) at t = tt
in_item_fault b c (list es) at t = tt

step_fault : (rules : Rules) (place : Place) (at : ℕ) (t : Token) → IsTokenFault (step rules place at t)
step_fault rules (start ms) at (word w) = either (rules.several || is_empty ms) (after_head_word ms at (head_word w)) (Err (fault.Syntax at)) (head_fault ms at (head_word w)) tt
step_fault rules (start ms) at end = either (rules.several || not (is_empty ms)) (Ok (finished ms)) (Err (fault.Syntax at)) tt tt
step_fault rules (start ms) at t = tt
step_fault rules (after_head ms m) at (word w) = either (is_one 0x57 w) (Ok (after_wait ms (record m { wait = true }))) (Err (fault.Syntax at)) tt tt
step_fault rules (after_head ms m) at t = tt
step_fault rules (after_wait ms m) at less = tt
step_fault rules (after_wait ms m) at t = tt
step_fault rules (type_expected b opening) at (word w) = name_fault rules b opening at (format_named w)
step_fault rules (type_expected b opening) at t = tt
step_fault rules (after_type b v) at bracket = tt
step_fault rules (after_type b v) at (word w) = in_item_fault b None v at (word w)
step_fault rules (after_type b v) at (quoted text) = in_item_fault b None v at (quoted text)
step_fault rules (after_type b v) at less = in_item_fault b None v at less
step_fault rules (after_type b v) at greater = in_item_fault b None v at greater
step_fault rules (after_type b (list es)) at t = tt
step_fault rules (after_type b (values v)) at t = tt
step_fault rules (count_expected b v opening) at (word w) = number_fault b v opening at (number_below (2 ^ 64) w)
step_fault rules (count_expected b v opening) at t = tt
step_fault rules (after_count b v c) at bracket_end = tt
step_fault rules (after_count b v c) at t = tt
step_fault rules (in_item b o) at t = in_item_fault b o.count o.so_far at t
step_fault rules (stop_expected ms m) at stop = tt
step_fault rules (stop_expected ms m) at t = tt
step_fault rules (finished ms) at t = tt

pub never_memory : (rules : Rules) (text : List ℕ) → FirstFault rules text fault.Memory → ⊥
never_memory rules text h =
    let P : Step → Type 0 = λ s. IsTokenFault s in
    subst P h.faults (step_fault rules h.place h.token.at h.token.token)

pub never_memory_of : (text : List ℕ) (depth : ℕ) → (NoteFault text depth fault.Memory ⊎ NotesFault text depth fault.Memory) → ⊥
never_memory_of text depth (inl h) = never_memory (one_message depth) text h
never_memory_of text depth (inr h) = never_memory (any_messages depth) text h
