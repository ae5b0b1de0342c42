-- The parser states, in which each token is allowed or not, and the state after each token (project-specific notation).
use Rattle.std.specs.Prelude.{ℕ, ◌^◌, Bool, true, false, nat_lt, ◌==◌, ◌||◌, not, if◌then◌else◌, List, [], ◌∷◌, ◌++◌, length, option_map, Option, Some, None, Result, Ok, Err}
use Rattle.secs_item.specs.declared.format.Format.{Format}
use Rattle.secs_item.specs.declared.format.Format.TheVariants as format
use Rattle.secs_item.specs.Item.{Value, list, values, Values, binary, boolean, ascii, jis8, char2, i1, i2, i4, i8, u1, u2, u4, u8, f4, f8, no_elements, count_of, with_element}
use Rattle.secs_text.specs.Body.{nothing_of}
use Rattle.secs_text.specs.declared.fault.TextFault.{TextFault}
use Rattle.secs_text.specs.declared.fault.TextFault.TheVariants as fault
use Rattle.secs_text.specs.Content.{Content}
use Rattle.secs_text.specs.Token.{Token, word, quoted, less, greater, bracket, bracket_end, stop, end, Placed, tokens}
use Rattle.secs_text.specs.TypeName.{format_named}
use Rattle.secs_text.specs.Words.{number_below, signed_below, octet_of, float_of, truth_of, HeadWord, head, bad_head, no_head, head_word, is_one}

-- The rules: whether the text may have several messages, and the maximum nesting depth of lists.
pub record Rules : Type 0 where
  pub several : Bool
  pub depth : ℕ

-- A count, and the offset of its `[`.
pub record Count : Type 0 where
  pub at : ℕ
  pub number : ℕ

-- An unfinished item: its written count, and its content so far.
pub record Opened : Type 0 where
  pub count : Option Count
  pub so_far : Value

-- The context before an item: the complete messages, the head of its message, and the enclosing lists, innermost first.
pub record Before : Type 0 where
  pub messages : List Content
  pub message : Content
  pub lists : List Opened

pub data Place : Type 0 where
  -- A message may begin, after these messages.
  start : List Content → Place
  after_head : List Content → Content → Place
  after_wait : List Content → Content → Place
  -- After the `<` at this offset.
  type_expected : Before → ℕ → Place
  -- After the type name.
  after_type : Before → Value → Place
  -- After the `[` at this offset.
  count_expected : Before → Value → ℕ → Place
  after_count : Before → Value → Count → Place
  -- After `]` or a value.
  in_item : Before → Opened → Place
  -- After the message's item.
  stop_expected : List Content → Content → Place
  -- After the end of the text.
  finished : List Content → Place

abbrev pub Step : Type 0
Step = Result Place TextFault

abbrev pub syntax : ℕ → Step
syntax at = Err (fault.Syntax at)

-- ---- values

-- The values with the one that the word represents appended, if it is of their format.
abbrev pub with_word : Values → List ℕ → Option Values
with_word (binary xs) w = option_map (λ x. binary (xs ++ x ∷ [])) (octet_of w)
with_word (boolean xs) w = option_map (λ x. boolean (xs ++ x ∷ [])) (truth_of w)
with_word (ascii xs) w = option_map (λ x. ascii (xs ++ x ∷ [])) (octet_of w)
with_word (jis8 xs) w = option_map (λ x. jis8 (xs ++ x ∷ [])) (octet_of w)
with_word (char2 xs) w = option_map (λ x. char2 (xs ++ x ∷ [])) (octet_of w)
with_word (i1 xs) w = option_map (λ x. i1 (xs ++ x ∷ [])) (signed_below (2 ^ 7) w)
with_word (i2 xs) w = option_map (λ x. i2 (xs ++ x ∷ [])) (signed_below (2 ^ 15) w)
with_word (i4 xs) w = option_map (λ x. i4 (xs ++ x ∷ [])) (signed_below (2 ^ 31) w)
with_word (i8 xs) w = option_map (λ x. i8 (xs ++ x ∷ [])) (signed_below (2 ^ 63) w)
with_word (u1 xs) w = option_map (λ x. u1 (xs ++ x ∷ [])) (number_below (2 ^ 8) w)
with_word (u2 xs) w = option_map (λ x. u2 (xs ++ x ∷ [])) (number_below (2 ^ 16) w)
with_word (u4 xs) w = option_map (λ x. u4 (xs ++ x ∷ [])) (number_below (2 ^ 32) w)
with_word (u8 xs) w = option_map (λ x. u8 (xs ++ x ∷ [])) (number_below (2 ^ 64) w)
with_word (f4 xs) w = option_map (λ x. f4 (xs ++ x ∷ [])) (float_of 4 w)
with_word (f8 xs) w = option_map (λ x. f8 (xs ++ x ∷ [])) (float_of 8 w)

-- The values with a quoted text appended. Only text bytes (`ascii`) allow one.
abbrev pub with_quoted : Values → List ℕ → Option Values
with_quoted (ascii xs) text = Some (ascii (xs ++ text))
with_quoted v text = None

-- True if no count is written, or the written count is right.
abbrev pub is_counted : Option Count → ℕ → Bool
is_counted None n = true
is_counted (Some c) n = c.number == n

abbrev pub count_place : Option Count → ℕ
count_place None = 0
count_place (Some c) = c.at

-- ---- the step after a token

abbrev pub is_empty : {X : Type 0} → List X → Bool
is_empty [] = true
is_empty (x ∷ xs) = false

abbrev pub after_head_word : List Content → ℕ → HeadWord → Step
after_head_word ms at (head stream function) = Ok (after_head ms (record { stream = stream; function = function; wait = false; item = None }))
after_head_word ms at bad_head = Err (fault.Number at)
after_head_word ms at no_head = syntax at

abbrev pub at_start : Rules → List Content → ℕ → Token → Step
at_start rules ms at (word w) = if rules.several || is_empty ms then after_head_word ms at (head_word w) else syntax at
at_start rules ms at end = if rules.several || not (is_empty ms) then Ok (finished ms) else syntax at
at_start rules ms at t = syntax at

abbrev pub before_item : List Content → Content → Before
before_item ms m = record { messages = ms; message = m; lists = [] }

abbrev pub at_after_wait : List Content → Content → ℕ → Token → Step
at_after_wait ms m at less = Ok (type_expected (before_item ms m) at)
at_after_wait ms m at stop = Ok (start (ms ++ m ∷ []))
at_after_wait ms m at t = syntax at

abbrev pub at_after_head : List Content → Content → ℕ → Token → Step
at_after_head ms m at (word w) = if is_one 0x57 w then Ok (after_wait ms (record m { wait = true })) else syntax at
at_after_head ms m at t = at_after_wait ms m at t

-- The step after the type name of an item whose `<` is at the first of these offsets.
abbrev pub after_name : Rules → Before → ℕ → ℕ → Option Format → Step
after_name rules b opening at None = syntax at
after_name rules b opening at (Some format.List) = if nat_lt (length b.lists) rules.depth then Ok (after_type b (list no_elements)) else Err (fault.Deep opening)
after_name rules b opening at (Some f) = Ok (after_type b (nothing_of f))

abbrev pub at_type : Rules → Before → ℕ → ℕ → Token → Step
at_type rules b opening at (word w) = after_name rules b opening at (format_named w)
at_type rules b opening at t = syntax at

abbrev pub after_number : Before → Value → ℕ → ℕ → Option ℕ → Step
after_number b v opening at None = Err (fault.Number at)
after_number b v opening at (Some n) = Ok (after_count b v (record { at = opening; number = n }))

abbrev pub at_count : Before → Value → ℕ → ℕ → Token → Step
at_count b v opening at (word w) = after_number b v opening at (number_below (2 ^ 64) w)
at_count b v opening at t = syntax at

abbrev pub at_count_end : Before → Value → Count → ℕ → Token → Step
at_count_end b v c at bracket_end = Ok (in_item b (record { count = Some c; so_far = v }))
at_count_end b v c at t = syntax at

-- The list with one more element.
abbrev pub with_item : Value → Value → Value
with_item (list es) v = list (with_element es v)
with_item (values w) v = values w

-- The state after an item's `>`: in the enclosing list, or in its message.
abbrev pub closed : List Opened → Before → Value → Place
closed [] b v = stop_expected b.messages (record b.message { item = Some v })
closed (o ∷ os) b v = in_item (record b { lists = os }) (record o { so_far = with_item o.so_far v })

abbrev pub or_fault : TextFault → Before → Option Count → Option Values → Step
or_fault f b count (Some v) = Ok (in_item b (record { count = count; so_far = values v }))
or_fault f b count None = Err f

abbrev pub at_close : Before → Opened → Step
at_close b o = if is_counted o.count (count_of o.so_far) then Ok (closed b.lists b o.so_far) else Err (fault.Count (count_place o.count))

-- The step after the next token of an item. A value of a list is an item. For the other formats each word is a value.
abbrev pub at_value : Before → Option Count → Value → ℕ → Token → Step
at_value b count (list es) at less = Ok (type_expected (record b { lists = record { count = count; so_far = list es } ∷ b.lists }) at)
at_value b count (values v) at (word w) = or_fault (fault.Number at) b count (with_word v w)
at_value b count (values v) at (quoted text) = or_fault (fault.Syntax at) b count (with_quoted v text)
at_value b count v at t = syntax at

abbrev pub at_in_item : Before → Opened → ℕ → Token → Step
at_in_item b o at greater = at_close b o
at_in_item b o at t = at_value b o.count o.so_far at t

abbrev pub at_after_type : Before → Value → ℕ → Token → Step
at_after_type b v at bracket = Ok (count_expected b v at)
at_after_type b v at t = at_in_item b (record { count = None; so_far = v }) at t

abbrev pub at_stop : List Content → Content → ℕ → Token → Step
at_stop ms m at stop = Ok (start (ms ++ m ∷ []))
at_stop ms m at t = syntax at

-- The step from a state with a token: the next state, or the error of a token that is not allowed there.
abbrev pub step : Rules → Place → ℕ → Token → Step
step rules (start ms) at t = at_start rules ms at t
step rules (after_head ms m) at t = at_after_head ms m at t
step rules (after_wait ms m) at t = at_after_wait ms m at t
step rules (type_expected b opening) at t = at_type rules b opening at t
step rules (after_type b v) at t = at_after_type b v at t
step rules (count_expected b v opening) at t = at_count b v opening at t
step rules (after_count b v c) at t = at_count_end b v c at t
step rules (in_item b o) at t = at_in_item b o at t
step rules (stop_expected ms m) at t = at_stop ms m at t
step rules (finished ms) at t = syntax at

infixl 10 ◌>>=◌
abbrev pub ◌>>=◌ : {A B : Type 0} → Result A TextFault → (A → Result B TextFault) → Result B TextFault
(Ok x) >>= f = f x
(Err e) >>= f = Err e

-- The step from a state with tokens: the last state, or the error of the first token that is not allowed at its
-- position.
abbrev pub walk : Rules → Place → List Placed → Step
walk rules place [] = Ok place
walk rules place (t ∷ ts) = step rules place t.at t.token >>= (λ next. walk rules next ts)

-- The result of reading a text.
abbrev pub reading : Rules → List ℕ → Step
reading rules text = walk rules (start []) (tokens text)
