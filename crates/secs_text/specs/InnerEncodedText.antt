-- What only contracts of private functions use, besides the definitions of `EncodedText`.
use Rattle.std.specs.Prelude.{◌≡◌, ◌^◌, ◌*◌, ◌+◌, ℕ, Bool, true, false, List, [], ◌∷◌, ◌++◌, length, Option, Some, None, option_map, Result, Ok, Err}
use Rattle.std.specs.Int.{w8, w16, w32, w64}
use Rattle.byteorder.specs.Endian.{big_bytes}
use Rattle.secs_item.specs.declared.format.Format.{Format}
use Rattle.secs_item.specs.declared.format.Format.TheVariants as format
use Rattle.secs_item.specs.Format.{value_size}
use Rattle.secs_item.specs.Item.{Value, values, Values, format_of_values, count_of_values, ValuesInRange}
use Rattle.secs_item.specs.ShortestEncoding.{octet_alone, octet_of_truth, octets_of_signed, short, short_body}
use Rattle.secs_text.specs.Body.{nothing_of}
use Rattle.secs_text.specs.Content.{Content}
use Rattle.secs_text.specs.ParserStates.{Rules, Before, Count, Place, Step, walk, start, after_head, finished, in_item, closed, reading}
use Rattle.secs_text.specs.declared.printing.messages.Head.{Head}
use Rattle.secs_text.specs.Fault.{any_messages}
use Rattle.secs_text.specs.InnerParseSteps.{Fails}
use Rattle.secs_text.specs.Token.{Placed}
use Rattle.secs_text.specs.Words.{number_below, signed_below, octet_of, float_of, truth_of}
use Rattle.secs_text.specs.declared.fault.TextFault.{TextFault}
use Rattle.secs_text.specs.EncodedText.{text_of, headed_by}

-- The bytes of the value that a word represents in an item of this format.
abbrev pub word_octets : Format → List ℕ → Option (List ℕ)
word_octets format.List w = None
word_octets format.Binary w = option_map octet_alone (octet_of w)
word_octets format.Boolean w = option_map octet_of_truth (truth_of w)
word_octets format.Ascii w = option_map octet_alone (octet_of w)
word_octets format.Jis8 w = option_map octet_alone (octet_of w)
word_octets format.Char2 w = option_map octet_alone (octet_of w)
word_octets format.I1 w = option_map (octets_of_signed w8) (signed_below (2 ^ 7) w)
word_octets format.I2 w = option_map (octets_of_signed w16) (signed_below (2 ^ 15) w)
word_octets format.I4 w = option_map (octets_of_signed w32) (signed_below (2 ^ 31) w)
word_octets format.I8 w = option_map (octets_of_signed w64) (signed_below (2 ^ 63) w)
word_octets format.U1 w = option_map octet_alone (number_below (2 ^ 8) w)
word_octets format.U2 w = option_map (big_bytes 2) (number_below (2 ^ 16) w)
word_octets format.U4 w = option_map (big_bytes 4) (number_below (2 ^ 32) w)
word_octets format.U8 w = option_map (big_bytes 8) (number_below (2 ^ 64) w)
word_octets format.F4 w = float_of 4 w
word_octets format.F8 w = float_of 8 w

-- The appended bytes, if appending succeeded.
abbrev pub appended_text : Bool → List ℕ → Option (List ℕ)
appended_text true octets = Some octets
appended_text false octets = None

-- Holds if `done` is true exactly if there is an encoding, and the encoding was then appended.
abbrev pub AppendsBytes : Bool → List ℕ → List ℕ → Option (List ℕ) → Type 0
AppendsBytes done old new encoded_form = appended_text done new ≡ option_map (λ o. old ++ o) encoded_form

-- ---- values

-- Values of a format that lead from the tokens `before` to the tokens `after`, in an item with this count.
pub record Collected (f : Format) (count : Option Count) (before after : List Placed) (old new : List ℕ) : Type 0 where
  pub held : Values
  pub leads : (rules : Rules) (b : Before) → walk rules (in_item b (record { count = count; so_far = nothing_of f })) before ≡ walk rules (in_item b (record { count = count; so_far = values held })) after
  pub form : format_of_values held ≡ f
  pub octets : new ≡ old ++ short_body held
  pub size : length (short_body held) ≡ value_size f * count_of_values held
  pub in_range : ValuesInRange held

-- Holds if more values of a format were collected.
abbrev pub CollectsMore : Format → List Placed → List Placed → List ℕ → List ℕ → Type 0
CollectsMore f before after old new =
    (count : Option Count) (first : List Placed) (start : List ℕ) → Collected f count first before start old → Collected f count first after start new

-- Values of a format and the end of their item, which lead from the tokens `before` to the tokens `after`. The item has
-- this count.
pub record Closed (f : Format) (count : Option Count) (before after : List Placed) (old new : List ℕ) : Type 0 where
  pub held : Values
  pub leads : (rules : Rules) (b : Before) → walk rules (in_item b (record { count = count; so_far = nothing_of f })) before ≡ walk rules (closed b.lists b (values held)) after
  pub form : format_of_values held ≡ f
  pub octets : new ≡ old ++ short_body held
  pub size : length (short_body held) ≡ value_size f * count_of_values held
  pub in_range : ValuesInRange held

-- Holds if the values of an item were read, or the tokens lead to this error.
abbrev pub ValuesRead : Format → Option Count → Result (Unit {0}) TextFault → List Placed → List Placed → List ℕ → List ℕ → Type 0
ValuesRead f count (Ok _) before after old new = Closed f count before after old new
ValuesRead f count (Err fault) before after old new = (rules : Rules) (b : Before) → Fails fault (walk rules (in_item b (record { count = count; so_far = nothing_of f })) before)

-- ---- items

-- An item that leads from the tokens `before` to the tokens `after`, from a parser state.
pub record Itemized (Where : Rules → Before → Type 0) (from : Before → Place) (before after : List Placed) (fits : Bool) (old new : List ℕ) : Type 0 where
  pub value : Value
  pub leads : (rules : Rules) (b : Before) → Where rules b → walk rules (from b) before ≡ walk rules (closed b.lists b value) after
  pub appends_bytes : AppendsBytes fits old new (short value)

abbrev pub ItemRead : (Rules → Before → Type 0) → (Before → Place) → Result Bool TextFault → List Placed → List Placed → List ℕ → List ℕ → Type 0
ItemRead Where from (Ok fits) before after old new = Itemized Where from before after fits old new
ItemRead Where from (Err fault) before after old new = (rules : Rules) (b : Before) → Where rules b → Fails fault (walk rules (from b) before)

-- Holds if lists may be nested `depth` deep inside the lists around it.
abbrev pub Deep : ℕ → Rules → Before → Type 0
Deep depth rules b = length b.lists + depth ≡ rules.depth

-- Holds whatever lists enclose the item.
abbrev pub Anywhere : Rules → Before → Type 0
Anywhere rules b = Unit {0}

-- ---- messages

-- The message with this stream and function, with no W bit and no item yet.
abbrev pub named_by : ℕ → ℕ → Content
named_by stream function = record { stream = stream; function = function; wait = false; item = None }

-- The step after these messages, for a stream and a function or for the end of the text.
abbrev pub named : ℕ → List Content → Option (ℕ × ℕ) → List Placed → Step
named depth ms (Some name) after = walk (any_messages depth) (after_head ms (named_by name.0 name.1)) after
named depth ms None after = Ok (finished ms)

-- A message that leads from the tokens `before` to the tokens `after`, from a parser state.
pub record Spelt (depth : ℕ) (from : List Content → Place) (head : Head) (fits : Bool) (before after : List Placed) (old new : List ℕ) : Type 0 where
  pub item : Option Value
  pub leads : (ms : List Content) → walk (any_messages depth) (from ms) before ≡ walk (any_messages depth) (start (ms ++ headed_by head item ∷ [])) after
  pub appends_bytes : AppendsBytes fits old new (text_of item)

abbrev pub MessageRead : ℕ → (List Content → Place) → Result (Head × Bool) TextFault → List Placed → List Placed → List ℕ → List ℕ → Type 0
MessageRead depth from (Ok m) before after old new = Spelt depth from m.0 m.1 before after old new
MessageRead depth from (Err fault) before after old new = (ms : List Content) → Fails fault (walk (any_messages depth) (from ms) before)

-- Holds if the messages from the tokens `before` to the tokens `after` were passed on after the earlier ones. A
-- predicate gives the messages that were passed on, together with a part that stays unchanged.
pub record GivenSoFar {K : Type 0} (depth : ℕ) (before after : List Placed) (GivenOld GivenNow : K → List Content → Type 0) : Type 0 where
  pub messages : List Content
  pub leads : walk (any_messages depth) (start []) before ≡ walk (any_messages depth) (start messages) after
  pub given : (kept : K) (earlier : List Content) → GivenOld kept earlier → GivenNow kept (earlier ++ messages)

-- Holds if the messages of a text were passed on after the earlier ones, or the text has this error.
abbrev pub AllGiven : {K : Type 0} → ℕ → Result (Unit {0}) TextFault → List ℕ → (K → List Content → Type 0) → (K → List Content → Type 0) → Type 0
AllGiven {K = K} depth (Ok _) text GivenOld GivenNow =
    (ms : List Content) × (reading (any_messages depth) text ≡ Ok (finished ms)) × ((kept : K) (earlier : List Content) → GivenOld kept earlier → GivenNow kept (earlier ++ ms))
AllGiven depth (Err fault) text GivenOld GivenNow = Fails fault (reading (any_messages depth) text)
