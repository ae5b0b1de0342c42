-- The tokens before a parser state: the state accepts nothing but notations.
use Rattle.std.proofs.Common.{◌≡◌, ℕ, ◌+◌, ◌≤◌, Bool, true, false, ◌||◌, not, List, [], ◌∷◌, ◌++◌, length, refl, sym, ap, ◌∙◌, subst, append_assoc, append-nil, arith, if◌then◌else◌}
use Rattle.std.specs.Prelude.{Ok, Err, Option, Some, None, MatchOption, ◌^◌}
use Rattle.std.proofs.lemmas.Bool.{eqb-true}
use Rattle.secs_item.specs.Item.{Value, nest, format_of}
use Rattle.secs_text.specs.declared.fault.TextFault.{TextFault}
use Rattle.secs_text.specs.declared.fault.TextFault.TheVariants as fault
use Rattle.secs_text.specs.Content.{Content, IsWithin, AllWithin}
use Rattle.secs_text.specs.Token.{Token, word, quoted, less, greater, bracket, bracket_end, stop, broken, end}
use Rattle.secs_text.specs.TypeName.{format_named}
use Rattle.secs_text.specs.Words.{HeadWord, head, bad_head, no_head, head_word, number_below, is_one}
use Rattle.secs_text.specs.Notation.{ItemTokens, OptionalItem, wait_word, wait_tokens, MessageTokens, MessagesTokens}
use Rattle.secs_text.specs.ParserStates.{Rules, Count, Opened, Before, Place, Step, start, after_head, after_wait, type_expected, after_type, count_expected, after_count, in_item, stop_expected, finished, step, is_empty, after_head_word, at_after_wait}
use Rattle.secs_text.proofs.PartialTokens.{SoFar, OpenedTokens, IsList}

-- ---- the tokens before a parser state

-- Holds if there is at most one message, unless the rules allow several.
abbrev pub Few : Rules → List Content → Type 0
Few rules ms = rules.several ≡ false → length ms ≤ 1

-- Complete messages, which one more may follow.
pub record Whole (rules : Rules) (ms : List Content) (ts : List Token) : Type 0 where
  pub tokens : MessagesTokens ms ts
  pub within : AllWithin rules.depth ms
  pub few : Few rules ms

-- Complete messages, a head, and `W` if it is set.
pub record Headed (rules : Rules) (ms : List Content) (stream function : ℕ) (wait : Bool) (ts : List Token) : Type 0 where
  pub before : List Token
  pub messages : MessagesTokens ms before
  pub within : AllWithin rules.depth ms
  pub may : rules.several || is_empty ms ≡ true
  pub name : List ℕ
  pub named : head_word name ≡ head stream function
  pub parts : ts ≡ before ++ (word name ∷ wait_tokens wait)

-- The tokens of complete messages and a head, and then those of the enclosing lists.
abbrev pub Surrounded : Rules → List Content → Content → List Opened → List Token → Type 0
Surrounded rules ms m [] ts = Headed rules ms m.stream m.function m.wait ts
Surrounded rules ms m (o ∷ os) ts = (outer inner : List Token) × Surrounded rules ms m os outer × OpenedTokens o.count o.so_far inner × IsList o.so_far × (nest o.so_far + length os ≤ rules.depth) × (ts ≡ outer ++ inner)

-- The tokens up to the enclosing lists, and then `<`, a type name, and the given tokens.
pub record Named (rules : Rules) (b : Before) (v : Value) (more ts : List Token) : Type 0 where
  pub outer : List Token
  pub around : Surrounded rules b.messages b.message b.lists outer
  pub name : List ℕ
  pub named : format_named name ≡ Some (format_of v)
  pub nothing : SoFar v []
  pub shallow : nest v + length b.lists ≤ rules.depth
  pub parts : ts ≡ outer ++ (less ∷ word name ∷ more)

-- The tokens up to the enclosing lists, and then those of an unfinished item.
pub record InItem (rules : Rules) (b : Before) (c : Option Count) (v : Value) (ts : List Token) : Type 0 where
  pub outer : List Token
  pub around : Surrounded rules b.messages b.message b.lists outer
  pub inner : List Token
  pub opened : OpenedTokens c v inner
  pub shallow : nest v + length b.lists ≤ rules.depth
  pub parts : ts ≡ outer ++ inner

-- Complete messages, a head, and the message's item.
pub record Held (rules : Rules) (ms : List Content) (m : Content) (ts : List Token) : Type 0 where
  pub outer : List Token
  pub headed : Headed rules ms m.stream m.function m.wait outer
  pub value : Value
  pub item : m.item ≡ Some value
  pub inner : List Token
  pub holds : ItemTokens value inner
  pub shallow : nest value ≤ rules.depth
  pub parts : ts ≡ outer ++ inner

pub record Finished (rules : Rules) (ms : List Content) (ts : List Token) : Type 0 where
  pub before : List Token
  pub whole : Whole rules ms before
  pub may : rules.several || not (is_empty ms) ≡ true
  pub parts : ts ≡ before ++ end ∷ []

abbrev pub StateInvariant : Rules → Place → List Token → Type 0
StateInvariant rules (start ms) ts = Whole rules ms ts
StateInvariant rules (after_head ms m) ts = Headed rules ms m.stream m.function m.wait ts × (m.item ≡ None) × (m.wait ≡ false)
StateInvariant rules (after_wait ms m) ts = Headed rules ms m.stream m.function m.wait ts × (m.item ≡ None)
StateInvariant rules (type_expected b opening) ts = (outer : List Token) × Surrounded rules b.messages b.message b.lists outer × (length b.lists ≤ rules.depth) × (ts ≡ outer ++ less ∷ [])
StateInvariant rules (after_type b v) ts = Named rules b v [] ts
StateInvariant rules (count_expected b v opening) ts = Named rules b v (bracket ∷ []) ts
StateInvariant rules (after_count b v c) ts = (w : List ℕ) × (number_below (2 ^ 64) w ≡ Some c.number) × Named rules b v (bracket ∷ word w ∷ []) ts
StateInvariant rules (in_item b o) ts = InItem rules b o.count o.so_far ts
StateInvariant rules (stop_expected ms m) ts = Held rules ms m ts
StateInvariant rules (finished ms) ts = Finished rules ms ts

-- ---- steps

pub arrives : (rules : Rules) (place next : Place) (ts : List Token) → StateInvariant rules place ts → ◌≡◌ {A = Step} (Ok place) (Ok next) → StateInvariant rules next ts
arrives rules place next ts h e =
    let is : place ≡ next = cc in
    let P : Place → Type 0 = λ o. StateInvariant rules o ts in subst P is h

pub chosen : (b : Bool) (r : Step) (f : TextFault) (next : Place) → (if b then r else Err f) ≡ Ok next → (b ≡ true) × (r ≡ Ok next)
chosen true r f next e = (refl, e)
chosen false r f next e = cc

-- ---- messages

pub messages_push : (ms : List Content) (m : Content) (ts us : List Token) → MessagesTokens ms ts → MessageTokens m us → MessagesTokens (ms ++ m ∷ []) (ts ++ us)
messages_push [] m ts us h one = (us, [], one, refl, ap (λ o. o ++ us) h ∙ sym (append-nil us))
messages_push (n ∷ ms) m ts us h one = (h.0, h.1 ++ us, h.2, messages_push ms m h.1 us h.3 one, ap (λ o. o ++ us) h.4 ∙ append_assoc h.0 h.1 us)

pub within_push : (depth : ℕ) (ms : List Content) (m : Content) → AllWithin depth ms → IsWithin depth m → AllWithin depth (ms ++ m ∷ [])
within_push depth [] m all one = (one, tt)
within_push depth (n ∷ ms) m all one = (all.0, within_push depth ms m all.1 one)

pub few_push : (rules : Rules) (ms : List Content) (m : Content) → rules.several || is_empty ms ≡ true → Few rules (ms ++ m ∷ [])
few_push rules [] m may one = omega arith
few_push rules (n ∷ ms) m may one = absurd (let same : rules.several || false ≡ true = may in let no_other : false || false ≡ true = subst (λ b. b || false ≡ true) one same in cc)

-- The end of a message.
pub message_ends : (rules : Rules) (ms : List Content) (m : Content) (outer inner : List Token) → (h : Headed rules ms m.stream m.function m.wait outer) → OptionalItem m.item inner → IsWithin rules.depth m → Whole rules (ms ++ m ∷ []) ((outer ++ inner) ++ stop ∷ [])
message_ends rules ms m outer inner h item shallow =
    let own = (word h.name ∷ wait_tokens m.wait) ++ inner in
    let parts : (outer ++ inner) ++ stop ∷ [] ≡ h.before ++ (own ++ stop ∷ []) =
    ap (λ o. (o ++ inner) ++ stop ∷ []) h.parts ∙ ap (λ o. o ++ stop ∷ []) (append_assoc h.before (word h.name ∷ wait_tokens m.wait) inner) ∙ append_assoc h.before own (stop ∷ []) in
    let P : List Token → Type 0 = λ o. MessagesTokens (ms ++ m ∷ []) o in
    record {
      tokens = subst P (sym parts) (messages_push ms m h.before (own ++ stop ∷ []) h.messages (record { name = h.name; named = h.named; item = inner; holds = item; parts = refl }));
      within = within_push rules.depth ms m h.within shallow;
      few = few_push rules ms m h.may;
    }

pub bare_ends : (rules : Rules) (ms : List Content) (m : Content) (ts : List Token) → Headed rules ms m.stream m.function m.wait ts → m.item ≡ None → Whole rules (ms ++ m ∷ []) (ts ++ stop ∷ [])
bare_ends rules ms m ts h none =
    let P : Option Value → Type 0 = λ o. OptionalItem o [] in
    let Q : Option Value → Type 0 = λ o. MatchOption o (Unit {0}) (λ v. nest v ≤ rules.depth) in
    let R : List Token → Type 0 = λ o. Whole rules (ms ++ m ∷ []) (o ++ stop ∷ []) in
    subst R (append-nil ts) (message_ends rules ms m ts [] h (subst P (sym none) refl) (subst Q (sym none) tt))

pub held_ends : (rules : Rules) (ms : List Content) (m : Content) (ts : List Token) → Held rules ms m ts → Whole rules (ms ++ m ∷ []) (ts ++ stop ∷ [])
held_ends rules ms m ts h =
    let P : Option Value → Type 0 = λ o. OptionalItem o h.inner in
    let Q : Option Value → Type 0 = λ o. MatchOption o (Unit {0}) (λ v. nest v ≤ rules.depth) in
    let R : List Token → Type 0 = λ o. Whole rules (ms ++ m ∷ []) (o ++ stop ∷ []) in
    subst R (sym h.parts) (message_ends rules ms m h.outer h.inner h.headed (subst P (sym h.item) h.holds) (subst Q (sym h.item) h.shallow))

pub head_step : (rules : Rules) (ms : List Content) (at : ℕ) (w : List ℕ) (ts : List Token) (next : Place) → Whole rules ms ts → rules.several || is_empty ms ≡ true → (h : HeadWord) → head_word w ≡ h → after_head_word ms at h ≡ Ok next → StateInvariant rules next (ts ++ word w ∷ [])
head_step rules ms at w ts next whole may (head stream function) is e =
    arrives rules _ next _ (record { before = ts; messages = whole.tokens; within = whole.within; may = may; name = w; named = is; parts = refl }, refl, refl) e
head_step rules ms at w ts next whole may bad_head is e = cc
head_step rules ms at w ts next whole may no_head is e = cc

pub start_step : (rules : Rules) (ms : List Content) (at : ℕ) (t : Token) (ts : List Token) (next : Place) → Whole rules ms ts → step rules (start ms) at t ≡ Ok next → StateInvariant rules next (ts ++ t ∷ [])
start_step rules ms at (word w) ts next whole e =
    let c = chosen (rules.several || is_empty ms) (after_head_word ms at (head_word w)) (fault.Syntax at) next e in
    head_step rules ms at w ts next whole c.0 (head_word w) refl c.1
start_step rules ms at end ts next whole e =
    let c = chosen (rules.several || not (is_empty ms)) (Ok (finished ms)) (fault.Syntax at) next e in
    arrives rules (finished ms) next _ (record { before = ts; whole = whole; may = c.0; parts = refl }) c.1
start_step rules ms at (quoted text) ts next whole e = cc
start_step rules ms at less ts next whole e = cc
start_step rules ms at greater ts next whole e = cc
start_step rules ms at bracket ts next whole e = cc
start_step rules ms at bracket_end ts next whole e = cc
start_step rules ms at stop ts next whole e = cc
start_step rules ms at broken ts next whole e = cc

pub after_wait_step : (rules : Rules) (ms : List Content) (m : Content) (at : ℕ) (t : Token) (ts : List Token) (next : Place) → Headed rules ms m.stream m.function m.wait ts → m.item ≡ None → at_after_wait ms m at t ≡ Ok next → StateInvariant rules next (ts ++ t ∷ [])
after_wait_step rules ms m at less ts next h none e = arrives rules _ next _ (ts, h, omega arith, refl) e
after_wait_step rules ms m at stop ts next h none e = arrives rules _ next _ (bare_ends rules ms m ts h none) e
after_wait_step rules ms m at (word w) ts next h none e = cc
after_wait_step rules ms m at (quoted text) ts next h none e = cc
after_wait_step rules ms m at greater ts next h none e = cc
after_wait_step rules ms m at bracket ts next h none e = cc
after_wait_step rules ms m at bracket_end ts next h none e = cc
after_wait_step rules ms m at broken ts next h none e = cc
after_wait_step rules ms m at end ts next h none e = cc

pub one_octet : (c : ℕ) (w : List ℕ) → is_one c w ≡ true → w ≡ c ∷ []
one_octet c [] e = cc
one_octet c (d ∷ []) e = let is = eqb-true d c e in ap (λ o. o ∷ []) is
one_octet c (d ∷ x ∷ w) e = cc

pub waits : (rules : Rules) (ms : List Content) (m : Content) (w : List ℕ) (ts : List Token) → Headed rules ms m.stream m.function m.wait ts → m.wait ≡ false → w ≡ wait_word → Headed rules ms m.stream m.function true (ts ++ word w ∷ [])
waits rules ms m w ts h no_wait is = record {
  before = h.before;
  messages = h.messages;
  within = h.within;
  may = h.may;
  name = h.name;
  named = h.named;
  parts = ap (λ o. o ++ word w ∷ []) (h.parts ∙ ap (λ b. h.before ++ (word h.name ∷ wait_tokens b)) no_wait) ∙ append_assoc h.before (word h.name ∷ []) (word w ∷ []) ∙ ap (λ o. h.before ++ (word h.name ∷ word o ∷ [])) is;
}

pub after_head_step : (rules : Rules) (ms : List Content) (m : Content) (at : ℕ) (t : Token) (ts : List Token) (next : Place) → Headed rules ms m.stream m.function m.wait ts → m.item ≡ None → m.wait ≡ false → step rules (after_head ms m) at t ≡ Ok next → StateInvariant rules next (ts ++ t ∷ [])
after_head_step rules ms m at (word w) ts next h none no_wait e =
    let c = chosen (is_one 0x57 w) (Ok (after_wait ms (record m { wait = true }))) (fault.Syntax at) next e in
    arrives rules _ next _ (waits rules ms m w ts h no_wait (one_octet 0x57 w c.0), none) c.1
after_head_step rules ms m at (quoted text) ts next h none no_wait e = after_wait_step rules ms m at (quoted text) ts next h none e
after_head_step rules ms m at less ts next h none no_wait e = after_wait_step rules ms m at less ts next h none e
after_head_step rules ms m at greater ts next h none no_wait e = after_wait_step rules ms m at greater ts next h none e
after_head_step rules ms m at bracket ts next h none no_wait e = after_wait_step rules ms m at bracket ts next h none e
after_head_step rules ms m at bracket_end ts next h none no_wait e = after_wait_step rules ms m at bracket_end ts next h none e
after_head_step rules ms m at stop ts next h none no_wait e = after_wait_step rules ms m at stop ts next h none e
after_head_step rules ms m at broken ts next h none no_wait e = after_wait_step rules ms m at broken ts next h none e
after_head_step rules ms m at end ts next h none no_wait e = after_wait_step rules ms m at end ts next h none e
