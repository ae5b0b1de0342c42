-- The tokens of messages lead to the states after them, and notations are accepted.
use Rattle.std.proofs.Common.{◌≡◌, ℕ, ◌≤◌, Bool, true, false, ◌||◌, not, List, [], ◌∷◌, ◌++◌, refl, sym, ap, ◌∙◌, append_assoc, append-nil, arith, if◌then◌else◌}
use Rattle.std.specs.Prelude.{Ok, Err, Option, Some, None, MatchOption}
use Rattle.secs_item.specs.Item.{Value, nest}
use Rattle.secs_text.specs.Content.{Content, IsWithin, AllWithin}
use Rattle.secs_text.specs.Token.{Token, word, stop, end, tokens}
use Rattle.secs_text.specs.Words.{head, head_word}
use Rattle.secs_text.specs.Notation.{OptionalItem, wait_tokens, wait_word, MessageTokens, MessagesTokens, Notation, Notations}
use Rattle.secs_text.specs.ParserStates.{Rules, Step, start, after_head, after_wait, stop_expected, finished, before_item, after_head_word, is_empty, reading}
use Rattle.secs_text.specs.Fault.{one_message, any_messages}
use Rattle.secs_text.specs.declared.fault.TextFault.TheVariants as fault
use Rattle.secs_text.proofs.Completeness.{Leads, leads_nowhere, leads_by_one, leads_by_both, leads_along, leads_to}
use Rattle.secs_text.proofs.ItemPrefixes.{item_leads}

abbrev headed : ℕ → ℕ → Bool → Content
headed stream function wait = record { stream = stream; function = function; wait = wait; item = None }

head_leads : (rules : Rules) (ms : List Content) (stream function : ℕ) (name : List ℕ) → rules.several || is_empty ms ≡ true → head_word name ≡ head stream function → Leads rules (start ms) (word name ∷ []) (after_head ms (headed stream function false))
head_leads rules ms stream function name may named = leads_by_one rules _ _ (word name)
    (λ at. let f : Step = Err (fault.Syntax at) in ap (λ t. if t then after_head_word ms at (head_word name) else f) may ∙ ap (λ o. after_head_word ms at o) named)

stop_leads : (rules : Rules) (ms : List Content) (m : Content) → Leads rules (stop_expected ms m) (stop ∷ []) (start (ms ++ m ∷ []))
stop_leads rules ms m = leads_by_one rules _ _ stop (λ at. refl)

-- The tokens after the head.
rest_leads : (rules : Rules) (ms : List Content) (stream function : ℕ) (wait : Bool) (item : Option Value) (ts : List Token) → OptionalItem item ts → MatchOption item (Unit {0}) (λ v. nest v ≤ rules.depth) → Leads rules (after_head ms (headed stream function false)) ((wait_tokens wait ++ ts) ++ stop ∷ []) (start (ms ++ (record { stream = stream; function = function; wait = wait; item = item }) ∷ []))
rest_leads rules ms stream function true None ts h deep =
    leads_along (ap (λ o. (word wait_word ∷ o) ++ stop ∷ []) h)
    (leads_by_both (leads_by_one rules _ (after_wait ms (headed stream function true)) (word wait_word) (λ at. refl)) (leads_by_one rules _ _ stop (λ at. refl)))
rest_leads rules ms stream function false None ts h deep =
    leads_along (ap (λ o. o ++ stop ∷ []) h) (leads_by_one rules _ _ stop (λ at. refl))
rest_leads rules ms stream function true (Some v) ts h deep =
    leads_by_both (leads_by_both (leads_by_one rules _ (after_wait ms (headed stream function true)) (word wait_word) (λ at. refl))
    (item_leads rules v ts h (before_item ms (headed stream function true)) (omega arith) _ (λ at. refl))) (stop_leads rules ms _)
rest_leads rules ms stream function false (Some v) ts h deep =
    leads_by_both (item_leads rules v ts h (before_item ms (headed stream function false)) (omega arith) _ (λ at. refl)) (stop_leads rules ms _)

pub message_leads : (rules : Rules) (ms : List Content) (m : Content) (ts : List Token) → rules.several || is_empty ms ≡ true → MessageTokens m ts → IsWithin rules.depth m → Leads rules (start ms) ts (start (ms ++ m ∷ []))
message_leads rules ms m ts may h deep =
    leads_along h.parts (leads_by_both (head_leads rules ms m.stream m.function h.name may h.named) (rest_leads rules ms m.stream m.function m.wait m.item h.item h.holds deep))

may_follow : (rules : Rules) (ms : List Content) → rules.several ≡ true → rules.several || is_empty ms ≡ true
may_follow rules ms several = rw several refl

messages_lead : (rules : Rules) (ms before : List Content) (ts : List Token) → rules.several ≡ true → MessagesTokens ms ts → AllWithin rules.depth ms → Leads rules (start before) ts (start (before ++ ms))
messages_lead rules [] before ts several h deep = leads_along h (leads_to (ap start (sym (append-nil before))) (leads_nowhere rules _))
messages_lead rules (m ∷ ms) before ts several h deep =
    leads_along h.4 (leads_to (ap start (append_assoc before (m ∷ []) ms))
    (leads_by_both (message_leads rules before m h.0 (may_follow rules before several) h.2 deep.0) (messages_lead rules ms (before ++ m ∷ []) h.1 several h.3 deep.1)))

end_leads : (rules : Rules) (ms : List Content) → rules.several || not (is_empty ms) ≡ true → Leads rules (start ms) (end ∷ []) (finished ms)
end_leads rules ms may = leads_by_one rules _ _ end (λ at. let r : Step = Ok (finished ms) in let f : Step = Err (fault.Syntax at) in ap (λ t. if t then r else f) may)

-- The notation of a message within the depth is accepted.
pub let_through : (text : List ℕ) (depth : ℕ) (m : Content) → Notation m text → IsWithin depth m → reading (one_message depth) text ≡ Ok (finished (m ∷ []))
let_through text depth m h deep =
    let rules : Rules = one_message depth in
    (leads_by_both (message_leads rules [] m h.0 refl h.1 deep) (end_leads rules (m ∷ []) refl)).walks (tokens text) h.2

-- The notation of consecutive messages within the depth is accepted.
pub all_let_through : (text : List ℕ) (depth : ℕ) (ms : List Content) → Notations ms text → AllWithin depth ms → reading (any_messages depth) text ≡ Ok (finished ms)
all_let_through text depth ms h deep =
    let rules : Rules = any_messages depth in
    (leads_by_both (messages_lead rules ms [] h.0 refl h.1 deep) (end_leads rules ms refl)).walks (tokens text) h.2
