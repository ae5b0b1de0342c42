-- The texts that are accepted are exactly the notations.
use Rattle.std.proofs.Common.{◌≡◌, ℕ, ◌≤◌, true, not, List, [], ◌∷◌, ◌++◌, length, map, refl, sym, ap, ◌∙◌, subst, append_assoc, append-nil, arith}
use Rattle.std.specs.Prelude.{Ok, Err}
use Rattle.secs_text.specs.Content.{Content, IsWithin, AllWithin}
use Rattle.secs_text.specs.Token.{Token, word, quoted, less, greater, bracket, bracket_end, stop, broken, end, Placed, tokens}
use Rattle.secs_text.specs.Notation.{MessageTokens, MessagesTokens, HasTokens, Notation, Notations}
use Rattle.secs_text.specs.Fault.{one_message, any_messages}
use Rattle.secs_text.specs.ParserStates.{Rules, Place, Step, start, after_head, after_wait, type_expected, after_type, count_expected, after_count, in_item, stop_expected, finished, walk, step, ◌>>=◌, is_empty, reading}
use Rattle.secs_text.proofs.Completeness.{token_of}
use Rattle.secs_text.proofs.TokensBefore.{Held, Finished, StateInvariant, arrives, held_ends, start_step, after_wait_step, after_head_step}
use Rattle.secs_text.proofs.ItemSteps.{type_step, in_item_step, after_type_step, count_step, count_end_step}

stop_step : (rules : Rules) (ms : List Content) (m : Content) (at : ℕ) (t : Token) (ts : List Token) (next : Place) → Held rules ms m ts → step rules (stop_expected ms m) at t ≡ Ok next → StateInvariant rules next (ts ++ t ∷ [])
stop_step rules ms m at stop ts next h e = arrives rules (start (ms ++ m ∷ [])) next _ (held_ends rules ms m ts h) e
stop_step rules ms m at (word w) ts next h e = cc
stop_step rules ms m at (quoted text) ts next h e = cc
stop_step rules ms m at less ts next h e = cc
stop_step rules ms m at greater ts next h e = cc
stop_step rules ms m at bracket ts next h e = cc
stop_step rules ms m at bracket_end ts next h e = cc
stop_step rules ms m at broken ts next h e = cc
stop_step rules ms m at end ts next h e = cc

invariant_step : (rules : Rules) (place : Place) (at : ℕ) (t : Token) (ts : List Token) (next : Place) → StateInvariant rules place ts → step rules place at t ≡ Ok next → StateInvariant rules next (ts ++ t ∷ [])
invariant_step rules (start ms) at t ts next h e = start_step rules ms at t ts next h e
invariant_step rules (after_head ms m) at t ts next h e = after_head_step rules ms m at t ts next h.0 h.1 h.2 e
invariant_step rules (after_wait ms m) at t ts next h e = after_wait_step rules ms m at t ts next h.0 h.1 e
invariant_step rules (type_expected b opening) at t ts next h e = type_step rules b opening at t ts h.0 next h.1 h.2 h.3 e
invariant_step rules (after_type b v) at t ts next h e = after_type_step rules b v at t ts next h e
invariant_step rules (count_expected b v opening) at t ts next h e = count_step rules b v opening at t ts next h e
invariant_step rules (after_count b v c) at t ts next h e = count_end_step rules b v c h.0 at t ts next h.1 h.2 e
invariant_step rules (in_item b o) at t ts next h e = in_item_step rules b o.count o.so_far at t ts next h e
invariant_step rules (stop_expected ms m) at t ts next h e = stop_step rules ms m at t ts next h e
invariant_step rules (finished ms) at t ts next h e = cc

bound : (r : Step) (f : Place → Step) (next : Place) → r >>= f ≡ Ok next → (x : Place) × (r ≡ Ok x) × (f x ≡ Ok next)
bound (Ok x) f next e = (x, refl, e)
bound (Err k) f next e = cc

invariant_walk : (rules : Rules) (ps : List Placed) (place next : Place) (ts : List Token) → StateInvariant rules place ts → walk rules place ps ≡ Ok next → StateInvariant rules next (ts ++ map token_of ps)
invariant_walk rules [] place next ts h e = arrives rules place next _ (let P : List Token → Type 0 = λ o. StateInvariant rules place o in subst P (sym (append-nil ts)) h) e
invariant_walk rules (p ∷ ps) place next ts h e =
    let b = bound (step rules place p.at p.token) (λ o. walk rules o ps) next e in
    let P : List Token → Type 0 = λ o. StateInvariant rules next o in
    subst P (append_assoc ts (p.token ∷ []) (map token_of ps)) (invariant_walk rules ps b.0 next (ts ++ p.token ∷ []) (invariant_step rules place p.at p.token ts b.0 h b.1) b.2)

invariant_finished : (rules : Rules) (text : List ℕ) (ms : List Content) → reading rules text ≡ Ok (finished ms) → Finished rules ms (map token_of (tokens text))
invariant_finished rules text ms e = invariant_walk rules (tokens text) (start []) (finished ms) [] (record { tokens = refl; within = tt; few = λ one. omega arith }) e

-- An accepted text is the notation of messages within the depth.
pub all_are_notations : (text : List ℕ) (depth : ℕ) (ms : List Content) → reading (any_messages depth) text ≡ Ok (finished ms) → Notations ms text × AllWithin depth ms
all_are_notations text depth ms e =
    let f = invariant_finished (any_messages depth) text ms e in
    ((f.before, f.whole.tokens, f.parts), f.whole.within)

single : (ms : List Content) → length ms ≤ 1 → not (is_empty ms) ≡ true → (m : Content) × (ms ≡ m ∷ [])
single [] few some = cc
single (m ∷ []) few some = (m, refl)
single (m ∷ n ∷ ms) few some = absurd (omega arith)

one_notation : (text : List ℕ) (depth : ℕ) (ms : List Content) (m : Content) (before : List Token) → ms ≡ m ∷ [] → MessagesTokens ms before → AllWithin depth ms → HasTokens text before → Notation m text × IsWithin depth m
one_notation text depth ms m before is tokens within has =
    let P : List Content → Type 0 = λ o. MessagesTokens o before in
    let Q : List Content → Type 0 = λ o. AllWithin depth o in
    let own = subst P is tokens in
    let R : List Token → Type 0 = λ o. MessageTokens m o in
    let whole : before ≡ own.0 = own.4 ∙ ap (λ o. own.0 ++ o) own.3 ∙ append-nil own.0 in
    ((before, subst R (sym whole) own.2, has), (subst Q is within).0)

-- A text that is accepted as one message is the notation of one message within the depth.
pub is_notation : (text : List ℕ) (depth : ℕ) (ms : List Content) → reading (one_message depth) text ≡ Ok (finished ms) → (m : Content) × (ms ≡ m ∷ []) × Notation m text × IsWithin depth m
is_notation text depth ms e =
    let f = invariant_finished (one_message depth) text ms e in
    let s = single ms (f.whole.few refl) f.may in
    let n = one_notation text depth ms s.0 f.before s.1 f.whole.tokens f.whole.within f.parts in
    (s.0, s.1, n.0, n.1)
