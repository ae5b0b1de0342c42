-- The tokens of an item lead to the state after it.
use Rattle.std.proofs.Common.{◌≡◌, ℕ, suc, ◌+◌, ◌<◌, ◌≤◌, Bool, true, false, List, [], ◌∷◌, ◌++◌, length, map, refl, sym, ap, ◌∙◌, append_assoc, append-nil, arith, if◌then◌else◌}
use Rattle.std.specs.Prelude.{Ok, Err, Option, Some, None, option_map, ◌^◌}
use Rattle.std.proofs.lemmas.Bool.{lt-ltb, eq-eqb}
use Rattle.std.proofs.Common.{inl, inr}
use Rattle.secs_item.specs.Item.{Value, list, values, Values, binary, boolean, ascii, jis8, char2, i1, i2, i4, i8, u1, u2, u4, u8, f4, f8, Elements, no_elements, element, nest, nest_of_elements, format_of, format_of_values, count_of, with_element}
use Rattle.secs_text.specs.Body.{encoded_bytes, Body, in_text, in_words, body_of, nothing_of}
use Rattle.secs_text.specs.Token.{Token, word, quoted, less, greater, bracket, bracket_end, stop, broken, end, Placed}
use Rattle.secs_text.specs.TypeName.{format_named}
use Rattle.secs_text.specs.Words.{number_below, signed_below, octet_of, float_of, truth_of}
use Rattle.secs_text.specs.Notation.{InWords, IsPiece, InPieces, BodyTokens, CountTokens, Enclosed, ItemTokens, ElementTokens}
use Rattle.secs_text.specs.ParserStates.{Rules, Count, Before, Place, Step, walk, step, ◌>>=◌, type_expected, after_type, count_expected, after_count, in_item, closed, with_word, or_fault, after_name, after_number, count_place, at_in_item, at_after_type, is_counted}
use Rattle.secs_text.specs.declared.fault.TextFault.TheVariants as fault
use Rattle.secs_text.proofs.Completeness.{token_of, Leads, leads_nowhere, leads_by_one, leads_by_both, leads_to, leads_along}

-- ---- values

-- Holds if the words of a format are read one by one.
pub record IsRead {X : Type 0} (one : List ℕ → Option X) (pack : List X → Values) : Type 0 where
  pub can_continue : (xs : List X) (w : List ℕ) → with_word (pack xs) w ≡ option_map (λ x. pack (xs ++ x ∷ [])) (one w)

abbrev pub holding : Before → Option Count → Value → Place
holding b c v = in_item b (record { count = c; so_far = v })

module _ {X : Type 0} (one : List ℕ → Option X) (pack : List X → Values) (read : IsRead one pack) (rules : Rules) (b : Before) (c : Option Count) where
  word_leads : (w : List ℕ) (x : X) (done : List X) → one w ≡ Some x → Leads rules (holding b c (values (pack done))) (word w ∷ []) (holding b c (values (pack (done ++ x ∷ []))))
  word_leads w x done is = leads_by_one rules _ _ (word w) (λ at. ap (λ o. or_fault (fault.Number at) b c o) (read.can_continue done w ∙ ap (λ o. option_map (λ y. pack (done ++ y ∷ [])) o) is))

  words_lead : (ws : List (List ℕ)) (xs done : List X) → map one ws ≡ map (λ x. Some x) xs → Leads rules (holding b c (values (pack done))) (map word ws) (holding b c (values (pack (done ++ xs))))
  words_lead [] [] done e = leads_to (ap (λ o. holding b c (values (pack o))) (sym (append-nil done))) (leads_nowhere rules _)
  words_lead [] (x ∷ xs) done e = cc
  words_lead (w ∷ ws) [] done e = cc
  words_lead (w ∷ ws) (x ∷ xs) done e =
      let is : one w ≡ Some x = cc in
      let rest : map one ws ≡ map (λ x. Some x) xs = cc in
      leads_to (ap (λ o. holding b c (values (pack o))) (append_assoc done (x ∷ []) xs)) (leads_by_both (word_leads w x done is) (words_lead ws xs (done ++ x ∷ []) rest))

  in_words_lead : (xs : List X) (ts : List Token) → InWords one xs ts → Leads rules (holding b c (values (pack []))) ts (holding b c (values (pack xs)))
  in_words_lead xs ts h = leads_along h.2 (words_lead h.0 xs [] h.1)

piece_leads : (rules : Rules) (b : Before) (c : Option Count) (t : Token) (first done : List ℕ) → IsPiece t first → Leads rules (holding b c (values (ascii done))) (t ∷ []) (holding b c (values (ascii (done ++ first))))
piece_leads rules b c (quoted text) first done h = leads_by_one rules _ _ (quoted text) (λ at. ap (λ o. Ok (holding b c (values (ascii (done ++ o))))) (sym h))
piece_leads rules b c (word w) first done h =
    leads_to (ap (λ o. holding b c (values (ascii (done ++ o)))) (sym h.2)) (word_leads octet_of ascii (record { can_continue = λ xs w. refl }) rules b c w h.0 done h.1)
piece_leads rules b c less first done h = absurd h
piece_leads rules b c greater first done h = absurd h
piece_leads rules b c bracket first done h = absurd h
piece_leads rules b c bracket_end first done h = absurd h
piece_leads rules b c stop first done h = absurd h
piece_leads rules b c broken first done h = absurd h
piece_leads rules b c end first done h = absurd h

pieces_lead : (rules : Rules) (b : Before) (c : Option Count) (ts : List Token) (octets done : List ℕ) → InPieces ts octets → Leads rules (holding b c (values (ascii done))) ts (holding b c (values (ascii (done ++ octets))))
pieces_lead rules b c [] octets done h = leads_to (ap (λ o. holding b c (values (ascii o))) (sym (append-nil done) ∙ ap (λ o. done ++ o) (sym h))) (leads_nowhere rules _)
pieces_lead rules b c (t ∷ ts) octets done h =
    leads_to (ap (λ o. holding b c (values (ascii o))) (append_assoc done h.0 h.1 ∙ ap (λ o. done ++ o) (sym h.4)))
    (leads_by_both (piece_leads rules b c t h.0 done h.2) (pieces_lead rules b c ts h.1 (done ++ h.0) h.3))

values_lead : (rules : Rules) (b : Before) (c : Option Count) (v : Values) (ts : List Token) → BodyTokens (body_of v) ts → Leads rules (holding b c (nothing_of (format_of_values v))) ts (holding b c (values v))
values_lead rules b c (ascii xs) ts h = pieces_lead rules b c ts xs [] h
values_lead rules b c (binary xs) ts h = in_words_lead octet_of binary (record { can_continue = λ xs w. refl }) rules b c xs ts h
values_lead rules b c (boolean xs) ts h = in_words_lead truth_of boolean (record { can_continue = λ xs w. refl }) rules b c xs ts h
values_lead rules b c (jis8 xs) ts h = in_words_lead octet_of jis8 (record { can_continue = λ xs w. refl }) rules b c xs ts h
values_lead rules b c (char2 xs) ts h = in_words_lead octet_of char2 (record { can_continue = λ xs w. refl }) rules b c xs ts h
values_lead rules b c (i1 xs) ts h = in_words_lead (signed_below (2 ^ 7)) i1 (record { can_continue = λ xs w. refl }) rules b c xs ts h
values_lead rules b c (i2 xs) ts h = in_words_lead (signed_below (2 ^ 15)) i2 (record { can_continue = λ xs w. refl }) rules b c xs ts h
values_lead rules b c (i4 xs) ts h = in_words_lead (signed_below (2 ^ 31)) i4 (record { can_continue = λ xs w. refl }) rules b c xs ts h
values_lead rules b c (i8 xs) ts h = in_words_lead (signed_below (2 ^ 63)) i8 (record { can_continue = λ xs w. refl }) rules b c xs ts h
values_lead rules b c (u1 xs) ts h = in_words_lead (number_below (2 ^ 8)) u1 (record { can_continue = λ xs w. refl }) rules b c xs ts h
values_lead rules b c (u2 xs) ts h = in_words_lead (number_below (2 ^ 16)) u2 (record { can_continue = λ xs w. refl }) rules b c xs ts h
values_lead rules b c (u4 xs) ts h = in_words_lead (number_below (2 ^ 32)) u4 (record { can_continue = λ xs w. refl }) rules b c xs ts h
values_lead rules b c (u8 xs) ts h = in_words_lead (number_below (2 ^ 64)) u8 (record { can_continue = λ xs w. refl }) rules b c xs ts h
values_lead rules b c (f4 xs) ts h = in_words_lead (float_of 4) f4 (record { can_continue = λ xs w. refl }) rules b c xs ts h
values_lead rules b c (f8 xs) ts h = in_words_lead (float_of 8) f8 (record { can_continue = λ xs w. refl }) rules b c xs ts h

-- ---- token lists that do not begin with a bracket

abbrev is_bracket : Token → Bool
is_bracket bracket = true
is_bracket t = false

abbrev begins_with_bracket : List Token → Bool
begins_with_bracket [] = false
begins_with_bracket (t ∷ ts) = is_bracket t

-- These tokens, and the end of the item.
abbrev closing : List Token → List Token
closing ts = ts ++ greater ∷ []

words_begin : (ws : List (List ℕ)) → begins_with_bracket (closing (map word ws)) ≡ false
words_begin [] = refl
words_begin (w ∷ ws) = refl

in_words_begin : {X : Type 0} (one : List ℕ → Option X) (xs : List X) (ts : List Token) → InWords one xs ts → begins_with_bracket (closing ts) ≡ false
in_words_begin one xs ts h = ap (λ o. begins_with_bracket (closing o)) h.2 ∙ words_begin h.0

pieces_begin : (ts : List Token) (octets : List ℕ) → InPieces ts octets → begins_with_bracket (closing ts) ≡ false
pieces_begin [] octets h = refl
pieces_begin (quoted text ∷ ts) octets h = refl
pieces_begin (word w ∷ ts) octets h = refl
pieces_begin (less ∷ ts) octets h = absurd h.2
pieces_begin (greater ∷ ts) octets h = absurd h.2
pieces_begin (bracket ∷ ts) octets h = absurd h.2
pieces_begin (bracket_end ∷ ts) octets h = absurd h.2
pieces_begin (stop ∷ ts) octets h = absurd h.2
pieces_begin (broken ∷ ts) octets h = absurd h.2
pieces_begin (end ∷ ts) octets h = absurd h.2

body_begins : (body : Body) (ts : List Token) → BodyTokens body ts → begins_with_bracket (closing ts) ≡ false
body_begins (in_text octets) ts h = pieces_begin ts octets h
body_begins (in_words s xs) ts h = in_words_begin (encoded_bytes s) xs ts h

enclosed_begins : (v : Value) (inner ts rest : List Token) → Enclosed v inner ts → begins_with_bracket (closing (ts ++ rest)) ≡ false
enclosed_begins v inner ts rest h = ap (λ o. begins_with_bracket (closing (o ++ rest))) h.parts

item_begins : (v : Value) (ts rest : List Token) → ItemTokens v ts → begins_with_bracket (closing (ts ++ rest)) ≡ false
item_begins (list es) ts rest h = enclosed_begins (list es) h.0 ts rest h.2
item_begins (values v) ts rest h = enclosed_begins (values v) h.0 ts rest h.2

elements_begin : (es : Elements) (ts : List Token) → ElementTokens es ts → begins_with_bracket (closing ts) ≡ false
elements_begin no_elements ts h = ap (λ o. begins_with_bracket (closing o)) h
elements_begin (element v es) ts h = ap (λ o. begins_with_bracket (closing o)) h.4 ∙ item_begins v h.0 h.1 h.2

-- ---- items

after_type_step : (b : Before) (v : Value) (at : ℕ) (t : Token) → is_bracket t ≡ false → at_after_type b v at t ≡ at_in_item b (record { count = None; so_far = v }) at t
after_type_step b v at (word w) bare = refl
after_type_step b v at (quoted text) bare = refl
after_type_step b v at less bare = refl
after_type_step b v at greater bare = refl
after_type_step b v at bracket bare = cc
after_type_step b v at bracket_end bare = refl
after_type_step b v at stop bare = refl
after_type_step b v at broken bare = refl
after_type_step b v at end bare = refl

-- No count is written.
uncounted : (rules : Rules) (b : Before) (v : Value) (q : Place) (ts : List Token) → begins_with_bracket (closing ts) ≡ false → Leads rules (holding b None v) (closing ts) q → (ps : List Placed) → map token_of ps ≡ closing ts → walk rules (after_type b v) ps ≡ Ok q
uncounted rules b v q [] bare leads [] e = cc
uncounted rules b v q (t ∷ ts) bare leads [] e = cc
uncounted rules b v q ts bare leads (p ∷ ps) e =
    let plain : is_bracket p.token ≡ false = ap begins_with_bracket e ∙ bare in
    ap (λ r. r >>= (λ next. walk rules next ps)) (after_type_step b v p.at p.token plain) ∙ leads.walks (p ∷ ps) e

-- A count is written.
counted : (rules : Rules) (b : Before) (v : Value) (q : Place) (ts : List Token) (w : List ℕ) (n : ℕ) → number_below (2 ^ 64) w ≡ Some n → ((at : ℕ) → Leads rules (holding b (Some (record { at = at; number = n })) v) ts q) → (ps : List Placed) → map token_of ps ≡ bracket ∷ word w ∷ bracket_end ∷ ts → walk rules (after_type b v) ps ≡ Ok q
counted rules b v q ts w n is leads [] e = cc
counted rules b v q ts w n is leads (x ∷ []) e = cc
counted rules b v q ts w n is leads (x ∷ y ∷ []) e = cc
counted rules b v q ts w n is leads (x ∷ y ∷ z ∷ ps) e =
    let first : x.token ≡ bracket = cc in
    let second : y.token ≡ word w = cc in
    let third : z.token ≡ bracket_end = cc in
    let rest : map token_of ps ≡ ts = cc in
    let c : Count = record { at = x.at; number = n } in
    ap (λ t. step rules (after_type b v) x.at t >>= (λ next. walk rules next (y ∷ z ∷ ps))) first
    ∙ ap (λ t. step rules (count_expected b v x.at) y.at t >>= (λ next. walk rules next (z ∷ ps))) second
    ∙ ap (λ o. after_number b v x.at y.at o >>= (λ next. walk rules next (z ∷ ps))) is
    ∙ ap (λ t. step rules (after_count b v c) z.at t >>= (λ next. walk rules next ps)) third
    ∙ (leads x.at).walks ps rest

-- The end of an item with the right count.
closes : (rules : Rules) (b : Before) (c : Option Count) (v : Value) → is_counted c (count_of v) ≡ true → Leads rules (holding b c v) (greater ∷ []) (closed b.lists b v)
closes rules b c v is = leads_by_one rules _ _ greater (λ at. let r : Step = Ok (closed b.lists b v) in let f : Step = Err (fault.Count (count_place c)) in ap (λ t. if t then r else f) is)

-- The tokens after the type name.
counted_or_not : (rules : Rules) (b : Before) (start v : Value) (count inner : List Token) → CountTokens (count_of v) count → begins_with_bracket (closing inner) ≡ false → ((c : Option Count) → Leads rules (holding b c start) inner (holding b c v)) → (ps : List Placed) → map token_of ps ≡ (count ++ inner) ++ greater ∷ [] → walk rules (after_type b start) ps ≡ Ok (closed b.lists b v)
counted_or_not rules b start v count inner (inl none) bare leads ps e =
    uncounted rules b start _ inner bare (leads_by_both (leads None) (closes rules b None v refl)) ps (e ∙ ap (λ o. (o ++ inner) ++ greater ∷ []) none)
counted_or_not rules b start v count inner (inr h) bare leads ps e =
    counted rules b start _ (closing inner) h.0 (count_of v) h.1
    (λ at. let c : Option Count = Some (record { at = at; number = count_of v }) in leads_by_both (leads c) (closes rules b c v (eq-eqb (count_of v) (count_of v) refl)))
    ps (e ∙ ap (λ o. (o ++ inner) ++ greater ∷ []) h.2)

name_of_values_leads : (rules : Rules) (b : Before) (v : Values) (opening at : ℕ) → after_name rules b opening at (Some (format_of_values v)) ≡ Ok (after_type b (nothing_of (format_of_values v)))
name_of_values_leads rules b (binary xs) opening at = refl
name_of_values_leads rules b (boolean xs) opening at = refl
name_of_values_leads rules b (ascii xs) opening at = refl
name_of_values_leads rules b (jis8 xs) opening at = refl
name_of_values_leads rules b (char2 xs) opening at = refl
name_of_values_leads rules b (i1 xs) opening at = refl
name_of_values_leads rules b (i2 xs) opening at = refl
name_of_values_leads rules b (i4 xs) opening at = refl
name_of_values_leads rules b (i8 xs) opening at = refl
name_of_values_leads rules b (u1 xs) opening at = refl
name_of_values_leads rules b (u2 xs) opening at = refl
name_of_values_leads rules b (u4 xs) opening at = refl
name_of_values_leads rules b (u8 xs) opening at = refl
name_of_values_leads rules b (f4 xs) opening at = refl
name_of_values_leads rules b (f8 xs) opening at = refl

name_leads : (rules : Rules) (b : Before) (v : Value) (opening at : ℕ) → nest v + length b.lists ≤ rules.depth → after_name rules b opening at (Some (format_of v)) ≡ Ok (after_type b (nothing_of (format_of v)))
name_leads rules b (values v) opening at deep = name_of_values_leads rules b v opening at
name_leads rules b (list es) opening at deep =
    let lt : length b.lists < rules.depth = omega arith in
    let r : Step = Ok (after_type b (list no_elements)) in
    let f : Step = Err (fault.Deep opening) in
    ap (λ t. if t then r else f) (lt-ltb (length b.lists) rules.depth lt)

-- `<`, the type name, and the tokens that follow.
opened : (rules : Rules) (b : Before) (v : Value) (name : List ℕ) (rest : List Token) (q : Place) → format_named name ≡ Some (format_of v) → nest v + length b.lists ≤ rules.depth → (p : Place) → ((at : ℕ) → step rules p at less ≡ Ok (type_expected b at)) → ((ps : List Placed) → map token_of ps ≡ rest → walk rules (after_type b (nothing_of (format_of v))) ps ≡ Ok q) → (ps : List Placed) → map token_of ps ≡ less ∷ word name ∷ rest → walk rules p ps ≡ Ok q
opened rules b v name rest q named deep p opens more [] e = cc
opened rules b v name rest q named deep p opens more (x ∷ []) e = cc
opened rules b v name rest q named deep p opens more (x ∷ y ∷ ps) e =
    let first : x.token ≡ less = cc in
    let second : y.token ≡ word name = cc in
    let others : map token_of ps ≡ rest = cc in
    ap (λ t. step rules p x.at t >>= (λ next. walk rules next (y ∷ ps))) first
    ∙ ap (λ r. r >>= (λ next. walk rules next (y ∷ ps))) (opens x.at)
    ∙ ap (λ t. step rules (type_expected b x.at) y.at t >>= (λ next. walk rules next ps)) second
    ∙ ap (λ o. after_name rules b x.at y.at o >>= (λ next. walk rules next ps)) named
    ∙ ap (λ r. r >>= (λ next. walk rules next ps)) (name_leads rules b v x.at y.at deep)
    ∙ more ps others

enclosed_leads : (rules : Rules) (b : Before) (v : Value) (inner ts : List Token) → Enclosed v inner ts → nest v + length b.lists ≤ rules.depth → begins_with_bracket (closing inner) ≡ false → ((c : Option Count) → Leads rules (holding b c (nothing_of (format_of v))) inner (holding b c v)) → (p : Place) → ((at : ℕ) → step rules p at less ≡ Ok (type_expected b at)) → Leads rules p ts (closed b.lists b v)
enclosed_leads rules b v inner ts h deep bare leads p opens = record {
  walks = λ ps e. opened rules b v h.name ((h.count ++ inner) ++ greater ∷ []) _ h.named deep p opens (counted_or_not rules b (nothing_of (format_of v)) v h.count inner h.counted bare leads) ps (e ∙ h.parts);
}

-- The elements, followed by more elements.
joined : Elements → Elements → Elements
joined before no_elements = before
joined before (element v es) = joined (with_element before v) es

joined_element : (w : Value) (before es : Elements) → joined (element w before) es ≡ element w (joined before es)
unfolding joined
joined_element w before no_elements = refl
joined_element w before (element v es) = joined_element w (with_element before v) es

joined_all : (es : Elements) → joined no_elements es ≡ es
unfolding joined
joined_all no_elements = refl
joined_all (element v es) = joined_element v no_elements es ∙ ap (λ o. element v o) (joined_all es)

mutual
  unfolding joined

  pub item_leads : (rules : Rules) (v : Value) (ts : List Token) → ItemTokens v ts → (b : Before) → nest v + length b.lists ≤ rules.depth → (p : Place) → ((at : ℕ) → step rules p at less ≡ Ok (type_expected b at)) → Leads rules p ts (closed b.lists b v)
  item_leads rules (values v) ts h b deep p opens = enclosed_leads rules b (values v) h.0 ts h.2 deep (body_begins (body_of v) h.0 h.1) (λ c. values_lead rules b c v h.0 h.1) p opens
  item_leads rules (list es) ts h b deep p opens =
      enclosed_leads rules b (list es) h.0 ts h.2 deep (elements_begin es h.0 h.1)
      (λ c. leads_to (ap (λ o. holding b c (list o)) (joined_all es)) (elements_lead rules es h.0 h.1 b c no_elements (omega arith))) p opens

  elements_lead : (rules : Rules) (es : Elements) (ts : List Token) → ElementTokens es ts → (b : Before) (c : Option Count) (before : Elements) → nest_of_elements es + suc (length b.lists) ≤ rules.depth → Leads rules (holding b c (list before)) ts (holding b c (list (joined before es)))
  elements_lead rules no_elements ts h b c before deep = leads_along h (leads_nowhere rules _)
  elements_lead rules (element v es) ts h b c before deep =
      let within : Before = record b { lists = record { count = c; so_far = list before } ∷ b.lists } in
      leads_along h.4 (leads_by_both (item_leads rules v h.0 h.2 within (omega arith) (holding b c (list before)) (λ at. refl)) (elements_lead rules es h.1 h.3 b c (with_element before v) (omega arith)))
