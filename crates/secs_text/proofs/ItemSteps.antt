-- Steps inside an item accept nothing but the tokens of items.
use Rattle.std.proofs.Common.{◌≡◌, ℕ, ◌+◌, ◌<◌, ◌≤◌, true, List, [], ◌∷◌, ◌++◌, length, refl, sym, ap, ◌∙◌, subst, append_assoc, arith}
use Rattle.std.specs.Prelude.{Ok, Option, Some, None, nat_lt, ◌^◌}
use Rattle.std.proofs.lemmas.Bool.{ltb-true}
use Rattle.secs_item.specs.Item.{Value, list, values, Values, no_elements, nest, count_of}
use Rattle.secs_item.specs.declared.format.Format.{Format}
use Rattle.secs_item.specs.declared.format.Format.TheVariants as format
use Rattle.secs_text.specs.declared.fault.TextFault.{TextFault}
use Rattle.secs_text.specs.declared.fault.TextFault.TheVariants as fault
use Rattle.secs_text.specs.Body.{nothing_of}
use Rattle.secs_text.specs.Token.{Token, word, quoted, less, greater, bracket, bracket_end, stop, broken, end}
use Rattle.secs_text.specs.TypeName.{format_named}
use Rattle.secs_text.specs.Words.{number_below}
use Rattle.secs_text.specs.Notation.{ItemTokens}
use Rattle.secs_text.specs.ParserStates.{Rules, Count, Opened, Before, Place, Step, type_expected, after_type, count_expected, after_count, in_item, step, with_word, with_quoted, is_counted, count_place, closed, or_fault, after_name, after_number, at_value, at_in_item}
use Rattle.secs_text.proofs.PartialTokens.{OpenedTokens, element_taken, nest_taken, value_taken, word_taken, quoted_taken, item_closed, format_of_nothing, nothing_so_far}
use Rattle.secs_text.proofs.TokensBefore.{Surrounded, Named, InItem, StateInvariant, arrives, chosen}

-- ---- the type name

named_leads : (rules : Rules) (b : Before) (opening at : ℕ) (f : Format) (next : Place) → length b.lists ≤ rules.depth → after_name rules b opening at (Some f) ≡ Ok next → (◌≡◌ {A = Step} (Ok (after_type b (nothing_of f))) (Ok next)) × (nest (nothing_of f) + length b.lists ≤ rules.depth)
named_leads rules b opening at format.List next room e =
    let c = chosen (nat_lt (length b.lists) rules.depth) (Ok (after_type b (list no_elements))) (fault.Deep opening) next e in
    let lt : length b.lists < rules.depth = ltb-true (length b.lists) rules.depth c.0 in
    (c.1, omega arith)
named_leads rules b opening at format.Binary next room e = (e, omega arith)
named_leads rules b opening at format.Boolean next room e = (e, omega arith)
named_leads rules b opening at format.Ascii next room e = (e, omega arith)
named_leads rules b opening at format.Jis8 next room e = (e, omega arith)
named_leads rules b opening at format.Char2 next room e = (e, omega arith)
named_leads rules b opening at format.I1 next room e = (e, omega arith)
named_leads rules b opening at format.I2 next room e = (e, omega arith)
named_leads rules b opening at format.I4 next room e = (e, omega arith)
named_leads rules b opening at format.I8 next room e = (e, omega arith)
named_leads rules b opening at format.U1 next room e = (e, omega arith)
named_leads rules b opening at format.U2 next room e = (e, omega arith)
named_leads rules b opening at format.U4 next room e = (e, omega arith)
named_leads rules b opening at format.U8 next room e = (e, omega arith)
named_leads rules b opening at format.F4 next room e = (e, omega arith)
named_leads rules b opening at format.F8 next room e = (e, omega arith)

name_step : (rules : Rules) (b : Before) (opening at : ℕ) (w : List ℕ) (ts outer : List Token) (next : Place) → Surrounded rules b.messages b.message b.lists outer → length b.lists ≤ rules.depth → ts ≡ outer ++ less ∷ [] → (o : Option Format) → format_named w ≡ o → after_name rules b opening at o ≡ Ok next → StateInvariant rules next (ts ++ word w ∷ [])
name_step rules b opening at w ts outer next around room parts None is e = cc
name_step rules b opening at w ts outer next around room parts (Some f) is e =
    let l = named_leads rules b opening at f next room e in
    arrives rules (after_type b (nothing_of f)) next _ (record {
      outer = outer;
      around = around;
      name = w;
      named = is ∙ ap (λ o. Some o) (sym (format_of_nothing f));
      nothing = nothing_so_far f;
      shallow = l.1;
      parts = ap (λ o. o ++ word w ∷ []) parts ∙ append_assoc outer (less ∷ []) (word w ∷ []);
    }) l.0

pub type_step : (rules : Rules) (b : Before) (opening at : ℕ) (t : Token) (ts outer : List Token) (next : Place) → Surrounded rules b.messages b.message b.lists outer → length b.lists ≤ rules.depth → ts ≡ outer ++ less ∷ [] → step rules (type_expected b opening) at t ≡ Ok next → StateInvariant rules next (ts ++ t ∷ [])
type_step rules b opening at (word w) ts outer next around room parts e = name_step rules b opening at w ts outer next around room parts (format_named w) refl e
type_step rules b opening at (quoted text) ts outer next around room parts e = cc
type_step rules b opening at less ts outer next around room parts e = cc
type_step rules b opening at greater ts outer next around room parts e = cc
type_step rules b opening at bracket ts outer next around room parts e = cc
type_step rules b opening at bracket_end ts outer next around room parts e = cc
type_step rules b opening at stop ts outer next around room parts e = cc
type_step rules b opening at broken ts outer next around room parts e = cc
type_step rules b opening at end ts outer next around room parts e = cc

-- ---- values and the end of an item

closed_invariant : (rules : Rules) (lists : List Opened) (b : Before) (v : Value) (outer us : List Token) → Surrounded rules b.messages b.message lists outer → ItemTokens v us → nest v + length lists ≤ rules.depth → StateInvariant rules (closed lists b v) (outer ++ us)
closed_invariant rules [] b v outer us around item deep = record { outer = outer; headed = around; value = v; item = refl; inner = us; holds = item; shallow = omega arith; parts = refl }
closed_invariant rules (o ∷ os) b v outer us around item deep = record {
  outer = around.0;
  around = around.2;
  inner = around.1 ++ us;
  opened = element_taken o.count o.so_far v around.1 us around.4 around.3 item;
  shallow = nest_taken o.so_far v (length os) rules.depth around.4 around.5 deep;
  parts = ap (λ x. x ++ us) around.6 ∙ append_assoc around.0 around.1 us;
}

taken_step : (rules : Rules) (b : Before) (c : Option Count) (v : Values) (t : Token) (ts : List Token) (next : Place) (f : TextFault) → InItem rules b c (values v) ts → (o : Option Values) → ((more : Values) → o ≡ Some more → (inner : List Token) → OpenedTokens c (values v) inner → OpenedTokens c (values more) (inner ++ t ∷ [])) → or_fault f b c o ≡ Ok next → StateInvariant rules next (ts ++ t ∷ [])
taken_step rules b c v t ts next f h None taken e = cc
taken_step rules b c v t ts next f h (Some more) taken e =
    arrives rules (in_item b (record { count = c; so_far = values more })) next _ (record {
      outer = h.outer;
      around = h.around;
      inner = h.inner ++ t ∷ [];
      opened = taken more refl h.inner h.opened;
      shallow = h.shallow;
      parts = ap (λ o. o ++ t ∷ []) h.parts ∙ append_assoc h.outer h.inner (t ∷ []);
    }) e

value_step : (rules : Rules) (b : Before) (c : Option Count) (v : Value) (at : ℕ) (t : Token) (ts : List Token) (next : Place) → InItem rules b c v ts → at_value b c v at t ≡ Ok next → StateInvariant rules next (ts ++ t ∷ [])
value_step rules b c (list es) at less ts next h e =
    arrives rules (type_expected (record b { lists = record { count = c; so_far = list es } ∷ b.lists }) at) next _ (ts, (h.outer, h.inner, h.around, h.opened, tt, h.shallow, h.parts), (let s = h.shallow in omega arith), refl) e
value_step rules b c (list es) at (word w) ts next h e = cc
value_step rules b c (list es) at (quoted text) ts next h e = cc
value_step rules b c (list es) at greater ts next h e = cc
value_step rules b c (list es) at bracket ts next h e = cc
value_step rules b c (list es) at bracket_end ts next h e = cc
value_step rules b c (list es) at stop ts next h e = cc
value_step rules b c (list es) at broken ts next h e = cc
value_step rules b c (list es) at end ts next h e = cc
value_step rules b c (values v) at (word w) ts next h e =
    taken_step rules b c v (word w) ts next (fault.Number at) h (with_word v w) (λ more is inner o. value_taken c v more inner (word w) o (λ inside holds. word_taken v more inside w holds is)) e
value_step rules b c (values v) at (quoted text) ts next h e =
    taken_step rules b c v (quoted text) ts next (fault.Syntax at) h (with_quoted v text) (λ more is inner o. value_taken c v more inner (quoted text) o (λ inside holds. quoted_taken v more inside text holds is)) e
value_step rules b c (values v) at less ts next h e = cc
value_step rules b c (values v) at greater ts next h e = cc
value_step rules b c (values v) at bracket ts next h e = cc
value_step rules b c (values v) at bracket_end ts next h e = cc
value_step rules b c (values v) at stop ts next h e = cc
value_step rules b c (values v) at broken ts next h e = cc
value_step rules b c (values v) at end ts next h e = cc

close_step : (rules : Rules) (b : Before) (c : Option Count) (v : Value) (ts : List Token) (next : Place) → InItem rules b c v ts → is_counted c (count_of v) ≡ true → ◌≡◌ {A = Step} (Ok (closed b.lists b v)) (Ok next) → StateInvariant rules next (ts ++ greater ∷ [])
close_step rules b c v ts next h right e =
    let P : List Token → Type 0 = λ o. StateInvariant rules (closed b.lists b v) o in
    let parts : ts ++ greater ∷ [] ≡ h.outer ++ (h.inner ++ greater ∷ []) = ap (λ o. o ++ greater ∷ []) h.parts ∙ append_assoc h.outer h.inner (greater ∷ []) in
    arrives rules (closed b.lists b v) next _ (subst P (sym parts) (closed_invariant rules b.lists b v h.outer (h.inner ++ greater ∷ []) h.around (item_closed c v h.inner h.opened right) h.shallow)) e

pub in_item_step : (rules : Rules) (b : Before) (c : Option Count) (v : Value) (at : ℕ) (t : Token) (ts : List Token) (next : Place) → InItem rules b c v ts → at_in_item b (record { count = c; so_far = v }) at t ≡ Ok next → StateInvariant rules next (ts ++ t ∷ [])
in_item_step rules b c v at greater ts next h e =
    let k = chosen (is_counted c (count_of v)) (Ok (closed b.lists b v)) (fault.Count (count_place c)) next e in
    close_step rules b c v ts next h k.0 k.1
in_item_step rules b c v at (word w) ts next h e = value_step rules b c v at (word w) ts next h e
in_item_step rules b c v at (quoted text) ts next h e = value_step rules b c v at (quoted text) ts next h e
in_item_step rules b c v at less ts next h e = value_step rules b c v at less ts next h e
in_item_step rules b c v at bracket ts next h e = value_step rules b c v at bracket ts next h e
in_item_step rules b c v at bracket_end ts next h e = value_step rules b c v at bracket_end ts next h e
in_item_step rules b c v at stop ts next h e = value_step rules b c v at stop ts next h e
in_item_step rules b c v at broken ts next h e = value_step rules b c v at broken ts next h e
in_item_step rules b c v at end ts next h e = value_step rules b c v at end ts next h e

-- ---- the count

more_named : (rules : Rules) (b : Before) (v : Value) (more ts us : List Token) → Named rules b v more ts → Named rules b v (more ++ us) (ts ++ us)
more_named rules b v more ts us h = record {
  outer = h.outer;
  around = h.around;
  name = h.name;
  named = h.named;
  nothing = h.nothing;
  shallow = h.shallow;
  parts = ap (λ o. o ++ us) h.parts ∙ append_assoc h.outer (less ∷ word h.name ∷ more) us;
}

uncounted : (rules : Rules) (b : Before) (v : Value) (ts : List Token) → Named rules b v [] ts → InItem rules b None v ts
uncounted rules b v ts h = record {
  outer = h.outer;
  around = h.around;
  inner = less ∷ word h.name ∷ [];
  opened = record { name = h.name; named = h.named; written = []; counted = refl; inner = []; holds = h.nothing; parts = refl };
  shallow = h.shallow;
  parts = h.parts;
}

pub after_type_step : (rules : Rules) (b : Before) (v : Value) (at : ℕ) (t : Token) (ts : List Token) (next : Place) → Named rules b v [] ts → step rules (after_type b v) at t ≡ Ok next → StateInvariant rules next (ts ++ t ∷ [])
after_type_step rules b v at bracket ts next h e = arrives rules (count_expected b v at) next _ (more_named rules b v [] ts (bracket ∷ []) h) e
after_type_step rules b v at (word w) ts next h e = in_item_step rules b None v at (word w) ts next (uncounted rules b v ts h) e
after_type_step rules b v at (quoted text) ts next h e = in_item_step rules b None v at (quoted text) ts next (uncounted rules b v ts h) e
after_type_step rules b v at less ts next h e = in_item_step rules b None v at less ts next (uncounted rules b v ts h) e
after_type_step rules b v at greater ts next h e = in_item_step rules b None v at greater ts next (uncounted rules b v ts h) e
after_type_step rules b v at bracket_end ts next h e = in_item_step rules b None v at bracket_end ts next (uncounted rules b v ts h) e
after_type_step rules b v at stop ts next h e = in_item_step rules b None v at stop ts next (uncounted rules b v ts h) e
after_type_step rules b v at broken ts next h e = in_item_step rules b None v at broken ts next (uncounted rules b v ts h) e
after_type_step rules b v at end ts next h e = in_item_step rules b None v at end ts next (uncounted rules b v ts h) e

number_step : (rules : Rules) (b : Before) (v : Value) (opening at : ℕ) (w : List ℕ) (ts : List Token) (next : Place) → Named rules b v (bracket ∷ []) ts → (o : Option ℕ) → number_below (2 ^ 64) w ≡ o → after_number b v opening at o ≡ Ok next → StateInvariant rules next (ts ++ word w ∷ [])
number_step rules b v opening at w ts next h None is e = cc
number_step rules b v opening at w ts next h (Some n) is e =
    arrives rules (after_count b v (record { at = opening; number = n })) next _ (w, is, more_named rules b v (bracket ∷ []) ts (word w ∷ []) h) e

pub count_step : (rules : Rules) (b : Before) (v : Value) (opening at : ℕ) (t : Token) (ts : List Token) (next : Place) → Named rules b v (bracket ∷ []) ts → step rules (count_expected b v opening) at t ≡ Ok next → StateInvariant rules next (ts ++ t ∷ [])
count_step rules b v opening at (word w) ts next h e = number_step rules b v opening at w ts next h (number_below (2 ^ 64) w) refl e
count_step rules b v opening at (quoted text) ts next h e = cc
count_step rules b v opening at less ts next h e = cc
count_step rules b v opening at greater ts next h e = cc
count_step rules b v opening at bracket ts next h e = cc
count_step rules b v opening at bracket_end ts next h e = cc
count_step rules b v opening at stop ts next h e = cc
count_step rules b v opening at broken ts next h e = cc
count_step rules b v opening at end ts next h e = cc

counted : (rules : Rules) (b : Before) (v : Value) (c : Count) (w : List ℕ) (ts : List Token) → number_below (2 ^ 64) w ≡ Some c.number → Named rules b v (bracket ∷ word w ∷ bracket_end ∷ []) ts → InItem rules b (Some c) v ts
counted rules b v c w ts is h = record {
  outer = h.outer;
  around = h.around;
  inner = less ∷ word h.name ∷ bracket ∷ word w ∷ bracket_end ∷ [];
  opened = record { name = h.name; named = h.named; written = bracket ∷ word w ∷ bracket_end ∷ []; counted = (w, is, refl); inner = []; holds = h.nothing; parts = refl };
  shallow = h.shallow;
  parts = h.parts;
}

pub count_end_step : (rules : Rules) (b : Before) (v : Value) (c : Count) (w : List ℕ) (at : ℕ) (t : Token) (ts : List Token) (next : Place) → number_below (2 ^ 64) w ≡ Some c.number → Named rules b v (bracket ∷ word w ∷ []) ts → step rules (after_count b v c) at t ≡ Ok next → StateInvariant rules next (ts ++ t ∷ [])
count_end_step rules b v c w at bracket_end ts next is h e =
    arrives rules (in_item b (record { count = Some c; so_far = v })) next _ (counted rules b v c w _ is (more_named rules b v (bracket ∷ word w ∷ []) ts (bracket_end ∷ []) h)) e
count_end_step rules b v c w at (word x) ts next is h e = cc
count_end_step rules b v c w at (quoted text) ts next is h e = cc
count_end_step rules b v c w at less ts next is h e = cc
count_end_step rules b v c w at greater ts next is h e = cc
count_end_step rules b v c w at bracket ts next is h e = cc
count_end_step rules b v c w at stop ts next is h e = cc
count_end_step rules b v c w at broken ts next is h e = cc
count_end_step rules b v c w at end ts next is h e = cc
