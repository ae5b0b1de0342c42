-- Encoding of items and the elements of a list, one by one.
use Rattle.std.proofs.Common.{◌≡◌, ℕ, suc, ◌+◌, ◌*◌, ◌&&◌, Bool, true, false, List, [], ◌∷◌, ◌++◌, length, take, drop, refl, sym, ap, ◌∙◌, append_assoc, append-nil, length-append, arith, if◌then◌else◌, ◌-◌, ◌<◌, ◌^◌, ◌≤◌}
use Rattle.std.specs.Prelude.{Ok, Err, Option, Some, None, option_map, option_and_then, nat_lt, IsTrue, ◌↔◌}
use Rattle.std.proofs.lemmas.Bool.{le-ltb, lt-ltb}
use Rattle.std.proofs.lemmas.List.{take_at, drop_at}
use Rattle.secs_item.specs.declared.format.Format.{Format}
use Rattle.secs_item.specs.declared.format.Format.TheVariants as format
use Rattle.secs_item.specs.Format.{value_size}
use Rattle.secs_item.specs.Item.{Value, list, values, Elements, no_elements, element, count, with_element, count_of_values}
use Rattle.secs_item.specs.Encoding.{header}
use Rattle.secs_item.specs.ShortestEncoding.{field_of, framed, short, short_elements, short_body}
use Rattle.secs_text.specs.Body.{nothing_of}
use Rattle.secs_text.specs.Token as math
use Rattle.secs_text.specs.Token.{Placed}
use Rattle.secs_text.specs.ParserStates.{Rules, Before, Count, walk, type_expected, in_item, closed, is_counted, count_place, ◌>>=◌}
use Rattle.secs_text.specs.InnerParseSteps.{Checks, Fails}
use Rattle.secs_text.specs.InnerEncodedText.{appended_text, AppendsBytes, Closed, Itemized, Deep, Anywhere}
use Rattle.secs_text.specs.declared.fault.TextFault.{TextFault}
use Rattle.secs_text.specs.declared.fault.TextFault.TheVariants as fault

-- ---- headers

-- The result of `patch_header`: whether there is a header, which then replaces two bytes.
pub record Patched (f : Format) (number start : ℕ) (old now : List ℕ) (fits : Bool) : Type 0 where
  pub holds : IsTrue fits ↔ (number < 256 ^ 3)
  pub octets : IsTrue fits → now ≡ take start old ++ (header f (field_of number) number ++ drop (start + 2) old)

patched_appended : {f : Format} {number start : ℕ} {old now : List ℕ} (fits : Bool) (front body : List ℕ)
    → Patched f number start old now fits → old ≡ front ++ 0 ∷ 0 ∷ body → length front ≡ start → AppendsBytes fits front now (framed f number body)
patched_appended {f} {number} {start} {old} true front body h is long =
    let less : nat_lt number (256 ^ 3) ≡ true = lt-ltb number (256 ^ 3) (h.holds.0 refl) in
    let before : take start old ≡ front = ap (λ o. take start o) is ∙ take_at front (0 ∷ 0 ∷ body) start long in
    let kept : length (front ++ 0 ∷ 0 ∷ []) ≡ start + 2 = length-append front (0 ∷ 0 ∷ []) ∙ ap (λ k. k + 2) long in
    let subsequent : drop (start + 2) old ≡ body = ap (λ o. drop (start + 2) o) (is ∙ sym (append_assoc front (0 ∷ 0 ∷ []) body)) ∙ drop_at (front ++ 0 ∷ 0 ∷ []) body (start + 2) kept in
    rw less (ap (λ o. Some o) (h.octets refl ∙ rw (before, subsequent) refl))
patched_appended {f} {number} false front body h is long =
    let more : 256 ^ 3 ≤ number = grind (arith, h.holds.1) in
    rw (le-ltb number (256 ^ 3) more) refl

-- ---- items of values

-- After two reserved bytes the values were appended, and then the header replaced these bytes.
pub item_patched : {f : Format} {c : Option Count} {before after : List Placed} (old from mid now : List ℕ) (fits : Bool) (start end : ℕ)
    → Closed f c before after from mid → from ≡ old ++ 0 ∷ 0 ∷ [] → start ≡ length old → end ≡ length mid → Patched f (end - start - 2) start mid now fits
    → Itemized Anywhere (λ b. in_item b (record { count = c; so_far = nothing_of f })) before after fits old now
item_patched {f} {c} old from mid now fits start end h kept start_is end_is patched =
    let body = short_body h.held in
    let parts : mid ≡ old ++ 0 ∷ 0 ∷ body = h.octets ∙ ap (λ o. o ++ body) kept ∙ append_assoc old (0 ∷ 0 ∷ []) body in
    let long : length mid ≡ length old + length (0 ∷ 0 ∷ body) = ap length parts ∙ length-append old (0 ∷ 0 ∷ body) in
    let rest : length (0 ∷ 0 ∷ body) ≡ length body + 2 = omega arith in
    let size : end - start - 2 ≡ value_size f * count_of_values h.held = (let s : length body ≡ value_size f * count_of_values h.held = h.size in omega arith) in
    record {
      value = values h.held;
      leads = λ rules b where_. h.leads rules b;
      appends_bytes = patched_appended fits old body patched parts (sym start_is) ∙ ap (λ n. option_map (λ o. old ++ o) (framed f n body)) size
          ∙ ap (λ g. option_map (λ o. old ++ o) (framed g (value_size g * count_of_values h.held) body)) (sym h.form);
    }

-- The two reserved bytes exist.
pub two_kept : {f : Format} {c : Option Count} {before after : List Placed} (old from mid : List ℕ) (start : ℕ)
    → Closed f c before after from mid → from ≡ old ++ 0 ∷ 0 ∷ [] → start ≡ length old → start + 2 ≤ length mid
two_kept old from mid start h kept start_is =
    omega (arith, start_is, ap length h.octets, length-append from (short_body h.held), ap length kept, length-append old (0 ∷ 0 ∷ []))

-- ---- lists

-- Elements that lead from the tokens `before` to the tokens `after`, in a list with this count.
pub record ListedSoFar (depth : ℕ) (c : Option Count) (before after : List Placed) (fits : Bool) (number : ℕ) (old new : List ℕ) : Type 0 where
  pub elements : Elements
  pub leads : (rules : Rules) (b : Before) → Deep (1 + depth) rules b → walk rules (in_item b (record { count = c; so_far = list no_elements })) before ≡ walk rules (in_item b (record { count = c; so_far = list elements })) after
  pub counted : count elements ≡ number
  pub appends_bytes : AppendsBytes fits (old ++ 0 ∷ 0 ∷ []) new (short_elements elements)

pub none_listed : (depth : ℕ) (c : Option Count) (before : List Placed) (old new : List ℕ) → new ≡ old ++ 0 ∷ 0 ∷ [] → ListedSoFar depth c before before true 0 old new
none_listed depth c before old new is = record {
  elements = no_elements;
  leads = λ rules b deep. refl;
  counted = refl;
  appends_bytes = ap (λ o. Some o) (is ∙ sym (append-nil (old ++ 0 ∷ 0 ∷ [])));
}

-- One more element.
count-with : (es : Elements) (v : Value) → count (with_element es v) ≡ suc (count es)
count-with no_elements v = refl
count-with (element w es) v = ap suc (count-with es v)

-- The bytes of the first, followed by those of the others.
abbrev subsequent : Option (List ℕ) → Option (List ℕ) → Option (List ℕ)
subsequent first others = option_and_then (λ f. option_map (λ o. f ++ o) others) first

subsequent_none : (first : Option (List ℕ)) → subsequent first None ≡ None
subsequent_none None = refl
subsequent_none (Some f) = refl

subsequent_nothing : (first : Option (List ℕ)) → subsequent first (Some []) ≡ first
subsequent_nothing None = refl
subsequent_nothing (Some f) = ap (λ o. Some o) (append-nil f)

subsequent_both : (a b c : Option (List ℕ)) → subsequent (subsequent a b) c ≡ subsequent a (subsequent b c)
subsequent_both None b c = refl
subsequent_both (Some a) None c = refl
subsequent_both (Some a) (Some b) None = refl
subsequent_both (Some a) (Some b) (Some c) = ap (λ o. Some o) (append_assoc a b c)

short-with : (es : Elements) (v : Value) → short_elements (with_element es v) ≡ subsequent (short_elements es) (short v)
short-with no_elements v = subsequent_nothing (short v) ∙ same (short v)
  where
    same : (r : Option (List ℕ)) → r ≡ subsequent (Some []) r
    same None = refl
    same (Some o) = refl
short-with (element w es) v = ap (λ o. subsequent (short w) o) (short-with es v) ∙ sym (subsequent_both (short w) (short_elements es) (short v))

appends_both : (first second : Bool) (old mid new : List ℕ) (a b : Option (List ℕ)) → AppendsBytes first old mid a → AppendsBytes second mid new b → AppendsBytes (first && second) old new (subsequent a b)
appends_both true true old mid new (Some a) (Some b) e g =
    let one : mid ≡ old ++ a = cc in
    let two : new ≡ mid ++ b = cc in
    ap (λ o. Some o) (two ∙ ap (λ o. o ++ b) one ∙ append_assoc old a b)
appends_both true true old mid new (Some a) None e g = cc
appends_both true true old mid new None b e g = cc
appends_both true false old mid new (Some a) None e g = refl
appends_both true false old mid new None None e g = refl
appends_both true false old mid new a (Some b) e g = cc
appends_both false second old mid new None b e g = refl
appends_both false second old mid new (Some a) b e g = cc

pub element_listed : {depth : ℕ} {c : Option Count} {before after : List Placed} {fits : Bool} {number : ℕ} {old new : List ℕ} (at : ℕ) (from rest : List Placed) (done : Bool) (now : List ℕ)
    → ListedSoFar depth c before after fits number old new → after ≡ record { at = at; token = math.less } ∷ from → Itemized (Deep depth) (λ b. type_expected b at) from rest done new now
    → ListedSoFar depth c before rest (fits && done) (number + 1) old now
element_listed {depth} {c} {fits = fits} {old = old} {new = new} at from rest done now h is item = record {
  elements = with_element h.elements item.value;
  leads = λ rules b deep.
      let inner : Before = record b { lists = record { count = c; so_far = list h.elements } ∷ b.lists } in
      h.leads rules b deep ∙ ap (λ ps. walk rules (in_item b (record { count = c; so_far = list h.elements })) ps) is ∙ item.leads rules inner (let d : length b.lists + (1 + depth) ≡ rules.depth = deep in omega arith);
  counted = count-with h.elements item.value ∙ (let k = h.counted in omega arith);
  appends_bytes = appends_both fits done (old ++ 0 ∷ 0 ∷ []) new now (short_elements h.elements) (short item.value) h.appends_bytes item.appends_bytes ∙ ap (λ s. option_map (λ o. (old ++ 0 ∷ 0 ∷ []) ++ o) s) (sym (short-with h.elements item.value));
}

-- ---- the end of a list

module _ {depth : ℕ} {c : Option Count} {before after : List Placed} {fits : Bool} {number : ℕ} {old new : List ℕ} (at : ℕ) (rest : List Placed) (h : ListedSoFar depth c before after fits number old new)
    (is : after ≡ record { at = at; token = math.greater } ∷ rest) where
  close : (rules : Rules) (b : Before) (t : Bool) → Deep (1 + depth) rules b → is_counted c number ≡ t → walk rules (in_item b (record { count = c; so_far = list no_elements })) before
      ≡ (if t then Ok (closed b.lists b (list h.elements)) else Err (fault.Count (count_place c))) >>= (λ next. walk rules next rest)
  close rules b t deep right =
      h.leads rules b deep ∙ ap (λ ps. walk rules (in_item b (record { count = c; so_far = list h.elements })) ps) is
      ∙ ap (λ u. (if u then Ok (closed b.lists b (list h.elements)) else Err (fault.Count (count_place c))) >>= (λ next. walk rules next rest)) (ap (λ n. is_counted c n) h.counted ∙ right)

  pub list_miscounted : (f : TextFault) → Checks c number (Err f) → (rules : Rules) (b : Before) → Deep (1 + depth) rules b
      → Fails f (walk rules (in_item b (record { count = c; so_far = list no_elements })) before)
  list_miscounted f checks rules b deep = rw checks.1 (close rules b false deep checks.0)

  -- Some element has no encoding.
  pub list_unfit : (now : List ℕ) → fits ≡ false → is_counted c number ≡ true
      → Itemized (Deep (1 + depth)) (λ b. in_item b (record { count = c; so_far = list no_elements })) before rest false old now
  list_unfit now unfit right = record {
    value = list h.elements;
    leads = λ rules b deep. close rules b true deep right;
    appends_bytes = by_elements (short_elements h.elements) (ap (λ d. appended_text d new) (sym unfit) ∙ h.appends_bytes);
  }
    where
      by_elements : (s : Option (List ℕ)) → ◌≡◌ {A = Option (List ℕ)} None (option_map (λ o. (old ++ 0 ∷ 0 ∷ []) ++ o) s)
          → ◌≡◌ {A = Option (List ℕ)} None (option_map (λ o. old ++ o) (option_and_then (λ body. framed format.List (count h.elements) body) s))
      by_elements None e = refl
      by_elements (Some s) e = cc

  -- After two reserved bytes the elements were appended, and then the header replaced these bytes.
  pub list_patched : (done : Bool) (start : ℕ) (now : List ℕ) → fits ≡ true → is_counted c number ≡ true → start ≡ length old → Patched format.List number start new now done
      → Itemized (Deep (1 + depth)) (λ b. in_item b (record { count = c; so_far = list no_elements })) before rest done old now
  list_patched done start now fit right start_is patched = record {
    value = list h.elements;
    leads = λ rules b deep. close rules b true deep right;
    appends_bytes = by_elements (short_elements h.elements) (ap (λ d. appended_text d new) (sym fit) ∙ h.appends_bytes);
  }
    where
      by_elements : (s : Option (List ℕ)) → ◌≡◌ {A = Option (List ℕ)} (Some new) (option_map (λ o. (old ++ 0 ∷ 0 ∷ []) ++ o) s)
          → appended_text done now ≡ option_map (λ o. old ++ o) (option_and_then (λ body. framed format.List (count h.elements) body) s)
      by_elements None e = cc
      by_elements (Some s) e =
          let parts : new ≡ (old ++ 0 ∷ 0 ∷ []) ++ s = cc in
          patched_appended done old s patched (parts ∙ append_assoc old (0 ∷ 0 ∷ []) s) (sym start_is) ∙ ap (λ n. option_map (λ o. old ++ o) (framed format.List n s)) (sym h.counted)
