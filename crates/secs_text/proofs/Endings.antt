-- The last token of a text decides: it leads to the end, or it has the error.
use Rattle.std.proofs.Common.{◌≡◌, ℕ, zero, suc, ◌+◌, Bool, true, false, ◌||◌, not, List, [], ◌∷◌, refl, if◌then◌else◌}
use Rattle.std.specs.Prelude.{Ok, Err, None}
use Rattle.secs_text.specs.declared.fault.TextFault.{TextFault}
use Rattle.secs_text.specs.declared.fault.TextFault.TheVariants as fault
use Rattle.secs_item.specs.Item.{Value, list, values}
use Rattle.secs_text.specs.Content.{Content}
use Rattle.secs_text.specs.Token.{Token, word, quoted, less, greater, bracket, bracket_end, stop, broken, end, Placed, Front, white, whole, faulty, front, with_front, tokens_after, tokens}
use Rattle.secs_text.specs.InnerTokenView.{is_last}
use Rattle.secs_text.specs.ParserStates.{Rules, Place, Step, start, after_head, after_wait, type_expected, after_type, count_expected, after_count, in_item, stop_expected, finished, Opened, Before, walk, step, ◌>>=◌, is_empty, at_in_item}

-- Holds if the last of these tokens ends the text.
abbrev pub EndsLast : List Placed → Type 0
EndsLast [] = ⊥
EndsLast (p ∷ []) = is_last p.token ≡ true
EndsLast (p ∷ q ∷ ps) = EndsLast (q ∷ ps)

ends_following : (p : Placed) (ps : List Placed) → EndsLast ps → EndsLast (p ∷ ps)
ends_following p [] h = absurd h
ends_following p (q ∷ ps) h = h

front_ends : (at : ℕ) (f : Front) (after : ℕ → List Placed) → ((more : ℕ) → EndsLast (after more)) → EndsLast (with_front at f after)
front_ends at white after h = h 0
front_ends at (whole token more) after h = ends_following (record { at = at; token = token }) (after more) (h more)
front_ends at (faulty n) after h = refl

ends_after : (skip at : ℕ) (octets : List ℕ) → EndsLast (tokens_after skip at octets)
unfolding tokens_after
ends_after zero at [] = refl
ends_after (suc skip) at [] = refl
ends_after (suc skip) at (c ∷ octets) = ends_after skip (at + 1) octets
ends_after zero at (c ∷ octets) = front_ends at (front c octets) (λ more. tokens_after more (at + 1) octets) (λ more. ends_after more (at + 1) octets)

pub text_ends : (text : List ℕ) → EndsLast (tokens text)
text_ends text = ends_after 0 0 text

abbrev pub IsFinished : Place → Type 0
IsFinished (finished ms) = Unit {0}
IsFinished p = ⊥

-- Holds if the step, if it succeeds, leads to the end.
abbrev Finishes : Step → Type 0
Finishes (Ok place) = IsFinished place
Finishes (Err f) = Unit {0}

choice_finishes : (b : Bool) (ms : List Content) (f : TextFault) → Finishes (if b then Ok (finished ms) else Err f)
choice_finishes true ms f = tt
choice_finishes false ms f = tt

in_item_finishes : (b : Before) (o : Opened) (at : ℕ) (v : Value) (t : Token) → is_last t ≡ true → Finishes (at_in_item b (record o { so_far = v }) at t)
in_item_finishes b o at v (word w) e = cc
in_item_finishes b o at v (quoted text) e = cc
in_item_finishes b o at v less e = cc
in_item_finishes b o at v greater e = cc
in_item_finishes b o at v bracket e = cc
in_item_finishes b o at v bracket_end e = cc
in_item_finishes b o at v stop e = cc
in_item_finishes b o at (list es) broken e = tt
in_item_finishes b o at (values w) broken e = tt
in_item_finishes b o at (list es) end e = tt
in_item_finishes b o at (values w) end e = tt

broken_finishes : (rules : Rules) (place : Place) (at : ℕ) → Finishes (step rules place at broken)
broken_finishes rules (start ms) at = tt
broken_finishes rules (after_head ms m) at = tt
broken_finishes rules (after_wait ms m) at = tt
broken_finishes rules (type_expected b opening) at = tt
broken_finishes rules (after_type b v) at = in_item_finishes b (record { count = None; so_far = v }) at v broken refl
broken_finishes rules (count_expected b v opening) at = tt
broken_finishes rules (after_count b v c) at = tt
broken_finishes rules (in_item b o) at = in_item_finishes b o at o.so_far broken refl
broken_finishes rules (stop_expected ms m) at = tt
broken_finishes rules (finished ms) at = tt

end_finishes : (rules : Rules) (place : Place) (at : ℕ) → Finishes (step rules place at end)
end_finishes rules (start ms) at = choice_finishes (rules.several || not (is_empty ms)) ms (fault.Syntax at)
end_finishes rules (after_head ms m) at = tt
end_finishes rules (after_wait ms m) at = tt
end_finishes rules (type_expected b opening) at = tt
end_finishes rules (after_type b v) at = in_item_finishes b (record { count = None; so_far = v }) at v end refl
end_finishes rules (count_expected b v opening) at = tt
end_finishes rules (after_count b v c) at = tt
end_finishes rules (in_item b o) at = in_item_finishes b o at o.so_far end refl
end_finishes rules (stop_expected ms m) at = tt
end_finishes rules (finished ms) at = tt

last_finishes : (rules : Rules) (place : Place) (at : ℕ) (t : Token) → is_last t ≡ true → Finishes (step rules place at t)
last_finishes rules place at broken e = broken_finishes rules place at
last_finishes rules place at end e = end_finishes rules place at
last_finishes rules place at (word w) e = cc
last_finishes rules place at (quoted text) e = cc
last_finishes rules place at less e = cc
last_finishes rules place at greater e = cc
last_finishes rules place at bracket e = cc
last_finishes rules place at bracket_end e = cc
last_finishes rules place at stop e = cc

then_finishes : (r : Step) (f : Place → Step) → ((x : Place) → Finishes (f x)) → Finishes (r >>= f)
then_finishes (Ok x) f h = h x
then_finishes (Err k) f h = tt

alone : (r : Step) → Finishes r → Finishes (r >>= (λ next. Ok next))
alone (Ok x) h = h
alone (Err k) h = tt

walk_finishes : (rules : Rules) (place : Place) (ps : List Placed) → EndsLast ps → Finishes (walk rules place ps)
walk_finishes rules place [] h = absurd h
walk_finishes rules place (p ∷ []) h = alone (step rules place p.at p.token) (last_finishes rules place p.at p.token h)
walk_finishes rules place (p ∷ q ∷ ps) h = then_finishes (step rules place p.at p.token) (λ next. walk rules next (q ∷ ps)) (λ next. walk_finishes rules next (q ∷ ps) h)

-- The outcome of a text: it is accepted to the end, or a token has an error.
pub data Outcome (r : Step) : Type 0 where
  through : (ms : List Content) → r ≡ Ok (finished ms) → Outcome r
  at_fault : (f : TextFault) → r ≡ Err f → Outcome r

outcome_of : (r : Step) → Finishes r → Outcome r
outcome_of (Ok (finished ms)) h = through ms refl
outcome_of (Ok (start ms)) h = absurd h
outcome_of (Ok (after_head ms m)) h = absurd h
outcome_of (Ok (after_wait ms m)) h = absurd h
outcome_of (Ok (type_expected b opening)) h = absurd h
outcome_of (Ok (after_type b v)) h = absurd h
outcome_of (Ok (count_expected b v opening)) h = absurd h
outcome_of (Ok (after_count b v c)) h = absurd h
outcome_of (Ok (in_item b o)) h = absurd h
outcome_of (Ok (stop_expected ms m)) h = absurd h
outcome_of (Err f) h = at_fault f refl

pub reading_outcome : (rules : Rules) (text : List ℕ) → Outcome (walk rules (start []) (tokens text))
reading_outcome rules text = outcome_of (walk rules (start []) (tokens text)) (walk_finishes rules (start []) (tokens text) (text_ends text))
