-- Steps of single tokens.
use Rattle.std.proofs.Common.{◌≡◌, refl, List, ℕ, Bor, ◌||◌, not, false}
use Rattle.std.specs.Prelude.{Option, Err}
use Rattle.secs_item.specs.Item.{Values, values}
use Rattle.secs_text.specs.Content.{Content}
use Rattle.secs_text.specs.Token.{Placed}
use Rattle.secs_text.specs.InnerTokenView.{seen, then_tokens}
use Rattle.secs_text.specs.ParserStates.{Rules, Before, Count, start, after_wait, stop_expected, is_empty, walk, in_item}
use Rattle.secs_text.specs.declared.fault.TextFault.TheVariants as fault
use Rattle.secs_text.specs.declared.token.Token.{Token}
use Rattle.secs_text.specs.declared.token.Token.TheVariants as token

-- A token that is neither a value nor the end of text bytes.
pub no_text : (rules : Rules) (b : Before) (count : Option Count) (v : Values) (at : ℕ) (t : Token) (ts : List Placed) → ((q : Bor (List ℕ)) → t ≡ token.Quoted q → ⊥) → ((w : Bor (List ℕ)) → t ≡ token.Word w → ⊥) → (t ≡ token.Greater → ⊥) → walk rules (in_item b (record { count = count; so_far = values v })) (then_tokens (record { at = at; token = seen t }) ts) ≡ Err (fault.Syntax at)
no_text rules b count v at (token.Word w) ts quoted word greater = absurd (word w refl)
no_text rules b count v at (token.Quoted q) ts quoted word greater = absurd (quoted q refl)
no_text rules b count v at token.Less ts quoted word greater = refl
no_text rules b count v at token.Greater ts quoted word greater = absurd (greater refl)
no_text rules b count v at token.Bracket ts quoted word greater = refl
no_text rules b count v at token.BracketEnd ts quoted word greater = refl
no_text rules b count v at token.Stop ts quoted word greater = refl
no_text rules b count v at token.Broken ts quoted word greater = refl
no_text rules b count v at token.End ts quoted word greater = refl

-- A token that is not a word begins no message.
pub no_head_word : (rules : Rules) (ms : List Content) (at : ℕ) (t : Token) (ts : List Placed) → ((w : Bor (List ℕ)) → t ≡ token.Word w → ⊥) → (t ≡ token.End → rules.several || not (is_empty ms) ≡ false) → walk rules (start ms) (then_tokens (record { at = at; token = seen t }) ts) ≡ Err (fault.Syntax at)
no_head_word rules ms at (token.Word w) ts word last = absurd (word w refl)
no_head_word rules ms at (token.Quoted q) ts word last = refl
no_head_word rules ms at token.Less ts word last = refl
no_head_word rules ms at token.Greater ts word last = refl
no_head_word rules ms at token.Bracket ts word last = refl
no_head_word rules ms at token.BracketEnd ts word last = refl
no_head_word rules ms at token.Stop ts word last = refl
no_head_word rules ms at token.Broken ts word last = refl
no_head_word rules ms at token.End ts word last = rw (last refl) refl

-- A token that is neither an item nor the end of a message.
pub no_text_expected : (rules : Rules) (ms : List Content) (m : Content) (at : ℕ) (t : Token) (ts : List Placed) → (t ≡ token.Stop → ⊥) → (t ≡ token.Less → ⊥) → walk rules (after_wait ms m) (then_tokens (record { at = at; token = seen t }) ts) ≡ Err (fault.Syntax at)
no_text_expected rules ms m at (token.Word w) ts stop less = refl
no_text_expected rules ms m at (token.Quoted q) ts stop less = refl
no_text_expected rules ms m at token.Less ts stop less = absurd (less refl)
no_text_expected rules ms m at token.Greater ts stop less = refl
no_text_expected rules ms m at token.Bracket ts stop less = refl
no_text_expected rules ms m at token.BracketEnd ts stop less = refl
no_text_expected rules ms m at token.Stop ts stop less = absurd (stop refl)
no_text_expected rules ms m at token.Broken ts stop less = refl
no_text_expected rules ms m at token.End ts stop less = refl

-- A token that does not end a message.
pub no_stop : (rules : Rules) (ms : List Content) (m : Content) (at : ℕ) (t : Token) (ts : List Placed) → (t ≡ token.Stop → ⊥) → walk rules (stop_expected ms m) (then_tokens (record { at = at; token = seen t }) ts) ≡ Err (fault.Syntax at)
no_stop rules ms m at (token.Word w) ts stop = refl
no_stop rules ms m at (token.Quoted q) ts stop = refl
no_stop rules ms m at token.Less ts stop = refl
no_stop rules ms m at token.Greater ts stop = refl
no_stop rules ms m at token.Bracket ts stop = refl
no_stop rules ms m at token.BracketEnd ts stop = refl
no_stop rules ms m at token.Stop ts stop = absurd (stop refl)
no_stop rules ms m at token.Broken ts stop = refl
no_stop rules ms m at token.End ts stop = refl
