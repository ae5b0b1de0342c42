-- Bytes of the log that are written without control characters.
use Rattle.std.proofs.Common.{◌≡◌, ◌++◌, ◌∙◌, ℕ, zero, suc, true, List, [], ◌∷◌, refl, replicate}
use Rattle.std.specs.List.{list_all}
use Rattle.std.proofs.lemmas.Bool.{and_from}
use Rattle.std.proofs.lemmas.List.Folds.{list_all-append}
use Rattle.explain_forms.specs.declared.output_buffer.Page.{Page}
use Rattle.explain_forms.specs.OutputBuffer.{Adds}
use Rattle.explain_forms.specs.Visible.{HasNoControl, is_visible}
use Rattle.explain_forms.specs.InnerVisible.{AddsVisible}
use Rattle.explain_forms.proofs.OutputBuffers.{adds_none, adds_then}

pub no_control_then : (one other : List ℕ) → HasNoControl one → HasNoControl other → HasNoControl (one ++ other)
no_control_then one other first second =
    list_all-append is_visible one other ∙ and_from (list_all is_visible one) (list_all is_visible other) first second

pub visible_none : (page : Page) → AddsVisible page page
visible_none page = ([], refl, adds_none page)

pub visible_then : (old mid new : Page) → AddsVisible old mid → AddsVisible mid new → AddsVisible old new
visible_then old mid new (one, plain, first) (other, also, second) =
    (one ++ other, no_control_then one other plain also, adds_then old mid new one other first second)

-- One byte is written without control characters.
pub visible_octet : (old new : Page) (octet : ℕ) → is_visible octet ≡ true → Adds old new (octet ∷ []) → AddsVisible old new
visible_octet old new octet visible adds = (octet ∷ [], and_from (is_visible octet) true visible refl, adds)

pub blanks_have_none : (n : ℕ) → HasNoControl (replicate n 32)
blanks_have_none zero = refl
blanks_have_none (suc n) = blanks_have_none n

pub visible_blanks : (old new : Page) (n : ℕ) → Adds old new (replicate n 32) → AddsVisible old new
visible_blanks old new n adds = (replicate n 32, blanks_have_none n, adds)
