-- Octets that stay in front of others.
use Rattle.std.proofs.Common.{◌≡◌, ◌++◌, ℕ, List, [], refl, sym, ◌∙◌, ap, take, length, append_assoc}
use Rattle.std.proofs.lemmas.List.{append-nil, take_at}
use Rattle.std.specs.Prelude.{Result, Ok, Err, OnErr}
use Rattle.capture_log.specs.InnerByteBuffer.{Leads}

pub stay : (old new : List ℕ) → new ≡ old → Leads old new
stay old new is = ([], is ∙ sym (append-nil old))

pub follow : (old mid new added : List ℕ) → mid ≡ old ++ added → Leads mid new → Leads old new
follow old mid new added is (subsequent, leads) = (
  added ++ subsequent,
  leads ∙ ap (λ l. l ++ subsequent) is ∙ append_assoc old added subsequent,
)

pub follow_in : {T E : Type 0} (result : Result T E) (old mid new added : List ℕ) → mid ≡ old ++ added → OnErr result (Leads mid new)
    → OnErr result (Leads old new)
follow_in (Ok done) old mid new added is leads = leads
follow_in (Err fault) old mid new added is leads = follow old mid new added is leads

pub cut : (old mid new : List ℕ) → Leads old mid → new ≡ take (length old) mid → new ≡ old
cut old mid new (subsequent, leads) is = is ∙ ap (λ l. take (length old) l) leads ∙ take_at old subsequent (length old) refl

pub same : (old new : List ℕ) → new ≡ old → new ≡ old ++ []
same old new is = is ∙ sym (append-nil old)

pub come_up : (old mid new front note : List ℕ) → mid ≡ old ++ front → new ≡ mid ++ note → new ≡ (old ++ front) ++ note
come_up old mid new front note first second = second ∙ ap (λ l. l ++ note) first
