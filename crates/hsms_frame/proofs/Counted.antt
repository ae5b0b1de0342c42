-- The counts of a fill as the counts of what it reads: a part that is required, or a whole that may be missing.
use Rattle.std.proofs.Common.{◌≡◌, ◌≤◌, ◌<◌, ℕ, Some, None, Ok, Err, refl, sym, ◌∙◌, ap, subst, arith}
use Rattle.std.specs.Prelude.{Option, Result}
use Rattle.std.specs.Result.{IsErrAnd}
use Rattle.std.proofs.lemmas.Bool.Decides.{nat_tests}
use Rattle.hsms_frame.specs.declared.io.Failed.{Failed}
use Rattle.hsms_frame.specs.declared.header.Header.{Header}
use Rattle.hsms_frame.specs.declared.fault.ReadFault.{ReadFault}
use Rattle.hsms_frame.specs.declared.fault.ReadFault.TheVariants.{TooShort, TooLong, Memory, CutOff, Read}
use Rattle.hsms_frame.specs.CallCounts.{next_count}
use Rattle.hsms_frame.specs.Io.{SourceState, CountsFill, ends_after_fill}
use Rattle.hsms_frame.specs.Reading.{CountsWhole, ends_after_part, failures_after}
use Rattle.hsms_frame.specs.InnerReading.{CountsPart}

-- A fill that is not full finds the end, and a full one does not.
found : (room n old new : ℕ) → n < room → new ≡ ends_after_fill room (Ok n) old → new ≡ next_count old
found room n old new less step = grind (arith, nat_tests, step, less)

not_found : (room n old new : ℕ) → room ≤ n → new ≡ ends_after_fill room (Ok n) old → new ≡ old
not_found room n old new full step = grind (arith, nat_tests, step, full)

-- A fill failed, and so did the read that uses it.
pub part_failed : {T : Type 0} (r : Result T ReadFault) (room : ℕ) (e : Failed) (old new : SourceState) → IsErrAnd r (λ x. x ≡ Read)
    → CountsFill room (Err e) old new → CountsPart r old new
part_failed (Ok x) room e old new fails counts = absurd fails
part_failed {T} (Err x) room e old new fails counts =
    let P : ReadFault → Type 0 = λ y. CountsPart {T = T} (Err y) old new in
    subst P (sym fails) (record { empty_pulls = counts.empty_pulls; ends = counts.ends; failures = counts.failures })

pub whole_failed : {T : Type 0} (r : Result (Option T) ReadFault) (room : ℕ) (e : Failed) (old new : SourceState) → IsErrAnd r (λ x. x ≡ Read)
    → CountsFill room (Err e) old new → CountsWhole r old new
whole_failed (Ok x) room e old new fails counts = absurd fails
whole_failed {T} (Err x) room e old new fails counts =
    let P : ReadFault → Type 0 = λ y. CountsWhole {T = T} (Err y) old new in
    subst P (sym fails) (record { empty_pulls = counts.empty_pulls; ends = counts.ends; failures = counts.failures })

pub not_memory : {T : Type 0} (r : Result T ReadFault) → IsErrAnd r (λ x. x ≡ Read) → r ≡ Err Memory → ⊥
not_memory (Ok x) fails is = absurd fails
not_memory (Err x) fails is = absurd cc

-- The input ended before the part was full.
pub part_cut : {T : Type 0} (room n : ℕ) (old new : SourceState) → n < room → CountsFill room (Ok n) old new → CountsPart {T = T} (Err CutOff) old new
part_cut room n old new less counts =
    record { empty_pulls = counts.empty_pulls; ends = found room n _ _ less counts.ends; failures = counts.failures }

pub whole_cut : {T : Type 0} (room n : ℕ) (old new : SourceState) → n < room → CountsFill room (Ok n) old new → CountsWhole {T = T} (Err CutOff) old new
whole_cut room n old new less counts =
    record { empty_pulls = counts.empty_pulls; ends = found room n _ _ less counts.ends; failures = counts.failures }

pub whole_missing : {T : Type 0} (room n : ℕ) (old new : SourceState) → n < room → CountsFill room (Ok n) old new → CountsWhole {T = T} (Ok None) old new
whole_missing room n old new less counts =
    record { empty_pulls = counts.empty_pulls; ends = found room n _ _ less counts.ends; failures = counts.failures }

-- The part was full.
pub part_full : {T : Type 0} (x : T) (room n : ℕ) (old new : SourceState) → room ≤ n → CountsFill room (Ok n) old new → CountsPart (Ok x) old new
part_full x room n old new full counts =
    record { empty_pulls = counts.empty_pulls; ends = not_found room n _ _ full counts.ends; failures = counts.failures }

pub whole_full : {T : Type 0} (x : T) (room n : ℕ) (old new : SourceState) → room ≤ n → CountsFill room (Ok n) old new
    → CountsWhole (Ok (Some x)) old new
whole_full x room n old new full counts =
    record { empty_pulls = counts.empty_pulls; ends = not_found room n _ _ full counts.ends; failures = counts.failures }

-- A complete part was read, and then this is the result.
pub whole_as_none : {T U : Type 0} (old new : SourceState) → CountsWhole {T = T} (Ok None) old new → CountsWhole {T = U} (Ok None) old new
whole_as_none old new counts = record { empty_pulls = counts.empty_pulls; ends = counts.ends; failures = counts.failures }

pub whole_as_some : {T U : Type 0} (x : T) (y : U) (old new : SourceState) → CountsWhole (Ok (Some x)) old new → CountsWhole (Ok (Some y)) old new
whole_as_some x y old new counts = record { empty_pulls = counts.empty_pulls; ends = counts.ends; failures = counts.failures }

pub whole_as_short : {T U : Type 0} (x : T) (n : ℕ) (old new : SourceState) → CountsWhole (Ok (Some x)) old new
    → CountsWhole {T = U} (Err (TooShort n)) old new
whole_as_short x n old new counts = record { empty_pulls = counts.empty_pulls; ends = counts.ends; failures = counts.failures }

pub whole_as_long : {T U : Type 0} (x : T) (n : ℕ) (h : Header) (old new : SourceState) → CountsWhole (Ok (Some x)) old new
    → CountsWhole {T = U} (Err (TooLong n h)) old new
whole_as_long x n h old new counts = record { empty_pulls = counts.empty_pulls; ends = counts.ends; failures = counts.failures }

-- One more part was read.
pub whole_then : {T U : Type 0} (x : T) (y : U) (old mid new : SourceState) → CountsWhole (Ok (Some x)) old mid → CountsPart (Ok y) mid new
    → CountsWhole (Ok (Some x)) old new
whole_then x y old mid new first next = record {
  empty_pulls = next.empty_pulls ∙ first.empty_pulls;
  ends = next.ends ∙ first.ends;
  failures = next.failures ∙ first.failures;
}

-- No more could be read, for the same reason.
same_failures : (T U : Type 0) (e : ReadFault) (n : ℕ) → failures_after {T = T} (Err e) n ≡ failures_after {T = U} (Err e) n
same_failures T U (TooShort _) n = refl
same_failures T U (TooLong _ _) n = refl
same_failures T U Memory n = refl
same_failures T U CutOff n = refl
same_failures T U Read n = refl

same_ends : (T U : Type 0) (e : ReadFault) (n : ℕ) → ends_after_part {T = T} (Err e) n ≡ ends_after_part {T = U} (Err e) n
same_ends T U (TooShort _) n = refl
same_ends T U (TooLong _ _) n = refl
same_ends T U Memory n = refl
same_ends T U CutOff n = refl
same_ends T U Read n = refl

pub whole_fails : {T U : Type 0} (r : Result (Option U) ReadFault) (e : ReadFault) (old new : SourceState) → IsErrAnd r (λ x. x ≡ e)
    → CountsWhole {T = T} (Err e) old new → CountsWhole r old new
whole_fails (Ok x) e old new fails counts = absurd fails
whole_fails {T} {U} (Err x) e old new fails counts =
    let P : ReadFault → Type 0 = λ y. CountsWhole {T = U} (Err y) old new in
    subst P (sym fails) (record {
      empty_pulls = counts.empty_pulls;
      ends = counts.ends;
      failures = counts.failures ∙ same_failures (Option T) (Option U) e old.failures;
    })

pub whole_stops : {S T U : Type 0} (x : S) (r : Result (Option U) ReadFault) (e : ReadFault) (old mid new : SourceState) → IsErrAnd r (λ x. x ≡ e)
    → CountsWhole (Ok (Some x)) old mid → CountsPart {T = T} (Err e) mid new → CountsWhole r old new
whole_stops x (Ok y) e old mid new fails first next = absurd fails
whole_stops {S} {T} {U} x (Err y) e old mid new fails first next =
    let P : ReadFault → Type 0 = λ y. CountsWhole {T = U} (Err y) old new in
    subst P (sym fails) (record {
      empty_pulls = next.empty_pulls ∙ first.empty_pulls;
      ends = next.ends ∙ ap (λ n. ends_after_part {T = T} (Err e) n) first.ends ∙ same_ends T ℕ e old.ends;
      failures = next.failures ∙ ap (λ n. failures_after {T = T} (Err e) n) first.failures ∙ same_failures T (Option U) e old.failures;
    })
