-- What is written of a comparison.
use Rattle.std.proofs.Common.{◌≡◌, ℕ, List, Bool, true, false, Ok, Err, refl, subst}
use Rattle.std.specs.Prelude.{Option, Result, ◌&&◌}
use Rattle.cli_output.specs.Verdict.{is_pass}
use Rattle.hsms_compare_logs.specs.PairVerdicts.{verdict_of}
use Rattle.hsms_frame.specs.Io.{Grows, GrowsByFront}
use Rattle.hsms_compare_logs.specs.declared.comparing.LogComparison.{LogComparison}
use Rattle.hsms_compare_logs.specs.declared.comparing_logs.CompareFault.{CompareFault}
use Rattle.hsms_compare_logs.specs.declared.pair_verdict.PairVerdict.{PairVerdict}
use Rattle.hsms_compare_logs.specs.declared.pair_verdict.PairVerdict.TheVariants.{Agree, Disagree, Undecided}
use Rattle.hsms_compare_logs.specs.Comparison.{AreCompared, AreNotCompared}
use Rattle.cli_compare.specs.declared.compare_error.CompareError.{CompareError}
use Rattle.cli_compare.specs.declared.compare_error.CompareError.TheVariants as error
use Rattle.cli_compare.specs.Comparison.{ComparesTo, comparison_text, outcome_by, outcome_of, writes_after}

-- The logs are not compared, and nothing was written.
pub stops : (one other : List ℕ) (fault : CompareFault) (written : Option (List ℕ)) → AreNotCompared one other fault
    → ComparesTo one other (Err (error.Logs fault)) written written
stops one other fault written why = (why, (λ octets known. known))

-- The text was not written completely.
pub stops_unwritten : (one other : List ℕ) (c : LogComparison) (text : List ℕ) (old new : Option (List ℕ)) → AreCompared one other c
    → text ≡ comparison_text c → GrowsByFront old new text → ComparesTo one other (Err error.Write) old new
stops_unwritten one other c text old new compared is grows =
    let P : List ℕ → Type 0 = λ x. GrowsByFront old new x in (c, compared, subst P is grows)

-- An outcome is no failed write, and no reason why logs are not compared.
no_write : (passes : Bool) (verdict : PairVerdict) → Err error.Write ≡ outcome_by passes verdict → ⊥
no_write false verdict is = absurd cc
no_write true Agree is = absurd cc
no_write true Disagree is = absurd cc
no_write true Undecided is = absurd cc

no_logs : (fault : CompareFault) (passes : Bool) (verdict : PairVerdict) → Err (error.Logs fault) ≡ outcome_by passes verdict → ⊥
no_logs fault false verdict is = absurd cc
no_logs fault true Agree is = absurd cc
no_logs fault true Disagree is = absurd cc
no_logs fault true Undecided is = absurd cc

abbrev pass_both : LogComparison → Bool
pass_both c = is_pass c.host.verdict && is_pass c.equipment.verdict

-- The text was written completely.
pub written : (one other : List ℕ) (c : LogComparison) (text : List ℕ) (result : Result Bool CompareError) (old new : Option (List ℕ))
    → AreCompared one other c → text ≡ comparison_text c → Grows old new text → result ≡ outcome_of c → ComparesTo one other result old new
written one other c text (Ok passed) old new compared is grows by =
    let P : List ℕ → Type 0 = λ x. Grows old new x in (c, compared, by, subst P is grows)
written one other c text (Err error.Undecided) old new compared is grows by =
    let P : List ℕ → Type 0 = λ x. Grows old new x in (c, compared, by, subst P is grows)
written one other c text (Err error.Write) old new compared is grows by = absurd (no_write (pass_both c) (verdict_of c) by)
written one other c text (Err (error.Logs fault)) old new compared is grows by = absurd (no_logs fault (pass_both c) (verdict_of c) by)

pub counts_written : (result : Result Bool CompareError) (c : LogComparison) (n : ℕ) → result ≡ outcome_of c → n ≡ writes_after result n
counts_written (Ok passed) c n by = refl
counts_written (Err error.Undecided) c n by = refl
counts_written (Err error.Write) c n by = absurd (no_write (pass_both c) (verdict_of c) by)
counts_written (Err (error.Logs fault)) c n by = refl
