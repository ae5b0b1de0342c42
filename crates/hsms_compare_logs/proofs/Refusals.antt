-- Why two texts are not compared.
use Rattle.std.proofs.Common.{ℕ, List}
use Rattle.hsms_machine.specs.Settings.{Parameters}
use Rattle.hsms_compare_logs.specs.declared.comparing_logs.CompareFault.{CompareFault}
use Rattle.hsms_compare_logs.specs.declared.comparing_logs.CompareFault.TheVariants.{Log, FirstLineOfFirst, FirstLineOfSecond, SameRole, SameLink, Device}
use Rattle.hsms_compare_logs.specs.LogEntries.{HasSettings}
use Rattle.hsms_compare_logs.specs.Comparison.{AreNotCompared, CannotCompare}

pub not_compared : (one other : List ℕ) (s t : Parameters) (fault : CompareFault) → HasSettings one s → HasSettings other t → CannotCompare s t fault
    → AreNotCompared one other fault
not_compared one other s t (Log fault) a b why = absurd why
not_compared one other s t FirstLineOfFirst a b why = absurd why
not_compared one other s t FirstLineOfSecond a b why = absurd why
not_compared one other s t SameRole a b why = (s, t, a, b, why)
not_compared one other s t SameLink a b why = (s, t, a, b, why)
not_compared one other s t Device a b why = (s, t, a, b, why)
