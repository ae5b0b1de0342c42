-- What only contracts of private functions use, besides the definitions of `ViewRules`.
use Rattle.std.specs.Prelude.{◌≡◌, false, IsTrue}
use Rattle.hsms_machine.specs.declared.entry.Entry.{Entry}
use Rattle.hsms_machine.specs.declared.entry.Act.{Act}
use Rattle.hsms_machine.specs.declared.entry.Act.TheVariants.{Sent as ActSent, Taken as ActTaken}
use Rattle.hsms_machine.specs.declared.view.View.{View}
use Rattle.hsms_machine.specs.Message.{is_request}
use Rattle.hsms_machine.specs.Transaction.{SentData, SentControl, TakenData, TakenControl}
use Rattle.hsms_machine.specs.InnerOpeningOrder.{uses}
use Rattle.hsms_machine.specs.ViewRules.{pool_after}

-- ---- one more entry

-- The view with the transactions that are open after an entry, and the rest unchanged.
abbrev pub pools_after : View → Entry → View
pools_after view entry = record view {
  sent_data = pool_after SentData view.sent_data entry;
  sent_control = pool_after SentControl view.sent_control entry;
  taken_data = pool_after TakenData view.taken_data entry;
  taken_control = pool_after TakenControl view.taken_control entry;
}

-- ---- in order of opening

-- Holds unless a request has the system bytes of an open transaction of its direction.
abbrev pub IsFresh : View → Act → Type 0
IsFresh view (ActSent header) =
    IsTrue (is_request header)
    → (uses header.system view.sent_data ≡ false) × (uses header.system view.sent_control ≡ false)
IsFresh view (ActTaken header) =
    IsTrue (is_request header)
    → (uses header.system view.taken_data ≡ false) × (uses header.system view.taken_control ≡ false)
IsFresh view act = Unit {0}
