-- Both logs with one item more.
use Rattle.std.proofs.Common.{◌≡◌, ◌++◌, ◌∷◌, max, ℕ, List, [], Option, None, Some, refl, sym, ap, subst, ◌∙◌}
use Rattle.std.specs.Prelude.{Result, Ok, Err, OnOk}
use Rattle.hsms_machine.specs.Settings.{Parameters}
use Rattle.capture_tcp.specs.declared.packet.Side.{Side}
use Rattle.capture_tcp.specs.declared.packet.Side.TheVariants.{Active, Passive}
use Rattle.capture_log.specs.AuditedLog.{HasLogged, Note}
use Rattle.std.specs.Option.{option_map}
use Rattle.capture_log.specs.BothLogs.{Adds, remark_alone}
use Rattle.capture_events.specs.declared.log_item.LogItem.{LogItem}
use Rattle.capture_verdicts.specs.declared.pair_logs.PairLogs.{PairLogs}
use Rattle.capture_events.specs.declared.log_item.EntryKind.{EntryKind}
use Rattle.capture_verdicts.specs.VerdictReport.{event_at, note_at, notes}
use Rattle.capture_verdicts.specs.ReportState.{AddsItem, HaveLogged, latest}
use Rattle.capture_verdicts.specs.InnerReportState.{note_by}

notes_more : (side : Side) (before : ℕ) (items : List LogItem) (item : LogItem) → notes side before (items ++ item ∷ []) ≡ notes side before items ++ note_at side (latest before items) item ∷ []
unfolding notes
notes_more side before [] item = refl
notes_more side before (x ∷ items) item = ap (λ (ns : List Note). note_at side before x ∷ ns) (notes_more side (max before x.time) items item)

latest_more : (before : ℕ) (items : List LogItem) (item : LogItem) → latest before (items ++ item ∷ []) ≡ max (latest before items) item.time
latest_more before [] item = refl
latest_more before (x ∷ items) item = latest_more (max before x.time) items item

pub nothing_logged : (a p : Parameters) (both : PairLogs) → HasLogged a [] both.active → HasLogged p [] both.passive → both.time ≡ 0 → HaveLogged a p [] both
unfolding notes
nothing_logged a p both first second at = record { active = first; passive = second; time = at }

pub adds_item : {E : Type 0} (result : Result (Unit {0}) E) (item : LogItem) (old new : PairLogs) (first second : Note) → first ≡ note_at Active old.time item → second ≡ note_at Passive old.time item
    → OnOk result (Adds first old.active new.active) → OnOk result (Adds second old.passive new.passive) → OnOk result (new.time ≡ max old.time item.time)
    → OnOk result (AddsItem item old new)
adds_item (Err stop) item old new first second is_a is_p adds_a adds_p at = tt
adds_item (Ok done) item old new first second is_a is_p adds_a adds_p at = λ a p items have. record {
  active = subst (λ (ns : List Note). HasLogged a ns new.active)
      (ap (λ (n : Note). notes Active 0 items ++ n ∷ []) (is_a ∙ ap (λ (time : ℕ). note_at Active time item) have.time) ∙ sym (notes_more Active 0 items item))
      (adds_a a (notes Active 0 items) have.active);
  passive = subst (λ (ns : List Note). HasLogged p ns new.passive)
      (ap (λ (n : Note). notes Passive 0 items ++ n ∷ []) (is_p ∙ ap (λ (time : ℕ). note_at Passive time item) have.time) ∙ sym (notes_more Passive 0 items item))
      (adds_p p (notes Passive 0 items) have.passive);
  time = at ∙ ap (λ (n : ℕ). max n item.time) have.time ∙ sym (latest_more 0 items item);
}

abbrev note_with : Side → ℕ → LogItem → Option EntryKind → Note
note_with side was item kind = record {
  remark = item.comment;
  entry = option_map (λ w. record { time = max was item.time; event = event_at side w }) kind;
}

pub note_none : (side : Side) (was : ℕ) (item : LogItem) → item.kind ≡ None → remark_alone item.comment ≡ note_at side was item
note_none side was item is = ap (note_with side was item) (sym is)

pub note_some : (side : Side) (was time : ℕ) (item : LogItem) (kind : EntryKind) → time ≡ max was item.time → item.kind ≡ Some kind
    → note_by item.comment time (event_at side kind) ≡ note_at side was item
note_some side was time item kind at is =
    ap (λ (n : ℕ). note_by item.comment n (event_at side kind)) at ∙ ap (note_with side was item) (sym is)

pub at_ok : {T E : Type 0} (x y z : ℕ) (result : Result T E) → OnOk result (x ≡ y) → y ≡ z → OnOk result (x ≡ z)
at_ok x y z (Ok t) e f = e ∙ f
at_ok x y z (Err t) e f = tt
