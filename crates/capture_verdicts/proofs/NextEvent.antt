-- A report with one event more.
use Rattle.std.proofs.Common.{◌≡◌, ◌||◌, ◌++◌, ◌∷◌, ℕ, Bool, true, false, cond, if◌then◌else◌, List, [], Option, None, Some, refl, sym, ap, subst, ◌∙◌, append_assoc}
use Rattle.std.specs.Prelude.{Result, Ok, Err, OnOk, is_err}
use Rattle.std.proofs.lemmas.List.{append-nil}
use Rattle.hsms_machine.specs.Settings.{Parameters}
use Rattle.capture_pcap.specs.declared.segment.Reason.{Reason}
use Rattle.capture_tcp.specs.declared.packet.Side.TheVariants.{Active, Passive}
use Rattle.capture_log.specs.declared.socket_pair.Pair.{Pair}
use Rattle.capture_events.specs.declared.event.Event.{Event}
use Rattle.capture_events.specs.declared.event.Event.TheVariants.{Logged, Ended, Incomplete, Skipped}
use Rattle.capture_events.specs.declared.log_item.LogItem.{LogItem}
use Rattle.capture_events.specs.declared.incomplete.Shortfall.{Shortfall}
use Rattle.capture_events.specs.ConnectionItems.{is_there}
use Rattle.capture_verdicts.specs.declared.pair_logs.PairLogs.{PairLogs}
use Rattle.capture_verdicts.specs.declared.skipped_packets.SkippedPackets.{SkippedPackets}
use Rattle.capture_verdicts.specs.declared.verdict_report.VerdictReport.{VerdictReport}
use Rattle.capture_verdicts.specs.SkippedPackets.{skipped_after, none_skipped}
use Rattle.capture_verdicts.specs.VerdictReport.{AllVerdicts, HasVerdict, PairVerdicts, VerdictsAt, and_event, counted, fails, fails_log, first_shortfall, shortfall_in, shortfall_or, skipped, log_of, same, verdict_lines}
use Rattle.capture_verdicts.specs.ReportState.{AddsItem, HaveLogged, ReportIs, LogIs, Takes, both_of}
use Rattle.capture_verdicts.specs.InnerReportState.{AreAlike, Concludes, HasOpened, SetsLog, LogsOn}

-- ---- one event more

log_more : (q : Pair) (before : List LogItem) (es : List Event) (e : Event) → log_of q before (es ++ e ∷ []) ≡ and_event q e (log_of q before es)
unfolding log_of
log_more q before [] e = refl
log_more q before (x ∷ es) e = log_more q (and_event q x before) es e

verdicts_more : (a p : Parameters) (before es : List Event) (e : Event) (ts more : List PairVerdicts) → AllVerdicts a p before es ts → VerdictsAt a p (before ++ es) e more
    → AllVerdicts a p before (es ++ e ∷ []) (ts ++ more)
unfolding AllVerdicts
verdicts_more a p before [] e ts more are all_verdicts =
    (more, [], ap (λ (xs : List PairVerdicts). xs ++ more) are ∙ sym (append-nil more), subst (λ (xs : List Event). VerdictsAt a p xs e more) (append-nil before) all_verdicts, refl)
verdicts_more a p before (x ∷ es) e ts more are all_verdicts = (
  are.0,
  are.1 ++ more,
  ap (λ (xs : List PairVerdicts). xs ++ more) are.2 ∙ append_assoc are.0 are.1 more,
  are.3,
  verdicts_more a p (before ++ x ∷ []) es e are.1 more are.4 (subst (λ (xs : List Event). VerdictsAt a p xs e more) (sym (append_assoc before (x ∷ []) es)) all_verdicts),
)

shortfall_assoc : (x y z : Option Shortfall) → shortfall_or (shortfall_or x y) z ≡ shortfall_or x (shortfall_or y z)
shortfall_assoc None y z = refl
shortfall_assoc (Some l) y z = refl

shortfall_none : (x : Option Shortfall) → shortfall_or x None ≡ x
shortfall_none None = refl
shortfall_none (Some l) = refl

shortfall_more : (es : List Event) (e : Event) → first_shortfall (es ++ e ∷ []) ≡ shortfall_or (first_shortfall es) (shortfall_in e)
shortfall_more [] e = shortfall_none (shortfall_in e)
shortfall_more (x ∷ es) e = ap (shortfall_or (shortfall_in x)) (shortfall_more es e) ∙ sym (shortfall_assoc (shortfall_in x) (first_shortfall es) (shortfall_in e))

skipped_more : (counts : SkippedPackets) (es : List Event) (e : Event) → skipped counts (es ++ e ∷ []) ≡ counted (skipped counts es) e
skipped_more counts [] e = refl
skipped_more counts (x ∷ es) e = skipped_more (counted counts x) es e

or_assoc : (a b c : Bool) → ((a || b) || c) ≡ (a || (b || c))
or_assoc true b c = refl
or_assoc false b c = refl

or_false : (a : Bool) → (a || false) ≡ a
or_false true = refl
or_false false = refl

fails_more : (ts : List PairVerdicts) (t : PairVerdicts) → fails (ts ++ t ∷ []) ≡ (fails ts || (fails_log t.active || fails_log t.passive))
fails_more [] t = or_false (fails_log t.active || fails_log t.passive)
fails_more (x ∷ ts) t = ap (λ (b : Bool). (fails_log x.active || fails_log x.passive) || b) (fails_more ts t)
    ∙ sym (or_assoc (fails_log x.active || fails_log x.passive) (fails ts) (fails_log t.active || fails_log t.passive))

there_more : {A : Type 0} (xs : List A) (x : A) → is_there (xs ++ x ∷ []) ≡ true
there_more [] x = refl
there_more (y ∷ xs) x = refl

-- ---- equal pairs

same_as : AreAlike same → (p q x : Pair) → same p q ≡ true → same x p ≡ same x q
same_as laws p q x e = laws.symm x p ∙ laws.alike p q x e ∙ laws.symm q x

and_same : AreAlike same → (p q : Pair) (e : Event) (before : List LogItem) → same p q ≡ true → and_event p e before ≡ and_event q e before
and_same laws p q (Logged x item) before e = ap (λ (b : Bool). if b then before ++ item ∷ [] else before) (same_as laws p q x e)
and_same laws p q (Ended x shortfall) before e = ap (λ (b : Bool). if b then [] else before) (same_as laws p q x e)
and_same laws p q (Incomplete shortfall) before e = refl
and_same laws p q (Skipped reason) before e = refl

log_same : AreAlike same → (p q : Pair) (before : List LogItem) (es : List Event) → same p q ≡ true → log_of p before es ≡ log_of q before es
unfolding log_of
log_same laws p q before [] e = refl
log_same laws p q before (x ∷ es) e = log_same laws p q (and_event p x before) es e ∙ ap (λ (items : List LogItem). log_of q items es) (and_same laws p q x before e)

-- ---- an item is logged

there_item : (items : List LogItem) (item : LogItem) → is_there (items ++ item ∷ []) ≡ true
there_item items item = there_more items item

pub takes_logs : AreAlike same → (pair : Pair) (item : LogItem) (old new : VerdictReport) → LogsOn pair item old new → Takes (Logged pair item) old new
takes_logs laws pair item old new on = λ a p es ts is.
    let set = on.1 in
    ([], next a p es ts is set.0 set.1 (λ q. by a p es ts is q (same pair q) refl), ap (λ (x : VerdictReport). x.page.octets) set.0 ∙ sym (append-nil old.page.octets))
  where
    next : (a p : Parameters) (es : List Event) (ts : List PairVerdicts) → ReportIs a p es ts old → new ≡ record old { logs = new.logs }
        → ((q : Pair) → both_of new q ≡ cond (same pair q) (Some on.0) (both_of old q))
        → ((q : Pair) → LogIs a p (if same pair q then log_of q [] es ++ item ∷ [] else log_of q [] es) (cond (same pair q) (Some on.0) (both_of old q)))
        → ReportIs a p (es ++ Logged pair item ∷ []) (ts ++ []) new
    next a p es ts is same_is sets has = record {
      active = ap (λ (x : VerdictReport). x.active) same_is ∙ is.active;
      passive = ap (λ (x : VerdictReport). x.passive) same_is ∙ is.passive;
      logs = λ q. subst (LogIs a p (log_of q [] (es ++ Logged pair item ∷ []))) (sym (sets q)) (subst (λ (items : List LogItem). LogIs a p items (cond (same pair q) (Some on.0) (both_of old q)))
          (sym (log_more q [] es (Logged pair item))) (has q));
      shortfall = ap (λ (x : VerdictReport). x.shortfall) same_is ∙ is.shortfall ∙ sym (shortfall_more es (Logged pair item) ∙ shortfall_none (first_shortfall es));
      failed = ap (λ (x : VerdictReport). x.has_failed) same_is ∙ is.failed ∙ ap fails (sym (append-nil ts));
      verdict = ap (λ (x : VerdictReport). x.has_verdicts) same_is ∙ is.verdict ∙ ap is_there (sym (append-nil ts));
      counts = ap (λ (x : VerdictReport). x.counts) same_is ∙ is.counts ∙ sym (skipped_more none_skipped es (Logged pair item));
      all_verdicts = verdicts_more a p [] es (Logged pair item) ts [] is.all_verdicts refl;
    }

    by : (a p : Parameters) (es : List Event) (ts : List PairVerdicts) → ReportIs a p es ts old → (q : Pair) → (b : Bool) → same pair q ≡ b
        → LogIs a p (if b then log_of q [] es ++ item ∷ [] else log_of q [] es) (cond b (Some on.0) (both_of old q))
    by a p es ts is q false e = is.logs q
    by a p es ts is q true e = (
      there_item (log_of q [] es) item,
      subst (λ (x : Parameters). HaveLogged x p (log_of q [] es ++ item ∷ []) on.0) is.active
          (subst (λ (y : Parameters). HaveLogged old.active y (log_of q [] es ++ item ∷ []) on.0) is.passive
          (subst (λ (items : List LogItem). HaveLogged old.active old.passive (items ++ item ∷ []) on.0) (log_same laws pair q [] es e)
          (on.2 (log_of pair [] es) (subst (λ (x : Parameters). LogIs x old.passive (log_of pair [] es) (both_of old pair)) (sym is.active)
          (subst (λ (y : Parameters). LogIs a y (log_of pair [] es) (both_of old pair)) (sym is.passive) (is.logs pair)))))),
    )

-- ---- data is missing, or a packet is skipped

takes_nothing : (e : Event) (old new : VerdictReport) → ((q : Pair) (items : List LogItem) → and_event q e items ≡ items)
    → ((a p : Parameters) (before : List Event) → VerdictsAt a p before e []) → new ≡ record old { shortfall = shortfall_or old.shortfall (shortfall_in e); counts = counted old.counts e } → Takes e old new
takes_nothing e old new same none is_new = λ a p es ts is. (
  [],
  record {
    active = ap (λ (x : VerdictReport). x.active) is_new ∙ is.active;
    passive = ap (λ (x : VerdictReport). x.passive) is_new ∙ is.passive;
    logs = λ q. subst (λ (items : List LogItem). LogIs a p items (both_of new q)) (sym (log_more q [] es e ∙ same q (log_of q [] es)))
        (subst (λ (x : VerdictReport). LogIs a p (log_of q [] es) (both_of x q)) (sym is_new) (is.logs q));
    shortfall = ap (λ (x : VerdictReport). x.shortfall) is_new ∙ ap (λ (l : Option Shortfall). shortfall_or l (shortfall_in e)) is.shortfall ∙ sym (shortfall_more es e);
    failed = ap (λ (x : VerdictReport). x.has_failed) is_new ∙ is.failed ∙ ap fails (sym (append-nil ts));
    verdict = ap (λ (x : VerdictReport). x.has_verdicts) is_new ∙ is.verdict ∙ ap is_there (sym (append-nil ts));
    counts = ap (λ (x : VerdictReport). x.counts) is_new ∙ ap (λ (x : SkippedPackets). counted x e) is.counts ∙ sym (skipped_more none_skipped es e);
    all_verdicts = verdicts_more a p [] es e ts [] is.all_verdicts (none a p es);
  },
  ap (λ (x : VerdictReport). x.page.octets) is_new ∙ sym (append-nil old.page.octets),
)

pub takes_incomplete : (shortfall : Shortfall) (old new : VerdictReport) → new ≡ record old { shortfall = shortfall_or old.shortfall (Some shortfall) } → Takes (Incomplete shortfall) old new
takes_incomplete shortfall old new is = takes_nothing (Incomplete shortfall) old new (λ q items. refl) (λ a p before. refl) is

pub takes_skipped : (reason : Reason) (old new : VerdictReport) → new ≡ record old { counts = skipped_after old.counts reason } → Takes (Skipped reason) old new
takes_skipped reason old new is =
    takes_nothing (Skipped reason) old new (λ q items. refl) (λ a p before. refl)
    (is ∙ ap (λ (l : Option Shortfall). record old { shortfall = l; counts = skipped_after old.counts reason }) (sym (shortfall_none old.shortfall)))

-- ---- a connection ends

pub takes_ended : (pair : Pair) (shortfall : Option Shortfall) (old new : VerdictReport) → Concludes pair shortfall old new → Takes (Ended pair shortfall) old new
takes_ended pair shortfall old new c = λ a p es ts is.
    let e = Ended pair shortfall in
    let t : PairVerdicts = record { pair = pair; shortfall = shortfall; active = c.verdicts.active; passive = c.verdicts.passive } in
    let have = c.says (log_of pair [] es) (subst (λ (x : Parameters). LogIs x old.passive (log_of pair [] es) (both_of old pair)) (sym is.active)
    (subst (λ (y : Parameters). LogIs a y (log_of pair [] es) (both_of old pair)) (sym is.passive) (is.logs pair))) in (
      t ∷ [],
      record {
        active = ap (λ (x : VerdictReport). x.active) c.same ∙ is.active;
        passive = ap (λ (x : VerdictReport). x.passive) c.same ∙ is.passive;
        logs = λ q. subst (λ (items : List LogItem). LogIs a p items (both_of new q)) (sym (log_more q [] es e))
            (subst (LogIs a p (if same pair q then [] else log_of q [] es)) (sym (c.gone q)) (by a p es ts is q (same pair q)));
        shortfall = ap (λ (x : VerdictReport). x.shortfall) c.same ∙ ap (λ (l : Option Shortfall). shortfall_or l shortfall) is.shortfall ∙ sym (shortfall_more es e);
        failed = c.failed ∙ ap (λ (b : Bool). b || (fails_log c.verdicts.active || fails_log c.verdicts.passive)) is.failed ∙ sym (fails_more ts t);
        verdict = ap (λ (x : VerdictReport). x.has_verdicts) c.same ∙ sym (there_more ts t);
        counts = ap (λ (x : VerdictReport). x.counts) c.same ∙ is.counts ∙ sym (skipped_more none_skipped es e);
        all_verdicts = verdicts_more a p [] es e ts (t ∷ []) is.all_verdicts (
          t,
          refl,
          record {
            pair_is = refl;
            shortfall_is = refl;
            active_is = subst (λ (x : Parameters). HasVerdict (is_there (log_of pair [] es)) x Active (log_of pair [] es) c.verdicts.active) is.active have.0;
            passive_is = subst (λ (x : Parameters). HasVerdict (is_there (log_of pair [] es)) x Passive (log_of pair [] es) c.verdicts.passive) is.passive have.1;
          },
        );
      },
      c.page ∙ ap (λ (x : Parameters). old.page.octets ++ verdict_lines x old.passive t) is.active
          ∙ ap (λ (y : Parameters). old.page.octets ++ verdict_lines a y t) is.passive
          ∙ ap (λ (ns : List ℕ). old.page.octets ++ ns) (sym (append-nil (verdict_lines a p t))),
    )
  where
    by : (a p : Parameters) (es : List Event) (ts : List PairVerdicts) → ReportIs a p es ts old → (q : Pair) → (b : Bool)
        → LogIs a p (if b then [] else log_of q [] es) (cond b None (both_of old q))
    by a p es ts is q true = refl
    by a p es ts is q false = is.logs q

pub takes_ok : {E : Type 0} (result : Result (Unit {0}) E) (e f : Event) (old new : VerdictReport) → f ≡ e → OnOk result (Takes f old new) → OnOk result (Takes e old new)
takes_ok (Ok done) e f old new is takes = subst (λ (x : Event). Takes x old new) is takes
takes_ok (Err stop) e f old new is takes = tt

pub on_map : {T E A B : Type 0} (result : Result T E) → (A → B) → OnOk result A → OnOk result B
on_map (Ok t) f a = f a
on_map (Err t) f a = tt

-- ---- the logs of a pair

pub sets_then : (pair : Pair) (both : Option PairLogs) (w : Option PairLogs) (b : Bool) → cond b both (cond b None w) ≡ cond b both w
sets_then pair both w true = refl
sets_then pair both w false = refl

pub begun : (a p : Parameters) (r : VerdictReport) → r.active ≡ a → r.passive ≡ p → ((q : Pair) → both_of r q ≡ None) → r.shortfall ≡ None → r.has_failed ≡ false → r.has_verdicts ≡ false
    → r.counts ≡ none_skipped → ReportIs a p [] [] r
unfolding log_of AllVerdicts
begun a p r is_a is_p none shortfall failed verdict counts = record {
  active = is_a;
  passive = is_p;
  logs = λ q. subst (LogIs a p []) (sym (none q)) refl;
  shortfall = shortfall;
  failed = failed;
  verdict = verdict;
  counts = counts;
  all_verdicts = refl;
}

pub logs_on : (pair : Pair) (item : LogItem) (old mid new : VerdictReport) (both after : PairLogs) → SetsLog pair None old mid → HasOpened old pair both → AddsItem item both after
    → new ≡ record mid { logs = new.logs } → ((q : Pair) → both_of new q ≡ cond (same pair q) (Some after) (both_of mid q)) → LogsOn pair item old new
logs_on pair item old mid new both after gone opened adds is sets = (
  after,
  (
    is ∙ ap (λ (x : VerdictReport). record x { logs = new.logs }) gone.0,
    λ q. sets q ∙ ap (cond (same pair q) (Some after)) (gone.1 q) ∙ sets_then pair (Some after) (both_of old q) (same pair q),
  ),
  λ items has. adds old.active old.passive items (opened items has),
)

pub ok_given : {T E : Type 0} (P : Type 0) (r : Result T E) → is_err r ≡ false → OnOk r P → P
ok_given P (Ok x) is ok = ok
ok_given P (Err e) is ok = absurd cc

pub counts_are : (old : VerdictReport) (counts : SkippedPackets) (reason : Reason) → counts ≡ skipped_after old.counts reason
    → record old { counts = counts } ≡ record old { counts = skipped_after old.counts reason }
counts_are old counts reason e = ap (λ (x : SkippedPackets). record old { counts = x }) e
