-- A worked value: the watcher that a participant has at the end, with what it was told of a page that came and went.
use Rattle.std.proofs.Common.{◌≡◌, ◌∙◌, refl, ap, sym, subst, arith, ℕ, zero, suc, ◌^◌, List, [], ◌∷◌, Some, None}
use Rattle.std.specs.Prelude.{codes, slice_get}
use Rattle.std.specs.List.{All}
use Rattle.std.proofs.lemmas.List.Elements.{All-cons, All-nil}
use Rattle.std.proofs.lemmas.Option.{same_Some}
use Rattle.hp_base.specs.Telling.{Listener}
use Rattle.hp_base.specs.declared.event.EventKind.TheVariants.{Alloc, Free}
use Rattle.hp_base.specs.declared.row.Row.{Row}
use Rattle.hp_base.specs.declared.row.Run.{Run}
use Rattle.hp_log.specs.declared.log_record.LogRecord.TheVariants.{Add, Drop}
use Rattle.hp_maps.specs.Bytes.{AreTold}
use Rattle.hp_maps.specs.MapsView.{table_in}
use Rattle.hp_maps.specs.declared.table.Table.{Table}
use Rattle.hp_script.specs.Part.{Part}
use Rattle.hp_script.specs.declared.answer.Answer.{Answer}
use Rattle.hp_script.specs.declared.answer.Answer.TheVariants as answer
use Rattle.hp_script.specs.declared.line.Act.{Act}
use Rattle.hp_script.specs.declared.line.Act.TheVariants as act
use Rattle.hp_script.specs.declared.options.SocketChoice.TheVariants as choose
use Rattle.hp_script.specs.declared.workload.Workload.{Workload}
use Rattle.hp_segs.specs.Opening as segments
use Rattle.hp_segs.specs.SegsView.{SegsView}
use Rattle.hp_segs.specs.declared.outcome.AskLog.{AskLog}
use Rattle.hp_segs.specs.declared.outcome.Outcome.{Outcome}
use Rattle.hp_segs.specs.declared.outcome.Outcome.TheVariants.{Freed, Granted}
use Rattle.hp_proc.specs.LinesDone.{Course, opening_standing}
use Rattle.hp_proc.specs.WatchedBytes.{AreWatchersOf, HasLaterGrant, HasTakenGrant, IsRegistered, IsRegisteredWithGrants, IsUnwatch}
use Rattle.hp_proc.proofs.WorkedLines.WorkedWatching.{event, part, told_that_it_went}

abbrev course_of : Act → Answer → Course
course_of act given = record { line = record { line = 2; participant = 0; act = act }; answer = given; trace = [] }

-- a line registers a watcher, the next one allocates, and the last one frees that; what these did besides is of no moment here
abbrev watching : Course
watching = course_of (act.Watch (part (codes "w"))) answer.Done

abbrev allocating : Course
allocating =
    course_of (act.Alloc (part (codes "a")) 1000 (record { socket = choose.Any; heap = None; align = 0; bound = 0; flags = 0 }))
    (answer.Address 0x1001ffc00)

abbrev freeing : Course
freeing = course_of (act.Free (part (codes "a"))) answer.Done

abbrev courses : List Course
courses = watching ∷ allocating ∷ freeing ∷ []

-- a page came for its first ask, and went by its second number
abbrev run : Run
run = record { list = 0; first = 0; count = 1; addr = 2 ^ 32; page = 2 ^ 21; socket = 0 }

abbrev outcome : ℕ → Outcome → AskLog
outcome number its = record { from = 0; number = number; outcome = its; at = number; ask = None }

abbrev asks : List AskLog
asks = outcome 1 (Granted 1) ∷ outcome 2 (Freed 2) ∷ []

abbrev segs : SegsView
segs = record (segments.opening [] 1 0) { log = Add run 0 ∷ Drop run ∷ []; asks = asks }

abbrev watcher : Listener
watcher = record { name = codes "w"; since = []; events = event Alloc ∷ event Free ∷ [] }

not_unwatch : (one other : Course) → ((name : Part) → one.line.act ≡ act.Unwatch name → ⊥) → Some one ≡ Some other
    → IsUnwatch (codes "w") other → ⊥
not_unwatch one other differs there unwatch =
    differs unwatch.name (ap (λ (course : Course). course.line.act) (same_Some one other there) ∙ unwatch.unwatches)

none_unwatches : (later : ℕ) (other : Course) → slice_get courses later ≡ Some other → IsUnwatch (codes "w") other → ⊥
none_unwatches zero other there unwatch = not_unwatch watching other (λ name is. cc) there unwatch
none_unwatches (suc zero) other there unwatch = not_unwatch allocating other (λ name is. cc) there unwatch
none_unwatches (suc (suc zero)) other there unwatch = not_unwatch freeing other (λ name is. cc) there unwatch
none_unwatches (suc (suc (suc later))) other there unwatch = cc

-- by its first table, which has no record, none of its participant's asks had an outcome yet
none_granted : All (HasTakenGrant 0 0 0) asks
none_granted =
    All-cons (HasTakenGrant 0 0 0) (outcome 1 (Granted 1)) (outcome 2 (Freed 2) ∷ []) (λ from few. absurd (omega (arith, few)))
    (All-cons (HasTakenGrant 0 0 0) (outcome 2 (Freed 2)) [] (λ from few. absurd (omega (arith, few))) (All-nil (HasTakenGrant 0 0 0)))

-- and what was granted later is of a later record
all_later : All (HasLaterGrant 0 0 0) asks
all_later =
    All-cons (HasLaterGrant 0 0 0) (outcome 1 (Granted 1)) (outcome 2 (Freed 2) ∷ []) (λ from beyond. omega arith)
    (All-cons (HasLaterGrant 0 0 0) (outcome 2 (Freed 2)) [] (λ from beyond. tt) (All-nil (HasLaterGrant 0 0 0)))

module _ (workload : Workload) (table : Table) (rows : table.rows.items ≡ []) where
  abbrev registered : IsRegistered 0 (opening_standing workload 0) segs courses table watcher
  registered = record {
    place = 0;
    course = watching;
    name = part (codes "w");
    there = refl;
    watches = refl;
    named = refl;
    answered = refl;
    still = λ later other after there. none_unwatches later other there;
    number = 0;
    seen = 0;
    within = omega arith;
    lags = record { reached = 0; from = omega arith; up_to = omega arith; left = refl };
    since = omega arith;
    beyond = all_later;
    until = λ joined. omega arith;
  }

  registered_with_grants : IsRegisteredWithGrants 0 (opening_standing workload 0) segs courses table watcher
  registered_with_grants = record { is = registered; own = none_granted }

  abbrev WasTold : Listener → Type 0
  WasTold listener = AreTold listener.events (table_in listener.since) (table_in table.rows.items)

  a_watcher_at_the_end : AreWatchersOf 0 (opening_standing workload 0) segs courses table (watcher ∷ [])
  a_watcher_at_the_end = record {
    names_are = refl;
    registered =
        All-cons (IsRegistered 0 (opening_standing workload 0) segs courses table) watcher [] registered
        (All-nil (IsRegistered 0 (opening_standing workload 0) segs courses table));
    told =
        All-cons WasTold watcher [] (subst (λ (rows : List Row). AreTold watcher.events [] (table_in rows)) (sym rows) told_that_it_went)
        (All-nil WasTold);
  }
