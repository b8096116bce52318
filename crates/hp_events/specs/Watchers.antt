-- The memory event callbacks of a participant, and when a call on them is refused: the rule "Watchers" of docs/OUTSIDE.md.
use Rattle.std.specs.Prelude.{◌≡◌, ℕ, Bool, not, ◌&&◌, nat_eq, nat_le, List, [], ◌∷◌, ◌++◌, filter, length, max, Option, Some, None, Result, Ok, Err, if◌then◌else◌}
use Rattle.std.specs.List.{list_any}
use Rattle.std.specs.Cmp.Lexicographic.{pointwise}
use Rattle.hp_base.specs.Telling.{Listener}
use Rattle.hp_base.specs.declared.row.Row.{Row}
use Rattle.hp_events.specs.declared.fault.UnwatchFault.{UnwatchFault}
use Rattle.hp_events.specs.declared.fault.UnwatchFault.TheVariants as unwatch
use Rattle.hp_events.specs.declared.fault.WatchFault.{WatchFault}
use Rattle.hp_events.specs.declared.fault.WatchFault.TheVariants as watch

-- the watchers, each with its name, the rows that were mapped when it was registered and the events that it was told since, in the order
-- of registration; and for how many events more there is room
pub record WatchersView : Type 0 where
  pub listeners : List Listener
  pub spare : ℕ

-- nobody watches
abbrev pub none_watching : WatchersView
none_watching = record { listeners = []; spare = 0 }

-- with one more, which was told nothing yet
abbrev pub registered : List ℕ → List Row → WatchersView → WatchersView
registered name table watchers =
    record watchers { listeners = watchers.listeners ++ record { name = name; since = table; events = [] } ∷ [] }

abbrev pub has_name : List ℕ → Listener → Bool
has_name name listener = pointwise nat_eq listener.name name

-- without that of a name
abbrev pub unregistered : List ℕ → WatchersView → WatchersView
unregistered name watchers = record watchers { listeners = filter (λ listener. not (has_name name listener)) watchers.listeners }

-- with room for so many events
abbrev pub with_room : ℕ → WatchersView → WatchersView
with_room events watchers = record watchers { spare = max watchers.spare events }

-- a name has 1 to 63 bytes
abbrev pub is_name : List ℕ → Bool
is_name name = nat_le 1 (length name) && nat_le (length name) 63

-- why a name is not registered, whether or not there is memory: for itself, for a watcher that has it, or for four that there are
abbrev pub watch_refusal : List Listener → List ℕ → Option WatchFault
watch_refusal listeners name =
    if not (is_name name) then Some (watch.NameLong (length name))
    else (if list_any (has_name name) listeners then Some watch.Exists
    else (if nat_le 4 (length listeners) then Some (watch.Full 4) else None))

-- a watcher is refused for that reason, and else registered, unless memory is wanting
abbrev pub AnswersWatch : Option WatchFault → Result Unit WatchFault → Type 0
AnswersWatch (Some fault) (Ok done) = ⊥
AnswersWatch (Some fault) (Err given) = given ≡ fault
AnswersWatch None (Ok done) = Unit {0}
AnswersWatch None (Err given) = given ≡ watch.OutOfMemory

-- why nothing is unregistered: the name itself, or no watcher has it
abbrev pub unwatch_refusal : List Listener → List ℕ → Option UnwatchFault
unwatch_refusal listeners name =
    if not (is_name name) then Some (unwatch.NameLong (length name))
    else (if list_any (has_name name) listeners then None else Some unwatch.NotFound)

-- what is to be unregistered is refused for that reason alone
abbrev pub AnswersUnwatch : Option UnwatchFault → Result Unit UnwatchFault → Type 0
AnswersUnwatch (Some fault) (Ok done) = ⊥
AnswersUnwatch (Some fault) (Err given) = given ≡ fault
AnswersUnwatch None (Ok done) = Unit {0}
AnswersUnwatch None (Err given) = ⊥
