-- Watchers that are told, whose room grows, and that come and go.
use Rattle.std.proofs.Common.{◌≡◌, ◌≢◌, ℕ, ◌+◌, ◌-◌, ◌<◌, ◌≤◌, Bool, List, [], ◌∷◌, ◌++◌, map, filter, set, get_or, length, refl, ap, ◌∙◌, sym, subst, arith, inl, inr}
use Rattle.std.specs.Prelude.{Result, Ok, Err, OnErr}
use Rattle.std.proofs.lemmas.Bool.{cases_eq}
use Rattle.std.proofs.lemmas.List.{get_or-set_other, get_or-set_same, length-map, length-set, length_push}
use Rattle.std.proofs.lemmas.List.Elements.{All-append, All-cons, All-filter, All-map, All-nil, All-weaker}
use Rattle.std.proofs.lemmas.List.Sums.{count_by-le-length, length-filter}
use Rattle.hp_base.specs.Telling.{hearing}
use Rattle.hp_base.specs.declared.event.Event.{Event}
use Rattle.hp_events.specs.Watching.{AreWatchers, HaveRoom, IsRoomier, WatcherView, heard, listener_of}
use Rattle.hp_events.proofs.ListFacts.{same_part}

-- of watchers in turn one is replaced by one that is told the same and has no less room
pub roomier_set : (old now : List WatcherView) (i : ℕ) (d y : WatcherView) → i < length now → y.listener ≡ (get_or now i d).listener
    → (get_or now i d).room ≤ y.room → IsRoomier old now → IsRoomier old (set now i y)
roomier_set old now i d y within same more is = record {
  listeners = same_part listener_of now i d y same ∙ is.listeners;
  kept = λ room have k e inside.
      let before : HaveRoom room now = is.kept room have in
      elim (cases_eq k i) [
        | inl here ↦
            let its = before i d within in
            subst (λ k. room ≤ (get_or (set now i y) k e).room) (sym here)
            (subst (λ w. room ≤ w.room) (sym (get_or-set_same now i y e within)) (omega (arith, its, more)))
        | inr other ↦
            let its = before k e (omega (arith, inside, length-set now i y)) in
            subst (λ w. room ≤ w.room) (sym (get_or-set_other now i k y e other)) its
      ];
}

pub roomier_same : (old : List WatcherView) → IsRoomier old old
roomier_same old = record { listeners = refl; kept = λ room have. have }

-- what holds anyway holds of what is refused
pub always : {T E P : Type 0} (result : Result T E) → P → OnErr result P
always (Ok value) is = tt
always (Err refusal) is = is

-- where nobody listens there is none
pub none_listens : (watchers : List WatcherView) → map listener_of watchers ≡ [] → watchers ≡ []
none_listens [] none = refl
none_listens (watcher ∷ watchers) none = cc

pub somebody_listens : (watchers : List WatcherView) → watchers ≢ [] → map listener_of watchers ≢ []
somebody_listens watchers some none = some (none_listens watchers none)

-- the numbers of those with the same listeners are the same
pub as_many : (old new : List WatcherView) → map listener_of new ≡ map listener_of old → length new ≡ length old
as_many old new same = omega (arith, ap length same, length-map new listener_of, length-map old listener_of)

-- and where one has a place there were some
pub some_there : (old new : List WatcherView) (place : ℕ) → length new ≡ length old → place < length new → old ≢ []
some_there old new place same within none = omega (arith, within, same, ap length none)

pub roomier_kept : (old new : List WatcherView) (spare : ℕ) → AreWatchers old spare → IsRoomier old new → AreWatchers new spare
roomier_kept old new spare are is =
    record { few = omega (arith, are.few, as_many old new is.listeners); room = is.kept spare are.room }

-- those so far have the room, and so has one more
pub room_more : (events : ℕ) (now : List WatcherView) (i : ℕ) (y : WatcherView) → i < length now → events ≤ y.room
    → ((k : ℕ) (d : WatcherView) → k < i → events ≤ (get_or now k d).room)
    → (k : ℕ) (d : WatcherView) → k < i + 1 → events ≤ (get_or (set now i y) k d).room
room_more events now i y within has before k d below =
    elim (cases_eq k i) [
      | inl here ↦
          subst (λ k. events ≤ (get_or (set now i y) k d).room) (sym here)
          (subst (λ (w : WatcherView). events ≤ w.room) (sym (get_or-set_same now i y d within)) has)
      | inr other ↦
          subst (λ (w : WatcherView). events ≤ w.room) (sym (get_or-set_other now i k y d other)) (before k d (omega (arith, below, other)))
    ]

-- each is told an event
pub told_listeners : (event : Event) (list : List WatcherView) → map listener_of (map (heard event) list) ≡ map (hearing event) (map listener_of list)
told_listeners event [] = refl
told_listeners event (watcher ∷ list) = ap (λ l. hearing event watcher.listener ∷ l) (told_listeners event list)

pub told_kept : (event : Event) (list : List WatcherView) (spare : ℕ) → AreWatchers list spare → AreWatchers (map (heard event) list) (spare - 1)
told_kept event list spare are = record {
  few = omega (arith, are.few, length-map list (heard event));
  room = All-map (λ watcher. spare - 1 ≤ watcher.room) (heard event) list
      (All-weaker (λ watcher. spare ≤ watcher.room) (λ watcher. spare - 1 ≤ watcher.room - 1) (λ watcher has. omega (arith, has)) list are.room);
}

pub enough : (list : List WatcherView) (spare : ℕ) → AreWatchers list spare → 0 < spare → HaveRoom 1 list
enough list spare are some =
    All-weaker (λ watcher. spare ≤ watcher.room) (λ watcher. 1 ≤ watcher.room) (λ watcher has. omega (arith, has, some)) list are.room

-- one comes, or those go that pass a test
pub come_kept : (list : List WatcherView) (watcher : WatcherView) (spare : ℕ) → AreWatchers list spare → length list < 4 → spare ≤ watcher.room
    → AreWatchers (list ++ watcher ∷ []) spare
come_kept list watcher spare are few has = record {
  few = omega (arith, few, length_more);
  room = All-append (λ watcher. spare ≤ watcher.room) list (watcher ∷ []) are.room
      (All-cons (λ watcher. spare ≤ watcher.room) watcher [] has (All-nil (λ watcher. spare ≤ watcher.room)));
}
  where
    length_more : length (list ++ watcher ∷ []) ≡ length list + 1
    length_more = length_push list watcher

pub left_kept : (p : WatcherView → Bool) (list : List WatcherView) (spare : ℕ) → AreWatchers list spare → AreWatchers (filter p list) spare
left_kept p list spare are = record {
  few = omega (arith, are.few, length-filter p list, count_by-le-length p list);
  room = All-filter p (λ watcher. spare ≤ watcher.room) list are.room;
}
