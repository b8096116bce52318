-- The events of a participant's watchers, one watcher after another.
use Rattle.std.proofs.Common.{◌≡◌, ◌∙◌, ℕ, zero, suc, ◌+◌, ◌<◌, List, [], ◌∷◌, ◌++◌, drop, length, Option, Some, None, refl, ap, sym, subst, arith}
use Rattle.std.specs.Prelude.{IfSome, slice_get}
use Rattle.std.specs.List.{flat_map}
use Rattle.std.proofs.lemmas.Option.{get_or_from_slice_get}
use Rattle.hp_base.specs.Telling.{Listener}
use Rattle.hp_base.specs.declared.event.Event.{Event}
use Rattle.hp_report.specs.EventTexts.{event_line, watcher_text}
use Rattle.hp_report.proofs.AddingLemmas.{exits, goes_on}
use Rattle.hp_report.proofs.NumberedLemmas.{flat_map-here}
use Rattle.hp_report.proofs.events.write_watchers.Goals as goal

there : {X : Type 0} (xs : List X) (k : ℕ) → k < length xs → (x : X) × (slice_get xs k ≡ Some x)
there [] k within = absurd (omega (arith, within))
there (x ∷ xs) zero within = (x, refl)
there (x ∷ xs) (suc k) within = there xs k (omega (arith, within))

module _ (participant : ℕ) (listeners : List Listener) (place : ℕ) (name : List ℕ) (events : List Event) where
  abbrev rest : List ℕ
  rest = flat_map (watcher_text participant) (drop (place + 1) listeners)

  -- those of the watcher at a place come first of those that are left
  by_slot : (slot : Option Listener) → slice_get listeners place ≡ slot → place < length listeners
      → IfSome slot (λ listener. name ≡ listener.name) → IfSome slot (λ listener. events ≡ listener.events)
      → flat_map (watcher_text participant) (drop place listeners) ≡ flat_map (event_line participant name) events ++ rest
  by_slot None is within named told = let (listener, its) = there listeners place within in cc
  by_slot (Some listener) is within named told =
      let same : flat_map (event_line participant name) events ≡ watcher_text participant listener =
      ap (λ (name : List ℕ). flat_map (event_line participant name) events) named ∙ ap (flat_map (event_line participant listener.name)) told in
      flat_map-here listeners place (watcher_text participant) listener listener within
      (get_or_from_slice_get listeners place listener listener is)
      ∙ ap (λ (text : List ℕ). text ++ rest) (sym same)

  told_here : place < length listeners → IfSome (slice_get listeners place) (λ listener. name ≡ listener.name)
      → IfSome (slice_get listeners place) (λ listener. events ≡ listener.events)
      → flat_map (watcher_text participant) (drop place listeners) ≡ flat_map (event_line participant name) events ++ rest
  told_here = by_slot (slice_get listeners place) refl

pub loop-place-preserved : goal.loop-place-preserved
loop-place-preserved g c =
    let listeners = c.args.watchers.now.listeners in
    let place = c.loop-place.place in
    let within : place < length listeners = omega (arith, c.loop-place-test.true, c.loop-place.auto.place-end, c.len-place-end.ensures.len) in
    let named = subst (λ (name : List ℕ). IfSome (slice_get listeners place) (λ listener. name ≡ listener.name)) (sym c.as_bytes-name.ensures.text)
    c.name.ensures in
    goes_on _ _ c.loop-place.invariant c.in_ok-write_watcher.ensures
    (told_here c.args.participant listeners place c.as_bytes-name.result.now c.events.result.now within named c.events.ensures)

pub returns-in_err-write_watcher : goal.returns-in_err-write_watcher
returns-in_err-write_watcher g c =
    let listeners = c.args.watchers.now.listeners in
    let place = c.loop-place.place in
    let within : place < length listeners = omega (arith, c.loop-place-test.true, c.loop-place.auto.place-end, c.len-place-end.ensures.len) in
    let named = subst (λ (name : List ℕ). IfSome (slice_get listeners place) (λ listener. name ≡ listener.name)) (sym c.as_bytes-name.ensures.text)
    c.name.ensures in
    exits _ _ c.from_residual.result _ c.loop-place.invariant c.in_err-write_watcher.ensures
    (told_here c.args.participant listeners place c.as_bytes-name.result.now c.events.result.now within named c.events.ensures)
    c.from_residual.ensures.1 (λ other same. same)
