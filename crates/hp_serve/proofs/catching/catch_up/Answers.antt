-- Where nobody watches, nobody is told.
use Rattle.std.proofs.Common.{◌≡◌, ◌∙◌, List, [], ◌∷◌, length, refl, sym, subst, arith}
use Rattle.hp_base.specs.Telling.{Listener}
use Rattle.hp_base.specs.declared.event.Event.{Event}
use Rattle.hp_maps.specs.Catching.{newer}
use Rattle.hp_maps.specs.Events.{all_told, caught_events}
use Rattle.hp_serve.specs.Serving.{told_of}
use Rattle.hp_serve.proofs.catching.catch_up.Goals as goal

no_one : (listeners : List Listener) → length listeners ≡ 0 → listeners ≡ []
no_one [] none = refl
no_one (listener ∷ listeners) none = absurd (omega (arith, none))

nobody_told : (events : List Event) → all_told events [] ≡ []
nobody_told [] = refl
nobody_told (event ∷ events) = nobody_told events

pub returns-then-len-eq0-clause-told : goal.returns-then-len-eq0-clause-told
returns-then-len-eq0-clause-told g c =
    let maps = c.args.maps.now in
    let records = c.args.records.now in
    subst (λ (listeners : List Listener). listeners ≡ told_of records c.catch_up_untold.result maps listeners)
    (sym (no_one c.args.watchers.now.listeners (sym c.len.ensures.len ∙ c.if-len-eq0.true)))
    (sym (nobody_told (caught_events maps.rows maps.number (newer records maps.number (length records)) c.catch_up_untold.result)))
