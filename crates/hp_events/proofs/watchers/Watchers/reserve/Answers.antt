-- Where there was no memory there is a watcher.
use Rattle.std.proofs.Common.{◌∙◌, ◌≢◌, List, [], subst}
use Rattle.hp_events.specs.Watchers.{WatchersView}
use Rattle.hp_events.proofs.RoomLemmas.{always, somebody_listens}
use Rattle.hp_events.proofs.watchers.Watchers.reserve.Goals as goal

pub returns-in_err-reserve_each-clause-watched : goal.returns-in_err-reserve_each-clause-watched
returns-in_err-reserve_each-clause-watched c =
    always c.from_residual.result
    (subst (λ (view : WatchersView). view.listeners ≢ []) c.self.view_is
    (somebody_listens c.self.inside.list.items
    (λ none. c.in_err-reserve_each.ensures.some (c.deref_mut.ensures.value ∙ none))))
