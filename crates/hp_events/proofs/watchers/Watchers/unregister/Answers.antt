-- The watcher of the name goes, where there is one.
use Rattle.std.proofs.Common.{◌∙◌, not, List, ap, refl, sym, subst}
use Rattle.std.specs.List.{list_any}
use Rattle.hp_events.specs.Watchers.{has_name}
use Rattle.hp_events.specs.Watching.{AreWatchers, WatcherView}
use Rattle.hp_events.proofs.RefusalLemmas.{has_it, it_is_gone, it_was_none, others_listen}
use Rattle.hp_events.proofs.RoomLemmas.{left_kept}
use Rattle.hp_events.proofs.watchers.Watchers.unregister.Goals as goal

pub returns-then-not-has_name-clause-judged : goal.returns-then-not-has_name-clause-judged
returns-then-not-has_name-clause-judged c =
    it_was_none c.args.self.now.listeners c.args.name.now (c.in-Some.ensures.accepted.0 refl)
    (has_it c.self.inside.list.items c.self.inside.spare c.args.self.now c.args.name.now c.self.view_is
    ∙ (ap (list_any (λ (watcher : WatcherView). has_name c.args.name.now watcher.listener)) (sym c.deref.ensures.value)
    ∙ (sym c.has_name.ensures ∙ c.if-not-has_name.true)))

pub invariant_of-self : goal.invariant_of-self
invariant_of-self c =
    subst (λ (l : List WatcherView). AreWatchers l c.self.inside.spare) (sym c.take_out.ensures)
    (left_kept (λ watcher. not (has_name c.args.name.now watcher.listener)) c.self.inside.list.items c.self.inside.spare c.self.invariant)

pub returns-clause-judged : goal.returns-clause-judged
returns-clause-judged c =
    it_is_gone c.args.self.now.listeners c.args.name.now (c.in-Some.ensures.accepted.0 refl)
    (has_it c.self.inside.list.items c.self.inside.spare c.args.self.now c.args.name.now c.self.view_is
    ∙ (ap (list_any (λ (watcher : WatcherView). has_name c.args.name.now watcher.listener)) (sym c.deref.ensures.value)
    ∙ (sym c.has_name.ensures ∙ c.if-not-has_name.false)))

pub returns-clause-ok : goal.returns-clause-ok
returns-clause-ok c =
    others_listen c.args.name.now c.self.inside.list.items c.take_out.new.list.items c.self.inside.spare c.args.self.now c.self.view_is
    c.take_out.ensures
