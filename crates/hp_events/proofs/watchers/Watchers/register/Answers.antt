-- Each refusal in its turn.
use Rattle.std.proofs.Common.{◌<◌, ◌∙◌, ap, arith, length, sym, refl}
use Rattle.std.specs.List.{list_any}
use Rattle.std.proofs.lemmas.Bool.{le-leb}
use Rattle.std.proofs.lemmas.Bool.Decides.{nat_tests}
use Rattle.std.proofs.lemmas.List.{length-map}
use Rattle.hp_events.specs.Watchers.{WatchersView, has_name}
use Rattle.hp_events.specs.Watching.{WatcherView, listener_of}
use Rattle.hp_events.proofs.RefusalLemmas.{has_it, it_comes, it_exists, it_is_full}
use Rattle.hp_events.proofs.watchers.Watchers.register.Goals as goal

pub returns-then-has_name-clause-judged : goal.returns-then-has_name-clause-judged
returns-then-has_name-clause-judged c =
    it_exists c.args.self.now.listeners c.args.name.now (c.in-Some.ensures.accepted.0 refl)
    (has_it c.self.inside.list.items c.self.inside.spare c.args.self.now c.args.name.now c.self.view_is
    ∙ (ap (list_any (λ (watcher : WatcherView). has_name c.args.name.now watcher.listener)) (sym c.deref.ensures.value)
    ∙ (sym c.has_name.ensures ∙ c.if-has_name.true)))

pub returns-then-len-clause-judged : goal.returns-then-len-clause-judged
returns-then-len-clause-judged c =
    it_is_full c.args.self.now.listeners c.args.name.now (c.in-Some.ensures.accepted.0 refl)
    (has_it c.self.inside.list.items c.self.inside.spare c.args.self.now c.args.name.now c.self.view_is
    ∙ (ap (list_any (λ (watcher : WatcherView). has_name c.args.name.now watcher.listener)) (sym c.deref.ensures.value)
    ∙ (sym c.has_name.ensures ∙ c.if-has_name.false)))
    (le-leb _ _ (omega (
      arith,
      c.if-len.true,
      c.len.ensures,
      c.deref.ensures.len,
      ap length c.deref.ensures.value,
      length-map c.self.inside.list.items listener_of,
      ap (λ (w : WatchersView). length w.listeners) c.self.view_is,
    )))

pub returns-clause-judged : goal.returns-clause-judged
returns-clause-judged c =
    it_comes c.args.self.now.listeners c.args.name.now (c.in-Some.ensures.accepted.0 refl) _ c.add.result
    (has_it c.self.inside.list.items c.self.inside.spare c.args.self.now c.args.name.now c.self.view_is
    ∙ (ap (list_any (λ (watcher : WatcherView). has_name c.args.name.now watcher.listener)) (sym c.deref.ensures.value)
    ∙ (sym c.has_name.ensures ∙ c.if-has_name.false)))
    (let few : length c.args.self.now.listeners < 4 =
    omega (
      arith,
      c.if-len.false,
      c.len.ensures,
      c.deref.ensures.len,
      ap length c.deref.ensures.value,
      length-map c.self.inside.list.items listener_of,
      ap (λ (w : WatchersView). length w.listeners) c.self.view_is,
    ) in
    grind (arith, nat_tests))
    c.add.ensures.err
