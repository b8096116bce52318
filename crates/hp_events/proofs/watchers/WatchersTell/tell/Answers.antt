-- Each watcher is told the event.
use Rattle.std.proofs.Common.{◌≡◌, ◌-◌, ◌∙◌, List, map, drop, length, ap, arith, sym, subst}
use Rattle.std.proofs.lemmas.List.{length-map, take_at}
use Rattle.hp_base.specs.Telling.{told_after}
use Rattle.hp_events.specs.Watchers.{WatchersView}
use Rattle.hp_events.specs.Watching.{AreWatchers, WatcherView, heard, listener_of}
use Rattle.hp_events.proofs.RoomLemmas.{told_kept, told_listeners}
use Rattle.hp_events.proofs.watchers.WatchersTell.tell.Goals as goal

pub invariant_of-self : goal.invariant_of-self
invariant_of-self c =
    let told : c.tell_each.new.list ≡ map (heard c.args.event) c.self.inside.list.items =
    c.tell_each.ensures ∙ ap (map (heard c.args.event)) c.deref_mut.ensures.value in
    let whole = take_at c.tell_each.new.list (drop (length c.tell_each.new.list) c.self.inside.list.items) c.self.inside.list.len
    (omega (
      arith,
      c.deref_mut.ensures.len,
      ap length c.deref_mut.ensures.value,
      ap length told,
      length-map c.self.inside.list.items (heard c.args.event),
    )) in
    subst (λ (l : List WatcherView). AreWatchers l (c.self.inside.spare - 1)) (sym (whole ∙ told))
    (told_kept c.args.event c.self.inside.list.items c.self.inside.spare c.self.invariant)

pub returns-clause-told : goal.returns-clause-told
returns-clause-told c =
    let told : c.tell_each.new.list ≡ map (heard c.args.event) c.self.inside.list.items =
    c.tell_each.ensures ∙ ap (map (heard c.args.event)) c.deref_mut.ensures.value in
    let whole = take_at c.tell_each.new.list (drop (length c.tell_each.new.list) c.self.inside.list.items) c.self.inside.list.len
    (omega (
      arith,
      c.deref_mut.ensures.len,
      ap length c.deref_mut.ensures.value,
      ap length told,
      length-map c.self.inside.list.items (heard c.args.event),
    )) in
    ap (map listener_of) (whole ∙ told)
    ∙ (told_listeners c.args.event c.self.inside.list.items
    ∙ ap (λ (w : WatchersView). told_after c.args.event w.listeners) c.self.view_is)
