-- The growth's run is used, and the places that are set aside for the ask are used.
use Rattle.hp_segs.proofs.RetiredRuns.DropLemmas.{held_first}
use Rattle.std.proofs.Common.{None, arith}
use Rattle.std.proofs.lemmas.List.{get_or_default}
use Rattle.hp_segs.proofs.GrowthSteps.WithdrawSteps.{has_places, kept_undone, own_growth}
use Rattle.hp_segs.proofs.RowTables.TableRuns.{open_run}
use Rattle.hp_segs.proofs.segs.Segs.undo_growth.Goals as goal

pub remove-requires : goal.remove-requires
remove-requires c =
    let may = rw (← c.self.view_is) at c.requires.may in
    let none = rw (← c.self.view_is) at c.requires.unanswered in
    let own = own_growth c.self.inside.parts.value.growth c.args.from c.args.number c.args.run.now (rw (← c.self.view_is) at c.requires.run) in
    let kept = rw own.is at c.self.invariant in
    let first = rw own.its_run at (held_first own.grown.run c.self.inside.parts.value.retiring.items kept.sound.rows.held) in
    rw c.deref_mut-parts.ensures.value
    (record {
      listed = first.0;
      used = first.1;
      uncounted = rw own.its_run at (open_run own.grown kept.sound.rows).uncounted;
      room = (has_places c.args.from c.args.number c.args.since c.args.now c.self.invariant may none).0;
    })

pub push-requires-clause-room : goal.push-requires-clause-room
push-requires-clause-room c =
    let may = rw (← c.self.view_is) at c.requires.may in
    let none = rw (← c.self.view_is) at c.requires.unanswered in
    rw c.deref_mut-parts.ensures.value
    (has_places c.args.from c.args.number c.args.since c.args.now c.self.invariant may none).1

pub invariant_of-self : goal.invariant_of-self
invariant_of-self c =
    let may = rw (← c.self.view_is) at c.requires.may in
    let none = rw (← c.self.view_is) at c.requires.unanswered in
    let some = rw (← c.self.view_is) at c.requires.run in
    let ask =
    get_or_default c.self.inside.parts.value.armed.value c.args.from c.index-deref-from.result None
    (omega (arith, may.participant, c.self.invariant.sound.places.armed_places)) in
    rw (c.remove.ensures, c.push.ensures, c.records.ensures.records, c.deref.ensures, c.deref_mut-parts.ensures.value, ask)
    (kept_undone c.args.from c.args.number c.args.since c.args.now c.self.invariant may none c.args.run.now some)
