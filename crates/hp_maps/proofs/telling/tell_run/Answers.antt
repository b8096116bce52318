-- The rows that stand in turn are those of the run.
use Rattle.std.proofs.Common.{◌≡◌, ◌+◌, ◌-◌, ◌∙◌, ℕ, List, ap, arith, drop, length, sym, take}
use Rattle.hp_base.specs.declared.event.EventKind.TheVariants.{Free}
use Rattle.hp_base.specs.declared.row.Row.{Row}
use Rattle.hp_maps.specs.Events.{all_told, events_of, rows_from}
use Rattle.hp_maps.proofs.TurnLemmas.{in_turn}
use Rattle.hp_maps.proofs.telling.tell_run.Goals as goal

pub tell_rows-requires-clause-spare : goal.tell_rows-requires-clause-spare
tell_rows-requires-clause-spare g c =
    let rows = c.args.rows.now in
    let run = c.args.run.now in
    let at = c.in-Some.at in
    let all = in_turn c.args.before.now run rows at c.requires.once c.in-Some.ensures in
    let part = all ∙ ap (λ (n : ℕ). take n (drop at rows)) {x = run.count} {y = at + run.count - at} (omega arith) in
    omega (arith, c.requires.spare, ap (λ (l : List Row). length (events_of Free l)) part)

pub returns-in-Some-clause-told : goal.returns-in-Some-clause-told
returns-in-Some-clause-told g c =
    let rows = c.args.rows.now in
    let run = c.args.run.now in
    let at = c.in-Some.at in
    let all = in_turn c.args.before.now run rows at c.requires.once c.in-Some.ensures in
    let part = all ∙ ap (λ (n : ℕ). take n (drop at rows)) {x = run.count} {y = at + run.count - at} (omega arith) in
    c.tell_rows.ensures.told ∙ ap (λ (l : List Row). all_told (events_of Free l) (g.T.Tell.told c.args.tell.now)) (sym part)

pub returns-in-Some-clause-spare : goal.returns-in-Some-clause-spare
returns-in-Some-clause-spare g c =
    let rows = c.args.rows.now in
    let run = c.args.run.now in
    let at = c.in-Some.at in
    let all = in_turn c.args.before.now run rows at c.requires.once c.in-Some.ensures in
    let part = all ∙ ap (λ (n : ℕ). take n (drop at rows)) {x = run.count} {y = at + run.count - at} (omega arith) in
    omega (arith, c.tell_rows.ensures.spare, ap (λ (l : List Row). length (events_of Free l)) part)
