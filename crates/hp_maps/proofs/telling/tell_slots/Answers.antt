-- One slot more.
use Rattle.std.proofs.Common.{◌+◌, ◌-◌, ◌∙◌, ◌++◌, List, Option, IfSome, ap, arith, sym, subst, length, option_to_list}
use Rattle.hp_base.specs.declared.event.EventKind.TheVariants.{Free}
use Rattle.hp_base.specs.declared.row.Row.{Row}
use Rattle.hp_maps.specs.Events.{all_told, rows_from, stands_at}
use Rattle.hp_maps.specs.TellingInTurn.{events_from}
use Rattle.hp_base.specs.Mapping.{IsWithin}
use Rattle.hp_maps.specs.declared.telling.Stretch.{Stretch}
use Rattle.hp_maps.proofs.EventFacts.TellLemmas.{found_told, found_length, found_of_all, rows_left}
use Rattle.hp_maps.proofs.telling.tell_slots.Goals as goal

pub tell_found-stretch-requires-clause-near : goal.tell_found-stretch-requires-clause-near
tell_found-stretch-requires-clause-near g c =
    subst (λ (found : Option Row). IfSome found IsWithin) (sym c.found_at-found.ensures)
    (found_of_all (stands_at c.args.before.now c.args.run.now.list (c.args.run.now.first + c.loop-n.n)) IsWithin c.args.rows.now c.requires.near)

pub tell_found-stretch-requires-clause-spare : goal.tell_found-stretch-requires-clause-spare
tell_found-stretch-requires-clause-spare g c =
    let rows = c.args.rows.now in
    let before = c.args.before.now in
    let run = c.args.run.now in
    let n = c.loop-n.n in
    let found = c.found_at-found.result.row in
    let rest = rows_from rows before run (n + 1) (run.count - (n + 1)) in
    let next = rows_left rows before run n run.count (omega arith) ∙ ap (λ (o : Option Row). option_to_list o ++ rest) (sym c.found_at-found.ensures) in
    omega (
      arith,
      c.loop-n.invariant.spare,
      c.requires.spare,
      ap (λ (l : List Row). length (events_from Free c.loop-n.stretch l)) next,
      found_length Free c.loop-n.stretch found rest,
    )

pub loop-n-preserved : goal.loop-n-preserved
loop-n-preserved g c =
    let rows = c.args.rows.now in
    let before = c.args.before.now in
    let run = c.args.run.now in
    let n = c.loop-n.n in
    let found = c.found_at-found.result.row in
    let rest = rows_from rows before run (n + 1) (run.count - (n + 1)) in
    let next = rows_left rows before run n run.count (omega arith) ∙ ap (λ (o : Option Row). option_to_list o ++ rest) (sym c.found_at-found.ensures) in
    let told = ap (λ (l : List Row). all_told (events_from Free c.loop-n.stretch l) (g.T.Tell.told c.loop-n.tell)) (sym next)
    ∙ c.loop-n.invariant.told in
    let after = c.tell_found-stretch.ensures.stretch in
    record {
      told = ap (λ (s : Option Stretch). all_told (events_from Free s rest) (g.T.Tell.told c.tell_found-stretch.new.tell)) after
          ∙ found_told Free c.loop-n.stretch found rest _ _ _ told c.tell_found-stretch.ensures.told;
      spare = omega (
        arith,
        c.loop-n.invariant.spare,
        c.tell_found-stretch.ensures.spare,
        ap (λ (l : List Row). length (events_from Free c.loop-n.stretch l)) next,
        found_length Free c.loop-n.stretch found rest,
        ap (λ (s : Option Stretch). length (events_from Free s rest)) after,
      );
      whole = c.tell_found-stretch.ensures.whole;
    }
