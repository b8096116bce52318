use Rattle.std.proofs.Common.{◌≡◌, Option, Some, None, refl, subst, sym, ◌∙◌}
use Rattle.std.specs.List.{find}
use Rattle.std.specs.Option.{IfNone, IfSome, option_map}
use Rattle.hp_base.specs.declared.span.Span.{Span}
use Rattle.hp_heap.specs.PlainHeap.{PlainHeap, data_address}
use Rattle.hp_heap.specs.Tiling.{IsTiled}
use Rattle.hp_external.specs.Elements.{IsLowestData, NonePasses, is_busy_in}
use Rattle.hp_external.proofs.ElementLemmas.{data_below, lowest_data_by, none_by}
use Rattle.hp_external.proofs.looks.lowest_data.Goals as goal

pub first_data-requires : goal.first_data-requires
first_data-requires c = rw c.walk.ensures (data_below c.args.heap.now.plain c.sound.ensures.tiled)

pub returns-clause-found : goal.returns-clause-found
returns-clause-found c =
    lowest_data_by (is_busy_in c.args.by c.args.list) c.args.heap.now.plain c.first_data.result c.sound.ensures.tiled (rw c.walk.ensures at c.first_data.ensures)

pub returns-clause-none : goal.returns-clause-none
returns-clause-none c =
    none_by (is_busy_in c.args.by c.args.list) c.args.heap.now.plain c.first_data.result (rw c.walk.ensures at c.first_data.ensures)
