use Rattle.std.proofs.Common.{◌≡◌, ◌∙◌, List, ap, length, replicate}
use Rattle.hp_base.specs.declared.pool_line.PoolLine.{PoolLine}
use Rattle.hp_segs.specs.Opening.{opening}
use Rattle.hp_solo.specs.Solo.{SoloView, nobody}
use Rattle.hp_run.specs.Opening.{IsEmptyHall}
use Rattle.hp_run.proofs.OpeningLemmas.{empty_hall_is, first_opens, if_ok}
use Rattle.hp_run.proofs.running.empty_hall.Goals as goal

pub new-requires-2-clause-opens : goal.new-requires-2-clause-opens
new-requires-2-clause-opens g c =
    let workload = c.args.workload.now in
    first_opens workload c.in_ok-heaps.heaps.items c.in_ok-segs.segs c.in_ok-names.names c.in_ok-heaps.ensures
    (c.in_ok-segs.ensures
    ∙ ap (λ (pools : List PoolLine). opening pools workload.participants workload.absent) c.deref.ensures.value)
    c.in_ok-names.ensures.names

pub returns : goal.returns
returns g c =
    let workload = c.args.workload.now in
    let plain = c.in_ok-plain.plain in
    if_ok (λ (hall : SoloView). hall ≡ record { plain = plain; servers = replicate (length plain.owns) nobody })
    (IsEmptyHall workload) c.new-3.result
    (λ hall is.
    empty_hall_is workload c.in_ok-heaps.heaps.items c.in_ok-segs.segs c.in_ok-names.names plain hall c.in_ok-heaps.ensures
    (c.in_ok-segs.ensures
    ∙ ap (λ (pools : List PoolLine). opening pools workload.participants workload.absent) c.deref.ensures.value) c.in_ok-names.ensures.names
    c.in_ok-names.ensures.sound c.in_ok-plain.ensures.hall is) c.new-3.ensures
