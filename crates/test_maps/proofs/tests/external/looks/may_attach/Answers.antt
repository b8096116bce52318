-- It has the chunk attached, or there is room for it.
use Rattle.std.proofs.Common.{◌≡◌, ◌≤◌, ◌+◌, ◌^◌, false, length, ap, sym, ◌∙◌, arith, rules}
use Rattle.std.specs.List.{list_any}
use Rattle.std.proofs.lemmas.Bool.{not-true}
use Rattle.hp_maps.specs.MapsView.{calls_of}
use Rattle.test_maps.specs.World.{is_in, is_unmarked_at}
use Rattle.test_maps.proofs.RoomLemmas.{may_attach_clear, may_attach_marked}
use Rattle.test_maps.proofs.tests.external.looks.may_attach.Goals as goal

pub returns-then-not-has_unmarked : goal.returns-then-not-has_unmarked
returns-then-not-has_unmarked c is =
    let off : c.has_unmarked.result ≡ false = search rules in
    may_attach_marked c.args.participant c.args.addr c.args.len c.args.heap.now.plain c.args.maps.now
    (ap (λ cs. list_any (is_unmarked_at c.args.participant c.args.addr c.args.len) cs) (sym c.chunks.ensures.chunks)
    ∙ (sym c.has_unmarked.ensures ∙ off))

pub returns : goal.returns
returns c is =
    let calls : calls_of c.args.maps.now ≤ 2 ^ 63 = grind arith in
    let few : length c.rows-rows.result.now ≤ 1024 = grind arith in
    let small : c.args.len ≤ 4194304 = grind arith in
    let off : c.has_row_in.result ≡ false = not-true c.has_row_in.result is in
    may_attach_clear c.args.participant c.args.addr c.args.len c.args.heap.now.plain c.args.maps.now c.sound.ensures.tiled c.requires.room calls
    (rw c.rows-rows.ensures.rows at few) small
    (ap (λ rs. list_any (is_in c.args.addr (c.args.addr + c.args.len)) rs) (sym c.rows-rows.ensures.rows) ∙ (sym c.has_row_in.ensures ∙ off))
