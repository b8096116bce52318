use Rattle.std.proofs.Common.{◌+◌, ◌-◌, sym, ◌∙◌, arith}
use Rattle.hp_elem.specs.Items.{begins_at}
use Rattle.hp_heap.proofs.FindingLemmas.{key_known, data_none, data_fits, data_here, data_other}
use Rattle.hp_heap.proofs.finding.padded_at.Goals as goal

pub returns-in_default : goal.returns-in_default
returns-in_default c =
    data_none c.args.headers.now c.args.addr c.requires.of_heap c.args.pad (omega (arith, c.if-addr-pad.false)) (sym c.starting_at.ensures ∙ c.in_default.is)

pub get-requires : goal.get-requires
get-requires c = record { known = key_known (begins_at (c.args.addr - (128 + c.args.pad))) c.args.headers.now.items c.in-Some.key (sym c.starting_at.ensures ∙ c.in-Some.is) }

pub has_data_at-requires : goal.has_data_at-requires
has_data_at-requires c = data_fits c.args.headers.now c.in-Some.key c.get.result.now c.requires.of_heap c.get.ensures.stands

pub returns-then-has_data_at : goal.returns-then-has_data_at
returns-then-has_data_at c =
    data_here c.args.headers.now c.args.addr c.requires.of_heap c.args.pad c.in-Some.key c.get.result.now (omega (arith, c.if-addr-pad.false))
    (sym c.starting_at.ensures ∙ c.in-Some.is) c.get.ensures.stands (sym c.has_data_at.ensures ∙ c.if-has_data_at.true)

pub returns-else-has_data_at : goal.returns-else-has_data_at
returns-else-has_data_at c =
    data_other c.args.headers.now c.args.addr c.requires.of_heap c.args.pad c.in-Some.key c.get.result.now (omega (arith, c.if-addr-pad.false))
    (sym c.starting_at.ensures ∙ c.in-Some.is) c.get.ensures.stands (sym c.has_data_at.ensures ∙ c.if-has_data_at.false)
