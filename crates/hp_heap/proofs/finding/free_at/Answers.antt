use Rattle.std.proofs.Common.{sym, ◌∙◌}
use Rattle.hp_elem.specs.Items.{contains}
use Rattle.hp_heap.proofs.FindingLemmas.{key_known}
use Rattle.hp_heap.proofs.FreeFacts.HeadLemmas.{free_none, free_here, busy_here}
use Rattle.hp_heap.proofs.finding.free_at.Goals as goal

pub returns-in_default : goal.returns-in_default
returns-in_default c = free_none c.args.addr c.args.headers.now.items (sym c.element_at.ensures ∙ c.in_default.is)

pub get-requires : goal.get-requires
get-requires c = record { known = key_known (contains c.args.addr) c.args.headers.now.items c.in-Some.key (sym c.element_at.ensures ∙ c.in-Some.is) }

pub returns-then-is_free : goal.returns-then-is_free
returns-then-is_free c =
    free_here c.args.addr c.args.headers.now.items c.in-Some.key c.get.result.now c.requires.apart (sym c.element_at.ensures ∙ c.in-Some.is) c.get.ensures.stands (sym c.is_free.ensures ∙ c.if-is_free.true)

pub returns-else-is_free : goal.returns-else-is_free
returns-else-is_free c =
    busy_here c.args.addr c.args.headers.now.items c.in-Some.key c.get.result.now c.requires.apart (sym c.element_at.ensures ∙ c.in-Some.is) c.get.ensures.stands (sym c.is_free.ensures ∙ c.if-is_free.false)
