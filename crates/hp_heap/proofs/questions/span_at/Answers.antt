use Rattle.std.proofs.Common.{sym, ◌∙◌}
use Rattle.hp_elem.specs.Items.{contains}
use Rattle.hp_heap.specs.Tiling.{in_range}
use Rattle.hp_heap.proofs.FindingLemmas.{key_known}
use Rattle.hp_heap.proofs.QuestionLemmas.{value_none, value_some}
use Rattle.hp_heap.proofs.questions.span_at.Goals as goal

pub returns-in_default : goal.returns-in_default
returns-in_default c = sym (value_none (in_range c.args.addr) c.args.headers.now.items (sym c.at.ensures ∙ c.in_default.is))

pub get-requires : goal.get-requires
get-requires c = record { known = key_known (contains c.args.addr) c.args.headers.now.items c.in-Some.key (sym c.at.ensures ∙ c.in-Some.is) }

pub returns : goal.returns
returns c = sym (value_some (in_range c.args.addr) c.args.headers.now.items c.in-Some.key c.get.result.now (sym c.at.ensures ∙ c.in-Some.is) c.requires.apart c.get.ensures.stands)
