use Rattle.std.proofs.Common.{sym, ap, ◌∙◌}
use Rattle.std.specs.Option.{option_map}
use Rattle.hp_elem.specs.Items.{is_tagged}
use Rattle.hp_heap.specs.PlainHeap.{data_address}
use Rattle.hp_heap.proofs.FindingLemmas.{key_known, data_fits}
use Rattle.hp_heap.proofs.QuestionLemmas.{tagged_none, tagged_some}
use Rattle.hp_heap.proofs.questions.tagged.Goals as goal

pub returns-in_default : goal.returns-in_default
returns-in_default c = sym (ap (λ o. option_map data_address o) (tagged_none c.args.headers.now.items c.args.tag.zone c.args.tag.number (sym c.find_tag.ensures ∙ c.in_default.is)))

pub get-requires : goal.get-requires
get-requires c = record { known = key_known (is_tagged c.args.tag.zone c.args.tag.number) c.args.headers.now.items c.in-Some.key (sym c.find_tag.ensures ∙ c.in-Some.is) }

pub data_address-requires : goal.data_address-requires
data_address-requires c = data_fits c.args.headers.now c.in-Some.key c.get.result.now c.requires c.get.ensures.stands

pub returns : goal.returns
returns c =
    ap (λ n. Rattle.std.proofs.Common.Some n) c.data_address.ensures
    ∙ sym (ap (λ o. option_map data_address o)
    (tagged_some c.args.headers.now.items c.args.tag.zone c.args.tag.number c.in-Some.key c.get.result.now (sym c.find_tag.ensures ∙ c.in-Some.is) c.requires.apart c.get.ensures.stands))
