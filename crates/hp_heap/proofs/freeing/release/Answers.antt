use Rattle.std.proofs.Common.{sym, ◌∙◌}
use Rattle.hp_heap.proofs.FreeFacts.FreeingLemmas.{can_insert, refused_ranges, refused_insertions, refused_fault, done_ranges, done_insertions, done_fault}
use Rattle.hp_heap.proofs.freeing.release.Goals as goal

pub returns-in-Some-kept_tag-clause-ranges : goal.returns-in-Some-kept_tag-clause-ranges
returns-in-Some-kept_tag-clause-ranges c =
    refused_ranges c.args.headers.now c.args.addr c.in-Some.key c.args.zone c.get.result.now c.requires.of_heap c.in-Some.ensures c.get.ensures.stands c.in-Some-kept_tag.tag (sym c.kept_tag.ensures ∙ c.in-Some-kept_tag.is)

pub returns-in-Some-kept_tag-clause-insertions : goal.returns-in-Some-kept_tag-clause-insertions
returns-in-Some-kept_tag-clause-insertions c =
    refused_insertions c.args.headers.now c.args.addr c.in-Some.key c.args.zone c.get.result.now c.requires.of_heap c.in-Some.ensures c.get.ensures.stands c.in-Some-kept_tag.tag (sym c.kept_tag.ensures ∙ c.in-Some-kept_tag.is)

pub returns-in-Some-kept_tag-clause-fault : goal.returns-in-Some-kept_tag-clause-fault
returns-in-Some-kept_tag-clause-fault c =
    refused_fault c.args.headers.now c.args.addr c.in-Some.key c.args.zone c.get.result.now c.requires.of_heap c.in-Some.ensures c.get.ensures.stands c.in-Some-kept_tag.tag (sym c.kept_tag.ensures ∙ c.in-Some-kept_tag.is)

pub insert_joined-requires-clause-busy : goal.insert_joined-requires-clause-busy
insert_joined-requires-clause-busy c =
    can_insert c.args.headers.now c.args.addr c.in-Some.key c.args.zone c.get.result.now c.requires.of_heap c.in-Some.ensures c.get.ensures.stands

pub returns-clause-ranges : goal.returns-clause-ranges
returns-clause-ranges c =
    done_ranges c.args.headers.now c.args.addr c.in-Some.key c.args.zone c.get.result.now c.requires.of_heap c.in-Some.ensures c.get.ensures.stands (sym c.kept_tag.ensures ∙ c.in_default-kept_tag.is)
    c.insert_joined.new.headers.items c.insert_joined.ensures.ranges

pub returns-clause-insertions : goal.returns-clause-insertions
returns-clause-insertions c =
    done_insertions c.args.headers.now c.args.addr c.in-Some.key c.args.zone c.get.result.now c.requires.of_heap c.in-Some.ensures c.get.ensures.stands (sym c.kept_tag.ensures ∙ c.in_default-kept_tag.is)
    c.insert_joined.new.headers.insertions c.insert_joined.ensures.insertions

pub returns-clause-fault : goal.returns-clause-fault
returns-clause-fault c =
    done_fault c.args.headers.now c.args.addr c.in-Some.key c.args.zone c.get.result.now c.requires.of_heap c.in-Some.ensures c.get.ensures.stands (sym c.kept_tag.ensures ∙ c.in_default-kept_tag.is)
