use Rattle.std.proofs.Common.{sym, ◌∙◌}
use Rattle.hp_ring.proofs.GatherLemmas.{took_of_first, took_of_none, took_of_second}
use Rattle.hp_ring.proofs.taking.gather.Goals as goal

pub returns-then-who-eq0-clause-taken : goal.returns-then-who-eq0-clause-taken
returns-then-who-eq0-clause-taken c =
    took_of_first c.args.bulk.now c.args.taken.now c.requires c.add.new.gathered c.words.result.now (sym c.sender-who.ensures ∙ c.if-who-eq0.true)
    c.words.ensures.words c.add.ensures

pub returns-then-who-eq1-clause-taken : goal.returns-then-who-eq1-clause-taken
returns-then-who-eq1-clause-taken c =
    took_of_second c.args.bulk.now c.args.taken.now c.requires c.add-then-who-eq1.new.gathered c.words-then-who-eq1.result.now
    (sym c.sender-who.ensures ∙ c.if-who-eq1.true) c.words-then-who-eq1.ensures.words c.add-then-who-eq1.ensures

pub returns-else-who-eq1-clause-taken : goal.returns-else-who-eq1-clause-taken
returns-else-who-eq1-clause-taken c =
    took_of_none c.args.bulk.now c.args.taken.now c.requires
    (λ same. c.if-who-eq0.false (c.sender-who.ensures ∙ same)) (λ same. c.if-who-eq1.false (c.sender-who.ensures ∙ same))
