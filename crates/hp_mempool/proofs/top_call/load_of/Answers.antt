use Rattle.std.proofs.Common.{map, string_bytes, refl, ◌∙◌}
use Rattle.std.specs.Prelude.{Some, None}
use Rattle.hp_mempool.proofs.ProgramLemmas.{load_by, wrong_count}
use Rattle.hp_mempool.proofs.top_call.load_of.Goals as goal

pub returns-then-count-ne4-clause-load : goal.returns-then-count-ne4-clause-load
returns-then-count-ne4-clause-load c = wrong_count (map string_bytes c.args.words.now) c.count.result c.count.ensures c.if-count-ne4.true

pub returns-in_err-workers-clause-load : goal.returns-in_err-workers-clause-load
returns-in_err-workers-clause-load c =
    c.from_residual.ensures
    ∙ load_by (map string_bytes c.args.words.now) c.count.result None _ _ _ c.count.ensures c.if-count-ne4.false c.in_err-workers.ensures.number refl refl refl

pub returns-in_err-rounds-clause-load : goal.returns-in_err-rounds-clause-load
returns-in_err-rounds-clause-load c =
    c.from_residual-in_err-rounds.ensures
    ∙ load_by (map string_bytes c.args.words.now) c.count.result (Some c.in_ok-workers.workers) None _ _ c.count.ensures c.if-count-ne4.false
    c.in_ok-workers.ensures.number c.in_err-rounds.ensures.number refl refl

pub returns-in_err-objects-clause-load : goal.returns-in_err-objects-clause-load
returns-in_err-objects-clause-load c =
    c.from_residual-in_err-objects.ensures
    ∙ load_by (map string_bytes c.args.words.now) c.count.result (Some c.in_ok-workers.workers) (Some c.in_ok-rounds.rounds) None _ c.count.ensures c.if-count-ne4.false
    c.in_ok-workers.ensures.number c.in_ok-rounds.ensures.number c.in_err-objects.ensures.number refl

pub returns-in_err-cache-clause-load : goal.returns-in_err-cache-clause-load
returns-in_err-cache-clause-load c =
    c.from_residual-in_err-cache.ensures
    ∙ load_by (map string_bytes c.args.words.now) c.count.result (Some c.in_ok-workers.workers) (Some c.in_ok-rounds.rounds) (Some c.in_ok-objects.objects) None
    c.count.ensures c.if-count-ne4.false c.in_ok-workers.ensures.number c.in_ok-rounds.ensures.number c.in_ok-objects.ensures.number c.in_err-cache.ensures.number

pub returns-clause-load : goal.returns-clause-load
returns-clause-load c =
    load_by (map string_bytes c.args.words.now) c.count.result (Some c.in_ok-workers.workers) (Some c.in_ok-rounds.rounds) (Some c.in_ok-objects.objects)
    (Some c.in_ok-cache.cache) c.count.ensures c.if-count-ne4.false c.in_ok-workers.ensures.number c.in_ok-rounds.ensures.number c.in_ok-objects.ensures.number c.in_ok-cache.ensures.number
