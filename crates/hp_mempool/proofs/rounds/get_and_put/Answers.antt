use Rattle.std.proofs.Common.{sym, ap, subst, ◌∙◌}
use Rattle.hp_mempool.specs.PassView.{IsOf, PassView}
use Rattle.hp_mempool.proofs.PassLaws.{gets_same, puts_same}
use Rattle.hp_mempool.proofs.RoundLemmas.{all_cached, one_out}
use Rattle.hp_mempool.proofs.rounds.get_and_put.Goals as goal

pub put-requires-clause-pool : goal.put-requires-clause-pool
put-requires-clause-pool g c =
    subst (λ (p : PassView). IsOf p c.args.pool.now) (sym (gets_same c.args.pass.now c.get.new.pass c.in-Some.obj.number c.in-Some.ensures.got))
    (record { pool_is = c.requires.pool.pool_is; total_is = c.requires.pool.total_is })

pub returns-in-Some-clause-cached : goal.returns-in-Some-clause-cached
returns-in-Some-clause-cached g c =
    all_cached c.get.new.pass c.put.new.pass c.in-Some.obj.number
    (one_out c.args.pass.now c.get.new.pass c.in-Some.obj.number c.requires.cached c.in-Some.ensures.got) c.put.ensures

pub returns-in-Some-clause-same : goal.returns-in-Some-clause-same
returns-in-Some-clause-same g c =
    let new : PassView = c.put.new.pass in
    puts_same c.get.new.pass new c.in-Some.obj.number c.put.ensures
    ∙ ap (λ (p : PassView). record p { cached = new.cached; has = new.has }) (gets_same c.args.pass.now c.get.new.pass c.in-Some.obj.number c.in-Some.ensures.got)
