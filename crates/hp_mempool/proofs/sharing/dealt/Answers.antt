use Rattle.std.proofs.Common.{sym, subst, refl}
use Rattle.hp_mempool.specs.PassView.{IsOf, PassView}
use Rattle.hp_mempool.proofs.sharing.dealt.Goals as goal

pub split-requires : goal.split-requires
split-requires c = record {
  pool = subst (λ (p : PassView). IsOf p c.args.pool.now) (sym c.loop-worker.invariant.first) (record { pool_is = refl; total_is = refl });
}
