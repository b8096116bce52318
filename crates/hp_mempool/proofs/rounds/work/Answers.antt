use Rattle.std.proofs.Common.{[], sym, ap, ◌∙◌}
use Rattle.hp_mempool.specs.PassView.{PassView}
use Rattle.hp_mempool.proofs.RoundLemmas.{flushed}
use Rattle.hp_mempool.proofs.rounds.work.Goals as goal

pub returns : goal.returns
returns g c =
    let old : PassView = c.args.pass in
    c.flush.ensures
    ∙ (flushed c.loop-round.pass c.loop-round.invariant.cached
    ∙ (ap (λ (p : PassView). record p { cached = []; has = [] }) c.loop-round.invariant.same
    ∙ (λ i. record old { cached = sym c.requires.cached i; has = sym c.requires.has i })))
