use Rattle.std.proofs.Common.{map, sym, subst}
use Rattle.hp_mempool.specs.PassView.{AreOut, PassView}
use Rattle.hp_mempool.proofs.PassLaws.{out_flushed}
use Rattle.test_shared.proofs.tests.mempool.steps.do_step.Goals as goal

pub returns-in-Flush-clause-out : goal.returns-in-Flush-clause-out
returns-in-Flush-clause-out g c =
    let numbers = map (λ obj. obj.number) c.args.out.now.items in
    subst (λ (p : PassView). AreOut p numbers) (sym c.flush.ensures) (out_flushed c.args.pass.now numbers c.requires.out)
