use Rattle.std.proofs.Common.{ap, sym, refl, ◌∙◌, Option, Bor}
use Rattle.std.specs.Option.{option_map}
use Rattle.hp_proc.specs.Contexts.{Context, Said, said_to}
use Rattle.hp_proc.proofs.SocketHeapLemmas.{heaps_along}
use Rattle.hp_proc.proofs.line_context.LineContext.heaps.Goals as goal

pub returns-in-Some : goal.returns-in-Some
returns-in-Some c =
    heaps_along c.in-Some.workload.now.pools c.args.self.now.pools c.heaps.result.now c.heaps.result.now
    (sym (ap (λ (workload : Option (Bor Said)). (said_to (option_map (λ (said : Bor Said). said.now) workload)).pools) c.in-Some.is)
    ∙ ap (λ (context : Context). context.pools) c.self.view_is)
    refl c.heaps.ensures
