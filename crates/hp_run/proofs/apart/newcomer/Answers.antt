-- It is over its mapper, and knows what the workload says.
use Rattle.std.proofs.Common.{◌≡◌, ◌∙◌, Bool, ap, sym, subst}
use Rattle.hp_proc.specs.Contexts.{Said, opening_context}
use Rattle.hp_serve.specs.Party.{Party}
use Rattle.thm_run.specs.EndLaws.{said_in}
use Rattle.hp_run.specs.Apart.{IsPlannedNewcomer}
use Rattle.hp_run.specs.Opening.{IsPlannedParty}
use Rattle.hp_run.proofs.Knowing.{opened_context}
use Rattle.hp_run.proofs.Newcomers.{newcomer_is}
use Rattle.hp_run.proofs.apart.newcomer.Goals as goal

pub returns : goal.returns
returns g c =
    let workload = c.args.workload.now in
    let who = c.args.who in
    let tell = g.M.Mapper.may_fail c.args.kit.mapper in
    let judged = c.in_ok-judged.judged.value in
    let made : judged ≡ record { server = c.in_ok-server.server; limits = c.new-limits.result } = c.in_ok-judged.ensures.ok in
    subst (IsPlannedNewcomer workload who tell) (sym c.new-2.ensures)
    (newcomer_is workload who tell judged.server judged.limits c.new-context.result
    (subst (λ (party : Party). IsPlannedParty workload who tell party) (sym (ap (λ (it : _). it.server) made)) c.in_ok-server.ensures)
    (ap (λ (it : _). it.limits) made ∙ c.new-limits.ensures)
    (c.new-context.ensures
    ∙ ap (λ (said : Said). opening_context said c.is_present.result) c.requires.facts
    ∙ ap (λ (attached : Bool). opening_context (said_in workload) attached) c.is_present.ensures
    ∙ opened_context workload who c.requires.declared))
