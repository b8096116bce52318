-- One participant more is told of the workload.
use Rattle.std.proofs.Common.{◌≡◌, ◌∙◌, ℕ, ◌+◌, ◌<◌, Bool, List, [], ◌∷◌, Option, Some, length, length-append, ap, sym, subst, arith}
use Rattle.std.specs.List.{slice_get}
use Rattle.hp_proc.specs.Contexts.{Context, Said, opening_context}
use Rattle.thm_run.specs.EndLaws.{said_in}
use Rattle.hp_run.specs.Running.{taken_along}
use Rattle.hp_run.proofs.Knowing.{know_push, opened_context}
use Rattle.hp_run.proofs.contexts.Contexts.first.Goals as goal

pub loop-who-init : goal.loop-who-init
loop-who-init c = record {
  many = ap (λ (contexts : List (Option Context)). length contexts) c.in_ok-contexts.ensures.items;
  know = λ who below. absurd (omega (arith, below));
}

pub loop-who-preserved : goal.loop-who-preserved
loop-who-preserved c =
    let workload = c.args.workload.now in
    let was = c.loop-who.invariant in
    let who = c.loop-who.who in
    let contexts = c.loop-who.contexts.items in
    let context = c.new.result in
    let below : who < workload.participants = omega (arith, c.loop-who-test.true, c.loop-who.auto.who-end) in
    let is : context ≡ taken_along workload who [] =
    c.new.ensures
    ∙ ap (λ (said : Said). opening_context said c.is_present-joined.result) c.requires.facts
    ∙ ap (λ (attached : Bool). opening_context (said_in workload) attached) c.is_present-joined.ensures
    ∙ opened_context workload who below in
    record {
      many = omega (
        arith,
        ap (λ (contexts : List (Option Context)). length contexts) c.in_ok-push.ensures.items,
        length-append contexts (Some context ∷ []),
        was.many,
      );
      know = subst (λ (contexts : List (Option Context)). (other : ℕ) → other < who + 1
          → slice_get contexts other ≡ Some (Some (taken_along workload other []))) (sym c.in_ok-push.ensures.items)
          (know_push workload contexts who context was.many is was.know);
    }

pub returns : goal.returns
returns c = λ who below. c.loop-who.invariant.know who (omega (arith, below, c.loop-who-test.false, c.loop-who.auto.who-end))
