use Rattle.std.proofs.Common.{◌≡◌, ◌<◌, true, false, sym, ◌∙◌, arith, rules}
use Rattle.hp_script.specs.Noted.{is_of}
use Rattle.hp_script.proofs.NotedLemmas.{step_on, step_to}
use Rattle.hp_script.proofs.first_lines.find_from.Goals as goal

pub loop-step-preserved : goal.loop-step-preserved
loop-step-preserved c =
    let is : is_of c.args.name.now c.in-Some.entry.now ≡ false = search (rules, c.if-is.ensures, c.is.ensures) in
    sym (step_on c.args.noted.now c.loop-step._step c.loop-step.last c.args.name.now c.in-Some.entry.now
    (omega (arith, c.loop-step.auto._step-end)) (omega (arith, c.if-last-eq0.false)) c.in-Some.ensures.lookup.0 c.in-Some.ensures.lookup.1 is)
    ∙ c.loop-step.invariant

pub returns-then-is : goal.returns-then-is
returns-then-is c =
    let is : is_of c.args.name.now c.in-Some.entry.now ≡ true = search (rules, c.if-is.ensures, c.is.ensures) in
    sym (step_to c.args.noted.now c.loop-step._step c.loop-step.last c.args.name.now c.in-Some.entry.now
    (omega (arith, c.loop-step.auto._step-end)) (omega (arith, c.if-last-eq0.false)) c.in-Some.ensures.lookup.0 c.in-Some.ensures.lookup.1 is)
    ∙ c.loop-step.invariant
