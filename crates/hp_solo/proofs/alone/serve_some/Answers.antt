-- One that is there was visited as what served in its box was, by its own validators.
use Rattle.std.proofs.Common.{◌≡◌, ◌∙◌, Bool, Option, Some, ap, sym, subst}
use Rattle.std.specs.Prelude.{IfOk}
use Rattle.hp_serve.specs.Denials.{denials_by}
use Rattle.hp_serve.specs.Party.{Party}
use Rattle.hp_solo.specs.Sequence.{IsVisitedAs}
use Rattle.hp_solo.specs.Solo.{limits_of, party_of}
use Rattle.hp_solo.proofs.alone.serve_some.Goals as goal

pub returns-in-Some-clause-visited : goal.returns-in-Some-clause-visited
returns-in-Some-clause-visited g c =
    let old = c.args.hall.now in
    let new = c.serve_out.new.hall in
    let after = c.serve_out.new.participant in
    let lent = c.as_mut-judged.result.now in
    let there : party_of c.args.participant.now ≡ Some lent.server =
    ap party_of c.in-Some.is ∙ ap (λ judged. Some judged.server) (sym c.as_mut-judged.ensures.value) in
    let limits : limits_of c.args.participant.now ≡ lent.limits =
    ap limits_of c.in-Some.is ∙ ap (λ judged. judged.limits) (sym c.as_mut-judged.ensures.value) in
    subst (λ validators. IfOk c.serve_out.result (λ (moved : Bool). IsVisitedAs (denials_by validators) old new (party_of c.args.participant.now) (Some after)))
    (sym limits)
    (subst (λ (was : Option Party). IfOk c.serve_out.result (λ (moved : Bool). IsVisitedAs (denials_by lent.limits) old new was (Some after))) (sym there)
    c.serve_out.ensures.visited)
