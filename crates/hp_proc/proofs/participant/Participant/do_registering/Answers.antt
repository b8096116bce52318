-- What registers is what the line says.
use Rattle.std.proofs.Common.{◌≡◌, ◌∙◌, ap, sym, subst}
use Rattle.std.specs.Prelude.{IfOk}
use Rattle.hp_script.specs.declared.line.Act.{Act}
use Rattle.hp_proc.specs.ParticipantView.{after_registering}
use Rattle.hp_proc.specs.Registering.{registering}
use Rattle.hp_proc.proofs.participant.Participant.do_registering.Goals as goal

pub returns-in-Watch-clause-given : goal.returns-in-Watch-clause-given
returns-in-Watch-clause-given g c =
    let standing = c.args.self.now.context.standing in
    subst (λ (deed : Act). IfOk c.do_watch.result (λ given. given ≡ registering standing.watchers standing.validators deed)) (sym c.in-Watch.is)
    c.do_watch.ensures.given

pub returns-in-Watch-clause-left : goal.returns-in-Watch-clause-left
returns-in-Watch-clause-left g c =
    subst (λ (deed : Act). IfOk c.do_watch.result (λ given. c.do_watch.new.self ≡ after_registering deed given c.args.self.now)) (sym c.in-Watch.is)
    c.do_watch.ensures.left

pub returns-in-Unwatch-clause-given : goal.returns-in-Unwatch-clause-given
returns-in-Unwatch-clause-given g c =
    let standing = c.args.self.now.context.standing in
    c.do_unwatch.ensures.given ∙ ap (registering standing.watchers standing.validators) (sym c.in-Unwatch.is)

pub returns-in-Unwatch-clause-left : goal.returns-in-Unwatch-clause-left
returns-in-Unwatch-clause-left g c =
    c.do_unwatch.ensures.left ∙ ap (λ (deed : Act). after_registering deed c.do_unwatch.result c.args.self.now) (sym c.in-Unwatch.is)

pub returns-in-Limit-clause-given : goal.returns-in-Limit-clause-given
returns-in-Limit-clause-given g c =
    let standing = c.args.self.now.context.standing in
    subst (λ (deed : Act). IfOk c.do_limit.result (λ given. given ≡ registering standing.watchers standing.validators deed)) (sym c.in-Limit.is)
    c.do_limit.ensures.given

pub returns-in-Limit-clause-left : goal.returns-in-Limit-clause-left
returns-in-Limit-clause-left g c =
    subst (λ (deed : Act). IfOk c.do_limit.result (λ given. c.do_limit.new.self ≡ after_registering deed given c.args.self.now)) (sym c.in-Limit.is)
    c.do_limit.ensures.left

pub returns-in-Unlimit-clause-given : goal.returns-in-Unlimit-clause-given
returns-in-Unlimit-clause-given g c =
    let standing = c.args.self.now.context.standing in
    c.do_unlimit.ensures.given ∙ ap (registering standing.watchers standing.validators) (sym c.in-Unlimit.is)

pub returns-in-Unlimit-clause-left : goal.returns-in-Unlimit-clause-left
returns-in-Unlimit-clause-left g c =
    c.do_unlimit.ensures.left ∙ ap (λ (deed : Act). after_registering deed c.do_unlimit.result c.args.self.now) (sym c.in-Unlimit.is)
