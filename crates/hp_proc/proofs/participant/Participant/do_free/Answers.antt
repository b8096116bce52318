-- What a free does is what its facts say.
use Rattle.std.proofs.Common.{◌≡◌, ◌∙◌, ℕ, Bool, true, None, refl, ap, sym, subst}
use Rattle.std.proofs.lemmas.Result.{on_err_weaker}
use Rattle.hp_script.specs.declared.line.Act.{Act}
use Rattle.hp_script.specs.declared.line.Act.TheVariants as act
use Rattle.hp_script.specs.declared.line.Line.{Line}
use Rattle.hp_script.specs.Part.{Part}
use Rattle.hp_proc.specs.LineTrees.{doing_of, on_made}
use Rattle.hp_proc.specs.Courses.{HasLineRequest}
use Rattle.hp_proc.specs.Doing.{Doing}
use Rattle.hp_proc.specs.Freeing.{acting, act_for, freeing, looking}
use Rattle.hp_proc.specs.Lines.{Facts, if_attached}
use Rattle.hp_proc.specs.Progress.{DoesApart, DoesLine}
use Rattle.hp_serve.proofs.AskingFacts.AskedAlong.{if_ok}
use Rattle.hp_proc.proofs.LineFacts.{facts_for, facts_known, line_done}
use Rattle.hp_proc.proofs.Halted.{line_halted}
use Rattle.hp_proc.specs.LineInHall.{did_in, moment}
use Rattle.hp_proc.proofs.participant.Participant.do_free.Goals as goal

-- the tree of a free, where its participant is attached
frees : (line : Line) (who : ℕ) (label : Part) (facts : Facts) → line.participant ≡ who → line.act ≡ act.Free label → facts.attached ≡ true
    → on_made who facts (λ tag. looking tag (acting (act_for tag.zone None))) facts.maker ≡ doing_of line line.act facts
unfolding doing_of
frees line who label facts own deed attached =
    ap (λ (who : ℕ). on_made who facts (λ tag. looking tag freeing) facts.maker) (sym own)
    ∙ ap (λ (attached : Bool). if_attached attached (on_made line.participant facts (λ tag. looking tag freeing) facts.maker)) (sym attached)
    ∙ ap (λ (deed : Act). doing_of line deed facts) (sym deed)

pub returns-clause-does : goal.returns-clause-does
returns-clause-does g c =
    let doer = c.args.self.now in
    let me = doer.party.me in
    let old = g.H.Hall.state c.args.hall.now in
    let new = g.H.Hall.state c.act_on.new.hall in
    let after = c.act_on.new.self in
    let line = c.args.line.now in
    let before = moment me doer old in
    let behind = moment me after new in
    let facts = facts_for doer.party.socket doer.context line.act None in
    let known = facts_known doer.party.socket doer.context line None
    (subst (λ (deed : Act). HasLineRequest deed None) (sym c.requires.act) tt) in
    if_ok _ (λ given. DoesLine old.count (did_in me old new) line given before behind) c.act_on.result
    (λ given does. line_done old.count (did_in me old new) line given before behind facts (act.Free c.args.label.now) known
    (subst (λ (doing : Doing). DoesApart old.count (did_in me old new) doing (Doing.Ended given) before behind)
    (frees line me c.args.label.now facts c.requires.own c.requires.act c.requires.attached) (does facts known))
    refl c.act_on.ensures.ready.context c.requires.act tt tt tt) c.act_on.ensures.does

pub returns-clause-ready : goal.returns-clause-ready
returns-clause-ready g c = c.act_on.ensures.ready.again

pub returns-clause-halts : goal.returns-clause-halts
returns-clause-halts g c =
    let doer = c.args.self.now in
    let me = doer.party.me in
    let old = g.H.Hall.state c.args.hall.now in
    let new = g.H.Hall.state c.act_on.new.hall in
    let after = c.act_on.new.self in
    let line = c.args.line.now in
    let before = moment me doer old in
    let behind = moment me after new in
    let facts = facts_for doer.party.socket doer.context line.act None in
    let known = facts_known doer.party.socket doer.context line None
    (subst (λ (deed : Act). HasLineRequest deed None) (sym c.requires.act) tt) in
    on_err_weaker c.act_on.result
    (λ halts.
    line_halted old.count (did_in me old new) line before behind facts known _
    (frees line me c.args.label.now facts c.requires.own c.requires.act c.requires.attached) refl (halts facts known))
    c.act_on.ensures.halts
