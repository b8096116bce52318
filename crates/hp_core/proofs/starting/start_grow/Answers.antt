-- The move is the drops and what comes after them.
use Rattle.std.proofs.Common.{◌≡◌, ◌∙◌, Bool, true, None, sym, subst}
use Rattle.std.specs.Prelude.{if◌then◌else◌}
use Rattle.hp_segs.specs.Steps.{after_drop}
use Rattle.hp_core.specs.Asks.{is_armed}
use Rattle.hp_core.specs.Core.{idle}
use Rattle.hp_core.specs.Judging.{IsDoneBy, grow_judged}
use Rattle.hp_core.specs.Starting.{grown}
use Rattle.hp_core.specs.declared.asked.Asked.TheVariants.{Grow}
use Rattle.hp_core.specs.declared.out.Out.TheVariants.{Nothing}
use Rattle.hp_core.specs.Moves.{IsGrowStart, grows}
use Rattle.hp_core.proofs.StepLemmas.{may_drop}
use Rattle.hp_core.proofs.starting.start_grow.Goals as goal

pub returns-clause-done : goal.returns-clause-done
returns-clause-done g c =
    let denies = g.J.Judge.denies c.args.judge.now in
    let ask = c.args.ask.now in
    let segs = c.args.segs.now in
    let armed : is_armed ask segs ≡ true = sym c.is_armed.ensures ∙ c.if-not-is_armed.false in
    subst
    (λ (armed : Bool).
    IsDoneBy denies (if armed then grow_judged ask (after_drop segs) else None) c.grow.new.segs c.grow.result
    (λ denial. if armed then grown denial ask (after_drop segs) else idle segs Nothing))
    (sym armed)
    (subst (λ behind. IsDoneBy denies (grow_judged ask behind) c.grow.new.segs c.grow.result (λ denial. grown denial ask behind))
    c.drop_retiring.ensures.step c.grow.ensures.done)

pub returns-clause-moves : goal.returns-clause-moves
returns-clause-moves g c =
    grows (may_drop (Grow c.args.ask.now) c.args.segs.now c.requires.may)
    (subst (λ behind. IsGrowStart behind c.grow.new.segs) c.drop_retiring.ensures.step c.grow.ensures.moves)
