-- What a resize does is what its facts say: its size is judged first.
use Rattle.std.proofs.Common.{◌≡◌, ◌∙◌, ℕ, ◌%◌, ◌^◌, ◌<◌, ◌≤◌, Bool, true, false, cond, Option, None, Some, refl, ap, sym, subst, arith, ⊎_elim}
use Rattle.std.specs.Prelude.{nat_lt}
use Rattle.std.proofs.lemmas.Bool.Decides.{eqb_tells, nat_tests}
use Rattle.std.proofs.lemmas.Result.{on_err_weaker}
use Rattle.hp_base.proofs.Rounding.{ceil_aligned}
use Rattle.hp_base.specs.Requests.{rounded_size}
use Rattle.hp_base.specs.declared.request.BadRequest.{BadRequest}
use Rattle.hp_base.specs.declared.request.BadRequest.TheVariants as bad
use Rattle.hp_script.specs.declared.answer.Answer.TheVariants as answer
use Rattle.hp_script.specs.declared.line.Act.{Act}
use Rattle.hp_script.specs.declared.line.Act.TheVariants as act
use Rattle.hp_script.specs.declared.line.Line.{Line}
use Rattle.hp_script.specs.Part.{Part}
use Rattle.hp_proc.specs.LineTrees.{doing_of, on_made}
use Rattle.hp_proc.specs.Courses.{HasLineRequest}
use Rattle.hp_proc.specs.Doing.{Doing}
use Rattle.hp_proc.specs.Freeing.{acting, act_for, if_sized, looking, resize_refusal, resizing_to}
use Rattle.hp_proc.specs.Lines.{Facts, if_attached}
use Rattle.hp_proc.specs.Progress.{DoesApart, DoesLine}
use Rattle.hp_serve.proofs.AskingFacts.AskedAlong.{if_ok}
use Rattle.hp_proc.proofs.LineFacts.{apart_same, facts_for, facts_known, line_done}
use Rattle.hp_hall.proofs.HallStates.{did_same}
use Rattle.hp_proc.proofs.Halted.{line_halted}
use Rattle.hp_proc.specs.LineInHall.{did_in, moment}
use Rattle.hp_proc.proofs.HandFacts.Holds.{again_line}
use Rattle.hp_proc.proofs.participant.Participant.do_resize.Goals as goal

-- a size that can be had is not refused
not_refused : (size rounded : ℕ) → rounded ≡ rounded_size size → 0 < rounded → rounded ≤ 2 ^ 63 → resize_refusal size ≡ None
not_refused size rounded is some most =
    let few : nat_lt (2 ^ 63) (rounded_size size) ≡ false = grind (arith, nat_tests) in
    ⊎_elim
    (λ zero.
    let nothing : rounded ≡ rounded_size 0 = is ∙ ap rounded_size zero.1 in
    absurd (omega arith))
    (λ other.
    ap (λ (test : Bool). cond test (Some bad.Zero) (cond (nat_lt (2 ^ 63) (rounded_size size)) (Some bad.Overflow) None)) other.0
    ∙ ap (λ (test : Bool). cond test (Some bad.Overflow) None) few)
    (eqb_tells size 0)

module _ (line : Line) (who : ℕ) (label : Part) (size : ℕ) (facts : Facts) (own : line.participant ≡ who)
    (deed : line.act ≡ act.Resize label size) (attached : facts.attached ≡ true) where
  goes : Doing
  goes = on_made line.participant facts (resizing_to size) facts.maker

  tree_is : (refusal : Option BadRequest) → resize_refusal size ≡ refusal → if_sized refusal goes ≡ doing_of line line.act facts
  unfolding doing_of goes
  tree_is refusal is =
      ap (λ (refusal : Option BadRequest). if_sized refusal goes) (sym is)
      ∙ ap (λ (attached : Bool). if_attached attached (if_sized (resize_refusal size) goes)) (sym attached)
      ∙ ap (λ (deed : Act). doing_of line deed facts) (sym deed)

  -- the tree of a resize, where its size is refused
  refuses : (kind : BadRequest) → resize_refusal size ≡ Some kind → Doing.Ended (answer.BadRequest kind) ≡ doing_of line line.act facts
  refuses kind is = tree_is (Some kind) is

  -- and where it is not
  resizes : (rounded : ℕ) → rounded ≡ rounded_size size → resize_refusal size ≡ None
      → on_made who facts (λ tag. looking tag (acting (act_for tag.zone (Some rounded)))) facts.maker ≡ doing_of line line.act facts
  unfolding goes
  resizes rounded rounds is =
      ap (λ (rounded : ℕ). on_made who facts (λ tag. looking tag (acting (act_for tag.zone (Some rounded)))) facts.maker) rounds
      ∙ ap (λ (who : ℕ). on_made who facts (resizing_to size) facts.maker) (sym own) ∙ tree_is None is

pub act_on-requires-clause-size : goal.act_on-requires-clause-size
act_on-requires-clause-size g c =
    let is = c.in-Ok.ensures in
    (subst (λ (size : ℕ). size % 64 ≡ 0) (sym is.0) (ceil_aligned c.args.size 64), is.1, is.2)

pub returns-in-Ok-clause-does : goal.returns-in-Ok-clause-does
returns-in-Ok-clause-does g c =
    let doer = c.args.self.now in
    let me = doer.party.me in
    let old = g.H.Hall.state c.args.hall.now in
    let new = g.H.Hall.state c.act_on.new.hall in
    let after = c.act_on.new.self in
    let line = c.args.line.now in
    let deed = act.Resize c.args.label.now c.args.size in
    let rounded = c.in-Ok.size in
    let is = c.in-Ok.ensures in
    let before = moment me doer old in
    let behind = moment me after new in
    let facts = facts_for doer.party.socket doer.context line.act None in
    let known = facts_known doer.party.socket doer.context line None
    (subst (λ (deed : Act). HasLineRequest deed None) (sym c.requires.act) tt) in
    if_ok _ (λ given. DoesLine old.count (did_in me old new) line given before behind) c.act_on.result
    (λ given does. line_done old.count (did_in me old new) line given before behind facts deed known
    (subst (λ (doing : Doing). DoesApart old.count (did_in me old new) doing (Doing.Ended given) before behind)
    (resizes line me c.args.label.now c.args.size facts c.requires.own c.requires.act c.requires.attached rounded is.0
    (not_refused c.args.size rounded is.0 is.1 is.2)) (does facts known)) refl c.act_on.ensures.ready.context c.requires.act tt tt tt) c.act_on.ensures.does

pub returns-in-Err-clause-does : goal.returns-in-Err-clause-does
returns-in-Err-clause-does g c =
    let doer = c.args.self.now in
    let me = doer.party.me in
    let hall = g.H.Hall.state c.args.hall.now in
    let line = c.args.line.now in
    let deed = act.Resize c.args.label.now c.args.size in
    let given = answer.BadRequest c.in-Err.kind in
    let at = moment me doer hall in
    let facts = facts_for doer.party.socket doer.context line.act None in
    let known = facts_known doer.party.socket doer.context line None
    (subst (λ (deed : Act). HasLineRequest deed None) (sym c.requires.act) tt) in
    line_done hall.count (did_in me hall hall) line given at at facts deed known
    (subst (λ (doing : Doing). DoesApart hall.count (did_in me hall hall) doing (Doing.Ended given) at at)
    (refuses line me c.args.label.now c.args.size facts c.requires.own c.requires.act c.requires.attached c.in-Err.kind c.in-Err.ensures)
    (apart_same hall.count (did_in me hall hall) (Doing.Ended given) at (did_same me hall)))
    refl refl c.requires.act tt tt tt

pub returns-in-Ok-clause-ready : goal.returns-in-Ok-clause-ready
returns-in-Ok-clause-ready g c = c.act_on.ensures.ready.again

pub returns-in-Err-clause-ready : goal.returns-in-Err-clause-ready
returns-in-Err-clause-ready g c = again_line c.args.self.now c.requires.ready

pub returns-in-Ok-clause-halts : goal.returns-in-Ok-clause-halts
returns-in-Ok-clause-halts g c =
    let doer = c.args.self.now in
    let me = doer.party.me in
    let old = g.H.Hall.state c.args.hall.now in
    let new = g.H.Hall.state c.act_on.new.hall in
    let after = c.act_on.new.self in
    let line = c.args.line.now in
    let rounded = c.in-Ok.size in
    let is = c.in-Ok.ensures in
    let before = moment me doer old in
    let behind = moment me after new in
    let facts = facts_for doer.party.socket doer.context line.act None in
    let known = facts_known doer.party.socket doer.context line None
    (subst (λ (deed : Act). HasLineRequest deed None) (sym c.requires.act) tt) in
    on_err_weaker c.act_on.result
    (λ halts.
    line_halted old.count (did_in me old new) line before behind facts known _
    (resizes line me c.args.label.now c.args.size facts c.requires.own c.requires.act c.requires.attached rounded is.0
    (not_refused c.args.size rounded is.0 is.1 is.2)) refl (halts facts known))
    c.act_on.ensures.halts
