-- A line is done that has the names in hand while it does more.
use Rattle.std.proofs.Common.{◌≡◌, ◌∙◌, ℕ, List, [], ◌∷◌, ◌++◌, None, refl, ap, sym, subst}
use Rattle.hp_hall.specs.HallCalls.{HasGiven}
use Rattle.hp_hall.specs.HallState.{HallState, OthersStay, SlotsStayBut}
use Rattle.hp_hall.specs.Mail.{Gives, MailStep, Takes}
use Rattle.hp_hall.specs.declared.kept.Kept.TheVariants.{Names}
use Rattle.hp_hall.specs.declared.slot.TheConstants.{NAMES_SLOT}
use Rattle.hp_script.specs.declared.answer.Answer.{Answer}
use Rattle.hp_script.specs.declared.line.Act.{Act}
use Rattle.hp_script.specs.declared.line.Line.{Line}
use Rattle.hp_zone.specs.declared.names.Names.{Names as NamesView}
use Rattle.hp_proc.specs.Awaiting.{HasAwaited}
use Rattle.hp_proc.specs.Contexts.{AreFactsOf}
use Rattle.hp_proc.specs.Doing.{Doing}
use Rattle.hp_proc.specs.Handing.{shared_of}
use Rattle.hp_proc.specs.LineInHall.{DoesLineHere, DoesOnceHere, HaltsLineHere, HoldsNames, did_in, moment}
use Rattle.hp_proc.specs.LineTrees.{doing_of}
use Rattle.hp_proc.specs.Lines.{Facts, reading_names}
use Rattle.hp_proc.specs.LockOrder.{HoldsNamesAsMay}
use Rattle.hp_proc.specs.NamesInHand.{DoesNamed, DoesNamedOnce, HaltsNamedOnce}
use Rattle.hp_proc.specs.NamesOfLines.{NamesOfLine, steps_of_names}
use Rattle.hp_proc.specs.ParticipantView.{ParticipantView, with_calls}
use Rattle.hp_proc.specs.Progress.{HoldsNone}
use Rattle.hp_proc.specs.SharedNames.{SharedNames}
use Rattle.hp_proc.proofs.Halted.{line_halted}
use Rattle.hp_proc.proofs.HandFacts.Holds.{knew_after}
use Rattle.hp_proc.proofs.LineFacts.{AwaitsNone, BringsNone, awaits_none, line_whole}
use Rattle.hp_proc.proofs.NamesAround.{around_steps, around_trace, does_around, halts_around}
use Rattle.hp_proc.proofs.TreeDeeds.{acts_unnamed, steps_on}

-- a line may have the names in hand beside heaps, may hold heaps, brings no element, and awaits nobody
pub record MayHaveNames (deed : Act) : Type 0 where
  pub hands : (steps : List MailStep) → HoldsNamesAsMay deed steps
  pub holds : (held : List ℕ) → HoldsNone deed held
  pub brings : BringsNone deed
  pub alone : AwaitsNone deed

module _ {doer mid : ParticipantView} {names given : NamesView} {from at between to : HallState}
    (held : HoldsNames doer.party.me doer mid names from at) (gave : HasGiven doer.party.me NAMES_SLOT (Names given) between to)
    (slots : SlotsStayBut NAMES_SLOT between to) (others : OthersStay doer.party.me between to) (line : Line) (facts : Facts)
    (known : AreFactsOf doer.party.socket doer.context line facts) (goes : SharedNames → Doing)
    (tree : reading_names goes ≡ doing_of line line.act facts) where
  abbrev me : ℕ
  me = doer.party.me

  -- it had the names once, and gave back what its changes leave of them
  pub names_around : {new : ParticipantView} {heaps : List ℕ} (rest : Doing)
      → (did : DoesNamed heaps me mid new names given at between (goes (shared_of names)) rest)
      → NamesOfLine (does_around held gave slots others goes rest did).trace (does_around held gave slots others goes rest did).steps
  names_around {new} {heaps} rest did =
      let does = did.does in
      let none : steps_of_names held.waited ≡ [] = acts_unnamed from.count None None [] doer mid [] held.waited held.acts refl in
      let unnamed : steps_of_names does.steps ≡ [] = acts_unnamed at.count None None heaps mid new does.trace does.steps does.acts did.names.unread in
      let last : List MailStep = Gives NAMES_SLOT (Names given) ∷ [] in
      NamesOfLine.once names given does.trace
      (ap steps_of_names (around_steps held gave slots others goes rest did)
      ∙ (steps_on held.waited (Takes NAMES_SLOT (Names names) ∷ (does.steps ++ last))
      ∙ (ap (λ (waited : List MailStep). waited ++ steps_of_names (Takes NAMES_SLOT (Names names) ∷ (does.steps ++ last))) none
      ∙ (ap (λ (steps : List MailStep). Takes NAMES_SLOT (Names names) ∷ steps) (steps_on does.steps last)
      ∙ ap (λ (steps : List MailStep). Takes NAMES_SLOT (Names names) ∷ (steps ++ last)) unnamed)))) (around_trace held gave slots others goes rest did)
      did.names.unread did.names.changed

  -- what was done of it, and what that had of the names
  abbrev IsDone : ParticipantView → Answer → Doing → Type 0
  IsDone new told doing =
      (done : DoesOnceHere me doer new from to doing (Doing.Ended told)) × NamesOfLine done.does.trace done.does.steps

  pub line_named : {new : ParticipantView} (deed : Act) (told : Answer) → line.act ≡ deed → MayHaveNames deed
      → DoesNamedOnce me mid new names given at between (goes (shared_of names)) (Doing.Ended told)
      → new.context ≡ with_calls new.context.calls mid.context → DoesLineHere me doer new from to line told
  line_named {new} deed told its may did knew =
      let here : DoesNamed did.does.held me mid new names given at between (goes (shared_of names)) (Doing.Ended told) =
      record { does = did.does.does; names = did.names } in
      let first : IsDone new told (reading_names goes) = (
        record { held = did.does.held; once = did.does.once; does = does_around held gave slots others goes (Doing.Ended told) here },
        names_around (Doing.Ended told) here,
      ) in
      let whole : IsDone new told (doing_of line line.act facts) = subst (IsDone new told) tree first in
      let steps = whole.0.does.steps in
      line_whole from.count (did_in me from to) line told (moment me doer from) (moment me new to) facts deed known whole.0 whole.1
      (subst (λ (deed : Act). HoldsNamesAsMay deed steps) (sym its) (may.hands steps))
      (subst (λ (deed : Act). HasAwaited deed steps) (sym its) (awaits_none deed steps may.alone)) refl
      (knew_after doer.context mid.context new.context held.context knew) its may.brings (may.holds whole.0.held)

  -- or it stopped
  pub line_stopped : {new : ParticipantView} → HaltsNamedOnce me mid new names given at between (goes (shared_of names))
      → HaltsLineHere me doer new from to line
  line_stopped {new} did =
      line_halted from.count (did_in me from to) line (moment me doer from) (moment me new to) facts known (reading_names goes) tree refl
      (did.heaps, did.once, halts_around held gave slots others goes did.halts)
