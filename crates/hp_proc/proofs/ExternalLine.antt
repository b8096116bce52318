-- A line on external heaps is done, or stops: it takes the names, does what it does with them, and gives them back.
use Rattle.std.proofs.Common.{◌∙◌, ◌≡◌, List, Option, Result, Ok, Err, IfOk, ap, refl, subst, sym, true, ℕ}
use Rattle.std.specs.Prelude.{OnErr}
use Rattle.hp_base.specs.declared.request.Request.{Request}
use Rattle.hp_hall.specs.HallCalls.{HasGiven}
use Rattle.hp_hall.specs.HallState.{HallState, OthersStay, SlotsStayBut}
use Rattle.hp_hall.specs.Mail.{MailStep}
use Rattle.hp_hall.specs.declared.kept.Kept.TheVariants.{Names}
use Rattle.hp_hall.specs.declared.slot.TheConstants.{NAMES_SLOT}
use Rattle.hp_proc.proofs.ChangedLines.{standing_after}
use Rattle.hp_proc.proofs.ChunksNoted.{CallsLast, calls_last, notes_left}
use Rattle.hp_proc.proofs.LineEnds.{RegistersNone, ends_as_it_was}
use Rattle.hp_proc.proofs.LineFacts.{AwaitsNone, awaits_none, facts_for, facts_known, has_request}
use Rattle.hp_proc.proofs.LinesNamed.{line_stopped, names_around}
use Rattle.hp_proc.proofs.LinesOrdered.{acts_ordered, acts_told}
use Rattle.hp_proc.proofs.NamesAround.{around_trace, does_around, named_ready}
use Rattle.hp_proc.specs.Contexts.{AreFactsOf, Context}
use Rattle.hp_proc.specs.Courses.{after_line, calls_in, last_heap}
use Rattle.hp_proc.specs.Doing.{Doing, Done, Leads}
use Rattle.hp_proc.specs.ExternalAnswers.{IsExternalAct}
use Rattle.hp_proc.specs.Handing.{shared_of}
use Rattle.hp_proc.specs.Heaps.{sockets_of}
use Rattle.hp_proc.specs.LineInHall.{DoesLineHere, DoesOnceHere, HaltsLineHere, HoldsNames, moment}
use Rattle.hp_proc.specs.LineTrees.{doing_named, doing_of}
use Rattle.hp_proc.specs.Lines.{Facts, if_attached, reading_names}
use Rattle.hp_proc.specs.LockOrder.{HoldsNamesAsMay}
use Rattle.hp_proc.specs.MarksInHand.{NotesNamed}
use Rattle.hp_proc.specs.NamesInHand.{DoesNamed, DoesNamedOnce, HaltsNamedOnce, IsIndexMeant}
use Rattle.hp_proc.specs.NamesOfLines.{NamesOfLine}
use Rattle.hp_proc.specs.ParticipantView.{ParticipantView}
use Rattle.hp_proc.specs.Progress.{HoldsNone}
use Rattle.hp_proc.specs.SharedNames.{SharedNames}
use Rattle.hp_script.specs.declared.answer.Answer.TheVariants as answer
use Rattle.hp_script.specs.declared.answer.Answer.{Answer}
use Rattle.hp_script.specs.declared.line.Act.TheVariants as act
use Rattle.hp_script.specs.declared.line.Act.{Act}
use Rattle.hp_script.specs.declared.line.Line.{Line}
use Rattle.hp_serve.specs.Party.{IsSameParty}
use Rattle.hp_zone.specs.declared.names.Names.{Names as NamesView}

-- WHAT HOLDS OF SUCH AN ACT

external_tree : (line : Line) (deed : Act) (facts : Facts) → IsExternalAct deed → facts.attached ≡ true
    → reading_names (doing_named line.participant facts.pools deed) ≡ doing_of line deed facts
unfolding doing_of
external_tree line (act.Heap name) facts external attached =
    sym (ap (λ b. if_attached b (reading_names (doing_named line.participant facts.pools (act.Heap name)))) attached)
external_tree line (act.Unheap name) facts external attached =
    sym (ap (λ b. if_attached b (reading_names (doing_named line.participant facts.pools (act.Unheap name)))) attached)
external_tree line (act.Add heap addr len page) facts external attached =
    sym (ap (λ b. if_attached b (reading_names (doing_named line.participant facts.pools (act.Add heap addr len page)))) attached)
external_tree line (act.Remove heap addr len) facts external attached =
    sym (ap (λ b. if_attached b (reading_names (doing_named line.participant facts.pools (act.Remove heap addr len)))) attached)
external_tree line (act.Map heap addr len) facts external attached =
    sym (ap (λ b. if_attached b (reading_names (doing_named line.participant facts.pools (act.Map heap addr len)))) attached)
external_tree line (act.Unmap heap addr len) facts external attached =
    sym (ap (λ b. if_attached b (reading_names (doing_named line.participant facts.pools (act.Unmap heap addr len)))) attached)
external_tree line _ facts external attached = absurd external

-- it may have the names in hand beside a heap, holds heaps, awaits nobody, and registers nothing
record IsFreeAct (deed : Act) : Type 0 where
  hands : (steps : List MailStep) → HoldsNamesAsMay deed steps
  holds : (held : List ℕ) → HoldsNone deed held
  alone : AwaitsNone deed
  none : RegistersNone deed

free_act : (deed : Act) → IsExternalAct deed → IsFreeAct deed
free_act (act.Heap name) external = record { hands = λ steps. tt; holds = λ held. tt; alone = tt; none = tt }
free_act (act.Unheap name) external = record { hands = λ steps. tt; holds = λ held. tt; alone = tt; none = tt }
free_act (act.Add heap addr len page) external = record { hands = λ steps. tt; holds = λ held. tt; alone = tt; none = tt }
free_act (act.Remove heap addr len) external = record { hands = λ steps. tt; holds = λ held. tt; alone = tt; none = tt }
free_act (act.Map heap addr len) external = record { hands = λ steps. tt; holds = λ held. tt; alone = tt; none = tt }
free_act (act.Unmap heap addr len) external = record { hands = λ steps. tt; holds = λ held. tt; alone = tt; none = tt }
free_act _ external = absurd external

last_as : (deed : Act) (index : ℕ) (one other : List Done) → calls_in one ≡ calls_in other → CallsLast deed index other
    → CallsLast deed index one
last_as (act.Map heap addr len) index one other same last = ap last_heap same ∙ last
last_as (act.Unmap heap addr len) index one other same last = ap last_heap same ∙ last
last_as _ index one other same last = tt

-- whatever became of it, it is the same participant
pub named_same : {E : Type 0} (me : ℕ) (old new : ParticipantView) (names given : NamesView) (from to : HallState) (doing : Doing)
    (result : Result Answer E)
    → IfOk result (λ said. DoesNamedOnce me old new names given from to doing (Doing.Ended said))
    → OnErr result (HaltsNamedOnce me old new names given from to doing) → IsSameParty old.party new.party
named_same me old new names given from to doing (Ok said) does halts = does.does.does.same
named_same me old new names given from to doing (Err stop) does halts = halts.halts.halts.same

-- what two facts of an answer show together
pub both_ok : {T E : Type 0} {P Q R : T → Type 0} (result : Result T E) → ((value : T) → P value → Q value → R value) → IfOk result P
    → IfOk result Q → IfOk result R
both_ok (Ok value) goes one other = goes value one other
both_ok (Err stop) goes one other = tt

module _ {doer mid : ParticipantView} {names given : NamesView} {from at between to : HallState}
    (held : HoldsNames doer.party.me doer mid names from at) (gave : HasGiven doer.party.me NAMES_SLOT (Names given) between to)
    (slots : SlotsStayBut NAMES_SLOT between to) (others : OthersStay doer.party.me between to) (line : Line)
    (external : IsExternalAct line.act) (own : line.participant ≡ doer.party.me) (attached : doer.context.standing.attached ≡ true) where
  abbrev me : ℕ
  me = doer.party.me

  abbrev request : Option Request
  request = (has_request line.act).0

  abbrev facts : Facts
  facts = facts_for doer.party.socket doer.context line.act request

  abbrev goes : SharedNames → Doing
  goes = doing_named line.participant doer.context.pools line.act

  known : AreFactsOf doer.party.socket doer.context line facts
  known = facts_known doer.party.socket doer.context line request (has_request line.act).1

  tree : reading_names goes ≡ doing_of line line.act facts
  tree = external_tree line line.act facts external attached

  -- what it does with the names in hand, as its own call says it
  goes_is : doing_named mid.party.me mid.context.pools line.act (shared_of names) ≡ goes (shared_of names)
  goes_is =
      ap (λ (who : ℕ). doing_named who mid.context.pools line.act (shared_of names)) (held.same.me ∙ sym own)
      ∙ ap (λ (context : Context). doing_named line.participant context.pools line.act (shared_of names)) held.context

  -- what was done of it, what that had of the names, and what it left
  abbrev IsDone : ParticipantView → Answer → Doing → Type 0
  IsDone new told doing = (done : DoesOnceHere me doer new from to doing (Doing.Ended told)) × NamesOfLine done.does.trace done.does.steps
      × (new.context.standing ≡ after_line line told done.does.trace doer.context.standing)

  pub line_external : {new : ParticipantView} (told : Answer)
      → DoesNamedOnce mid.party.me mid new names given at between (doing_named mid.party.me mid.context.pools line.act (shared_of names))
      (Doing.Ended told)
      → NotesNamed line.act names.heaps.plain told mid.context new.context → DoesLineHere me doer new from to line told
  line_external {new} told is notes =
      let did : DoesNamedOnce me mid new names given at between (goes (shared_of names)) (Doing.Ended told) =
      subst (λ (doing : Doing). DoesNamedOnce me mid new names given at between doing (Doing.Ended told)) goes_is
      (subst (λ (who : ℕ). DoesNamedOnce who mid new names given at between
      (doing_named mid.party.me mid.context.pools line.act (shared_of names)) (Doing.Ended told)) held.same.me is) in
      let here : DoesNamed did.does.held me mid new names given at between (goes (shared_of names)) (Doing.Ended told) =
      record { does = did.does.does; names = did.names } in
      let ready = named_ready held in
      let sockets : names.heaps.sockets ≡ sockets_of doer.context.pools =
      ready.sockets ∙ ap (λ (context : Context). sockets_of context.pools) held.context in
      let first : DoesOnceHere me doer new from to (reading_names goes) (Doing.Ended told) =
      record { held = did.does.held; once = did.does.once; does = does_around held gave slots others goes (Doing.Ended told) here } in
      let trace = first.does.trace in
      let last : (index : ℕ) → IsIndexMeant line.act names.heaps.plain index → told ≡ answer.Done → CallsLast line.act index trace =
      λ index means done.
      last_as line.act index trace did.does.does.trace (ap calls_in (around_trace held gave slots others goes (Doing.Ended told) here))
      (calls_last line.participant doer.context.pools names ready.sound.1 sockets line.act index did.does.does.trace means
      (subst (λ (said : Answer). Leads (goes (shared_of names)) did.does.does.trace (Doing.Ended said)) done
      did.does.does.leads)) in
      let knew : NotesNamed line.act names.heaps.plain told doer.context new.context =
      subst (λ (context : Context). NotesNamed line.act names.heaps.plain told context new.context) held.context notes in
      let left : new.context.standing ≡ after_line line told trace doer.context.standing =
      standing_after line line.act told trace doer.context.standing new.context.standing refl
      (notes_left line told trace doer.context new.context line.act names.heaps.plain external knew last) in
      let so : IsDone new told (reading_names goes) =
      (first, names_around held gave slots others line facts known goes tree (Doing.Ended told) here, left) in
      let whole : IsDone new told (doing_of line line.act facts) = subst (IsDone new told) tree so in
      let does = whole.0.does in
      let free = free_act line.act external in
      record {
        facts = facts;
        known = known;
        held = whole.0.held;
        once = whole.0.once;
        none = free.holds whole.0.held;
        mid = moment me new to;
        does = does;
        names = whole.1;
        order = acts_ordered does.acts;
        hands = free.hands does.steps;
        tells = acts_told does.acts;
        awaited = awaits_none line.act does.steps free.alone;
        ended = ends_as_it_was line line.act told (moment me new to) refl free.none;
        left = whole.2;
      }

  pub external_stopped : {new : ParticipantView}
      → HaltsNamedOnce mid.party.me mid new names given at between (doing_named mid.party.me mid.context.pools line.act (shared_of names))
      → HaltsLineHere me doer new from to line
  external_stopped {new} is =
      line_stopped held gave slots others line facts known goes tree
      (subst (λ (doing : Doing). HaltsNamedOnce me mid new names given at between doing) goes_is
      (subst (λ (who : ℕ). HaltsNamedOnce who mid new names given at between
      (doing_named mid.party.me mid.context.pools line.act (shared_of names))) held.same.me is))
