-- What a participant does of a line that ends without an answer, step by step: the rule "Lines" of docs/PARTICIPANTS.md.
use Rattle.std.specs.Prelude.{◌≡◌, ◌≢◌, ℕ, ◌+◌, true, List, [], ◌∷◌, ◌++◌, length, Option, Some, None}
use Rattle.hp_base.specs.declared.row.Run.{Run}
use Rattle.hp_hall.specs.Mail.{MailStep, Gives, Takes}
use Rattle.hp_hall.specs.declared.kept.Kept.TheVariants.{Names}
use Rattle.hp_hall.specs.declared.slot.TheConstants.{NAMES_SLOT}
use Rattle.hp_script.specs.declared.line.Line.{Line}
use Rattle.hp_segs.specs.SegsView.{SegsView}
use Rattle.hp_proc.specs.Denying.{denials_of}
use Rattle.hp_serve.specs.AskSteps.{DoesAskOn, StopsNotifying}
use Rattle.hp_serve.specs.Party.{IsSameParty, Party}
use Rattle.hp_serve.specs.Serving.{gives_segments, takes_segments}
use Rattle.hp_serve.specs.Waiting.{IsTurned}
use Rattle.hp_serve.specs.declared.pages_asked.PagesAsked.{PagesAsked}
use Rattle.hp_proc.specs.Acting.{Acts}
use Rattle.hp_proc.specs.Contexts.{AreFactsOf, after_calls}
use Rattle.hp_proc.specs.Courses.{calls_in}
use Rattle.hp_proc.specs.Doing.{Doing, Done, Leads}
use Rattle.hp_proc.specs.Doing.Done.{Asked, NamesRead}
use Rattle.hp_proc.specs.Handing.{shared_of}
use Rattle.hp_proc.specs.Histories.{entries_for}
use Rattle.hp_proc.specs.LineTrees.{doing_of}
use Rattle.hp_proc.specs.Lines.{Facts}
use Rattle.hp_proc.specs.LockOrder.{IsInLockOrder}
use Rattle.hp_proc.specs.NamesOfLines.{ChangesNames}
use Rattle.hp_proc.specs.ParticipantView.{ParticipantView, with_party}
use Rattle.hp_proc.specs.Progress.{AreOnce, Moment, doer_at}
use Rattle.hp_zone.specs.declared.names.Names.{Names as NamesView}

-- what a participant did that stopped over it, once at most, with the steps that it made in the hall: with the heap in its hand before and
-- after, where it had one, and the heaps that it took meanwhile, in their order
pub data ActsOn (count : ℕ) : Option ℕ → Option ℕ → List ℕ → ParticipantView → ParticipantView → List Done → List MailStep → Type 0 where
  -- it did what a line does that is answered
  acts : (hand behind : Option ℕ) (held : List ℕ) (doer after : ParticipantView) (trace : List Done) (steps : List MailStep)
      → Acts count hand behind held doer after trace steps → ActsOn count hand behind held doer after trace steps
  -- somebody stopped in a turn that it waited for a heap
  turn_stops : (until : ℕ) (doer : ParticipantView) (after : Party) (steps : List MailStep)
      → IsTurned (denials_of doer.context.standing) count until doer.party after steps None
      → ActsOn count None None [] doer (with_party after doer) [] steps
  -- it could not be armed to ask for pages for the heap in its hand: it took the segment value and gave it back as it was
  asks_nothing : (doer : ParticipantView) (heap : ℕ) (taken : SegsView)
      → ActsOn count (Some heap) (Some heap) [] doer doer [] (takes_segments taken ∷ gives_segments taken ∷ [])
  -- somebody stopped while it asked for pages for the heap in its hand, and it saw that through
  asks_on : (doer : ParticipantView) (after : Party) (asked : PagesAsked) (run : Option Run) (steps : List MailStep)
      → DoesAskOn (denials_of doer.context.standing) count doer.party after asked steps run true
      → ActsOn count (Some asked.heap) (Some asked.heap) [] doer (with_party after doer) (Asked asked run ∷ []) steps
  -- it could not attach, since somebody watches and there was no room to tell: it took the segment value and gave it back as it was
  attaches_not : (doer : ParticipantView) (taken : SegsView) → doer.party.listeners ≢ []
      → ActsOn count None None [] doer doer [] (takes_segments taken ∷ gives_segments taken ∷ [])
  -- with no heap in its hand it stopped over telling the coordinator of a run that it had given up
  notice_stops : (doer : ParticipantView) (after : Party) (heap : ℕ) (run : Run) (steps : List MailStep)
      → StopsNotifying (denials_of doer.context.standing) count doer.party after heap run steps
      → ActsOn count None None [] doer (with_party after doer) [] steps
  -- it stopped over that while it had the names in hand, which it gave back as its changes leave them
  holds_names : (held : List ℕ) (doer after : ParticipantView) (taken given : NamesView) (trace : List Done) (steps : List MailStep)
      → ActsOn count None None held doer after trace steps → ChangesNames taken given trace
      → ActsOn count None None held doer after (NamesRead (shared_of taken) ∷ trace)
      (Takes NAMES_SLOT (Names taken) ∷ (steps ++ Gives NAMES_SLOT (Names given) ∷ []))
  -- other things were done before
  and_then : (hand between last : Option ℕ) (held more : List ℕ) (doer mid after : ParticipantView) (first rest : List Done)
      (before behind : List MailStep) → Acts count hand between held doer mid first before
      → ActsOn count between last more mid after rest behind
      → ActsOn count hand last (held ++ more) doer after (first ++ rest) (before ++ behind)
  -- and after that it saw to the heap in its hand: it took none more, and nobody stopped
  ends_with : (hand between last : Option ℕ) (held : List ℕ) (doer mid after : ParticipantView) (first rest : List Done)
      (before behind : List MailStep) → ActsOn count hand between held doer mid first before
      → Acts count between last [] mid after rest behind
      → ActsOn count hand last held doer after (first ++ rest) (before ++ behind)

-- it did a front of what was to do, from one moment to a later one, and took a front of these heaps into its hand: its trace leads to a rest
-- that is left; and each heap has its calls, numbered on over all heaps
pub record Halts (heaps : List ℕ) (count : ℕ) (did : List MailStep → Type 0) (doing : Doing) (old new : Moment) : Type 0 where
  pub rest : Doing
  pub trace : List Done
  pub steps : List MailStep
  pub held : List ℕ
  pub others : List ℕ
  pub front : heaps ≡ held ++ others
  pub leads : Leads doing trace rest
  pub made : did steps
  pub acts : ActsOn count old.hand new.hand held (doer_at old) (doer_at new) trace steps
  pub entries : (heap : ℕ) → (new.parts heap).entries
      ≡ (old.parts heap).entries ++ entries_for old.party.me heap (old.context.calls + 1) (calls_in trace)
  pub counted : new.context
      ≡ record (after_calls (length (calls_in trace)) old.context) { standing = new.context.standing }
  pub same : IsSameParty old.party new.party

-- a line ended without an answer: a front of it was done, by what is known when it began, no heap was held twice, and slots were taken in the
-- lock order
pub record HaltsLine (count : ℕ) (did : List MailStep → Type 0) (line : Line) (old new : Moment) : Type 0 where
  pub facts : Facts
  pub known : AreFactsOf old.party.socket old.context line facts
  pub heaps : List ℕ
  pub once : AreOnce heaps
  pub halts : Halts heaps count did (doing_of line line.act facts) old new
  pub order : IsInLockOrder halts.steps
