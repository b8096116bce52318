-- What is left of a line that changes whether its participant is attached, and what the line was.
use Rattle.std.proofs.Common.{◌≡◌, ◌∙◌, ℕ, List, [], ◌++◌, Option, None, ap, sym, subst}
use Rattle.hp_hall.specs.Holding.{HeapPart}
use Rattle.hp_hall.specs.Mail.{MailStep}
use Rattle.hp_log.specs.declared.log_record.LogRecord.{LogRecord}
use Rattle.hp_script.specs.declared.answer.Answer.{Answer}
use Rattle.hp_script.specs.declared.line.Act.{Act}
use Rattle.hp_script.specs.declared.line.Line.{Line}
use Rattle.hp_segs.specs.declared.outcome.AskLog.{AskLog}
use Rattle.hp_proc.specs.LineTrees.{doing_of}
use Rattle.hp_proc.specs.Acting.{Acts}
use Rattle.hp_proc.specs.Contexts.{AreFactsOf, Context}
use Rattle.hp_proc.specs.Courses.{HasLineRequest, Standing, after_line, attached_after, chunks_after, element_brought, records_after}
use Rattle.hp_proc.specs.Doing.{Doing, Done as Did}
use Rattle.hp_proc.specs.Lines.{Facts}
use Rattle.hp_proc.specs.ParticipantView.{ParticipantView, with_standing}
use Rattle.hp_proc.specs.Registering.{validators_after, watchers_after}
use Rattle.hp_proc.specs.Progress.{DoesApart, DoesLine, HoldsNone, MayDo, Moment, doer_at, moment_of}
use Rattle.hp_proc.proofs.LineEnds.{RegistersNone, ends_as_it_was}
use Rattle.hp_proc.proofs.LineFacts.{AwaitsNone, IsNothing, awaits_none, facts_for, facts_known, hands_first, nothing_done}
use Rattle.hp_proc.proofs.LinesOrdered.{acts_ordered, acts_told}
use Rattle.hp_proc.proofs.HandFacts.OnceHeld.{once_none}

-- one that attaches needs no request, and one that detaches neither
pub known_none : (socket : ℕ) (context : Context) (line : Line) (deed : Act) → line.act ≡ deed → HasLineRequest deed None
    → AreFactsOf socket context line (facts_for socket context line.act None)
known_none socket context line deed is has =
    facts_known socket context line None (subst (λ (done : Act). HasLineRequest done None) (sym is) has)

-- what was left of a line with that act is what its act says
pub standing_after : (line : Line) (deed : Act) (given : Answer) (trace : List Did) (standing left : Standing) → line.act ≡ deed
    → left ≡ record {
      attached = attached_after deed given standing.attached;
      records = records_after deed given standing.records;
      elements = standing.elements ++ element_brought line deed given trace;
      chunks = chunks_after deed given trace standing.chunks;
      watchers = watchers_after deed given standing.watchers;
      validators = validators_after deed given standing.validators;
    } → left ≡ after_line line given trace standing
standing_after line deed given trace standing left is leaves =
    leaves ∙ ap (λ (deed : Act). record {
      attached = attached_after deed given standing.attached;
      records = records_after deed given standing.records;
      elements = standing.elements ++ element_brought line deed given trace;
      chunks = chunks_after deed given trace standing.chunks;
      watchers = watchers_after deed given standing.watchers;
      validators = validators_after deed given standing.validators;
    }) (sym is)

-- a participant that may do its line may do the next one whatever it noted
pub ready_noted : (doer after : ParticipantView) (parts : ℕ → HeapPart) (log : List LogRecord) (asks : List AskLog) (standing : Standing)
    → after ≡ with_standing standing doer → MayDo (moment_of doer parts log asks) → MayDo (moment_of after parts log asks)
ready_noted doer after parts log asks standing noted ready =
    subst (λ (after : ParticipantView). MayDo (moment_of after parts log asks)) (sym noted)
    (record { sockets = ready.sockets; unheld = ready.unheld; settled = ready.settled; counted = ready.counted })

-- a line was done that changes whether its participant is attached, or tried to
pub line_changed : (count : ℕ) (did : List MailStep → Type 0) (line : Line) (given : Answer) (old new : Moment) (facts : Facts) (deed : Act)
    → line.act ≡ deed → RegistersNone deed → AwaitsNone deed → AreFactsOf old.party.socket old.context line facts
    → (done : DoesApart count did (doing_of line line.act facts) (Doing.Ended given) old new) → old.hand ≡ None
    → HoldsNone deed done.does.held → new.context.standing ≡ after_line line given done.does.does.trace old.context.standing
    → DoesLine count did line given old new
line_changed count did line given old new facts deed is none alone known done empty holds left =
    let does = done.does.does in
    let acts : Acts count None new.hand done.does.held (doer_at old) (doer_at new) does.trace does.steps =
    subst (λ (hand : Option ℕ). Acts count hand new.hand done.does.held (doer_at old) (doer_at new) does.trace does.steps) empty does.acts in
    record {
      facts = facts;
      known = known;
      held = done.does.held;
      once = done.does.once;
      none = subst (λ (deed : Act). HoldsNone deed done.does.held) (sym is) holds;
      mid = new;
      does = does;
      names = done.names;
      order = acts_ordered acts;
      hands = hands_first line.act does.steps done.apart;
      tells = acts_told acts;
      awaited = awaits_none line.act does.steps (subst AwaitsNone (sym is) alone);
      ended = ends_as_it_was line deed given new is none;
      left = left;
    }

-- it did nothing of its line
pub line_nothing : (count : ℕ) (did : List MailStep → Type 0) (line : Line) (given : Answer) (moment : Moment) (facts : Facts) (deed : Act)
    → line.act ≡ deed → RegistersNone deed → AwaitsNone deed → AreFactsOf moment.party.socket moment.context line facts → did []
    → doing_of line line.act facts ≡ Doing.Ended given → moment.hand ≡ None → HoldsNone deed []
    → ((trace : List Did) → moment.context.standing ≡ after_line line given trace moment.context.standing)
    → DoesLine count did line given moment moment
line_nothing count did line given moment facts deed is none alone known empty_did tree empty holds left =
    let nothing : IsNothing count did (doing_of line line.act facts) (Doing.Ended given) moment =
    subst (λ (doing : Doing). IsNothing count did doing (Doing.Ended given) moment) (sym tree)
    (nothing_done count did (Doing.Ended given) moment empty_did) in
    line_changed count did line given moment moment facts deed is none alone known
    (record {
      does = record { held = []; once = once_none; does = nothing.does };
      names = nothing.names;
      apart = nothing.apart;
    }) empty holds (left nothing.does.trace)
