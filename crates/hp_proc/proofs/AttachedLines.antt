-- What was done of a line that attaches, and what it leaves.
use Rattle.std.proofs.Common.{◌≡◌, ◌∙◌, ℕ, ◌<◌, Bool, true, false, ◌||◌, List, [], ◌∷◌, ◌++◌, append-nil, length, None, refl, ap, sym, subst, arith}
use Rattle.std.proofs.Math.Bool.{or-false, or-true}
use Rattle.hp_base.specs.Mapping.{is_done}
use Rattle.hp_base.specs.declared.caught.Caught.{Caught}
use Rattle.hp_base.specs.declared.caught.Caught.TheVariants.{Done, Refused, Elsewhere}
use Rattle.hp_hall.specs.Holding.{HeapPart}
use Rattle.hp_hall.specs.Mail.{MailStep}
use Rattle.hp_log.specs.declared.log_record.LogRecord.{LogRecord}
use Rattle.hp_script.specs.declared.answer.Answer.{Answer}
use Rattle.hp_script.specs.declared.answer.Answer.TheVariants as answer
use Rattle.hp_script.specs.declared.line.Act.{Act}
use Rattle.hp_script.specs.declared.line.Act.TheVariants as act
use Rattle.hp_script.specs.declared.line.Line.{Line}
use Rattle.hp_segs.specs.SegsView.{SegsView}
use Rattle.hp_segs.specs.declared.outcome.AskLog.{AskLog}
use Rattle.hp_proc.specs.LineTrees.{doing_of}
use Rattle.hp_proc.specs.Acting.{Acts, AreAsked}
use Rattle.hp_serve.specs.Attaching.{Attaches, after_attaching}
use Rattle.hp_proc.specs.Contexts.{Context, after_calls}
use Rattle.hp_proc.specs.Courses.{Standing, attached_after, chunks_after, element_brought, records_after, standing_tried}
use Rattle.hp_proc.specs.Doing.{Doing, Done as Did, Goes, Leads}
use Rattle.hp_proc.specs.Doing.Done.{CaughtUp, Looked}
use Rattle.hp_proc.specs.Lines.{Facts, attached_with, attaching}
use Rattle.hp_serve.specs.Party.{IsSameParty, Party}
use Rattle.hp_proc.specs.ParticipantView.{ParticipantView, with_standing}
use Rattle.hp_proc.specs.Registering.{validators_after, watchers_after}
use Rattle.hp_proc.specs.Progress.{Does, DoesApart, DoesLine, MayComeAndGo, Moment, moment_of}
use Rattle.hp_serve.specs.Serving.{acks_after, gives_segments, takes_segments}
use Rattle.hp_proc.specs.declared.own_element.OwnElement.{OwnElement}
use Rattle.hp_proc.proofs.ChangedLines.{known_none, line_changed, line_nothing, standing_after}
use Rattle.hp_proc.proofs.LineFacts.{facts_for}
use Rattle.hp_proc.proofs.LinesApart.{apart_nameless}
use Rattle.hp_proc.proofs.TreeDeeds.{IsNameless, Only}
use Rattle.hp_proc.proofs.HandFacts.OnceHeld.{once_none}

-- one that attaches or detaches is not participant 0's
pub attaches_second : (who : ℕ) (deed : Act) → MayComeAndGo who deed → deed ≡ act.Attach → 0 < who
attaches_second who deed is same = subst (MayComeAndGo who) same is

pub detaches_second : (who : ℕ) (deed : Act) → MayComeAndGo who deed → deed ≡ act.Detach → 0 < who
detaches_second who deed is same = subst (MayComeAndGo who) same is

-- who tried to attach is in the roster where all was mapped, and else as before
pub joined_by : (deed : Act) (records : ℕ) (caught : Caught) (given : Answer) (before after : Bool) → deed ≡ act.Attach
    → attached_with records caught ≡ Doing.Ended given → after ≡ (before || is_done caught) → after ≡ attached_after deed given before
joined_by deed records Done given before after attach is joined =
    let given_is : given ≡ answer.Records records = cc in
    subst (λ (deed : Act). after ≡ attached_after deed given before) (sym attach)
    (subst (λ (given : Answer). after ≡ attached_after act.Attach given before) (sym given_is) (joined ∙ or-true before))
joined_by deed records (Refused row call) given before after attach is joined =
    let given_is : given ≡ answer.Refused call = cc in
    subst (λ (deed : Act). after ≡ attached_after deed given before) (sym attach)
    (subst (λ (given : Answer). after ≡ attached_after act.Attach given before) (sym given_is) (joined ∙ or-false before))
joined_by deed records (Elsewhere row call got) given before after attach is joined =
    let given_is : given ≡ answer.Refused call = cc in
    subst (λ (deed : Act). after ≡ attached_after deed given before) (sym attach)
    (subst (λ (given : Answer). after ≡ attached_after act.Attach given before) (sym given_is) (joined ∙ or-false before))

-- and so it is noted
pub tried_joined : (records : ℕ) (caught : Caught) (standing : Standing) (joined : Bool) → standing.attached ≡ false → joined ≡ is_done caught
    → joined ≡ (standing_tried records caught standing).attached
tried_joined records Done standing joined out is = is
tried_joined records (Refused row call) standing joined out is = is ∙ sym out
tried_joined records (Elsewhere row call got) standing joined out is = is ∙ sym out

-- and its chunks are as before
pub tried_chunks : (records : ℕ) (caught : Caught) (standing : Standing) → (standing_tried records caught standing).chunks ≡ standing.chunks
tried_chunks records Done standing = refl
tried_chunks records (Refused row call) standing = refl
tried_chunks records (Elsewhere row call got) standing = refl

-- who was attached is in the roster as before
pub joined_still : (deed : Act) (given : Answer) (before : Bool) → deed ≡ act.Attach → given ≡ answer.Already
    → before ≡ attached_after deed given before
joined_still deed given before attach is =
    subst (λ (deed : Act). before ≡ attached_after deed given before) (sym attach)
    (subst (λ (given : Answer). before ≡ attached_after act.Attach given before) (sym is) refl)

-- what a line leaves that tried to attach
tried_leaves : (line : Line) (records : ℕ) (caught : Caught) (given : Answer) (trace : List Did) (standing : Standing)
    → attached_with records caught ≡ Doing.Ended given
    → standing_tried records caught standing ≡ record {
      attached = attached_after act.Attach given standing.attached;
      records = records_after act.Attach given standing.records;
      elements = standing.elements ++ element_brought line act.Attach given trace;
      chunks = chunks_after act.Attach given trace standing.chunks;
      watchers = watchers_after act.Attach given standing.watchers;
      validators = validators_after act.Attach given standing.validators;
    }
tried_leaves line records Done given trace standing is =
    let same : answer.Records records ≡ given = cc in
    ap (λ (elements : List OwnElement). record standing { attached = true; records = records; elements = elements })
    (sym (append-nil standing.elements))
    ∙ ap (λ (given : Answer). record {
      attached = attached_after act.Attach given standing.attached;
      records = records_after act.Attach given standing.records;
      elements = standing.elements ++ element_brought line act.Attach given trace;
      chunks = chunks_after act.Attach given trace standing.chunks;
      watchers = watchers_after act.Attach given standing.watchers;
      validators = validators_after act.Attach given standing.validators;
    }) same
tried_leaves line records (Refused row call) given trace standing is =
    let same : answer.Refused call ≡ given = cc in
    ap (λ (elements : List OwnElement). record standing { elements = elements }) (sym (append-nil standing.elements))
    ∙ ap (λ (given : Answer). record {
      attached = attached_after act.Attach given standing.attached;
      records = records_after act.Attach given standing.records;
      elements = standing.elements ++ element_brought line act.Attach given trace;
      chunks = chunks_after act.Attach given trace standing.chunks;
      watchers = watchers_after act.Attach given standing.watchers;
      validators = validators_after act.Attach given standing.validators;
    }) same
tried_leaves line records (Elsewhere row call got) given trace standing is =
    let same : answer.Refused call ≡ given = cc in
    ap (λ (elements : List OwnElement). record standing { elements = elements }) (sym (append-nil standing.elements))
    ∙ ap (λ (given : Answer). record {
      attached = attached_after act.Attach given standing.attached;
      records = records_after act.Attach given standing.records;
      elements = standing.elements ++ element_brought line act.Attach given trace;
      chunks = chunks_after act.Attach given trace standing.chunks;
      watchers = watchers_after act.Attach given standing.watchers;
      validators = validators_after act.Attach given standing.validators;
    }) same

-- who attached, or tried to, is the same participant
pub attached_same : (party mid : Party) (log : List LogRecord) (caught : Caught) → Attaches party mid log caught → IsSameParty party mid
attached_same party mid log caught at = record {
  me = ap (λ (party : Party). party.me) at.after_is;
  socket = ap (λ (party : Party). party.socket) at.after_is;
  plan = ap (λ (party : Party). party.plan) at.after_is;
  deadline = ap (λ (party : Party). party.deadline) at.after_is;
}

-- where all was mapped, its table has taken in as many records as the log has; where not, nothing is said of records
number_whole : (party mid : Party) (log : List LogRecord) → Attaches party mid log Done → mid.maps.number ≡ length log
number_whole party mid log at = ap (λ (party : Party). party.maps.number) at.after_is ∙ at.caught_up.number

answered_alike : (party mid : Party) (log : List LogRecord) (caught : Caught) → Attaches party mid log caught
    → attached_with (length log) caught ≡ attached_with mid.maps.number caught
answered_alike party mid log Done at = ap (λ (records : ℕ). attached_with records Done) (sym (number_whole party mid log at))
answered_alike party mid log (Refused row call) at = refl
answered_alike party mid log (Elsewhere row call got) at = refl

-- where it answers that it was refused, not all was mapped
pub refused_failed : (records : ℕ) (caught : Caught) (given : Answer) (call : ℕ) → attached_with records caught ≡ Doing.Ended given
    → given ≡ answer.Refused call → is_done caught ≡ false
refused_failed records Done given call is refused = absurd (differs is refused)
  where
    differs : attached_with records Done ≡ Doing.Ended given → given ≡ answer.Refused call → ⊥
    differs is refused = cc
refused_failed records (Refused row at) given call is refused = refl
refused_failed records (Elsewhere row at got) given call is refused = refl

tried_alike : (party mid : Party) (log : List LogRecord) (caught : Caught) (standing : Standing) → Attaches party mid log caught
    → standing_tried mid.maps.number caught standing ≡ standing_tried (length log) caught standing
tried_alike party mid log Done standing at = ap (λ (records : ℕ). standing_tried records Done standing) (number_whole party mid log at)
tried_alike party mid log (Refused row call) standing at = refl
tried_alike party mid log (Elsewhere row call got) standing at = refl

-- it has to do with no names
tried_nameless : (records : ℕ) (caught : Caught) → Only IsNameless (attached_with records caught)
unfolding Only
tried_nameless records Done = tt
tried_nameless records (Refused row call) = tt
tried_nameless records (Elsewhere row call got) = tt

attaching_nameless : Only IsNameless (attaching false)
unfolding Only
attaching_nameless = λ records. (tt, λ caught. (tt, tried_nameless records caught))

module _ (count : ℕ) (did : List MailStep → Type 0) (line : Line) (doer : ParticipantView) (parts : ℕ → HeapPart) (log : List LogRecord)
    (asks : List AskLog) where
  abbrev before : Moment
  before = moment_of doer parts log asks

  abbrev facts : Facts
  facts = facts_for doer.party.socket doer.context line.act None

  -- who is attached already does nothing of a line that attaches
  pub line_already : line.act ≡ act.Attach → doer.context.standing.attached ≡ true → did []
      → DoesLine count did line answer.Already before before
  unfolding doing_of
  line_already its_act attached none =
      line_nothing count did line answer.Already before facts act.Attach its_act tt tt
      (known_none doer.party.socket doer.context line act.Attach its_act tt) none
      (ap (λ (deed : Act). doing_of line deed facts) its_act ∙ ap attaching attached) refl tt
      (λ trace.
      standing_after line act.Attach answer.Already trace doer.context.standing doer.context.standing its_act
      (ap (λ (elements : List OwnElement). record doer.context.standing { elements = elements })
      (sym (append-nil doer.context.standing.elements))))

  module _ (mid after : ParticipantView) (later : ℕ → HeapPart) (now more : List LogRecord) (heard others : List AskLog)
      (alike : (heap : ℕ) → later heap ≡ parts heap) (log_is : now ≡ log ++ more) (asks_is : heard ≡ asks ++ others) where
    abbrev behind : Moment
    behind = moment_of after later now heard

    -- what it knew of its lines, but for what the line left
    pub known_but : (knew : Context) (standing : Standing) → knew ≡ doer.context
        → record knew { standing = standing } ≡ record (after_calls 0 doer.context) { standing = standing }
    known_but knew standing same =
        ap (λ (context : Context). record context { standing = standing }) same
        ∙ ap (λ (calls : ℕ). record doer.context { standing = standing; calls = calls }) (omega arith)

    -- it looked at the log and caught up with it, or tried to, and noted what that left
    does_attach : (taken : SegsView) (caught : Caught) → Attaches doer.party mid.party taken.log caught → mid.context ≡ doer.context
        → after ≡ with_standing (standing_tried (length taken.log) caught mid.context.standing) mid
        → did
        (takes_segments taken ∷ (acks_after caught (length taken.log) ++ (gives_segments (after_attaching doer.party.me caught taken) ∷ [])))
        → Does [] count did (attaching false) (attached_with (length taken.log) caught) before behind
    unfolding Leads Goes AreAsked
    does_attach taken caught attaches knew noted made =
        let same = attached_same doer.party mid.party taken.log caught attaches in
        let left : Standing = standing_tried (length taken.log) caught mid.context.standing in
        subst
        (λ (after : ParticipantView). Does [] count did (attaching false) (attached_with (length taken.log) caught) before (moment_of after later now heard))
        (sym noted)
        (record {
          trace = Looked (length taken.log) ∷ CaughtUp (length taken.log) caught ∷ [];
          steps = takes_segments taken ∷ (acks_after caught (length taken.log) ++ (gives_segments (after_attaching doer.party.me caught taken) ∷ []));
          leads = (length taken.log, refl, (caught, refl, refl));
          made = made;
          acts = subst (λ (after : ParticipantView). Acts count None None [] doer after (Looked (length taken.log) ∷ CaughtUp (length taken.log) caught ∷ [])
              (takes_segments taken ∷ (acks_after caught (length taken.log)
              ++ (gives_segments (after_attaching doer.party.me caught taken) ∷ []))))
              (ap (λ (context : Context). with_standing (standing_tried (length taken.log) caught context.standing)
              (record { party = mid.party; context = context })) (sym knew))
              (Acts.attaches doer mid.party taken caught attaches);
          entries = λ heap. ap (λ (part : HeapPart). part.entries) (alike heap) ∙ sym (append-nil (parts heap).entries);
          serves = λ heap. ap (λ (part : HeapPart). part.serves) (alike heap);
          counted = known_but mid.context left knew;
          same = same;
          asked = ap (λ (party : Party). party.asked) attaches.after_is;
          more = more;
          log = log_is;
          outcomes = others;
          asks = asks_is;
        })

    -- its line was done, once it noted what that left
    pub line_tried : line.act ≡ act.Attach → doer.context.standing.attached ≡ false → (taken : SegsView) (caught : Caught)
        → Attaches doer.party mid.party taken.log caught → mid.context ≡ doer.context
        → did
        (takes_segments taken ∷ (acks_after caught (length taken.log) ++ (gives_segments (after_attaching doer.party.me caught taken) ∷ [])))
        → (given : Answer) → attached_with mid.party.maps.number caught ≡ Doing.Ended given
        → after ≡ with_standing (standing_tried mid.party.maps.number caught mid.context.standing) mid
        → DoesLine count did line given before behind
    unfolding doing_of
    line_tried its_act out taken caught attaches knew made given by_table noted_so =
        let answered : attached_with (length taken.log) caught ≡ Doing.Ended given =
        answered_alike doer.party mid.party taken.log caught attaches ∙ by_table in
        let noted : after ≡ with_standing (standing_tried (length taken.log) caught mid.context.standing) mid =
        noted_so
        ∙ ap (λ (standing : Standing). with_standing standing mid) (tried_alike doer.party mid.party taken.log caught mid.context.standing attaches) in
        let tree : doing_of line line.act facts ≡ attaching false =
        ap (λ (deed : Act). doing_of line deed facts) its_act ∙ ap attaching out in
        let whole : Does [] count did (doing_of line line.act facts) (Doing.Ended given) before behind =
        subst (λ (rest : Doing). Does [] count did (doing_of line line.act facts) rest before behind) answered
        (subst (λ (doing : Doing). Does [] count did doing (attached_with (length taken.log) caught) before behind) (sym tree)
        (does_attach taken caught attaches knew noted made)) in
        let whole_once : DoesApart count did (doing_of line line.act facts) (Doing.Ended given) before behind =
        apart_nameless (doing_of line line.act facts) (Doing.Ended given) (subst (Only IsNameless) (sym tree) attaching_nameless) refl refl
        (record { held = []; once = once_none; does = whole }) in
        line_changed count did line given before behind facts act.Attach its_act tt tt
        (known_none doer.party.socket doer.context line act.Attach its_act tt) whole_once refl tt
        (ap (λ (doer : ParticipantView). doer.context.standing) noted
        ∙ (ap (λ (context : Context). standing_tried (length taken.log) caught context.standing) knew
        ∙ standing_after line act.Attach given whole_once.does.does.trace doer.context.standing
        (standing_tried (length taken.log) caught doer.context.standing) its_act
        (tried_leaves line (length taken.log) caught given whole_once.does.does.trace doer.context.standing answered)))
