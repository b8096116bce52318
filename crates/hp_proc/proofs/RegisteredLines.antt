-- What was done of a line that registers a watcher or a validator, or takes one back, and what it leaves.
use Rattle.std.proofs.Common.{◌≡◌, ◌∙◌, ℕ, Bool, true, false, nat_eq, not, List, [], ◌∷◌, ◌++◌, append-nil, filter, None, refl, ap, sym, subst, if◌then◌else◌}
use Rattle.std.specs.Cmp.Lexicographic.{pointwise}
use Rattle.hp_base.specs.Telling.{Listener}
use Rattle.hp_events.specs.Watchers.{has_name}
use Rattle.hp_hall.specs.Holding.{HeapPart}
use Rattle.hp_hall.specs.Mail.{MailStep}
use Rattle.hp_log.specs.declared.log_record.LogRecord.{LogRecord}
use Rattle.hp_script.specs.declared.answer.Answer.{Answer}
use Rattle.hp_script.specs.declared.answer.Answer.TheVariants as answer
use Rattle.hp_script.specs.declared.line.Act.{Act}
use Rattle.hp_script.specs.declared.line.Act.TheVariants as act
use Rattle.hp_script.specs.declared.line.Line.{Line}
use Rattle.hp_segs.specs.declared.outcome.AskLog.{AskLog}
use Rattle.hp_proc.specs.LineTrees.{doing_of}
use Rattle.hp_proc.specs.Contexts.{Context}
use Rattle.hp_proc.specs.Courses.{HasLineRequest, Standing, after_line}
use Rattle.hp_proc.specs.Doing.{Doing, Done}
use Rattle.hp_proc.specs.Lines.{Facts, if_attached}
use Rattle.hp_proc.specs.ParticipantView.{ParticipantView, after_registering, watched_after}
use Rattle.hp_proc.specs.Progress.{DoesLine, Moment, moment_of, registered_at}
use Rattle.hp_proc.specs.Registering.{IsRegistering, registering, watchers_after}
use Rattle.hp_proc.specs.declared.own_element.OwnElement.{OwnElement}
use Rattle.hp_serve.specs.Party.{Party}
use Rattle.hp_serve.specs.Watched.{names_of}
use Rattle.hp_proc.proofs.LineFacts.{AwaitsNone, IsNothing, awaits_none, facts_for, facts_known, hands_first, holds_none, nothing_done}
use Rattle.hp_proc.proofs.LinesOrdered.{acts_ordered, acts_told}
use Rattle.hp_proc.proofs.HandFacts.OnceHeld.{once_none}

-- its tree ends at once, by what is known
tree_ends : (line : Line) (deed : Act) (socket : ℕ) (context : Context) → IsRegistering deed → context.standing.attached ≡ true
    → doing_of line deed (facts_for socket context deed None)
    ≡ Doing.Ended (registering context.standing.watchers context.standing.validators deed)
unfolding doing_of
tree_ends line (act.Watch name) socket context is attached =
    ap (λ (attached : Bool). if_attached attached (Doing.Ended (registering context.standing.watchers context.standing.validators (act.Watch name)))) attached
tree_ends line (act.Unwatch name) socket context is attached =
    ap (λ (attached : Bool). if_attached attached (Doing.Ended (registering context.standing.watchers context.standing.validators (act.Unwatch name)))) attached
tree_ends line (act.Limit name validated bytes allow) socket context is attached =
    ap (λ (attached : Bool). if_attached attached (Doing.Ended (registering context.standing.watchers context.standing.validators
    (act.Limit name validated bytes allow)))) attached
tree_ends line (act.Unlimit name validated) socket context is attached =
    ap (λ (attached : Bool). if_attached attached (Doing.Ended (registering context.standing.watchers context.standing.validators
    (act.Unlimit name validated)))) attached
tree_ends line _ socket context is attached = absurd is

registers_alone : (deed : Act) → IsRegistering deed → AwaitsNone deed
registers_alone (act.Await other lines) is = absurd is
registers_alone _ is = tt

pub no_request : (deed : Act) → IsRegistering deed → HasLineRequest deed None
no_request (act.Watch name) is = tt
no_request (act.Unwatch name) is = tt
no_request (act.Limit name socket bytes allow) is = tt
no_request (act.Unlimit name socket) is = tt
no_request _ is = absurd is

-- what it leaves
leaves : (line : Line) (deed : Act) (given : Answer) (trace : List Done) (doer : ParticipantView) → line.act ≡ deed → IsRegistering deed
    → (after_registering deed given doer).context.standing ≡ after_line line given trace doer.context.standing
leaves line deed given trace doer its_act is =
    subst (λ (done : Act). (after_registering deed given doer).context.standing ≡ after_line (record line { act = done }) given trace doer.context.standing)
    (sym its_act) (by_act deed is)
  where
    with_nil : (standing : Standing) → standing ≡ record standing { elements = standing.elements ++ [] }
    with_nil standing = ap (λ (elements : List OwnElement). record standing { elements = elements }) (sym (append-nil standing.elements))

    by_act : (deed : Act) → IsRegistering deed
        → (after_registering deed given doer).context.standing ≡ after_line (record line { act = deed }) given trace doer.context.standing
    by_act (act.Watch name) is = with_nil (after_registering (act.Watch name) given doer).context.standing
    by_act (act.Unwatch name) is = with_nil (after_registering (act.Unwatch name) given doer).context.standing
    by_act (act.Limit name socket bytes allow) is = with_nil (after_registering (act.Limit name socket bytes allow) given doer).context.standing
    by_act (act.Unlimit name socket) is = with_nil (after_registering (act.Unlimit name socket) given doer).context.standing
    by_act _ is = absurd is

module _ (count : ℕ) (did : List MailStep → Type 0) (line : Line) (deed : Act) (given : Answer) (doer : ParticipantView)
    (parts : ℕ → HeapPart) (log : List LogRecord) (asks : List AskLog) where
  pub line_registered : did [] → line.act ≡ deed → IsRegistering deed → doer.context.standing.attached ≡ true
      → given ≡ registering doer.context.standing.watchers doer.context.standing.validators deed
      → DoesLine count did line given (moment_of doer parts log asks) (moment_of (after_registering deed given doer) parts log asks)
  line_registered none its_act is attached given_is =
      let before : Moment = moment_of doer parts log asks in
      let facts : Facts = facts_for doer.party.socket doer.context line.act None in
      let tree : doing_of line line.act facts ≡ Doing.Ended given =
      ap (λ (done : Act). doing_of line done (facts_for doer.party.socket doer.context done None)) its_act
      ∙ (tree_ends line deed doer.party.socket doer.context is attached ∙ ap Doing.Ended (sym given_is)) in
      let done : IsNothing count did (doing_of line line.act facts) (Doing.Ended given) before =
      subst (λ (doing : Doing). IsNothing count did doing (Doing.Ended given) before) (sym tree)
      (nothing_done count did (Doing.Ended given) before none) in
      let does = done.does in
      record {
        facts = facts;
        known = facts_known doer.party.socket doer.context line None
            (subst (λ (done : Act). HasLineRequest done None) (sym its_act) (no_request deed is));
        held = [];
        once = once_none;
        none = holds_none line.act;
        mid = before;
        does = does;
        names = done.names;
        order = acts_ordered does.acts;
        hands = hands_first line.act does.steps done.apart;
        tells = acts_told does.acts;
        awaited = awaits_none line.act does.steps (subst AwaitsNone (sym its_act) (registers_alone deed is));
        ended = ap (λ (deed : Act). registered_at deed given before) (sym its_act);
        left = leaves line deed given does.trace doer its_act is;
      }

-- THE WATCHERS' NAMES AFTER IT

names_more : (listeners : List Listener) (last : Listener) → names_of (listeners ++ last ∷ []) ≡ names_of listeners ++ last.name ∷ []
names_more [] last = refl
names_more (listener ∷ listeners) last = ap (λ (names : List (List ℕ)). listener.name ∷ names) (names_more listeners last)

-- those of another name stay
names_if : (name : List ℕ) (its : Bool) (listener : Listener) (listeners : List Listener)
    → names_of (if not its then listener ∷ listeners else listeners)
    ≡ (if not its then listener.name ∷ names_of listeners else names_of listeners)
names_if name true listener listeners = refl
names_if name false listener listeners = refl

names_without : (name : List ℕ) (listeners : List Listener)
    → names_of (filter (λ listener. not (has_name name listener)) listeners) ≡ filter (λ other. not (pointwise nat_eq other name)) (names_of listeners)
names_without name [] = refl
names_without name (listener ∷ listeners) =
    names_if name (has_name name listener) listener (filter (λ listener. not (has_name name listener)) listeners)
    ∙ ap (λ (rest : List (List ℕ)). if not (pointwise nat_eq listener.name name) then listener.name ∷ rest else rest) (names_without name listeners)

-- what the line leaves of the watchers is what its participant then has
pub names_registered : (deed : Act) (given : Answer) (party : Party)
    → names_of (watched_after deed given party).listeners ≡ watchers_after deed given (names_of party.listeners)
names_registered (act.Watch name) answer.Done party = names_more party.listeners (record { name = name.text; since = party.maps.rows; events = [] })
names_registered (act.Unwatch name) answer.Done party = names_without name.text party.listeners
names_registered _ given party = refl
