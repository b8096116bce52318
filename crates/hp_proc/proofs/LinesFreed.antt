-- A line is done that gave the names back and told the coordinator of a run that it had given up meanwhile.
use Rattle.std.proofs.Common.{◌≡◌, ◌∙◌, ℕ, List, [], ◌∷◌, ◌++◌, append-nil, filter_map, fold, None, refl, ap, sym, subst}
use Rattle.std.proofs.lemmas.List.Elements.{filter_map-append}
use Rattle.hp_hall.proofs.HallStates.{did_then}
use Rattle.hp_hall.specs.HallCalls.{HasGiven}
use Rattle.hp_hall.specs.HallState.{HallState, OthersStay, SlotsStayBut}
use Rattle.hp_hall.specs.Mail.{Gives, MailStep, Takes}
use Rattle.hp_hall.specs.declared.kept.Kept.TheVariants.{Names}
use Rattle.hp_hall.specs.declared.slot.TheConstants.{NAMES_SLOT}
use Rattle.hp_script.specs.declared.answer.Answer.{Answer}
use Rattle.hp_script.specs.declared.line.Act.{Act}
use Rattle.hp_script.specs.declared.line.Line.{Line}
use Rattle.hp_zone.specs.declared.names.Names.{Names as NamesView}
use Rattle.hp_proc.specs.Awaiting.{HasAwaited}
use Rattle.hp_proc.specs.Contexts.{AreFactsOf}
use Rattle.hp_proc.specs.Doing.{Doing, Done}
use Rattle.hp_proc.specs.Freeing.{left_of}
use Rattle.hp_proc.specs.Halting.{Halts}
use Rattle.hp_proc.specs.Handing.{shared_of}
use Rattle.hp_proc.specs.LineInHall.{DoesHere, DoesLineHere, HaltsHere, HaltsLineHere, HoldsNames, did_in, moment}
use Rattle.hp_proc.specs.LineTrees.{doing_of}
use Rattle.hp_proc.specs.Lines.{Facts, reading_names}
use Rattle.hp_proc.specs.LockOrder.{HoldsNamesAsMay}
use Rattle.hp_proc.specs.NamesInHand.{DoesNamed, DoesNamedOnce}
use Rattle.hp_proc.specs.NamesLog.{change_made}
use Rattle.hp_proc.specs.NamesOfLines.{NamesOfLine, names_read, steps_of_names}
use Rattle.hp_proc.specs.ParticipantView.{ParticipantView, with_calls}
use Rattle.hp_proc.specs.Progress.{AreOnce, Does, DoesOnce}
use Rattle.hp_proc.specs.SharedNames.{NamesChange, SharedNames, names_with}
use Rattle.hp_proc.specs.declared.element_act.Left.{Left}
use Rattle.hp_proc.specs.declared.element_act.Left.TheVariants.{Answered, GaveUp}
use Rattle.hp_proc.proofs.Halted.{line_halted, then_halts}
use Rattle.hp_proc.proofs.HallMoments.{told_alike}
use Rattle.hp_proc.proofs.HandFacts.Holds.{knew_after, knew_then}
use Rattle.hp_proc.proofs.Joining.{does_then}
use Rattle.hp_proc.proofs.LineFacts.{awaits_none, line_whole}
use Rattle.hp_proc.proofs.LinesNamed.{MayHaveNames, names_around}
use Rattle.hp_proc.proofs.LinesOrdered.{read_on}
use Rattle.hp_proc.proofs.NamesAround.{does_around}
use Rattle.hp_proc.proofs.TreeDeeds.{IsNameless, Only, acts_unnamed, nameless_changes, nameless_read, only_leads, steps_on}

-- what has to do with no names may follow
pub names_more : (trace rest : List Done) (steps behind : List MailStep) → NamesOfLine trace steps → names_read rest ≡ []
    → filter_map change_made rest ≡ [] → steps_of_names behind ≡ [] → NamesOfLine (trace ++ rest) (steps ++ behind)
names_more trace rest steps behind (NamesOfLine.none stepped unread unchanged) none nothing unnamed =
    NamesOfLine.none
    (steps_on steps behind ∙ (ap (λ (some : List MailStep). some ++ steps_of_names behind) stepped ∙ unnamed))
    (read_on trace rest ∙ (ap (λ (some : List SharedNames). some ++ names_read rest) unread ∙ none))
    (filter_map-append change_made trace rest
    ∙ (ap (λ (some : List NamesChange). some ++ filter_map change_made rest) unchanged ∙ nothing))
names_more trace rest steps behind (NamesOfLine.once taken given inner stepped is unread changed) none nothing unnamed =
    NamesOfLine.once taken given (inner ++ rest)
    (steps_on steps behind
    ∙ (ap (λ (some : List MailStep). some ++ steps_of_names behind) stepped
    ∙ ap (λ (more : List MailStep). Takes NAMES_SLOT (Names taken) ∷ Gives NAMES_SLOT (Names given) ∷ more) unnamed))
    (ap (λ (trace : List Done). trace ++ rest) is)
    (read_on inner rest ∙ (ap (λ (some : List SharedNames). some ++ names_read rest) unread ∙ none))
    (changed
    ∙ sym (ap (λ (made : List NamesChange). fold names_with (shared_of taken) made)
    (filter_map-append change_made inner rest
    ∙ (ap (λ (more : List NamesChange). filter_map change_made inner ++ more) nothing ∙ append-nil (filter_map change_made inner)))))

-- so may what is left of a line
left_nameless : (heap : ℕ) (left : Left) → Only IsNameless (left_of heap left)
unfolding Only
left_nameless heap (Answered given) = tt
left_nameless heap (GaveUp run) = λ given. (tt, tt)

module _ {doer mid : ParticipantView} {names given : NamesView} {from at between to : HallState}
    (held : HoldsNames doer.party.me doer mid names from at) (gave : HasGiven doer.party.me NAMES_SLOT (Names given) between to)
    (slots : SlotsStayBut NAMES_SLOT between to) (others : OthersStay doer.party.me between to) (line : Line) (facts : Facts)
    (known : AreFactsOf doer.party.socket doer.context line facts) (goes : SharedNames → Doing)
    (tree : reading_names goes ≡ doing_of line line.act facts) (new last : ParticipantView) (end : HallState) (left : Left) (heap : ℕ)
    (did : DoesNamedOnce doer.party.me mid new names given at between (goes (shared_of names)) (left_of heap left))
    (mine : new.party.me ≡ doer.party.me) (count : to.count ≡ from.count) where
  abbrev me : ℕ
  me = doer.party.me

  named : DoesNamed did.does.held me mid new names given at between (goes (shared_of names)) (left_of heap left)
  named = record { does = did.does.does; names = did.names }

  around : DoesHere did.does.held me doer new from to (reading_names goes) (left_of heap left)
  around = does_around held gave slots others goes (left_of heap left) named

  around_names : NamesOfLine around.trace around.steps
  unfolding around
  around_names = names_around held gave slots others line facts known goes tree (left_of heap left) named

  module _ (told : Answer) (tells : DoesHere [] new.party.me new last to end (left_of heap left) (Doing.Ended told)) where
    telling : Does [] from.count (did_in me to end) (left_of heap left) (Doing.Ended told) (moment me new to) (moment me last end)
    telling =
        told_alike (λ count did before behind. Does [] count did (left_of heap left) (Doing.Ended told) before behind) to.count from.count to end
        new.party.me me (λ moment. moment) (λ moment. moment) new last mine count tells

    abbrev IsWhole : Doing → Type 0
    IsWhole doing =
        (done : DoesOnce from.count (did_in me from end) doing (Doing.Ended told) (moment me doer from) (moment me last end))
        × NamesOfLine done.does.trace done.does.steps

    whole : IsWhole (reading_names goes)
    unfolding does_then
    whole =
        let nameless = only_leads IsNameless (left_of heap left) telling.trace (Doing.Ended told) (left_nameless heap left) telling.leads in
        let unread = nameless_read telling.trace nameless in (
          record {
            held = did.does.held ++ [];
            once = subst AreOnce (sym (append-nil did.does.held)) did.does.once;
            does = does_then from.count (did_in me from to) (did_in me to end) (did_in me from end) (reading_names goes) (left_of heap left)
                (Doing.Ended told) (moment me doer from) (moment me new to) (moment me last end) (λ one two. did_then) around telling;
          },
          names_more around.trace telling.trace around.steps telling.steps around_names unread (nameless_changes telling.trace nameless)
              (acts_unnamed from.count None None [] new last telling.trace telling.steps telling.acts unread),
        )

    -- it told of that, and was done
    pub line_told : (deed : Act) → line.act ≡ deed → MayHaveNames deed → new.context ≡ with_calls new.context.calls mid.context
        → last.context ≡ with_calls last.context.calls new.context → DoesLineHere me doer last from end line told
    line_told deed its may knew later =
        let all : IsWhole (doing_of line line.act facts) = subst IsWhole tree whole in
        let steps = all.0.does.steps in
        line_whole from.count (did_in me from end) line told (moment me doer from) (moment me last end) facts deed known all.0 all.1
        (subst (λ (deed : Act). HoldsNamesAsMay deed steps) (sym its) (may.hands steps))
        (subst (λ (deed : Act). HasAwaited deed steps) (sym its) (awaits_none deed steps may.alone)) refl
        (knew_then doer.context new.context last.context (knew_after doer.context mid.context new.context held.context knew) later) its may.brings
        (may.holds all.0.held)

  -- or it stopped over that
  pub told_stopped : HaltsHere [] new.party.me new last to end (left_of heap left) → HaltsLineHere me doer last from end line
  told_stopped halts =
      line_halted from.count (did_in me from end) line (moment me doer from) (moment me last end) facts known (reading_names goes) tree refl (
        did.does.held ++ [],
        subst AreOnce (sym (append-nil did.does.held)) did.does.once,
        then_halts from.count (did_in me from to) (did_in me to end) (did_in me from end) (moment me doer from) (moment me new to)
            (moment me last end) (λ one two. did_then) [] (reading_names goes) (left_of heap left) around
            (told_alike (λ count did before behind. Halts [] count did (left_of heap left) before behind) to.count from.count to end
            new.party.me me (λ moment. moment) (λ moment. moment) new last mine count halts),
      )
