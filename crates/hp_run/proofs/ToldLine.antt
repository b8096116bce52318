-- A participant that does a line in one thread tells of none meanwhile, and after it that one more is done.
use Rattle.std.proofs.Common.{◌≡◌, ◌∙◌, ℕ, ◌+◌, ◌==◌, ⊎_elim, Bool, true, false, cond, eq-eqb, get_or, List, [], ◌∷◌, ◌++◌, append_assoc, map, refl, sym, ap, subst, arith}
use Rattle.std.proofs.lemmas.Bool.{cases_eq}
use Rattle.std.proofs.lemmas.List.{append_cancel_left, get_or-set_other}
use Rattle.hp_hall.specs.HallCalls.{HasLoadedLines, HasStored, MayStore}
use Rattle.hp_hall.specs.HallState.{Did, HallState, IsLater}
use Rattle.hp_hall.specs.Holding.{HeapPart}
use Rattle.hp_hall.specs.Mail.{MailStep, Notes, steps_of}
use Rattle.hp_hall.specs.declared.note.Note.TheVariants.{Stored}
use Rattle.hp_hall.proofs.HallStates.{did_then, later_then}
use Rattle.hp_log.specs.declared.log_record.LogRecord.{LogRecord}
use Rattle.hp_plain.specs.HallView.{lines_at}
use Rattle.hp_plain.specs.PlainPosts.{steps_of-append}
use Rattle.hp_plain.specs.Told.{AreTold, Told, told_after, told_of}
use Rattle.hp_script.specs.declared.answer.Answer.{Answer}
use Rattle.hp_script.specs.declared.line.Line.{Line}
use Rattle.hp_segs.specs.declared.outcome.AskLog.{AskLog}
use Rattle.hp_proc.specs.Acting.{AreAsked}
use Rattle.hp_proc.specs.Doing.{Doing}
use Rattle.hp_proc.specs.LineInHall.{DoesLineHere, IsReadyAgain, IsReadyIn, moment}
use Rattle.hp_proc.specs.ParticipantView.{ParticipantView}
use Rattle.hp_proc.specs.Progress.{Does, DoesLine, Moment}
use Rattle.hp_solo.specs.Solo.{SoloView}
use Rattle.hp_solo.specs.SoloCourse.{IsSoloCourse}
use Rattle.hp_solo.specs.SoloState.{solo_state}
use Rattle.thm_run.specs.EndLaws.{tells_one_more}
use Rattle.thm_run.proofs.LineSteps.LineMore.{asked_later}
use Rattle.hp_threads.specs.Adding.{IsUntelling, TellNothing}
use Rattle.hp_threads.proofs.WaitsUntold.{line_untold}
use Rattle.hp_threads.proofs.WorkSteps.{may_store, ready_later, told_ready}

-- IT TELLS OF NONE

-- a step that its participant does not tell of lines by leaves how many one has told
step_untold : (who by : ℕ) (step : MailStep) (told : Told) → (by ≡ who → IsUntelling step)
    → get_or (told_after by step told).lines who 0 ≡ get_or told.lines who 0
step_untold who by (Notes (Stored lines)) told untelling =
    ⊎_elim
    (λ (same : by ≡ who). absurd (untelling same))
    (λ apart. get_or-set_other told.lines by who lines 0 (λ same. apart (sym same)))
    (cases_eq by who)
step_untold who by _ told untelling = refl

-- the first of some steps tells nothing where it is one's own, and nor do the others
first_untold : (own : Bool) (step : ℕ × MailStep) (rest : List (ℕ × MailStep))
    → TellNothing (map (λ (s : ℕ × MailStep). s.1) (cond own (step ∷ rest) rest))
    → (own ≡ true → IsUntelling step.1) × TellNothing (map (λ (s : ℕ × MailStep). s.1) rest)
first_untold true step rest none = (λ is. none.0, none.1)
first_untold false step rest none = (λ (is : false ≡ true). cc, none)

steps_untold : (who : ℕ) (steps : List (ℕ × MailStep)) (old new : Told) → AreTold steps old new → TellNothing (steps_of who steps)
    → get_or new.lines who 0 ≡ get_or old.lines who 0
steps_untold who [] old new are none = ap (λ (told : Told). get_or told.lines who 0) are
steps_untold who (step ∷ steps) old new are none =
    let first = first_untold (step.0 == who) step _ none in
    steps_untold who steps (told_after step.0 step.1 old) new are.1 first.1
    ∙ step_untold who step.0 step.1 old (λ same. first.0 (eq-eqb step.0 who same))

-- whoever tells of nothing has told of as many lines as before
pub lines_untold : (a b : SoloView) (me : ℕ) (steps : List MailStep) → IsSoloCourse a b → Did me steps (solo_state a) (solo_state b)
    → TellNothing steps → lines_at b.plain me ≡ lines_at a.plain me
lines_untold a b me steps course did none =
    let own : steps_of me course.plain.steps ≡ steps =
    append_cancel_left (steps_of me a.plain.mail) (steps_of me course.plain.steps) steps
    (sym (steps_of-append me a.plain.mail course.plain.steps) ∙ sym (ap (steps_of me) course.plain.mail) ∙ did.made) in
    steps_untold me course.plain.steps (told_of a.plain) (told_of b.plain) course.plain.told (subst TellNothing (sym own) none)

-- AND THEN OF ONE MORE

-- a moment with later parts, and with more seen of the log and of the outcomes
abbrev later_moment : (ℕ → HeapPart) → List LogRecord → List AskLog → Moment → Moment
later_moment parts log asks was = record was { parts = parts; log = log; asks = asks }

-- what was done by a moment was done by such a later one, where the parts stay
does_later : {held : List ℕ} {count : ℕ} {did by : List MailStep → Type 0} {doing rest : Doing} {old new : Moment} (parts : ℕ → HeapPart)
    (records : List LogRecord) (log : List LogRecord) (others asks : List AskLog) → ((steps : List MailStep) → did steps → by steps)
    → ((heap : ℕ) → parts heap ≡ new.parts heap) → log ≡ new.log ++ records → asks ≡ new.asks ++ others
    → Does held count did doing rest old new → Does held count by doing rest old (later_moment parts log asks new)
does_later {held} {count} {did} {by} {doing} {rest} {old} {new} parts records log others asks made same grown logged does = record {
  trace = does.trace;
  steps = does.steps;
  leads = does.leads;
  made = made does.steps does.made;
  acts = does.acts;
  entries = λ heap. ap (λ (part : HeapPart). part.entries) (same heap) ∙ does.entries heap;
  serves = λ heap. ap (λ (part : HeapPart). part.serves) (same heap) ∙ does.serves heap;
  counted = does.counted;
  same = does.same;
  asked = asked_later new.log records log new.asks others asks old.party.me old.party.asked new.party.asked does.trace grown logged does.asked;
  more = does.more ++ records;
  log = grown ∙ ap (λ (l : List LogRecord). l ++ records) does.log ∙ append_assoc old.log does.more records;
  outcomes = does.outcomes ++ others;
  asks = logged ∙ ap (λ (l : List AskLog). l ++ others) does.asks ∙ append_assoc old.asks does.outcomes others;
}

-- a line was done by a state, and so it was by a later one, to which its participant made more steps that leave its parts
pub line_later : {me : ℕ} {old new : ParticipantView} {from mid to : HallState} {line : Line} {given : Answer} (more : List MailStep)
    → DoesLineHere me old new from mid line given → Did me more mid to → ((heap : ℕ) → to.part me heap ≡ mid.part me heap) → IsLater mid to
    → DoesLine from.count (λ (steps : List MailStep). Did me (steps ++ more) from to) line given (moment me old from) (moment me new to)
unfolding does_later
line_later {me} {old} {new} {from} {mid} {to} {line} {given} more does did parts later =
    let seen = later.seen me in
    let heard = later.heard me in
    record {
      facts = does.facts;
      known = does.known;
      held = does.held;
      once = does.once;
      none = does.none;
      mid = later_moment (to.part me) (to.seen me) (to.heard me) does.mid;
      does = does_later (to.part me) seen.0 (to.seen me) heard.0 (to.heard me)
          (λ steps made. did_then made did)
          (λ heap. parts heap ∙ ap (λ (m : Moment). m.parts heap) does.ended)
          (seen.1 ∙ ap (λ (m : Moment). m.log ++ seen.0) does.ended)
          (heard.1 ∙ ap (λ (m : Moment). m.asks ++ heard.0) does.ended)
          does.does;
      names = does.names;
      order = does.order;
      hands = does.hands;
      tells = does.tells;
      awaited = does.awaited;
      ended = ap (later_moment (to.part me) (to.seen me) (to.heard me)) does.ended;
      left = does.left;
    }

-- it looked up how many of its lines it has told to be done, and told of one more
module _ (me found : ℕ) (old new : ParticipantView) (from mid loaded to : SoloView) (line : Line) (given : Answer)
    (does : DoesLineHere me old new (solo_state from) (solo_state mid) line given) (again : IsReadyAgain me old new (solo_state mid))
    (course : IsSoloCourse from mid) (looked : HasLoadedLines me me found (solo_state mid) (solo_state loaded)) where
  pub found_is : found ≡ lines_at from.plain me
  found_is =
      looked.mine refl
      ∙ lines_untold from mid me does.does.steps course does.does.made
      (line_untold me old new (solo_state from) (solo_state mid) line given does)

  pub ready_loaded : IsReadyIn me new (solo_state loaded)
  ready_loaded =
      let mine = looked.stays.mine in
      ready_later me new looked.stays.slots looked.stays.others.later mine.parts.part mine.parts.joined mine.own again.ready

  pub may_tell : MayStore me (found + 1) (solo_state loaded)
  may_tell =
      may_store me (found + 1) new ready_loaded
      (omega (arith, looked.stays.mine.parts.lines, looked.mine refl))

  module _ (told : HasStored me (found + 1) (solo_state loaded) (solo_state to)) where
    pub told_more : Did me (tells_one_more me (lines_at from.plain me)) (solo_state mid) (solo_state to)
    told_more =
        subst (λ (n : ℕ). Did me (tells_one_more me n) (solo_state mid) (solo_state to)) found_is (did_then looked.did told.did)

    pub told_line : DoesLine (solo_state from).count
        (λ (steps : List MailStep). Did me (steps ++ tells_one_more me (lines_at from.plain me)) (solo_state from) (solo_state to)) line given
        (moment me old (solo_state from)) (moment me new (solo_state to))
    told_line =
        line_later (tells_one_more me (lines_at from.plain me)) does told_more
        (λ heap. told.part heap ∙ looked.stays.mine.parts.part heap)
        (later_then looked.stays.others.later told.others.later)

    pub told_lines : lines_at to.plain me ≡ lines_at from.plain me + 1
    told_lines = told.lines_are ∙ ap (λ (n : ℕ). n + 1) found_is

    pub told_clock : to.plain.clock ≡ mid.plain.clock
    told_clock = told.others.clock ∙ looked.stays.others.clock

    pub told_again : IsReadyAgain me old new (solo_state to)
    told_again = record { same = again.same; ready = told_ready me (found + 1) new told ready_loaded }
