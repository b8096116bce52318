-- What a line was is what was done of it, and what its answer then registers, or takes back.
use Rattle.std.proofs.Common.{◌≡◌, ◌∙◌, ℕ, ◌+◌, List, ◌++◌, length, refl, ap, sym, subst}
use Rattle.std.specs.Prelude.{⊤}
use Rattle.hp_hall.specs.Mail.{MailStep}
use Rattle.hp_script.specs.declared.answer.Answer.{Answer}
use Rattle.hp_script.specs.declared.answer.Answer.TheVariants as answer
use Rattle.hp_script.specs.declared.line.Act.{Act}
use Rattle.hp_script.specs.declared.line.Act.TheVariants as act
use Rattle.hp_script.specs.declared.line.Line.{Line}
use Rattle.hp_serve.specs.Party.{IsSameParty, Party}
use Rattle.hp_proc.specs.Acting.{AreAsked}
use Rattle.hp_proc.specs.Contexts.{Context, after_calls}
use Rattle.hp_proc.specs.Courses.{Standing, calls_in}
use Rattle.hp_proc.specs.Histories.{entries_for}
use Rattle.hp_proc.specs.ParticipantView.{watched_after}
use Rattle.hp_proc.specs.Progress.{DoesLine, Moment, registered_at}

-- a line that registers nothing and takes nothing back
abbrev pub RegistersNone : Act → Type 0
RegistersNone (act.Watch name) = ⊥
RegistersNone (act.Unwatch name) = ⊥
RegistersNone (act.Limit name socket bytes allow) = ⊥
RegistersNone (act.Unlimit name socket) = ⊥
RegistersNone _ = ⊤

-- leaves all as it was
by_act : (deed : Act) (given : Answer) (moment : Moment) → RegistersNone deed → moment ≡ registered_at deed given moment
by_act (act.Watch name) given moment none = absurd none
by_act (act.Unwatch name) given moment none = absurd none
by_act (act.Limit name socket bytes allow) given moment none = absurd none
by_act (act.Unlimit name socket) given moment none = absurd none
by_act _ given moment none = refl

pub ends_as_it_was : (line : Line) (deed : Act) (given : Answer) (moment : Moment) → line.act ≡ deed → RegistersNone deed
    → moment ≡ registered_at line.act given moment
ends_as_it_was line deed given moment its_act none =
    subst (λ (deed : Act). moment ≡ registered_at deed given moment) (sym its_act) (by_act deed given moment none)

-- and so does one whose participant is not attached
pub ends_detached : (deed : Act) (moment : Moment) → moment ≡ registered_at deed answer.Detached moment
ends_detached (act.Watch name) moment = refl
ends_detached (act.Unwatch name) moment = refl
ends_detached (act.Limit name socket bytes allow) moment = refl
ends_detached (act.Unlimit name socket) moment = refl
ends_detached _ moment = refl

-- it is the same participant
pub same_watched : (deed : Act) (given : Answer) (party : Party) → IsSameParty party (watched_after deed given party)
same_watched deed given party = record { me = refl; socket = refl; plan = refl; deadline = refl }

-- what was done of a line, from the moment at which it began to that at which it has ended
module _ {count : ℕ} {did : List MailStep → Type 0} {line : Line} {given : Answer} {old new : Moment}
    (done : DoesLine count did line given old new) where
  pub line_same : IsSameParty old.party new.party
  line_same =
      let ended = ap (λ (moment : Moment). moment.party) done.ended in
      record {
        me = ap (λ (party : Party). party.me) ended ∙ done.does.same.me;
        socket = ap (λ (party : Party). party.socket) ended ∙ done.does.same.socket;
        plan = ap (λ (party : Party). party.plan) ended ∙ done.does.same.plan;
        deadline = ap (λ (party : Party). party.deadline) ended ∙ done.does.same.deadline;
      }

  pub line_entries : (heap : ℕ) → (new.parts heap).entries
      ≡ (old.parts heap).entries ++ entries_for old.party.me heap (old.context.calls + 1) (calls_in done.does.trace)
  line_entries heap = ap (λ (moment : Moment). (moment.parts heap).entries) done.ended ∙ done.does.entries heap

  pub line_serves : (heap : ℕ) → (new.parts heap).serves ≡ (old.parts heap).serves
  line_serves heap = ap (λ (moment : Moment). (moment.parts heap).serves) done.ended ∙ done.does.serves heap

  pub line_counted : new.context
      ≡ record (after_calls (length (calls_in done.does.trace)) old.context) { standing = new.context.standing }
  line_counted =
      let known : new.context ≡ record done.mid.context { standing = new.context.standing } =
      ap (λ (moment : Moment). moment.context) done.ended
      ∙ ap (λ (standing : Standing). record done.mid.context { standing = standing })
      (sym (ap (λ (moment : Moment). moment.context.standing) done.ended)) in
      known ∙ ap (λ (context : Context). record context { standing = new.context.standing }) done.does.counted

  pub line_asked : AreAsked new.log new.asks old.party.me old.party.asked new.party.asked done.does.trace
  line_asked =
      subst
      (λ (moment : Moment). AreAsked moment.log moment.asks old.party.me old.party.asked moment.party.asked done.does.trace)
      (sym done.ended) done.does.asked

  pub line_log : new.log ≡ old.log ++ done.does.more
  line_log = ap (λ (moment : Moment). moment.log) done.ended ∙ done.does.log

  pub line_asks : new.asks ≡ old.asks ++ done.does.outcomes
  line_asks = ap (λ (moment : Moment). moment.asks) done.ended ∙ done.does.asks
