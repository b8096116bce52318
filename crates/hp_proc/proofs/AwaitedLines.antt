-- A line that awaited the lines of another one was done: it ends with a look that finds enough of them done.
use Rattle.std.proofs.Common.{◌≡◌, ℕ, ◌≤◌, List, [], ◌∷◌, ◌++◌, Option, None, refl, ap, sym, subst}
use Rattle.hp_hall.specs.Mail.{MailStep, Notes}
use Rattle.hp_hall.specs.declared.note.Note.TheVariants.{LoadedDone}
use Rattle.hp_log.specs.declared.log_record.LogRecord.{LogRecord}
use Rattle.hp_script.specs.declared.answer.Answer.TheVariants as answer
use Rattle.hp_script.specs.declared.line.Act.{Act}
use Rattle.hp_script.specs.declared.line.Act.TheVariants as act
use Rattle.hp_script.specs.declared.line.Line.{Line}
use Rattle.hp_segs.specs.declared.outcome.AskLog.{AskLog}
use Rattle.hp_serve.specs.Party.{IsSameParty}
use Rattle.hp_proc.specs.Acting.{Acts}
use Rattle.hp_proc.specs.Awaiting.{HasAwaited, LooksUpLast}
use Rattle.hp_proc.specs.Doing.{Doing}
use Rattle.hp_proc.specs.LineTrees.{doing_of}
use Rattle.hp_proc.specs.Lines.{Facts}
use Rattle.hp_proc.specs.NamesOfLines.{NamesOfLine}
use Rattle.hp_proc.specs.ParticipantView.{with_calls}
use Rattle.hp_proc.specs.Progress.{Does, DoesLine, Moment, doer_at}
use Rattle.hp_proc.proofs.HandFacts.OnceHeld.{once_none}
use Rattle.hp_proc.proofs.Joining.{does_still}
use Rattle.hp_proc.proofs.LineFacts.{apart_idle, facts_for, facts_known, hands_first, has_request, holds_none, line_whole}
use Rattle.hp_proc.proofs.TreeDeeds.{acts_unnamed}

-- the tree of such a line
await_tree : (line : Line) (other lines : ℕ) → line.act ≡ act.Await other lines → (facts : Facts)
    → Doing.Ended answer.Done ≡ doing_of line line.act facts
unfolding doing_of
await_tree line other lines its_act facts = ap (λ (deed : Act). doing_of line deed facts) (sym its_act)

-- nothing was done of it but that it waited, and looked up the lines last
record HasWaitedFor (count : ℕ) (did : List MailStep → Type 0) (other lines : ℕ) (doing : Doing) (old new : Moment) : Type 0 where
  does : Does [] count did doing (Doing.Ended answer.Done) old new
  names : NamesOfLine does.trace does.steps
  last : LooksUpLast other lines does.steps

module _ (count : ℕ) (did : List MailStep → Type 0) (other lines found : ℕ) (old new : Moment) (waited : List MailStep) (enough : lines ≤ found) where
  abbrev steps : List MailStep
  steps = waited ++ Notes (LoadedDone other found) ∷ []

  waited_for : did steps → Acts count old.hand new.hand [] (doer_at old) (doer_at new) [] steps
      → ((heap : ℕ) → (new.parts heap).entries ≡ (old.parts heap).entries)
      → ((heap : ℕ) → (new.parts heap).serves ≡ (old.parts heap).serves) → IsSameParty old.party new.party
      → new.context ≡ old.context → new.party.asked ≡ old.party.asked → (more : List LogRecord) → new.log ≡ old.log ++ more
      → (outcomes : List AskLog) → new.asks ≡ old.asks ++ outcomes
      → HasWaitedFor count did other lines (Doing.Ended answer.Done) old new
  unfolding does_still
  waited_for made acts entries serves same known asked more log outcomes asks = record {
    does = does_still count did (Doing.Ended answer.Done) old new steps made acts entries serves same known asked more log outcomes asks;
    names = NamesOfLine.none (acts_unnamed count old.hand new.hand [] (doer_at old) (doer_at new) [] steps acts refl) refl refl;
    last = record { before = waited; found = found; enough = enough; last = refl };
  }

  pub await_done : (line : Line) → line.act ≡ act.Await other lines → old.hand ≡ None → new.hand ≡ None → did steps
      → Acts count old.hand new.hand [] (doer_at old) (doer_at new) [] steps
      → ((heap : ℕ) → (new.parts heap).entries ≡ (old.parts heap).entries)
      → ((heap : ℕ) → (new.parts heap).serves ≡ (old.parts heap).serves) → IsSameParty old.party new.party
      → new.context ≡ old.context → new.party.asked ≡ old.party.asked → (more : List LogRecord) → new.log ≡ old.log ++ more
      → (outcomes : List AskLog) → new.asks ≡ old.asks ++ outcomes → DoesLine count did line answer.Done old new
  await_done line its_act empty ends made acts entries serves same known asked more log outcomes asks =
      let request = has_request line.act in
      let facts : Facts = facts_for old.party.socket old.context line.act request.0 in
      let its : HasWaitedFor count did other lines (doing_of line line.act facts) old new =
      subst (λ (doing : Doing). HasWaitedFor count did other lines doing old new) (await_tree line other lines its_act facts)
      (waited_for made acts entries serves same known asked more log outcomes asks) in
      line_whole count did line answer.Done old new facts (act.Await other lines)
      (facts_known old.party.socket old.context line request.0 request.1) (record { held = []; once = once_none; does = its.does }) its.names
      (hands_first line.act its.does.steps (apart_idle empty ends its.does))
      (subst (λ (deed : Act). HasAwaited deed its.does.steps) (sym its_act) its.last) empty (ap (with_calls new.context.calls) known) its_act tt tt
