-- What was done of a line joins with what was done after it.
use Rattle.std.proofs.Common.{◌≡◌, ◌∙◌, ℕ, ◌+◌, List, [], ◌∷◌, ◌++◌, length, append-nil, append_assoc, Option, refl, ap, sym, subst, arith}
use Rattle.std.proofs.lemmas.List.{length-append}
use Rattle.hp_base.specs.declared.row.Run.{Run}
use Rattle.hp_hall.specs.Mail.{MailStep}
use Rattle.hp_heap.specs.declared.entry.Entry.{Entry}
use Rattle.hp_log.specs.declared.log_record.LogRecord.{LogRecord}
use Rattle.hp_segs.specs.SegsView.{grants_or_refuses}
use Rattle.hp_segs.specs.declared.ask.Ask.{Ask}
use Rattle.hp_segs.specs.declared.outcome.AskLog.{AskLog}
use Rattle.hp_proc.specs.Acting.{Acts, AreAsked}
use Rattle.hp_serve.specs.Asking.{HasAnswer, IsAsked}
use Rattle.hp_proc.specs.Contexts.{Context, after_calls}
use Rattle.hp_proc.specs.Courses.{OwnCall, calls_in}
use Rattle.hp_proc.specs.Doing.{Doing, Done, Leads}
use Rattle.hp_proc.specs.Doing.Done.{Asked, Called, GaveUp}
use Rattle.hp_proc.specs.Histories.{entries_for}
use Rattle.hp_serve.specs.Party.{IsSameParty}
use Rattle.hp_proc.specs.ParticipantView.{ParticipantView, with_context, with_party}
use Rattle.hp_proc.specs.Progress.{Does, Moment, doer_at}
use Rattle.hp_serve.specs.declared.pages_asked.PagesAsked.{PagesAsked}
use Rattle.hp_proc.proofs.LawLemmas.{entries_go_on, find_stays, gives_stays, leads_on}

-- the calls of what was done one after another
pub calls_on : (first rest : List Done) → calls_in (first ++ rest) ≡ calls_in first ++ calls_in rest
calls_on [] rest = refl
calls_on (Called heap call answer ∷ first) rest = ap (λ (calls : List OwnCall). record { heap = heap; call = call; answer = answer } ∷ calls) (calls_on first rest)
calls_on (_ ∷ first) rest = calls_on first rest

module _ (log more : List LogRecord) (asks others : List AskLog) where
  answer_stays : (ask : Ask) (run : Option Run) → HasAnswer log asks ask run → HasAnswer (log ++ more) (asks ++ others) ask run
  answer_stays ask run has = record {
    entry = has.entry;
    logged = find_stays (grants_or_refuses ask.from ask.number) asks others has.entry has.logged;
    kept = has.kept;
    given = gives_stays log more has.entry.outcome run has.given;
  }

  asked_stays : (who before after : ℕ) (asked : PagesAsked) (run : Option Run) → IsAsked log asks who before after asked run
      → IsAsked (log ++ more) (asks ++ others) who before after asked run
  asked_stays who before after asked run is = record {
    found = is.found;
    since = is.since ++ others;
    heard = ap (λ (asks : List AskLog). asks ++ others) is.heard ∙ append_assoc is.found is.since others;
    number = is.number;
    answer = answer_stays _ run is.answer;
  }

  -- what was asked has its answer still, whatever records and outcomes follow
  pub all_asked_stay : (who before after : ℕ) (trace : List Done) → AreAsked log asks who before after trace
      → AreAsked (log ++ more) (asks ++ others) who before after trace
  unfolding AreAsked
  all_asked_stay who before after [] is = is
  all_asked_stay who before after (Asked asked run ∷ trace) is =
      (is.0, asked_stays who before is.0 asked run is.1, all_asked_stay who is.0 after trace is.2)
  all_asked_stay who before after (GaveUp heap run ∷ trace) is = all_asked_stay who (before + 1) after trace is
  all_asked_stay who before after (_ ∷ trace) is = all_asked_stay who before after trace is

module _ (log : List LogRecord) (asks : List AskLog) (who : ℕ) where
  -- what was asked one after another
  pub asked_on : (before mid after : ℕ) (first rest : List Done) → AreAsked log asks who before mid first → AreAsked log asks who mid after rest
      → AreAsked log asks who before after (first ++ rest)
  unfolding AreAsked
  asked_on before mid after [] rest here there = subst (λ number. AreAsked log asks who number after rest) here there
  asked_on before mid after (Asked asked run ∷ first) rest here there =
      (here.0, here.1, asked_on here.0 mid after first rest here.2 there)
  asked_on before mid after (GaveUp heap run ∷ first) rest here there = asked_on (before + 1) mid after first rest here there
  asked_on before mid after (_ ∷ first) rest here there = asked_on before mid after first rest here there

  -- where nothing is done, nothing is asked
  pub asked_none : (before after : ℕ) → after ≡ before → AreAsked log asks who before after []
  unfolding AreAsked
  asked_none before after same = same

-- the entries of calls one after another, after those from before
pub entries_joined : (who next heap calls later : ℕ) (first rest : List OwnCall) (old mid new : List Entry) → next ≡ who
    → later ≡ calls + length first → mid ≡ old ++ entries_for who heap (calls + 1) first
    → new ≡ mid ++ entries_for next heap (later + 1) rest → new ≡ old ++ entries_for who heap (calls + 1) (first ++ rest)
entries_joined who next heap calls later first rest old mid new same count here there =
    let number : later + 1 ≡ calls + 1 + length first = omega (arith, count) in
    there
    ∙ ap (λ (mid : List Entry). mid ++ entries_for next heap (later + 1) rest) here
    ∙ append_assoc old (entries_for who heap (calls + 1) first) (entries_for next heap (later + 1) rest)
    ∙ ap (λ (other : ℕ). old ++ (entries_for who heap (calls + 1) first ++ entries_for other heap (later + 1) rest)) same
    ∙ ap (λ (number : ℕ). old ++ (entries_for who heap (calls + 1) first ++ entries_for who heap number rest)) number
    ∙ ap (λ (all : List Entry). old ++ all) (sym (entries_go_on who heap (calls + 1) first rest))

-- so many calls further on, and then more
pub context_joined : (calls more : ℕ) (old mid new : Context) → mid ≡ record (after_calls calls old) { standing = mid.standing }
    → new ≡ record (after_calls more mid) { standing = new.standing } → new ≡ record (after_calls (calls + more) old) { standing = new.standing }
context_joined calls more old mid new here there =
    there
    ∙ ap (λ (context : Context). record (after_calls more context) { standing = new.standing }) here
    ∙ ap (λ (count : ℕ). record old { standing = new.standing; calls = count }) (omega arith)

module _ {held more : List ℕ} (count : ℕ) (here_did there_did did : List MailStep → Type 0) (doing left rest : Doing) (old mid new : Moment)
    (join : (first second : List MailStep) → here_did first → there_did second → did (first ++ second))
    (here : Does held count here_did doing left old mid) (there : Does more count there_did left rest mid new) where
  abbrev pub whole : List Done
  whole = here.trace ++ there.trace

  pub calls_are : calls_in whole ≡ calls_in here.trace ++ calls_in there.trace
  calls_are = calls_on here.trace there.trace

  pub length_is : length (calls_in here.trace) + length (calls_in there.trace) ≡ length (calls_in whole)
  length_is = sym (ap (λ (calls : List OwnCall). length calls) calls_are ∙ length-append (calls_in here.trace) (calls_in there.trace))

  pub entries_are : (heap : ℕ) → (new.parts heap).entries
      ≡ (old.parts heap).entries ++ entries_for old.party.me heap (old.context.calls + 1) (calls_in whole)
  entries_are heap =
      entries_joined old.party.me mid.party.me heap old.context.calls mid.context.calls (calls_in here.trace) (calls_in there.trace)
      (old.parts heap).entries (mid.parts heap).entries (new.parts heap).entries here.same.me
      (ap (λ (context : Context). context.calls) here.counted) (here.entries heap) (there.entries heap)
      ∙ ap (λ (calls : List OwnCall). (old.parts heap).entries ++ entries_for old.party.me heap (old.context.calls + 1) calls) (sym calls_are)

  pub asked_all : AreAsked new.log new.asks old.party.me old.party.asked new.party.asked whole
  asked_all =
      asked_on new.log new.asks old.party.me old.party.asked mid.party.asked new.party.asked here.trace there.trace
      (subst (λ (log : List LogRecord). AreAsked log new.asks old.party.me old.party.asked mid.party.asked here.trace) (sym there.log)
      (subst (λ (asks : List AskLog). AreAsked (mid.log ++ there.more) asks old.party.me old.party.asked mid.party.asked here.trace) (sym there.asks)
      (all_asked_stay mid.log there.more mid.asks there.outcomes old.party.me old.party.asked mid.party.asked here.trace here.asked)))
      (subst (λ (who : ℕ). AreAsked new.log new.asks who mid.party.asked new.party.asked there.trace) here.same.me there.asked)

  -- what was done, and what was done after it
  unfoldable pub does_then : Does (held ++ more) count did doing rest old new
  does_then = record {
    trace = whole;
    steps = here.steps ++ there.steps;
    leads = leads_on doing here.trace there.trace left rest here.leads there.leads;
    made = join here.steps there.steps here.made there.made;
    acts = Acts.and_then old.hand mid.hand new.hand held more (doer_at old) (doer_at mid) (doer_at new) here.trace there.trace here.steps
        there.steps here.acts there.acts;
    entries = entries_are;
    serves = λ heap. there.serves heap ∙ here.serves heap;
    counted = subst (λ (calls : ℕ). new.context ≡ record (after_calls calls old.context) { standing = new.context.standing })
        length_is
        (context_joined (length (calls_in here.trace)) (length (calls_in there.trace)) old.context mid.context new.context
        here.counted there.counted);
    same = record {
      me = there.same.me ∙ here.same.me;
      socket = there.same.socket ∙ here.same.socket;
      plan = there.same.plan ∙ here.same.plan;
      deadline = there.same.deadline ∙ here.same.deadline;
    };
    asked = asked_all;
    more = here.more ++ there.more;
    log = there.log ∙ ap (λ (log : List LogRecord). log ++ there.more) here.log ∙ append_assoc old.log here.more there.more;
    outcomes = here.outcomes ++ there.outcomes;
    asks = there.asks ∙ ap (λ (asks : List AskLog). asks ++ there.outcomes) here.asks ∙ append_assoc old.asks here.outcomes there.outcomes;
  }

  -- what it did is what was done in both
  pub then_trace : does_then.trace ≡ here.trace ++ there.trace
  unfolding does_then
  then_trace = refl

-- with no call more all that is known stays, but what lines left
pub context_still : (old new : Context) → new ≡ old → new ≡ record (after_calls 0 old) { standing = new.standing }
context_still old new same =
    subst (λ (context : Context). context ≡ record (after_calls 0 old) { standing = context.standing }) (sym same)
    (ap (λ (calls : ℕ). record old { calls = calls }) (omega arith))

-- nothing of its line was done but that heaps were taken and given, while the log and the outcomes went on
unfoldable pub does_still : {held : List ℕ} (count : ℕ) (did : List MailStep → Type 0) (doing : Doing) (old new : Moment) (steps : List MailStep)
    → did steps → Acts count old.hand new.hand held (doer_at old) (doer_at new) [] steps
    → ((heap : ℕ) → (new.parts heap).entries ≡ (old.parts heap).entries)
    → ((heap : ℕ) → (new.parts heap).serves ≡ (old.parts heap).serves) → IsSameParty old.party new.party
    → new.context ≡ old.context → new.party.asked ≡ old.party.asked → (more : List LogRecord) → new.log ≡ old.log ++ more
    → (outcomes : List AskLog) → new.asks ≡ old.asks ++ outcomes → Does held count did doing doing old new
unfolding Leads
does_still {held} count did doing old new steps made acts entries serves same known asked more log outcomes asks = record {
  trace = [];
  steps = steps;
  leads = refl;
  made = made;
  acts = acts;
  entries = λ heap. entries heap ∙ sym (append-nil (old.parts heap).entries);
  serves = serves;
  counted = context_still old.context new.context known;
  same = same;
  asked = asked_none new.log new.asks old.party.me old.party.asked new.party.asked asked;
  more = more;
  log = log;
  outcomes = outcomes;
  asks = asks;
}

-- nothing was done
unfoldable pub does_same : (count : ℕ) (did : List MailStep → Type 0) (doing : Doing) (moment : Moment) → did []
    → Does [] count did doing doing moment moment
does_same count did doing moment none =
    does_still count did doing moment moment [] none (Acts.nothing moment.hand (doer_at moment)) (λ heap. refl) (λ heap. refl)
    (record { me = refl; socket = refl; plan = refl; deadline = refl }) refl refl [] (sym (append-nil moment.log)) []
    (sym (append-nil moment.asks))

-- who goes on with what it knows is the one that it came to
pub goes_as : (doer after : ParticipantView) → after.context ≡ doer.context → with_party after.party doer ≡ after
goes_as doer after knew = ap (λ (context : Context). with_context context after) (sym knew)
