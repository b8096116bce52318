-- The lemmas of the laws: outcomes stay, traces join, and entries are numbered on.
use Rattle.std.proofs.Common.{◌≡◌, ◌∙◌, ap, subst, arith, ℕ, zero, suc, ◌+◌, ◌-◌, Bool, List, [], ◌∷◌, ◌++◌, length, find, Option, Some, None, slice_get}
use Rattle.std.specs.Option.{option_or, option_and_then}
use Rattle.std.proofs.lemmas.List.Folds.{find-append}
use Rattle.hp_base.specs.declared.row.Run.{Run}
use Rattle.hp_log.specs.declared.log_record.LogRecord.{LogRecord}
use Rattle.hp_segs.specs.SegsView.{added_run, is_outcome_for}
use Rattle.hp_segs.specs.declared.outcome.AskLog.{AskLog}
use Rattle.hp_segs.specs.declared.outcome.Outcome.{Outcome}
use Rattle.hp_segs.specs.declared.outcome.Outcome.TheVariants.{Granted, Refused, Stale, Freed}
use Rattle.hp_proc.specs.Doing.{Doing, Done, Goes, Leads}
use Rattle.hp_serve.specs.declared.pages_asked.PagesAsked.{PagesAsked}
use Rattle.hp_proc.specs.Doing.Doing.{Then, Ended}
use Rattle.hp_proc.specs.Courses.{OwnCall}
use Rattle.hp_proc.specs.Histories.{entries_for}
use Rattle.hp_serve.specs.Asking.{Gives}
use Rattle.hp_proc.specs.Outcomes.{IsAnsweredSo}

-- a run that a record adds is added by the record of that place in every longer log
run_stays : (log more : List LogRecord) (place : ℕ) (run : Run)
    → option_and_then added_run (slice_get log place) ≡ Some run → option_and_then added_run (slice_get (log ++ more) place) ≡ Some run
run_stays [] more place run is = grind arith
run_stays (entry ∷ log) more zero run is = is
run_stays (entry ∷ log) more (suc place) run is = run_stays log more place run is

pub gives_stays : (log more : List LogRecord) (outcome : Outcome) (run : Option Run) → Gives log outcome run → Gives (log ++ more) outcome run
gives_stays log more (Granted generation) (Some run) given = run_stays log more (generation - 1) run given
gives_stays log more (Granted generation) None given = elim given [ ]
gives_stays log more (Refused cause) None given = given
gives_stays log more (Refused cause) (Some run) given = elim given [ ]
gives_stays log more (Stale done) run given = elim given [ ]
gives_stays log more (Freed generation) run given = elim given [ ]

-- what is found stays found
pub find_stays : {X : Type 0} → (p : X → Bool) (xs more : List X) (x : X) → find p xs ≡ Some x → find p (xs ++ more) ≡ Some x
find_stays p xs more x found = find-append p xs more ∙ ap (λ first. option_or first (find p more)) found

pub stays_answered : (log : List LogRecord) (logged : List AskLog) (more : List LogRecord) (others : List AskLog) (who number : ℕ) (asked : PagesAsked)
    (run : Option Run) → IsAnsweredSo log logged who number asked run → IsAnsweredSo (log ++ more) (logged ++ others) who number asked run
stays_answered log logged more others who number asked run so = record {
  entry = so.entry;
  logged = find_stays (is_outcome_for who number) logged others so.entry so.logged;
  kept = so.kept;
  given = gives_stays log more so.entry.outcome run so.given;
}

-- what is left of a tree has a property wherever it has one that this follows from
goes_further : (doing : Doing) (done : Done) (p q : Doing → Type 0) → ((next : Doing) → p next → q next)
    → Goes doing done p → Goes doing done q
unfolding Goes
goes_further (Then deed next) done p q on (given, is, left) = (given, is, on (next given) left)
goes_further (Ended answer) done p q on left = elim left [ ]

pub leads_on : (doing : Doing) (first second : List Done) (rest left : Doing)
    → Leads doing first rest → Leads rest second left → Leads doing (first ++ second) left
unfolding Leads
leads_on doing [] second rest left here further = subst (λ doing. Leads doing second left) here further
leads_on doing (done ∷ first) second rest left leads further =
    goes_further doing done (λ next. Leads next first rest) (λ next. Leads next (first ++ second) left)
    (λ next on. leads_on next first second rest left on further) leads

pub entries_go_on : (who heap number : ℕ) (own more : List OwnCall)
    → entries_for who heap number (own ++ more) ≡ entries_for who heap number own ++ entries_for who heap (number + length own) more
entries_go_on who heap number [] more = grind arith
entries_go_on who heap number (call ∷ own) more = grind (arith, entries_go_on who heap (number + 1) own more)
