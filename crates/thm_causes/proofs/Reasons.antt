-- In one thread growths are refused, and asks taken back or stale, for reasons that the plan names, and where no message is lost nothing is
-- left to do at the end: all parts together.
use Rattle.thm_causes.specs.InTime.{LinesHearInTime, RestsHearInTime}
use Rattle.thm_causes.specs.Lines.{AreWaitsQuiet}
use Rattle.thm_causes.specs.Notices.{ThreadsHearNotices}
use Rattle.thm_causes.specs.Threads.{LeadInQuiet, ThreadsEndLevel, ThreadsHaveReasons}
use Rattle.thm_causes.specs.Waits.{AreServingsKnown}
use Rattle.thm_causes.proofs.AskStages.Asks.{asks_in_quiet}
use Rattle.thm_causes.proofs.CopyStages.CopiesServes.{primary_serves}
use Rattle.thm_causes.proofs.CoreServings.{coordinates}
use Rattle.thm_causes.proofs.LineFacts.Lines.{acts_in_quiet}
use Rattle.thm_causes.proofs.MemberSteps.MemberServes.{member_serves_once}
use Rattle.thm_causes.proofs.MemberSteps.MemberServings.{members_serve}
use Rattle.thm_causes.proofs.Owing.Notices.{notifies_in_quiet}
use Rattle.thm_causes.proofs.Owing.OwesNothing.{lines_owe_nothing}
use Rattle.thm_causes.proofs.PollSteps.PollingOn.{polls_on}
use Rattle.thm_causes.proofs.SharedAlong.{courses_go_along}
use Rattle.thm_causes.proofs.StartSteps.StartingFresh.{starts_fresh}
use Rattle.thm_causes.proofs.ThreadRuns.ThreadsBetween.{leads_by}
use Rattle.thm_causes.proofs.ThreadRuns.ThreadsInTime.{lines_hear_in_time, rests_hear_in_time}
use Rattle.thm_causes.proofs.ThreadRuns.ThreadsLevel.{threads_end_level}
use Rattle.thm_causes.proofs.ThreadRuns.ThreadsNotices.{threads_hear_notices}
use Rattle.thm_causes.proofs.ThreadRuns.ThreadsReasons.{threads_have_reasons}
use Rattle.thm_causes.proofs.TurnSteps.TurnsIdle.{turns_in_quiet}
use Rattle.thm_causes.proofs.WaitsEnd.{waits_out}
use Rattle.thm_causes.proofs.WeighingServings.{core_weighs_less, member_weighs_less}

-- what single servings make of a stage
servings_known : AreServingsKnown
servings_known = record {
  primary = primary_serves starts_fresh polls_on;
  member = member_serves_once;
  coordinates = coordinates;
  follows = members_serve;
  along = courses_go_along;
  core_lighter = core_weighs_less;
  member_lighter = member_weighs_less;
}

-- what turns, asks and notices make of a quiet world
waits_quiet : AreWaitsQuiet
waits_quiet = record {
  known = servings_known;
  turns = turns_in_quiet;
  asks = asks_in_quiet waits_out;
  notifies = notifies_in_quiet waits_out;
}

-- what lines make of one
lead : LeadInQuiet
lead = leads_by waits_quiet acts_in_quiet lines_owe_nothing

pub threads_reasons : ThreadsHaveReasons
threads_reasons = threads_have_reasons lead

pub threads_level : ThreadsEndLevel
threads_level = threads_end_level lead

pub threads_notices : ThreadsHearNotices
threads_notices = threads_hear_notices lead

pub threads_lines_in_time : LinesHearInTime
threads_lines_in_time = lines_hear_in_time lead

pub threads_rest_in_time : RestsHearInTime
threads_rest_in_time = rests_hear_in_time lead
