-- The records of the log and the logged outcomes as the report shows them.
use Rattle.std.specs.Prelude.{ℕ, List, ◌++◌, codes}
use Rattle.std.specs.List.{flat_map}
use Rattle.hp_base.specs.declared.map_answer.MapAnswer.{MapAnswer}
use Rattle.hp_base.specs.declared.map_answer.MapAnswer.TheVariants as got
use Rattle.hp_log.specs.declared.log_record.LogRecord.{LogRecord}
use Rattle.hp_log.specs.declared.log_record.LogRecord.TheVariants.{Add, Drop}
use Rattle.hp_script.specs.Answers.{address_text, number_text}
use Rattle.hp_segs.specs.SegsView.{SegsView}
use Rattle.hp_segs.specs.declared.outcome.AskLog.{AskLog}
use Rattle.hp_segs.specs.declared.outcome.Cause.{Cause}
use Rattle.hp_segs.specs.declared.outcome.Cause.TheVariants as why
use Rattle.hp_segs.specs.declared.outcome.Outcome.{Outcome}
use Rattle.hp_segs.specs.declared.outcome.Outcome.TheVariants as outcome
use Rattle.hp_report.specs.CallTexts.{range_text, run_text}
use Rattle.hp_report.specs.Numbered.{numbered}

-- a record with its generation: the range of its run, and the heap that it is added for
abbrev pub record_line : ℕ → LogRecord → List ℕ
record_line generation (Add run heap) = codes "rec" ++ number_text generation ++ codes " add" ++ run_text run ++ number_text heap ++ codes "\n"
record_line generation (Drop run) = codes "rec" ++ number_text generation ++ codes " drop" ++ run_text run ++ codes "\n"

-- what a mapping answered in place of the row's place
abbrev pub got_text : MapAnswer → List ℕ
got_text got.Refused = codes " refused"
got_text (got.At addr page socket) = address_text addr ++ number_text page ++ number_text socket

-- why an ask was refused, with its numbers
abbrev pub cause_text : Cause → List ℕ
cause_text why.NoList = codes " nolist"
cause_text (why.TooFew have need) = codes " toofew" ++ number_text have ++ number_text need
cause_text (why.ListFull longest need) = codes " listfull" ++ number_text longest ++ number_text need
cause_text (why.CannotHold addr len) = codes " cannothold" ++ range_text addr len
cause_text (why.Denied validator limit total) = codes " denied " ++ validator ++ number_text limit ++ number_text total
cause_text (why.MapFailed participant call addr answered) =
    codes " mapfailed" ++ number_text participant ++ number_text call ++ address_text addr ++ got_text answered
cause_text (why.Late participant from to) = codes " late" ++ number_text participant ++ number_text from ++ number_text to
cause_text (why.Withdrawn from to) = codes " withdrawn" ++ number_text from ++ number_text to

-- how an ask ended
abbrev pub ending_text : Outcome → List ℕ
ending_text (outcome.Granted generation) = codes " granted" ++ number_text generation
ending_text (outcome.Refused cause) = codes " refused" ++ cause_text cause
ending_text (outcome.Stale done) = codes " stale" ++ number_text done
ending_text (outcome.Freed generation) = codes " freed" ++ number_text generation

-- a logged outcome: whose ask, which, and how it ended
abbrev pub ask_line : AskLog → List ℕ
ask_line entry = codes "ask" ++ number_text entry.from ++ number_text entry.number ++ ending_text entry.outcome ++ codes "\n"

-- the records from generation 1 on
abbrev pub records_text : SegsView → List ℕ
records_text segs = numbered record_line 1 segs.log

-- the logged outcomes, in the order of the log
abbrev pub asks_text : SegsView → List ℕ
asks_text segs = flat_map ask_line segs.asks
