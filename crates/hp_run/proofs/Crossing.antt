-- A mapper in memory may go to another thread: what it answered is a list that reaches itself, so this is shown by steps.
use denote.Param.Send.{IsSend, sendable}
use Rattle.std.proofs.Crossing.{crosses}
use Rattle.hp_base.specs.contracts.answers.Answers.{the_row as AnswersRow}
use Rattle.hp_base.proofs.answers.Answers.TheLaws.TheKnot as AnswersKnot
use Rattle.hp_base.specs.contracts.mapper.MemMapper.{the_row as MapperRow}
use Rattle.hp_base.proofs.failing_calls.FailingCalls.TheSendSync as Failing

answers_send : IsSend AnswersRow
answers_send = search (sendable, crosses, AnswersKnot.send-Answers) depth 30

pub mapper_send : IsSend MapperRow
mapper_send = search (sendable, crosses, answers_send, Failing.the_send) depth 60 fits 100000
