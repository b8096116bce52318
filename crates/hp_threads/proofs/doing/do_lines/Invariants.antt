use Rattle.std.proofs.Common.{◌≡◌, ◌≤◌, length, take}
use Rattle.hp_proc.specs.LineInHall.{IsReadyAgain}
use Rattle.hp_threads.specs.Working.{HasDoneOwn}
use Rattle.hp_threads.proofs.doing.do_lines.Given as goal

abbrev pub invariant-loop-line : goal.invariant-loop-line
invariant-loop-line g l = record {
  again : IsReadyAgain l.initial.participant.party.me l.initial.participant l.participant (g.H.Hall.state l.hall);
  done : HasDoneOwn l.fn.workload l.initial.participant.party.me (take l.line-index l.lines) l.answers l.initial.participant
      l.participant (g.H.Hall.state l.hall);
  counted : length l.answers ≡ l.done;
  few : l.done ≤ l.line-index;
  goes_on : g.H.Hall.goes_on l.initial.hall l.hall;
}
