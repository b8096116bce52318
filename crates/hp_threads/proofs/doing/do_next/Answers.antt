-- The gate lets it do its line.
use Rattle.std.proofs.Common.{ℕ, ◌+◌, ◌≤◌, ◌≡◌, sym, subst, ◌∙◌, arith}
use Rattle.std.specs.Prelude.{Result, Ok, Err, IfOk}
use Rattle.hp_hall.specs.HallState.{HallState}
use Rattle.hp_script.specs.declared.answer.Answer.{Answer}
use Rattle.hp_script.specs.declared.line.Line.{Line}
use Rattle.hp_proc.specs.Contexts.{Context, IsNextLine}
use Rattle.hp_proc.specs.ParticipantView.{ParticipantView}
use Rattle.hp_proc.specs.Progress.{MayComeAndGo}
use Rattle.hp_threads.specs.Working.{GoesOnWorking, WorksOneMore}
use Rattle.hp_threads.proofs.NextLines.{may_await_later}
use Rattle.hp_threads.proofs.WorkSteps.{again_ready, again_then, goes_more}
use Rattle.hp_threads.proofs.doing.do_next.Goals as goal

more_then : {E : Type 0} (result : Result Answer E) (line : Line) (done : ℕ) (first mid last : ParticipantView) (a b c : HallState)
    → GoesOnWorking first mid a b
    → IfOk result (λ given. (lines : ℕ) → lines + 1 ≡ done → WorksOneMore line given lines mid last b c)
    → IfOk result (λ given. (lines : ℕ) → lines + 1 ≡ done → WorksOneMore line given lines first last a c)
more_then (Ok given) line done first mid last a b c here next = λ lines many. goes_more line given lines first mid last here (next lines many)
more_then (Err refusal) line done first mid last a b c here next = tt

pub await_gate-requires : goal.await_gate-requires
await_gate-requires g c = record { ready = c.requires.can.ready }

pub do_told-requires : goal.do_told-requires
do_told-requires g c =
    let still = c.await_gate.ensures.still in
    let line = c.args.line.now in
    let mid = g.H.Hall.state c.await_gate.new.hall in
    let can = c.requires.can in
    record {
      can = record {
        own = can.own ∙ sym still.again.same.me;
        next = subst (λ (context : Context). IsNextLine context line) (sym still.context) can.next;
        may = (
          subst (λ (me : ℕ). MayComeAndGo me line.act) (sym still.again.same.me) can.may.0,
          may_await_later line.act (g.H.Hall.state c.args.hall.now) mid
              (g.met.H.Hall.goes_on_later _ _ c.await_gate.ensures.goes_on).count can.may.1,
        );
        ready = again_ready c.args.participant.now c.await_gate.new.participant still.again;
        told = subst (λ (me : ℕ). mid.lines me ≤ c.args.done) (sym still.again.same.me) (omega (arith, still.lines, can.told));
      };
    }

pub returns : goal.returns
returns g c =
    let first = c.args.participant.now in
    let mid = c.await_gate.new.participant in
    let last = c.do_told.new.participant in
    let is = c.do_told.ensures in
    record {
      again = again_then first mid last c.await_gate.ensures.still.again is.again;
      does = more_then c.do_told.result c.args.line.now c.args.done first mid last (g.H.Hall.state c.args.hall.now)
          (g.H.Hall.state c.await_gate.new.hall) (g.H.Hall.state c.do_told.new.hall) c.in_ok-await_gate.ensures.goes is.does;
      goes_on = g.met.H.Hall.goes_on_then _ _ _ c.await_gate.ensures.goes_on is.goes_on;
    }
