-- One line more: its own, or another's.
use Rattle.std.proofs.Common.{◌≡◌, ◌≢◌, ◌∙◌, ℕ, ◌+◌, ◌≤◌, List, [], ◌∷◌, ◌++◌, take, length, get_or, refl, sym, ap, subst, arith}
use Rattle.std.proofs.lemmas.List.{length_push, take_all}
use Rattle.hp_hall.specs.HallState.{HallState}
use Rattle.hp_script.specs.declared.answer.Answer.{Answer}
use Rattle.hp_script.specs.declared.line.Line.{Line}
use Rattle.hp_serve.specs.Party.{Party}
use Rattle.hp_proc.specs.ParticipantView.{ParticipantView}
use Rattle.hp_proc.specs.Progress.{MayComeAndGo}
use Rattle.hp_proc.proofs.HandFacts.Holds.{again_line}
use Rattle.hp_threads.specs.Working.{CanBeDone, HasDoneOwn}
use Rattle.hp_threads.proofs.NextLines.{line_awaits, line_may, line_next}
use Rattle.hp_threads.proofs.OwnLines.{again_as, other_more, own_as, own_count, own_more, own_next, own_none, own_still}
use Rattle.hp_threads.proofs.WorkSteps.{again_ready, again_then}
use Rattle.hp_threads.proofs.doing.do_lines.Goals.{else-line-who, then-line-who+in_ok-answer+in_ok-push}
use Rattle.hp_threads.proofs.doing.do_lines.Goals as goal

pub loop-line-init : goal.loop-line-init
loop-line-init g c =
    let doer = c.args.participant.now in
    let none = c.requires.none in
    record {
      again = again_line doer c.requires.first.ready;
      done = subst (λ (answers : List Answer). HasDoneOwn c.args.workload.now doer.party.me [] answers doer doer (g.H.Hall.state c.args.hall.now))
          (sym none) (own_none c.args.workload.now doer.party.me doer c.requires.first);
      counted = ap (λ (answers : List Answer). length answers) none;
      few = omega arith;
      goes_on = g.met.H.Hall.goes_on_same _;
    }

pub do_next-requires : goal.do_next-requires
do_next-requires g c =
    let workload = c.args.workload.now in
    let lines = c.as_slice-lines.result.now in
    let can : CanBeDone workload.participants lines = subst (CanBeDone workload.participants) (sym c.as_slice-lines.ensures.value) c.requires.lines in
    let line = c.line-item.result in
    let was = c.loop-line.invariant in
    let first = c.args.participant.now in
    let doer = c.loop-line.participant in
    let who : c.number-who.result ≡ first.party.me = c.number-who.ensures ∙ ap (λ (party : Party). party.me) c.server.ensures in
    let own : line.participant ≡ first.party.me = c.if-line-who.true ∙ who in
    let is : line ≡ get_or lines c.loop-line.line-index line = c.line-item.is in
    let now : HallState = g.H.Hall.state c.loop-line.hall in
    let told : now.lines first.party.me ≡ c.loop-line.done =
    was.done.worked.told
    ∙ (own_count workload first.party.me first (take c.loop-line.line-index lines) c.loop-line.answers doer was.done ∙ was.counted) in
    record {
      can = record {
        own = own ∙ sym was.again.same.me;
        next = line_next workload.participants lines can c.loop-line.line-index line c.loop-line-test.true is workload first.party.me
            was.done.courses doer.context was.done.worked.done.knows was.done.lines_are;
        may = (
          subst (λ (me : ℕ). MayComeAndGo me line.act) (own ∙ sym was.again.same.me)
              (line_may workload.participants lines can c.loop-line.line-index line c.loop-line-test.true is),
          line_awaits workload.participants lines can c.loop-line.line-index line c.loop-line-test.true is now was.done.worked.count,
        );
        ready = again_ready first doer was.again;
        told = subst (λ (me : ℕ). now.lines me ≤ c.loop-line.done + 1) (sym was.again.same.me) (omega (arith, told));
      };
    }

pub loop-line-preserved : goal.loop-line-preserved
loop-line-preserved g c =
    let workload = c.args.workload.now in
    let lines : List Line = c.as_slice-lines.result.now in
    let k : ℕ = c.loop-line.line-index in
    let line : Line = c.line-item.result in
    let was = c.loop-line.invariant in
    let first = c.args.participant.now in
    let me : ℕ = first.party.me in
    let old = c.loop-line.participant in
    let before : HallState = g.H.Hall.state c.loop-line.hall in
    let last : ParticipantView = c.if-line-who.participant in
    let behind : HallState = g.H.Hall.state c.if-line-who.hall in
    let all : List Answer = c.if-line-who.answers in
    let who : c.number-who.result ≡ me = c.number-who.ensures ∙ ap (λ (party : Party). party.me) c.server.ensures in
    let is : line ≡ get_or lines k line = c.line-item.is in
    elim c.if-line-who.branch [
      | then-line-who+in_ok-answer+in_ok-push w ↦
          let is_done = w.in_ok-answer.ensures.does in
          let new = w.do_next.new.participant in
          let after : HallState = g.H.Hall.state w.do_next.new.hall in
          let given : Answer = w.in_ok-answer.answer in
          let own : line.participant ≡ me = w.if-line-who.true ∙ who in
          let answers : all ≡ c.loop-line.answers ++ given ∷ [] = w.answers-is ∙ w.in_ok-push.ensures in
          let more : HasDoneOwn workload me (take (k + 1) lines) (c.loop-line.answers ++ given ∷ []) first new after =
          own_next workload me first (take k lines) (take (k + 1) lines) c.loop-line.answers line given old new c.loop-line.done was.done
          was.counted (is_done c.loop-line.done refl) (own_more lines k line c.loop-line-test.true is me own) in
          record {
            again = again_as me first new last after behind w.participant-is (ap g.H.Hall.state w.hall-is)
                (again_then first old new was.again w.do_next.ensures.again);
            done = own_as workload me first (take (k + 1) lines) (c.loop-line.answers ++ given ∷ []) all new last after behind answers
                w.participant-is (ap g.H.Hall.state w.hall-is) more;
            counted = ap (λ (answers : List Answer). length answers) answers
                ∙ length_push c.loop-line.answers given ∙ ap (λ (n : ℕ). n + 1) was.counted ∙ sym w.done-is;
            few = omega (arith, w.done-is, was.few);
            goes_on = subst (g.H.Hall.goes_on c.args.hall.now) (sym w.hall-is)
                (g.met.H.Hall.goes_on_then _ _ _ was.goes_on w.do_next.ensures.goes_on);
          }
      | else-line-who w ↦
          let apart : line.participant ≢ me = λ same. w.if-line-who.false (same ∙ sym who) in
          let still : HasDoneOwn workload me (take (k + 1) lines) c.loop-line.answers first old before =
          own_still workload me first (take k lines) (take (k + 1) lines) c.loop-line.answers old was.done
          (other_more lines k line c.loop-line-test.true is me apart) in
          record {
            again = again_as me first old last before behind w.participant-is (ap g.H.Hall.state w.hall-is) was.again;
            done = own_as workload me first (take (k + 1) lines) c.loop-line.answers all old last before behind w.answers-is w.participant-is
                (ap g.H.Hall.state w.hall-is) still;
            counted = ap (λ (answers : List Answer). length answers) w.answers-is ∙ was.counted ∙ sym w.done-is;
            few = omega (arith, w.done-is, was.few);
            goes_on = subst (g.H.Hall.goes_on c.args.hall.now) (sym w.hall-is) was.goes_on;
          }
    ]

pub returns : goal.returns
returns g c =
    let workload = c.args.workload.now in
    let lines : List Line = c.as_slice-lines.result.now in
    let was = c.loop-line.invariant in
    let first = c.args.participant.now in
    let all : take c.loop-line.line-index lines ≡ workload.lines.items =
    take_all c.loop-line.line-index lines (omega (arith, c.loop-line-test.false)) ∙ c.as_slice-lines.ensures.value in
    record {
      again = was.again;
      done = subst
          (λ (front : List Line). HasDoneOwn workload first.party.me front c.loop-line.answers first c.loop-line.participant
          (g.H.Hall.state c.loop-line.hall))
          all was.done;
      goes_on = was.goes_on;
    }

pub returns-in_err-push-clause-goes_on : goal.returns-in_err-push-clause-goes_on
returns-in_err-push-clause-goes_on g c = g.met.H.Hall.goes_on_then _ _ _ c.loop-line.invariant.goes_on c.do_next.ensures.goes_on

pub returns-in_err-answer-clause-goes_on : goal.returns-in_err-answer-clause-goes_on
returns-in_err-answer-clause-goes_on g c = g.met.H.Hall.goes_on_then _ _ _ c.loop-line.invariant.goes_on c.do_next.ensures.goes_on
