use Rattle.std.proofs.Common.{◌≡◌, ap, ◌∙◌, subst}
use Rattle.std.specs.List.{concat}
use Rattle.std.specs.Result.{OnErr, OnOk}
use Rattle.hp_report.specs.Adding.{way}
use Rattle.hp_report.specs.KnownNames.{known}
use Rattle.hp_report.specs.Names.{name_at}
use Rattle.hp_report.specs.Report.{parts, report}
use Rattle.hp_report.specs.Writing.{Holds, HoldsFront}
use Rattle.hp_report.proofs.AddingLemmas.{always, holds_front, holds_stopped, holds_whole}
use Rattle.hp_report.proofs.rendering.render.Goals as goal

pub returns-in_err-write_parts-clause-err : goal.returns-in_err-write_parts-clause-err
unfolding report
returns-in_err-write_parts-clause-err g c =
    let ended = c.args.ended.now in
    let named = c.in_ok-names.ensures ∙ ap name_at c.as_slice.ensures.value in
    always _ (subst (λ names. HoldsFront (g.K.Sink.held c.args.sink.now) (g.K.Sink.held c.write_parts.new.sink) (concat (parts names ended))) named
    (holds_stopped (way (g.K.Sink.held c.args.sink.now) (g.K.Sink.faults c.args.sink.now) c.in_ok-page.page)
    (way (g.K.Sink.held c.write_parts.new.sink) (g.K.Sink.faults c.write_parts.new.sink) c.write_parts.new.page)
    (way (g.K.Sink.held c.write_parts.new.sink) (g.K.Sink.faults c.write_parts.new.sink) c.write_parts.new.page)
    (concat (parts (known c.in_ok-names.names) ended)) c.in_ok-page.ensures c.in_err-write_parts.ensures))

pub returns-clause-ok : goal.returns-clause-ok
unfolding report
returns-clause-ok g c =
    let ended = c.args.ended.now in
    let named = c.in_ok-names.ensures ∙ ap name_at c.as_slice.ensures.value in
    subst (λ names. OnOk c.hand_on.result (Holds (g.K.Sink.held c.args.sink.now) (g.K.Sink.held c.hand_on.new.sink) (concat (parts names ended)))) named
    (holds_whole (way (g.K.Sink.held c.args.sink.now) (g.K.Sink.faults c.args.sink.now) c.in_ok-page.page)
    (way (g.K.Sink.held c.write_parts.new.sink) (g.K.Sink.faults c.write_parts.new.sink) c.write_parts.new.page)
    (way (g.K.Sink.held c.hand_on.new.sink) (g.K.Sink.faults c.hand_on.new.sink) c.hand_on.new.page)
    (concat (parts (known c.in_ok-names.names) ended)) c.in_ok-page.ensures c.hand_on.result c.in_ok-write_parts.ensures c.hand_on.ensures.adds c.hand_on.ensures.empty)

pub returns-clause-err : goal.returns-clause-err
unfolding report
returns-clause-err g c =
    let ended = c.args.ended.now in
    let named = c.in_ok-names.ensures ∙ ap name_at c.as_slice.ensures.value in
    subst (λ names. OnErr c.hand_on.result (HoldsFront (g.K.Sink.held c.args.sink.now) (g.K.Sink.held c.hand_on.new.sink) (concat (parts names ended)))) named
    (holds_front (way (g.K.Sink.held c.args.sink.now) (g.K.Sink.faults c.args.sink.now) c.in_ok-page.page)
    (way (g.K.Sink.held c.write_parts.new.sink) (g.K.Sink.faults c.write_parts.new.sink) c.write_parts.new.page)
    (way (g.K.Sink.held c.hand_on.new.sink) (g.K.Sink.faults c.hand_on.new.sink) c.hand_on.new.page)
    (concat (parts (known c.in_ok-names.names) ended)) c.in_ok-page.ensures c.hand_on.result c.in_ok-write_parts.ensures c.hand_on.ensures.adds)
