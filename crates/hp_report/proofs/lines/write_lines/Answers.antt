use Rattle.std.proofs.Common.{◌≡◌, true, [], refl, rules}
use Rattle.hp_report.proofs.AddingLemmas.{added_page, exits, exits_here, goes_on, line_made}
use Rattle.hp_report.proofs.lines.write_lines.Goals as goal

pub returns-in_err-more : goal.returns-in_err-more
returns-in_err-more g c = exits_here c.next.new.page c.from_residual.result c.lines.invariant c.from_residual.ensures.1

pub lines-preserved : goal.lines-preserved
lines-preserved g c =
    let yes : c.in_ok-more.more ≡ true = search rules in
    let line = line_made _ _ _ _ _ _ c.in_ok-more.more yes c.in_ok-more.ensures in
    goes_on [] _ (goes_on line.line _ c.lines.invariant (added_page _ _ _ _ line.line line.made) line.was) c.in_ok-hand_on_full.ensures refl

pub returns-in_err-hand_on_full : goal.returns-in_err-hand_on_full
returns-in_err-hand_on_full g c =
    let yes : c.in_ok-more.more ≡ true = search rules in
    let line = line_made _ _ _ _ _ _ c.in_ok-more.more yes c.in_ok-more.ensures in
    exits [] _ c.from_residual-in_err-hand_on_full.result _ (goes_on line.line _ c.lines.invariant (added_page _ _ _ _ line.line line.made) line.was)
    c.in_err-hand_on_full.ensures refl c.from_residual-in_err-hand_on_full.ensures.1 (λ other same. same)
