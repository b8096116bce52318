-- Nothing is before a place where the number is above what was closed.
use Rattle.std.proofs.Common.{◌∙◌, ap, arith}
use Rattle.std.specs.List.{find}
use Rattle.hp_segs.specs.SegsView.{is_outcome_for}
use Rattle.hp_segs.proofs.NewLemmas.{take_all}
use Rattle.hp_segs.proofs.SinceLemmas.{none_above}
use Rattle.hp_segs.proofs.asks.Asks.since.Goals as goal

pub returns-then-is_above-clause-none : goal.returns-then-is_above-clause-none
returns-then-is_above-clause-none c =
    let entries = c.self.inside.entries.items in
    let above = rw (← c.self.view_is) at (c.is_above.ensures c.if-is_above.true) in
    rw (← c.self.view_is)
    (ap (find (is_outcome_for c.args.from c.args.number)) (take_all entries c.len-len.result (omega (arith, c.len-len.ensures, c.self.inside.entries.ok)))
    ∙ none_above entries c.args.from c.args.number above)

pub returns-then-begins-clause-none : goal.returns-then-begins-clause-none
returns-then-begins-clause-none c = none_above _ c.args.from c.args.number (c.begins.ensures c.if-begins.true)
