-- The first list that holds the address is the answer.
use Rattle.std.proofs.Common.{◌+◌, ◌∙◌, drop, get_or, sym}
use Rattle.std.proofs.lemmas.List.{drop_all, drop_more}
use Rattle.hp_view.proofs.StepLemmas.{list_holds, list_passed, no_list, no_slots}
use Rattle.hp_view.proofs.lists.list_at.Goals as goal

pub returns-then-holds : goal.returns-then-holds
returns-then-holds c =
    let lists = c.args.lists.now in
    let i = c.loop-list.list-index in
    let here = drop_more lists i no_slots c.loop-list-test.true in
    sym (list_holds c.args.addr (drop (i + 1) lists) (get_or lists i no_slots) (drop i lists) here (sym c.holds.ensures ∙ c.if-holds.true))
    ∙ c.loop-list.invariant

pub loop-list-preserved : goal.loop-list-preserved
loop-list-preserved c =
    let lists = c.args.lists.now in
    let i = c.loop-list.list-index in
    let here = drop_more lists i no_slots c.loop-list-test.true in
    sym (list_passed c.args.addr (drop (i + 1) lists) (get_or lists i no_slots) (drop i lists) here (sym c.holds.ensures ∙ c.if-holds.false))
    ∙ c.loop-list.invariant

pub returns : goal.returns
returns c = sym (no_list c.args.addr _ (drop_all c.loop-list.list-index c.args.lists.now c.loop-list-test.false)) ∙ c.loop-list.invariant
