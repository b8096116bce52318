-- What was granted came to the heap in hand, and was cut from there.
use Rattle.std.proofs.Common.{ℕ, Option, Some, sym, subst, IfSome}
use Rattle.hp_base.specs.declared.row.Run.{Run}
use Rattle.hp_serve.specs.Asking.{GrowsHeld}
use Rattle.hp_solo.specs.SoloAsks.{MayGiveUp}
use Rattle.test_solo.proofs.SoloOpened.{cuts_may}
use Rattle.test_solo.proofs.solo_hall.asking.cut_granted.Goals as goal

pub returns-in-Some-clause-cut : goal.returns-in-Some-clause-cut
returns-in-Some-clause-cut g c =
    let me = c.args.party.now.me in
    let old = (g.H.Hall.state c.args.hall.now).part me in
    let new = (g.H.Hall.state c.ask_for_page.new.hall).part me in
    let granted : GrowsHeld 0 (Some c.in-Some.run') (old 0) (new 0) =
    subst (λ (o : Option Run). GrowsHeld 0 o (old 0) (new 0)) c.in-Some.is c.in_ok-ask_for_page.ensures.grows in
    subst (λ (who : ℕ). IfSome c.grow_and_cut.result (MayGiveUp ((g.H.Hall.state c.ask_for_page.new.hall).part who))) (sym c.ask_for_page.ensures.me)
    (cuts_may old new c.args.heap.now.plain c.in-Some.run' c.requires.heap granted c.in-Some.run'.addr c.grow_and_cut.result c.grow_and_cut.ensures)
