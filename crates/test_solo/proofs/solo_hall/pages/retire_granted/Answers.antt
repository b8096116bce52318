-- It may serve on, whether there was a run to give up or not.
use Rattle.std.proofs.Common.{sym, subst}
use Rattle.hp_serve.specs.InHall.{CanServe}
use Rattle.test_solo.proofs.solo_hall.pages.retire_granted.Goals.{in-Some, in_default}
use Rattle.test_solo.proofs.solo_hall.pages.retire_granted.Goals as goal

pub returns : goal.returns
returns g c =
    let party = c.cut_granted.new.party in
    elim c.match-run.branch [
      | in-Some w ↦
          record { can = subst (λ hall. CanServe party.me party (g.H.Hall.state hall)) (sym w.hall-is) w.retire.ensures.can }
      | in_default w ↦
          record { can = subst (λ hall. CanServe party.me party (g.H.Hall.state hall)) (sym w.hall-is) c.cut_granted.ensures.can }
    ]
