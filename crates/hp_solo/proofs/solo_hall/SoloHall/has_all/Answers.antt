use Rattle.std.proofs.Common.{◌≡◌, Bool, true, false, not, refl, sym, ap, ◌∙◌}
use Rattle.hp_solo.proofs.SoloEnds.{all_there, none_absent}
use Rattle.hp_solo.proofs.solo_hall.SoloHall.has_all.Goals as goal

off : (test : Bool) → not test ≡ true → test ≡ false
off true is = cc
off false is = refl

pub returns : goal.returns
returns g c =
    let servers = c.args.self.now.servers in
    let absent = c.has_absent.ensures in (
      λ all. all_there servers (sym absent ∙ off c.has_absent.result all),
      λ there. ap not (absent ∙ none_absent servers there),
    )
