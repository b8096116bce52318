use Rattle.std.proofs.Common.{List, sym, subst}
use Rattle.hp_solo.specs.Solo.{IsSolo, AloneView}
use Rattle.hp_solo.proofs.SoloSeats.{solo_vacant}
use Rattle.hp_solo.proofs.solo_hall.SoloHall.new.Goals as goal

pub invariant_of-result : goal.invariant_of-result
invariant_of-result g c =
    subst (λ (servers : List AloneView). IsSolo (record { plain = c.args.plain; servers = servers })) (sym c.in_ok-servers.ensures)
    (solo_vacant c.args.plain c.participants.result c.participants.ensures)
