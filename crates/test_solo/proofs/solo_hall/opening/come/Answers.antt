-- Who comes has taken in nothing.
use Rattle.std.proofs.Common.{◌∙◌, sym}
use Rattle.hp_solo.proofs.SoloWaits.{tied_first}
use Rattle.test_solo.proofs.solo_hall.opening.come.Goals as goal

pub back-requires-clause-tied : goal.back-requires-clause-tied
back-requires-clause-tied c =
    rw c.in_ok-judged.ensures.ok
    (tied_first c.args.hall.now.plain c.args.me c.in_ok-server.server c.requires.nothing_yet
    (c.requires.joined ∙ sym c.in_ok-server.ensures.joined) c.requires.unmarked c.in_ok-server.ensures.number c.in_ok-server.ensures.tied)
