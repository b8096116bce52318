-- The claim may be given back.
use Rattle.std.proofs.Common.{sym, subst}
use Rattle.hp_hall.specs.Giving.{GivesSegments}
use Rattle.hp_hall.specs.HallState.{known_to}
use Rattle.hp_segs.specs.SegsView.{SegsView}
use Rattle.hp_serve.specs.SegmentSlot.{GivesBack}
use Rattle.hp_serve.proofs.AskingFacts.AskSettled.{claim_gives}
use Rattle.hp_serve.proofs.AskingFacts.Noting.{gives_in_place}
use Rattle.hp_serve.proofs.settling.claim_taken.Goals as goal

pub give_back-requires-clause-gives : goal.give_back-requires-clause-gives
give_back-requires-clause-gives g c =
    let me = c.args.ask.now.from in
    let knows = known_to me (g.H.Hall.state c.args.hall.now) in
    gives_in_place knows c.args.segs c.claim-run.new.self c.requires.taken
    (subst (GivesSegments knows c.args.segs) (sym c.claim-run.ensures.step)
    (claim_gives knows me c.args.ask.now.number c.args.segs c.requires.granted c.requires.held))

pub returns-clause-back : goal.returns-clause-back
returns-clause-back g c =
    subst (λ (given : SegsView). GivesBack c.args.ask.now.from given (g.H.Hall.state c.args.hall.now) (g.H.Hall.state c.give_back.new.hall))
    c.claim-run.ensures.step c.give_back.ensures.back
