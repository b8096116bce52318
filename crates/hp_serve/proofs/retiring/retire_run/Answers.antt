-- The run is the heap's own, and what is left of the part is without it.
use Rattle.std.proofs.Common.{◌≡◌, ◌∙◌, [], ◌∷◌, ap, sym, subst}
use Rattle.hp_hall.specs.Giving.{GivesSegments}
use Rattle.hp_hall.specs.HallState.{Did, known_to}
use Rattle.hp_hall.proofs.HallStates.{did_then}
use Rattle.hp_hall.specs.Holding.{part_after}
use Rattle.hp_hall.proofs.StandingFacts.StandingCuts.{retire_takes_pages}
use Rattle.hp_hall.proofs.StandingFacts.StandingRetires.{retire_leaves_others, retire_takes_rows}
use Rattle.hp_segs.specs.SegsView.{SegsView, is_member}
use Rattle.hp_serve.specs.Asking.{HasSettledAsks}
use Rattle.hp_serve.specs.Serving.{gives_segments}
use Rattle.hp_serve.proofs.AskingFacts.Noting.{gives_in_place}
use Rattle.hp_serve.proofs.AskingFacts.Retired.{gives_up, owns_run, part_stays, retire_gives, settled_behind}
use Rattle.hp_serve.proofs.Standing.{standing_with}
use Rattle.hp_serve.proofs.SegmentSlots.{Took, gave_parts, took_serves}
use Rattle.hp_serve.proofs.retiring.retire_run.Goals as goal

pub take_segments-segs-requires : goal.take_segments-segs-requires
take_segments-segs-requires g c = record { serves = c.requires.may.serves; home = c.requires.may.home }

pub give_back-requires-clause-serves : goal.give_back-requires-clause-serves
give_back-requires-clause-serves g c =
    let is = c.take_segments-segs.ensures in
    let took : Took c.args.me c.take_segments-segs.result (g.H.Hall.state c.args.hall.now) (g.H.Hall.state c.take_segments-segs.new.hall) =
    record { may = c.requires.may; took = is.took; slots = is.slots; others = is.others; measure = is.measure } in
    took_serves took

pub retire-requires : goal.retire-requires
retire-requires g c =
    let me = c.args.me in
    let segs = c.take_segments-segs.result in
    let old = (g.H.Hall.state c.args.hall.now).part me in
    let cut = c.requires.cut in
    let standing =
    standing_with me ((g.H.Hall.state c.take_segments-segs.new.hall).part me) old segs (λ heap. sym (c.take_segments-segs.ensures.took.part heap))
    c.take_segments-segs.ensures.took.stands in
    record {
      owned = owns_run me c.args.heap c.args.run.now old segs c.take_segments-segs.ensures.took.sound standing cut.0 cut.2
          retire_takes_pages cut.1 cut.3;
    }

pub give_back-requires-clause-gives : goal.give_back-requires-clause-gives
give_back-requires-clause-gives g c =
    let me = c.args.me in
    let segs = c.take_segments-segs.result in
    let hall = c.take_segments-segs.new.hall in
    let old = (g.H.Hall.state c.args.hall.now).part me in
    let cut = c.requires.cut in
    let standing =
    standing_with me ((g.H.Hall.state hall).part me) old segs (λ heap. sym (c.take_segments-segs.ensures.took.part heap))
    c.take_segments-segs.ensures.took.stands in
    let knows = known_to me (g.H.Hall.state hall) in
    gives_in_place knows segs c.retire.new.self c.take_segments-segs.ensures.took.taken
    (subst (GivesSegments knows segs) (sym c.retire.ensures.step)
    (retire_gives me c.args.heap c.args.run.now old segs c.take_segments-segs.ensures.took.sound standing cut.0 cut.2 retire_takes_pages cut.1
    cut.3
    retire_leaves_others knows c.take_segments-segs.ensures.took.part))

pub returns-clause-gives_up : goal.returns-clause-gives_up
returns-clause-gives_up g c =
    let me = c.args.me in
    let segs = c.take_segments-segs.result in
    let old = (g.H.Hall.state c.args.hall.now).part me in
    let cut = c.requires.cut in
    let standing =
    standing_with me ((g.H.Hall.state c.take_segments-segs.new.hall).part me) old segs (λ heap. sym (c.take_segments-segs.ensures.took.part heap))
    c.take_segments-segs.ensures.took.stands in
    gives_up me c.args.heap c.args.run.now old segs c.take_segments-segs.ensures.took.sound standing cut.0 cut.2 retire_takes_pages cut.1 cut.3
    retire_leaves_others retire_takes_rows ((g.H.Hall.state c.give_back.new.hall).part me)
    (λ heap. subst (λ (given : SegsView). (g.H.Hall.state c.give_back.new.hall).part me heap ≡ part_after me given heap (old heap))
    c.retire.ensures.step
    (c.give_back.ensures.back.gave.part heap ∙ ap (part_after me c.retire.new.self heap) (c.take_segments-segs.ensures.took.part heap)))

pub returns-clause-others : goal.returns-clause-others
returns-clause-others g c = λ other apart.
    let me = c.args.me in
    let segs = c.take_segments-segs.result in
    let old = (g.H.Hall.state c.args.hall.now).part me in
    let cut = c.requires.cut in
    let standing =
    standing_with me ((g.H.Hall.state c.take_segments-segs.new.hall).part me) old segs (λ heap. sym (c.take_segments-segs.ensures.took.part heap))
    c.take_segments-segs.ensures.took.stands in
    part_stays me c.args.heap c.args.run.now old segs c.take_segments-segs.ensures.took.sound standing cut.0 cut.2 retire_takes_pages cut.1 cut.3
    retire_leaves_others retire_takes_rows ((g.H.Hall.state c.give_back.new.hall).part me)
    (λ heap. subst (λ (given : SegsView). (g.H.Hall.state c.give_back.new.hall).part me heap ≡ part_after me given heap (old heap))
    c.retire.ensures.step
    (c.give_back.ensures.back.gave.part heap ∙ ap (part_after me c.retire.new.self heap) (c.take_segments-segs.ensures.took.part heap))) other apart

pub returns-clause-settled : goal.returns-clause-settled
returns-clause-settled g c = λ settled.
    let me = c.args.me in
    let old = g.H.Hall.state c.args.hall.now in
    let new = g.H.Hall.state c.give_back.new.hall in
    let segs = c.take_segments-segs.result in
    let took = c.take_segments-segs.ensures.took in
    let grown = c.take_segments-segs.ensures.others.later.heard me in
    let heard : segs.asks ≡ new.heard me =
    ap (λ (segs : SegsView). segs.asks) (sym c.retire.ensures.step) ∙ c.give_back.ensures.back.gave.asks in
    subst (HasSettledAsks (new.part me)) heard
    (settled_behind c.args.heap c.args.run.now (old.part me) (new.part me) segs (old.heard me) grown.0 took.sound (took.asks ∙ grown.1)
    (returns-clause-gives_up g c) (returns-clause-others g c) settled)

pub returns-clause-mapped : goal.returns-clause-mapped
returns-clause-mapped g c = c.give_back.ensures.back.gave.mapped

pub returns-clause-did : goal.returns-clause-did
returns-clause-did g c = (
  c.take_segments-segs.result,
  did_then c.take_segments-segs.ensures.took.did
      (subst (λ given. Did c.args.me (gives_segments given ∷ []) (g.H.Hall.state c.take_segments-segs.new.hall) (g.H.Hall.state c.give_back.new.hall))
      c.retire.ensures.step
      c.give_back.ensures.back.gave.did),
)

pub returns-clause-stays : goal.returns-clause-stays
returns-clause-stays g c =
    let is = c.take_segments-segs.ensures in
    let took : Took c.args.me c.take_segments-segs.result (g.H.Hall.state c.args.hall.now) (g.H.Hall.state c.take_segments-segs.new.hall) =
    record { may = c.requires.may; took = is.took; slots = is.slots; others = is.others; measure = is.measure } in
    gave_parts took (ap (λ (segs : SegsView). is_member segs.roster c.args.me) c.retire.ensures.step) c.give_back.ensures.back

pub returns-clause-goes_on : goal.returns-clause-goes_on
returns-clause-goes_on g c = g.met.H.Hall.goes_on_then _ _ _ c.take_segments-segs.ensures.goes_on c.give_back.ensures.goes_on
