-- An allocation line whose request is refused, and one whose request is served.
use Rattle.std.proofs.Common.{refl, sym}
use Rattle.hp_hall.proofs.HallStates.{did_same}
use Rattle.hp_proc.specs.LineInHall.{did_in, moment}
use Rattle.hp_proc.proofs.AllocLines.{line_refused}
use Rattle.hp_proc.proofs.HandFacts.Holds.{again_line}
use Rattle.hp_proc.proofs.participant.Participant.do_alloc.Goals as goal

pub returns-in-Err-clause-does : goal.returns-in-Err-clause-does
returns-in-Err-clause-does g c =
    let doer = c.args.self.now in
    let hall = g.H.Hall.state c.args.hall.now in
    let me = doer.party.me in
    let at = moment me doer hall in
    let label = c.requires.act in
    line_refused c.args.line.now label.0 c.args.size c.args.options.now label.1 at c.requires.attached refl hall.count
    (did_in me hall hall) c.in-Err.kind (sym c.in-Err.ensures.refused) (did_same me hall)

pub serve_line-requires-clause-asks : goal.serve_line-requires-clause-asks
serve_line-requires-clause-asks g c = record {
  label = c.requires.act.0;
  size = c.args.size;
  its_act = c.requires.act.1;
  accepted = sym c.in-Ok.ensures.refused;
  is = record {
    size_is = c.in-Ok.ensures.size;
    align_is = c.in-Ok.ensures.align;
    bound_is = c.in-Ok.ensures.bound;
    flags_are = c.in-Ok.ensures.flags;
  };
}

pub returns-in-Err-clause-ready : goal.returns-in-Err-clause-ready
returns-in-Err-clause-ready g c = again_line c.args.self.now c.requires.ready
