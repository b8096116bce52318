use Rattle.std.proofs.Common.{◌≡◌, ◌+◌, ◌*◌, ◌≤◌, List}
use Rattle.hp_hall.specs.HallState.{Did, Stays}
use Rattle.hp_hall.specs.Mail.{MailStep}
use Rattle.hp_serve.specs.Posting.{AreTold, is_told, syncs_after}
use Rattle.hp_serve.proofs.posting.tell_each.Given as goal

abbrev pub invariant-loop-place : goal.invariant-loop-place
invariant-loop-place g l = record {
  counted : l.syncs ≡ syncs_after (is_told (g.H.Hall.state l.fn.hall).count l.members) l.fn.syncs l.place;
  told : (steps : List MailStep) × Did 0 steps (g.H.Hall.state l.fn.hall) (g.H.Hall.state l.hall)
      × AreTold l.plan l.fn.syncs l.frame (is_told (g.H.Hall.state l.fn.hall).count l.members) l.place steps;
  measure : (g.H.Hall.state l.hall).measure ≤ (g.H.Hall.state l.fn.hall).measure + g.H.Hall.scale * (6 * l.place);
  stays : Stays 0 (g.H.Hall.state l.fn.hall) (g.H.Hall.state l.hall);
  goes_on : g.H.Hall.goes_on l.fn.hall l.hall;
}
