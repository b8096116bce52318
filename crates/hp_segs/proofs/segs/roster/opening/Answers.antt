-- One place more says who is present, and all do at the end.
use Rattle.std.proofs.Common.{◌<◌, ◌≢◌, false, length, arith, below_more, get_or-set_same, get_or-set_other}
use Rattle.std.proofs.Math.ListN.{length-set}
use Rattle.std.proofs.lemmas.List.FromFn.{fill_by_all}
use Rattle.hp_segs.specs.Opening.{is_present}
use Rattle.hp_segs.proofs.segs.roster.opening.Goals as goal

pub loop-participant-preserved : goal.loop-participant-preserved
loop-participant-preserved c = record {
  long = rw length-set c.loop-participant.invariant.long;
  places =
      below_more _ _
      (λ k below.
      let other : k ≢ c.loop-participant.participant = omega arith in
      rw get_or-set_other (c.loop-participant.invariant.places k below))
      (let within : c.loop-participant.participant < length c.loop-participant.roster =
      rw c.loop-participant.invariant.long (omega arith) in
      rw get_or-set_same c.is_present.ensures);
}

pub returns : goal.returns
returns c =
    fill_by_all
    (is_present c.args.participants c.args.absent)
    c.loop-participant.roster
    16
    false
    c.loop-participant.invariant.long
    (λ k below. c.loop-participant.invariant.places k (omega arith))
