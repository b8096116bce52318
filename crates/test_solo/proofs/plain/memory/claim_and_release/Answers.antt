-- What is claimed under the names is known to who has them in hand, and released under them.
use Rattle.std.proofs.Common.{Some, ap, sym, subst, ◌∙◌}
use Rattle.hp_base.specs.declared.limits.TheConstants.{MAX_HEAPS}
use Rattle.hp_hall.specs.declared.kept.Kept.TheVariants.{Segments}
use Rattle.hp_hall.specs.Giving.{GivesSegments, Knows}
use Rattle.hp_hall.proofs.Gives.{gives_taken}
use Rattle.hp_hall.proofs.HallStates.{but_then}
use Rattle.hp_plain.proofs.Given.{known}
use Rattle.hp_plain.specs.PlainState.{plain_state}
use Rattle.test_solo.specs.Claiming.{IsClaimed}
use Rattle.test_solo.proofs.Claims.{agree_again, all_released, gives_released, may_release, naming_again, naming_first, takes_segs}
use Rattle.test_solo.proofs.plain.memory.claim_and_release.Goals as goal

pub give-requires-clause-gives : goal.give-requires-clause-gives
give-requires-clause-gives c =
    let me = c.args.me in
    let taken = c.take.new.self in
    let knows : Knows = known taken me in
    let segs = c.into_segments-segs.result in
    let takes = takes_segs me c.take.result segs (plain_state c.args.hall.now) (plain_state taken) c.take.ensures.took c.into_segments-segs.ensures in
    gives_taken knows MAX_HEAPS (Segments segs) (Segments c.claim.new.segs) (c.take.ensures.took.taken ∙ ap Some c.into_segments-segs.ensures)
    (c.claim.ensures.gives knows (naming_first me c.args._names.now c.args.hall.now taken segs c.requires.agrees takes c.sound.ensures))

pub release-requires : goal.release-requires
release-requires c =
    let me = c.args.me in
    let first = c.args.hall.now in
    let taken = c.take.new.self in
    let between = c.give.new.self in
    let later = c.take-2.new.self in
    let segs = c.into_segments-segs.result in
    let again = c.into_segments-again.result in
    let takes = takes_segs me c.take.result segs (plain_state first) (plain_state taken) c.take.ensures.took c.into_segments-segs.ensures in
    let takes_again = takes_segs me c.take-2.result again (plain_state between) (plain_state later) c.take-2.ensures.took c.into_segments-again.ensures in
    let is : IsClaimed c.ok-list.result segs c.claim.new.segs =
    subst (λ list. IsClaimed list segs c.claim.new.segs) (sym c.ok-list.ensures.value) c.claim.ensures.claimed in
    record {
      claimed = may_release me c.args._names.now first taken segs c.requires.agrees takes between later c.ok-list.result c.claim.new.segs again is
          c.give.ensures.gave.part takes_again;
    }

pub give-requires-2-clause-gives : goal.give-requires-2-clause-gives
give-requires-2-clause-gives c =
    let me = c.args.me in
    let first = c.args.hall.now in
    let taken = c.take.new.self in
    let between = c.give.new.self in
    let later = c.take-2.new.self in
    let segs = c.into_segments-segs.result in
    let again = c.into_segments-again.result in
    let list = c.ok-list.result in
    let takes = takes_segs me c.take.result segs (plain_state first) (plain_state taken) c.take.ensures.took c.into_segments-segs.ensures in
    let takes_again = takes_segs me c.take-2.result again (plain_state between) (plain_state later) c.take-2.ensures.took c.into_segments-again.ensures in
    let is : IsClaimed list segs c.claim.new.segs =
    subst (λ list. IsClaimed list segs c.claim.new.segs) (sym c.ok-list.ensures.value) c.claim.ensures.claimed in
    let knows : Knows = known later me in
    let naming = naming_again me c.args._names.now first taken segs c.requires.agrees takes between later list c.claim.new.segs again is
    c.give.ensures.gave.part takes_again c.sound-2.ensures in
    let may = may_release me c.args._names.now first taken segs c.requires.agrees takes between later list c.claim.new.segs again is
    c.give.ensures.gave.part takes_again in
    gives_taken knows MAX_HEAPS (Segments again) (Segments c.release.new.segs) (c.take-2.ensures.took.taken ∙ ap Some c.into_segments-again.ensures)
    (subst (GivesSegments knows again) (sym c.release.ensures) (gives_released knows again list may naming
    (all_released me c.args._names.now first taken segs c.requires.agrees takes between later list c.claim.new.segs again is
    c.give.ensures.gave.part takes_again)))

pub returns-clause-agrees : goal.returns-clause-agrees
returns-clause-agrees c =
    let me = c.args.me in
    let first = c.args.hall.now in
    let taken = c.take.new.self in
    let between = c.give.new.self in
    let later = c.take-2.new.self in
    let segs = c.into_segments-segs.result in
    let again = c.into_segments-again.result in
    let list = c.ok-list.result in
    let takes = takes_segs me c.take.result segs (plain_state first) (plain_state taken) c.take.ensures.took c.into_segments-segs.ensures in
    let takes_again = takes_segs me c.take-2.result again (plain_state between) (plain_state later) c.take-2.ensures.took c.into_segments-again.ensures in
    let is : IsClaimed list segs c.claim.new.segs =
    subst (λ list. IsClaimed list segs c.claim.new.segs) (sym c.ok-list.ensures.value) c.claim.ensures.claimed in
    agree_again me c.args._names.now first taken segs c.requires.agrees takes between later list c.claim.new.segs again is
    c.give.ensures.gave.part takes_again c.give-2.new.self (rw (sym c.release.ensures) c.give-2.ensures.gave.part)

pub returns-clause-slots : goal.returns-clause-slots
returns-clause-slots c = but_then c.take.ensures.slots (but_then c.give.ensures.slots (but_then c.take-2.ensures.slots c.give-2.ensures.slots))
