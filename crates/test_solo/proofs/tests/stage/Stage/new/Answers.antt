-- Both are tied when the hall opens, and still once participant 1 is armed.
use Rattle.std.proofs.Common.{◌≡◌, ◌∙◌, ℕ, subst, sym, ap, arith}
use Rattle.hp_base.specs.declared.limits.TheConstants.{MAX_HEAPS}
use Rattle.hp_hall.specs.Holding.{HeapPart}
use Rattle.hp_plain.specs.HallView.{joined_in, own_at}
use Rattle.hp_serve.proofs.MemberLemmas.{at_each}
use Rattle.hp_serve.specs.Party.{Party}
use Rattle.hp_proc.specs.Contexts.{Context}
use Rattle.hp_proc.specs.ParticipantView.{ParticipantView}
use Rattle.test_solo.proofs.Callers.{stage_holds}
use Rattle.hp_solo.specs.Solo.{marked_at}
use Rattle.test_solo.proofs.StageLemmas.{AreMarkedAlike, IsStaged, IsStagedWith, staged_new, staged_to}
use Rattle.test_solo.proofs.tests.stage.Stage.new.Goals as goal

pub arm_first-requires : goal.arm_first-requires
arm_first-requires c =
    let hall = c.in_ok-hall.hall in
    let opening = c.in_ok-hall.ensures.opening in
    record {
      may = stage_holds hall 1 (omega (arith, opening.two)) (opening.home MAX_HEAPS (omega arith));
      few = omega arith;
      home = opening.home 0 (omega arith);
      unarmed = opening.unarmed 1;
      first = c.in_ok-asked.ensures;
    }

pub invariant_of-result : goal.invariant_of-result
invariant_of-result c =
    let opened = c.in_ok-hall.hall in
    let armed = c.arm_first.new.hall in
    let opening = c.in_ok-hall.ensures.opening in
    let did = c.arm_first.ensures in
    let joins = at_each (λ n. joined_in armed n ≡ joined_in opened n) 1 did.joined did.others.joined in
    let marks : AreMarkedAlike opened armed =
    at_each (λ n. (heap : ℕ) → marked_at armed n heap ≡ marked_at opened n heap) 1 did.marked
    (λ n apart heap. ap (λ (p : HeapPart). p.marked) (did.others.part n heap apart)) in
    subst (λ (secondary : ParticipantView). IsStagedWith armed c.in_ok-primary.primary secondary) (sym c.new-secondary.ensures) (
      subst (λ (party : Party). IsStaged armed c.in_ok-primary.primary party) (sym (ap (λ (it : _). it.server) c.in_ok-judged.ensures.ok))
          (staged_to opened armed c.in_ok-primary.primary c.in_ok-server.server did.goes_on
          (did.slots.home MAX_HEAPS (λ (same : MAX_HEAPS ≡ 0). cc) (opening.home MAX_HEAPS (omega arith)))
          (at_each (λ n. own_at armed n ≡ own_at opened n) 1 did.own did.others.own) joins marks
          (staged_new opened c.in_ok-primary.primary c.in_ok-server.server opening c.in_ok-hall.ensures.unmarked
          c.in_ok-primary.ensures.number c.in_ok-server.ensures.number c.in_ok-primary.ensures.joined c.in_ok-server.ensures.joined
          c.in_ok-primary.ensures.tied c.in_ok-server.ensures.tied)),
      joins 1 ∙ (opening.joined 1 (omega arith) ∙ sym (ap (λ (context : Context). context.standing.attached) c.new-context.ensures)),
      (
        ap (λ (context : Context). context.standing.chunks) c.new-context.ensures,
        λ heap. marks 1 heap ∙ c.in_ok-hall.ensures.unmarked 1 heap,
      ),
    )
