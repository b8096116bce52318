use Rattle.std.proofs.Common.{ℕ, ◌+◌, ◌-◌, refl, subst, arith}
use Rattle.hp_freelist.proofs.Mending.{IsMending}
use Rattle.hp_freelist.proofs.MendSteps.{begun, ended}
use Rattle.hp_freelist.proofs.MendStops.{halted}
use Rattle.hp_freelist.proofs.MendReads.{at_within, next_kept, next_within, mended_more}
use Rattle.hp_freelist.proofs.greatest.mend.Goals as goal

pub loop-step-init : goal.loop-step-init
loop-step-init c = (
  refl,
  λ front whole back stood.
      subst (λ (n : ℕ). IsMending c.args.greatests.now.items c.args.greatests.now.items front back c.args.prev n) (omega (arith, c.args.links.now.ok.0))
      (begun c.args.links.now.items c.args.greatests.now.items c.args.key c.args.prev front whole back stood),
)

pub returns-in_default-clause-mended : goal.returns-in_default-clause-mended
returns-in_default-clause-mended c =
    ended c.args.links.now.items c.args.greatests.now.items c.args.key c.args.prev c.loop-step.greatests.items c.loop-step.before (c.args.links.now.len - c.loop-step._step) c.in_default.is
    c.loop-step.invariant.1

pub index-requires : goal.index-requires
index-requires c =
    omega (
      arith,
      c.args.links.now.ok.0,
      c.args.greatests.now.ok.0,
      c.loop-step.greatests.ok.0,
      c.loop-step.invariant.0,
      c.requires.stood.room,
      at_within c.args.links.now.items c.args.greatests.now.items c.loop-step.greatests.items c.args.key c.args.prev c.loop-step.before (c.args.links.now.len - c.loop-step._step) c.in-Some.at c.in-Some.is
          c.requires.stood.front c.requires.stood.whole c.requires.stood.back c.requires.stood.stood
          (c.loop-step.invariant.1 c.requires.stood.front c.requires.stood.whole c.requires.stood.back c.requires.stood.stood),
    )

pub returns-then-index-key-clause-mended : goal.returns-then-index-key-clause-mended
returns-then-index-key-clause-mended c =
    halted c.args.links.now.items c.args.greatests.now.items c.loop-step.greatests.items c.args.key c.args.prev c.loop-step.before (c.args.links.now.len - c.loop-step._step) c.in-Some.at
    c.index.result.now c.in-Some.is c.loop-step.invariant.1
    (omega (
      arith,
      c.args.links.now.ok.0,
      c.args.greatests.now.ok.0,
      c.loop-step.greatests.ok.0,
      c.loop-step.invariant.0,
      c.requires.stood.room,
      at_within c.args.links.now.items c.args.greatests.now.items c.loop-step.greatests.items c.args.key c.args.prev c.loop-step.before (c.args.links.now.len - c.loop-step._step) c.in-Some.at c.in-Some.is
          c.requires.stood.front c.requires.stood.whole c.requires.stood.back c.requires.stood.stood
          (c.loop-step.invariant.1 c.requires.stood.front c.requires.stood.whole c.requires.stood.back c.requires.stood.stood),
    ))
    c.index.ensures c.if-index-key.true

pub index-link-requires : goal.index-link-requires
index-link-requires c =
    omega (
      arith,
      c.args.links.now.ok.0,
      c.args.greatests.now.ok.0,
      c.loop-step.greatests.ok.0,
      c.loop-step.invariant.0,
      c.requires.stood.room,
      at_within c.args.links.now.items c.args.greatests.now.items c.loop-step.greatests.items c.args.key c.args.prev c.loop-step.before (c.args.links.now.len - c.loop-step._step) c.in-Some.at c.in-Some.is
          c.requires.stood.front c.requires.stood.whole c.requires.stood.back c.requires.stood.stood
          (c.loop-step.invariant.1 c.requires.stood.front c.requires.stood.whole c.requires.stood.back c.requires.stood.stood),
    )

pub greatest_with-requires-clause-kept : goal.greatest_with-requires-clause-kept
greatest_with-requires-clause-kept c =
    next_kept c.args.links.now.items c.args.greatests.now.items c.loop-step.greatests.items c.args.key c.args.prev c.loop-step.before (c.args.links.now.len - c.loop-step._step) c.in-Some.at c.in-Some.is
    c.requires.stood.front c.requires.stood.whole c.requires.stood.back c.requires.stood.stood
    (c.loop-step.invariant.1 c.requires.stood.front c.requires.stood.whole c.requires.stood.back c.requires.stood.stood) c.index-link.result.now c.index-link.ensures

pub greatest_with-requires-clause-within : goal.greatest_with-requires-clause-within
greatest_with-requires-clause-within c =
    next_within c.args.links.now.items c.args.greatests.now.items c.loop-step.greatests.items c.args.key c.args.prev c.loop-step.before (c.args.links.now.len - c.loop-step._step) c.in-Some.at c.in-Some.is
    c.requires.stood.front c.requires.stood.whole c.requires.stood.back c.requires.stood.stood
    (c.loop-step.invariant.1 c.requires.stood.front c.requires.stood.whole c.requires.stood.back c.requires.stood.stood) c.index-link.result.now c.index-link.ensures
    (omega (arith, c.args.links.now.ok.0, c.args.greatests.now.ok.0, c.loop-step.greatests.ok.0, c.loop-step.invariant.0, c.requires.stood.room))

pub index_mut-requires : goal.index_mut-requires
index_mut-requires c =
    omega (
      arith,
      c.args.links.now.ok.0,
      c.args.greatests.now.ok.0,
      c.loop-step.greatests.ok.0,
      c.loop-step.invariant.0,
      c.requires.stood.room,
      at_within c.args.links.now.items c.args.greatests.now.items c.loop-step.greatests.items c.args.key c.args.prev c.loop-step.before (c.args.links.now.len - c.loop-step._step) c.in-Some.at c.in-Some.is
          c.requires.stood.front c.requires.stood.whole c.requires.stood.back c.requires.stood.stood
          (c.loop-step.invariant.1 c.requires.stood.front c.requires.stood.whole c.requires.stood.back c.requires.stood.stood),
    )

pub loop-step-preserved : goal.loop-step-preserved
loop-step-preserved c = (
  c.loop-step.invariant.0,
  λ front whole back stood.
      let now = c.loop-step.invariant.1 front whole back stood in
      let within = at_within c.args.links.now.items c.args.greatests.now.items c.loop-step.greatests.items c.args.key c.args.prev c.loop-step.before (c.args.links.now.len - c.loop-step._step) c.in-Some.at c.in-Some.is
      front whole back stood now in
      mended_more c.args.links.now.items c.args.greatests.now.items c.loop-step.greatests.items c.args.key c.args.prev c.loop-step.before (c.args.links.now.len - c.loop-step._step) c.in-Some.at c.in-Some.is
      front whole back stood now c.index-link.result.now c.index-link.ensures c.greatest_with.result (c.args.links.now.len - (c.loop-step._step + 1)) c.greatest_with.ensures
      (omega (arith, within, c.args.links.now.ok.0, c.args.greatests.now.ok.0, c.loop-step.greatests.ok.0, c.loop-step.invariant.0, c.requires.stood.room)) (omega arith),
)
