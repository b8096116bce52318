-- One more participant is told, or passed over.
use Rattle.std.proofs.Common.{◌≡◌, ◌∙◌, ◌+◌, ◌*◌, ◌≤◌, ◌++◌, ℕ, Bool, [], refl, ap, sym, subst, arith}
use Rattle.std.specs.Prelude.{if◌then◌else◌}
use Rattle.hp_hall.proofs.HallStates.{did_same, did_then, stays_same, stays_then}
use Rattle.hp_hall.specs.Measures.{frame_measure}
use Rattle.hp_serve.specs.Posting.{AreTold, IsToldOne, is_told, sent_once_more, syncs_after}
use Rattle.hp_serve.proofs.Telling.{none_sent, none_told, sent_more, told_declared, told_more, told_weighs}
use Rattle.hp_serve.proofs.posting.tell_each.Goals as goal

pub loop-place-init : goal.loop-place-init
loop-place-init g c =
    let old = g.H.Hall.state c.args.hall.now in
    let told = is_told old.count c.args.members in
    record {
      counted = none_sent told c.args.syncs.now;
      told = ([], did_same 0 old, none_told c.args.plan.now c.args.syncs.now c.args.frame told);
      measure = omega arith;
      stays = stays_same 0 old;
      goes_on = g.met.H.Hall.goes_on_same _;
    }

pub tell_one-requires-clause-declared : goal.tell_one-requires-clause-declared
tell_one-requires-clause-declared g c = λ told.
    let below = told_declared c.participants-count.result c.args.members (c.loop-place.place + 1) (sym c.is_told-told.ensures ∙ told) in
    let count = c.participants-count.ensures in
    let same = c.loop-place.invariant.stays.others.later.count in
    omega (arith, below, count, same)

pub loop-place-preserved : goal.loop-place-preserved
loop-place-preserved g c =
    let was = c.loop-place.invariant in
    let one = c.tell_one.ensures in
    let told = is_told (g.H.Hall.state c.args.hall.now).count c.args.members in
    let who = c.loop-place.place + 1 in
    let told_is : c.is_told-told.result ≡ told who =
    c.is_told-told.ensures ∙ ap (λ (n : ℕ). is_told n c.args.members who) c.participants-count.ensures in
    record {
      counted =
          one.counted
          ∙ ap (λ (b : Bool). if b then sent_once_more c.loop-place.syncs who else c.loop-place.syncs) told_is
          ∙ sent_more c.args.plan.now c.args.syncs.now c.args.frame told c.loop-place.place c.loop-place.syncs who refl was.counted;
      told = (
        was.told.0 ++ one.told.0,
        did_then was.told.1 one.told.1,
        told_more c.args.plan.now c.args.syncs.now c.args.frame told c.loop-place.place c.loop-place.syncs who was.told.0 one.told.0 refl was.counted
            was.told.2 (subst (λ (b : Bool). IsToldOne c.args.plan.now c.args.frame c.loop-place.syncs who b one.told.0) told_is one.told.2),
      );
      measure =
          told_weighs g.H.Hall.scale ((g.H.Hall.state c.args.hall.now).measure) ((g.H.Hall.state c.loop-place.hall).measure) ((g.H.Hall.state c.tell_one.new.hall).measure)
          (frame_measure c.args.frame) c.loop-place.place c.requires.weighs was.measure one.measure;
      stays = stays_then was.stays one.stays;
      goes_on = g.met.H.Hall.goes_on_then _ _ _ was.goes_on one.goes_on;
    }

pub returns-clause-counted : goal.returns-clause-counted
returns-clause-counted g c =
    let ends : c.loop-place.place ≡ 15 = omega arith in
    subst (λ (n : ℕ). c.loop-place.syncs ≡ syncs_after (is_told (g.H.Hall.state c.args.hall.now).count c.args.members) c.args.syncs.now n) ends
    c.loop-place.invariant.counted

pub returns-clause-told : goal.returns-clause-told
returns-clause-told g c =
    let ends : c.loop-place.place ≡ 15 = omega arith in
    let told = c.loop-place.invariant.told in (
      told.0,
      told.1,
      subst (λ (n : ℕ). AreTold c.args.plan.now c.args.syncs.now c.args.frame (is_told (g.H.Hall.state c.args.hall.now).count c.args.members) n told.0) ends told.2,
    )

pub returns-clause-measure : goal.returns-clause-measure
returns-clause-measure g c =
    let ends : c.loop-place.place ≡ 15 = omega arith in
    let measure =
    subst (λ (n : ℕ). (g.H.Hall.state c.loop-place.hall).measure ≤ (g.H.Hall.state c.args.hall.now).measure + g.H.Hall.scale * (6 * n)) ends
    c.loop-place.invariant.measure
    in
    omega (arith, measure)
