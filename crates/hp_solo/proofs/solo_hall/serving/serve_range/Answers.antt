-- One more has served.
use Rattle.std.proofs.Common.{◌≡◌, ◌≢◌, ℕ, ◌+◌, ◌<◌, ◌≤◌, ◌⊎◌, Bool, true, false, ◌||◌, List, inl, inr, refl, sym, ap, subst, ◌∙◌, ⊎_elim, arith, below_more}
use Rattle.std.proofs.lemmas.Bool.{cases_lt}
use Rattle.hp_base.specs.declared.limits.TheConstants.{MAX_HEAPS}
use Rattle.hp_plain.specs.Course.{done_same}
use Rattle.hp_serve.specs.Falling.{if_moved}
use Rattle.hp_solo.specs.Sequence.{Visits}
use Rattle.hp_solo.specs.Solo.{IsBetween, IsOutside, IsServerAtRest, AloneView, SoloView, server_at}
use Rattle.hp_solo.specs.SoloCourse.{later_then, server_stays}
use Rattle.hp_solo.proofs.Keeping.{keeps_more}
use Rattle.hp_solo.proofs.SoloLooks.{looks_more}
use Rattle.hp_solo.proofs.SoloRises.{rising_more, rising_same}
use Rattle.hp_solo.proofs.SoloQuiet.{quiet_beside, quiet_first, quiet_more}
use Rattle.hp_solo.proofs.SoloTies.{serving_narrow, serving_same, serving_then}
use Rattle.hp_solo.proofs.Visited.{visits_ended, visits_more}
use Rattle.hp_solo.proofs.solo_hall.serving.serve_range.Goals as goal

-- who stands outside is another than one that stands between
outside_apart : (from to number : ℕ) → from ≤ number → number < to → (who : ℕ) → IsOutside from to who → who ≢ number
outside_apart from to number begun below who outside same =
    ⊎_elim (λ (before : who < from). absurd (omega arith)) (λ (behind : to ≤ who). absurd (omega arith)) outside

-- who stands outside of more stands outside of fewer
outside_fewer : (from fewer more : ℕ) → fewer ≤ more → (who : ℕ) → IsOutside from more who → IsOutside from fewer who
outside_fewer from fewer more less who outside =
    ⊎_elim (λ (before : who < from). inl before) (λ (behind : more ≤ who). inr (omega (arith, less, behind))) outside

-- who stands outside of all stands outside of those that have served in the end
outside_ended : (from to number : ℕ) → (number ≤ from) ⊎ (number ≤ to) → (who : ℕ) → IsOutside from to who → IsOutside from number who
outside_ended from to number within who outside =
    ⊎_elim
    (λ (none : number ≤ from).
    ⊎_elim (λ (before : who < from). inl before) (λ (behind : from ≤ who). inr (omega (arith, none, behind))) (cases_lt who from))
    (λ (some : number ≤ to). outside_fewer from number to some who outside)
    within

-- who has served is one of all
between_ended : (from to number : ℕ) → (number ≤ from) ⊎ (number ≤ to) → (who : ℕ) → IsBetween from number who → IsBetween from to who
between_ended from to number within who between =
    ⊎_elim
    (λ (none : number ≤ from). absurd (omega (arith, none, between.0, between.1)))
    (λ (some : number ≤ to). (between.0, omega (arith, some, between.1)))
    within

-- where neither of two moved
both_still : (first second both : Bool) → both ≡ (first || second) → both ≡ false → (first ≡ false) × (second ≡ false)
both_still false false both is still = (refl, refl)
both_still false true both is still = cc
both_still true second both is still = cc

-- what has moved is counted once
moved_once : (first second both : Bool) → both ≡ (first || second) → if_moved both ≤ if_moved first + if_moved second
moved_once false second both is = omega (arith, ap if_moved is)
moved_once true false both is = omega (arith, ap if_moved is)
moved_once true true both is = omega (arith, ap if_moved is)

-- nothing is left for those before, and for the one that served last
rests_more : (was now : ℕ) (old new : List AloneView) (from number : ℕ) → now ≡ was
    → ((who : ℕ) → who ≢ number → server_at new who ≡ server_at old who)
    → ((who : ℕ) → from ≤ who → who < number → IsServerAtRest was (server_at old who)) → IsServerAtRest now (server_at new number)
    → (who : ℕ) → from ≤ who → who < number + 1 → IsServerAtRest now (server_at new who)
rests_more was now old new from number clock others so_far here who begun below =
    below_more (λ (k : ℕ). from ≤ k → IsServerAtRest now (server_at new k)) number
    (λ k before begins.
    let apart : k ≢ number = omega arith in
    subst (IsServerAtRest now) (sym (others k apart))
    (subst (λ (at : ℕ). IsServerAtRest at (server_at old k)) (sym clock) (so_far k begins before)))
    (λ begins. here) who below begun

pub loop-number-init : goal.loop-number-init
loop-number-init g c = record {
  begun = omega arith;
  within = inl (omega arith);
  serving = serving_same (IsOutside c.args.from c.args.from) c.args.hall.now;
  rising = rising_same c.args.hall.now;
  tied = c.requires.tied;
  later = λ who.
      server_stays c.args.hall.now c.args.hall.now who (server_at c.args.servers.now.items who) (λ there. done_same c.args.hall.now who);
  count = refl;
  measure = omega arith;
  rests = λ who begun below. absurd (omega arith);
  keeps = λ who begun below. absurd (omega arith);
  looks = λ who begun below. absurd (omega arith);
  others = λ who outside. refl;
  quiet = λ still. quiet_first c.args.from (record { plain = c.args.hall.now; servers = c.args.servers.now.items });
  visits = λ going. Visits.none (record { plain = c.args.hall.now; servers = c.args.servers.now.items });
}

pub serve_at-served-requires : goal.serve_at-served-requires
serve_at-served-requires g c =
    let was = c.loop-number.invariant in
    let below = c.loop-number-test.true in
    record {
      there = was.serving.home MAX_HEAPS c.requires.there;
      count = was.count ∙ c.requires.count ∙ sym was.serving.course.count;
      tied = was.tied;
      within = omega (arith, was.count, c.requires.within, below);
    }

pub loop-number-preserved : goal.loop-number-preserved
loop-number-preserved g c =
    let was = c.loop-number.invariant in
    let one = c.serve_at-served.ensures in
    let from = c.args.from in
    let number = c.loop-number.number in
    let outside = IsOutside from (number + 1) in
    let first : SoloView = record { plain = c.args.hall.now; servers = c.args.servers.now.items } in
    let before : SoloView = record { plain = c.loop-number.hall; servers = c.loop-number.servers.items } in
    let after : SoloView = record { plain = c.serve_at-served.new.hall; servers = c.serve_at-served.new.servers.items } in
    let apart : (who : ℕ) → IsOutside from (number + 1) who → who ≢ number = outside_apart from (number + 1) number was.begun (omega arith) in
    let fewer : (who : ℕ) → IsOutside from (number + 1) who → IsOutside from number who = outside_fewer from number (number + 1) (omega arith) in
    let waits : IsOutside from number number = inr (omega arith) in
    record {
      begun = omega (arith, was.begun);
      within = inr (omega (arith, c.loop-number-test.true));
      serving =
          serving_then outside first.plain before.plain after.plain
          (serving_narrow (IsOutside from number) outside first.plain before.plain fewer was.serving)
          (serving_narrow (λ who. who ≢ number) outside before.plain after.plain apart one.served.serving);
      rising =
          rising_more number first.plain before.plain after.plain was.rising (λ who behind. was.serving.did who (inr behind)) one.served.serving.course
          one.served.serving.did;
      tied = one.tied;
      later = later_then first before after was.serving.course was.later one.later;
      count = one.count ∙ was.count;
      measure = omega (arith, was.measure, one.measure, moved_once c.loop-number.moved c.serve_at-served.result c.either-moved.result c.either-moved.ensures);
      rests =
          rests_more c.loop-number.hall.clock c.serve_at-served.new.hall.clock c.loop-number.servers.items c.serve_at-served.new.servers.items
          c.args.from number one.served.serving.clock one.served.places was.rests (one.served.rests number refl);
      keeps =
          keeps_more from number first.plain before.plain after.plain first.servers before.servers was.serving.course.count
          (was.serving.did number waits) one.served.serving.did (was.others number waits) was.keeps (one.served.keeps number refl);
      looks =
          looks_more from number first.plain before.plain after.plain before.servers after.servers one.served.serving.clock
          (was.serving.did number waits) one.served.serving.did one.served.places was.looks (one.served.looks number refl);
      others = λ who is. one.served.places who (apart who is) ∙ was.others who (fewer who is);
      quiet = λ still.
          let both = both_still c.loop-number.moved c.serve_at-served.result c.either-moved.result c.either-moved.ensures still in
          quiet_more from number first before after was.begun one.served.serving.clock (was.serving.did number waits) (was.others number waits)
          one.served.serving.did one.served.places (was.quiet both.0) (one.served.quiet both.1);
      visits = visits_more from number first before after one.later was.visits one.visited;
    }

pub returns-clause-served : goal.returns-clause-served
returns-clause-served g c =
    let from = c.args.from in
    let to = c.args.to in
    let number = c.loop-number.number in
    let was = c.loop-number.invariant in
    let old : SoloView = record { plain = c.args.hall.now; servers = c.args.servers.now.items } in
    let new : SoloView = record { plain = c.loop-number.hall; servers = c.loop-number.servers.items } in
    let ended : to ≤ number = c.loop-number-test.false in
    let outside : (who : ℕ) → IsOutside from to who → IsOutside from number who = outside_ended from to number was.within in
    record {
      serving = serving_narrow (IsOutside from number) (IsOutside from to) old.plain new.plain outside was.serving;
      rising = was.rising;
      places = λ who apart. was.others who (outside who apart);
      keeps = λ who between. was.keeps who between.0 (omega (arith, between.1, ended));
      rests = λ who between. was.rests who between.0 (omega (arith, between.1, ended));
      looks = λ who between. was.looks who between.0 (omega (arith, between.1, ended));
      quiet = λ still.
          quiet_beside (IsBetween from to) (IsBetween from number) old new (between_ended from to number was.within)
          (λ who between below. (between.0, omega (arith, between.1, ended))) (was.quiet still);
    }

pub returns-clause-visits : goal.returns-clause-visits
returns-clause-visits g c = λ order going.
    let was = c.loop-number.invariant in
    let old : SoloView = record { plain = c.args.hall.now; servers = c.args.servers.now.items } in
    let new : SoloView = record { plain = c.loop-number.hall; servers = c.loop-number.servers.items } in
    visits_ended c.args.from c.args.to c.loop-number.number old new order c.loop-number-test.false was.within (was.visits going)
