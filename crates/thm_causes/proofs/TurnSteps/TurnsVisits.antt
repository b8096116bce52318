-- Visits of those beside one that waits, and its own servings, in a turn.
use Rattle.std.proofs.Common.{◌≡◌, ◌≢◌, ◌∙◌, ◌+◌, ◌<◌, ◌≤◌, ℕ, zero, suc, Bool, true, false, true≢false, List, [], ◌∷◌, length, nat_lt, Some, None, inl, inr, refl, sym, ap, subst, arith}
use Rattle.std.specs.Prelude.{slice_get, slice_set}
use Rattle.std.proofs.lemmas.Bool.{cases_eq, lt-ltb, or_from, or_parts}
use Rattle.std.proofs.lemmas.List.{length-map}
use Rattle.std.proofs.lemmas.Option.{none-some, slice_get_within}
use Rattle.hp_hall.specs.Mail.{MailStep}
use Rattle.hp_plain.specs.Boxes.{box_of}
use Rattle.hp_hall.specs.Own.{Own}
use Rattle.hp_serve.specs.Denials.{Denials}
use Rattle.hp_serve.specs.Coordinating.{IsServed}
use Rattle.hp_serve.specs.Falling.{if_moved}
use Rattle.hp_serve.specs.Party.{Party}
use Rattle.hp_serve.specs.Waiting.{AreServings, IsServedOut, most_servings}
use Rattle.hp_events.specs.declared.validator.Validator.{Validator}
use Rattle.hp_solo.specs.Sequence.{Sequence, ServesOnce, ServesSome, Visit, Visits, going_place}
use Rattle.hp_solo.specs.Solo.{AloneView, SoloView, denials_in, has_stopped, party_at, party_in, server_at}
use Rattle.thm_causes.specs.RoundTrip.{IsBase, IsSetting, Setting, RunState}
use Rattle.thm_causes.specs.Servings.{CoreServes, MemberServes}
use Rattle.thm_causes.specs.Shared.{IsSharedIn, MakesAll, Shared}
use Rattle.thm_causes.specs.Stages.{world_with}
use Rattle.thm_causes.specs.Waits.{AreServingsKnown, measure_in}
use Rattle.thm_causes.specs.RunStates.{AreCalls, IsRunStateOf}
use Rattle.thm_causes.proofs.Said.{set_found, set_unfound}
use Rattle.thm_causes.proofs.TurnSteps.TurnsCalls.{served_calls}
use Rattle.thm_causes.proofs.TurnSteps.TurnsSequence.{calls_own, cut_in}
use Rattle.thm_causes.proofs.TurnSteps.TurnsServings.{ServedTo, next_behind}

-- who serves goes on
still_going : (servers : List AloneView) (who : ℕ) (validators : List (Validator Bool)) (party : Party) → has_stopped servers ≡ false
    → has_stopped (slice_set servers who (going_place validators party)) ≡ false
still_going [] who validators party going = going
still_going (server ∷ servers) zero validators party going = (or_parts server.stopped (has_stopped servers) going).1
still_going (server ∷ servers) (suc who) validators party going =
    let both = or_parts server.stopped (has_stopped servers) going in
    or_from server.stopped (has_stopped (slice_set servers who (going_place validators party))) both.0 (still_going servers who validators party both.1)

-- as many participants as own parts
pub owns_count : (set : Setting) (hall : SoloView) (me : ℕ) (party : Party) (world : RunState) → IsRunStateOf hall me party world → IsBase set world
    → length hall.plain.owns ≡ set.count
owns_count set hall me party world its base =
    sym (length-map hall.plain.owns (λ (own : Own). own.number)) ∙ sym (ap length its.shared.numbers) ∙ base.numbers

-- what holds while each is visited goes on by servings, whatever a judge denies
pub record AreOn (set : Setting) (me : ℕ) (During : ℕ → RunState → Type 0) : Type 1 where
  pub setting : IsSetting set
  pub base : (who : ℕ) (world : RunState) → During who world → IsBase set world
  pub light : (who : ℕ) (world : RunState) → During who world → measure_in world < most_servings
  pub serves : (denies : Denials) (who : ℕ) (moved : Bool) (world : RunState) (at : Shared) (party after : Party) → During who world
      → slice_get world.parties who ≡ Some party → (who ≡ 0 → CoreServes denies set.count world.shared at party after moved)
      → (who ≢ 0 → MemberServes world.shared at party after moved) → ServedTo During who moved world at after
  -- nobody is away but the one that waits
  pub passes : (who : ℕ) (hall : SoloView) (party : Party) (world : RunState) → who ≢ me → IsRunStateOf hall me party world → During who world
      → party_at hall.servers who ≡ None → During (suc who) world

-- a hall during a turn
pub record VisitedTo (During : ℕ → RunState → Type 0) (who : ℕ) (hall : SoloView) (me : ℕ) (party : Party) : Type 0 where
  pub world : RunState
  pub its : IsRunStateOf hall me party world
  pub during : During who world

-- what steps say of a serving holds of what is shared
module _ (known : AreServingsKnown) (set : Setting) (setting : IsSetting set) (world : RunState) (base : IsBase set world) (who : ℕ)
    (party after : Party) (steps : List MailStep) (moved : Bool) (there : slice_get world.parties who ≡ Some party) (at : Shared)
    (makes : MakesAll who steps world.shared at) where
  as_core : (denies : Denials) → IsServed denies set.count party after steps (Some moved) → who ≡ 0
      → CoreServes denies set.count world.shared at party after moved
  as_core denies (IsServed.coordinates me served) same =
      known.coordinates denies set.count world.shared at party after steps moved me base.boxes base.numbers setting.some setting.few served
      (subst (λ (n : ℕ). MakesAll n steps world.shared at) same makes)
  as_core denies (IsServed.follows me served) same = absurd (me ((base.places who party there).me ∙ same))

  as_member : (denies : Denials) → IsServed denies set.count party after steps (Some moved) → who ≢ 0
      → MemberServes world.shared at party after moved
  as_member denies (IsServed.coordinates me served) beside = absurd (beside (sym (base.places who party there).me ∙ me))
  as_member denies (IsServed.follows me served) beside =
      let its : party.me ≡ who = (base.places who party there).me in
      let within = slice_get_within world.parties who party there in
      known.follows world.shared at party after steps moved (omega (arith, its, within, base.parties, base.boxes)) served
      (subst (λ (n : ℕ). MakesAll n steps world.shared at) (sym its) makes)

module _ (known : AreServingsKnown) (set : Setting) (me : ℕ) (During : ℕ → RunState → Type 0) (on : AreOn set me During) where
  -- ANOTHER SERVES

  other_serves : (denies : Denials) (who : ℕ) (moved : Bool) (old new : SoloView) (party : Party) (world : RunState) → who ≢ me
      → IsRunStateOf old me party world → During who world → ServesOnce denies who moved old new → VisitedTo During (next_behind who moved) new me party
  other_serves denies who moved old new party world apart its during one =
      let base = on.base who world during in
      let there : slice_get world.parties who ≡ Some one.party = its.others who apart ∙ ap party_in one.there in
      let served : IsServed denies set.count one.party one.after one.steps (Some moved) =
      subst (λ (n : ℕ). IsServed denies n one.party one.after one.steps (Some moved))
      (owns_count set old me party world its base) one.serves in
      let along = known.along who one.steps old.plain new.plain world.shared one.made (served_calls set.count one.party one.after one.steps _ served)
      its.order its.shared in
      let to = on.serves denies who moved world along.at one.party one.after during there
      (as_core known set on.setting world base who one.party one.after one.steps moved there along.at along.made denies served)
      (as_member known set on.setting world base who one.party one.after one.steps moved there along.at along.made denies served) in
      record {
        world = world_with along.at to.mail who one.after world;
        its = record {
          shared = along.shared;
          order = along.order;
          going = subst (λ (servers : List AloneView). has_stopped servers ≡ false) (sym one.servers)
              (still_going old.servers who one.validators one.after its.going);
          own = set_unfound world.parties who me one.after (λ (same : me ≡ who). apart (sym same)) ∙ its.own;
          others = λ other beside. elim (cases_eq other who) [
            | inl same ↦
                ap (slice_get (slice_set world.parties who one.after)) same ∙ set_found world.parties who one.party one.after there
                ∙ sym (ap (λ (n : ℕ). party_at new.servers n) same ∙ ap (λ (servers : List AloneView). party_at servers who) one.servers
                ∙ ap party_in (set_found old.servers who (going_place one.validators one.party) (going_place one.validators one.after) one.there))
            | inr other_one ↦
                set_unfound world.parties who other one.after other_one ∙ its.others other beside
                ∙ sym (ap (λ (servers : List AloneView). party_at servers other) one.servers
                ∙ ap party_in (set_unfound old.servers who other (going_place one.validators one.after) other_one))
          ];
        };
        during = to.during;
      }

  some_serve : (denies : Denials) (who : ℕ) (old new : SoloView) (party : Party) (world : RunState) → ServesSome denies who old new → who ≢ me
      → IsRunStateOf old me party world → During who world → VisitedTo During who new me party
  some_serve denies who _ new party world (ServesSome.none _) apart its during = record { world = world; its = its; during = during }
  some_serve denies who old new party world (ServesSome.more _ mid _ some one) apart its during =
      let before = some_serve denies who old mid party world some apart its during in
      other_serves denies who true mid new party before.world apart before.its before.during one

  -- one is visited
  visit_on : (denies : Denials) (who : ℕ) (old new : SoloView) (party : Party) (world : RunState) → Visit denies who old new → who ≢ me
      → IsRunStateOf old me party world → During who world → VisitedTo During (suc who) new me party
  visit_on denies who old new party world (Visit.serves between some one) apart its during =
      let before = some_serve denies who old between party world some apart its during in
      other_serves denies who false between new party before.world apart before.its before.during one
  visit_on denies who old new party world (Visit.is_away none same) apart its during = record {
    world = world;
    its = subst (λ (hall : SoloView). IsRunStateOf hall me party world) (sym same) its;
    during = on.passes who old party world apart its during none;
  }

  -- those from one number on to below another are
  pub visits_on : (from to : ℕ) (old new : SoloView) (party : Party) (world : RunState) → Visits from to old new
      → ((who : ℕ) → from ≤ who → who < to → who ≢ me) → IsRunStateOf old me party world → During from world
      → (from ≤ to) × VisitedTo During to new me party
  visits_on from _ _ new party world (Visits.none _) apart its during = (omega arith, record { world = world; its = its; during = during })
  visits_on from _ old new party world (Visits.next to _ mid _ visits visit) apart its during =
      let before = visits_on from to old mid party world visits (λ who above below. apart who above (omega arith)) its during in (
        omega (arith, before.0),
        visit_on (denials_in (server_at mid.servers to)) to mid new party before.1.world visit (apart to before.0 (omega arith)) before.1.its
            before.1.during,
      )

-- where it makes no step nothing of the world changes
pub still_on : AreServingsKnown → (me : ℕ) (old new : SoloView) (party : Party) (steps : List MailStep) (world : RunState)
    → Sequence me old steps new → steps ≡ [] → IsRunStateOf old me party world → IsRunStateOf new me party world
still_on known me old new party steps world sequence none its =
    let own = calls_own known.along me old new steps world.shared sequence (subst AreCalls (sym none) tt) its.order its.shared in
    let same : own.along.at ≡ world.shared = subst (λ (steps : List MailStep). MakesAll me steps world.shared own.along.at) none own.along.made in
    record {
      shared = subst (λ (at : Shared). IsSharedIn new.plain at) same own.along.shared;
      order = own.along.order;
      going = subst (λ (servers : List AloneView). has_stopped servers ≡ false) (sym own.servers) its.going;
      own = its.own;
      others = λ other beside. its.others other beside ∙ sym (ap (λ (servers : List AloneView). party_at servers other) own.servers);
    }

-- ITS OWN PART

-- a hall after its own servings: so much lighter, and what its last serving shows
pub record OwnTo (During : ℕ → RunState → Type 0) (visited spent : ℕ) (hall : SoloView) (me : ℕ) (after : Party) (before : RunState) : Type 0 where
  pub world : RunState
  pub its : IsRunStateOf hall me after world
  pub during : During visited world
  pub lighter : measure_in world + spent ≤ measure_in before

-- it serves once
pub record OwnOnce (During : ℕ → RunState → Type 0) (moved : Bool) (hall : SoloView) (me : ℕ) (after : Party) (before : RunState) : Type 0 where
  pub «to» : OwnTo During (next_behind me moved) (if_moved moved) hall me after before
  pub rests : moved ≡ false → (to.world.shared ≡ before.shared) × (box_of to.world.shared.boxes me ≡ [])

-- it serves so many times
pub record OwnSome (During : ℕ → RunState → Type 0) (times : ℕ) (hall : SoloView) (me : ℕ) (after : Party) (before : RunState) : Type 0 where
  pub «to» : OwnTo During me times hall me after before
  pub still : times ≡ 0 → to.world.shared ≡ before.shared

-- it serves until nothing is left for it
pub record OwnOut (During : ℕ → RunState → Type 0) (mine : Bool) (hall : SoloView) (me : ℕ) (after : Party) (before : RunState) : Type 0 where
  pub world : RunState
  pub its : IsRunStateOf hall me after world
  pub during : During (suc me) world
  pub empty : box_of world.shared.boxes me ≡ []
  pub still : mine ≡ false → world.shared ≡ before.shared

never_moved : (times : ℕ) (mine : Bool) → Some mine ≡ Some (nat_lt 0 times) → mine ≡ false → times ≡ 0
never_moved zero mine is none = refl
never_moved (suc times) mine is none =
    let moved : nat_lt 0 (suc times) ≡ true = lt-ltb 0 (suc times) (omega arith) in
    let its : mine ≡ nat_lt 0 (suc times) = cc in
    let some : true ≡ false = sym (its ∙ moved) ∙ none in
    absurd (true≢false some)

-- by a judge that denies so
module _ (known : AreServingsKnown) (denies : Denials) (set : Setting) (me : ℕ) (During : ℕ → RunState → Type 0)
    (on : AreOn set me During) where
  own_serves : (moved : Bool) (old new : SoloView) (party after : Party) (steps : List MailStep) (world : RunState) → IsRunStateOf old me party world
      → During me world → Sequence me old steps new → IsServed denies set.count party after steps (Some moved)
      → OwnOnce During moved new me after world
  own_serves moved old new party after steps world its during sequence served =
      let own = calls_own known.along me old new steps world.shared sequence (served_calls set.count party after steps _ served) its.order its.shared in
      let base = on.base me world during in
      let «to» = on.serves denies me moved world own.along.at party after during its.own
      (as_core known set on.setting world base me party after steps moved its.own own.along.at own.along.made denies served)
      (as_member known set on.setting world base me party after steps moved its.own own.along.at own.along.made denies served) in
      record {
        «to» = record {
          world = world_with own.along.at «to».mail me after world;
          its = record {
            shared = own.along.shared;
            order = own.along.order;
            going = subst (λ (servers : List AloneView). has_stopped servers ≡ false) (sym own.servers) its.going;
            own = set_found world.parties me party after its.own;
            others = λ other beside.
                set_unfound world.parties me other after beside ∙ its.others other beside
                ∙ sym (ap (λ (servers : List AloneView). party_at servers other) own.servers);
          };
          during = «to».during;
          lighter = «to».lighter;
        };
        rests = «to».rests;
      }

  -- so many times, and did something each time
  own_servings : (times : ℕ) (old new : SoloView) (party after : Party) (steps : List MailStep) (world : RunState) → IsRunStateOf old me party world
      → During me world → Sequence me old steps new → AreServings denies set.count times party after steps
      → OwnSome During times new me after world
  unfolding AreServings
  own_servings zero old new party after steps world its during sequence are =
      record {
        «to» = record {
          world = world;
          its = subst (λ (party : Party). IsRunStateOf new me party world) (sym are.0)
              (still_on known me old new party steps world sequence are.1 its);
          during = during;
          lighter = omega arith;
        };
        still = λ none. refl;
      }
  own_servings (suc times) old new party after steps world its during sequence are =
      let cut = cut_in me old new steps are.1 are.2 are.5 sequence in
      let first = own_servings times old cut.mid party are.0 are.1 world its during cut.begins are.3 in
      let last = own_serves true cut.mid new are.0 after are.2 first.to.world first.to.its first.to.during cut.ends are.4 in
      record {
        «to» = record {
          world = last.to.world;
          its = last.to.its;
          during = last.to.during;
          lighter = omega (arith, first.to.lighter, last.to.lighter);
        };
        still = λ none. absurd (omega arith);
      }

  pub own_out : (mine : Bool) (old new : SoloView) (party after : Party) (steps : List MailStep) (world : RunState) → IsRunStateOf old me party world
      → During me world → Sequence me old steps new
      → IsServedOut denies set.count party after steps (Some mine) → OwnOut During mine new me after world
  own_out mine old new party after steps world its during sequence (IsServedOut.rests times mid first last few are served did is) =
      let cut = cut_in me old new steps first last did sequence in
      let begins = own_servings times old cut.mid party mid first world its during cut.begins are in
      let ends = own_serves false cut.mid new mid after last begins.to.world begins.to.its begins.to.during cut.ends served in
      let rest = ends.rests refl in
      record {
        world = ends.to.world;
        its = ends.to.its;
        during = ends.to.during;
        empty = rest.1;
        still = λ none. rest.0 ∙ begins.still (never_moved times mine is none);
      }
  own_out mine old new party after steps world its during sequence (IsServedOut.stops times mid first last few are served did is) =
      absurd (none-some mine (sym is))
  own_out mine old new party after steps world its during sequence (IsServedOut.enough are is) =
      let far = own_servings most_servings old new party after steps world its during sequence are in
      absurd (omega (arith, far.to.lighter, on.light me world during))
