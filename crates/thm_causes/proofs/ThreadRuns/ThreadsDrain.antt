-- In a quiet world nobody has anything to do: turns of all leave it as it is, and the clock stands.
use Rattle.std.proofs.Common.{◌≡◌, ◌≢◌, ◌∙◌, ℕ, ◌<◌, ⊎_elim, Bool, true, false, true≢false, List, [], length, Option, Some, None, refl, sym, ap, subst, arith}
use Rattle.std.specs.Prelude.{slice_get, slice_set}
use Rattle.std.proofs.lemmas.Bool.{cases_eq}
use Rattle.std.proofs.lemmas.List.{set-get_or}
use Rattle.std.proofs.lemmas.Option.{get_or_from_slice_get, none-some, slice_get_within}
use Rattle.hp_plain.specs.Boxes.{box_of}
use Rattle.hp_serve.specs.Denials.{Denials}
use Rattle.hp_serve.specs.Coordinating.{IsServed}
use Rattle.hp_serve.specs.Party.{Party, due_in}
use Rattle.hp_solo.specs.Draining.{Drains}
use Rattle.hp_solo.specs.Sequence.{ServesOnce, ServesSome, Visit, Visits, going_place}
use Rattle.hp_solo.specs.Solo.{IsPendingDue, AloneView, SoloView, denials_in, due_at, has_stopped, party_at, party_in, server_at}
use Rattle.thm_causes.specs.RoundTrip.{Setting, RunState, mail_of}
use Rattle.thm_causes.specs.Quiet.{IsQuietState}
use Rattle.thm_causes.specs.Shared.{IsSharedIn, Shared}
use Rattle.thm_causes.specs.Threads.{DrainsInQuiet, IsRunStateAt}
use Rattle.thm_causes.specs.RunStates.{IsInOrder}
use Rattle.thm_causes.proofs.ServedAlong.{core_along, member_along}
use Rattle.thm_causes.proofs.StepsAlong.{made_by}
use Rattle.thm_causes.proofs.ThreadRuns.ThreadsLine.{all_count}
use Rattle.thm_causes.proofs.IdleServings.{DidNothing, core_idle, idle_due, member_idle}
use Rattle.thm_causes.proofs.Said.{unsaid_none}

module _ (set : Setting) (world : RunState) (quiet : IsQuietState set world) where
  -- a participant has no deadline
  never_pends : (who : ℕ) (party : Party) → slice_get world.parties who ≡ Some party → due_in party.core ≡ None
  never_pends who party there =
      ⊎_elim
      (λ (primary : who ≡ 0).
      let idle = quiet.idle party (subst (λ (who : ℕ). slice_get world.parties who ≡ Some party) primary there) in
      idle_due party.core (record { its = idle.0; there = idle.1; phase = idle.3; held = idle.4 }))
      (λ (other : who ≢ 0). ap due_in ((quiet.base.places who party there).follower other))
      (cases_eq who 0)

  none_pends : (who : ℕ) (place : Option Party) → slice_get world.parties who ≡ place → due_at place ≡ None
  none_pends who None there = refl
  none_pends who (Some party) there = never_pends who party there

  -- a hall is that world, and one that is there served once
  module _ (denies : Denials) (old new : SoloView) (at : IsRunStateAt old world) (who : ℕ) (moved : Bool)
      (once : ServesOnce denies who moved old new) where
    abbrev party : Party
    party = once.party

    there : slice_get world.parties who ≡ Some party
    there = at.all who ∙ ap party_in once.there

    number : party.me ≡ who
    number = (quiet.base.places who party there).me

    -- its mailbox is empty
    empty : box_of world.shared.boxes party.me ≡ []
    empty = unsaid_none (box_of world.shared.boxes party.me) (mail_of world party.me) (quiet.base.said party.me) (quiet.empty party.me)

    declared : party.me < length old.plain.owns
    declared =
        omega (
          arith,
          number,
          slice_get_within world.parties who party there,
          quiet.base.parties,
          all_count set old world at quiet,
        )

    made : once.made.course.steps ≡ made_by party.me once.steps
    made = once.made.are ∙ ap (λ (who : ℕ). made_by who once.steps) (sym number)

    -- what came of it
    pub record ComesToRest : Type 0 where
      pub still : moved ≡ false
      pub shared : IsSharedIn new.plain world.shared
      pub order : IsInOrder new.plain
      pub after_is : once.after ≡ party

    came_so : (at : Shared) → IsSharedIn new.plain at → IsInOrder new.plain
        → DidNothing world.shared at party once.after moved → ComesToRest
    came_so at shared order did = record {
      still = did.still;
      shared = subst (IsSharedIn new.plain) did.same shared;
      order = order;
      after_is = did.stays;
    }

    comes : IsServed denies (length old.plain.owns) party once.after once.steps (Some moved) → ComesToRest
    comes (IsServed.coordinates primary served) =
        let goes =
        core_along old.plain new.plain party once.after once.steps moved once.made.course made declared at.order world.shared at.shared primary
        served in
        let idle = quiet.idle party (subst (λ (who : ℕ). slice_get world.parties who ≡ Some party) (sym number ∙ primary) there) in
        came_so goes.at goes.shared goes.order
        (core_idle (length old.plain.owns) world.shared goes.at party once.after moved goes.serves empty
        (record { its = idle.0; there = idle.1; phase = idle.3; held = idle.4 }))
    comes (IsServed.follows other served) =
        let goes =
        member_along old.plain new.plain party once.after once.steps moved once.made.course made declared at.order world.shared at.shared
        served in
        came_so goes.at goes.shared goes.order
        (member_idle world.shared goes.at party once.after moved goes.serves empty)

    rested : ComesToRest
    rested = comes once.serves

    servers_same : new.servers ≡ old.servers
    servers_same =
        once.servers
        ∙ ap (λ (after : Party). slice_set old.servers who (going_place once.validators after)) rested.after_is
        ∙ sym (ap (λ (place : AloneView). slice_set old.servers who place)
        (get_or_from_slice_get old.servers who (going_place once.validators party) (going_place once.validators party) once.there))
        ∙ set-get_or old.servers who (going_place once.validators party)

    -- it did nothing, and the hall is that world still
    pub did_nothing : moved ≡ false
    did_nothing = rested.still

    pub once_quiet : IsRunStateAt new world
    once_quiet = record {
      shared = rested.shared;
      order = rested.order;
      going = ap has_stopped servers_same ∙ at.going;
      all = λ who. at.all who ∙ sym (ap (λ (servers : List AloneView). party_at servers who) servers_same);
    }

  some_quiet : (denies : Denials) (who : ℕ) (old new : SoloView) → IsRunStateAt old world → ServesSome denies who old new → IsRunStateAt new world
  some_quiet denies who _ _ at (ServesSome.none hall) = at
  some_quiet denies who old new at (ServesSome.more _ mid _ before once) =
      absurd (true≢false (did_nothing denies mid new (some_quiet denies who old mid at before) who true once))

  visit_quiet : (denies : Denials) (who : ℕ) (old new : SoloView) → IsRunStateAt old world → Visit denies who old new → IsRunStateAt new world
  visit_quiet denies who old new at (Visit.serves between before once) =
      once_quiet denies between new (some_quiet denies who old between at before) who false once
  visit_quiet denies who old new at (Visit.is_away away is) = subst (λ (hall : SoloView). IsRunStateAt hall world) (sym is) at

  visits_quiet : (from upto : ℕ) (old new : SoloView) → IsRunStateAt old world → Visits from upto old new → IsRunStateAt new world
  visits_quiet from _ _ _ at (Visits.none hall) = at
  visits_quiet from _ old new at (Visits.next upto _ mid _ before visit) =
      visit_quiet (denials_in (server_at mid.servers upto)) upto mid new (visits_quiet from upto old mid at before) visit

  -- no deadline is to come
  none_due : (hall : SoloView) (due : ℕ) → IsRunStateAt hall world → IsPendingDue hall.plain.clock hall.servers due → ⊥
  none_due hall due at pends =
      none-some due (sym (none_pends pends.0 (party_at hall.servers pends.0) (at.all pends.0)) ∙ pends.1)

  drains_quiet : (old new : SoloView) → IsRunStateAt old world → Drains old new → IsRunStateAt new world
  drains_quiet _ _ at (Drains.none hall) = at
  drains_quiet old new at (Drains.turns _ mid _ before visits) =
      visits_quiet 0 (length mid.servers) mid new (drains_quiet old mid at before) visits
  drains_quiet old new at (Drains.jumps _ mid next _ before visits still least plain servers) =
      absurd
      (none_due next new.plain.clock (visits_quiet 0 (length mid.servers) mid next (drains_quiet old mid at before) visits) least.pending)

-- so turns of all leave a quiet world as it is
pub drains_in_quiet : DrainsInQuiet
drains_in_quiet set old new world sets at quiet drains = drains_quiet set world quiet old new at drains
