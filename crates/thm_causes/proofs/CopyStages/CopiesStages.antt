-- A further copy of an ask is held, or stale: it comes to the same stage.
use Rattle.std.proofs.Common.{◌≡◌, ◌≢◌, ◌∙◌, ℕ, ◌+◌, ◌≤◌, Bool, true, false, ◌==◌, List, replicate, Option, Some, None, inl, refl, ap, sym, subst, arith}
use Rattle.std.specs.Prelude.{count_by, slice_get, slice_set, if◌then◌else◌}
use Rattle.std.proofs.lemmas.Bool.{eq-eqb, eqb-true}
use Rattle.std.proofs.lemmas.Option.{same_Some}
use Rattle.hp_base.specs.declared.plan_entry.MsgKind.TheVariants as message
use Rattle.hp_core.specs.Asks.{asker, number_of}
use Rattle.hp_core.specs.Core.{Core}
use Rattle.hp_core.specs.Stepping.{holding}
use Rattle.hp_core.specs.declared.asked.Asked.{Asked}
use Rattle.hp_core.specs.declared.phase.Phase.{Phase}
use Rattle.hp_core.specs.declared.phase.Phase.TheVariants.{Idle, Waiting}
use Rattle.hp_segs.specs.LaterSteps.{after_stale}
use Rattle.hp_segs.specs.SegsView.{SegsView}
use Rattle.hp_serve.specs.Coordinating.{with_core, with_room}
use Rattle.hp_serve.specs.Party.{Party}
use Rattle.hp_serve.specs.declared.sent.Sent.{Sent}
use Rattle.thm_causes.specs.Counting.{doubled_among}
use Rattle.thm_causes.specs.RoundTrip.{AreDoubled, HasCoordinator, IsBase, Setting, AskPhase, RunState, doubles, is_call, mail_of}
use Rattle.thm_causes.specs.Shared.{Shared, with_segs}
use Rattle.thm_causes.specs.Stages.{ComesTo, HasOneMore, TakesACopy}
use Rattle.thm_causes.proofs.CopyStages.CopiesAlong.{IsAlong, IsLike, IsSameBut, told_along}
use Rattle.thm_causes.proofs.CopyStages.CopiesCarried.{IsUnheard, answered_along, growing_along, over_along, settling_along, to_do_along}
use Rattle.thm_causes.proofs.CopyStages.CopiesSet.{along_set, base_set, set_twice, unheard_set, world_set}
use Rattle.thm_causes.proofs.CopyStages.CopiesTaken.{IsTaken, handled_so, held_growing, held_settling, like_room, like_stale, rested, stale_more, stale_step}
use Rattle.thm_causes.proofs.Said.{set_found}
use Rattle.thm_causes.proofs.CountingLemmas.{one_if}

-- the places of a coordinator that holds the ask, or nothing
abbrev held_by : Asked → Bool → List (Option Asked)
held_by call holds = if holds then slice_set (replicate 16 None) (asker call) (Some call) else replicate 16 None

-- an ask is held once, however often
held_once : (call : Asked) (holds : Bool) → slice_set (held_by call holds) (asker call) (Some call) ≡ held_by call true
held_once call true = set_twice (replicate 16 None) (asker call) (Some call) (Some call)
held_once call false = refl

-- with one more that is held there are at most as many copies as with one more that came
left_more : (count : ℕ) (holds : Bool) → count + 1 ≤ count + (if holds then 1 else 0) + 1
left_more count true = omega arith
left_more count false = omega arith

-- another one is another
unlike : (a b : ℕ) (test : Bool) → (a == b) ≡ test → b ≢ a → test ≡ false
unlike a b true is apart = absurd (apart (sym (eqb-true a b is)))
unlike a b false is apart = refl

-- who sent as many had as many doubled
pub doubles_same : (set : Setting) (who : ℕ) (a b : Party) → b.sent ≡ a.sent → doubles set who b ≡ doubles set who a
doubles_same set who a b same =
    ap (λ (sent : Sent). doubled_among set.plan message.Alloc who sent.allocs + doubled_among set.plan message.Free who sent.frees) same

module _ (set : Setting) (call : Asked) (sent : ℕ) (world : RunState) (primary : Party) (base : IsBase set world)
    (there : slice_get world.parties 0 ≡ Some primary) where
  -- the primary's coordinator, of which a stage knows
  its_core : (phase : Phase) (holds : Bool) (coordinator : HasCoordinator set world phase call holds)
      → primary.core ≡ Some coordinator.is.its
  its_core phase holds coordinator =
      ap (λ (p : Party). p.core) (same_Some primary coordinator.primary (sym there ∙ coordinator.there)) ∙ coordinator.is.there

  -- the world after the step
  abbrev behind : SegsView → Core → RunState
  behind segs core = world_set segs world.shared.boxes world.mail (with_core core primary) world

  same_behind : (core : Core) → IsSameBut primary (with_core core primary)
  same_behind core = record { me = refl; deadline = refl; plan = refl; joined = refl; maps = refl; sent = refl; asked = refl }

  along_behind : (segs : SegsView) (core : Core) → IsLike world.shared.segs segs → IsAlong world (behind segs core)
  along_behind segs core like =
      along_set set world segs world.shared.boxes world.mail primary (with_core core primary) there (same_behind core) like
      (λ who apart. refl) (inl refl)

  -- nobody has heard anything
  unheard_behind : (segs : SegsView) (core : Core) → IsLike world.shared.segs segs → IsUnheard call world
      → IsUnheard call (behind segs core)
  unheard_behind segs core like unheard =
      unheard_set set world segs world.shared.boxes world.mail primary (with_core core primary) there (same_behind core) like call unheard
      (λ its. unheard primary (subst (λ (n : ℕ). slice_get world.parties n ≡ Some primary) (sym its) there))

  -- the coordinator holds the ask
  held_behind : (segs : SegsView) (phase : Phase) (holds : Bool) (was : HasCoordinator set world phase call holds)
      → HasCoordinator set (behind segs (holding call was.is.its)) phase call true
  held_behind segs phase holds was = record {
    primary = with_core (holding call was.is.its) primary;
    there = set_found world.parties 0 primary (with_core (holding call was.is.its) primary) there;
    is = record {
      its = holding call was.is.its;
      there = refl;
      deadline = was.is.deadline;
      phase_is = was.is.phase_is;
      held =
          ap (λ (held : List (Option Asked)). slice_set held (asker call) (Some call)) was.is.held ∙ held_once call holds;
    };
  }

  -- or it is as it was
  rested_behind : (segs : SegsView) (holds : Bool) (was : HasCoordinator set world Idle call holds)
      → HasCoordinator set (behind segs (rested was.is.its)) Idle call holds
  rested_behind segs holds was = record {
    primary = with_core (rested was.is.its) primary;
    there = set_found world.parties 0 primary (with_core (rested was.is.its) primary) there;
    is = record {
      its = rested was.is.its;
      there = refl;
      deadline = was.is.deadline;
      phase_is = refl;
      held = was.is.held;
    };
  }

  -- a copy that is held has room for it to be stale
  doubled_held : (core : Core) (holds : Bool) → HasOneMore set world call holds → AreDoubled set world call holds false
      → AreDoubled set (behind (with_room world.shared.segs) core) call true false
  doubled_held core holds room doubled = record {
    asker_is = λ party is.
        (let came = (along_behind (with_room world.shared.segs) core (like_room world.shared.segs)).before (asker call) party is in
        let sends = doubles_same set (asker call) came.its party came.same.sent in
        let more = room came.its came.there in
        let left = left_more (count_by is_call (mail_of world 0)) holds in
        omega (arith, sends, more, left));
    others = λ who party apart is.
        (let came = (along_behind (with_room world.shared.segs) core (like_room world.shared.segs)).before who party is in
        let sends = doubles_same set who came.its party came.same.sent in
        let before = doubled.others who came.its apart came.there in
        omega (arith, sends, before));
    told = told_along set world (behind (with_room world.shared.segs) core)
        (along_behind (with_room world.shared.segs) core (like_room world.shared.segs)) call doubled.told;
  }

  -- the segment value after a stale outcome
  abbrev staled : SegsView
  staled = after_stale (asker call) (number_of call) (with_room world.shared.segs)

  doubled_staled : (core : Core) (holds : Bool) → HasOneMore set world call holds → AreDoubled set world call holds false
      → AreDoubled set (behind staled core) call holds false
  doubled_staled core holds room doubled = record {
    asker_is = λ party is.
        (let came = (along_behind staled core (like_stale world.shared.segs (asker call) (number_of call))).before (asker call) party is in
        let sends = doubles_same set (asker call) came.its party came.same.sent in
        let more = room came.its came.there in
        let rises = stale_more world.shared.segs (asker call) (number_of call) (asker call) in
        let one : one_if (asker call == asker call) ≡ 1 = ap one_if (eq-eqb (asker call) (asker call) refl) in
        omega (arith, sends, more, rises, one));
    others = λ who party apart is.
        (let came = (along_behind staled core (like_stale world.shared.segs (asker call) (number_of call))).before who party is in
        let sends = doubles_same set who came.its party came.same.sent in
        let before = doubled.others who came.its apart came.there in
        let rises = stale_more world.shared.segs (asker call) (number_of call) who in
        let none : one_if (asker call == who) ≡ 0 = ap one_if (unlike (asker call) who (asker call == who) refl apart) in
        omega (arith, sends, before, rises, none));
    told = told_along set world (behind staled core)
        (along_behind staled core (like_stale world.shared.segs (asker call) (number_of call))) call doubled.told;
  }

  -- so it comes to the stage that stands after the step
  comes_by : (segs : SegsView) (core : Core) (shared : Shared) (after : Party) → IsTaken segs core world.shared shared primary after
      → IsLike world.shared.segs segs → AskPhase set call sent true (behind segs core) → ComesTo set call sent true world 0 shared after
  comes_by segs core shared after taken like stage =
      subst (λ (s : Shared). ComesTo set call sent true world 0 s after) (sym taken.shared)
      (subst (λ (p : Party). ComesTo set call sent true world 0 (with_segs segs world.shared) p) (sym taken.after_is) comes)
    where
      comes : ComesTo set call sent true world 0 (with_segs segs world.shared) (with_core core primary)
      comes = record {
        mail = world.mail;
        base =
            base_set set world segs world.shared.boxes world.mail primary (with_core core primary) there (same_behind core) like
            (along_behind segs core like) base refl refl base.said taken.sound (taken.armed base.armed);
        stage = stage;
      }

-- a further copy is held, or stale
pub takes_a_copy : TakesACopy
takes_a_copy denies set call sent event world shared primary after is_sent base
    (AskPhase.fresh clock unanswered coordinator alone to_do copies some empty doubled level) room there asked handles =
    absurd room
takes_a_copy denies set call sent event world shared primary after is_sent base
    (AskPhase.lost clock unanswered coordinator alone to_do none empty doubled taken_back loses) room there asked handles =
    absurd room
takes_a_copy denies set call sent event world shared primary after is_sent base
    (AskPhase.growing round holds its_kind from number unanswered coordinator its to_do clock bodies doubled follow awaited level) room there
    asked handles =
    let core : Core = coordinator.is.its in
    let segs : SegsView = with_room world.shared.segs in
    let like : IsLike world.shared.segs segs = like_room world.shared.segs in
    let along : IsAlong world (behind set call sent world primary base there segs (holding call core)) =
    along_behind set call sent world primary base there segs (holding call core) like in
    comes_by set call sent world primary base there segs (holding call core) shared after
    (handled_so set.count event world.shared shared primary after core (holding call core) segs handles
    (its_core set call sent world primary base there (Waiting round sent) holds coordinator)
    (held_growing handles.steps.denied event call core world round sent asked coordinator.is.phase_is its to_do))
    like
    (growing_along set call sent world (behind set call sent world primary base there segs (holding call core)) along round true its_kind
    from number unanswered
    (unheard_behind set call sent world primary base there segs (holding call core) like unanswered.unheard)
    (held_behind set call sent world primary base there segs (Waiting round sent) holds coordinator) its
    (to_do_along call world (behind set call sent world primary base there segs (holding call core)) along to_do) clock bodies
    (doubled_held set call sent world primary base there (holding call core) holds room doubled) follow
    (λ member told. awaited refl member told) level)
takes_a_copy denies set call sent event world shared primary after is_sent base
    (AskPhase.settling round since holds its_kind from number unanswered coordinator alone closed early clock logged bodies doubled waits
    answered level) room there asked handles =
    let core : Core = coordinator.is.its in
    let segs : SegsView = with_room world.shared.segs in
    let like : IsLike world.shared.segs segs = like_room world.shared.segs in
    let along : IsAlong world (behind set call sent world primary base there segs (holding call core)) =
    along_behind set call sent world primary base there segs (holding call core) like in
    comes_by set call sent world primary base there segs (holding call core) shared after
    (handled_so set.count event world.shared shared primary after core (holding call core) segs handles
    (its_core set call sent world primary base there (Waiting round since) holds coordinator)
    (held_settling handles.steps.denied event call core world round since asked coordinator.is.phase_is alone closed))
    like
    (settling_along set call sent world (behind set call sent world primary base there segs (holding call core)) along round since true
    its_kind from number unanswered
    (unheard_behind set call sent world primary base there segs (holding call core) like unanswered.unheard)
    (held_behind set call sent world primary base there segs (Waiting round since) holds coordinator) alone closed early clock logged bodies
    (doubled_held set call sent world primary base there (holding call core) holds room doubled)
    (λ member told. waits refl member told)
    (answered_along call world (behind set call sent world primary base there segs (holding call core)) along answered) level)
takes_a_copy denies set call sent event world shared primary after is_sent base
    (AskPhase.over holds coordinator alone closed bodies doubled told answered level) room there asked handles =
    let core : Core = coordinator.is.its in
    let segs : SegsView = after_stale (asker call) (number_of call) (with_room world.shared.segs) in
    let like : IsLike world.shared.segs segs = like_stale world.shared.segs (asker call) (number_of call) in
    let along : IsAlong world (behind set call sent world primary base there segs (rested core)) =
    along_behind set call sent world primary base there segs (rested core) like in
    comes_by set call sent world primary base there segs (rested core) shared after
    (handled_so set.count event world.shared shared primary after core (rested core) segs handles
    (its_core set call sent world primary base there Idle holds coordinator)
    (stale_step handles.steps.denied event call core world asked coordinator.is.phase_is alone closed))
    like
    (over_along set call sent world (behind set call sent world primary base there segs (rested core)) along holds
    (rested_behind set call sent world primary base there segs holds coordinator) alone closed bodies
    (doubled_staled set call sent world primary base there (rested core) holds room doubled) told
    (answered_along call world (behind set call sent world primary base there segs (rested core)) along answered) level)
