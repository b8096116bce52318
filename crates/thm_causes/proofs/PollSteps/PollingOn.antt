-- A poll of participant 0 leads from a stage of an ask to one.
use Rattle.std.proofs.Common.{◌≡◌, ◌≢◌, ◌∙◌, ℕ, ◌+◌, ◌<◌, ◌==◌, Bool, true, false, Some, None, refl, sym, ap, arith}
use Rattle.std.proofs.lemmas.Bool.{le-leb, ne_eqb}
use Rattle.std.specs.List.{list_any}
use Rattle.std.specs.Prelude.{slice_get}
use Rattle.hp_core.specs.Asks.{asker, is_closed, number_of}
use Rattle.hp_core.specs.Core.{Core, unchanged}
use Rattle.hp_core.specs.declared.asked.Asked.{Asked}
use Rattle.hp_core.specs.declared.event.CoreEvent.TheVariants.{Poll}
use Rattle.hp_core.specs.declared.phase.Phase.TheVariants.{Idle}
use Rattle.hp_segs.specs.LaterSteps.{after_stale}
use Rattle.hp_segs.specs.SegsView.{SegsView, closed_number}
use Rattle.hp_serve.specs.Denials.{Denials}
use Rattle.hp_serve.specs.Coordinating.{with_room}
use Rattle.hp_serve.specs.Party.{Party}
use Rattle.thm_causes.specs.RoundTrip.{AreAnswersOrCopies, AreDoubled, EndsLevel, HasCoordinator, IsAnsweredFor, IsBase, IsClosed, IsCoordinator, IsUnanswered, Setting, AskPhase, RunState, is_sync, mail_of}
use Rattle.thm_causes.specs.Outcomes.{stale_outcomes}
use Rattle.thm_causes.specs.Servings.{Polls}
use Rattle.thm_causes.specs.Shared.{Shared}
use Rattle.thm_causes.specs.Stages.{ComesTo, IsSent, PollsOn}
use Rattle.thm_causes.proofs.CopyStages.CopiesCarried.{answered_along, over_along, to_do_along}
use Rattle.thm_causes.proofs.CopyStages.CopiesLevel.{starts_along}
use Rattle.thm_causes.proofs.CopyStages.CopiesTaken.{like_room, like_stale, stale_more}
use Rattle.thm_causes.proofs.AskStages.HeldAsks.{none_held}
use Rattle.thm_causes.proofs.PollSteps.PollingGoes.{goes, goes_coordinated, goes_doubled, goes_unanswered, its_coordinator}
use Rattle.thm_causes.proofs.PollSteps.PollingSettles.{drop_on, growth_on}
use Rattle.thm_causes.proofs.PollSteps.PollingStays.{comes_taken, goes_along, goes_back}
use Rattle.thm_causes.proofs.PollSteps.PollingSteps.{handled, taken_by}
use Rattle.thm_causes.proofs.PollSteps.PollingWays.{idle_polled, stale_polled}
use Rattle.thm_causes.proofs.CountingLemmas.{at_most_one, one_if}

module _ {denies : Denials} (set : Setting) (call : Asked) (sent : ℕ) (world : RunState) (shared : Shared) (primary after : Party)
    (is_sent : IsSent set call sent)
    (base : IsBase set world) (there : slice_get world.parties 0 ≡ Some primary)
    (polls : Polls denies set.count world.shared shared primary after) where
  abbrev room : SegsView
  room = with_room world.shared.segs

  -- while nothing is under way and nothing is held
  module _ (is : IsCoordinator set Idle call false primary.core) where
    abbrev still : RunState
    still = goes world primary is.its room

    still_idle : HasCoordinator set still Idle call false
    still_idle =
        goes_coordinated world primary is.its room there set call Idle false
        (record { its = is.its; there = refl; deadline = is.deadline; phase_is = is.phase_is; held = is.held })

    still_doubled : (fresh : Bool) → AreDoubled set world call false fresh → AreDoubled set still call false fresh
    still_doubled fresh doubled =
        goes_doubled world primary is.its room there set call false false fresh (omega arith)
        (λ who apart. refl) ((like_room world.shared.segs).heard call) doubled

    still_unanswered : IsUnanswered call world → IsUnanswered call still
    still_unanswered unanswered = goes_unanswered world primary is.its room there set call unanswered

    idle_on : AskPhase set call sent true still → ComesTo set call sent true world 0 shared after
    idle_on stage =
        comes_taken set world primary is.its room base there (like_room world.shared.segs) call sent shared after
        (taken_by set.count is.its room world.shared shared primary after
        (handled set.count (Poll world.shared.clock polls.acks) is.its world.shared shared primary after
        (unchanged is.its room) polls.handles
        is.there (idle_polled polls.handles.steps.denied is.its world.shared.segs world.shared.clock polls.acks is.phase_is is.held)))
        stage

  -- an ask that is held is started: it is closed, and so stale
  module _ (is : IsCoordinator set Idle call true primary.core) (alone : world.shared.segs.growth ≡ None) (closed : IsClosed call world)
      (bodies : AreAnswersOrCopies call (mail_of world 0)) (doubled : AreDoubled set world call true false)
      (none : (member : ℕ) → list_any is_sync (mail_of world member) ≡ false) (answered : IsAnsweredFor call world)
      (level : EndsLevel set world) where
    abbrev released : Core
    released = record { deadline = is.its.deadline; phase = Idle; held = none_held }

    abbrev stale_segs : SegsView
    stale_segs = after_stale (asker call) (number_of call) room

    stale_other : (who : ℕ) → who ≢ asker call → stale_outcomes who stale_segs.asks ≡ stale_outcomes who world.shared.segs.asks
    stale_other who apart =
        stale_more world.shared.segs (asker call) (number_of call) who
        ∙ (ap (λ (b : Bool). stale_outcomes who world.shared.segs.asks + one_if b) (ne_eqb (asker call) who (λ same. apart (sym same)))
        ∙ add_none (stale_outcomes who world.shared.segs.asks))
      where
        add_none : (n : ℕ) → n + 0 ≡ n
        add_none n = omega arith

    stale_on : ComesTo set call sent true world 0 shared after
    stale_on =
        let like = like_stale world.shared.segs (asker call) (number_of call) in
        let later = goes world primary released stale_segs in
        let along = goes_along set world primary released stale_segs base there like in
        let within : asker call < 16 = omega (arith, is_sent.declared, is_sent.setting.few) in
        let done : is_closed call world.shared.segs ≡ true =
        le-leb (number_of call) (closed_number world.shared.segs.asks (asker call)) closed in
        comes_taken set world primary released stale_segs base there like call sent shared after
        (taken_by set.count released stale_segs world.shared shared primary after
        (handled set.count (Poll world.shared.clock polls.acks) is.its world.shared shared primary after (unchanged released stale_segs)
        polls.handles is.there
        (stale_polled polls.handles.steps.denied is.its world.shared.segs world.shared.clock polls.acks call is.phase_is is.held within
        alone done)))
        (over_along set call sent world later along false
        (goes_coordinated world primary released stale_segs there set call Idle false
        (record { its = released; there = refl; deadline = is.deadline; phase_is = refl; held = refl }))
        alone closed bodies
        (goes_doubled world primary released stale_segs there set call true false false
        (omega (arith, stale_more world.shared.segs (asker call) (number_of call) (asker call), at_most_one (asker call == asker call)))
        stale_other (like.heard call) doubled)
        none (answered_along call world later along answered) level)

  over_on : (holds : Bool) → HasCoordinator set world Idle call holds → world.shared.segs.growth ≡ None → IsClosed call world
      → AreAnswersOrCopies call (mail_of world 0) → AreDoubled set world call holds false
      → ((member : ℕ) → list_any is_sync (mail_of world member) ≡ false) → IsAnsweredFor call world → EndsLevel set world
      → ComesTo set call sent true world 0 shared after
  over_on false coordinator alone closed bodies doubled none answered level =
      let is = its_coordinator set world Idle call false primary coordinator there in
      let along = goes_along set world primary is.its room base there (like_room world.shared.segs) in
      idle_on is
      (over_along set call sent world (still is) along false (still_idle is) alone closed bodies (still_doubled is false doubled) none
      (answered_along call world (still is) along answered) level)
  over_on true coordinator alone closed bodies doubled none answered level =
      stale_on (its_coordinator set world Idle call true primary coordinator there) alone closed bodies doubled none answered
      level

-- wherever an ask is, a poll leads to a stage of it
pub polls_on : PollsOn
polls_on denies set call sent world shared primary after is_sent base
    (AskPhase.fresh clock unanswered coordinator alone to_do copies some empty doubled level) may there polls =
    let is = its_coordinator set world Idle call false primary coordinator there in
    let later = still set call sent world shared primary after is_sent base there polls is in
    let along = goes_along set world primary is.its (with_room world.shared.segs) base there (like_room world.shared.segs) in
    idle_on set call sent world shared primary after is_sent base there polls is
    (AskPhase.fresh clock (still_unanswered set call sent world shared primary after is_sent base there polls is unanswered)
    (still_idle set call sent world shared primary after is_sent base there polls is) alone
    (to_do_along call world later along to_do) copies some empty
    (still_doubled set call sent world shared primary after is_sent base there polls is true doubled)
    (starts_along set call world later along level))
polls_on denies set call sent world shared primary after is_sent base
    (AskPhase.lost clock unanswered coordinator alone to_do none empty doubled taken_back loses) may there polls =
    let is = its_coordinator set world Idle call false primary coordinator there in
    let later = still set call sent world shared primary after is_sent base there polls is in
    idle_on set call sent world shared primary after is_sent base there polls is
    (AskPhase.lost clock (still_unanswered set call sent world shared primary after is_sent base there polls is unanswered)
    (still_idle set call sent world shared primary after is_sent base there polls is) alone
    (to_do_along call world later
    (goes_along set world primary is.its (with_room world.shared.segs) base there (like_room world.shared.segs)) to_do)
    none empty (still_doubled set call sent world shared primary after is_sent base there polls is false doubled)
    (goes_back set world primary is.its (with_room world.shared.segs) base there (like_room world.shared.segs) call taken_back)
    loses)
polls_on denies set call sent world shared primary after is_sent base
    (AskPhase.growing round holds its_kind from number unanswered coordinator opens to_do clock bodies doubled follow
    awaited level) may there polls =
    growth_on set call sent world shared primary after is_sent base there polls round holds
    (record {
      its_kind = its_kind;
      from = from;
      number = number;
      unanswered = unanswered;
      coordinator = coordinator;
      opens = opens;
      to_do = to_do;
      clock = clock;
      bodies = bodies;
      doubled = doubled;
      follow = follow;
      awaited = awaited refl;
      level = level;
    })
polls_on denies set call sent world shared primary after is_sent base
    (AskPhase.settling round since holds its_kind from number unanswered coordinator alone closed early clock logged bodies doubled waits
    granted level) may
    there polls =
    drop_on set call sent world shared primary after is_sent base there polls round holds since
    (record {
      its_kind = its_kind;
      from = from;
      number = number;
      unanswered = unanswered;
      coordinator = coordinator;
      alone = alone;
      closed = closed;
      early = early;
      clock = clock;
      logged = logged;
      bodies = bodies;
      doubled = doubled;
      waiting = waits refl;
      answered = granted;
      level = level;
    }) may
polls_on denies set call sent world shared primary after is_sent base
    (AskPhase.over holds coordinator alone closed bodies doubled told granted level) may there polls =
    over_on set call sent world shared primary after is_sent base there polls holds coordinator alone closed bodies doubled told granted
    level
