-- An ask's stage after a fetch of a body of mailbox 0: a fresh ask is to be started, and any other stage goes on.
use Rattle.std.proofs.Common.{◌≡◌, ◌∙◌, ◌⊎◌, ℕ, ◌+◌, ◌<◌, Bool, true, false, List, [], ◌∷◌, drop, Some, inl, inr, refl, ap, sym, subst, arith}
use Rattle.std.specs.Prelude.{count_by, slice_get, slice_set}
use Rattle.std.specs.List.{All, list_any}
use Rattle.std.proofs.lemmas.List.Elements.{All-head}
use Rattle.std.proofs.lemmas.Option.{same_Some}
use Rattle.hp_core.specs.Asks.{asker}
use Rattle.hp_core.specs.declared.asked.Asked.{Asked}
use Rattle.hp_core.specs.declared.phase.Phase.{Phase}
use Rattle.hp_core.specs.declared.phase.Phase.TheVariants.{Idle, Waiting}
use Rattle.hp_frame.specs.declared.message.Body.{Body}
use Rattle.hp_plain.specs.Boxes.{box_of}
use Rattle.hp_log.proofs.Counts.{count_cons}
use Rattle.hp_serve.specs.Party.{Party}
use Rattle.thm_causes.specs.RoundTrip.{AreAnswersOrCopies, AreDoubled, HasCoordinator, IsBase, IsCopy, IsUnanswered, Setting, AskPhase, WaitsToSettle, RunState, is_answer, is_call, is_sync, mail_of, number_of_party}
use Rattle.thm_causes.specs.Stages.{HasOneMore, HasRoomFor, IsSent, IsStarting, MayPoll}
use Rattle.thm_causes.proofs.CopyStages.CopiesAlong.{IsAlong, IsSameBut, all_first, told_along}
use Rattle.thm_causes.proofs.CopyStages.CopiesBodies.{answer_is_no_copy, copy_is_call}
use Rattle.thm_causes.proofs.CopyStages.CopiesCarried.{IsUnheard, answered_along, growing_along, over_along, settling_along, synced_before, to_do_along, unanswered_along}
use Rattle.thm_causes.proofs.CopyStages.CopiesLevel.{starts_along}
use Rattle.thm_causes.proofs.CopyStages.CopiesSet.{along_set, base_set, world_set}
use Rattle.thm_causes.proofs.CopyStages.CopiesStages.{doubles_same}
use Rattle.thm_causes.proofs.CopyStages.CopiesTaken.{like_same}
use Rattle.thm_causes.proofs.Said.{index_set, index_unset, mail_fetched, said_fetched, set_found, set_long}
use Rattle.thm_causes.proofs.CountingLemmas.{one_if}

-- the world after a fetch of participant 0, which has become such a one
abbrev pub fetched : Party → RunState → RunState
fetched after world =
    world_set world.shared.segs (slice_set world.shared.boxes 0 (drop 1 (box_of world.shared.boxes 0))) (mail_fetched 0 world.mail) after
    world

-- what a stage is after the fetch of that body
pub data IsFetched (set : Setting) (call : Asked) (sent : ℕ) (body : Body) (new : RunState) : Type 0 where
  -- the ask was fresh, and is to be started
  starts : IsCopy call body → IsStarting set call sent new → IsFetched set call sent body new
  -- there is room for a copy that came, and a poll may come by an answer
  goes_on : (stage : AskPhase set call sent true new) → (is_answer body ≡ true) ⊎ IsCopy call body
      → (IsCopy call body → HasRoomFor set call sent true new stage) → (is_answer body ≡ true → MayPoll set call sent true new stage)
      → IsFetched set call sent body new

module _ (set : Setting) (call : Asked) (sent : ℕ) (world : RunState) (primary after : Party) (is_sent : IsSent set call sent)
    (base : IsBase set world) (there : slice_get world.parties 0 ≡ Some primary) (same : IsSameBut primary after)
    (core_same : after.core ≡ primary.core) where
  -- its first body is out of mailbox 0, and nothing else has changed
  mail_first : mail_of (fetched after world) 0 ≡ drop 1 (mail_of world 0)
  mail_first = index_set world.mail 0 (drop 1 (mail_of world 0)) [] (omega (arith, base.mail, is_sent.setting.some))

  pub along_fetched : IsAlong world (fetched after world)
  along_fetched =
      along_set set world world.shared.segs (slice_set world.shared.boxes 0 (drop 1 (box_of world.shared.boxes 0)))
      (mail_fetched 0 world.mail) primary after there same (like_same world.shared.segs)
      (λ who apart. index_unset world.mail 0 who (drop 1 (mail_of world 0)) [] apart) (inr mail_first)

  -- all that holds at each moment holds after it
  pub base_fetched : IsBase set (fetched after world)
  base_fetched =
      base_set set world world.shared.segs (slice_set world.shared.boxes 0 (drop 1 (box_of world.shared.boxes 0)))
      (mail_fetched 0 world.mail) primary after there same (like_same world.shared.segs) along_fetched base
      (set_long world.shared.boxes 0 (drop 1 (box_of world.shared.boxes 0))) (set_long world.mail 0 (drop 1 (mail_of world 0)))
      (said_fetched world.shared.boxes world.mail (base.mail ∙ sym base.boxes) base.said 0) base.sound base.armed

  -- the coordinator is as it was
  coordinator_fetched : (phase : Phase) (holds : Bool) → HasCoordinator set world phase call holds
      → HasCoordinator set (fetched after world) phase call holds
  coordinator_fetched phase holds was = record {
    primary = after;
    there = set_found world.parties 0 primary after there;
    is = record {
      its = was.is.its;
      there =
          core_same ∙ (ap (λ (p : Party). p.core) (same_Some primary was.primary (sym there ∙ was.there)) ∙ was.is.there);
      deadline = was.is.deadline;
      phase_is = was.is.phase_is;
      held = was.is.held;
    };
  }

  module _ (body : Body) (head : mail_of world 0 ≡ body ∷ drop 1 (mail_of world 0)) where
    -- of the body and those after it
    left : count_by is_call (mail_of world 0) ≡ one_if (is_call body) + count_by is_call (mail_of (fetched after world) 0)
    left =
        ap (count_by is_call) head
        ∙ (count_cons is_call body (drop 1 (mail_of world 0))
        ∙ ap (λ (bodies : List Body). one_if (is_call body) + count_by is_call bodies) (sym mail_first))

    -- fewer copies are left
    doubled_fetched : (holds : Bool) → AreDoubled set world call holds false → AreDoubled set (fetched after world) call holds false
    doubled_fetched holds doubled = record {
      asker_is = λ party is.
          (let came = along_fetched.before (asker call) party is in
          let sends = doubles_same set (asker call) came.its party came.same.sent in
          let before = doubled.asker_is came.its came.there in
          omega (arith, sends, before, left));
      others = λ who party apart is.
          (let came = along_fetched.before who party is in
          let sends = doubles_same set who came.its party came.same.sent in
          let before = doubled.others who came.its apart came.there in
          omega (arith, sends, before));
      told = told_along set world (fetched after world) along_fetched call doubled.told;
    }

    -- one of a fresh ask is the first of it
    doubled_started : IsCopy call body → AreDoubled set world call false true → AreDoubled set (fetched after world) call false false
    doubled_started copy doubled = record {
      asker_is = λ party is.
          (let came = along_fetched.before (asker call) party is in
          let sends = doubles_same set (asker call) came.its party came.same.sent in
          let before = doubled.asker_is came.its came.there in
          let one : one_if (is_call body) ≡ 1 = ap one_if (copy_is_call call body copy) in
          omega (arith, sends, before, left, one));
      others = λ who party apart is.
          (let came = along_fetched.before who party is in
          let sends = doubles_same set who came.its party came.same.sent in
          let before = doubled.others who came.its apart came.there in
          omega (arith, sends, before));
      told = told_along set world (fetched after world) along_fetched call doubled.told;
    }

    -- and of another there is room for one more that is stale
    room_fetched : (holds : Bool) → AreDoubled set world call holds false → IsCopy call body
        → HasOneMore set (fetched after world) call holds
    room_fetched holds doubled copy party is =
        let came = along_fetched.before (asker call) party is in
        let sends = doubles_same set (asker call) came.its party came.same.sent in
        let before = doubled.asker_is came.its came.there in
        let one : one_if (is_call body) ≡ 1 = ap one_if (copy_is_call call body copy) in
        omega (arith, sends, before, left, one)

    -- what holds of each body holds of this one
    of_head : (P : Body → Type 0) → All P (mail_of world 0) → P body
    of_head P are = All-head P body (drop 1 (mail_of world 0)) (subst (All P) head are)

    -- what has a SYNC has not acknowledged the round, where an answer is fetched
    may_poll : (generation since : ℕ) → AreAnswersOrCopies call (mail_of world 0)
        → ((member : ℕ) → list_any is_sync (mail_of world member) ≡ true → WaitsToSettle call world generation since member)
        → is_answer body ≡ true → (member : ℕ) → list_any is_sync (mail_of (fetched after world) member) ≡ true
        → number_of_party (fetched after world) member < generation
    may_poll generation since bodies waits answer member told =
        let was = waits member (synced_before set call sent world (fetched after world) along_fetched bodies member told) in
        elim was.unsettled [
          | inl below ↦ below
          | inr copies ↦ absurd (answer_is_no_copy call body answer (of_head (IsCopy call) copies))
        ]

    -- a stage after the fetch
    pub stage_fetched : (IsUnanswered call world → IsUnheard call (fetched after world)) → AskPhase set call sent true world
        → IsFetched set call sent body (fetched after world)
    stage_fetched unheard (AskPhase.fresh clock unanswered coordinator alone to_do copies some empty doubled level) =
        let copy : IsCopy call body = of_head (IsCopy call) copies in
        IsFetched.starts copy (record {
          clock = clock;
          unanswered =
              unanswered_along set call sent world (fetched after world) along_fetched unanswered (unheard unanswered);
          coordinator = coordinator_fetched Idle false coordinator;
          alone = alone;
          to_do = to_do_along call world (fetched after world) along_fetched to_do;
          copies = all_first set world (fetched after world) along_fetched (IsCopy call) copies;
          empty = λ who apart. along_fetched.others who apart ∙ empty who apart;
          doubled = doubled_started copy doubled;
          level = starts_along set call world (fetched after world) along_fetched level;
        })
    stage_fetched unheard (AskPhase.lost clock unanswered coordinator alone to_do none empty doubled taken_back loses) =
        absurd (let wrong : [] ≡ body ∷ drop 1 (mail_of world 0) = sym none ∙ head in let false : ⊥ = cc in false)
    stage_fetched unheard
        (AskPhase.growing round holds kind from number unanswered coordinator its to_do clock bodies doubled follow awaited level) =
        IsFetched.goes_on
        (growing_along set call sent world (fetched after world) along_fetched round holds kind from number unanswered (unheard unanswered)
        (coordinator_fetched (Waiting round sent) holds coordinator) its
        (to_do_along call world (fetched after world) along_fetched to_do) clock bodies (doubled_fetched holds doubled) follow
        (λ member told. awaited refl member told) level)
        (of_head (λ body. (is_answer body ≡ true) ⊎ IsCopy call body) bodies) (room_fetched holds doubled) (λ answer. tt)
    stage_fetched unheard
        (AskPhase.settling round since holds kind from number unanswered coordinator alone closed early clock logged bodies doubled waits
        answered level) =
        IsFetched.goes_on
        (settling_along set call sent world (fetched after world) along_fetched round since holds kind from number unanswered
        (unheard unanswered) (coordinator_fetched (Waiting round since) holds coordinator) alone closed early clock logged bodies
        (doubled_fetched holds doubled) (λ member told. waits refl member told)
        (answered_along call world (fetched after world) along_fetched answered) level)
        (of_head (λ body. (is_answer body ≡ true) ⊎ IsCopy call body) bodies) (room_fetched holds doubled)
        (may_poll round.generation since bodies (λ member told. waits refl member told))
    stage_fetched unheard (AskPhase.over holds coordinator alone closed bodies doubled told answered level) =
        IsFetched.goes_on
        (over_along set call sent world (fetched after world) along_fetched holds (coordinator_fetched Idle holds coordinator) alone closed
        bodies (doubled_fetched holds doubled) told (answered_along call world (fetched after world) along_fetched answered)
        level)
        (of_head (λ body. (is_answer body ≡ true) ⊎ IsCopy call body) bodies) (room_fetched holds doubled) (λ answer. tt)
