-- A wait for the answer to an ask ends at a turn, and by its answer or its deadline the ask is over, or it was lost.
use Rattle.std.proofs.Common.{◌≡◌, ◌+◌, ◌*◌, ◌<◌, ◌≤◌, ℕ, zero, suc, Bool, true, List, [], ◌∷◌, ◌++◌, Some, inl, inr, refl, sym, subst, arith, true≢false, ◌∙◌}
use Rattle.std.specs.Prelude.{slice_get}
use Rattle.std.proofs.lemmas.Bool.{and_parts}
use Rattle.std.proofs.lemmas.Option.{none-some}
use Rattle.hp_core.specs.Asks.{asker}
use Rattle.hp_core.specs.declared.asked.Asked.{Asked}
use Rattle.hp_hall.specs.Mail.{MailStep, Notes}
use Rattle.hp_hall.specs.declared.note.Note.TheVariants.{Read}
use Rattle.hp_serve.specs.Denials.{Denials}
use Rattle.hp_serve.specs.AskSteps.{waits_until}
use Rattle.hp_serve.specs.Party.{Party}
use Rattle.hp_serve.specs.Waiting.{AreTurns, HasWaited, IsWaited}
use Rattle.hp_solo.specs.Sequence.{Sequence}
use Rattle.hp_solo.specs.Solo.{SoloView}
use Rattle.thm_causes.specs.RoundTrip.{IsUnanswered, Setting, AskPhase, RunState}
use Rattle.thm_causes.specs.Stages.{IsSent}
use Rattle.thm_causes.specs.Waits.{AreServingsKnown, HasComeOut, IsAtTurn, LeadsTo, WaitsOut, is_ended}
use Rattle.thm_causes.specs.RunStates.{IsRunStateOf}
use Rattle.thm_causes.proofs.TurnSteps.TurnsAll.{read_on}
use Rattle.thm_causes.proofs.TurnSteps.TurnsOnward.{turns_on}
use Rattle.thm_causes.proofs.TurnSteps.TurnsSequence.{cut_in}
use Rattle.thm_causes.proofs.TurnSteps.TurnsVisits.{still_on}

-- so many turns
module _ (known : AreServingsKnown) (denies : Denials) (set : Setting) (call : Asked) (sent until me : ℕ) (heeds : Bool)
    (is_sent : IsSent set call sent)
    (in_time : until ≤ sent + 3 * set.deadline) where
  pub turns_all : (turns : ℕ) (old new : SoloView) (party after : Party) (steps : List MailStep) (world : RunState) → IsRunStateOf old me party world
      → IsAtTurn set call sent world → Sequence me old steps new → AreTurns denies set.count until heeds turns party after steps
      → LeadsTo (IsAtTurn set call sent) new me after
  unfolding AreTurns
  turns_all zero old new party after steps world its at_turn sequence are = record {
    world = world;
    its = subst (λ (party : Party). IsRunStateOf new me party world) (sym are.0)
        (still_on known me old new party steps world sequence are.1 its);
    holds = at_turn;
  }
  turns_all (suc turns) old new party after steps world its at_turn sequence are =
      let cut = cut_in me old new steps are.1 (Notes (Read are.3) ∷ are.2) are.8 sequence in
      let before = turns_all turns old cut.mid party are.0 are.1 world its at_turn cut.begins are.5 in
      let turn = cut_in me cut.mid new (Notes (Read are.3) ∷ are.2) (Notes (Read are.3) ∷ []) are.2 refl cut.ends in
      let read = read_on known me cut.mid turn.mid are.0 are.3 before.world turn.begins before.its in
      turns_on known denies set call sent until me turn.mid new are.0 after are.2 are.4 before.world is_sent in_time read.its before.holds
      turn.ends
      are.7

-- THE END OF A WAIT

-- the wait has ended by an answer, or by three deadlines
module _ (set : Setting) (call : Asked) (sent now : ℕ) (heeds : Bool) (is_sent : IsSent set call sent) (world : RunState) (party : Party)
    (own : slice_get world.parties (asker call) ≡ Some party) (now_is : now ≡ world.shared.clock)
    (waited : HasWaited heeds party (waits_until sent set.deadline) now) where
  -- while the ask is unanswered and the clock below that, it has not
  waits_still : IsUnanswered call world → world.shared.clock < waits_until sent set.deadline → ⊥
  waits_still unanswered early =
      elim waited [
        | inl over ↦ true≢false (sym (and_parts heeds party.answered over).1 ∙ unanswered.unheard party own)
        | inr reached ↦ omega (arith, reached, early, now_is)
      ]

  -- a reading before two deadlines have passed
  before_end : world.shared.clock ≤ sent + set.deadline + set.deadline → world.shared.clock < waits_until sent set.deadline
  before_end early = omega (arith, early, is_sent.early, is_sent.setting.within, is_sent.setting.waits)

  pub ends_stage : (stage : AskPhase set call sent true world) → is_ended stage ≡ true
  ends_stage (AskPhase.fresh clock unanswered coordinator alone to_do copies some empty doubled level) =
      absurd (waits_still unanswered (before_end (omega (arith, clock))))
  ends_stage (AskPhase.lost clock unanswered coordinator alone to_do gone empty doubled back loses) = refl
  ends_stage (AskPhase.growing round holds kind from number unanswered coordinator its to_do clock bodies doubled follow awaited level) =
      absurd (waits_still unanswered (before_end (omega (arith, clock))))
  ends_stage
      (AskPhase.settling round since holds kind from number unanswered coordinator alone closed early clock logged bodies doubled waits
      answered level) =
      absurd (waits_still unanswered (before_end (omega (arith, early, clock))))
  ends_stage (AskPhase.over holds coordinator alone closed bodies doubled told answered level) = refl

module _ (known : AreServingsKnown) (denies : Denials) (set : Setting) (call : Asked) (sent : ℕ) (heeds : Bool)
    (is_sent : IsSent set call sent) where
  wait_ends : (turns now : ℕ) (old new : SoloView) (party after : Party) (steps first : List MailStep) (world : RunState)
      → IsRunStateOf old (asker call) party world → IsAtTurn set call sent world → Sequence (asker call) old steps new
      → AreTurns denies set.count (waits_until sent set.deadline) heeds turns party after first
      → HasWaited heeds after (waits_until sent set.deadline) now → steps ≡ first ++ (Notes (Read now) ∷ [])
      → LeadsTo (HasComeOut set call sent now) new (asker call) after
  wait_ends turns now old new party after steps first world its at_turn sequence are waited did =
      let cut = cut_in (asker call) old new steps first (Notes (Read now) ∷ []) did sequence in
      let in_time : waits_until sent set.deadline ≤ sent + 3 * set.deadline = omega arith in
      let before =
      turns_all known denies set call sent (waits_until sent set.deadline)
      (asker call) heeds is_sent in_time turns old cut.mid party after first world its
      at_turn cut.begins are in
      let read = read_on known (asker call) cut.mid new after now before.world cut.ends before.its in
      record {
        world = before.world;
        its = read.its;
        holds = record {
          at_turn = before.holds;
          now_is = read.now_is;
          ended = ends_stage set call sent now heeds is_sent before.world after read.its.own read.now_is waited before.holds.stage;
        };
      }

pub waits_out : WaitsOut
waits_out known denies set call sent now heeds old new party after steps world is_sent its at_turn sequence
    (IsWaited.ends turns last first are waited did is) =
    let same : now ≡ last = cc in
    subst (λ (now : ℕ). LeadsTo (HasComeOut set call sent now) new (asker call) after) (sym same)
    (wait_ends known denies set call sent heeds is_sent turns last old new party after steps first world its at_turn sequence are waited
    did)
waits_out known denies set call sent now heeds old new party after steps world is_sent its at_turn sequence
    (IsWaited.stops turns last mid first rest are waits turned did is) = absurd (none-some now (sym is))
