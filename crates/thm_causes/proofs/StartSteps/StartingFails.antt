-- A growth that was opened while no other member is there, and a mapping of which failed: it is cancelled, and rolled back at once.
use Rattle.std.proofs.Common.{◌≡◌, ℕ, ◌+◌, ◌<◌, true, false, List, [], ◌∷◌, ◌++◌, length, Some, None, inl, refl, sym, ap, subst, ◌∙◌, arith, length-append}
use Rattle.std.specs.Prelude.{slice_get}
use Rattle.hp_core.specs.Asks.{asker, number_of}
use Rattle.hp_core.specs.Core.{Done}
use Rattle.hp_core.specs.Rounds.{cancelled}
use Rattle.hp_core.specs.declared.asked.Asked.{Asked}
use Rattle.hp_core.specs.declared.out.Out.{Out}
use Rattle.hp_core.specs.declared.out.Out.TheVariants as out
use Rattle.hp_core.specs.declared.phase.Phase.TheVariants.{Mapping}
use Rattle.hp_core.specs.declared.phase.Round.{Round}
use Rattle.hp_core.specs.declared.phase.RoundKind.TheVariants as kind
use Rattle.hp_core.proofs.RoundLemmas.{growth_of, has_outcome, is_its_outcome}
use Rattle.hp_log.specs.declared.log_record.LogRecord.TheVariants.{Drop}
use Rattle.hp_maps.specs.MapsView.{calls_of}
use Rattle.hp_segs.specs.LaterSteps.{noted_failure}
use Rattle.hp_segs.specs.SegsView.{SegsView, outcome_of}
use Rattle.hp_segs.specs.Steps.{after_cancel, after_failure, cancelled_growth}
use Rattle.hp_segs.specs.declared.outcome.AskLog.{AskLog}
use Rattle.hp_segs.specs.declared.outcome.Cause.{Cause}
use Rattle.hp_segs.specs.declared.outcome.Outcome.TheVariants.{Refused}
use Rattle.hp_serve.specs.Coordinating.{MustMap}
use Rattle.hp_serve.specs.Party.{Party}
use Rattle.thm_causes.specs.RoundTrip.{IsSetting, Setting, RunState, mail_of}
use Rattle.thm_causes.specs.Servings.{CarriesOut}
use Rattle.thm_causes.specs.Shared.{Shared}
use Rattle.thm_causes.specs.Stages.{ComesTo}
use Rattle.thm_causes.proofs.StartSteps.StartingAlong.{doubled_follows, unanswered_follows}
use Rattle.thm_causes.proofs.StartSteps.StartingBase.{Follows, IsOrderly, base_follows, logs, logs_own}
use Rattle.thm_causes.proofs.StartSteps.StartingGrants.{copies_or, none_syncs, others_room, sent_so}
use Rattle.thm_causes.proofs.StartSteps.StartingGrowing.{IsOpening, calls_made, catching, caught_segs, mid_found, mid_world, open_still, own_failure}
use Rattle.thm_causes.proofs.StartSteps.StartingMaps.{HasMapped, comes_on, mapped_coordinator, mapped_follows}
use Rattle.thm_causes.proofs.StartSteps.StartingOutcomes.{answered_behind, closed_behind, orderly_failure}
use Rattle.thm_causes.proofs.StartSteps.StartingSettles.{IsSettling, settles}

module _ (set : Setting) (call : Asked) (sent : ℕ) (round : Round) (world : RunState) (primary : Party) (setting : IsSetting set)
    (declared : asker call < set.count) (begun : IsOpening set call sent round world) (there : slice_get world.parties 0 ≡ Some primary)
    (mid new : Shared) (between after : Party) (next : Out) (has : HasMapped world round mid primary between next)
    (carried : CarriesOut set.count mid new between after next) where
  -- the segment value with what was noted, and the world with it
  abbrev then_segs : SegsView
  then_segs = caught_segs set call sent round world primary setting begun there mid between next has

  abbrev at_mid : RunState
  at_mid = mid_world set call sent round world primary setting begun there mid between next has

  module _ (cause : Cause) (noted : noted_failure then_segs ≡ Some cause) (is : has.done ≡ cancelled round cause then_segs) where
    -- the round of its rollback
    abbrev back : Round
    back = record { kind = kind.Rollback; generation = length (after_cancel cause then_segs).log; from = round.from; number = round.number }

    -- the growth is cancelled, and what is left of it waits for participant 0 alone
    pub cancels_so : ComesTo set call sent true world 0 new after
    cancels_so =
        let noting = catching set call sent round world primary setting begun there mid between next has in
        let of = growth_of round then_segs.growth (open_still set call sent round world primary setting begun there mid between next has) in
        let growth = of.growth in
        let entry : AskLog = record {
          from = growth.ask.from;
          number = growth.ask.number;
          outcome = Refused cause;
          at = length then_segs.log;
          ask = Some growth.ask;
        } in
        let left : after_cancel cause then_segs ≡ after_failure growth cause (Some growth.ask) 2 then_segs =
        ap (cancelled_growth cause then_segs) of.its_growth in
        let done_segs : has.done.segs ≡ after_failure growth cause (Some growth.ask) 2 then_segs = ap (λ (done : Done). done.segs) is ∙ left in
        let mid_segs : mid.segs ≡ after_failure growth cause (Some growth.ask) 2 then_segs = ap (λ (shared : Shared). shared.segs) has.shared ∙ done_segs in
        let asks_are : has.done.segs.asks ≡ world.shared.segs.asks ++ entry ∷ [] =
        ap (λ (segs : SegsView). segs.asks) done_segs ∙ ap (λ (asks : List AskLog). asks ++ entry ∷ []) noting.asks in
        let log_is : length has.done.segs.log ≡ length world.shared.segs.log + 1 =
        ap (λ (segs : SegsView). length segs.log) done_segs
        ∙ (length-append then_segs.log (Drop growth.run ∷ []) ∙ ap (λ log. length log + 1) noting.log) in
        let back_log : length (after_cancel cause then_segs).log ≡ length has.done.segs.log =
        ap (λ (done : Done). length done.segs.log) (sym is) in
        let from_is : growth.ask.from ≡ asker call = of.from ∙ begun.from in
        let number_is : growth.ask.number ≡ number_of call = of.number ∙ begun.number in
        let orderly : IsOrderly at_mid entry =
        orderly_failure at_mid growth.ask.from growth.ask.number (length then_segs.log) (Some growth.ask) cause (calls_of has.table)
        (own_failure set call sent round world primary setting begun there mid between next has cause noted)
        (calls_made set call sent round world primary setting begun there mid between next has)
        (sent_so set call sent round world primary setting declared begun there mid new between after next has carried growth.ask.from
        growth.ask.number (length then_segs.log) (Some growth.ask) (Refused cause) from_is number_is) in
        let follows : Follows set world mid primary between =
        mapped_follows set world round mid primary between next begun.base there setting.some has
        (ap (λ (segs : SegsView). segs.roster) done_segs ∙ noting.roster)
        (omega (arith, log_is))
        (logs entry asks_are orderly)
        (λ cause noted.
        let none : noted_failure has.done.segs ≡ None = ap noted_failure done_segs in
        absurd (never noted none)) in
        let mid_asks : mid.segs.asks ≡ world.shared.segs.asks ++ entry ∷ [] = ap (λ (shared : Shared). shared.segs.asks) has.shared ∙ asks_are in
        let outcome = has_outcome world.shared.segs.asks entry round.from round.number
        (is_its_outcome entry round.from round.number of.from of.number refl) in
        let settling : IsSettling set call sent false back at_mid = record {
          base = base_follows set world mid primary between begun.base there follows;
          coordinator = mapped_coordinator set world round mid primary between next begun.base there setting.some call false (Mapping back) has
              begun.coordinator (ap (λ (done : Done). done.next.phase) is);
          its_kind = refl;
          from = begun.from;
          number = begun.number;
          unanswered = unanswered_follows set world mid primary between there follows call begun.unanswered;
          alone = ap (λ (segs : SegsView). segs.growth) mid_segs;
          closed = closed_behind call at_mid world.shared.segs.asks entry mid_asks from_is number_is refl;
          answered = answered_behind call at_mid world.shared.segs.asks entry mid_asks from_is number_is refl;
          early = omega (arith, follows.clock, begun.clock);
          generation = back_log ∙ sym (ap (λ (shared : Shared). length shared.segs.log) has.shared);
          gone = ap (λ (segs : SegsView). segs.retiring) mid_segs ∙ (noting.retiring ∙ begun.gone);
          outcome = outcome.0;
          found = ap (λ (asks : List AskLog). outcome_of asks round.from round.number) mid_asks ∙ outcome.1;
          copies = copies_or call (mail_of world 0) begun.copies;
          doubled = doubled_follows set world mid primary between there follows call false false
              (logs_own call world.shared.segs.asks mid.segs.asks entry mid_asks from_is number_is) begun.doubled;
          earlier = λ member synced.
              absurd (never_synced (sym synced ∙ none_syncs set call sent round world primary setting declared begun there member));
          unsettled = λ member other is_in.
              inl (omega (arith, follows.others member other, begun.below member, begun.generation, back_log, log_is));
          room = others_room world begun.empty;
        } in
        let maps_it : next ≡ out.MapSelf (length (after_cancel cause then_segs).log) = has.answer_is ∙ ap (λ (done : Done). done.next.out) is in
        comes_on set call sent true world mid new between after
        (settles set call sent false back at_mid between setting declared settling
        (mid_found set call sent round world primary setting begun there mid between next has) new after next
        (subst MustMap (sym maps_it) tt) carried)
      where
        never : {cause : Cause} → noted_failure has.done.segs ≡ Some cause → noted_failure has.done.segs ≡ None → ⊥
        never noted none = cc (noted, none)

        never_synced : true ≡ false → ⊥
        never_synced same = cc
