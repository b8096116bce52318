-- Participant 0 starts an ask that is to do: after that it comes to a stage of the ask.
use Rattle.std.proofs.Common.{◌≡◌, ℕ, ◌+◌, ◌<◌, ◌≤◌, ◌==◌, true, false, List, [], ◌∷◌, ◌++◌, length, map, Option, Some, None, inl, inr, refl, sym, ap, subst, ◌∙◌, arith, eq-eqb, length-append}
use Rattle.std.proofs.lemmas.Bool.{and_from}
use Rattle.std.specs.List.{list_any}
use Rattle.std.specs.Option.{option_and_then}
use Rattle.std.specs.Prelude.{slice_get, slice_index_or}
use Rattle.hp_base.specs.declared.row.Run.{Run}
use Rattle.hp_core.specs.Asks.{answer_by, asker, is_good, number_of}
use Rattle.hp_core.specs.Core.{Core, Done, is_open_for}
use Rattle.hp_core.specs.Starting.{opened_round, refused}
use Rattle.hp_core.specs.declared.asked.Asked.{Asked}
use Rattle.hp_core.specs.declared.asked.Asked.TheVariants as want
use Rattle.hp_core.specs.declared.out.Out.{Out}
use Rattle.hp_core.specs.declared.out.Out.TheVariants as out
use Rattle.hp_core.specs.declared.phase.Phase.TheVariants.{Idle, Mapping}
use Rattle.hp_core.specs.declared.phase.Round.{Round}
use Rattle.hp_core.specs.declared.phase.RoundKind.TheVariants as kind
use Rattle.hp_core.proofs.RoundLemmas.{has_outcome, is_its_outcome}
use Rattle.hp_log.specs.declared.log_record.LogRecord.TheVariants.{Add, Drop}
use Rattle.hp_segs.specs.LaterSteps.{noted_failure}
use Rattle.hp_segs.specs.SegsView.{SegsView, is_member, outcome_of}
use Rattle.hp_segs.specs.Steps.{after_close, after_freed, after_open}
use Rattle.hp_segs.specs.declared.ask.Ask.{Ask}
use Rattle.hp_segs.specs.declared.growth.Growth.{Growth}
use Rattle.hp_segs.specs.declared.outcome.AskLog.{AskLog}
use Rattle.hp_segs.specs.declared.outcome.Cause.{Cause}
use Rattle.hp_segs.specs.declared.outcome.Outcome.TheVariants.{Freed, Refused}
use Rattle.hp_serve.specs.Coordinating.{MustMap, with_core}
use Rattle.hp_serve.specs.Party.{Party}
use Rattle.thm_causes.specs.RoundTrip.{IsSetting, Setting, RunState, mail_of}
use Rattle.thm_causes.specs.Servings.{CarriesOut}
use Rattle.thm_causes.specs.Shared.{Shared}
use Rattle.thm_causes.specs.Stages.{ComesTo, IsStarting}
use Rattle.thm_causes.specs.RoundTrip.{EndsLevel, IsAnsweredFor, IsBase, IsGoneBefore}
use Rattle.thm_causes.proofs.StartSteps.StartingAlong.{carries_posts, doubled_follows, unanswered_follows}
use Rattle.thm_causes.proofs.StartSteps.StartingBase.{IsOrderly, base_follows, logs, logs_none, logs_own, stays}
use Rattle.thm_causes.proofs.StartSteps.StartingFirst.{HasStarted, acknowledged_within, dropped, started_asked, started_coordinator, started_follows, started_found, started_world}
use Rattle.thm_causes.proofs.StartSteps.StartingGrants.{copies_or, copies_unsynced, others_room}
use Rattle.thm_causes.proofs.StartSteps.StartingGrowing.{IsOpening}
use Rattle.thm_causes.proofs.StartSteps.StartingGrowths.{opened_on}
use Rattle.thm_causes.proofs.StartSteps.StartingMaps.{comes_on}
use Rattle.thm_causes.proofs.StartSteps.StartingOutcomes.{IsRefusedAtOnce, answered_behind, closed_behind, orderly_notice, orderly_refusal, to_do_same}
use Rattle.thm_causes.proofs.StartSteps.StartingResults.{IsEnding, ends_posted}
use Rattle.thm_causes.proofs.StartSteps.StartingSettles.{IsSettling, settles}
use Rattle.std.proofs.lemmas.Bool.{cases_eq}
use Rattle.thm_causes.specs.RoundTrip.{is_sync}

-- the growth that is opened for an ask is that of its round
opened_for : (ask : Ask) (run : Run) (segs : SegsView)
    → is_open_for (record { kind = kind.Growth; generation = length (after_open ask run segs).log; from = ask.from; number = ask.number })
    (after_open ask run segs).growth ≡ true
opened_for ask run segs =
    and_from (length segs.log + 1 == length (segs.log ++ Add run ask.heap ∷ [])) _
    (eq-eqb (length segs.log + 1) (length (segs.log ++ Add run ask.heap ∷ [])) (omega (arith, length-append segs.log (Add run ask.heap ∷ []))))
    (and_from (ask.from == ask.from) (ask.number == ask.number) (eq-eqb ask.from ask.from refl) (eq-eqb ask.number ask.number refl))

-- there are no fewer records after the drops
drops_longer : (segs : SegsView) → length segs.log ≤ length (dropped segs).log
drops_longer segs = omega (arith, length-append segs.log (map (λ run. Drop run) segs.retiring))

-- and where nothing is to be dropped, there are as many
drops_none : (segs : SegsView) → segs.retiring ≡ [] → length (dropped segs).log ≡ length segs.log
drops_none segs none =
    omega (
      arith,
      length-append segs.log (map (λ run. Drop run) segs.retiring),
      ap (λ (runs : List Run). length (map (λ run. Drop run) runs)) none,
    )

module _ (set : Setting) (call : Asked) (sent : ℕ) (world : RunState) (primary : Party) (setting : IsSetting set) (declared : asker call < set.count)
    (base : IsBase set world) (starting : IsStarting set call sent world) (there : slice_get world.parties 0 ≡ Some primary)
    (mid new : Shared) (after : Party) (core next : Core) (its : primary.core ≡ Some core) (answer : Out) (done : Done)
    (has : HasStarted world mid primary core next answer done) (carried : CarriesOut set.count mid new (with_core next primary) after answer) where
  abbrev at_mid : RunState
  at_mid = started_world set world mid primary core next answer done base there has

  none_syncs : (member : ℕ) → list_any is_sync (mail_of world member) ≡ false
  none_syncs member =
      elim (cases_eq member 0) [
        | inl first ↦ ap (λ (n : ℕ). list_any is_sync (mail_of world n)) first ∙ copies_unsynced call (mail_of world 0) starting.copies
        | inr other ↦ ap (list_any is_sync) (starting.empty member other)
      ]

  none_noted : (cause : Cause) → done.segs.growth ≡ world.shared.segs.growth → noted_failure done.segs ≡ Some cause → ⊥
  none_noted cause same noted =
      let none : noted_failure done.segs ≡ None =
      ap (λ (growth : Option Growth). option_and_then (λ growth. growth.noted) growth) (same ∙ starting.alone) in
      cc (noted, none)

  sent_so : (party : Party) → slice_get at_mid.parties (asker call) ≡ Some party → party.asked ≡ number_of call
  sent_so = started_asked set world mid primary core next answer done base there has call starting.unanswered.asked

  -- nothing is left of what was given up, and where no message is lost there are as many records as before: all members stay level
  stays_level : (ask : Ask) → call ≡ want.Grow ask → (cause : Cause) → done.segs ≡ after_close ask cause (dropped world.shared.segs)
      → EndsLevel set at_mid
  stays_level ask is cause done_segs =
      let mid_segs = ap (λ (shared : Shared). shared.segs) has.shared ∙ done_segs in
      record {
        gone = ap (λ (segs : SegsView). segs.retiring) mid_segs;
        level = λ nothing who member.
            let level = starting.level nothing in
            let none : world.shared.segs.retiring ≡ [] = subst (λ (call : Asked). IsGoneBefore call world) is level.1 in
            ap (λ (shared : Shared). slice_index_or shared.numbers who 0) has.shared
            ∙ (level.0 who (ap (λ (segs : SegsView). is_member segs.roster who) (sym mid_segs) ∙ member)
            ∙ (sym (drops_none world.shared.segs none) ∙ sym (ap (λ (segs : SegsView). length segs.log) mid_segs)));
      }

  -- it is refused, and that is answered
  pub refuses_so : (ask : Ask) → call ≡ want.Grow ask → (cause : Cause) → IsRefusedAtOnce cause
      → done ≡ refused ask cause (dropped world.shared.segs)
      → ComesTo set call sent true world 0 new after
  refuses_so ask is cause once done_is =
      let segs = dropped world.shared.segs in
      let from_is : ask.from ≡ asker call = ap asker (sym is) in
      let number_is : ask.number ≡ number_of call = ap number_of (sym is) in
      let done_segs : done.segs ≡ after_close ask cause segs = ap (λ (done : Done). done.segs) done_is in
      let entry : AskLog = record {
        from = ask.from;
        number = ask.number;
        outcome = Refused cause;
        at = length segs.log;
        ask = Some ask;
      } in
      let asks_are : done.segs.asks ≡ world.shared.segs.asks ++ entry ∷ [] = ap (λ (segs : SegsView). segs.asks) done_segs in
      let orderly : IsOrderly at_mid entry =
      orderly_refusal at_mid ask.from ask.number (length segs.log) (Some ask) cause once
      (λ party found.
      let asked = sent_so party (ap (slice_get at_mid.parties) (sym from_is) ∙ found) in omega (arith, asked, number_is)) in
      let follows = started_follows set world mid primary core next answer done base there has
      (ap (λ (segs : SegsView). segs.roster) done_segs)
      (omega (arith, ap (λ (segs : SegsView). length segs.log) done_segs, drops_longer world.shared.segs))
      (logs entry asks_are orderly)
      (λ cause noted. absurd (none_noted cause (ap (λ (segs : SegsView). segs.growth) done_segs) noted)) in
      let mid_asks : mid.segs.asks ≡ world.shared.segs.asks ++ entry ∷ [] = ap (λ (shared : Shared). shared.segs.asks) has.shared ∙ asks_are in
      let ending : IsEnding set call false at_mid = record {
        base = base_follows set world mid primary (with_core next primary) base there follows;
        coordinator = started_coordinator set world mid primary core next answer done base there has call Idle its starting.coordinator
            (ap (λ (done : Done). done.next.phase) done_is);
        alone = ap (λ (shared : Shared). shared.segs.growth) has.shared
            ∙ (ap (λ (segs : SegsView). segs.growth) done_segs ∙ starting.alone);
        closed = closed_behind call at_mid world.shared.segs.asks entry mid_asks from_is number_is refl;
        copies = copies_or call (mail_of world 0) starting.copies;
        doubled = doubled_follows set world mid primary (with_core next primary) there follows call false false
            (logs_own call world.shared.segs.asks mid.segs.asks entry mid_asks from_is number_is) starting.doubled;
        no_sync = none_syncs;
        answered = answered_behind call at_mid world.shared.segs.asks entry mid_asks from_is number_is refl;
        level = stays_level ask is cause done_segs;
      } in
      let outcome = has_outcome world.shared.segs.asks entry ask.from ask.number (is_its_outcome entry ask.from ask.number refl refl refl) in
      let answers_it : answer ≡ out.Answer (asker call) ask.number 2 (is_good outcome.0) =
      has.answer_is
      ∙ (ap (λ (done : Done). done.next.out) done_is
      ∙ (ap (answer_by ask.from ask.number 2) outcome.1 ∙ ap (λ (to : ℕ). out.Answer to ask.number 2 (is_good outcome.0)) from_is)) in
      comes_on set call sent true world mid new (with_core next primary) after
      (ends_posted set call sent true false at_mid (with_core next primary) ending
      (started_found set world mid primary core next answer done base there has) setting.few declared new after answer ask.number 2
      (is_good outcome.0) answers_it
      (carries_posts set.count mid new (with_core next primary) after answer (λ must. subst MustMap answers_it must) carried))

  -- a growth is opened for it
  pub opens_so : (ask : Ask) → call ≡ want.Grow ask → (run : Run)
      → done ≡ opened_round kind.Growth ask.from ask.number (after_open ask run (dropped world.shared.segs))
      → ComesTo set call sent true world 0 new after
  opens_so ask is run done_is =
      let segs = dropped world.shared.segs in
      let round : Round = record {
        kind = kind.Growth;
        generation = length (after_open ask run segs).log;
        from = ask.from;
        number = ask.number;
      } in
      let done_segs : done.segs ≡ after_open ask run segs = ap (λ (done : Done). done.segs) done_is in
      let mid_segs : mid.segs ≡ after_open ask run segs = ap (λ (shared : Shared). shared.segs) has.shared ∙ done_segs in
      let longer : length world.shared.segs.log + 1 ≤ length (after_open ask run segs).log =
      omega (arith, length-append segs.log (Add run ask.heap ∷ []), drops_longer world.shared.segs) in
      let follows = started_follows set world mid primary core next answer done base there has
      (ap (λ (segs : SegsView). segs.roster) done_segs)
      (omega (arith, ap (λ (segs : SegsView). length segs.log) done_segs, longer))
      (stays (ap (λ (segs : SegsView). segs.asks) done_segs))
      (λ cause noted. absurd (none_fails cause (ap noted_failure (sym done_segs) ∙ noted))) in
      let opening : IsOpening set call sent round at_mid = record {
        base = base_follows set world mid primary (with_core next primary) base there follows;
        coordinator = started_coordinator set world mid primary core next answer done base there has call (Mapping round) its starting.coordinator
            (ap (λ (done : Done). done.next.phase) done_is);
        its_kind = refl;
        from = ap asker (sym is);
        number = ap number_of (sym is);
        unanswered = unanswered_follows set world mid primary (with_core next primary) there follows call starting.unanswered;
        opened = ap (λ (segs : SegsView). is_open_for round segs.growth) mid_segs ∙ opened_for ask run segs;
        unfailed = ap noted_failure mid_segs;
        to_do = to_do_same call world at_mid (ap (λ (segs : SegsView). segs.asks) mid_segs) (ap (λ (segs : SegsView). segs.armed) mid_segs) starting.to_do;
        clock = follows.clock ∙ starting.clock;
        generation = ap (λ (segs : SegsView). length segs.log) (sym mid_segs);
        gone = ap (λ (segs : SegsView). segs.retiring) mid_segs;
        below = λ member.
            omega (
              arith,
              acknowledged_within set world base member,
              longer,
              ap (λ (shared : Shared). slice_index_or shared.numbers member 0) has.shared,
            );
        copies = starting.copies;
        empty = starting.empty;
        doubled = doubled_follows set world mid primary (with_core next primary) there follows call false false
            (logs_none call world.shared.segs.asks mid.segs.asks (ap (λ (segs : SegsView). segs.asks) mid_segs)) starting.doubled;
      } in
      let maps_it : answer ≡ out.MapSelf (length (after_open ask run segs).log) =
      has.answer_is ∙ ap (λ (done : Done). done.next.out) done_is in
      comes_on set call sent true world mid new (with_core next primary) after
      (opened_on set call sent round at_mid (with_core next primary) setting declared opening
      (started_found set world mid primary core next answer done base there has) new after answer (subst MustMap (sym maps_it) tt) carried)
    where
      none_fails : (cause : Cause) → noted_failure (after_open ask run (dropped world.shared.segs)) ≡ Some cause → ⊥
      none_fails cause noted = cc

  -- a notice is answered, once all members have dropped what was given up
  pub frees_so : (from number : ℕ) → call ≡ want.Shrink from number
      → done ≡ opened_round kind.Drop from number (after_freed from number (dropped world.shared.segs))
      → ComesTo set call sent true world 0 new after
  frees_so from number is done_is =
      let segs = dropped world.shared.segs in
      let from_is : from ≡ asker call = ap asker (sym is) in
      let number_is : number ≡ number_of call = ap number_of (sym is) in
      let round : Round = record {
        kind = kind.Drop;
        generation = length (after_freed from number segs).log;
        from = from;
        number = number;
      } in
      let done_segs : done.segs ≡ after_freed from number segs = ap (λ (done : Done). done.segs) done_is in
      let mid_segs : mid.segs ≡ after_freed from number segs = ap (λ (shared : Shared). shared.segs) has.shared ∙ done_segs in
      let entry : AskLog = record { from = from; number = number; outcome = Freed (length segs.log); at = length segs.log; ask = None } in
      let asks_are : done.segs.asks ≡ world.shared.segs.asks ++ entry ∷ [] = ap (λ (segs : SegsView). segs.asks) done_segs in
      let orderly : IsOrderly at_mid entry =
      orderly_notice at_mid from number (length segs.log) None (length segs.log)
      (λ party found.
      let asked = sent_so party (ap (slice_get at_mid.parties) (sym from_is) ∙ found) in omega (arith, asked, number_is)) in
      let follows = started_follows set world mid primary core next answer done base there has
      (ap (λ (segs : SegsView). segs.roster) done_segs)
      (omega (arith, ap (λ (segs : SegsView). length segs.log) done_segs, drops_longer world.shared.segs))
      (logs entry asks_are orderly)
      (λ cause noted. absurd (none_noted cause (ap (λ (segs : SegsView). segs.growth) done_segs) noted)) in
      let mid_asks : mid.segs.asks ≡ world.shared.segs.asks ++ entry ∷ [] = ap (λ (segs : SegsView). segs.asks) mid_segs in
      let outcome = has_outcome world.shared.segs.asks entry from number (is_its_outcome entry from number refl refl refl) in
      let settling : IsSettling set call sent false round at_mid = record {
        base = base_follows set world mid primary (with_core next primary) base there follows;
        coordinator = started_coordinator set world mid primary core next answer done base there has call (Mapping round) its starting.coordinator
            (ap (λ (done : Done). done.next.phase) done_is);
        its_kind = refl;
        from = from_is;
        number = number_is;
        unanswered = unanswered_follows set world mid primary (with_core next primary) there follows call starting.unanswered;
        alone = ap (λ (segs : SegsView). segs.growth) mid_segs ∙ starting.alone;
        closed = closed_behind call at_mid world.shared.segs.asks entry mid_asks from_is number_is refl;
        answered = answered_none at_mid;
        early = omega (arith, follows.clock, starting.clock);
        generation = ap (λ (segs : SegsView). length segs.log) (sym mid_segs);
        gone = ap (λ (segs : SegsView). segs.retiring) mid_segs;
        outcome = outcome.0;
        found = ap (λ (asks : List AskLog). outcome_of asks from number) mid_asks ∙ outcome.1;
        copies = copies_or call (mail_of world 0) starting.copies;
        doubled = doubled_follows set world mid primary (with_core next primary) there follows call false false
            (logs_own call world.shared.segs.asks mid.segs.asks entry mid_asks from_is number_is) starting.doubled;
        earlier = λ member synced. absurd (never_synced (sym synced ∙ none_syncs member));
        unsettled = λ member other is_in. inr starting.copies;
        room = others_room world starting.empty;
      } in
      let maps_it : answer ≡ out.MapSelf (length (after_freed from number segs).log) =
      has.answer_is ∙ ap (λ (done : Done). done.next.out) done_is in
      comes_on set call sent true world mid new (with_core next primary) after
      (settles set call sent false round at_mid (with_core next primary) setting declared settling
      (started_found set world mid primary core next answer done base there has) new after answer (subst MustMap (sym maps_it) tt) carried)
    where
      never_synced : true ≡ false → ⊥
      never_synced same = cc

      answered_none : (world : RunState) → IsAnsweredFor call world
      answered_none world = subst (λ (call : Asked). IsAnsweredFor call world) (sym is) tt
