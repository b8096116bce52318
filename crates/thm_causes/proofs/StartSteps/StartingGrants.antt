-- A growth that was opened while no other member is there: it is granted, or cancelled and rolled back.
use Rattle.std.proofs.Common.{◌≡◌, ◌≢◌, ◌⊎◌, ℕ, ◌<◌, Bool, true, false, List, [], ◌∷◌, ◌++◌, length, replicate, Option, Some, None, inl, inr, refl, sym, ap, subst, ◌∙◌, arith}
use Rattle.std.proofs.lemmas.Bool.{cases_eq}
use Rattle.std.proofs.lemmas.List.Elements.{All-weaker}
use Rattle.std.proofs.lemmas.List.Folds.{list_any_none}
use Rattle.std.specs.List.{All, list_any}
use Rattle.std.specs.Option.{option_and_then}
use Rattle.std.specs.Prelude.{slice_get}
use Rattle.hp_core.specs.Asks.{answer_by, asker, is_good, number_of}
use Rattle.hp_core.specs.Core.{Done}
use Rattle.hp_core.specs.Following.{failure_of}
use Rattle.hp_core.specs.Mapped.{other_members}
use Rattle.hp_core.specs.Rounds.{granted, what_in}
use Rattle.hp_core.specs.declared.asked.Asked.{Asked}
use Rattle.hp_core.specs.declared.out.Out.{Out}
use Rattle.hp_core.specs.declared.out.Out.TheVariants as out
use Rattle.hp_core.specs.declared.phase.Phase.TheVariants.{Idle}
use Rattle.hp_core.specs.declared.phase.Round.{Round}
use Rattle.hp_core.proofs.GivingLemmas.{primary_alone}
use Rattle.hp_core.proofs.RoundLemmas.{grant_has_outcome, grant_of_round, growth_of, none_below}
use Rattle.hp_frame.specs.declared.message.Body.{Body}
use Rattle.hp_plain.specs.declared.mailbox.TheConstants.{MAILBOX_FRAMES}
use Rattle.hp_segs.specs.LaterSteps.{noted_failure}
use Rattle.hp_segs.specs.SegsView.{SegsView, is_member}
use Rattle.hp_segs.specs.Steps.{after_grant}
use Rattle.hp_segs.specs.declared.growth.Growth.{Growth}
use Rattle.hp_segs.specs.declared.outcome.AskLog.{AskLog}
use Rattle.hp_segs.specs.declared.outcome.Cause.{Cause}
use Rattle.hp_segs.specs.declared.outcome.Outcome.TheVariants.{Granted}
use Rattle.hp_serve.specs.Coordinating.{MustMap, with_room}
use Rattle.hp_serve.specs.Party.{Party}
use Rattle.thm_causes.specs.RoundTrip.{AreAnswersOrCopies, AreOthersEmpty, IsCopy, IsSetting, Setting, RunState, is_answer, is_sync, mail_of, number_of_party}
use Rattle.thm_causes.specs.Servings.{CarriesOut}
use Rattle.thm_causes.specs.Shared.{Shared}
use Rattle.thm_causes.specs.Stages.{ComesTo}
use Rattle.thm_causes.proofs.StartSteps.StartingAlong.{carries_posts, doubled_follows}
use Rattle.thm_causes.proofs.StartSteps.StartingBase.{IsOrderly, base_follows, logs, logs_own}
use Rattle.thm_causes.proofs.StartSteps.StartingGrowing.{IsOpening, asked_mid, caught_segs, mid_found, mid_world, whole_number}
use Rattle.thm_causes.proofs.StartSteps.StartingMaps.{HasMapped, comes_on, mapped_coordinator, mapped_follows}
use Rattle.thm_causes.proofs.StartSteps.StartingOutcomes.{WasSent, answered_behind, closed_behind, orderly_grant}
use Rattle.thm_causes.proofs.StartSteps.StartingResults.{IsEnding, ends_posted}
use Rattle.thm_causes.proofs.CopyStages.CopiesBodies.{copy_is_no_sync}

-- copies of an ask are answers or copies, and no SYNC is among them
pub copies_or : (call : Asked) (bodies : List Body) → All (IsCopy call) bodies → AreAnswersOrCopies call bodies
copies_or call bodies copies = All-weaker (IsCopy call) (λ body. (is_answer body ≡ true) ⊎ IsCopy call body) (λ body is. inr is) bodies copies

pub copies_unsynced : (call : Asked) (bodies : List Body) → All (IsCopy call) bodies → list_any is_sync bodies ≡ false
copies_unsynced call bodies copies =
    list_any_none is_sync bodies (All-weaker (IsCopy call) (λ body. is_sync body ≡ false) (copy_is_no_sync call) bodies copies)

-- where nothing lies in the mailboxes of the others there is room in them
pub others_room : (world : RunState) → AreOthersEmpty world → (who : ℕ) → who ≢ 0 → length (mail_of world who) < MAILBOX_FRAMES
others_room world empty who other = omega (arith, ap length (empty who other))

module _ (set : Setting) (call : Asked) (sent : ℕ) (round : Round) (world : RunState) (primary : Party) (setting : IsSetting set)
    (declared : asker call < set.count) (begun : IsOpening set call sent round world) (there : slice_get world.parties 0 ≡ Some primary) where
  -- no SYNC lies in a mailbox
  pub none_syncs : (member : ℕ) → list_any is_sync (mail_of world member) ≡ false
  none_syncs member =
      elim (cases_eq member 0) [
        | inl first ↦ ap (λ (n : ℕ). list_any is_sync (mail_of world n)) first ∙ copies_unsynced call (mail_of world 0) begun.copies
        | inr other ↦ ap (list_any is_sync) (begun.empty member other)
      ]

  module _ (mid new : Shared) (between after : Party) (next : Out) (has : HasMapped world round mid primary between next)
      (carried : CarriesOut set.count mid new between after next) where
    abbrev now_segs : SegsView
    now_segs = caught_segs set call sent round world primary setting begun there mid between next has

    pub segs_are : mid.segs ≡ has.done.segs
    segs_are = ap (λ (shared : Shared). shared.segs) has.shared

    pub sent_so : (from number at : ℕ) (ask : Option _) (outcome : _) → from ≡ asker call → number ≡ number_of call
        → WasSent (mid_world set call sent round world primary setting begun there mid between next has)
        (record { from = from; number = number; outcome = outcome; at = at; ask = ask })
    sent_so from number at ask outcome who which party found =
        let asked = asked_mid set call sent round world primary setting begun there mid between next has party
        (ap (slice_get (mid_world set call sent round world primary setting begun there mid between next has).parties) (sym who) ∙ found) in
        omega (arith, asked, which)

    -- it is granted
    module _ (none : failure_of has.caught ≡ None) (alone : other_members world.shared.segs ≡ 0)
        (is : has.done ≡ granted round (replicate 16 round.generation) (with_room world.shared.segs)) where
      pub grants_so : ComesTo set call sent true world 0 new after
      grants_so =
          let at_mid = mid_world set call sent round world primary setting begun there mid between next has in
          let segs = with_room world.shared.segs in
          let acks = replicate 16 round.generation in
          let of = growth_of round world.shared.segs.growth begun.opened in
          let growth = of.growth in
          let done_segs : has.done.segs ≡ after_grant growth segs =
          ap (λ (done : Done). done.segs) is ∙ grant_of_round round acks segs of (none_below segs.roster round.generation) in
          let entry : AskLog = record {
            from = growth.ask.from;
            number = growth.ask.number;
            outcome = Granted growth.generation;
            at = length segs.log;
            ask = Some growth.ask;
          } in
          let asks_are : has.done.segs.asks ≡ world.shared.segs.asks ++ entry ∷ [] = ap (λ (segs : SegsView). segs.asks) done_segs in
          let roster_is : mid.segs.roster ≡ world.shared.segs.roster =
          ap (λ (segs : SegsView). segs.roster) segs_are ∙ ap (λ (segs : SegsView). segs.roster) done_segs in
          let growth_is : has.done.segs.growth ≡ None = ap (λ (segs : SegsView). segs.growth) done_segs in
          let whole = whole_number set call sent round world primary setting begun there mid between next has none in
          let has_all : (who : ℕ) → is_member mid.segs.roster who ≡ true → number_of_party at_mid who ≡ round.generation =
          λ who member.
          ap (number_of_party at_mid)
          (primary_alone world.shared.segs.roster who alone (ap (λ (roster : List Bool). is_member roster who) (sym roster_is) ∙ member))
          ∙ whole in
          let orderly : IsOrderly at_mid entry =
          orderly_grant at_mid growth.ask.from growth.ask.number (length segs.log) (Some growth.ask) growth.generation
          (λ who member. omega (arith, has_all who member, of.generation))
          (sent_so growth.ask.from growth.ask.number (length segs.log) (Some growth.ask) (Granted growth.generation) (of.from ∙ begun.from)
          (of.number ∙ begun.number)) in
          let follows = mapped_follows set world round mid primary between next begun.base there setting.some has
          (ap (λ (segs : SegsView). segs.roster) done_segs)
          (omega (arith, ap (λ (segs : SegsView). length segs.log) done_segs))
          (logs entry asks_are orderly)
          (λ cause noted.
          let none : noted_failure has.done.segs ≡ None =
          ap (λ (growth : Option Growth). option_and_then (λ growth. growth.noted) growth) growth_is in
          absurd (never noted none)) in
          let mid_asks : mid.segs.asks ≡ world.shared.segs.asks ++ entry ∷ [] = ap (λ (segs : SegsView). segs.asks) segs_are ∙ asks_are in
          let ending : IsEnding set call false at_mid = record {
            base = base_follows set world mid primary between begun.base there follows;
            coordinator = mapped_coordinator set world round mid primary between next begun.base there setting.some call false Idle has
                begun.coordinator (ap (λ (done : Done). done.next.phase) is);
            alone = ap (λ (segs : SegsView). segs.growth) segs_are ∙ growth_is;
            closed = closed_behind call at_mid world.shared.segs.asks entry mid_asks (of.from ∙ begun.from) (of.number ∙ begun.number) refl;
            copies = copies_or call (mail_of world 0) begun.copies;
            doubled = doubled_follows set world mid primary between there follows call false false
                (logs_own call world.shared.segs.asks mid.segs.asks entry mid_asks (of.from ∙ begun.from) (of.number ∙ begun.number))
                begun.doubled;
            no_sync = none_syncs;
            answered = answered_behind call at_mid world.shared.segs.asks entry mid_asks (of.from ∙ begun.from) (of.number ∙ begun.number) refl;
            level = record {
              gone = ap (λ (segs : SegsView). segs.retiring) segs_are ∙ (ap (λ (segs : SegsView). segs.retiring) done_segs ∙ begun.gone);
              level = λ nothing who member.
                  has_all who member ∙ (begun.generation ∙ sym (ap (λ (segs : SegsView). length segs.log) (segs_are ∙ done_segs)));
            };
          } in
          let outcome = grant_has_outcome round acks segs begun.opened (none_below segs.roster round.generation) in
          let answers_it : next ≡ out.Answer (asker call) round.number (what_in round.kind) (is_good outcome.0) =
          has.answer_is
          ∙ (ap (λ (done : Done). done.next.out) is
          ∙ (ap (answer_by round.from round.number (what_in round.kind)) outcome.1
          ∙ ap (λ (to : ℕ). out.Answer to round.number (what_in round.kind) (is_good outcome.0)) begun.from)) in
          comes_on set call sent true world mid new between after
          (ends_posted set call sent true false at_mid between ending
          (mid_found set call sent round world primary setting begun there mid between next has) setting.few declared new after next round.number
          (what_in round.kind) (is_good outcome.0) answers_it
          (carries_posts set.count mid new between after next (λ must. subst MustMap answers_it must) carried))
        where
          never : {cause : Cause} → noted_failure has.done.segs ≡ Some cause → noted_failure has.done.segs ≡ None → ⊥
          never noted none = cc (noted, none)
