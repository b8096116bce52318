-- Beside the records of a growth that fails or is granted one outcome alone is logged, while one participant does its line and all asks of
-- others are closed: each call of a segment value keeps that, where the outcomes after it are sound.
use Rattle.std.proofs.Common.{◌≡◌, ◌≢◌, ◌==◌, ◌⊎◌, ◌∙◌, ℕ, ◌<◌, ◌≤◌, true, false, List, [], ◌∷◌, ◌++◌, length, map, Option, Some, None, IfSome, inl, inr, refl, ap, sym, subst, arith, length-append, eq-eqb}
use Rattle.std.specs.List.{slice_get}
use Rattle.std.proofs.lemmas.Bool.{and_from, and_parts, eqb-true}
use Rattle.std.proofs.lemmas.List.{take_at}
use Rattle.std.proofs.lemmas.Option.{same_Some}
use Rattle.hp_base.specs.declared.row.Run.{Run}
use Rattle.hp_base.specs.declared.caught.Caught.{Caught}
use Rattle.hp_core.proofs.GivingLemmas.{growth_is_last}
use Rattle.hp_core.specs.Following.{after_catching}
use Rattle.hp_log.specs.declared.log_record.LogRecord.{LogRecord}
use Rattle.hp_log.specs.declared.log_record.LogRecord.TheVariants.{Add, Drop}
use Rattle.hp_segs.specs.GrowthLaws.{HasArmedGrowth, IsOfArmed}
use Rattle.hp_segs.specs.LaterSteps.{after_stale, after_withdraw, armed_ask, grows_for, noting}
use Rattle.hp_segs.specs.SegsView.{SegsView, closed_number, is_grant_or_refusal}
use Rattle.hp_segs.specs.Sound.{IsSound}
use Rattle.hp_segs.specs.SoundAsks.{AreSettled}
use Rattle.hp_segs.specs.Steps.{with_outcome, after_agree, after_cancel, after_claim, after_close, after_drop, after_failure, after_freed, after_grant, after_open}
use Rattle.hp_segs.specs.declared.ask.Ask.{Ask}
use Rattle.hp_segs.specs.declared.growth.Growth.{Growth}
use Rattle.hp_segs.specs.declared.outcome.AskLog.{AskLog}
use Rattle.hp_segs.specs.declared.outcome.Cause.{Cause}
use Rattle.hp_segs.specs.declared.outcome.Cause.TheVariants.{MapFailed, Withdrawn}
use Rattle.hp_segs.specs.declared.outcome.Outcome.TheVariants.{Freed, Granted, Refused, Stale}
use Rattle.hp_segs.proofs.SlotFacts.ListFacts.{get_pushed}
use Rattle.thm_run.proofs.GrownHeaps.UngrantedAdds.{AreApart, HasItsCause, IsLevel, apart_before, apart_push, caused_at, last_granted}
use Rattle.thm_run.proofs.RunFacts.Changes.{outcome_for}
use Rattle.thm_run.proofs.RunFacts.CallCases.{agree_holds, cancel_holds, claim_holds, withdraw_holds}
use Rattle.thm_run.proofs.Following.{catching_by}
use Rattle.thm_run.proofs.StandingApart.{ApartIfSound, HasSoundAsks, IsOwnGrant, IsOwnGrowth, StandsApart, armed_push, growth_push, since_push}
use Rattle.thm_run.proofs.Turns.{AreRising}

-- a participant does its line: it had made so many asks and notices, and there were so many outcomes and records
module _ (who before base start : ℕ) where
  abbrev Stands : SegsView → Type 0
  Stands segs = StandsApart who before base start segs

  abbrev IfSound : SegsView → Type 0
  IfSound segs = ApartIfSound who before base start segs

  abbrev OwnGrowth : List AskLog → Growth → Type 0
  OwnGrowth asks growth = IsOwnGrowth who before base start asks growth

  module _ (segs : SegsView) (sound : IsSound segs) (old : Stands segs) where
    within : (place : ℕ) (x : AskLog) → slice_get segs.asks place ≡ Some x → x.at ≤ length segs.log
    within place x here = (caused_at segs.pools segs.log [] segs.asks place x sound.asks.caused here).is.within

    longer : (more : List LogRecord) (place : ℕ) (x : AskLog) → slice_get segs.asks place ≡ Some x → x.at ≤ length (segs.log ++ more)
    longer more place x here = omega (arith, within place x here, length-append segs.log more)

    grown : (more : List LogRecord) → AreApart base (segs.log ++ more) segs.asks
    grown more = apart_before base segs.log more segs.asks within old.apart

    behind : (more : List LogRecord) → start ≤ length (segs.log ++ more)
    behind more = omega (arith, old.log, length-append segs.log more)

    armed_more : (entry : AskLog) (other : ℕ) (ask : Ask) → armed_ask segs other ≡ Some ask
        → (ask.number ≤ closed_number (segs.asks ++ entry ∷ []) other) ⊎ ((other ≡ who) × (before < ask.number))
    armed_more entry = armed_push who before base start (armed_ask segs) segs.asks entry old.armed

    pub stale_apart : (from number : ℕ) → Stands (after_stale from number segs)
    stale_apart from number =
        let entry : AskLog =
        record { from = from; number = number; outcome = Stale (closed_number segs.asks from); at = length segs.log; ask = None } in
        record {
          armed = armed_more entry;
          apart = apart_push base segs.log segs.asks entry old.apart (λ is place x here shown same. cc);
          since = since_push who before base start segs.asks entry old.since (record { at = old.log; granted = λ generation is. cc });
          log = old.log;
          growth = growth_push who before base start segs.growth segs.asks entry refl old.growth;
        }

    pub freed_apart : (from number : ℕ) → Stands (after_freed from number (after_drop segs))
    freed_apart from number =
        let drops = map (λ run. Drop run) segs.retiring in
        let entry : AskLog =
        record {
          from = from;
          number = number;
          outcome = Freed (length (segs.log ++ drops));
          at = length (segs.log ++ drops);
          ask = None;
        } in
        record {
          armed = armed_more entry;
          apart = apart_push base (segs.log ++ drops) segs.asks entry (grown drops) (λ is place x here shown same. cc);
          since = since_push who before base start segs.asks entry old.since (record { at = behind drops; granted = λ generation is. cc });
          log = behind drops;
          growth = growth_push who before base start segs.growth segs.asks entry refl old.growth;
        }

    -- a growth opens after all records, for an ask of the line
    pub open_apart : (ask : Ask) (run : Run) → armed_ask segs ask.from ≡ Some ask → closed_number segs.asks ask.from < ask.number
        → Stands (after_open ask run (after_drop segs))
    open_apart ask run armed fresh =
        let drops = map (λ run. Drop run) segs.retiring in
        let own = own_ask ask fresh (old.armed ask.from ask armed) in
        record {
          armed = old.armed;
          apart = apart_before base (segs.log ++ drops) (Add run ask.heap ∷ []) segs.asks (longer drops) (grown drops);
          since = old.since;
          log = omega (arith, behind drops, length-append (segs.log ++ drops) (Add run ask.heap ∷ []));
          growth = record {
            own = own.0;
            above = own.1;
            later = omega (arith, behind drops);
            elsewhere = λ place x here shown same. omega (arith, longer drops place x here, same);
          };
        }
      where
        own_ask : (ask : Ask) → closed_number segs.asks ask.from < ask.number
            → (ask.number ≤ closed_number segs.asks ask.from) ⊎ ((ask.from ≡ who) × (before < ask.number))
            → (ask.from ≡ who) × (before < ask.number)
        own_ask ask fresh (inl closed) = absurd (omega (arith, fresh, closed))
        own_ask ask fresh (inr own) = own

    -- while no growth is open an outcome stands after none of an Add that is not granted
    refused_level : (log : List LogRecord) (entry : AskLog) (cause : Cause) (x : AskLog) → entry.outcome ≡ Refused cause
        → entry.at ≡ length log → AreSettled log (segs.asks ++ entry ∷ []) None → x.at ≡ entry.at → IsLevel log segs.asks x.at entry
    refused_level log entry cause x is at settled same = record {
      kept = λ ungranted. last_granted log segs.asks entry x.at settled (cc) (same ∙ at) ungranted;
      ungranted = cc;
    }

    pub close_apart : segs.growth ≡ None → (ask : Ask) (cause : Cause) → IfSound (after_close ask cause (after_drop segs))
    close_apart alone ask cause kept =
        let drops = map (λ run. Drop run) segs.retiring in
        let entry : AskLog =
        record {
          from = ask.from;
          number = ask.number;
          outcome = Refused cause;
          at = length (segs.log ++ drops);
          ask = Some ask;
        } in
        let settled : AreSettled (segs.log ++ drops) (segs.asks ++ entry ∷ []) None =
        subst (AreSettled (segs.log ++ drops) (segs.asks ++ entry ∷ [])) alone kept.settled in
        record {
          armed = armed_more entry;
          apart = apart_push base (segs.log ++ drops) segs.asks entry (grown drops)
              (λ is place x here shown same. refused_level (segs.log ++ drops) entry cause x refl refl settled same);
          since = since_push who before base start segs.asks entry old.since (record { at = behind drops; granted = λ generation is. cc });
          log = behind drops;
          growth = subst (λ growth. IfSome growth (OwnGrowth (segs.asks ++ entry ∷ []))) (sym alone) tt;
        }

    -- no outcome stands beside the Add of the open growth, until it fails or is granted
    module _ (growth : Growth) (its : segs.growth ≡ Some growth) where
      own_growth : OwnGrowth segs.asks growth
      own_growth = subst (λ growth. IfSome growth (OwnGrowth segs.asks)) its old.growth

      none_there : (x : AskLog) (place : ℕ) → slice_get segs.asks place ≡ Some x → is_grant_or_refusal x.outcome ≡ true
          → x.at ≡ length segs.log → ⊥
      none_there x place here shown same =
          own_growth.elsewhere place x here shown (same ∙ sym (growth_is_last segs growth sound its))

      failure_apart : (cause : Cause) (ask : Option Ask) (places : ℕ) → Stands (after_failure growth cause ask places segs)
      failure_apart cause ask places =
          let entry = outcome_for growth (Refused cause) ask segs in
          record {
            armed = armed_more entry;
            apart = apart_push base (segs.log ++ Drop growth.run ∷ []) segs.asks entry (grown (Drop growth.run ∷ []))
                (λ is place x here shown same. absurd (none_there x place here shown same));
            since = since_push who before base start segs.asks entry old.since (record { at = old.log; granted = λ generation is. cc });
            log = behind (Drop growth.run ∷ []);
            growth = tt;
          }

      grant_apart : Stands (after_grant growth segs)
      grant_apart =
          let entry = outcome_for growth (Granted growth.generation) (Some growth.ask) segs in
          record {
            armed = armed_more entry;
            apart = apart_push base segs.log segs.asks entry old.apart
                (λ is place x here shown same. absurd (none_there x place here shown same));
            since = since_push who before base start segs.asks entry old.since (record { at = old.log; granted = own_grant });
            log = old.log;
            growth = tt;
          }
        where
          own_grant : (generation : ℕ) → Granted growth.generation ≡ Granted generation
              → IsOwnGrant who before base start (outcome_for growth (Granted growth.generation) (Some growth.ask) segs) generation
          own_grant generation is =
              let same : growth.generation ≡ generation = cc in
              record { own = own_growth.own; above = own_growth.above; later = omega (arith, own_growth.later, same) }

    pub cancel_apart : (cause : Cause) → Stands (after_cancel cause segs)
    cancel_apart cause = cancel_holds Stands segs old cause (λ growth is. failure_apart growth is cause (Some growth.ask) 2)

    pub agree_apart : (acks : List ℕ) → Stands (after_agree acks segs)
    agree_apart acks = agree_holds Stands segs old acks grant_apart

    -- what a participant takes back is the ask with which it is armed
    module _ (from number since now : ℕ) where
      abbrev taken_back : AskLog
      taken_back = record {
        from = from;
        number = number;
        outcome = Refused (Withdrawn since now);
        at = length segs.log;
        ask = armed_ask segs from;
      }

      abbrev refused : SegsView
      refused = record segs { asks = with_outcome segs from number (Refused (Withdrawn since now)) (armed_ask segs from) }

      its_cause : HasSoundAsks refused → HasItsCause segs.pools segs.log taken_back
      its_cause kept =
          caused_at segs.pools segs.log [] (segs.asks ++ taken_back ∷ []) (length segs.asks) taken_back kept.caused
          (get_pushed segs.asks taken_back)

      grows_own : (growth : Growth) → growth.ask.from ≡ from → IsOfArmed segs.asks segs.armed growth
          → HasItsCause segs.pools segs.log taken_back → grows_for from number growth ≡ true
      grows_own growth own is_of caused =
          let kept = caused.is.cause.1 in
          let its : armed_ask segs from ≡ Some growth.ask = subst (λ who. armed_ask segs who ≡ Some growth.ask) own is_of.its_ask in
          let same : caused.is.cause.0 ≡ growth.ask = same_Some caused.is.cause.0 growth.ask (sym kept.kept ∙ its) in
          and_from (growth.ask.from == from) (growth.ask.number == number) (eq-eqb growth.ask.from from own)
          (eq-eqb growth.ask.number number (ap (λ (ask : Ask). ask.number) (sym same) ∙ kept.which))

      refused_apart : segs.growth ≡ None → IfSound refused
      refused_apart alone kept =
          let settled : AreSettled segs.log (segs.asks ++ taken_back ∷ []) None =
          subst (AreSettled segs.log (segs.asks ++ taken_back ∷ [])) alone kept.settled in
          record {
            armed = armed_more taken_back;
            apart = apart_push base segs.log segs.asks taken_back old.apart
                (λ is place x here shown same. refused_level segs.log taken_back (Withdrawn since now) x refl refl settled same);
            since = since_push who before base start segs.asks taken_back old.since
                (record { at = old.log; granted = λ generation is. cc });
            log = old.log;
            growth = subst (λ growth. IfSome growth (OwnGrowth (segs.asks ++ taken_back ∷ []))) (sym alone) tt;
          }

      refused_where : from ≡ who → (growth : Option Growth) → segs.growth ≡ growth → IfSome growth (IsOfArmed segs.asks segs.armed)
          → IfSome growth (λ growth. grows_for from number growth ≡ false) → IfSound refused
      refused_where own None is is_of other kept = refused_apart is kept
      refused_where own (Some growth) is is_of other kept =
          let wrong : true ≡ false = sym (grows_own growth ((own_growth growth is).own ∙ sym own) is_of (its_cause kept)) ∙ other in
          cc

      own_withdraws : from ≡ who → HasArmedGrowth segs → IfSound (after_withdraw from number since now segs)
      own_withdraws own is_of =
          withdraw_holds IfSound segs (λ kept. old) from number since now (λ none other. refused_where own segs.growth refl is_of other)
          (λ none growth is mine kept. failure_apart growth is (Withdrawn since now) (armed_ask segs from) 0)

      -- another one has nothing to take back: its ask is closed
      abbrev ApartIfRising : SegsView → Type 0
      ApartIfRising new = HasSoundAsks new → AreRising new.asks → Stands new

      never : from ≢ who → HasSoundAsks refused → AreRising refused.asks → ⊥
      never beside kept rising =
          let its = (its_cause kept).is.cause in
          let above : closed_number segs.asks from < number =
          subst (λ front. closed_number front from < number) (take_at segs.asks (taken_back ∷ []) (length segs.asks) refl)
          (rising (length segs.asks) taken_back (get_pushed segs.asks taken_back) refl) in
          elim (old.armed from its.0 its.1.kept) [
            | inl closed ↦ omega (arith, above, closed, its.1.which)
            | inr own ↦ beside own.0
          ]

      other_withdraws : from ≢ who → ApartIfRising (after_withdraw from number since now segs)
      other_withdraws beside =
          withdraw_holds ApartIfRising segs (λ kept rising. old) from number since now
          (λ none other kept rising. absurd (never beside kept rising))
          (λ none growth is mine kept rising.
          let both = and_parts (growth.ask.from == from) (growth.ask.number == number) mine in
          absurd (beside (sym (eqb-true growth.ask.from from both.0) ∙ (own_growth growth is).own)))

      pub withdraw_apart : (from ≡ who) ⊎ (from ≢ who) → HasArmedGrowth segs
          → ApartIfRising (after_withdraw from number since now segs)
      withdraw_apart (inl own) is_of kept rising = own_withdraws own is_of kept
      withdraw_apart (inr beside) is_of kept rising = other_withdraws beside kept rising

  pub claim_apart : (segs : SegsView) (from number : ℕ) → Stands segs → Stands (after_claim from number segs)
  claim_apart segs from number old =
      claim_holds Stands segs old from number
      (λ generation.
      record { armed = old.armed; apart = old.apart; since = old.since; log = old.log; growth = old.growth })

  noting_apart : (asks : List AskLog) (cause : Cause) (growth : Option Growth) → IfSome growth (OwnGrowth asks)
      → IfSome (noting cause growth) (OwnGrowth asks)
  noting_apart asks cause None old = tt
  noting_apart asks cause (Some growth) old =
      record { own = old.own; above = old.above; later = old.later; elsewhere = old.elsewhere }

  -- a participant has caught up, or its failed mapping is noted
  pub catching_apart : (segs : SegsView) (from : ℕ) (one : Caught) → Stands segs → Stands (after_catching from one segs)
  catching_apart segs from one old =
      catching_by Stands segs old from
      (λ call addr got. record {
        armed = old.armed;
        apart = old.apart;
        since = old.since;
        log = old.log;
        growth = noting_apart segs.asks (MapFailed from call addr got) segs.growth old.growth;
      })
      one
