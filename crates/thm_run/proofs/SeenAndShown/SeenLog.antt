-- What a line's trace shows of the log never falls: it lies between the records that were there when the line began and those that are
-- there after it, where no growth is open, its outcomes stand apart and come in turn, and the trace looks nowhere or at the log alone.
use Rattle.std.proofs.Common.{◌≡◌, ◌==◌, ◌∙◌, ℕ, ◌+◌, ◌<◌, ◌≤◌, Bool, true, false, List, [], ◌∷◌, ◌++◌, length, Option, Some, None, inl, inr, refl, ap, sym, subst, arith}
use Rattle.std.specs.List.{All, find, slice_get}
use Rattle.std.proofs.lemmas.Bool.{and_parts, cases_lt, eqb-true, not-true}
use Rattle.std.proofs.lemmas.List.Elements.{All-head, All-tail}
use Rattle.std.proofs.lemmas.Option.{same_Some, slice_get-get_or}
use Rattle.hp_heap.proofs.Members.{find_some}
use Rattle.hp_segs.specs.SegsView.{SegsView, is_grant_or_refusal, is_outcome_for, is_stale}
use Rattle.hp_segs.specs.Sound.{IsSound}
use Rattle.hp_segs.specs.SoundAsks.{AreSettled}
use Rattle.hp_segs.specs.declared.outcome.AskLog.{AskLog}
use Rattle.hp_segs.specs.declared.outcome.Outcome.{Outcome}
use Rattle.hp_segs.specs.declared.outcome.Outcome.TheVariants.{Freed, Granted, Refused, Stale}
use Rattle.hp_segs.proofs.GrowthSteps.GrantLemmas.{fresh_by}
use Rattle.hp_proc.specs.Doing.{Done}
use Rattle.hp_proc.specs.Doing.Done.{Asked, CaughtUp, GaveUp, Looked}
use Rattle.hp_proc.specs.Outcomes.{AreInTurn}
use Rattle.hp_proc.specs.Seen.{has_failed, seen_by, seen_by_ask, seen_in}
use Rattle.thm_run.proofs.StandingApart.{IsSince, StandsApart}
use Rattle.thm_run.proofs.GrownHeaps.GrantTurns.{numbers_rise}
use Rattle.thm_run.proofs.SeenAndShown.NoLooks.{IsNoLook}
use Rattle.thm_run.proofs.Rising.{Rises}
use Rattle.thm_run.proofs.SeenAndShown.Shown.{failed_add, first_of, last_of, shown_first, shown_later, shown_rises, shown_within, shows_none, shows_two}
use Rattle.thm_run.proofs.GrownHeaps.UngrantedAdds.{HasItsCause, IsUngrantedAdd, caused_at}

pub fresh : (entry : AskLog) → is_grant_or_refusal entry.outcome ≡ true → is_stale entry.outcome ≡ false
fresh entry shown = not-true (is_stale entry.outcome) (fresh_by entry.outcome shown)

-- of two outcomes that come in turn the later one has the greater number
pub later_above : (asks : List AskLog) → AreInTurn asks → (before later : ℕ) (x y : AskLog) → slice_get asks before ≡ Some x
    → slice_get asks later ≡ Some y → before < later → x.from ≡ y.from → is_stale x.outcome ≡ false → is_stale y.outcome ≡ false
    → x.number < y.number
later_above asks turn before later x y read there less same x_fresh y_fresh =
    numbers_rise asks x.from turn.above before later x y (record { there = read; from = refl; fresh = x_fresh })
    (record { there = there; from = sym same; fresh = y_fresh }) less

-- the first outcome of a number, at its place
pub record IsFoundAt (asks : List AskLog) (who number : ℕ) (entry : AskLog) : Type 0 where
  pub place : ℕ
  pub here : slice_get asks place ≡ Some entry
  pub from : entry.from ≡ who
  pub its : entry.number ≡ number

pub found_at : (asks : List AskLog) (who number : ℕ) (entry : AskLog) → find (is_outcome_for who number) asks ≡ Some entry
    → IsFoundAt asks who number entry
found_at asks who number entry found =
    let is = find_some (is_outcome_for who number) asks entry found in
    let both = and_parts (entry.from == who) _ is.0 in
    let rest = and_parts (entry.number == number) _ both.1 in
    record {
      place = is.1.0;
      here = slice_get-get_or asks is.1.0 entry is.1.1 ∙ ap Some is.1.2;
      from = eqb-true entry.from who both.0;
      its = eqb-true entry.number number rest.0;
    }

-- an outcome of the line shows no fewer records than were there before, where these did not end with a growth that failed
module _ (who before base start : ℕ) (segs : SegsView) (none : IsUngrantedAdd segs.log segs.asks start → ⊥) (entry : AskLog)
    (since : IsSince who before base start entry) (heap : ℕ) where
  first_by : (failed : Bool) (outcome : Outcome) → entry.outcome ≡ outcome → has_failed segs.log segs.asks heap entry.at ≡ failed
      → start ≤ shown_first failed entry.at outcome
  first_by failed (Granted generation) is fails = omega (arith, (since.granted generation is).later)
  first_by true (Refused cause) is fails =
      let add = failed_add segs.log segs.asks heap entry.at fails in
      elim (cases_lt start entry.at) [
        | inl later ↦ omega (arith, later)
        | inr level ↦ (let same : entry.at ≡ start = omega (arith, level, since.at) in
            absurd (none (subst (IsUngrantedAdd segs.log segs.asks) same add)))
      ]
  first_by false (Refused cause) is fails = since.at
  first_by failed (Stale done) is fails = since.at
  first_by failed (Freed generation) is fails = since.at

  first_since : start ≤ first_of segs.pools segs.log segs.asks entry heap
  first_since = first_by (has_failed segs.log segs.asks heap entry.at) entry.outcome refl refl

-- after a line of a participant that had made so many asks and notices, with so many outcomes and records then
module _ (who before base start : ℕ) (segs : SegsView) (sound : IsSound segs) (alone : segs.growth ≡ None)
    (stands : StandsApart who before base start segs) (turn : AreInTurn segs.asks)
    (none : IsUngrantedAdd segs.log segs.asks start → ⊥)
    (behind : (place : ℕ) (entry : AskLog) → slice_get segs.asks place ≡ Some entry → entry.from ≡ who → before < entry.number
    → base ≤ place)
  where
    settled : AreSettled segs.log segs.asks None
    settled = subst (AreSettled segs.log segs.asks) alone sound.asks.settled

    caused : (place : ℕ) (entry : AskLog) → slice_get segs.asks place ≡ Some entry → HasItsCause segs.pools segs.log entry
    caused place entry here = caused_at segs.pools segs.log [] segs.asks place entry sound.asks.caused here

    -- so many records are no more than what the asks from a number on show
    abbrev IsUnder : ℕ → ℕ → Type 0
    IsUnder floor number = (place : ℕ) (entry : AskLog) (heap : ℕ) → slice_get segs.asks place ≡ Some entry → entry.from ≡ who
        → number ≤ entry.number → is_grant_or_refusal entry.outcome ≡ true → floor ≤ first_of segs.pools segs.log segs.asks entry heap

    under_next : (floor number : ℕ) → IsUnder floor number → IsUnder floor (number + 1)
    under_next floor number under place entry heap here own above shown = under place entry heap here own (omega (arith, above)) shown

    -- what the asks after a number have seen
    abbrev GoesOn : ℕ → List ℕ → Type 0
    GoesOn number rest = (floor : ℕ) → floor ≤ length segs.log → IsUnder floor number → Rises floor (length segs.log) rest

    module _ (heap number : ℕ) (past : before < number) (rest : List ℕ) (on : GoesOn (number + 1) rest) (floor : ℕ)
        (within : floor ≤ length segs.log) (under : IsUnder floor number) where
      module _ (entry : AskLog) (at : IsFoundAt segs.asks who number entry) where
        -- what it shows is no more than what the asks after it show
        under_last : is_grant_or_refusal entry.outcome ≡ true → IsUnder (last_of segs.pools segs.log segs.asks entry heap) (number + 1)
        under_last shown place other its_heap there own above shows =
            elim (cases_lt at.place place) [
              | inl order ↦
                  shown_later segs.log segs.asks settled segs.pools base stands.apart sound.asks.in_time at.place place entry other
                  (behind at.place entry at.here at.from (omega (arith, past, at.its))) at.here there order
                  (caused at.place entry at.here) (caused place other there) shown shows heap its_heap
              | inr before ↦ absurd (never place other there own above shows before)
            ]
          where
            never : (place : ℕ) (other : AskLog) → slice_get segs.asks place ≡ Some other → other.from ≡ who → number + 1 ≤ other.number
                → is_grant_or_refusal other.outcome ≡ true → place ≤ at.place → ⊥
            never place other there own above shows before =
                elim (cases_lt place at.place) [
                  | inl less ↦
                      omega (
                        arith,
                        above,
                        at.its,
                        later_above segs.asks turn place at.place other entry there at.here less (own ∙ sym at.from) (fresh other shows)
                            (fresh entry shown),
                      )
                  | inr level ↦
                      let same : place ≡ at.place = omega (arith, level, before) in
                      let one : other ≡ entry = same_Some other entry (sym there ∙ (ap (slice_get segs.asks) same ∙ at.here)) in
                      omega (arith, above, at.its, ap (λ (entry : AskLog). entry.number) one)
                ]

        entry_rises : (shown : Bool) → is_grant_or_refusal entry.outcome ≡ shown
            → Rises floor (length segs.log) (seen_by (has_failed segs.log segs.asks heap entry.at) entry.at entry.outcome ++ rest)
        entry_rises true shown =
            subst (λ two. Rises floor (length segs.log) (two ++ rest))
            (sym (shows_two (has_failed segs.log segs.asks heap entry.at) entry.at entry.outcome shown)) (
              under at.place entry heap at.here at.from (omega (arith, at.its)) shown,
              (
                shown_rises segs.pools segs.log segs.asks entry (caused at.place entry at.here) heap,
                on (last_of segs.pools segs.log segs.asks entry heap)
                    (shown_within segs.log segs.asks settled segs.pools entry (caused at.place entry at.here) heap) (under_last shown),
              ),
            )
        entry_rises false shown =
            subst (λ nothing. Rises floor (length segs.log) (nothing ++ rest))
            (sym (shows_none (has_failed segs.log segs.asks heap entry.at) entry.at entry.outcome shown))
            (on floor within (under_next floor number under))

      ask_rises : (found : Option AskLog) → find (is_outcome_for who number) segs.asks ≡ found
          → Rises floor (length segs.log) (seen_by_ask segs.log segs.asks heap found ++ rest)
      ask_rises None is = on floor within (under_next floor number under)
      ask_rises (Some entry) is = entry_rises entry (found_at segs.asks who number entry is) (is_grant_or_refusal entry.outcome) refl

    trace_rises : (trace : List Done) (number : ℕ) → before < number → All IsNoLook trace
        → GoesOn number (seen_in segs.log segs.asks who number trace)
    trace_rises [] number past looks floor within under = within
    trace_rises (Asked asked run ∷ trace) number past looks floor within under =
        ask_rises asked.heap number past (seen_in segs.log segs.asks who (number + 1) trace)
        (trace_rises trace (number + 1) (omega (arith, past)) (All-tail IsNoLook (Asked asked run) trace looks)) floor within under
        (find (is_outcome_for who number) segs.asks) refl
    trace_rises (GaveUp heap run ∷ trace) number past looks floor within under =
        trace_rises trace (number + 1) (omega (arith, past)) (All-tail IsNoLook (GaveUp heap run) trace looks) floor within
        (under_next floor number under)
    trace_rises (Looked records ∷ trace) number past looks floor within under = absurd (All-head IsNoLook (Looked records) trace looks)
    trace_rises (CaughtUp to caught ∷ trace) number past looks floor within under =
        absurd (All-head IsNoLook (CaughtUp to caught) trace looks)
    trace_rises (done ∷ trace) number past looks floor within under =
        trace_rises trace number past (All-tail IsNoLook done trace looks) floor within under

    -- what a line shows that looks nowhere lies between the records before it and those after it
    pub asking_line_seen : (trace : List Done) → All IsNoLook trace
        → Rises start (length segs.log) (seen_in segs.log segs.asks who (before + 1) trace)
    asking_line_seen trace looks =
        trace_rises trace (before + 1) (omega arith) looks start stands.log
        (λ place entry heap here own above shown.
        first_since who before base start segs none entry
        (stands.since place entry (behind place entry here own (omega (arith, above))) here) heap)
