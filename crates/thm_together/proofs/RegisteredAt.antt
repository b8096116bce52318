-- A watcher that one of a participant's lines registered, by what the participant has seen since: while it serves, and while it does a line.
use Rattle.std.proofs.Common.{◌≡◌, ◌∙◌, ℕ, zero, suc, ◌+◌, ◌-◌, ◌<◌, ◌≤◌, true, List, [], ◌∷◌, ◌++◌, append-nil, length, length-append, take, Some, refl, ap, sym, subst, arith, ⊎_elim}
use Rattle.std.specs.Prelude.{slice_get}
use Rattle.std.proofs.lemmas.Bool.{cases_lt}
use Rattle.std.proofs.lemmas.List.{take-append-le, take_all}
use Rattle.std.proofs.lemmas.Option.{same_Some, slice_get_within}
use Rattle.hp_base.specs.declared.row.Row.{Row}
use Rattle.hp_log.specs.declared.log_record.LogRecord.{LogRecord}
use Rattle.hp_maps.proofs.ReadyLemmas.{lags_behind_more}
use Rattle.hp_maps.specs.Catching.{Lags}
use Rattle.hp_maps.specs.MapsView.{table_in}
use Rattle.hp_proc.specs.Courses.{Standing, numbered_in}
use Rattle.hp_proc.specs.Doing.{Done}
use Rattle.hp_proc.specs.Doing.Done.{Asked}
use Rattle.hp_proc.specs.LinesDone.{Course, standing_after, trace_of}
use Rattle.hp_proc.specs.WatchedBytes.{IsUnwatch}
use Rattle.hp_script.specs.Part.{Part}
use Rattle.hp_script.specs.declared.answer.Answer.TheVariants as answer
use Rattle.hp_script.specs.declared.line.Act.TheVariants as act
use Rattle.hp_segs.proofs.AskFacts.Settled.{get_before}
use Rattle.hp_segs.proofs.SlotFacts.ListFacts.{get_stays}
use Rattle.hp_segs.specs.SegsView.{SegsView}
use Rattle.thm_run.proofs.GrownHeaps.Grown.{get_behind as get_past}
use Rattle.thm_run.proofs.InTurnByHolds.AskedInHolds.{IsAskAt}
use Rattle.thm_run.proofs.JudgedGrowths.Moments.{get_behind}
use Rattle.thm_run.proofs.LineSteps.LineMore.{trace_more}
use Rattle.thm_run.proofs.Registrations.RegisteredOn.{get_either}
use Rattle.thm_run.proofs.SeatFacts.LogAlong.{HasRecords}
use Rattle.thm_run.proofs.TracesTold.Numbers.{numbered_both}
use Rattle.thm_run.specs.Seats.{Seat}
use Rattle.thm_together.proofs.AsksAbove.{IsAskedAbove, above_lower}
use Rattle.thm_together.proofs.PathsKnown.{ReachesOn, records_longer}

-- A watcher of that name, whose first table has these rows, was registered by one of these lines, and by none unregistered since: by a log that
-- the participant has seen that table lags behind no more than the records that were there; it has taken in what was there when the participant
-- had attached last, and no more than the participant's table has by now; and what later lines ask for is asked above those records.
pub record IsRegisteredAt (who : ℕ) (opening : Standing) (last : SegsView) (log : List LogRecord) (seat : Seat) (courses : List Course)
    (text : List ℕ) (rows : List Row) : Type 0 where
  pub place : ℕ
  pub course : Course
  pub name : Part
  pub there : slice_get courses place ≡ Some course
  pub watches : course.line.act ≡ act.Watch name
  pub named : name.text ≡ text
  pub answered : course.answer ≡ answer.Done
  pub still : (later : ℕ) (other : Course) → place < later → slice_get courses later ≡ Some other → ¬ IsUnwatch name.text other
  pub number : ℕ
  pub seen : ℕ
  pub within : seen ≤ length log
  pub taken : number ≤ length log
  pub lags : Lags log number seen (table_in rows)
  pub since : (standing_after opening (take place courses)).records ≤ number
  pub reached : seat.party.joined ≡ true → number ≤ seat.party.maps.number
  pub above : (index : ℕ) → length (numbered_in (trace_of (take place courses))) ≤ index → IsAskAt (numbered_in (trace_of courses)) index
      → IsAskedAbove who last seen (1 + index)

-- a table lags behind a log that goes on as it did behind that
pub lags_on : (old new : List LogRecord) (number seen : ℕ) (rows : List Row) → HasRecords old new → seen ≤ length old
    → Lags old number seen (table_in rows) → Lags new number seen (table_in rows)
lags_on old new number seen rows has within lags =
    subst (λ (log : List LogRecord). Lags log number seen (table_in rows)) (sym has.is)
    (lags_behind_more old has.more number seen seen (table_in rows) within (omega arith) lags)

module _ (who : ℕ) (opening : Standing) (last : SegsView) (log more : List LogRecord) (old new : Seat) (courses : List Course)
    (has : HasRecords log more) (reaches : ReachesOn (length log) old new) where
  -- beside its lines
  pub stays_beside : (text : List ℕ) (rows : List Row) → IsRegisteredAt who opening last log old courses text rows
      → IsRegisteredAt who opening last more new courses text rows
  stays_beside text rows is =
      let few = records_longer log more has in
      record {
        place = is.place;
        course = is.course;
        name = is.name;
        there = is.there;
        watches = is.watches;
        named = is.named;
        answered = is.answered;
        still = is.still;
        number = is.number;
        seen = is.seen;
        within = omega (arith, is.within, few);
        taken = omega (arith, is.taken, few);
        lags = lags_on log more is.number is.seen rows has is.within is.lags;
        since = is.since;
        reached = reaches is.number is.taken is.reached;
        above = is.above;
      }

  -- by one line more
  module _ (one : Course)
      (asks : (place : ℕ) → IsAskAt (numbered_in one.trace) place
      → IsAskedAbove who last (length log) (1 + length (numbered_in (trace_of courses)) + place)) where
    abbrev early : List Done
    early = numbered_in (trace_of courses)

    -- what it asks for is asked above the records that were there
    above_on : (least seen : ℕ) → seen ≤ length log
        → ((index : ℕ) → least ≤ index → IsAskAt early index → IsAskedAbove who last seen (1 + index))
        → (index : ℕ) → least ≤ index → IsAskAt (numbered_in (trace_of (courses ++ one ∷ []))) index → IsAskedAbove who last seen (1 + index)
    above_on least seen within was index beyond at =
        let whole : numbered_in (trace_of (courses ++ one ∷ [])) ≡ early ++ numbered_in one.trace =
        ap numbered_in (trace_more courses one) ∙ numbered_both (trace_of courses) one.trace in
        let there : slice_get (early ++ numbered_in one.trace) index ≡ Some (Asked at.asked at.run) =
        ap (λ (numbered : List Done). slice_get numbered index) (sym whole) ∙ at.there in
        ⊎_elim
        (λ (before : index < length early).
        was index beyond (record {
          asked = at.asked;
          run = at.run;
          there = sym (get_before early (numbered_in one.trace) index before) ∙ there;
        }))
        (λ (behind : length early ≤ index).
        let same : 1 + length early + (index - length early) ≡ 1 + index = omega (arith, behind) in
        subst (IsAskedAbove who last seen) same
        (above_lower who last seen (length log) (1 + length early + (index - length early)) within
        (asks (index - length early) (record {
          asked = at.asked;
          run = at.run;
          there = sym (get_past early (numbered_in one.trace) (index - length early) index (omega (arith, behind))) ∙ there;
        }))))
        (cases_lt index (length early))

    pub stays_on : (text : List ℕ) (rows : List Row) → IsRegisteredAt who opening last log old courses text rows → ¬ IsUnwatch text one
        → IsRegisteredAt who opening last more new (courses ++ one ∷ []) text rows
    stays_on text rows is quiet =
        let few = records_longer log more has in
        let within : is.place < length courses = slice_get_within courses is.place is.course is.there in
        let front : take is.place (courses ++ one ∷ []) ≡ take is.place courses =
        take-append-le is.place courses (one ∷ []) (omega (arith, within)) in
        record {
          place = is.place;
          course = is.course;
          name = is.name;
          there = get_stays courses (one ∷ []) is.place is.course is.there;
          watches = is.watches;
          named = is.named;
          answered = is.answered;
          still = λ later other behind here unwatches.
              ⊎_elim
              (λ (before : slice_get courses later ≡ Some other). is.still later other behind before unwatches)
              (λ (late : (k : ℕ) × (slice_get (one ∷ []) k ≡ Some other)).
              quiet (subst (λ (text : List ℕ). IsUnwatch text one) is.named
              (subst (IsUnwatch is.name.text) (sym (only late.0 other late.1)) unwatches)))
              (get_either courses (one ∷ []) later other here);
          number = is.number;
          seen = is.seen;
          within = omega (arith, is.within, few);
          taken = omega (arith, is.taken, few);
          lags = lags_on log more is.number is.seen rows has is.within is.lags;
          since = subst (λ (first : List Course). (standing_after opening first).records ≤ is.number) (sym front) is.since;
          reached = reaches is.number is.taken is.reached;
          above = λ index beyond at.
              above_on (length (numbered_in (trace_of (take is.place courses)))) is.seen is.within is.above index
              (omega (arith, beyond, ap (λ (first : List Course). length (numbered_in (trace_of first))) front)) at;
        }
      where
        only : (k : ℕ) (other : Course) → slice_get (one ∷ []) k ≡ Some other → one ≡ other
        only zero other here = same_Some one other here
        only (suc k) other here = cc

-- a watcher that the last line registers, which did nothing besides
pub newly_at : (who : ℕ) (opening : Standing) (last : SegsView) (log : List LogRecord) (seat : Seat) (courses : List Course) (one : Course)
    (name : Part) (rows : List Row) → one.line.act ≡ act.Watch name → one.answer ≡ answer.Done → one.trace ≡ []
    → Lags log seat.party.maps.number (length log) (table_in rows) → seat.party.maps.number ≤ length log
    → (standing_after opening courses).records ≤ seat.party.maps.number
    → IsRegisteredAt who opening last log seat (courses ++ one ∷ []) name.text rows
newly_at who opening last log seat courses one name rows watches answered nothing lags taken records =
    let front : take (length courses) (courses ++ one ∷ []) ≡ courses =
    take-append-le (length courses) courses (one ∷ []) (omega arith) ∙ take_all (length courses) courses (omega arith) in
    let whole : trace_of (courses ++ one ∷ []) ≡ trace_of courses =
    trace_more courses one
    ∙ (ap (λ (trace : List Done). trace_of courses ++ trace) nothing ∙ append-nil (trace_of courses)) in
    record {
      place = length courses;
      course = one;
      name = name;
      there = get_behind courses one [];
      watches = watches;
      named = refl;
      answered = answered;
      still = λ later other behind here unwatch.
          let within = slice_get_within (courses ++ one ∷ []) later other here in
          absurd (omega (arith, behind, within, length-append courses (one ∷ [])));
      number = seat.party.maps.number;
      seen = length log;
      within = omega arith;
      taken = taken;
      lags = lags;
      since = subst (λ (first : List Course). (standing_after opening first).records ≤ seat.party.maps.number) (sym front) records;
      reached = λ joined. omega arith;
      above = λ index beyond at.
          let within = slice_get_within (numbered_in (trace_of (courses ++ one ∷ []))) index (Asked at.asked at.run) at.there in
          absurd (omega (
            arith,
            beyond,
            within,
            ap (λ (first : List Course). length (numbered_in (trace_of first))) front,
            ap (λ (trace : List Done). length (numbered_in trace)) whole,
          ));
    }
