-- What the segment value says of the granted asks of a line: the outcome, its generation and its record.
use Rattle.std.proofs.Common.{◌≡◌, ◌==◌, ◌∙◌, ℕ, ◌+◌, ◌-◌, ◌<◌, true, false, List, Option, Some, None, Contains, slice_get, find, refl, ap, sym, subst, arith}
use Rattle.std.specs.Option.{option_and_then}
use Rattle.std.proofs.lemmas.Bool.{and_parts, eqb-true, not-true}
use Rattle.hp_base.specs.declared.row.Run.{Run}
use Rattle.hp_heap.proofs.Members.{find_some}
use Rattle.hp_log.specs.declared.log_record.LogRecord.{LogRecord}
use Rattle.hp_segs.specs.Refusals.{IsAddOf}
use Rattle.hp_segs.specs.SegsView.{SegsView, added_run, is_outcome_for, is_stale, run_of}
use Rattle.hp_segs.specs.Sound as segments
use Rattle.hp_segs.specs.declared.outcome.AskLog.{AskLog}
use Rattle.hp_segs.specs.declared.outcome.Outcome.{Outcome}
use Rattle.hp_segs.specs.declared.outcome.Outcome.TheVariants.{Granted, Refused, Stale, Freed}
use Rattle.hp_proc.specs.Courses.{numbered_in}
use Rattle.hp_proc.specs.Doing.{Done}
use Rattle.hp_proc.specs.Doing.Done.{Asked}
use Rattle.hp_proc.specs.Outcomes.{AreInTurn, IsAnsweredSo}
use Rattle.hp_serve.specs.Asking.{Gives, ask_of}
use Rattle.hp_serve.specs.declared.pages_asked.PagesAsked.{PagesAsked}
use Rattle.thm_run.proofs.GrownHeaps.GrantTurns.{among_read, generations_rise, grant_is, only}

-- what is known of the segment value after a line of a participant that had taken so many numbers before, when there were so many
-- records: it is sound, its outcomes come in turn, each ask of the line has its outcome, what is granted of these are later records, and
-- later records are granted to these alone
pub record AreSettled (who before start : ℕ) (segs : SegsView) (trace : List Done) : Type 0 where
  pub sound : segments.IsSound segs
  pub turn : AreInTurn segs.asks
  pub answered : (place : ℕ) (asked : PagesAsked) (run : Option Run) → slice_get (numbered_in trace) place ≡ Some (Asked asked run)
      → IsAnsweredSo segs.log segs.asks who (before + 1 + place) asked run
  pub later : (entry : AskLog) (generation : ℕ) → Contains segs.asks entry → entry.outcome ≡ Granted generation → entry.from ≡ who
      → before < entry.number → start < generation
  pub own : (entry : AskLog) (generation : ℕ) → Contains segs.asks entry → entry.outcome ≡ Granted generation → start < generation
      → (entry.from ≡ who) × (before < entry.number)
  pub asked : (entry : AskLog) (generation : ℕ) → Contains segs.asks entry → entry.outcome ≡ Granted generation → entry.from ≡ who
      → before < entry.number
      → (asked : PagesAsked) × (given : Option Run)
      × (slice_get (numbered_in trace) (entry.number - (before + 1)) ≡ Some (Asked asked given))

-- an outcome that grants a run for the ask of that number
pub record IsGrantedBy (who : ℕ) (segs : SegsView) (number : ℕ) (asked : PagesAsked) (run : Run) : Type 0 where
  pub entry : AskLog
  pub generation : ℕ
  pub among : Contains segs.asks entry
  pub found : find (is_outcome_for who number) segs.asks ≡ Some entry
  pub from : entry.from ≡ who
  pub its : entry.number ≡ number
  pub granted : entry.outcome ≡ Granted generation
  pub at : generation ≡ entry.at
  pub kept : entry.ask ≡ Some (ask_of who number asked)
  pub grown : IsAddOf segs.pools segs.log generation (ask_of who number asked) run

-- an outcome other than Stale of that number
pub record IsOfNumber (who number : ℕ) (entry : AskLog) : Type 0 where
  pub from : entry.from ≡ who
  pub its : entry.number ≡ number
  pub fresh : is_stale entry.outcome ≡ false

of_number : (who number : ℕ) (entry : AskLog) → is_outcome_for who number entry ≡ true → IsOfNumber who number entry
of_number who number entry is =
    let both = and_parts (entry.from == who) _ is in
    let rest = and_parts (entry.number == number) _ both.1 in
    record {
      from = eqb-true entry.from who both.0;
      its = eqb-true entry.number number rest.0;
      fresh = not-true (is_stale entry.outcome) rest.1;
    }

-- what gives a run is a grant of it
gives_run : (log : List LogRecord) (outcome : Outcome) (run : Run) → Gives log outcome (Some run)
    → (generation : ℕ) × (outcome ≡ Granted generation) × (run_of log generation ≡ Some run)
gives_run log (Granted generation) run given = (generation, refl, given)
gives_run log (Refused cause) run given = elim given [ ]
gives_run log (Stale done) run given = elim given [ ]
gives_run log (Freed generation) run given = elim given [ ]

-- and a grant gives one
grant_gives : (log : List LogRecord) (outcome : Outcome) (generation : ℕ) (given : Option Run) → outcome ≡ Granted generation
    → Gives log outcome given
    → (run : Run) × (given ≡ Some run)
grant_gives log outcome generation (Some run) granted gives = (run, refl)
grant_gives log outcome generation None granted gives = elim (subst (λ outcome. Gives log outcome None) granted gives) [ ]

-- an ask that is answered with a run is granted it
pub granted_so : (segs : SegsView) (who number : ℕ) (asked : PagesAsked) (run : Run) → segments.IsSound segs
    → IsAnsweredSo segs.log segs.asks who number asked (Some run) → IsGrantedBy who segs number asked run
granted_so segs who number asked run sound so =
    let found = find_some (is_outcome_for who number) segs.asks so.entry so.logged in
    let its = of_number who number so.entry found.0 in
    let (generation, granted, added) = gives_run segs.log so.entry.outcome run so.given in
    let (ask, grown, is) = grant_is segs so.entry sound found.1 generation granted in
    let same_ask : Some ask ≡ Some (ask_of who number asked) = sym is.kept ∙ so.kept in
    let its_ask : ask ≡ ask_of who number asked = cc in
    let same_run : Some grown ≡ Some run = sym (ap (option_and_then added_run) is.grown.added) ∙ added in
    let its_run : grown ≡ run = cc in
    record {
      entry = so.entry;
      generation = generation;
      among = found.1;
      found = so.logged;
      from = its.from;
      its = its.its;
      granted = granted;
      at = is.at;
      kept = so.kept;
      grown = subst (IsAddOf segs.pools segs.log generation (ask_of who number asked)) its_run
          (subst (λ ask. IsAddOf segs.pools segs.log generation ask grown) its_ask is.grown);
    }

-- the outcome is of an ask at a place of what the trace numbers
record IsAskedAt (who before : ℕ) (trace : List Done) (entry : AskLog) : Type 0 where
  pub place : ℕ
  pub asked : PagesAsked
  pub given : Option Run
  pub there : slice_get (numbered_in trace) place ≡ Some (Asked asked given)
  pub its : entry.number ≡ before + 1 + place
  pub from : entry.from ≡ who

module _ (who before start : ℕ) (segs : SegsView) (trace : List Done) (settled : AreSettled who before start segs trace) where
  -- each granted ask of the trace is granted so
  pub granted_by : (place : ℕ) (asked : PagesAsked) (run : Run) → slice_get (numbered_in trace) place ≡ Some (Asked asked (Some run))
      → IsGrantedBy who segs (before + 1 + place) asked run
  granted_by place asked run there =
      granted_so segs who (before + 1 + place) asked run settled.sound (settled.answered place asked (Some run) there)

  -- whose generation is later
  pub granted_later : (place : ℕ) (asked : PagesAsked) (run : Run) (by : IsGrantedBy who segs (before + 1 + place) asked run)
      → start < by.generation
  granted_later place asked run by = settled.later by.entry by.generation by.among by.granted by.from (omega (arith, by.its))

  -- each later grant is an outcome of an ask of the line
  asked_for : (entry : AskLog) (generation : ℕ) → Contains segs.asks entry → entry.outcome ≡ Granted generation → start < generation
      → IsAskedAt who before trace entry
  asked_for entry generation among granted past =
      let own = settled.own entry generation among granted past in
      let at = settled.asked entry generation among granted own.0 own.1 in
      record {
        place = entry.number - (before + 1);
        asked = at.0;
        given = at.1;
        there = at.2;
        its = omega (arith, own.1);
        from = own.0;
      }

  -- two grants of one number are one outcome
  pub same_outcome : (x y : AskLog) (first second : ℕ) → Contains segs.asks x → Contains segs.asks y → x.outcome ≡ Granted first
      → y.outcome ≡ Granted second → x.from ≡ who → y.from ≡ who → x.number ≡ y.number → x ≡ y
  same_outcome x y first second x_among y_among x_granted y_granted x_from y_from number =
      let (here, at_here) = among_read segs.asks x x_among in
      let (beside, at_beside) = among_read segs.asks y y_among in
      only segs.asks who settled.turn.above here beside x y (record { there = at_here; from = x_from; fresh = ap is_stale x_granted })
      (record { there = at_beside; from = y_from; fresh = ap is_stale y_granted }) number

  -- which gave its run
  granted_run : (entry : AskLog) (generation : ℕ) → Contains segs.asks entry → entry.outcome ≡ Granted generation
      → (at : IsAskedAt who before trace entry)
      → (run : Run) × (at.given ≡ Some run)
  granted_run entry generation among granted at =
      let so = settled.answered at.place at.asked at.given at.there in
      let found = find_some (is_outcome_for who (before + 1 + at.place)) segs.asks so.entry so.logged in
      let other = of_number who (before + 1 + at.place) so.entry found.0 in
      let (here, at_here) = among_read segs.asks entry among in
      let (beside, at_beside) = among_read segs.asks so.entry found.1 in
      let same : entry ≡ so.entry =
      only segs.asks who settled.turn.above here beside entry so.entry
      (record { there = at_here; from = at.from; fresh = ap is_stale granted })
      (record { there = at_beside; from = other.from; fresh = other.fresh }) (omega (arith, other.its, at.its)) in
      grant_gives segs.log so.entry.outcome generation at.given (ap (λ (entry : AskLog). entry.outcome) (sym same) ∙ granted) so.given

  -- so each grant is that of a granted ask of the trace
  pub granted_for : (entry : AskLog) (generation : ℕ) → Contains segs.asks entry → entry.outcome ≡ Granted generation → start < generation
      → (place : ℕ) × (asked : PagesAsked) × (run : Run) × (slice_get (numbered_in trace) place ≡ Some (Asked asked (Some run)))
      × (entry.number ≡ before + 1 + place) × (entry.from ≡ who)
  granted_for entry generation among granted past =
      let at = asked_for entry generation among granted past in
      let (run, gives_it) = granted_run entry generation among granted at in
      let there : slice_get (numbered_in trace) at.place ≡ Some (Asked at.asked (Some run)) =
      subst (λ given. slice_get (numbered_in trace) at.place ≡ Some (Asked at.asked given)) gives_it at.there in
      (at.place, at.asked, run, there, at.its, at.from)

  -- the generations of granted asks rise with their numbers
  pub grants_rise : (first second : ℕ) (asked other : PagesAsked) (run next : Run) → first < second
      → (one : IsGrantedBy who segs (before + 1 + first) asked run) → (two : IsGrantedBy who segs (before + 1 + second) other next)
      → one.generation < two.generation
  grants_rise first second asked other run next order one two =
      generations_rise segs who one.entry two.entry one.generation two.generation settled.sound settled.turn.above one.among two.among
      one.from two.from
      one.granted two.granted (omega (arith, order, one.its, two.its))
