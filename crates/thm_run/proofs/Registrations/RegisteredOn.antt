-- After a line, and where all serve on, each watcher was registered by a line of its participant, and what its first table had taken in stays.
use Rattle.std.proofs.Common.{◌≡◌, ◌≢◌, ◌⊎◌, ◌∙◌, ◌==◌, ℕ, zero, suc, ◌+◌, ◌<◌, ◌≤◌, Bool, true, false, not, List, [], ◌∷◌, ◌++◌, filter, length, length-append, take, Option, Some, None, IfSome, if◌then◌else◌, refl, ap, sym, subst, arith, inl, inr, ⊎_elim}
use Rattle.std.specs.List.{All}
use Rattle.std.specs.Prelude.{Contains, slice_get}
use Rattle.std.proofs.lemmas.List.{take-append-le, take_all}
use Rattle.std.proofs.lemmas.List.Elements.{All-append, All-contains_itself, All-cons, All-head, All-nil, All-push, All-tail, All-weaker}
use Rattle.std.proofs.lemmas.Option.{slice_get_within}
use Rattle.std.proofs.lemmas.Slice.Eq.{bytes_eq-Decides}
use Rattle.hp_base.specs.Telling.{Listener}
use Rattle.hp_base.specs.declared.chunk.Chunk.{Chunk}
use Rattle.hp_base.specs.declared.row.Row.{Row}
use Rattle.hp_events.specs.Watchers.{has_name}
use Rattle.hp_hall.specs.Own.{Own}
use Rattle.hp_log.specs.declared.log_record.LogRecord.{LogRecord}
use Rattle.hp_maps.proofs.ReadyLemmas.{lags_behind_more}
use Rattle.hp_maps.specs.Catching.{Lags}
use Rattle.hp_maps.specs.MapsView.{MapsView, table_in}
use Rattle.hp_plain.specs.HallView.{HallView, own_at, seen_in}
use Rattle.hp_proc.specs.LineTrees.{doing_of}
use Rattle.hp_proc.specs.Courses.{Standing, after_line, numbered_in}
use Rattle.hp_proc.specs.Doing.{Doing, Done, Goes, Leads}
use Rattle.hp_proc.specs.Lines.{Facts, if_attached}
use Rattle.hp_proc.specs.LinesDone.{Course, courses_of, opening_standing, standing_after, trace_of}
use Rattle.hp_proc.specs.ParticipantView.{listeners_after, watched_after}
use Rattle.hp_proc.specs.Progress.{Moment}
use Rattle.hp_proc.specs.Registering.{watching}
use Rattle.hp_proc.specs.WatchedBytes.{HasLaterGrant, HasTakenGrant, IsUnwatch}
use Rattle.hp_script.specs.Part.{Part}
use Rattle.hp_script.specs.declared.answer.Answer.{Answer}
use Rattle.hp_script.specs.declared.answer.Answer.TheVariants as answer
use Rattle.hp_script.specs.declared.line.Act.{Act}
use Rattle.hp_script.specs.declared.line.Act.TheVariants as act
use Rattle.hp_segs.proofs.SlotFacts.ListFacts.{get_stays}
use Rattle.hp_segs.specs.SegsView.{granted_by}
use Rattle.hp_segs.specs.declared.outcome.AskLog.{AskLog}
use Rattle.hp_serve.proofs.RowsKnown.{has_lags}
use Rattle.hp_serve.specs.Tied.{IsTied, part_of}
use Rattle.thm_run.proofs.JudgedGrowths.Moments.{get_behind}
use Rattle.thm_run.proofs.TracesTold.Numbers.{numbered_both}
use Rattle.thm_run.specs.Registered.{IsRegisteredBy}

-- TABLES AND PLACES

-- a tied table lags behind the whole log
pub tied_table : (log : List LogRecord) (own : Own) (marked : ℕ → List Chunk) (joined : Bool) (maps : MapsView)
    → IsTied log own marked joined maps
    → Lags log maps.number (length log) (table_in maps.rows)
tied_table log own marked joined maps tied =
    let lag = has_lags log (part_of joined own) marked maps tied.table in
    let up_to = lag.up_to in
    let seen = tied.table.seen in
    subst (λ n. Lags log n (length log) (table_in maps.rows)) (sym tied.table.number)
    (record { reached = lag.reached; from = lag.from; up_to = omega (arith, up_to, seen); left = lag.left })

-- what stands in two lists stands in one of them
pub get_either : {X : Type 0} (xs ys : List X) (n : ℕ) (x : X) → slice_get (xs ++ ys) n ≡ Some x
    → (slice_get xs n ≡ Some x) ⊎ ((k : ℕ) × (slice_get ys k ≡ Some x))
get_either [] ys n x here = inr (n, here)
get_either (y ∷ xs) ys zero x here = inl here
get_either (y ∷ xs) ys (suc n) x here = get_either xs ys n x here

-- the first lines took no more numbers than all
numbered_first : (courses : List Course) (place : ℕ)
    → length (numbered_in (trace_of (take place courses))) ≤ length (numbered_in (trace_of courses))
numbered_first [] place =
    let nothing : List Course = [] in
    let none : take place nothing ≡ nothing = take_all place nothing (omega arith) in
    omega (arith, ap (λ (courses : List Course). length (numbered_in (trace_of courses))) none)
numbered_first (course ∷ courses) zero = omega arith
numbered_first (course ∷ courses) (suc place) =
    let rest = numbered_first courses place in
    omega (arith, rest, long course.trace (trace_of (take place courses)), long course.trace (trace_of courses))
  where
    long : (trace more : List Done)
        → length (numbered_in (trace ++ more)) ≡ length (numbered_in trace) + length (numbered_in more)
    long trace more = ap length (numbered_both trace more) ∙ length-append (numbered_in trace) (numbered_in more)

-- AS LINES AND RECORDS COME

module _ (who was reached : ℕ) (opening : Standing) (log records : List LogRecord) (asks others : List AskLog) (courses more : List Course)
    (beyond : was ≤ reached)
    (taken : (n number : ℕ) → n ≤ length (numbered_in (trace_of courses)) → All (HasTakenGrant who n number) others)
    (later : (n seen : ℕ) → seen ≤ length log → All (HasLaterGrant who n seen) others) where
  abbrev Before : List ℕ → List Row → Type 0
  Before text rows = IsRegisteredBy who was opening log asks courses text rows

  abbrev Now : List ℕ → List Row → Type 0
  Now text rows = IsRegisteredBy who reached opening (log ++ records) (asks ++ others) (courses ++ more) text rows

  -- a watcher stays registered where no line that comes unregisters it
  pub stays_registered : (text : List ℕ) (rows : List Row) → Before text rows
      → ((k : ℕ) (other : Course) → slice_get more k ≡ Some other → ¬ IsUnwatch text other) → Now text rows
  stays_registered text rows is quiet =
      let within : is.place < length courses = slice_get_within courses is.place is.course is.there in
      let front : take is.place (courses ++ more) ≡ take is.place courses = take-append-le is.place courses more (omega (arith, within)) in
      record {
        place = is.place;
        course = is.course;
        name = is.name;
        there = get_stays courses more is.place is.course is.there;
        watches = is.watches;
        named = is.named;
        answered = is.answered;
        still = λ later other behind here unwatches.
            ⊎_elim
            (λ (early : slice_get courses later ≡ Some other). is.still later other behind early unwatches)
            (λ (late : (k : ℕ) × (slice_get more k ≡ Some other)).
            quiet late.0 other late.1 (subst (λ (text : List ℕ). IsUnwatch text other) is.named unwatches))
            (get_either courses more later other here);
        number = is.number;
        seen = is.seen;
        within = omega (arith, is.within, length-append log records);
        lags = lags_behind_more log records is.number is.seen is.seen (table_in rows) is.within (omega arith) is.lags;
        since = subst (λ (first : List Course). (standing_after opening first).records ≤ is.number) (sym front) is.since;
        own = subst (λ (first : List Course). All (HasTakenGrant who (length (numbered_in (trace_of first))) is.number) (asks ++ others)) (sym front)
            (All-append (HasTakenGrant who (length (numbered_in (trace_of (take is.place courses)))) is.number) asks others is.own
            (taken (length (numbered_in (trace_of (take is.place courses)))) is.number (numbered_first courses is.place)));
        beyond = subst (λ (first : List Course). All (HasLaterGrant who (length (numbered_in (trace_of first))) is.seen) (asks ++ others))
            (sym front)
            (All-append (HasLaterGrant who (length (numbered_in (trace_of (take is.place courses)))) is.seen) asks others is.beyond
            (later (length (numbered_in (trace_of (take is.place courses)))) is.seen is.within));
        until = omega (arith, is.until, beyond);
      }

-- A LINE THAT ENDS

-- no line but that which unregisters a name unregisters it
other_deed : (text : List ℕ) (course : Course) (deed : Act) (given : Answer) → course.line.act ≡ deed → course.answer ≡ given
    → ((name : Part) → deed ≡ act.Unwatch name → given ≡ answer.Done → ¬ (name.text ≡ text)) → ¬ IsUnwatch text course
other_deed text course deed given is answered apart unwatch =
    apart unwatch.name (sym is ∙ unwatch.unwatches) (sym answered ∙ unwatch.answered) unwatch.named

its_own_name : (text : List ℕ) (listener : Listener) → has_name text listener ≡ false → ¬ (text ≡ listener.name)
its_own_name text listener other same =
    let own : has_name text listener ≡ true = (bytes_eq-Decides listener.name text).1 (sym same) in
    let wrong : true ≡ false = sym own ∙ other in
    cc

module _ (P Q : List ℕ → List Row → Type 0) (one : Course)
    (stays : (text : List ℕ) (rows : List Row) → P text rows → ¬ IsUnwatch text one → Q text rows) where
  abbrev AllP : List Listener → Type 0
  AllP listeners = All (λ (listener : Listener). P listener.name listener.since) listeners

  abbrev AllQ : List Listener → Type 0
  AllQ listeners = All (λ (listener : Listener). Q listener.name listener.since) listeners

  all_stay : (listeners : List Listener) → ((text : List ℕ) → ¬ IsUnwatch text one) → AllP listeners → AllQ listeners
  all_stay listeners quiet all =
      All-weaker (λ (listener : Listener). P listener.name listener.since) (λ (listener : Listener). Q listener.name listener.since)
      (λ listener its. stays listener.name listener.since its (quiet listener.name)) listeners all

  -- those of other names stay
  others_stay : (name : Part) → one.line.act ≡ act.Unwatch name → (listeners : List Listener) → AllP listeners
      → AllQ (filter (λ listener. not (has_name name.text listener)) listeners)
  others_stay name is [] all = All-nil (λ (listener : Listener). Q listener.name listener.since)
  others_stay name is (listener ∷ listeners) all =
      by_name (has_name name.text listener) refl
      (others_stay name is listeners (All-tail (λ (listener : Listener). P listener.name listener.since) listener listeners all))
    where
      apart : has_name name.text listener ≡ false → ¬ IsUnwatch listener.name one
      apart other unwatch =
          let same : act.Unwatch unwatch.name ≡ act.Unwatch name = sym unwatch.unwatches ∙ is in
          let names : unwatch.name ≡ name = cc in
          its_own_name name.text listener other (ap (λ (name : Part). name.text) (sym names) ∙ unwatch.named)

      by_name : (its : Bool) → has_name name.text listener ≡ its → AllQ (filter (λ listener. not (has_name name.text listener)) listeners)
          → AllQ (filter (λ listener. not (has_name name.text listener)) (listener ∷ listeners))
      by_name true named rest =
          subst AllQ (sym (ap (λ (its : Bool). if not its then listener ∷ filter (λ listener. not (has_name name.text listener)) listeners
          else filter (λ listener. not (has_name name.text listener)) listeners) named)) rest
      by_name false named rest =
          subst AllQ (sym (ap (λ (its : Bool). if not its then listener ∷ filter (λ listener. not (has_name name.text listener)) listeners
          else filter (λ listener. not (has_name name.text listener)) listeners) named))
          (All-cons (λ (listener : Listener). Q listener.name listener.since) listener
          (filter (λ listener. not (has_name name.text listener)) listeners)
          (stays listener.name listener.since (All-head (λ (listener : Listener). P listener.name listener.since) listener listeners all)
          (apart named)) rest)

  pub line_ends : (deed : Act) (given : Answer) (rows : List Row) (listeners : List Listener) → one.line.act ≡ deed → one.answer ≡ given
      → AllP listeners → ((name : Part) → deed ≡ act.Watch name → given ≡ answer.Done → Q name.text rows)
      → AllQ (listeners_after deed given rows listeners)
  line_ends (act.Watch name) answer.Done rows listeners is given_is all newest =
      All-push (λ (listener : Listener). Q listener.name listener.since) listeners (record { name = name.text; since = rows; events = [] })
      (all_stay listeners (λ text. other_deed text one (act.Watch name) answer.Done is given_is (λ other wrong done same. cc)) all)
      (newest name refl refl)
  line_ends (act.Unwatch name) answer.Done rows listeners is given_is all newest = others_stay name is listeners all
  line_ends deed given rows listeners is given_is all newest =
      all_stay listeners (λ text. other_deed text one deed given is given_is (λ other wrong done same. cc)) all

-- A LINE THAT REGISTERS

-- a line that registers a watcher is one of a participant that is attached
pub was_attached : (line : _) (name : Part) (facts : Facts) (trace : List Done) → Leads (doing_of line (act.Watch name) facts) trace (Doing.Ended answer.Done)
    → facts.attached ≡ true
unfolding doing_of Leads Goes
was_attached line name facts trace leads = by_facts facts.attached leads
  where
    by_facts : (attached : Bool) → Leads (if_attached attached (Doing.Ended (watching facts.watchers name.text))) trace (Doing.Ended answer.Done)
        → attached ≡ true
    by_facts true leads = refl
    by_facts false leads = absurd (out trace leads)
      where
        out : (trace : List Done) → Leads (Doing.Ended answer.Detached) trace (Doing.Ended answer.Done) → ⊥
        out [] leads = cc
        out (done ∷ trace) leads = leads

-- and does nothing besides
pub watch_does_nothing : (line : _) (name : Part) (facts : Facts) (trace : List Done) (given : Answer)
    → Leads (doing_of line (act.Watch name) facts) trace (Doing.Ended given) → trace ≡ []
unfolding doing_of Leads Goes
watch_does_nothing line name facts trace given leads = by_facts facts.attached leads
  where
    by_trace : (answer : Answer) (trace : List Done) → Leads (Doing.Ended answer) trace (Doing.Ended given) → trace ≡ []
    by_trace answer [] leads = refl
    by_trace answer (done ∷ trace) leads = absurd leads

    by_facts : (attached : Bool) → Leads (if_attached attached (Doing.Ended (watching facts.watchers name.text))) trace (Doing.Ended given)
        → trace ≡ []
    by_facts true leads = by_trace (watching facts.watchers name.text) trace leads
    by_facts false leads = by_trace answer.Detached trace leads

-- a watcher that the last line registers, whose participant's table has taken in so many records
pub newly_registered : (who reached : ℕ) (opening : Standing) (log : List LogRecord) (asks : List AskLog) (courses : List Course) (one : Course)
    (name : Part) (rows : List Row) (number : ℕ) → one.line.act ≡ act.Watch name → one.answer ≡ answer.Done
    → Lags log number (length log) (table_in rows) → (standing_after opening courses).records ≤ number → number ≤ reached
    → ((entry : AskLog) (generation : ℕ) → Contains asks entry → granted_by entry.outcome ≡ Some generation → generation ≤ number)
    → ((entry : AskLog) → Contains asks entry → entry.from ≡ who → entry.number ≤ length (numbered_in (trace_of courses)))
    → IsRegisteredBy who reached opening log asks (courses ++ one ∷ []) name.text rows
newly_registered who reached opening log asks courses one name rows number watches answered lags records until granted few =
    let front : take (length courses) (courses ++ one ∷ []) ≡ courses =
    take-append-le (length courses) courses (one ∷ []) (omega arith) ∙ take_all (length courses) courses (omega arith) in
    record {
      place = length courses;
      course = one;
      name = name;
      there = get_behind courses one [];
      watches = watches;
      named = refl;
      answered = answered;
      still = λ later other behind here unwatch.
          let within = slice_get_within (courses ++ one ∷ []) later other here in
          absurd (omega (arith, behind, within, length-append courses (one ∷ [])));
      number = number;
      seen = length log;
      within = omega arith;
      lags = lags;
      since = subst (λ (first : List Course). (standing_after opening first).records ≤ number) (sym front) records;
      own = All-weaker (Contains asks) (HasTakenGrant who (length (numbered_in (trace_of (take (length courses) (courses ++ one ∷ []))))) number)
          (λ entry among from below. by_outcome entry among (granted_by entry.outcome) refl) asks (All-contains_itself asks);
      beyond = subst (λ (first : List Course). All (HasLaterGrant who (length (numbered_in (trace_of first))) (length log)) asks) (sym front)
          (All-weaker (Contains asks) (HasLaterGrant who (length (numbered_in (trace_of courses))) (length log))
          (λ entry among from above. absurd (over entry among from above)) asks (All-contains_itself asks));
      until = until;
    }
  where
    by_outcome : (entry : AskLog) → Contains asks entry → (given : Option ℕ) → granted_by entry.outcome ≡ given
        → IfSome given (λ generation. generation ≤ number)
    by_outcome entry among None given = tt
    by_outcome entry among (Some generation) given = granted entry generation among given

    over : (entry : AskLog) → Contains asks entry → entry.from ≡ who → length (numbered_in (trace_of courses)) < entry.number → ⊥
    over entry among from above =
        let below = few entry among from in
        omega (arith, above, below)
