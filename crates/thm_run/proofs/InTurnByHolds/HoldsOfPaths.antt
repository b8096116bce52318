-- Along a path on which a participant asks for nothing it does in its own holds what its trace says, and stays armed as it was.
use Rattle.std.proofs.Common.{◌≡◌, ◌∙◌, ℕ, ◌+◌, List, [], ◌∷◌, ◌++◌, length, map, None, Some, Option, Contains, refl, ap, sym, subst, append-nil, append_assoc, arith}
use Rattle.std.specs.List.{All}
use Rattle.std.specs.Prelude.{slice_index_or}
use Rattle.std.proofs.lemmas.List.{append_cancel_left}
use Rattle.std.proofs.lemmas.List.Elements.{All-head, All-tail, Contains-append_right}
use Rattle.hp_base.specs.declared.row.Run.{Run}
use Rattle.hp_core.specs.declared.event.CoreEvent.TheVariants.{SelfMapped}
use Rattle.hp_hall.specs.Mail.{MailStep, Notes}
use Rattle.hp_heap.proofs.AllocFacts.ChoiceLaw.{Contains-here, Contains-none}
use Rattle.hp_segs.specs.GrowthLaws.{HasArmedGrowth}
use Rattle.hp_segs.specs.LaterSteps.{after_withdraw}
use Rattle.hp_segs.specs.SegsView.{SegsView}
use Rattle.hp_serve.specs.Serving.{gives_segments}
use Rattle.hp_serve.specs.declared.pages_asked.PagesAsked.{PagesAsked}
use Rattle.hp_proc.specs.Courses.{numbered_in}
use Rattle.hp_proc.specs.Doing.{Done}
use Rattle.hp_proc.specs.Doing.Done.{Asked, Called, CaughtUp, ChunkMapped, GaveUp, HeapSeen, Looked, NamesChanged, NamesRead, RangePlanned, StatsRead}
use Rattle.hp_weave.specs.Holds.{Hold}
use Rattle.thm_run.proofs.SeatFacts.LogAlong.{core_logged}
use Rattle.thm_run.proofs.Following.{attaching_leaves, catching_leaves}
use Rattle.thm_run.proofs.Leaving.{claim_leaves, withdraw_leaves}
use Rattle.thm_run.proofs.PathSteps.Apart.{heap_skipped, mail_skipped, notes_skipped}
use Rattle.thm_run.specs.Apart.{holds_from}
use Rattle.thm_run.specs.OwnHolds.{DoesInHolds, StaysArmed}
use Rattle.thm_run.specs.Seats.{Handles, Mails, SeatTrace, Quietly, Seat, with_ranges}

-- HOLDS ALONG A PATH

-- the holds of steps that follow a path come after those of the path
pub holds_then : {count who : ℕ} {old new : Seat} {steps : List MailStep} (more : List MailStep) → SeatTrace count who old new steps
    → holds_from who None (steps ++ more) ≡ holds_from who None steps ++ holds_from who None more
holds_then more (SeatTrace.ends seat) = refl
holds_then more (SeatTrace.quietly old mid new steps did path) = holds_then more path
holds_then {count} {who} more (SeatTrace.holds old new step steps is path) =
    heap_skipped who None step (steps ++ more) is
    ∙ (holds_then more path
    ∙ ap (λ (holds : List (Hold SegsView)). holds ++ holds_from who None more) (sym (heap_skipped who None step steps is)))
holds_then {count} {who} more (SeatTrace.mails old mid new step steps did path) =
    mail_skipped (steps ++ more) did
    ∙ (holds_then more path
    ∙ ap (λ (holds : List (Hold SegsView)). holds ++ holds_from who None more) (sym (mail_skipped steps did)))
holds_then {count} {who} more (SeatTrace.handles old mid new taken given held steps did path) =
    let hold : Hold SegsView = record { who = who; taken = taken; given = given } in
    ap (holds_from who (Some taken)) (append_assoc (map Notes held) (gives_segments given ∷ steps) more)
    ∙ (notes_skipped who taken held (gives_segments given ∷ (steps ++ more))
    ∙ (ap (λ (holds : List (Hold SegsView)). hold ∷ holds) (holds_then more path)
    ∙ ap (λ (holds : List (Hold SegsView)). holds ++ holds_from who None more)
    (sym (notes_skipped who taken held (gives_segments given ∷ steps)))))

-- one trace done in holds after another
module _ (who next : ℕ) (rest : List Done) (late : List (Hold SegsView)) (further : DoesInHolds who next rest late) where
  pub does_then : {number : ℕ} {first : List Done} {early : List (Hold SegsView)} → DoesInHolds who number first early
      → next ≡ number + length (numbered_in first) → DoesInHolds who number (first ++ rest) (early ++ late)
  does_then (DoesInHolds.ends number) at = subst (λ (next : ℕ). DoesInHolds who next rest late) (omega (arith, at)) further
  does_then (DoesInHolds.passes number trace hold holds stays does) at =
      DoesInHolds.passes number (trace ++ rest) hold (holds ++ late) stays (does_then does at)
  does_then (DoesInHolds.looks number trace hold holds stays does) at =
      DoesInHolds.looks number (trace ++ rest) hold (holds ++ late) stays (does_then does at)
  does_then (DoesInHolds.asks number asked run trace arming between hearing holds is stays does) at =
      subst (DoesInHolds who number (Asked asked run ∷ (trace ++ rest)))
      (ap (λ (holds : List (Hold SegsView)). arming ∷ holds) (sym (append_assoc between (hearing ∷ holds) late)))
      (DoesInHolds.asks number asked run (trace ++ rest) arming between hearing (holds ++ late) is stays
      (does_then does (omega (arith, at))))
  does_then (DoesInHolds.gives_up number heap run trace holds does) at =
      DoesInHolds.gives_up number heap run (trace ++ rest) (holds ++ late) (does_then does (omega (arith, at)))
  does_then (DoesInHolds.calls number heap call answer trace holds does) at =
      DoesInHolds.calls number heap call answer (trace ++ rest) (holds ++ late) (does_then does at)
  does_then (DoesInHolds.reads_names number names trace holds does) at =
      DoesInHolds.reads_names number names (trace ++ rest) (holds ++ late) (does_then does at)
  does_then (DoesInHolds.reads_stats number heap counted trace holds does) at =
      DoesInHolds.reads_stats number heap counted (trace ++ rest) (holds ++ late) (does_then does at)
  does_then (DoesInHolds.changes_names number change trace holds does) at =
      DoesInHolds.changes_names number change (trace ++ rest) (holds ++ late) (does_then does at)
  does_then (DoesInHolds.sees_heap number heap history trace holds does) at =
      DoesInHolds.sees_heap number heap history (trace ++ rest) (holds ++ late) (does_then does at)
  does_then (DoesInHolds.plans_range number addr len page plan trace holds does) at =
      DoesInHolds.plans_range number addr len page plan (trace ++ rest) (holds ++ late) (does_then does at)
  does_then (DoesInHolds.maps_chunk number chunk ended trace holds does) at =
      DoesInHolds.maps_chunk number chunk ended (trace ++ rest) (holds ++ late) (does_then does at)
  does_then (DoesInHolds.catches_up number to caught trace holds does) at =
      DoesInHolds.catches_up number to caught (trace ++ rest) (holds ++ late) (does_then does at)

-- WHERE NOTHING IS ASKED

-- nothing was asked for
abbrev pub AsksNone : List Done → Type 0
AsksNone trace = (asked : PagesAsked) (run : Option Run) → Contains trace (Asked asked run) → ⊥

-- what a path adds to the trace, and that it is done in its holds where it asks for nothing
record IsDoneInHolds (who : ℕ) (old new : Seat) (holds : List (Hold SegsView)) : Type 0 where
  pub more : List Done
  pub trace : new.trace ≡ old.trace ++ more
  pub does : (number : ℕ) → AsksNone more → DoesInHolds who number more holds

pub none_at_all : AsksNone []
none_at_all asked run among = Contains-none (Asked asked run) among

-- the rest asks for nothing either
pub rest_none : (first rest : List Done) → AsksNone (first ++ rest) → AsksNone rest
rest_none first rest none asked run among = none asked run (Contains-append_right first rest (Asked asked run) among)

-- a piece that adds so much, and then a path
adds_then : (past first more last : List Done) → last ≡ (past ++ first) ++ more → last ≡ past ++ (first ++ more)
adds_then past first more last is = is ∙ append_assoc past first more

still : (seat : Seat) → seat.trace ≡ seat.trace ++ []
still seat = sym (append-nil seat.trace)

abbrev held_by : ℕ → SegsView → SegsView → Hold SegsView
held_by who taken given = record { who = who; taken = taken; given = given }

module _ (who : ℕ) where
  quietly_then : {old mid new : Seat} {holds : List (Hold SegsView)} → Quietly old mid → IsDoneInHolds who mid new holds
      → IsDoneInHolds who old new holds
  quietly_then (Quietly.hears seat answered) rest = record { more = rest.more; trace = rest.trace; does = rest.does }
  quietly_then (Quietly.counts seat sent) rest = record { more = rest.more; trace = rest.trace; does = rest.does }
  quietly_then (Quietly.calls seat heap call answer none) rest = record {
    more = Called heap call answer ∷ rest.more;
    trace = adds_then seat.trace (Called heap call answer ∷ []) rest.more _ rest.trace;
    does = λ number asks.
        DoesInHolds.calls number heap call answer rest.more _
        (rest.does number (rest_none (Called heap call answer ∷ []) rest.more asks));
  }
  quietly_then (Quietly.notes seat elements chunks) rest = record { more = rest.more; trace = rest.trace; does = rest.does }
  quietly_then (Quietly.reads_names seat names) rest = record {
    more = NamesRead names ∷ rest.more;
    trace = adds_then seat.trace (NamesRead names ∷ []) rest.more _ rest.trace;
    does = λ number asks.
        DoesInHolds.reads_names number names rest.more _
        (rest.does number (rest_none (NamesRead names ∷ []) rest.more asks));
  }
  quietly_then (Quietly.reads_stats seat heap counted) rest = record {
    more = StatsRead heap counted ∷ rest.more;
    trace = adds_then seat.trace (StatsRead heap counted ∷ []) rest.more _ rest.trace;
    does = λ number asks.
        DoesInHolds.reads_stats number heap counted rest.more _
        (rest.does number (rest_none (StatsRead heap counted ∷ []) rest.more asks));
  }
  quietly_then (Quietly.changes_names seat change) rest = record {
    more = NamesChanged change ∷ rest.more;
    trace = adds_then seat.trace (NamesChanged change ∷ []) rest.more _ rest.trace;
    does = λ number asks.
        DoesInHolds.changes_names number change rest.more _
        (rest.does number (rest_none (NamesChanged change ∷ []) rest.more asks));
  }
  quietly_then (Quietly.sees_heap seat heap history) rest = record {
    more = HeapSeen heap history ∷ rest.more;
    trace = adds_then seat.trace (HeapSeen heap history ∷ []) rest.more _ rest.trace;
    does = λ number asks.
        DoesInHolds.sees_heap number heap history rest.more _
        (rest.does number (rest_none (HeapSeen heap history ∷ []) rest.more asks));
  }
  quietly_then (Quietly.plans_range seat addr len page plan) rest = record {
    more = RangePlanned addr len page plan ∷ rest.more;
    trace = adds_then seat.trace (RangePlanned addr len page plan ∷ []) rest.more _ rest.trace;
    does = λ number asks.
        DoesInHolds.plans_range number addr len page plan rest.more _
        (rest.does number (rest_none (RangePlanned addr len page plan ∷ []) rest.more asks));
  }
  quietly_then (Quietly.maps_chunk seat chunk maps ended is) rest = record {
    more = ChunkMapped chunk ended ∷ rest.more;
    trace = adds_then seat.trace (ChunkMapped chunk ended ∷ []) rest.more _ rest.trace;
    does = λ number asks.
        DoesInHolds.maps_chunk number chunk ended rest.more _
        (rest.does number (rest_none (ChunkMapped chunk ended ∷ []) rest.more asks));
  }
  quietly_then (Quietly.leaves_chunk seat chunk maps is) rest = record { more = rest.more; trace = rest.trace; does = rest.does }
  quietly_then (Quietly.ends_line seat deed given) rest = record { more = rest.more; trace = rest.trace; does = rest.does }

  mails_then : {old mid new : Seat} {step : MailStep} {holds : List (Hold SegsView)} → Mails who old mid step
      → IsDoneInHolds who mid new holds → IsDoneInHolds who old new holds
  mails_then (Mails.notes seat note) rest = rest
  mails_then (Mails.finds_nothing seat) rest = rest
  mails_then (Mails.fetches seat frame) rest = record { more = rest.more; trace = rest.trace; does = rest.does }
  mails_then (Mails.asks seat ask frame action posted its says) rest = rest
  mails_then (Mails.tells seat heap run frame action posted says) rest = record {
    more = GaveUp heap run ∷ rest.more;
    trace = adds_then seat.trace (GaveUp heap run ∷ []) rest.more _ rest.trace;
    does = λ number asks.
        DoesInHolds.gives_up number heap run rest.more _
        (rest.does (number + 1) (rest_none (GaveUp heap run ∷ []) rest.more asks));
  }
  mails_then (Mails.speaks seat to frame body action posted nothing says) rest = rest

  -- a hold that leaves the participant armed as it was
  passes_then : {old mid new : Seat} {holds : List (Hold SegsView)} (taken given : SegsView) → mid.trace ≡ old.trace
      → StaysArmed who (held_by who taken given) → IsDoneInHolds who mid new holds
      → IsDoneInHolds who old new (held_by who taken given ∷ holds)
  passes_then {old} {mid} {new} {holds} taken given same stays rest = record {
    more = rest.more;
    trace = rest.trace ∙ ap (λ (trace : List Done). trace ++ rest.more) same;
    does = λ number asks. DoesInHolds.passes number rest.more (held_by who taken given) holds stays (rest.does number asks);
  }

  handles_then : {count : ℕ} {old mid new : Seat} {taken given : SegsView} {holds : List (Hold SegsView)} → Handles count who old mid taken given
      → HasArmedGrowth taken → IsDoneInHolds who mid new holds → IsDoneInHolds who old new (held_by who taken given ∷ holds)
  handles_then (Handles.looks seat segs) growth rest = passes_then segs segs refl refl rest
  handles_then (Handles.moves_ranges seat segs ranges moves) growth rest = passes_then segs (with_ranges ranges segs) refl refl rest
  handles_then (Handles.steps seat segs event core zero its knows denied may) growth rest =
      passes_then segs _ refl (ap (λ armed. slice_index_or armed who None) (core_logged denied event core segs growth).armed) rest
  handles_then (Handles.maps seat segs caught table now core zero its up) growth rest =
      passes_then segs _ refl (ap (λ armed. slice_index_or armed who None) (core_logged None (SelfMapped caught now) core segs growth).armed) rest
  handles_then (Handles.follows seat segs caught table member up) growth rest =
      passes_then segs _ refl (ap (λ armed. slice_index_or armed who None) (catching_leaves who caught segs).armed) rest
  handles_then (Handles.arms seat segs asked run number is) growth rest = record {
    more = Asked asked run ∷ rest.more;
    trace = adds_then seat.trace (Asked asked run ∷ []) rest.more _ rest.trace;
    does = λ number asks. absurd (asks asked run (Contains-here (Asked asked run) rest.more));
  }
  handles_then (Handles.claims seat segs) growth rest =
      passes_then segs _ refl (ap (λ armed. slice_index_or armed who None) (claim_leaves who seat.party.asked segs).armed) rest
  handles_then (Handles.settles seat segs since now late) growth rest =
      let mid = after_withdraw who seat.party.asked since now segs in
      passes_then segs _ refl
      (ap (λ armed. slice_index_or armed who None)
      ((claim_leaves who seat.party.asked mid).armed ∙ (withdraw_leaves segs who seat.party.asked since now).armed)) rest
  handles_then (Handles.cuts seat segs heap addr run) growth rest =
      let cut : Done = Called heap _ _ in
      record {
        more = cut ∷ rest.more;
        trace = adds_then seat.trace (cut ∷ []) rest.more _ rest.trace;
        does = λ number asks.
            DoesInHolds.passes number (cut ∷ rest.more) (held_by who segs _) _ refl
            (DoesInHolds.calls number heap _ _ rest.more _ (rest.does number (rest_none (cut ∷ []) rest.more asks)));
      }
  handles_then (Handles.attaches seat segs caught after tried) growth rest =
      let looked : List Done = Looked (length segs.log) ∷ CaughtUp (length segs.log) caught ∷ [] in
      record {
        more = Looked (length segs.log) ∷ CaughtUp (length segs.log) caught ∷ rest.more;
        trace = adds_then seat.trace looked rest.more _ rest.trace;
        does = λ number asks.
            DoesInHolds.looks number (CaughtUp (length segs.log) caught ∷ rest.more) (held_by who segs _) _
            (ap (λ armed. slice_index_or armed who None) (attaching_leaves who caught segs).armed)
            (DoesInHolds.catches_up number (length segs.log) caught rest.more _ (rest.does number (rest_none looked rest.more asks)));
      }
  handles_then (Handles.detaches seat segs told secondary none heard) growth rest = passes_then segs _ refl refl rest

  -- along a path
  done_along : {count : ℕ} {old new : Seat} {steps : List MailStep} → SeatTrace count who old new steps
      → All (λ (hold : Hold SegsView). HasArmedGrowth hold.taken) (holds_from who None steps)
      → IsDoneInHolds who old new (holds_from who None steps)
  done_along (SeatTrace.ends seat) armed = record { more = []; trace = still seat; does = λ number asks. DoesInHolds.ends number }
  done_along (SeatTrace.quietly old mid new steps did path) armed = quietly_then did (done_along path armed)
  done_along (SeatTrace.holds old new step steps is path) armed =
      let skipped = heap_skipped who None step steps is in
      subst (IsDoneInHolds who old new) (sym skipped)
      (done_along path (subst (All (λ (hold : Hold SegsView). HasArmedGrowth hold.taken)) skipped armed))
  done_along (SeatTrace.mails old mid new step steps did path) armed =
      let skipped = mail_skipped steps did in
      subst (IsDoneInHolds who old new) (sym skipped)
      (mails_then did (done_along path (subst (All (λ (hold : Hold SegsView). HasArmedGrowth hold.taken)) skipped armed)))
  done_along (SeatTrace.handles old mid new taken given held steps did path) armed =
      let skipped = notes_skipped who taken held (gives_segments given ∷ steps) in
      let all = subst (All (λ (hold : Hold SegsView). HasArmedGrowth hold.taken)) skipped armed in
      let hold : Hold SegsView = held_by who taken given in
      subst (IsDoneInHolds who old new) (sym skipped)
      (handles_then did (All-head (λ (hold : Hold SegsView). HasArmedGrowth hold.taken) hold (holds_from who None steps) all)
      (done_along path (All-tail (λ (hold : Hold SegsView). HasArmedGrowth hold.taken) hold (holds_from who None steps) all)))

-- what a path adds to a trace is done in its holds, where it asks for nothing
pub done_in_holds : {count who : ℕ} {old new : Seat} {steps : List MailStep} (more : List Done) (number : ℕ) → SeatTrace count who old new steps
    → All (λ (hold : Hold SegsView). HasArmedGrowth hold.taken) (holds_from who None steps) → new.trace ≡ old.trace ++ more → AsksNone more
    → DoesInHolds who number more (holds_from who None steps)
done_in_holds {count} {who} {old} {new} {steps} more number path armed is none =
    let along = done_along who path armed in
    let same : along.more ≡ more = append_cancel_left old.trace along.more more (sym along.trace ∙ is) in
    subst (λ (more : List Done). DoesInHolds who number more (holds_from who None steps)) same
    (along.does number (subst AsksNone (sym same) none))
