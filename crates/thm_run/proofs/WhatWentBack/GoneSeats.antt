-- Where one participant did more, what each has cut since there were so many records is still Retiring or was dropped, and so is what it cut
-- then.
use Rattle.std.proofs.Common.{◌≡◌, ◌≢◌, ℕ, List, [], ◌∷◌, ◌++◌, length, Option, Some, inl, inr, refl, ap, ◌∙◌, sym, subst, append-nil, append_assoc, ⊎_elim, arith}
use Rattle.std.specs.Prelude.{Contains, slice_get, slice_set}
use Rattle.std.proofs.lemmas.Bool.{cases_eq}
use Rattle.std.proofs.lemmas.List.Elements.{Contains-append_cases, Contains-push_cases}
use Rattle.hp_base.specs.declared.caught.Caught.{Caught}
use Rattle.hp_base.specs.declared.row.Run.{Run}
use Rattle.hp_hall.specs.Mail.{MailStep}
use Rattle.hp_heap.specs.declared.entry.HeapAnswer.{HeapAnswer}
use Rattle.hp_heap.specs.declared.entry.HeapAnswer.TheVariants as gives
use Rattle.hp_heap.specs.declared.entry.HeapCall.TheVariants as call
use Rattle.hp_segs.specs.LaterSteps.{after_arm}
use Rattle.hp_segs.specs.SegsView.{SegsView}
use Rattle.hp_segs.specs.Steps.{after_retire}
use Rattle.hp_serve.specs.Attaching.{after_attaching}
use Rattle.hp_proc.specs.Courses.{numbered_in}
use Rattle.hp_proc.specs.Doing.{Done}
use Rattle.hp_proc.specs.Doing.Done.{Asked, Called, CaughtUp, ChunkMapped, GaveUp, HeapSeen, Looked, NamesChanged, NamesRead, RangePlanned, StatsRead}
use Rattle.hp_heap.specs.HistoryLaws.{run_cut}
use Rattle.hp_serve.specs.Asking.{ask_of}
use Rattle.hp_serve.specs.declared.pages_asked.PagesAsked.{PagesAsked}
use Rattle.thm_run.specs.Seats.{Handles, Mails, Quietly, Seat}
use Rattle.thm_run.proofs.WhatWentBack.CutFirst.{cuts_split}
use Rattle.thm_run.proofs.WhatWentBack.Gone.{IsGoing, freed_later, inserted}
use Rattle.thm_run.proofs.WhatWentBack.GoneLogged.{AreCutSince, AreGoing, AreGone, IsGoingSince}
use Rattle.thm_run.proofs.TracesTold.Numbers.{numbers_later, numbers_of, trace_in}
use Rattle.thm_run.proofs.SeatFacts.Seating.{its_seat, other_seat}

-- each run that was cut by what was done is Retiring or was dropped
module _ (base : ℕ) (segs : SegsView) where
  no_call : (done : Done) (rest : List Done)
      → ((heap addr : ℕ) (run : Run) → done ≡ Called heap (call.Cut addr) (gives.Pages run) → IsGoing base segs run)
      → AreGoing base rest segs → AreGoing base (done ∷ rest) segs
  no_call done rest first behind heap addr run among =
      elim (Contains-append_cases (done ∷ []) rest (Called heap (call.Cut addr) (gives.Pages run)) among) [
        | inl here ↦ first heap addr run (only done (Called heap (call.Cut addr) (gives.Pages run)) here)
        | inr later ↦ behind heap addr run later
      ]
    where
      only : (done other : Done) → Contains (done ∷ []) other → done ≡ other
      only done other among =
          elim (Contains-push_cases [] done other among) [
            | inl none ↦ absurd (omega (arith, none.1))
            | inr same ↦ same
          ]

  pub none_going : AreGoing base [] segs
  none_going heap addr run among = absurd (omega (arith, among.1))

  -- an ask, a notice and an attaching cut nothing
  asked_going : (asked : PagesAsked) (run : Option Run) → AreGoing base (Asked asked run ∷ []) segs
  asked_going asked run = no_call (Asked asked run) [] (λ heap addr its same. cc) none_going

  told_going : (heap : ℕ) (run : Run) → AreGoing base (GaveUp heap run ∷ []) segs
  told_going heap run = no_call (GaveUp heap run) [] (λ its_heap addr its same. cc) none_going

  attached_going : (records : ℕ) (caught : Caught) → AreGoing base (Looked records ∷ CaughtUp records caught ∷ []) segs
  attached_going records caught =
      no_call (Looked records) (CaughtUp records caught ∷ []) (λ heap addr its same. cc)
      (no_call (CaughtUp records caught) [] (λ heap addr its same. cc) none_going)

-- one participant did more, which leaves what each did since its past trace
module _ (seats : List Seat) (by : ℕ) (old new : Seat) (there : slice_get seats by ≡ Some old) (more : List Done)
    (trace : new.trace ≡ old.trace ++ more) where
  abbrev behind : List Seat
  behind = slice_set seats by new

  its_trace : trace_in (slice_get behind by) ≡ trace_in (slice_get seats by) ++ more
  its_trace = ap trace_in (its_seat seats by old new there) ∙ trace ∙ ap (λ seat. trace_in seat ++ more) (sym there)

  other_trace : (other : ℕ) → other ≢ by → trace_in (slice_get behind other) ≡ trace_in (slice_get seats other)
  other_trace other beside = ap trace_in (other_seat seats by old new there other beside)

  module _ (who : ℕ) (past : List Done) where
    own_more : (did : List Done) → who ≡ by → trace_in (slice_get seats who) ≡ past ++ did
        → trace_in (slice_get behind who) ≡ past ++ (did ++ more)
    own_more did same is =
        ap (λ (who : ℕ). trace_in (slice_get behind who)) same
        ∙ (its_trace
        ∙ (ap (λ (who : ℕ). trace_in (slice_get seats who) ++ more) (sym same)
        ∙ (ap (λ (dones : List Done). dones ++ more) is ∙ append_assoc past did more)))

    -- whoever gives up what it has cut did so before
    pub cut_before : AreCutSince past (trace_in (slice_get behind who)) → AreCutSince past (trace_in (slice_get seats who))
    cut_before cut did is =
        ⊎_elim
        (λ (same : who ≡ by). (cuts_split [] did more (cut (did ++ more) (own_more did same is))).front)
        (λ (beside : who ≢ by). cut did (other_trace who beside ∙ is))
        (cases_eq who by)

    -- what was cut goes on
    module _ (base : ℕ) (segs : SegsView) (going : AreGoing base more segs) (was : AreGone who base past seats segs) where
      own_going : who ≡ by → IsGoingSince base past (trace_in (slice_get behind who)) segs
      own_going same = record {
        more = was.since.more ++ more;
        is = own_more was.since.more same was.since.is;
        going = λ heap addr run among.
            elim (Contains-append_cases was.since.more more (Called heap (call.Cut addr) (gives.Pages run)) among) [
              | inl before ↦ was.since.going heap addr run before
              | inr now ↦ going heap addr run now
            ];
      }

      pub gone_seated : AreGone who base past behind segs
      gone_seated = record {
        low = was.low;
        since =
            ⊎_elim
            (λ (same : who ≡ by). own_going same)
            (λ (beside : who ≢ by). subst (λ (dones : List Done). IsGoingSince base past dones segs) (sym (other_trace who beside)) was.since)
            (cases_eq who by);
        freed = freed_later who (length (numbered_in past)) base (numbers_of seats) (numbers_of behind) segs.log segs.log segs.asks
            (numbers_later seats by old new there more trace) (record { more = []; is = sym (append-nil segs.log) }) was.freed;
      }

-- it did that, and each run that it cut is Retiring or was dropped
pub record DoesGoing (base : ℕ) (old new : Seat) (segs : SegsView) : Type 0 where
  pub more : List Done
  pub trace : new.trace ≡ old.trace ++ more
  pub going : AreGoing base more segs

rests : (base : ℕ) (old new : Seat) (segs : SegsView) → new.trace ≡ old.trace → DoesGoing base old new segs
rests base old new segs same = record { more = []; trace = same ∙ sym (append-nil old.trace); going = none_going base segs }

no_run : (answer : HeapAnswer) (run : Run) → run_cut answer ≡ [] → answer ≡ gives.Pages run → ⊥
no_run answer run uncut is =
    let wrong : run ∷ [] ≡ [] = sym (ap run_cut is) ∙ uncut in
    cc

pub quietly_going : {old new : Seat} (base : ℕ) (segs : SegsView) → Quietly old new → DoesGoing base old new segs
quietly_going base segs (Quietly.hears seat answered) = rests base seat _ segs refl
quietly_going base segs (Quietly.counts seat sent) = rests base seat _ segs refl
quietly_going base segs (Quietly.calls seat heap made answer none) = record {
  more = Called heap made answer ∷ [];
  trace = refl;
  going = no_call base segs (Called heap made answer) []
      (λ its_heap addr run same.
      let its : answer ≡ gives.Pages run = cc in
      absurd (no_run answer run none its))
      (none_going base segs);
}
quietly_going base segs (Quietly.notes seat elements chunks) = rests base seat _ segs refl
quietly_going base segs (Quietly.reads_names seat names) = record {
  more = NamesRead names ∷ [];
  trace = refl;
  going = no_call base segs (NamesRead names) []
      (λ its_heap addr run same. cc)
      (none_going base segs);
}
quietly_going base segs (Quietly.reads_stats seat heap counted) = record {
  more = StatsRead heap counted ∷ [];
  trace = refl;
  going = no_call base segs (StatsRead heap counted) []
      (λ its_heap addr run same. cc)
      (none_going base segs);
}
quietly_going base segs (Quietly.changes_names seat change) = record {
  more = NamesChanged change ∷ [];
  trace = refl;
  going = no_call base segs (NamesChanged change) []
      (λ its_heap addr run same. cc)
      (none_going base segs);
}
quietly_going base segs (Quietly.sees_heap seat heap history) = record {
  more = HeapSeen heap history ∷ [];
  trace = refl;
  going = no_call base segs (HeapSeen heap history) []
      (λ its_heap addr run same. cc)
      (none_going base segs);
}
quietly_going base segs (Quietly.plans_range seat addr len page plan) = record {
  more = RangePlanned addr len page plan ∷ [];
  trace = refl;
  going = no_call base segs (RangePlanned addr len page plan) []
      (λ its_heap addr run same. cc)
      (none_going base segs);
}
quietly_going base segs (Quietly.maps_chunk seat chunk maps ended is) = record {
  more = ChunkMapped chunk ended ∷ [];
  trace = refl;
  going = no_call base segs (ChunkMapped chunk ended) []
      (λ its_heap addr run same. cc)
      (none_going base segs);
}
quietly_going base segs (Quietly.leaves_chunk seat chunk maps is) = rests base seat _ segs refl
quietly_going base segs (Quietly.ends_line seat deed given) = rests base seat _ segs refl

pub mails_going : {who : ℕ} {old new : Seat} {step : MailStep} (base : ℕ) (segs : SegsView) → Mails who old new step
    → DoesGoing base old new segs
mails_going base segs (Mails.notes seat note) = rests base seat seat segs refl
mails_going base segs (Mails.finds_nothing seat) = rests base seat seat segs refl
mails_going base segs (Mails.fetches seat frame) = rests base seat _ segs refl
mails_going base segs (Mails.asks seat ask frame action posted its says) = rests base seat seat segs refl
mails_going base segs (Mails.tells seat heap run frame action posted says) =
    record { more = GaveUp heap run ∷ []; trace = refl; going = told_going base segs heap run }
mails_going base segs (Mails.speaks seat to frame body action posted nothing says) = rests base seat seat segs refl

-- what it did with the segment value in its hand
pub handles_going : {count who : ℕ} {old new : Seat} {taken given : SegsView} (base : ℕ)
    → Handles count who old new taken given → DoesGoing base old new given
handles_going base (Handles.looks seat segs) = rests base seat seat segs refl
handles_going base (Handles.moves_ranges seat segs ranges moves) = rests base seat seat _ refl
handles_going base (Handles.steps seat segs event core is its knows denied may) = rests base seat _ _ refl
handles_going base (Handles.maps seat segs caught table now core is its caught_up) = rests base seat _ _ refl
handles_going base (Handles.follows seat segs caught table member caught_up) = rests base seat _ _ refl
handles_going {who = who} base (Handles.arms seat segs asked run number is) =
    record { more = Asked asked run ∷ []; trace = refl; going = asked_going base (after_arm (ask_of who number asked) segs) asked run }
handles_going base (Handles.claims seat segs) = rests base seat seat _ refl
handles_going base (Handles.settles seat segs since now late) = rests base seat seat _ refl
handles_going base (Handles.cuts seat segs heap addr run) = record {
  more = Called heap (call.Cut addr) (gives.Pages run) ∷ [];
  trace = refl;
  going = no_call base (after_retire heap run segs) (Called heap (call.Cut addr) (gives.Pages run)) []
      (λ its_heap its_addr its same.
      let runs : run ≡ its = cc in
      inl (inserted run its segs.retiring (inl runs)))
      (none_going base (after_retire heap run segs));
}
handles_going {who = who} base (Handles.attaches seat segs caught after tried) =
    record {
      more = Looked (length segs.log) ∷ CaughtUp (length segs.log) caught ∷ [];
      trace = refl;
      going = attached_going base (after_attaching who caught segs) (length segs.log) caught;
    }
handles_going base (Handles.detaches seat segs told secondary none heard) = rests base seat _ _ refl
