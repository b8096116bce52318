-- What a step shows of mappings that failed: each is of a row of the log or of a chunk, by a call of its participant's mapper at which that may
-- fail.
use Rattle.std.proofs.Common.{◌≡◌, ◌∙◌, ℕ, ◌<◌, ◌≤◌, true, List, [], ◌∷◌, ◌++◌, length, Option, refl, ap, sym, subst, arith, append-nil}
use Rattle.std.specs.List.{All}
use Rattle.std.specs.List.Sorted.{IsStrictlyIncreasing}
use Rattle.std.proofs.lemmas.List.Elements.{All-append, All-cons, All-nil, All-push, All-weaker}
use Rattle.hp_base.specs.Mapping.{FailingCall, may_fail_at}
use Rattle.hp_base.specs.declared.caught.Caught.{Caught}
use Rattle.hp_base.specs.declared.chunk.Chunk.{Chunk}
use Rattle.hp_base.specs.declared.caught.Caught.TheVariants as caught
use Rattle.hp_base.specs.declared.map_answer.MapAnswer.{MapAnswer}
use Rattle.hp_hall.specs.Mail.{MailStep}
use Rattle.hp_log.specs.declared.log_record.LogRecord.{LogRecord}
use Rattle.hp_maps.specs.Chunks.{rows_of_chunk}
use Rattle.hp_maps.specs.MapsView.{MapsView}
use Rattle.hp_segs.specs.SegsView.{SegsView}
use Rattle.hp_serve.specs.Attaching.{Attaches, table_left}
use Rattle.hp_proc.specs.Courses.{call_refused}
use Rattle.hp_proc.specs.Doing.{Done}
use Rattle.hp_proc.specs.MappedChunks.{MapsChunk}
use Rattle.hp_proc.specs.Doing.Done.{Asked, Called, CaughtUp, ChunkMapped, GaveUp, HeapSeen, Looked, NamesChanged, NamesRead, RangePlanned, StatsRead}
use Rattle.hp_proc.specs.Handed.{calls_failed}
use Rattle.hp_serve.specs.Party.{Party}
use Rattle.hp_serve.specs.Serving.{CatchesUp}
use Rattle.thm_run.specs.Seats.{Handles, Mails, Quietly, Seat}
use Rattle.thm_run.proofs.FailuresNamed.RefusedCalls.{BringsCalls, IsOfLog, brings_calls, brings_longer, chunk_row, catching_brings, catching_longer, catching_row, none, one, refusals_both, rising_push}

-- a call that was refused is one that the mapper made, at which it may fail
pub record IsRefusedCall (maps : MapsView) (call : ℕ) : Type 0 where
  pub some : 0 < call
  pub made : call ≤ length maps.answers
  pub may : may_fail_at maps.may_fail call ≡ true

-- what a seat shows of its attaches, by the log
pub record IsAttachedSo (log : List LogRecord) (seat : Seat) : Type 0 where
  pub done : All (IsOfLog log) seat.trace
  pub calls : All (IsRefusedCall seat.party.maps) (calls_failed seat.trace)
  pub rising : IsStrictlyIncreasing (calls_failed seat.trace)

-- what is done more at a seat, by the log that it found
pub record DoesMore (log : List LogRecord) (old new : Seat) : Type 0 where
  pub more : List Done
  pub trace : new.trace ≡ old.trace ++ more
  pub its : All (IsOfLog log) more
  pub may_fail : new.party.maps.may_fail ≡ old.party.maps.may_fail
  pub longer : length old.party.maps.answers ≤ length new.party.maps.answers
  pub calls : BringsCalls old.party.maps.answers new.party.maps.answers old.party.maps.may_fail (calls_failed more)

-- where the mapper made no fewer calls, what was refused still is such a call
call_stays : (old new : MapsView) → length old.answers ≤ length new.answers → new.may_fail ≡ old.may_fail → (call : ℕ)
    → IsRefusedCall old call → IsRefusedCall new call
call_stays old new longer same call is = record {
  some = is.some;
  made = omega (arith, longer, is.made);
  may = subst (λ (may_fail : Option (List FailingCall)). may_fail_at may_fail call ≡ true) (sym same) is.may;
}

module _ (log : List LogRecord) (old new : Seat) (was : IsAttachedSo log old) (did : DoesMore log old new) where
  both : calls_failed new.trace ≡ calls_failed old.trace ++ calls_failed did.more
  both = ap calls_failed did.trace ∙ refusals_both old.trace did.more

  stay : All (IsRefusedCall new.party.maps) (calls_failed old.trace)
  stay =
      All-weaker (IsRefusedCall old.party.maps) (IsRefusedCall new.party.maps)
      (call_stays old.party.maps new.party.maps did.longer did.may_fail) (calls_failed old.trace) was.calls

  calls_on : (calls : List ℕ) → BringsCalls old.party.maps.answers new.party.maps.answers old.party.maps.may_fail calls
      → All (IsRefusedCall new.party.maps) (calls_failed old.trace ++ calls) × IsStrictlyIncreasing (calls_failed old.trace ++ calls)
  calls_on calls (none is longer) =
      let same : calls_failed old.trace ≡ calls_failed old.trace ++ calls =
      sym (ap (λ calls. calls_failed old.trace ++ calls) is ∙ append-nil (calls_failed old.trace)) in
      (subst (All (IsRefusedCall new.party.maps)) same stay, subst IsStrictlyIncreasing same was.rising)
  calls_on calls (one call is more last may) =
      let same : calls_failed old.trace ++ call ∷ [] ≡ calls_failed old.trace ++ calls =
      ap (λ calls. calls_failed old.trace ++ calls) (sym is) in
      let its : IsRefusedCall new.party.maps call = record {
        some = omega (arith, more);
        made = omega (arith, last);
        may = subst (λ (may_fail : Option (List FailingCall)). may_fail_at may_fail call ≡ true) (sym did.may_fail) may;
      } in
      let below : All (λ n. n ≤ length old.party.maps.answers) (calls_failed old.trace) =
      All-weaker (IsRefusedCall old.party.maps) (λ n. n ≤ length old.party.maps.answers) (λ n is. is.made) (calls_failed old.trace)
      was.calls in (
        subst (All (IsRefusedCall new.party.maps)) same
            (All-push (IsRefusedCall new.party.maps) (calls_failed old.trace) call stay its),
        subst IsStrictlyIncreasing same
            (rising_push (calls_failed old.trace) (length old.party.maps.answers) call was.rising below more),
      )

  pub attached_on : IsAttachedSo log new
  attached_on =
      let on = calls_on (calls_failed did.more) did.calls in
      record {
        done = subst (All (IsOfLog log)) (sym did.trace) (All-append (IsOfLog log) old.trace did.more was.done did.its);
        calls = subst (All (IsRefusedCall new.party.maps)) (sym both) on.0;
        rising = subst IsStrictlyIncreasing (sym both) on.1;
      }

-- nothing is done, or a thing that is neither a look nor a catching up, and the table stays
did_none : (log : List LogRecord) (old new : Seat) → new.trace ≡ old.trace → new.party.maps.may_fail ≡ old.party.maps.may_fail
    → new.party.maps.answers ≡ old.party.maps.answers → DoesMore log old new
did_none log old new trace may_fail answers = record {
  more = [];
  trace = trace ∙ sym (append-nil old.trace);
  its = All-nil (IsOfLog log);
  may_fail = may_fail;
  longer = omega (arith, ap length answers);
  calls = none refl (omega (arith, ap length answers));
}

did_one : (log : List LogRecord) (old new : Seat) (done : Done) → new.trace ≡ old.trace ++ done ∷ []
    → new.party.maps ≡ old.party.maps → IsOfLog log done → calls_failed (done ∷ []) ≡ [] → DoesMore log old new
did_one log old new done trace maps its nothing = record {
  more = done ∷ [];
  trace = trace;
  its = All-cons (IsOfLog log) done [] its (All-nil (IsOfLog log));
  may_fail = ap (λ (maps : MapsView). maps.may_fail) maps;
  longer = omega (arith, ap (λ (maps : MapsView). length maps.answers) maps);
  calls = none nothing (omega (arith, ap (λ (maps : MapsView). length maps.answers) maps));
}

-- the pages of a chunk were mapped, or a mapping of them failed
chunk_more : (log : List LogRecord) (seat new : Seat) (chunk : Chunk) (maps : MapsView) (ended : Caught)
    → MapsChunk chunk seat.party.maps maps ended → new.trace ≡ seat.trace ++ ChunkMapped chunk ended ∷ [] → new.party.maps ≡ maps
    → DoesMore log seat new
chunk_more log seat new chunk maps ended is trace its =
    let brings : BringsCalls seat.party.maps.answers new.party.maps.answers seat.party.maps.may_fail (call_refused ended) =
    subst (λ (maps : MapsView). BringsCalls seat.party.maps.answers maps.answers seat.party.maps.may_fail (call_refused ended)) (sym its)
    (brings_calls (rows_of_chunk chunk) seat.party.maps.answers maps.answers seat.party.maps.may_fail ended is.answered is.reason) in
    record {
      more = ChunkMapped chunk ended ∷ [];
      trace = trace;
      its = All-cons (IsOfLog log) (ChunkMapped chunk ended) [] (chunk_row chunk seat.party.maps.answers maps.answers ended is.answered)
          (All-nil (IsOfLog log));
      may_fail = ap (λ (maps : MapsView). maps.may_fail) its ∙ is.others.may_fail;
      longer = brings_longer seat.party.maps.answers new.party.maps.answers seat.party.maps.may_fail (call_refused ended) brings;
      calls =
          subst
          (λ (calls : List ℕ). BringsCalls seat.party.maps.answers new.party.maps.answers seat.party.maps.may_fail calls)
          (sym (append-nil (call_refused ended))) brings;
    }

pub quietly_more : {old new : Seat} → (log : List LogRecord) → Quietly old new → DoesMore log old new
quietly_more log (Quietly.hears seat answered) =
    did_none log seat _ refl refl refl
quietly_more log (Quietly.counts seat sent) =
    did_none log seat _ refl refl refl
quietly_more log (Quietly.calls seat heap call answer nothing) = did_one log seat _ (Called heap call answer) refl refl tt refl
quietly_more log (Quietly.notes seat elements chunks) =
    did_none log seat _ refl refl refl
quietly_more log (Quietly.reads_names seat names) = did_one log seat _ (NamesRead names) refl refl tt refl
quietly_more log (Quietly.reads_stats seat heap counted) = did_one log seat _ (StatsRead heap counted) refl refl tt refl
quietly_more log (Quietly.changes_names seat change) = did_one log seat _ (NamesChanged change) refl refl tt refl
quietly_more log (Quietly.sees_heap seat heap history) = did_one log seat _ (HeapSeen heap history) refl refl tt refl
quietly_more log (Quietly.plans_range seat addr len page plan) = did_one log seat _ (RangePlanned addr len page plan) refl refl tt refl
quietly_more log (Quietly.maps_chunk seat chunk maps ended is) = chunk_more log seat _ chunk maps ended is refl refl
quietly_more log (Quietly.leaves_chunk seat chunk maps is) = did_none log seat _ refl is.others.may_fail is.answers
quietly_more log (Quietly.ends_line seat deed given) =
    did_none log seat _ refl refl refl

pub mails_more : {who : ℕ} {old new : Seat} {step : MailStep} → (log : List LogRecord) → Mails who old new step → DoesMore log old new
mails_more log (Mails.notes seat note) = did_none log seat seat refl refl refl
mails_more log (Mails.finds_nothing seat) = did_none log seat seat refl refl refl
mails_more log (Mails.fetches seat frame) =
    did_none log seat _ refl refl refl
mails_more log (Mails.asks seat ask frame action posted its says) = did_none log seat seat refl refl refl
mails_more log (Mails.tells seat heap run frame action posted says) = did_one log seat _ (GaveUp heap run) refl refl tt refl
mails_more log (Mails.speaks seat to frame body action posted nothing says) = did_none log seat seat refl refl refl

-- a catching up, that is no line's
catching_more : (log : List LogRecord) (seat new : Seat) (ended : Caught) (table : MapsView) → CatchesUp log seat.party.maps table ended
    → new.trace ≡ seat.trace → new.party.maps ≡ table → DoesMore log seat new
catching_more log seat new ended table caught_up trace maps =
    let longer : length seat.party.maps.answers ≤ length new.party.maps.answers =
    omega (arith, ap (λ (maps : MapsView). length maps.answers) maps, catching_longer log seat.party.maps table ended caught_up) in
    record {
      more = [];
      trace = trace ∙ sym (append-nil seat.trace);
      its = All-nil (IsOfLog log);
      may_fail = ap (λ (maps : MapsView). maps.may_fail) maps ∙ caught_up.stays;
      longer = longer;
      calls = none refl longer;
    }

-- what is left of a table has its calls
left_answers : (ended : Caught) (maps : MapsView) → (table_left ended maps).answers ≡ maps.answers
left_answers caught.Done maps = refl
left_answers (caught.Refused row call) maps = refl
left_answers (caught.Elsewhere row call got) maps = refl

left_may_fail : (ended : Caught) (maps : MapsView) → (table_left ended maps).may_fail ≡ maps.may_fail
left_may_fail caught.Done maps = refl
left_may_fail (caught.Refused row call) maps = refl
left_may_fail (caught.Elsewhere row call got) maps = refl

-- an attach
attaching_more : (log : List LogRecord) (seat new : Seat) (ended : Caught) (after : Party) → Attaches seat.party after log ended
    → new.trace ≡ seat.trace ++ Looked (length log) ∷ CaughtUp (length log) ended ∷ [] → new.party.maps ≡ after.maps → DoesMore log seat new
attaching_more log seat new ended after tried trace its =
    let maps : new.party.maps ≡ table_left ended tried.maps =
    its ∙ ap (λ (party : Party). party.maps) tried.after_is in
    let answers : new.party.maps.answers ≡ tried.maps.answers =
    ap (λ (maps : MapsView). maps.answers) maps ∙ left_answers ended tried.maps in
    record {
      more = Looked (length log) ∷ CaughtUp (length log) ended ∷ [];
      trace = trace;
      its = All-cons (IsOfLog log) (Looked (length log)) (CaughtUp (length log) ended ∷ []) (omega arith)
          (All-cons (IsOfLog log) (CaughtUp (length log) ended) []
          (omega arith, catching_row log seat.party.maps tried.maps ended tried.caught_up) (All-nil (IsOfLog log)));
      may_fail = ap (λ (maps : MapsView). maps.may_fail) maps ∙ (left_may_fail ended tried.maps ∙ tried.caught_up.stays);
      longer = omega (arith, ap length answers, catching_longer log seat.party.maps tried.maps ended tried.caught_up);
      calls =
          subst
          (λ (calls : List ℕ). BringsCalls seat.party.maps.answers new.party.maps.answers seat.party.maps.may_fail calls)
          (sym (append-nil (call_refused ended)))
          (subst (λ (answers : List MapAnswer). BringsCalls seat.party.maps.answers answers seat.party.maps.may_fail (call_refused ended))
          (sym answers) (catching_brings log seat.party.maps tried.maps ended tried.caught_up));
    }

pub handles_more : {count who : ℕ} {old new : Seat} {taken given : SegsView} → Handles count who old new taken given
    → DoesMore taken.log old new
handles_more (Handles.looks seat segs) = did_none segs.log seat seat refl refl refl
handles_more (Handles.moves_ranges seat segs ranges moves) = did_none segs.log seat seat refl refl refl
handles_more (Handles.steps seat segs event core is its knows denied may) =
    did_none segs.log seat _ refl refl refl
handles_more (Handles.maps seat segs ended table now core is its caught_up) =
    catching_more segs.log seat _ ended table caught_up refl refl
handles_more (Handles.follows seat segs ended table member caught_up) = catching_more segs.log seat _ ended table caught_up refl refl
handles_more (Handles.arms seat segs asked run number is) = did_one segs.log seat _ (Asked asked run) refl refl tt refl
handles_more (Handles.claims seat segs) = did_none segs.log seat seat refl refl refl
handles_more (Handles.settles seat segs since now late) = did_none segs.log seat seat refl refl refl
handles_more (Handles.cuts seat segs heap addr run) = did_one segs.log seat _ _ refl refl tt refl
handles_more (Handles.attaches seat segs ended after tried) = attaching_more segs.log seat _ ended after tried refl refl
handles_more (Handles.detaches seat segs told secondary bare heard) =
    did_none segs.log seat _ refl refl refl
