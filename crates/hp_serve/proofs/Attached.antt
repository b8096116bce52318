-- A participant that attaches or detaches: the table that it is left with, and the segment value that it gives back.
use Rattle.std.proofs.Common.{◌≡◌, ◌∙◌, ℕ, ◌<◌, ◌≤◌, Bool, true, false, ◌||◌, List, [], ◌∷◌, Option, length, refl, ap, sym, arith}
use Rattle.std.specs.Prelude.{filter, slice_set}
use Rattle.std.proofs.lemmas.List.Elements.{All-nil}
use Rattle.std.proofs.lemmas.List.{get_or-set_same, set-get_or}
use Rattle.hp_base.specs.Mapping.{FailingCall, Held, is_done, owned}
use Rattle.hp_base.specs.declared.caught.Caught.{Caught}
use Rattle.hp_base.specs.declared.caught.Caught.TheVariants.{Done, Refused, Elsewhere}
use Rattle.hp_base.specs.declared.chunk.Chunk.{Chunk}
use Rattle.hp_base.specs.declared.limits.TheConstants.{MAX_SEGMENTS}
use Rattle.hp_base.specs.declared.map_answer.MapAnswer.{MapAnswer}
use Rattle.hp_base.specs.declared.row.Row.{Row}
use Rattle.hp_heap.proofs.AllocFacts.ChoiceLaw.{Contains-here, Contains-none}
use Rattle.hp_hall.specs.Mail.{Notes}
use Rattle.hp_hall.specs.Own.{Own, after_ack}
use Rattle.hp_hall.specs.declared.note.Note.TheVariants.{Acked}
use Rattle.hp_log.specs.declared.log_record.LogRecord.{LogRecord}
use Rattle.hp_maps.specs.Chunks.{is_of_chunk, rows_of_chunk}
use Rattle.hp_maps.specs.MapsView.{IsMapped, MapsView}
use Rattle.hp_segs.specs.LaterSteps.{after_join, after_leave}
use Rattle.hp_segs.specs.SegsView.{SegsView, is_member}
use Rattle.hp_serve.specs.Attaching.{after_attaching, emptied, table_left}
use Rattle.hp_serve.specs.Serving.{acks_after}
use Rattle.hp_serve.specs.Tied.{HasChunks, IsTied, no_chunks, own_after}

-- a table of which all is unmapped is emptied
pub emptied_is : (old new : MapsView) → new.rows ≡ [] → new.number ≡ 0 → new.answers ≡ old.answers → new.capacity ≡ old.capacity
    → new.faults ≡ old.faults → new.may_fail ≡ old.may_fail → IsMapped new → new ≡ emptied old
emptied_is old new rows number answers capacity faults may_fail mapped =
    ap (λ (held : List Held). record new { held = held }) mapped
    ∙ ap (λ (rows : List Row). record new { rows = rows; held = owned rows }) rows
    ∙ ap (λ (number : ℕ). record new { rows = []; number = number; held = [] }) number
    ∙ ap (λ (answers : List MapAnswer). record new { rows = []; number = 0; answers = answers; held = [] }) answers
    ∙ ap (λ (capacity : ℕ). record new { rows = []; number = 0; capacity = capacity; answers = old.answers; held = [] }) capacity
    ∙ ap (λ (faults : ℕ). record new {
      rows = [];
      number = 0;
      capacity = old.capacity;
      answers = old.answers;
      faults = faults;
      held = [];
    }) faults
    ∙ ap (λ (may_fail : Option (List FailingCall)). record old { rows = []; number = 0; may_fail = may_fail; held = [] }) may_fail

-- no row is that of a chunk where no chunk is marked
pub nothing_marked : HasChunks no_chunks []
nothing_marked = record {
  each = λ heap below. All-nil (λ (chunk : Chunk). filter (is_of_chunk chunk) [] ≡ rows_of_chunk chunk);
  only = λ row has. absurd (Contains-none row has);
  distinct = λ heap other first second below few has. absurd (Contains-none first has);
}

pub no_chunk_rows : (rows : List Row) → HasChunks no_chunks rows → rows ≡ []
no_chunk_rows [] has = refl
no_chunk_rows (row ∷ rows) has =
    let one = has.only row (Contains-here row rows) in
    absurd (Contains-none one.1 one.3)

-- an emptied table is that of a participant that is out, whatever it has acknowledged
pub emptied_tied : (log : List LogRecord) (own : Own) (maps : MapsView) → own.number ≤ length log → MAX_SEGMENTS ≤ maps.capacity
    → IsTied log own no_chunks false (emptied maps)
emptied_tied log own maps within room = record {
  within = within;
  table = record {
    number = refl;
    rows = refl;
    behind = omega arith;
    seen = omega arith;
    chunks = nothing_marked;
    room = room;
  };
}

-- where a mapping failed, the table that is left is emptied
pub left_emptied : (caught : Caught) (maps : MapsView) → is_done caught ≡ false → emptied maps ≡ table_left caught maps
left_emptied Done maps failed = cc
left_emptied (Refused row call) maps failed = refl
left_emptied (Elsewhere row call got) maps failed = refl

-- and else it is the whole one
pub left_whole : (caught : Caught) (maps : MapsView) → is_done caught ≡ true → maps ≡ table_left caught maps
left_whole Done maps done = refl
left_whole (Refused row call) maps done = cc
left_whole (Elsewhere row call got) maps done = cc

-- where all was mapped, all records are acknowledged
pub acks_whole : (caught : Caught) (records number : ℕ) → is_done caught ≡ true → records ≡ number
    → Notes (Acked records) ∷ [] ≡ acks_after caught number
acks_whole Done records number done same = ap (λ (number : ℕ). Notes (Acked number) ∷ []) same
acks_whole (Refused row call) records number done same = cc
acks_whole (Elsewhere row call got) records number done same = cc

-- who is in the roster comes in once more, and who is out leaves it once more
pub joined_same : (who : ℕ) (segs : SegsView) → is_member segs.roster who ≡ true → segs ≡ after_join who segs
joined_same who segs is =
    ap (λ (roster : List Bool). record segs { roster = roster })
    (sym (ap (λ (member : Bool). slice_set segs.roster who member) (sym is) ∙ set-get_or segs.roster who false))

pub left_same : (who : ℕ) (segs : SegsView) → is_member segs.roster who ≡ false → segs ≡ after_leave who segs
left_same who segs is =
    ap (λ (roster : List Bool). record segs { roster = roster })
    (sym (ap (λ (member : Bool). slice_set segs.roster who member) (sym is) ∙ set-get_or segs.roster who false))

-- its own part is what was acknowledged, and it has a table
pub done_own : (caught : Caught) (records : ℕ) (own : Own) → is_done caught ≡ true → after_ack records ≡ own_after caught records own
done_own Done records own done = refl
done_own (Refused row call) records own done = cc
done_own (Elsewhere row call got) records own done = cc

pub done_joined : (joined done : Bool) → done ≡ true → (joined || done) ≡ done
done_joined true done is = sym is
done_joined false done is = refl

-- where a mapping failed, nothing is acknowledged
pub acks_none : (caught : Caught) (number : ℕ) → is_done caught ≡ false → [] ≡ acks_after caught number
acks_none Done number failed = cc
acks_none (Refused row call) number failed = refl
acks_none (Elsewhere row call got) number failed = refl

or_true : (joined : Bool) → true ≡ (joined || true)
or_true true = refl
or_true false = refl

or_false : (joined : Bool) → joined ≡ (joined || false)
or_false true = refl
or_false false = refl

-- who has caught up comes into the roster, and who has not stays as it was
pub attached_roster : (who : ℕ) (caught : Caught) (segs : SegsView) → who < length segs.roster
    → is_member (after_attaching who caught segs).roster who ≡ (is_member segs.roster who || is_done caught)
attached_roster who Done segs within = get_or-set_same segs.roster who true false within ∙ or_true (is_member segs.roster who)
attached_roster who (Refused row call) segs within = or_false (is_member segs.roster who)
attached_roster who (Elsewhere row call got) segs within = or_false (is_member segs.roster who)

-- who leaves it is out
pub left_roster : (who : ℕ) (segs : SegsView) → who < length segs.roster → is_member (after_leave who segs).roster who ≡ false
left_roster who segs within = get_or-set_same segs.roster who false false within

-- who was out is in the roster where it has a table
pub came_in : (was joined now done : Bool) → was ≡ joined → joined ≡ false → now ≡ (was || done) → now ≡ done
came_in was joined now done same out is = is ∙ ap (λ (was : Bool). was || done) (same ∙ out)

-- and who had a table has one, whatever became of its catching up
pub has_still : (joined done now : Bool) → joined ≡ true → now ≡ (joined || done) → now ≡ joined
has_still joined done now there is = is ∙ ap (λ (joined : Bool). joined || done) there ∙ sym there

-- who has caught up acknowledges all records, and does nothing else
pub acks_done : (caught : Caught) (records : ℕ) → is_done caught ≡ true → acks_after caught records ≡ Notes (Acked records) ∷ []
acks_done Done records done = refl
acks_done (Refused row call) records done = cc
acks_done (Elsewhere row call got) records done = cc
