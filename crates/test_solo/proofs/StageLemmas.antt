-- Two participants and their hall, as tests have them: the segment value is there and both are tied when the hall opens, after a call of
-- it, and after a serving of one of the two.
use Rattle.std.proofs.Common.{◌≡◌, ◌≢◌, ℕ, ◌<◌, true, List, [], ◌∷◌, length, map, refl, sym, ap, subst, ◌∙◌, arith}
use Rattle.std.specs.Prelude.{Result, Ok, Err, IfOk, OnErr}
use Rattle.hp_base.specs.declared.chunk.Chunk.{Chunk}
use Rattle.hp_hall.specs.HallState.{HallState}
use Rattle.hp_hall.specs.Holding.{HeapPart}
use Rattle.hp_log.specs.declared.log_record.LogRecord.{LogRecord}
use Rattle.hp_base.specs.declared.limits.TheConstants.{MAX_HEAPS}
use Rattle.hp_plain.specs.Course.{IsCourse}
use Rattle.hp_plain.specs.HallView.{HallView, IsHome, joined_in, own_at, seen_in, slot_at}
use Rattle.hp_plain.specs.PlainState.{plain_state}
use Rattle.hp_hall.specs.Own.{Own}
use Rattle.hp_script.specs.declared.answer.Answer.{Answer}
use Rattle.hp_script.specs.declared.answer.Answer.TheVariants as answer
use Rattle.hp_script.specs.declared.line.Act.{Act}
use Rattle.hp_script.specs.declared.line.Act.TheVariants as act
use Rattle.hp_script.specs.declared.line.Line.{Line}
use Rattle.hp_serve.specs.Party.{Party}
use Rattle.hp_serve.specs.Tied.{IsTied, no_chunks, nothing_yet}
use Rattle.hp_serve.proofs.Tying.{tied_marks}
use Rattle.hp_proc.specs.Contexts.{Context}
use Rattle.hp_proc.specs.Courses.{Standing, chunks_after}
use Rattle.hp_proc.specs.Doing.{Done}
use Rattle.hp_proc.specs.LineInHall.{ChangesRoster, DoesLineHere}
use Rattle.hp_proc.specs.OwnChunks.{AreMarkedAs, own_chunk}
use Rattle.hp_proc.specs.ParticipantView.{ParticipantView}
use Rattle.hp_proc.specs.declared.own_chunk.OwnChunk.{OwnChunk}
use Rattle.hp_solo.specs.Solo.{IsPartyServed, IsTiedAt, IsTiedFor, marked_at}
use Rattle.hp_solo.specs.SoloAsks.{IsOpening}
use Rattle.hp_solo.proofs.SoloTies.{tied_marked, tied_on}

-- what holds of the stage: the segment value is there, and each participant's table is tied to what the hall knows of it
abbrev pub IsStaged : HallView → Party → Party → Type 0
IsStaged hall primary secondary = (length hall.owns ≡ 2) × IsHome (slot_at hall MAX_HEAPS) × IsTiedAt hall 0 primary × IsTiedAt hall 1 secondary

-- participant 1 has attached no chunk
abbrev pub HasNoChunks : HallView → ParticipantView → Type 0
HasNoChunks hall secondary = (secondary.context.standing.chunks ≡ []) × ((heap : ℕ) → marked_at hall 1 heap ≡ [])

-- and participant 1 is in the roster where its lines left it attached
abbrev pub IsStagedWith : HallView → Party → ParticipantView → Type 0
IsStagedWith hall primary secondary =
    IsStaged hall primary secondary.party × (joined_in hall 1 ≡ secondary.context.standing.attached) × HasNoChunks hall secondary

-- everybody has the marks that it had
abbrev pub AreMarkedAlike : HallView → HallView → Type 0
AreMarkedAlike old new = (who heap : ℕ) → marked_at new who heap ≡ marked_at old who heap

no_chunks_still : (old new : HallView) (secondary after : ParticipantView) → ((heap : ℕ) → marked_at new 1 heap ≡ marked_at old 1 heap)
    → after.context.standing.chunks ≡ secondary.context.standing.chunks → HasNoChunks old secondary → HasNoChunks new after
no_chunks_still old new secondary after marks same none =
    (same ∙ none.0, λ heap. marks heap ∙ none.1 heap)

-- who is tied to a hall of two is one of its participants, and tied by its own number
pub is_declared : (hall : HallView) (who : ℕ) (party : Party) → length hall.owns ≡ 2 → who < 2 → IsTiedAt hall who party
    → party.me < length hall.owns
is_declared hall who party two below at =
    let number = at.number in
    omega (arith, two, below, number)

pub tied_own : (hall : HallView) (who : ℕ) (party : Party) → IsTiedAt hall who party
    → IsTiedFor hall party.me party
tied_own hall who party at = subst (λ (n : ℕ). IsTiedFor hall n party) (sym at.number) at.tied

opened_tied : (hall : HallView) (who : ℕ) (party : Party) → own_at hall who ≡ nothing_yet → joined_in hall who ≡ party.joined → party.me ≡ who
    → ((heap : ℕ) → marked_at hall who heap ≡ [])
    → ((log : List LogRecord) → IsTied log nothing_yet no_chunks party.joined party.maps) → IsTiedAt hall who party
opened_tied hall who party own joined number unmarked tied = record {
  number = number;
  tied = record {
    table = tied_marks (seen_in hall) (own_at hall who) no_chunks (marked_at hall who) party.joined party.maps unmarked
        (subst (λ (own : Own). IsTied (seen_in hall) own no_chunks party.joined party.maps) (sym own) (tied (seen_in hall)));
    same = joined;
    left = λ out. unmarked;
  };
}

-- when the hall opens
pub staged_new : (hall : HallView) (primary secondary : Party) → IsOpening hall → ((who heap : ℕ) → marked_at hall who heap ≡ []) → primary.me ≡ 0 → secondary.me ≡ 1
    → primary.joined ≡ true → secondary.joined ≡ true → ((log : List LogRecord) → IsTied log nothing_yet no_chunks primary.joined primary.maps)
    → ((log : List LogRecord) → IsTied log nothing_yet no_chunks secondary.joined secondary.maps) → IsStaged hall primary secondary
staged_new hall primary secondary opening unmarked first second in_first in_second tied_first tied_second = (
  opening.two,
  opening.home MAX_HEAPS (omega arith),
  opened_tied hall 0 primary (opening.nothing_yet 0) (opening.joined 0 (omega arith) ∙ sym in_first) first (unmarked 0) tied_first,
  opened_tied hall 1 secondary (opening.nothing_yet 1) (opening.joined 1 (omega arith) ∙ sym in_second) second (unmarked 1) tied_second,
)

-- later on, where the own parts and the roster are as they were
pub staged_to : (old new : HallView) (primary secondary : Party) → IsCourse old new → IsHome (slot_at new MAX_HEAPS)
    → ((who : ℕ) → own_at new who ≡ own_at old who) → ((who : ℕ) → joined_in new who ≡ joined_in old who) → AreMarkedAlike old new
    → IsStaged old primary secondary → IsStaged new primary secondary
staged_to old new primary secondary course home own joined marks is = (
  course.count ∙ is.0,
  home,
  tied_marked old new 0 primary course (own 0) (joined 0) (marks 0) is.2,
  tied_marked old new 1 secondary course (own 1) (joined 1) (marks 1) is.3,
)

-- after a call that takes nothing
pub staged_on : (old new : HallView) (primary : Party) (secondary : ParticipantView) → IsCourse old new
    → ((number : ℕ) → IsHome (slot_at old number) → IsHome (slot_at new number)) → ((who : ℕ) → own_at new who ≡ own_at old who)
    → ((who : ℕ) → joined_in new who ≡ joined_in old who) → AreMarkedAlike old new → IsStagedWith old primary secondary
    → IsStagedWith new primary secondary
staged_on old new primary secondary course home own joined marks is = (
  staged_to old new primary secondary.party course (home MAX_HEAPS is.0.1) own joined marks is.0,
  joined 1 ∙ is.1,
  no_chunks_still old new secondary secondary (marks 1) refl is.2,
)

served_tied : (old new : HallView) (who : ℕ) (party after : Party) → IsTiedAt old who party → IsPartyServed old new party after
    → IsTiedAt new who after
served_tied old new who party after at served = record {
  number = served.same.me ∙ at.number;
  tied = subst (λ (n : ℕ). IsTiedFor new n after) at.number served.tied;
}

other_tied : (old new : HallView) (who other : ℕ) (party after beside : Party) → other ≢ who → IsTiedAt old who party
    → IsPartyServed old new party after → IsTiedAt old other beside → IsTiedAt new other beside
other_tied old new who other party after beside apart at served there =
    tied_on old new other beside served.serving.course (served.serving.own other (λ same. apart (same ∙ at.number))) (served.serving.joined other)
    (served.serving.part other) there

-- after participant 0 has served, and after participant 1 has
pub staged_primary : (old new : HallView) (primary after : Party) (secondary : ParticipantView) → IsPartyServed old new primary after
    → IsStagedWith old primary secondary → IsStagedWith new after secondary
staged_primary old new primary after secondary served with_it =
    let is = with_it.0 in (
      (
        served.serving.course.count ∙ is.0,
        served.serving.home MAX_HEAPS is.1,
        served_tied old new 0 primary after is.2 served,
        other_tied old new 0 1 primary after secondary.party (λ same. cc) is.2 served is.3,
      ),
      served.serving.joined 1 ∙ with_it.1,
      no_chunks_still old new secondary secondary (λ heap. ap (λ (p : HeapPart). p.marked) (served.serving.part 1 heap)) refl with_it.2,
    )

pub staged_secondary : (old new : HallView) (primary : Party) (secondary after : ParticipantView)
    → IsPartyServed old new secondary.party after.party → after.context ≡ secondary.context → IsStagedWith old primary secondary
    → IsStagedWith new primary after
staged_secondary old new primary secondary after served same with_it =
    let is = with_it.0 in (
      (
        served.serving.course.count ∙ is.0,
        served.serving.home MAX_HEAPS is.1,
        other_tied old new 1 0 secondary.party after.party primary (λ same. cc) is.3 served is.2,
        served_tied old new 1 secondary.party after.party is.3 served,
      ),
      served.serving.joined 1 ∙ (with_it.1 ∙ sym (ap (λ (context : Context). context.standing.attached) same)),
      no_chunks_still old new secondary after (λ heap. ap (λ (p : HeapPart). p.marked) (served.serving.part 1 heap))
          (ap (λ (context : Context). context.standing.chunks) same) with_it.2,
    )

-- no chunk has the mark of one that notes none
none_marked : (heap : ℕ) (marked : List Chunk) → AreMarkedAs heap marked [] → marked ≡ []
none_marked heap [] none = refl
none_marked heap (chunk ∷ marked) none = cc

-- what is marked is what is noted, where nothing is
pub marked_as_noted : (hall : HallView) (secondary : ParticipantView) → secondary.party.me ≡ 1 → HasNoChunks hall secondary → (heap : ℕ)
    → AreMarkedAs heap (marked_at hall secondary.party.me heap) secondary.context.standing.chunks
marked_as_noted hall secondary number none heap =
    subst (λ (n : ℕ). AreMarkedAs heap (marked_at hall n heap) secondary.context.standing.chunks) (sym number)
    (subst (λ (chunks : List OwnChunk). AreMarkedAs heap (marked_at hall 1 heap) chunks) (sym none.0)
    (ap (map (own_chunk heap)) (none.1 heap)))

-- a line that attaches notes no chunk
pub attached_notes : {E : Type 0} (P Q : Type 0) (result : Result Answer E) (line : Line) (old new : ParticipantView) (from to : HallState)
    → line.act ≡ act.Attach → IfOk result (λ given. DoesLineHere old.party.me old new from to line given)
    → OnErr result (P × (new ≡ old) × Q) → new.context.standing.chunks ≡ old.context.standing.chunks
attached_notes P Q (Ok given) line old new from to attaches does err =
    ap (λ (standing : Standing). standing.chunks) does.left
    ∙ ap (λ (deed : Act). chunks_after deed given does.does.trace old.context.standing.chunks) attaches
attached_notes P Q (Err e) line old new from to attaches does err = ap (λ (doer : ParticipantView). doer.context.standing.chunks) err.1

no_chunks_as : (old new : HallView) (secondary after : ParticipantView) → secondary.party.me ≡ 1
    → ChangesRoster secondary.party.me secondary after (plain_state old) (plain_state new) → after.context.standing.chunks ≡ []
    → HasNoChunks old secondary → HasNoChunks new after
no_chunks_as old new secondary after number changes noted none =
    let now = changes.chunks (marked_as_noted old secondary number none) in (
      noted,
      λ heap.
          none_marked heap (marked_at new 1 heap)
          (subst (λ (chunks : List OwnChunk). AreMarkedAs heap (marked_at new 1 heap) chunks) noted
          (subst (λ (n : ℕ). AreMarkedAs heap (marked_at new n heap) after.context.standing.chunks) number (now heap))),
    )

-- after participant 1 has attached
pub staged_attached : (old new : HallView) (primary : Party) (secondary after : ParticipantView) → IsCourse old new
    → ChangesRoster secondary.party.me secondary after (plain_state old) (plain_state new) → after.context.standing.chunks ≡ []
    → IsStagedWith old primary secondary → IsStagedWith new primary after
staged_attached old new primary secondary after course changes noted with_it =
    let is = with_it.0 in
    let number = is.3.number in
    let apart : 0 ≢ secondary.party.me = λ zero. absurd (omega (arith, zero, number)) in (
      (
        course.count ∙ is.0,
        changes.slots.home MAX_HEAPS is.1,
        tied_on old new 0 primary course (changes.others.own 0 apart) (changes.others.joined 0 apart)
            (λ heap. changes.others.part 0 heap apart) is.2,
        record {
          number = changes.same.me ∙ number;
          tied = subst (λ (n : ℕ). IsTiedFor new n after.party) number changes.tied;
        },
      ),
      subst (λ (n : ℕ). joined_in new n ≡ after.context.standing.attached) number changes.attached,
      no_chunks_as old new secondary after number changes noted with_it.2,
    )
