-- What is handed to the coordinator, and what participant 0 has caught up with: the rule "Coordinating" of docs/PARTICIPANTS.md.
use Rattle.std.proofs.Common.{◌≡◌, ◌∙◌, ℕ, ◌≤◌, Bool, true, false, not, ◌&&◌, ◌||◌, ◌==◌, List, [], ◌∷◌, ◌++◌, length, Option, Some, None, refl, ap, sym, subst, arith}
use Rattle.std.specs.Prelude.{if◌then◌else◌}
use Rattle.std.proofs.lemmas.Bool.{and_parts, eqb-true}
use Rattle.hp_base.specs.Mapping.{is_done}
use Rattle.hp_base.specs.Telling.{Listener}
use Rattle.hp_base.specs.declared.chunk.Chunk.{Chunk}
use Rattle.hp_base.specs.declared.caught.Caught.{Caught}
use Rattle.hp_base.specs.declared.caught.Caught.TheVariants.{Done, Refused, Elsewhere}
use Rattle.hp_base.specs.declared.map_answer.MapAnswer.{MapAnswer}
use Rattle.hp_base.specs.declared.map_answer.MapAnswer.TheVariants as answer
use Rattle.hp_base.specs.declared.row.Row.{Row}
use Rattle.hp_core.specs.Core.{Core}
use Rattle.hp_core.specs.Following.{failure_of}
use Rattle.hp_core.specs.declared.event.CoreEvent.{CoreEvent}
use Rattle.hp_core.specs.declared.event.CoreEvent.TheVariants.{Grow, Shrink, SelfMapped, Poll}
use Rattle.hp_core.specs.declared.out.Out.{Out}
use Rattle.hp_hall.specs.Mail.{MailStep, Notes}
use Rattle.hp_hall.specs.Own.{Own}
use Rattle.hp_hall.specs.declared.note.Note.TheVariants.{Loaded, Read}
use Rattle.hp_log.specs.declared.log_record.LogRecord.{LogRecord}
use Rattle.hp_maps.specs.Catching.{IsElsewhere}
use Rattle.hp_maps.specs.MapsView.{MapsView}
use Rattle.hp_segs.specs.LaterSteps.{is_failure}
use Rattle.hp_segs.specs.SegsView.{SegsView}
use Rattle.hp_serve.specs.Coordinating.{IsHanded, IsMapped, IsOutside, IsTrueOf, handed, maps, no_room, stepping, with_room, worn}
use Rattle.hp_serve.specs.Denials.{Denials, nobody_denies}
use Rattle.hp_serve.specs.Falling.{CoreFalls, maps_measure}
use Rattle.hp_serve.specs.Party.{IsSameParty, Party, with_table}
use Rattle.hp_serve.specs.Posting.{IsSpoken}
use Rattle.hp_serve.specs.Serving.{CatchesUp, MayStopMapping, tells_after_catching, told_of, gives_segments, takes_segments}
use Rattle.hp_serve.specs.Tied.{IsTied}
use Rattle.hp_serve.proofs.Scaled.{handed_falls}
use Rattle.hp_serve.proofs.Spoken.{step_spoken}
use Rattle.hp_serve.proofs.Tying.{tied_along, tied_marks}

-- what an event tells of others stays known
pub outside_known : (noted later : ℕ → ℕ) (records : ℕ) (event : CoreEvent) → ((who : ℕ) → noted who ≤ later who) → IsOutside event
    → IsTrueOf noted 0 event → IsTrueOf later records event
outside_known noted later records (Grow ask) grows outside known = tt
outside_known noted later records (Shrink from number) grows outside known = tt
outside_known noted later records (SelfMapped caught now) grows outside known = absurd outside
outside_known noted later records (Poll now acks) grows outside known =
    λ member few. omega (arith, known member few, grows member)

-- what the coordinator answers to an event is among the values of frames
pub handed_spoken : {denies : Denials} → (event : CoreEvent) (core after : Core) (taken : SegsView) (steps : List MailStep) (answer : Out)
    → IsHanded denies event core after taken steps (Some answer) → IsSpoken answer
handed_spoken event core after taken steps answer (handed denied may did after_is answer_is) =
    subst IsSpoken (sym (its_answer answer_is)) (step_spoken (λ socket total. denied) event core (with_room taken))
  where
    its_answer : Some answer ≡ Some (stepping denied event core taken).out → answer ≡ (stepping denied event core taken).out
    its_answer same = cc
handed_spoken event core after taken steps answer (no_room did after_is answer_is) = absurd (none_is answer_is)
  where
    none_is : Some answer ≡ None → ⊥
    none_is same = cc

other_place : (row : Row) (addr page socket : ℕ) (same : Bool) → ((addr == row.addr) && ((page == row.page) && (socket == row.socket))) ≡ same
    → IsElsewhere row (answer.At addr page socket) → not same ≡ true
other_place row addr page socket false is elsewhere = refl
other_place row addr page socket true is elsewhere =
    let parts = and_parts (addr == row.addr) ((page == row.page) && (socket == row.socket)) is in
    let more = and_parts (page == row.page) (socket == row.socket) parts.1 in
    let addr_is = eqb-true addr row.addr parts.0 in
    let page_is = eqb-true page row.page more.0 in
    let socket_is = eqb-true socket row.socket more.1 in
    absurd (elsewhere.other
    (ap (λ addr. answer.At addr page socket) addr_is ∙ ap (λ page. answer.At row.addr page socket) page_is
    ∙ ap (λ socket. answer.At row.addr row.page socket) socket_is))

-- a row that came out elsewhere failed
elsewhere_fails : (row : Row) (got : MapAnswer) → IsElsewhere row got → is_failure row got ≡ true
elsewhere_fails row answer.Refused elsewhere = refl
elsewhere_fails row (answer.At addr page socket) elsewhere =
    other_place row addr page socket ((addr == row.addr) && ((page == row.page) && (socket == row.socket))) refl elsewhere

some_is : {X : Type 0} (fails : Bool) (failure : X) → fails ≡ true → (if fails then Some failure else None) ≡ None → ⊥
some_is true failure is none = cc
some_is false failure is none = cc

or_true : (joined : Bool) → (joined || true) ≡ true
or_true true = refl
or_true false = refl

-- participant 0 that says that no mapping failed has taken in the whole log
pub mapped_number : (log : List LogRecord) (own : Own) (marked : ℕ → List Chunk) (joined : Bool) (old new : MapsView) (caught : Caught) → CatchesUp log old new caught
    → IsTied log own marked (joined || is_done caught) new → failure_of caught ≡ None → own.number ≡ length log
mapped_number log own marked joined old new Done caught_up tied none =
    let with_it : IsTied log own marked true new = subst (λ b. IsTied log own marked b new) (or_true joined) tied in
    sym with_it.table.number ∙ caught_up.number
mapped_number log own marked joined old new (Refused row call) caught_up tied none = cc
mapped_number log own marked joined old new (Elsewhere row call got) caught_up tied none =
    absurd (some_is (is_failure row got) _ (elsewhere_fails row got caught_up.answered.1) none)

-- no judge is asked where the coordinator is told that participant 0 has caught up
pub unasked : {denies : Denials}
    → (caught : Caught) (now : ℕ) (core next : Core) (taken : SegsView) (more : List MailStep) (answer : Option Out)
    → IsHanded denies (SelfMapped caught now) core next taken more answer
    → IsHanded nobody_denies (SelfMapped caught now) core next taken more answer
unasked caught now core next taken more answer (handed denied may did after_is answer_is) = handed denied may did after_is answer_is
unasked caught now core next taken more answer (no_room did after_is none) = no_room did after_is none

-- participant 0 has caught up, and its coordinator was told
pub mapped_by : (party : Party) (core next : Core) (before table : MapsView) (listeners told : List Listener) (joined joined_then : Bool)
    (taken : SegsView) (caught : Caught) (own now : ℕ) (more : List MailStep) (answer : Option Out) → joined_then ≡ (joined || is_done caught)
    → told ≡ told_of taken.log caught before listeners → CatchesUp taken.log before table caught
    → IsHanded nobody_denies (SelfMapped caught now) core next taken more answer
    → IsMapped (with_table core before listeners joined party) (with_table next table told joined_then party)
    (takes_segments taken ∷ (tells_after_catching caught (length taken.log) ++ (Notes (Loaded 0 own) ∷ Notes (Read now) ∷ more))) answer
mapped_by party core next before table listeners told joined joined_then taken caught own now more answer has told_is caught_up is =
    maps core next taken caught table own now more refl refl caught_up is
    (ap (λ (b : Bool). with_table next table told b party) has
    ∙ ap (λ (heard : List Listener). with_table next table heard (joined || is_done caught) party) told_is)

-- it stopped where it would catch up
pub worn_by : (party : Party) (core : Core) (table : MapsView) (listeners told : List Listener) (joined : Bool) (taken : SegsView)
    → MayStopMapping table listeners → told ≡ listeners
    → IsMapped (with_table core table listeners joined party) (with_table core table told joined party)
    (takes_segments taken ∷ gives_segments taken ∷ []) None
worn_by party core table listeners told joined taken is same =
    worn taken is refl (ap (λ (heard : List Listener). with_table core table heard joined party) same) refl

some_none : {X : Type 0} (x : X) → Some x ≡ None → ⊥
some_none x same = cc

-- what it makes of the coordinator falls
pub mapped_falls : (party after : Party) (steps : List MailStep) (answer : Out) → IsMapped party after steps (Some answer)
    → CoreFalls 0 (maps_measure answer) party.core after.core answer
mapped_falls party after steps answer (maps core next taken caught table own now more core_is did caught_up is after_is) = record {
  before = core;
  behind = next;
  old_is = core_is;
  new_is = ap (λ (party : Party). party.core) after_is;
  falls = handed_falls (SelfMapped caught now) core next taken more answer is;
}
mapped_falls party after steps answer (worn taken is_worn did after_is none) = absurd (some_none answer none)

pub mapped_spoken : (party after : Party) (steps : List MailStep) (answer : Out) → IsMapped party after steps (Some answer) → IsSpoken answer
mapped_spoken party after steps answer (maps core next taken caught table own now more core_is did caught_up is after_is) =
    handed_spoken (SelfMapped caught now) core next taken more answer is
mapped_spoken party after steps answer (worn taken is_worn did after_is none) = absurd (some_none answer none)

-- what serving leaves as it was stays where participant 0 has caught up
pub mapped_same : (party after : Party) (steps : List MailStep) (answer : Option Out) → IsMapped party after steps answer → IsSameParty party after
mapped_same party after steps answer (maps core next taken caught table own now more core_is did caught_up is after_is) =
    subst (IsSameParty party) (sym after_is) (record { me = refl; socket = refl; plan = refl; deadline = refl })
mapped_same party after steps answer (worn taken is_worn did after_is none) =
    subst (IsSameParty party) (sym after_is) (record { me = refl; socket = refl; plan = refl; deadline = refl })

-- a table stays tied where the log grows and its own part and its marks stay
pub tied_still : (seen log more : List LogRecord) (own later : Own) (marked after : ℕ → List Chunk) (joined : Bool) (table : MapsView)
    → log ≡ seen ++ more → later ≡ own → ((heap : ℕ) → after heap ≡ marked heap) → IsTied seen own marked joined table
    → IsTied log later after joined table
tied_still seen log more own later marked after joined table grown same marks tied =
    tied_marks log later marked after joined table marks
    (subst (λ own. IsTied log own marked joined table) (sym same) (tied_along seen log more own marked joined table grown tied))
