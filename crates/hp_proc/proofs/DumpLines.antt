-- What is done of a line that asks for the statistics of a heap with its lock.
use Rattle.std.proofs.Common.{◌≡◌, ◌∙◌, ℕ, Bool, true, List, [], ◌∷◌, Option, Some, None, refl, ap, sym, subst}
use Rattle.hp_base.specs.declared.pool_line.PoolLine.{PoolLine}
use Rattle.hp_hall.specs.HallState.{HallState}
use Rattle.hp_hall.proofs.HallStates.{did_same}
use Rattle.hp_heap.specs.declared.entry.HeapCall.TheVariants as call
use Rattle.hp_script.specs.Part.{Part}
use Rattle.hp_script.specs.declared.answer.Answer.{Answer}
use Rattle.hp_script.specs.declared.answer.Answer.TheVariants as answer
use Rattle.hp_script.specs.declared.line.Act.{Act}
use Rattle.hp_script.specs.declared.line.Act.TheVariants as act
use Rattle.hp_script.specs.declared.line.Line.{Line}
use Rattle.hp_proc.specs.LineTrees.{doing_of}
use Rattle.hp_proc.specs.Courses.{HasLineRequest}
use Rattle.hp_proc.specs.Doing.{Deed, Doing}
use Rattle.hp_proc.specs.Handing.{shared_of}
use Rattle.hp_proc.specs.LineInHall.{DoesApartHere, DoesLineHere, DoesOnceHere, HaltsHere, HaltsLineHere, HasReadNames, did_in, moment}
use Rattle.hp_proc.specs.Lines.{Facts, dumping, if_attached, reading_names, with_statistics}
use Rattle.hp_proc.specs.ParticipantView.{ParticipantView, with_calls}
use Rattle.hp_proc.specs.SharedNames.{SharedNames}
use Rattle.hp_proc.specs.declared.searched_heap.SearchedHeap.{SearchedHeap}
use Rattle.hp_proc.proofs.Halted.{halts_more, line_halted}
use Rattle.hp_proc.proofs.HandFacts.Holds.{knew_after}
use Rattle.hp_proc.proofs.HandFacts.OnceHeld.{once_none, once_one}
use Rattle.hp_proc.proofs.Joining.{does_same}
use Rattle.hp_proc.proofs.LineFacts.{done_once, facts_for, facts_known, line_done}
use Rattle.hp_proc.proofs.LinesApart.{apart_read}
use Rattle.hp_proc.proofs.LookedUp.{dumping_nameless, dumps_none, dumps_some, found_by, looked_up}

-- how it goes on with the names
abbrev pub dumps_by : List PoolLine → Part → SharedNames → Doing
dumps_by pools name names = dumping (looked_up pools name.text names)

-- its tree, where its participant is attached
pub dump_tree : (line : Line) (name : Part) (facts : Facts) → line.act ≡ act.Dump name → facts.attached ≡ true
    → reading_names (dumps_by facts.pools name) ≡ doing_of line line.act facts
unfolding doing_of
dump_tree line name facts deed attached =
    ap (λ (attached : Bool). if_attached attached (reading_names (dumps_by facts.pools name))) (sym attached)
    ∙ ap (λ (deed : Act). doing_of line deed facts) (sym deed)

module _ (doer mid : ParticipantView) (old at : HallState) (line : Line) (name : Part) (its_act : line.act ≡ act.Dump name)
    (attached : doer.context.standing.attached ≡ true) (same : mid.party.me ≡ doer.party.me) (count : at.count ≡ old.count) where
  abbrev me : ℕ
  me = doer.party.me

  abbrev facts : Facts
  facts = facts_for doer.party.socket doer.context line.act None

  abbrev goes : SharedNames → Doing
  goes = dumps_by facts.pools name

  -- it went on by the names that it read, and has its answer
  ends_line : (new : HallState) (after : ParticipantView) (given : Answer) (found : Option SearchedHeap)
      (read : HasReadNames me doer mid name.text found old at) → after.context ≡ with_calls after.context.calls mid.context
      → DoesOnceHere mid.party.me mid after at new (goes (shared_of read.names)) (Doing.Ended given)
      → DoesLineHere me doer after old new line given
  ends_line new after given found read knew next =
      let apart : DoesApartHere me doer after old new (doing_of line line.act facts) (Doing.Ended given) =
      subst (λ (doing : Doing). DoesApartHere me doer after old new doing (Doing.Ended given)) (dump_tree line name facts its_act attached)
      (apart_read old at new mid.party.me me doer mid after read.names goes (Doing.Ended given) same count (read.read.reads goes)
      (dumping_nameless (looked_up facts.pools name.text (shared_of read.names))) next) in
      line_done old.count (did_in me old new) line given (moment me doer old) (moment me after new) facts (act.Dump name)
      (facts_known doer.party.socket doer.context line None (subst (λ (deed : Act). HasLineRequest deed None) (sym its_act) tt)) apart refl
      (knew_after doer.context mid.context after.context read.read.context knew) its_act tt tt tt

  -- it found no heap of that name
  pub dumps_nothing : HasReadNames me doer mid name.text None old at → DoesLineHere me doer mid old at line answer.NotFound
  dumps_nothing read =
      ends_line at mid answer.NotFound None read refl
      (subst (λ (doing : Doing). DoesOnceHere mid.party.me mid mid at at doing (Doing.Ended answer.NotFound))
      (sym (dumps_none (looked_up facts.pools name.text (shared_of read.names)) (found_by read)))
      (done_once at.count (did_in mid.party.me at at) (Doing.Ended answer.NotFound) (Doing.Ended answer.NotFound) (moment mid.party.me mid at)
      (moment mid.party.me mid at)
      (does_same at.count (did_in mid.party.me at at) (Doing.Ended answer.NotFound) (moment mid.party.me mid at) (did_same mid.party.me at))))

  -- it asked the heap of that name for its statistics
  pub dumps_heap : (place : SearchedHeap) (given : Answer) (new : HallState) (after : ParticipantView)
      → HasReadNames me doer mid name.text (Some place) old at → after.context ≡ with_calls after.context.calls mid.context
      → DoesOnceHere mid.party.me mid after at new (Doing.Then (Deed.Call place.index call.Stats) with_statistics) (Doing.Ended given)
      → DoesLineHere me doer after old new line given
  dumps_heap place given new after read knew next =
      ends_line new after given (Some place) read knew
      (subst (λ (doing : Doing). DoesOnceHere mid.party.me mid after at new doing (Doing.Ended given))
      (dumps_some (looked_up facts.pools name.text (shared_of read.names)) place (found_by read)) next)

  -- it stopped before it had the names, or over the heap of that name
  pub stops_unread : ((doing : Doing) → HaltsHere [] me doer mid old at doing) → HaltsLineHere me doer mid old at line
  stops_unread halts =
      line_halted old.count (did_in me old at) line (moment me doer old) (moment me mid at) facts
      (facts_known doer.party.socket doer.context line None (subst (λ (deed : Act). HasLineRequest deed None) (sym its_act) tt))
      (doing_of line line.act facts) refl refl ([], once_none, halts (doing_of line line.act facts))

  pub stops_holding : (place : SearchedHeap) (new : HallState) (after : ParticipantView) (found : Option SearchedHeap)
      → HasReadNames me doer mid name.text found old at
      → ((doing : Doing) → HaltsHere (place.index ∷ []) mid.party.me mid after at new doing) → HaltsLineHere me doer after old new line
  stops_holding place new after found read halts =
      line_halted old.count (did_in me old new) line (moment me doer old) (moment me after new) facts
      (facts_known doer.party.socket doer.context line None (subst (λ (deed : Act). HasLineRequest deed None) (sym its_act) tt))
      (reading_names goes) (dump_tree line name facts its_act attached) refl (
        place.index ∷ [],
        once_one place.index,
        halts_more (place.index ∷ []) old at new mid.party.me me (λ moment. moment) (λ moment. moment) mid after (moment me doer old)
            (reading_names goes) same count (goes (shared_of read.names)) (read.read.reads goes).does (halts (goes (shared_of read.names))),
      )
