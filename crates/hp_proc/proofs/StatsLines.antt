-- What is done of a line that asks for the statistics of a heap without its lock.
use Rattle.std.proofs.Common.{◌≡◌, ◌∙◌, ℕ, Bool, true, List, [], ◌∷◌, append-nil, Option, Some, None, refl, ap, sym, subst}
use Rattle.hp_base.specs.declared.pool_line.PoolLine.{PoolLine}
use Rattle.hp_hall.specs.HallCalls.{HasReadPair}
use Rattle.hp_hall.specs.HallState.{HallState}
use Rattle.hp_hall.specs.Holding.{HeapPart}
use Rattle.hp_hall.specs.Mail.{Notes}
use Rattle.hp_hall.specs.declared.note.Note.TheVariants.{ReadStats}
use Rattle.hp_hall.proofs.HallStates.{did_same}
use Rattle.hp_script.specs.Part.{Part}
use Rattle.hp_script.specs.declared.answer.Answer.{Answer}
use Rattle.hp_script.specs.declared.answer.Answer.TheVariants as answer
use Rattle.hp_script.specs.declared.line.Act.{Act}
use Rattle.hp_script.specs.declared.line.Act.TheVariants as act
use Rattle.hp_script.specs.declared.line.Line.{Line}
use Rattle.hp_stats.specs.declared.stat_pair.StatPair.{StatPair}
use Rattle.hp_proc.specs.LineTrees.{doing_of}
use Rattle.hp_proc.specs.Acting.{Acts, AreAsked}
use Rattle.hp_proc.specs.Courses.{HasLineRequest}
use Rattle.hp_proc.specs.Doing.{Counted, Deed, Doing, Goes, Leads}
use Rattle.hp_proc.specs.Doing.Done.{StatsRead}
use Rattle.hp_proc.specs.Handing.{counted_in, shared_of}
use Rattle.hp_proc.specs.LineInHall.{DoesHere, DoesLineHere, HasReadNames, did_in, moment}
use Rattle.hp_proc.specs.Lines.{Facts, if_attached, reading_names, reading_stats}
use Rattle.hp_proc.specs.ParticipantView.{ParticipantView}
use Rattle.hp_proc.specs.SharedNames.{SharedNames}
use Rattle.hp_proc.specs.declared.searched_heap.SearchedHeap.{SearchedHeap}
use Rattle.hp_proc.proofs.HandFacts.Holds.{knew_same}
use Rattle.hp_proc.proofs.Joining.{context_still, does_same}
use Rattle.hp_proc.proofs.LineFacts.{facts_for, facts_known, line_idle}
use Rattle.hp_proc.proofs.LookedUp.{IsIdleDone, counting, found_by, idle_read, looked_up, stats_nameless, stats_none, stats_some}
use Rattle.hp_serve.proofs.Carrying.{same_party}

-- how it goes on with the names
abbrev pub stats_by : List PoolLine → Part → SharedNames → Doing
stats_by pools name names = reading_stats (looked_up pools name.text names)

-- its tree, where its participant is attached
pub stats_tree : (line : Line) (name : Part) (facts : Facts) → line.act ≡ act.Stats name → facts.attached ≡ true
    → reading_names (stats_by facts.pools name) ≡ doing_of line line.act facts
unfolding doing_of
stats_tree line name facts deed attached =
    ap (λ (attached : Bool). if_attached attached (reading_names (stats_by facts.pools name))) (sym attached)
    ∙ ap (λ (deed : Act). doing_of line deed facts) (sym deed)

-- the newest statistics were read
stats_read : (doer : ParticipantView) (index : ℕ) (pair : StatPair) (from to : HallState) (goes : Counted → Doing)
    → HasReadPair doer.party.me index pair from to
    → DoesHere [] doer.party.me doer doer from to (Doing.Then (Deed.ReadStats index) goes) (goes (counted_in pair))
unfolding Leads Goes AreAsked
stats_read doer index pair from to goes read =
    let me = doer.party.me in
    let seen = read.stays.others.later.seen me in
    let heard = read.stays.others.later.heard me in
    record {
      trace = StatsRead index (counted_in pair) ∷ [];
      steps = Notes (ReadStats index pair) ∷ [];
      leads = (counted_in pair, refl, refl);
      made = read.did;
      acts = Acts.reads_stats doer index pair;
      entries = λ heap.
          ap (λ (part : HeapPart). part.entries) (read.stays.mine.parts.part heap) ∙ sym (append-nil (from.part me heap).entries);
      serves = λ heap. ap (λ (part : HeapPart). part.serves) (read.stays.mine.parts.part heap);
      counted = context_still doer.context doer.context refl;
      same = same_party doer.party;
      asked = refl;
      more = seen.0;
      log = seen.1;
      outcomes = heard.0;
      asks = heard.1;
    }

module _ (doer mid : ParticipantView) (old at : HallState) (line : Line) (name : Part) (its_act : line.act ≡ act.Stats name)
    (attached : doer.context.standing.attached ≡ true) (same : mid.party.me ≡ doer.party.me) (count : at.count ≡ old.count) where
  abbrev me : ℕ
  me = doer.party.me

  abbrev facts : Facts
  facts = facts_for doer.party.socket doer.context line.act None

  -- it went on by the names that it read, and has its answer
  ends_line : (new : HallState) (given : Answer) (found : Option SearchedHeap) (read : HasReadNames me doer mid name.text found old at)
      → DoesHere [] mid.party.me mid mid at new (stats_by facts.pools name (shared_of read.names)) (Doing.Ended given)
      → DoesLineHere me doer mid old new line given
  ends_line new given found read next =
      let goes = stats_by facts.pools name in
      let idle : IsIdleDone me doer mid old new (doing_of line line.act facts) (Doing.Ended given) =
      subst (λ (doing : Doing). IsIdleDone me doer mid old new doing (Doing.Ended given)) (stats_tree line name facts its_act attached)
      (idle_read old at new mid.party.me me doer mid mid read.names goes (Doing.Ended given) same count (read.read.reads goes)
      (stats_nameless (looked_up facts.pools name.text (shared_of read.names))) next) in
      line_idle old.count (did_in me old new) line given (moment me doer old) (moment me mid new) facts (act.Stats name)
      (facts_known doer.party.socket doer.context line None (subst (λ (deed : Act). HasLineRequest deed None) (sym its_act) tt)) idle.does idle.names
      refl refl (knew_same doer.context mid.context read.read.context) its_act tt tt

  -- it found no heap of that name
  pub lacks_heap : HasReadNames me doer mid name.text None old at → DoesLineHere me doer mid old at line answer.NotFound
  lacks_heap read =
      ends_line at answer.NotFound None read
      (subst (λ (doing : Doing). DoesHere [] mid.party.me mid mid at at doing (Doing.Ended answer.NotFound))
      (sym (stats_none (looked_up facts.pools name.text (shared_of read.names)) (found_by read)))
      (does_same at.count (did_in mid.party.me at at) (Doing.Ended answer.NotFound) (moment mid.party.me mid at) (did_same mid.party.me at)))

  -- it read the newest statistics of the heap of that name
  pub counts_heap : (place : SearchedHeap) (pair : StatPair) (new : HallState) → HasReadNames me doer mid name.text (Some place) old at
      → HasReadPair mid.party.me place.index pair at new → DoesLineHere me doer mid old new line (answer.Statistics pair.stats)
  counts_heap place pair new read counted =
      ends_line new (answer.Statistics pair.stats) (Some place) read
      (subst (λ (doing : Doing). DoesHere [] mid.party.me mid mid at new doing (Doing.Ended (answer.Statistics pair.stats)))
      (stats_some (looked_up facts.pools name.text (shared_of read.names)) place (found_by read))
      (stats_read mid place.index pair at new counting counted))
