-- A line that reads the names for one heap: what it finds, and how it goes on by that.
use Rattle.std.proofs.Common.{◌≡◌, ◌∙◌, ℕ, Bool, List, [], ◌∷◌, ◌++◌, Option, Some, None, refl, ap, sym, subst, inl, inr}
use Rattle.std.specs.Prelude.{find}
use Rattle.std.specs.List.{All}
use Rattle.std.specs.Option.{option_map, option_to_list}
use Rattle.std.proofs.lemmas.List.Elements.{All-head}
use Rattle.hp_base.specs.declared.pool_line.PoolLine.{PoolLine}
use Rattle.hp_hall.specs.HallState.{HallState}
use Rattle.hp_hall.proofs.HallStates.{did_then}
use Rattle.hp_heap.specs.declared.entry.HeapAnswer.{HeapAnswer}
use Rattle.hp_heap.specs.declared.entry.HeapAnswer.TheVariants as gives
use Rattle.hp_heap.specs.declared.entry.HeapCall.TheVariants as call
use Rattle.hp_script.specs.declared.answer.Answer.TheVariants as answer
use Rattle.hp_zone.specs.Directory.{PlainDirectory}
use Rattle.hp_zone.specs.declared.names.Names.{Names as NamesView}
use Rattle.hp_proc.specs.Contexts.{IsPlaceOf}
use Rattle.hp_proc.specs.Doing.{Counted, Deed, Doing}
use Rattle.hp_proc.specs.Handing.{shared_of}
use Rattle.hp_proc.specs.Heaps.{NamedHeap, has_name}
use Rattle.hp_proc.specs.LineInHall.{DoesHere, HasReadNames, ReadsNames, did_in, moment}
use Rattle.hp_proc.specs.Lines.{dumping, reading_names, reading_stats, with_statistics}
use Rattle.hp_proc.specs.NamesOfLines.{NamesOfLine}
use Rattle.hp_proc.specs.ParticipantView.{ParticipantView}
use Rattle.hp_proc.specs.PlaceLists.{place_named}
use Rattle.hp_proc.specs.Progress.{Does}
use Rattle.hp_proc.specs.SharedNames.{SharedNames, directory_in, heaps_in}
use Rattle.hp_proc.specs.declared.searched_heap.SearchedHeap.{SearchedHeap}
use Rattle.hp_proc.proofs.HallMoments.{told_alike}
use Rattle.hp_proc.proofs.Joining.{does_then}
use Rattle.hp_proc.proofs.Mapped.{All-found}
use Rattle.hp_proc.proofs.TreeDeeds.{IsNameless, Only, acts_unnamed, names_once, nameless_read, only_leads}

-- the heap of that name, by the names that were read
abbrev pub looked_up : List PoolLine → List ℕ → SharedNames → Option NamedHeap
looked_up pools text names = find (has_name text) (heaps_in (directory_in pools names))

module _ {me : ℕ} {old new : ParticipantView} {text : List ℕ} {found : Option SearchedHeap} {from to : HallState}
    (read : HasReadNames me old new text found from to) where
  pub found_by : found ≡ option_map place_named (looked_up old.context.pools text (shared_of read.names))
  found_by =
      read.found_is
      ∙ ap (λ (plain : PlainDirectory). option_map place_named (find (has_name text) (heaps_in plain))) read.read.leaves

  -- it is the place of a heap
  place_by : (place : SearchedHeap) (one : Option NamedHeap) → Some place ≡ option_map place_named one
      → All (λ heap. IsPlaceOf old.context.pools (place_named heap)) (option_to_list one) → IsPlaceOf old.context.pools place
  place_by place None is all = cc
  place_by place (Some heap) is all =
      let same : place ≡ place_named heap = cc in
      subst (IsPlaceOf old.context.pools) (sym same) (All-head (λ heap. IsPlaceOf old.context.pools (place_named heap)) heap [] all)

  pub place_is : (place : SearchedHeap) → found ≡ Some place → IsPlaceOf old.context.pools place
  place_is place some =
      place_by place (find (has_name text) (heaps_in read.names.heaps.plain)) (sym some ∙ read.found_is)
      (All-found (λ heap. IsPlaceOf old.context.pools (place_named heap)) (has_name text) (heaps_in read.names.heaps.plain) read.read.places)

-- how a line goes on by what it found: with the statistics of the heap, under its lock or as they were published
pub dumps_none : (one : Option NamedHeap) → None ≡ option_map place_named one → dumping one ≡ Doing.Ended answer.NotFound
dumps_none None is = refl
dumps_none (Some heap) is = cc

pub dumps_some : (one : Option NamedHeap) (place : SearchedHeap) → Some place ≡ option_map place_named one
    → Doing.Then (Deed.Call place.index call.Stats) with_statistics ≡ dumping one
dumps_some None place is = cc
dumps_some (Some heap) place is =
    let same : place ≡ place_named heap = cc in
    ap (λ (place : SearchedHeap). Doing.Then (Deed.Call place.index call.Stats) with_statistics) same

abbrev pub counting : Counted → Doing
counting counted = Doing.Ended (answer.Statistics counted.stats)

pub stats_none : (one : Option NamedHeap) → None ≡ option_map place_named one → reading_stats one ≡ Doing.Ended answer.NotFound
stats_none None is = refl
stats_none (Some heap) is = cc

pub stats_some : (one : Option NamedHeap) (place : SearchedHeap) → Some place ≡ option_map place_named one
    → Doing.Then (Deed.ReadStats place.index) counting ≡ reading_stats one
stats_some None place is = cc
stats_some (Some heap) place is =
    let same : place ≡ place_named heap = cc in
    ap (λ (place : SearchedHeap). Doing.Then (Deed.ReadStats place.index) counting) same

-- neither has to do with the names
with_nameless : (given : HeapAnswer) → Only IsNameless (with_statistics given)
unfolding Only
with_nameless (gives.Statistics stats) = tt
with_nameless _ = tt

pub dumping_nameless : (one : Option NamedHeap) → Only IsNameless (dumping one)
unfolding Only
dumping_nameless None = tt
dumping_nameless (Some heap) = λ given. (tt, with_nameless given)

pub stats_nameless : (one : Option NamedHeap) → Only IsNameless (reading_stats one)
unfolding Only
stats_nameless None = tt
stats_nameless (Some heap) = λ counted. (tt, tt)

-- a line did so with no heap in its hand, and had the names as lines have them
pub record IsIdleDone (me : ℕ) (doer after : ParticipantView) (from to : HallState) (doing rest : Doing) : Type 0 where
  pub does : DoesHere [] me doer after from to doing rest
  pub names : NamesOfLine does.trace does.steps

-- it read the names, and did what has to do with none
pub idle_read : (first second third : HallState) (now me : ℕ) (doer mid after : ParticipantView) (names : NamesView) (goes : SharedNames → Doing)
    (rest : Doing) → now ≡ me → second.count ≡ first.count → ReadsNames me doer mid names first second goes
    → Only IsNameless (goes (shared_of names)) → DoesHere [] now mid after second third (goes (shared_of names)) rest
    → IsIdleDone me doer after first third (reading_names goes) rest
unfolding does_then
idle_read first second third now me doer mid after names goes rest same count reads only next =
    let here = reads.does in
    let does : Does [] first.count (did_in me second third) (goes (shared_of names)) rest (moment me mid second) (moment me after third) =
    told_alike (λ count did before behind. Does [] count did (goes (shared_of names)) rest before behind) second.count first.count second third now me
    (λ moment. moment) (λ moment. moment) mid after same count next in
    let nameless = only_leads IsNameless (goes (shared_of names)) does.trace rest only does.leads in
    record {
      does = does_then first.count (did_in me first second) (did_in me second third) (did_in me first third) (reading_names goes)
          (goes (shared_of names)) rest (moment me doer first) (moment me mid second) (moment me after third) (λ steps next one other. did_then one other)
          here does;
      names = names_once names here.trace does.trace here.steps does.steps reads.trace reads.steps nameless
          (acts_unnamed first.count None None [] mid after does.trace does.steps does.acts (nameless_read does.trace nameless));
    }
