-- What a line does that reads the names at most, and gives them back before it takes a heap.
use Rattle.std.proofs.Common.{◌≡◌, ◌∙◌, ℕ, Bool, true, false, List, [], ◌∷◌, ◌++◌, Option, Some, None, refl, ap, sym, subst, inl, inr}
use Rattle.std.specs.Prelude.{⊤}
use Rattle.std.specs.List.{AllByRecursion}
use Rattle.hp_base.specs.declared.tag.Tag.{Tag}
use Rattle.hp_hall.specs.HallState.{HallState}
use Rattle.hp_hall.specs.Mail.{MailStep}
use Rattle.hp_hall.proofs.HallStates.{did_then}
use Rattle.hp_heap.specs.declared.entry.HeapAnswer.{HeapAnswer}
use Rattle.hp_heap.specs.declared.entry.HeapAnswer.TheVariants as gives
use Rattle.hp_zone.specs.declared.names.Names.{Names as NamesView}
use Rattle.hp_proc.specs.Acting.{Acts}
use Rattle.hp_proc.specs.Doing.{Doing, Done}
use Rattle.hp_proc.specs.Doing.Doing.{Ended, Then}
use Rattle.hp_proc.specs.Freeing.{acting, cutting, freed, freeing, giving_up, going_on, looking, resized, resizing}
use Rattle.hp_proc.specs.Handing.{shared_of}
use Rattle.hp_proc.specs.LineInHall.{DoesApartHere, DoesOnceHere, ReadsNames, did_in, moment}
use Rattle.hp_proc.specs.Lines.{reading_names}
use Rattle.hp_proc.specs.ParticipantView.{ParticipantView}
use Rattle.hp_proc.specs.Progress.{Does, DoesApart, DoesOnce, Moment, doer_at}
use Rattle.hp_proc.specs.SharedNames.{SharedNames}
use Rattle.hp_proc.specs.declared.element_act.ElementAct.{ElementAct}
use Rattle.hp_proc.specs.declared.element_act.ElementAct.TheVariants.{Free, Resize}
use Rattle.hp_proc.specs.declared.searched_heap.SearchedHeap.{SearchedHeap}
use Rattle.hp_proc.proofs.HallMoments.{told_alike}
use Rattle.hp_proc.proofs.Joining.{does_then}
use Rattle.hp_proc.proofs.LinesOrdered.{acts_apart, apart_both, names_first}
use Rattle.hp_proc.proofs.TreeDeeds.{IsNameless, Only, acts_unnamed, names_none, names_once, nameless_read, only_leads}

-- it did nothing with the names
pub apart_nameless : {count : ℕ} {did : List MailStep → Type 0} (doing rest : Doing) {old new : Moment} → Only IsNameless doing
    → old.hand ≡ None → new.hand ≡ None → DoesOnce count did doing rest old new → DoesApart count did doing rest old new
apart_nameless {count} {did} doing rest {old} {new} only empty ends once =
    let does = once.does in
    let nameless = only_leads IsNameless doing does.trace rest only does.leads in
    let acts : Acts count None None once.held (doer_at old) (doer_at new) does.trace does.steps =
    subst (λ (hand : Option ℕ). Acts count hand None once.held (doer_at old) (doer_at new) does.trace does.steps) empty
    (subst (λ (hand : Option ℕ). Acts count old.hand hand once.held (doer_at old) (doer_at new) does.trace does.steps) ends does.acts) in
    record {
      does = once;
      names = names_none does.trace does.steps does.acts nameless;
      apart = names_first does.steps (acts_apart acts (inr (nameless_read does.trace nameless)));
    }

-- it read the names, and did nothing with them after that
pub apart_read : (first second third : HallState) (now me : ℕ) (doer mid after : ParticipantView) (names : NamesView) (goes : SharedNames → Doing)
    (rest : Doing) → now ≡ me → second.count ≡ first.count → ReadsNames me doer mid names first second goes
    → Only IsNameless (goes (shared_of names)) → DoesOnceHere now mid after second third (goes (shared_of names)) rest
    → DoesApartHere me doer after first third (reading_names goes) rest
unfolding does_then
apart_read first second third now me doer mid after names goes rest same count reads only once =
    let here = reads.does in
    let there : DoesOnce first.count (did_in me second third) (goes (shared_of names)) rest (moment me mid second) (moment me after third) =
    told_alike (λ count did before behind. DoesOnce count did (goes (shared_of names)) rest before behind) second.count first.count second third now me
    (λ moment. moment) (λ moment. moment) mid after same count once in
    let does = there.does in
    let nameless = only_leads IsNameless (goes (shared_of names)) does.trace rest only does.leads in
    record {
      does = record {
        held = there.held;
        once = there.once;
        does = does_then first.count (did_in me first second) (did_in me second third) (did_in me first third) (reading_names goes)
            (goes (shared_of names)) rest (moment me doer first) (moment me mid second) (moment me after third) (λ steps next one other. did_then one other)
            here does;
      };
      names = names_once names here.trace does.trace here.steps does.steps reads.trace reads.steps nameless
          (acts_unnamed first.count None None there.held mid after does.trace does.steps does.acts (nameless_read does.trace nameless));
      apart = names_first (here.steps ++ does.steps)
          (apart_both here.steps does.steps (acts_apart here.acts (inl refl)) (acts_apart does.acts (inr (nameless_read does.trace nameless))));
    }

-- WHAT HAS TO DO WITH NO NAMES

giving_nameless : (heap : ℕ) (given : HeapAnswer) → Only IsNameless (giving_up heap given)
unfolding Only
giving_nameless heap (gives.Pages run) = λ given. (tt, tt)
giving_nameless heap _ = tt

pub cutting_nameless : (place : SearchedHeap) (address : ℕ) (serves : Option ℕ) → place.serves ≡ serves → Only IsNameless (cutting place address)
unfolding Only
cutting_nameless place address None is = rw is tt
cutting_nameless place address (Some socket) is = rw is (λ given. (tt, giving_nameless place.index given))

freed_nameless : (place : SearchedHeap) (address : ℕ) (given : HeapAnswer) → Only IsNameless (freed place address given)
unfolding Only
freed_nameless place address gives.Done = cutting_nameless place address place.serves refl
freed_nameless place address gives.IsZone = tt
freed_nameless place address _ = tt

resized_nameless : (given : HeapAnswer) → Only IsNameless (resized given)
unfolding Only
resized_nameless gives.Yes = tt
resized_nameless _ = tt

acting_nameless : (action : ElementAct) (place : SearchedHeap) (address : ℕ) → Only IsNameless (acting action place address)
unfolding Only
acting_nameless Free place address = λ given. (tt, freed_nameless place address given)
acting_nameless (Resize true size) place address = tt
acting_nameless (Resize false size) place address = λ given. (tt, resized_nameless given)

pub looking_nameless : (tag : Tag) (action : ElementAct) (places : List SearchedHeap) → Only IsNameless (looking tag (acting action) places)
unfolding Only
looking_nameless tag action [] = tt
looking_nameless tag action (place ∷ places) = λ given. (tt, going (looking tag (acting action) places) (looking_nameless tag action places) given)
  where
    going : (otherwise : Doing) → Only IsNameless otherwise → (given : HeapAnswer)
        → Only IsNameless (going_on (acting action place) otherwise given)
    going otherwise only (gives.Address address) = acting_nameless action place address
    going otherwise only _ = only
