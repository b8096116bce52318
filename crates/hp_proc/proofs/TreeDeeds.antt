-- What a line's tree does nothing of: its traces do nothing of that either.
use Rattle.std.proofs.Common.{◌≡◌, ◌∙◌, ℕ, Bool, true, false, List, [], ◌∷◌, ◌++◌, filter_map, fold, length, Option, Some, None, refl, ap, sym, subst}
use Rattle.std.specs.List.{AllByRecursion}
use Rattle.std.specs.Prelude.{⊤, find, is_some}
use Rattle.std.proofs.lemmas.List.Elements.{filter_map-append}
use Rattle.hp_base.specs.declared.pool_line.PoolLine.{PoolLine}
use Rattle.hp_base.specs.declared.request.Request.{Request}
use Rattle.hp_base.specs.declared.row.Run.{Run}
use Rattle.hp_base.specs.declared.tag.Tag.{Tag}
use Rattle.hp_hall.specs.Mail.{MailStep, Fetches, Gives, Notes, Posts, Takes}
use Rattle.hp_hall.specs.declared.kept.Kept.TheVariants.{Heap, Names, Segments}
use Rattle.hp_hall.specs.declared.slot.TheConstants.{NAMES_SLOT}
use Rattle.hp_heap.specs.declared.entry.HeapAnswer.{HeapAnswer}
use Rattle.hp_heap.specs.declared.entry.HeapAnswer.TheVariants as gives
use Rattle.hp_serve.specs.Attaching.{after_attaching}
use Rattle.hp_serve.specs.Serving.{acks_after, gives_segments, takes_segments}
use Rattle.hp_zone.specs.declared.names.Names.{Names as NamesView}
use Rattle.hp_proc.specs.Acting.{Acts}
use Rattle.hp_proc.specs.Allocating.{asking, growing, searching_again, serving, trying, unless_found, with_run}
use Rattle.hp_proc.specs.Denying.{denials_of}
use Rattle.hp_proc.specs.Doing.{Deed, Doing, Done, Given, Goes, Leads, gave}
use Rattle.hp_proc.specs.Doing.Doing.{Ended, Then}
use Rattle.hp_proc.specs.Doing.Done.{Asked, Called, GaveUp, NamesChanged, NamesRead}
use Rattle.hp_proc.specs.Handing.{shared_of}
use Rattle.hp_proc.specs.Heaps.{NamedHeap, page_sizes_for}
use Rattle.hp_proc.specs.NamesLog.{change_made}
use Rattle.hp_proc.specs.NamesOfLines.{AreUntold, NamesOfLine, names_after, names_read, step_of_names, steps_of_names}
use Rattle.hp_proc.specs.ParticipantView.{ParticipantView}
use Rattle.hp_proc.specs.SharedNames.{NamesChange, SharedNames, names_with}
use Rattle.hp_proc.proofs.LinesOrdered.{read_on}
use Rattle.hp_proc.proofs.ServesAside.{AreAside}
use Rattle.hp_proc.proofs.StepsOrdered.{attaches_aside}
use Rattle.hp_proc.proofs.WaitsAside.{ask_aside, turn_aside, wait_aside}

-- all that a tree may do has a property
unfoldable pub Only : (Done → Type 0) → Doing → Type 0
Only P (Ended given) = ⊤
Only P (Then deed next) = (given : Given deed) → P (gave deed given) × Only P (next given)

module _ (P : Done → Type 0) where
  pub only_leads : (doing : Doing) (trace : List Done) (rest : Doing) → Only P doing → Leads doing trace rest → AllByRecursion P trace
  unfolding Only Leads Goes
  only_leads doing [] rest only leads = tt
  only_leads (Ended given) (done ∷ trace) rest only leads = elim leads [ ]
  only_leads (Then deed next) (done ∷ trace) rest only (given, is, leads) =
      (subst P (sym is) (only given).0, only_leads (next given) trace rest (only given).1 leads)

-- it has to do with no names
abbrev pub IsNameless : Done → Type 0
IsNameless (NamesRead names) = ⊥
IsNameless (NamesChanged change) = ⊥
IsNameless _ = ⊤

pub nameless_read : (trace : List Done) → AllByRecursion IsNameless trace → names_read trace ≡ []
nameless_read [] all = refl
nameless_read (NamesRead names ∷ trace) all = absurd all.0
nameless_read (_ ∷ trace) all = nameless_read trace all.1

pub nameless_changes : (trace : List Done) → AllByRecursion IsNameless trace → filter_map change_made trace ≡ []
nameless_changes [] all = refl
nameless_changes (NamesChanged change ∷ trace) all = absurd all.0
nameless_changes (_ ∷ trace) all = nameless_changes trace all.1

-- it is a call of a heap, or an ask for pages
abbrev pub IsAllocating : Done → Type 0
IsAllocating (Called heap call answer) = ⊤
IsAllocating (Asked asked run) = ⊤
IsAllocating _ = ⊥

pub allocating_nameless : (trace : List Done) → AllByRecursion IsAllocating trace → AllByRecursion IsNameless trace
allocating_nameless [] all = tt
allocating_nameless (Called heap call answer ∷ trace) all = (tt, allocating_nameless trace all.1)
allocating_nameless (Asked asked run ∷ trace) all = (tt, allocating_nameless trace all.1)
allocating_nameless (_ ∷ trace) all = absurd all.0

pub allocating_untold : (trace : List Done) → AllByRecursion IsAllocating trace → AreUntold trace
allocating_untold [] all = tt
allocating_untold (Called heap call answer ∷ trace) all = (tt, allocating_untold trace all.1)
allocating_untold (Asked asked run ∷ trace) all = (tt, allocating_untold trace all.1)
allocating_untold (_ ∷ trace) all = absurd all.0

-- AN ALLOCATION

module _ (request : Request) (tag : Tag) where
  only_found : (otherwise : Doing) → Only IsAllocating otherwise → (given : HeapAnswer) → Only IsAllocating (unless_found otherwise given)
  unfolding Only
  only_found otherwise only (gives.Address address) = tt
  only_found otherwise only _ = only

  only_again : (heap : ℕ) → Only IsAllocating (searching_again heap request tag)
  unfolding Only
  only_again heap = λ given. (tt, only_found _ tt given)

  only_run : (heap : ℕ) (otherwise : Doing) → Only IsAllocating otherwise → (run : Option Run)
      → Only IsAllocating (with_run heap request tag otherwise run)
  unfolding Only
  only_run heap otherwise only None = only
  only_run heap otherwise only (Some run) = λ given. (tt, only_again heap)

  only_asking : (heap socket : ℕ) (otherwise : Doing) → Only IsAllocating otherwise → (pages : List ℕ)
      → Only IsAllocating (asking heap socket request tag otherwise pages)
  unfolding Only
  only_asking heap socket otherwise only [] = only
  only_asking heap socket otherwise only (page ∷ pages) =
      λ run. (tt, only_run heap _ (only_asking heap socket otherwise only pages) run)

  only_growing : (pools : List PoolLine) (heap : NamedHeap) (serves : Option ℕ) (otherwise : Doing) → Only IsAllocating otherwise
      → Only IsAllocating (growing pools heap serves request tag otherwise)
  only_growing pools heap None otherwise only = only
  only_growing pools heap (Some socket) otherwise only =
      only_asking heap.index socket otherwise only (page_sizes_for pools socket request.flags)

  pub only_trying : (pools : List PoolLine) (heaps : List NamedHeap) → Only IsAllocating (trying pools request tag heaps)
  unfolding Only
  only_trying pools [] = tt
  only_trying pools (heap ∷ heaps) =
      λ given. (tt, only_found _ (only_growing pools heap heap.serves (trying pools request tag heaps) (only_trying pools heaps)) given)

  pub only_serving : (pools : List PoolLine) (heaps : List NamedHeap) → Only IsAllocating (serving pools request tag heaps)
  unfolding Only
  only_serving pools [] = tt
  only_serving pools (heap ∷ heaps) = only_trying pools (heap ∷ heaps)

-- STEPS ON THE NAMES' SLOT

pub steps_on : (first rest : List MailStep) → steps_of_names (first ++ rest) ≡ steps_of_names first ++ steps_of_names rest
steps_on first rest = filter_map-append step_of_names first rest

aside_unnamed : (has ends : Bool) (steps : List MailStep) → AreAside has ends steps → steps_of_names steps ≡ []
aside_unnamed has ends [] aside = refl
aside_unnamed has ends (Posts to frame action posted ∷ steps) aside = aside_unnamed has ends steps aside.1
aside_unnamed has ends (Fetches frame ∷ steps) aside = aside_unnamed has ends steps aside
aside_unnamed has ends (Notes note ∷ steps) aside = aside_unnamed has ends steps aside
aside_unnamed has ends (Takes slot (Segments segs) ∷ steps) aside = aside_unnamed true ends steps aside.3
aside_unnamed has ends (Takes slot (Heap heap pen) ∷ steps) aside = absurd aside.2
aside_unnamed has ends (Takes slot (Names names) ∷ steps) aside = absurd aside.2
aside_unnamed has ends (Gives slot (Segments segs) ∷ steps) aside = aside_unnamed false ends steps aside.3
aside_unnamed has ends (Gives slot (Heap heap pen) ∷ steps) aside = absurd aside.2
aside_unnamed has ends (Gives slot (Names names) ∷ steps) aside = absurd aside.2

some_none : {X : Type 0} (x : X) (xs : List X) → x ∷ xs ≡ [] → ⊥
some_none x xs none = cc

none_parts : {X : Type 0} (first rest : List X) → first ++ rest ≡ [] → (first ≡ []) × (rest ≡ [])
none_parts [] rest none = (refl, none)
none_parts (x ∷ first) rest none = cc

none_both : {X : Type 0} (first rest : List X) → first ≡ [] → rest ≡ [] → first ++ rest ≡ []
none_both {X} first rest here there = ap (λ (first : List X). first ++ rest) here ∙ there

-- where it did not read the names it made no step on their slot
module _ (count : ℕ) where
  pub acts_unnamed : (hand last : Option ℕ) (held : List ℕ) (doer after : ParticipantView) (trace : List Done) (steps : List MailStep)
      → Acts count hand last held doer after trace steps → names_read trace ≡ [] → steps_of_names steps ≡ []
  acts_unnamed _ _ _ _ _ _ _ (Acts.waits_turn until doer after moved steps turned) unread =
      aside_unnamed false false steps (turn_aside (denials_of doer.context.standing) count until doer.party after steps (Some moved) turned)
  acts_unnamed _ _ _ _ _ _ _ (Acts.asks_pages doer after asked run steps does) unread =
      aside_unnamed false false steps (ask_aside (denials_of doer.context.standing) count doer.party after asked steps run does)
  acts_unnamed _ _ _ _ _ _ _ (Acts.notifies_run doer after heap run steps does) unread =
      ap steps_of_names does.are
      ∙ aside_unnamed false false does.waited
      (wait_aside (denials_of doer.context.standing) count _ true _ after does.waited (Some does.now) does.waits)
  acts_unnamed _ _ _ _ _ _ _ (Acts.attaches doer after taken caught attached) unread =
      aside_unnamed false false
      (takes_segments taken ∷ (acks_after caught (length taken.log) ++ (gives_segments (after_attaching doer.party.me caught taken) ∷ [])))
      (attaches_aside taken (after_attaching doer.party.me caught taken) caught (length taken.log))
  acts_unnamed _ _ _ _ _ _ _ (Acts.reads_names doer names) unread = absurd (some_none (shared_of names) [] unread)
  acts_unnamed _ _ _ _ _ _ _ (Acts.holds_names held doer after taken given trace steps acts changes) unread =
      absurd (some_none (shared_of taken) (names_read trace) unread)
  acts_unnamed _ _ _ _ _ _ _ (Acts.and_then hand between last held more doer mid after first rest before behind here there) unread =
      let parts = none_parts (names_read first) (names_read rest) (sym (read_on first rest) ∙ unread) in
      steps_on before behind
      ∙ none_both (steps_of_names before) (steps_of_names behind) (acts_unnamed hand between held doer mid first before here parts.0)
      (acts_unnamed between last more mid after rest behind there parts.1)
  acts_unnamed _ _ _ _ _ _ _ _ unread = refl

-- WHAT A LINE HAD OF THE NAMES

-- it had none
pub names_none : {count : ℕ} {hand last : Option ℕ} {held : List ℕ} {doer after : ParticipantView} (trace : List Done) (steps : List MailStep)
    → Acts count hand last held doer after trace steps → AllByRecursion IsNameless trace → NamesOfLine trace steps
names_none {count} {hand} {last} {held} {doer} {after} trace steps acts nameless =
    NamesOfLine.none (acts_unnamed count hand last held doer after trace steps acts (nameless_read trace nameless)) (nameless_read trace nameless)
    (nameless_changes trace nameless)

-- it read them first, gave them back, and did what has to do with none
pub names_once : (names : NamesView) (first rest : List Done) (before behind : List MailStep) → first ≡ NamesRead (shared_of names) ∷ []
    → steps_of_names before ≡ Takes NAMES_SLOT (Names names) ∷ Gives NAMES_SLOT (Names names) ∷ [] → AllByRecursion IsNameless rest
    → steps_of_names behind ≡ [] → NamesOfLine (first ++ rest) (before ++ behind)
names_once names first rest before behind reads steps nameless unnamed =
    NamesOfLine.once names names rest
    (steps_on before behind
    ∙ (ap (λ (some : List MailStep). some ++ steps_of_names behind) steps
    ∙ ap (λ (none : List MailStep). Takes NAMES_SLOT (Names names) ∷ Gives NAMES_SLOT (Names names) ∷ none) unnamed))
    (ap (λ (first : List Done). first ++ rest) reads) (nameless_read rest nameless)
    (sym (ap (λ (changes : List NamesChange). fold names_with (shared_of names) changes) (nameless_changes rest nameless)))
