-- The state of a heap that a line takes in its hand is the one that the heap's slot had when the line began, and the line had not called the heap
-- before: it takes no heap twice.
use Rattle.std.proofs.Common.{◌≡◌, ◌∙◌, ◌⊎◌, ℕ, ◌+◌, ◌<◌, ◌≤◌, ◌==◌, Bool, true, false, cond, List, [], ◌∷◌, ◌++◌, length, Ok, Option, Some, refl, ap, sym, subst, inl, inr, arith, eq-eqb}
use Rattle.std.specs.List.{AllByRecursion}
use Rattle.std.specs.Prelude.{⊤, Contains, count_by}
use Rattle.std.proofs.lemmas.Bool.{eqb-true}
use Rattle.std.proofs.lemmas.List.Elements.{Contains-append_cases, Contains-append_left, Contains-append_right}
use Rattle.hp_base.specs.declared.limits.TheConstants.{MAX_HEAPS}
use Rattle.hp_heap.proofs.AllocFacts.ChoiceLaw.{Contains-cases, Contains-here, Contains-none}
use Rattle.hp_heap.proofs.HistoryFacts.Counting.{count_by-append, count_by-cons}
use Rattle.hp_heap.specs.declared.entry.Entry.{Entry}
use Rattle.hp_hall.specs.Mail.{Fetches, Gives, MailStep, Notes, Posts, Takes}
use Rattle.hp_hall.specs.Values.{history_of}
use Rattle.hp_hall.specs.declared.kept.Kept.{Kept}
use Rattle.hp_hall.specs.declared.kept.Kept.TheVariants.{Heap, Names, Segments}
use Rattle.hp_hall.specs.declared.slot.TheConstants.{NAMES_SLOT}
use Rattle.hp_proc.proofs.Joining.{calls_on}
use Rattle.hp_proc.specs.Acting.{Acts}
use Rattle.hp_proc.specs.Courses.{OwnCall, calls_in}
use Rattle.hp_proc.specs.Denying.{denials_of}
use Rattle.hp_proc.specs.Doing.{Done}
use Rattle.hp_proc.specs.Doing.Done.{Asked, Called, CaughtUp, ChunkMapped, GaveUp, HeapSeen, Looked, NamesChanged, NamesRead, RangePlanned, StatsRead}
use Rattle.hp_proc.specs.Handing.{counted_in, shared_of}
use Rattle.hp_proc.specs.SharedNames.NamesChange.{OfHeaps}
use Rattle.hp_segs.specs.Ranges.{range_plan}
use Rattle.hp_zone.specs.declared.name_change.NameChange.TheVariants.{Range, RangeGone}
use Rattle.hp_heap.specs.declared.entry.HeapAnswer.TheVariants as gives
use Rattle.hp_heap.specs.declared.entry.HeapCall.TheVariants as heap_call
use Rattle.hp_proc.specs.ParticipantView.{ParticipantView}
use Rattle.hp_proc.specs.Progress.{AreOnce}
use Rattle.hp_serve.specs.Attaching.{after_attaching}
use Rattle.hp_serve.specs.Serving.{acks_after, gives_segments, takes_segments}
use Rattle.thm_run.proofs.CountedReads.NewestRead.{all_at, all_both}
use Rattle.thm_run.proofs.HeapGivers.{GiveNoHeap, IsNoGive}
use Rattle.thm_run.proofs.InTurnByHolds.HeldCalls.{calls_held, hand_held}
use Rattle.thm_run.proofs.ServesNoHeap.{none_both}
use Rattle.thm_run.proofs.SlotAlong.{AreAlong, IsNoSegs, kept_after, no_segs_given}
use Rattle.thm_run.proofs.WaitsNoHeap.{acks_none, ask_none, notice_none, turn_none}

-- no state of a heap is handed
abbrev IsUnseen : Done → Type 0
IsUnseen (HeapSeen heap history) = ⊥
IsUnseen _ = ⊤

all_of : {X : Type 0} (P : X → Type 0) (xs : List X) (x : X) → Contains xs x → AllByRecursion P xs → P x
all_of P [] x among all = absurd (Contains-none x among)
all_of P (y ∷ xs) x among all = elim (Contains-cases y x xs among) [
  | inl same ↦ subst P same all.0
  | inr later ↦ all_of P xs x later all.1
]

-- where something stands in two lists behind each other
pub data IsEither {X : Type 0} (xs ys first : List X) (x : X) (rest : List X) : Type 0 where
  in_first : (more : List X) → xs ≡ first ++ x ∷ more → IsEither xs ys first x rest
  in_second : (mid : List X) → first ≡ xs ++ mid → ys ≡ mid ++ x ∷ rest → IsEither xs ys first x rest

pub either_of : {X : Type 0} (xs ys first : List X) (x : X) (rest : List X) → xs ++ ys ≡ first ++ x ∷ rest → IsEither xs ys first x rest
either_of [] ys first x rest is = IsEither.in_second first refl is
either_of {X} (y ∷ xs) ys [] x rest is =
    let same : y ≡ x = cc in
    IsEither.in_first xs (ap (λ (one : X). one ∷ xs) same)
either_of {X} (y ∷ xs) ys (z ∷ first) x rest is =
    let same : y ≡ z = cc in
    let further : xs ++ ys ≡ first ++ x ∷ rest = cc in
    by_rest same (either_of xs ys first x rest further)
  where
    by_rest : y ≡ z → IsEither xs ys first x rest → IsEither (y ∷ xs) ys (z ∷ first) x rest
    by_rest same (IsEither.in_first more its) =
        IsEither.in_first more (ap (λ (one : X). one ∷ xs) same ∙ ap (λ (xs : List X). z ∷ xs) its)
    by_rest same (IsEither.in_second mid its at) =
        IsEither.in_second mid (ap (λ (one : X). one ∷ first) (sym same) ∙ ap (λ (first : List X). y ∷ first) its) at

pub among_at : {X : Type 0} (first : List X) (x : X) (rest : List X) → Contains (first ++ x ∷ rest) x
among_at first x rest = Contains-append_right first (x ∷ rest) x (Contains-here x rest)

-- heaps that are taken once each: none is in both of two parts
abbrev is_it : ℕ → ℕ → Bool
is_it heap other = other == heap

at_least_one : (heap : ℕ) (heaps : List ℕ) → Contains heaps heap → 1 ≤ count_by (is_it heap) heaps
at_least_one heap [] among = absurd (Contains-none heap among)
at_least_one heap (one ∷ heaps) among = elim (Contains-cases one heap heaps among) [
  | inl same ↦ omega (
    arith,
    count_by-cons (is_it heap) one heaps,
    ap (λ (b : Bool). cond {A = ℕ} b 1 0) (eq-eqb one heap same),
  )
  | inr later ↦ omega (arith, count_by-cons (is_it heap) one heaps, at_least_one heap heaps later)
]

once_apart : (heap : ℕ) (held more : List ℕ) → AreOnce (held ++ more) → Contains held heap → Contains more heap → ⊥
once_apart heap held more once here there =
    omega (arith, once heap, count_by-append (is_it heap) held more, at_least_one heap held here, at_least_one heap more there)

once_front : (held more : List ℕ) → AreOnce (held ++ more) → AreOnce held
once_front held more once = λ heap. omega (arith, once heap, count_by-append (is_it heap) held more)

once_behind : (held more : List ℕ) → AreOnce (held ++ more) → AreOnce more
once_behind held more once = λ heap. omega (arith, once heap, count_by-append (is_it heap) held more)

-- THE SLOT OF A HEAP THAT IS NOT TAKEN

-- a heap that a line has not in its hand has no heap of that index given back
abbrev IsApart : ℕ → MailStep → Type 0
IsApart index (Gives slot (Heap heap pen)) = slot ≡ index → ⊥
IsApart index (Gives slot (Names names)) = slot ≡ index → ⊥
IsApart index _ = ⊤

gives_apart : (index : ℕ) (step : MailStep) → IsNoGive step → IsApart index step
gives_apart index (Gives slot (Heap heap pen)) none = absurd none
gives_apart index (Gives slot (Names names)) none = absurd none
gives_apart index _ none = tt

none_apart : (index : ℕ) (steps : List MailStep) → GiveNoHeap steps → AllByRecursion (IsApart index) steps
none_apart index [] none = tt
none_apart index (step ∷ steps) none = (gives_apart index step none.0, none_apart index steps none.1)

module _ (count index : ℕ) where
  -- the heap of a state that is handed is taken
  pub seen_held : {hand last : Option ℕ} {held : List ℕ} {doer after : ParticipantView} {trace : List Done} {steps : List MailStep}
      → Acts count hand last held doer after trace steps → (history : List Entry) → Contains trace (HeapSeen index history)
      → Contains held index × (index < MAX_HEAPS)
  seen_held (Acts.nothing hand doer) history among = absurd (Contains-none (HeapSeen index history) among)
  seen_held (Acts.waits_turn until doer after moved steps turned) history among = absurd (Contains-none (HeapSeen index history) among)
  seen_held (Acts.takes_heap doer heap pen few) history among = absurd (Contains-none (HeapSeen index history) among)
  seen_held (Acts.gives_heap doer heap pen) history among = absurd (Contains-none (HeapSeen index history) among)
  seen_held (Acts.makes_call doer heap call answer none) history among = absurd (all_of IsUnseen (Called heap call answer ∷ []) (HeapSeen index history) among (tt, tt))
  seen_held (Acts.cuts_run doer heap addr run taken) history among = absurd (all_of IsUnseen (Called heap (heap_call.Cut addr) (gives.Pages run) ∷ []) (HeapSeen index history) among (tt, tt))
  seen_held (Acts.asks_pages doer after asked run steps does) history among =
      absurd (all_of IsUnseen (Asked asked run ∷ []) (HeapSeen index history) among (tt, tt))
  seen_held (Acts.notifies_run doer after heap run steps does) history among =
      absurd (all_of IsUnseen (GaveUp heap run ∷ []) (HeapSeen index history) among (tt, tt))
  seen_held (Acts.attaches doer after taken caught tried) history among =
      absurd (all_of IsUnseen (Looked (length taken.log) ∷ CaughtUp (length taken.log) caught ∷ []) (HeapSeen index history) among (tt, (tt, tt)))
  seen_held (Acts.detaches doer taken told above left bare heard) history among = absurd (Contains-none (HeapSeen index history) among)
  seen_held (Acts.notes_left doer elements) history among = absurd (Contains-none (HeapSeen index history) among)
  seen_held (Acts.reads_names doer names) history among = absurd (all_of IsUnseen (NamesRead (shared_of names) ∷ []) (HeapSeen index history) among (tt, tt))
  seen_held (Acts.looks_up_lines doer other lines) history among = absurd (Contains-none (HeapSeen index history) among)
  seen_held (Acts.reads_stats doer heap pair) history among = absurd (all_of IsUnseen (StatsRead heap (counted_in pair) ∷ []) (HeapSeen index history) among (tt, tt))
  seen_held (Acts.changes_names hand doer change) history among = absurd (all_of IsUnseen (NamesChanged change ∷ []) (HeapSeen index history) among (tt, tt))
  seen_held (Acts.holds_names held doer after taken given trace steps inner changes) history among =
      elim (Contains-cases _ (HeapSeen index history) trace among) [
        | inl same ↦ cc
        | inr later ↦ seen_held inner history later
      ]
  seen_held (Acts.sees_heap doer heap pen few) history among =
      elim (Contains-cases (HeapSeen heap.plain.index heap.history) (HeapSeen index history) [] among) [
        | inl same ↦
            let its : heap.plain.index ≡ index = cc in
            (subst (Contains (heap.plain.index ∷ [])) its (Contains-here heap.plain.index []), omega (arith, few, its))
        | inr none ↦ absurd (Contains-none (HeapSeen index history) none)
      ]
  seen_held (Acts.looks_at_segs doer heap taken) history among = absurd (Contains-none (HeapSeen index history) among)
  seen_held (Acts.plans_range doer heap addr len page taken) history among =
      absurd (all_of IsUnseen (RangePlanned addr len page (range_plan addr len page taken) ∷ []) (HeapSeen index history) among (tt, tt))
  seen_held (Acts.claims doer heap chunk taken plan) history among =
      absurd (all_of IsUnseen (RangePlanned chunk.addr chunk.len chunk.page (Ok chunk.list) ∷ NamesChanged (OfHeaps (Range heap chunk.addr chunk.len chunk.page))
      ∷ Called heap (heap_call.Chunk chunk) gives.Done ∷ []) (HeapSeen index history) among (tt, (tt, (tt, tt))))
  seen_held (Acts.releases doer heap chunk taken) history among =
      absurd (all_of IsUnseen (NamesChanged (OfHeaps (RangeGone heap chunk.addr)) ∷ Called heap (heap_call.Unchunk chunk.addr chunk.len) gives.Done ∷ []) (HeapSeen index history) among (tt, (tt, tt)))
  seen_held (Acts.maps_chunk doer heap chunk after ended did) history among =
      absurd (all_of IsUnseen (ChunkMapped chunk ended ∷ []) (HeapSeen index history) among (tt, tt))
  seen_held (Acts.shares doer heap chunk same) history among = absurd (all_of IsUnseen (Called heap (heap_call.Share chunk.addr chunk.len) gives.Done ∷ []) (HeapSeen index history) among (tt, tt))
  seen_held (Acts.leaves doer heap chunk after did) history among =
      absurd (all_of IsUnseen (Called heap (heap_call.Unshare chunk.addr chunk.len) gives.Done ∷ []) (HeapSeen index history) among (tt, tt))
  seen_held (Acts.and_then hand between last held more doer mid after first rest before behind one two) history among =
      elim (Contains-append_cases first rest (HeapSeen index history) among) [
        | inl early ↦
            let its = seen_held one history early in
            (Contains-append_left held more index its.0, its.1)
        | inr late ↦
            let its = seen_held two history late in
            (Contains-append_right held more index its.0, its.1)
      ]

  module _ (few : index < MAX_HEAPS) where
    no_names : NAMES_SLOT ≡ index → ⊥
    no_names is = omega (arith, few, is)

    -- a heap that is neither in hand nor taken is not given back
    acts_apart : {hand last : Option ℕ} {held : List ℕ} {doer after : ParticipantView} {trace : List Done} {steps : List MailStep}
        → Acts count hand last held doer after trace steps → (hand ≡ Some index → ⊥) → (Contains held index → ⊥)
        → AllByRecursion (IsApart index) steps
    acts_apart (Acts.nothing hand doer) empty never = tt
    acts_apart (Acts.waits_turn until doer after moved steps turned) empty never =
        none_apart index steps (turn_none (denials_of doer.context.standing) count until doer.party after steps moved turned)
    acts_apart (Acts.takes_heap doer heap pen few) empty never = (tt, tt)
    acts_apart (Acts.gives_heap doer heap pen) empty never = (tt, (λ same. empty (ap Some same), tt))
    acts_apart (Acts.makes_call doer heap call answer none) empty never = tt
    acts_apart (Acts.cuts_run doer heap addr run taken) empty never = (tt, (tt, tt))
    acts_apart (Acts.asks_pages doer after asked run steps does) empty never =
        none_apart index steps (ask_none (denials_of doer.context.standing) count doer.party after asked steps run does)
    acts_apart (Acts.notifies_run doer after heap run steps does) empty never =
        none_apart index steps (notice_none (denials_of doer.context.standing) count doer.party after heap run steps does)
    acts_apart (Acts.attaches doer after taken caught tried) empty never =
        let giving : List MailStep = gives_segments (after_attaching doer.party.me caught taken) ∷ [] in
        let steps : List MailStep = takes_segments taken ∷ (acks_after caught (length taken.log) ++ giving) in
        let last : GiveNoHeap giving = (tt, tt) in
        let no_heap : GiveNoHeap steps =
        (tt, none_both (acks_after caught (length taken.log)) giving (acks_none caught (length taken.log)) last) in
        none_apart index steps no_heap
    acts_apart (Acts.detaches doer taken told above left bare heard) empty never = (tt, (tt, (tt, tt)))
    acts_apart (Acts.notes_left doer elements) empty never = tt
    acts_apart (Acts.reads_names doer names) empty never = (tt, (no_names, tt))
    acts_apart (Acts.looks_up_lines doer other lines) empty never = (tt, tt)
    acts_apart (Acts.reads_stats doer heap pair) empty never = (tt, tt)
    acts_apart (Acts.changes_names hand doer change) empty never = tt
    acts_apart (Acts.holds_names held doer after taken given trace steps inner changes) empty never =
        (tt, all_both (IsApart index) steps (Gives NAMES_SLOT (Names given) ∷ []) (acts_apart inner empty never) (no_names, tt))
    acts_apart (Acts.sees_heap doer heap pen few) empty never = (tt, tt)
    acts_apart (Acts.looks_at_segs doer heap taken) empty never = (tt, (tt, tt))
    acts_apart (Acts.plans_range doer heap addr len page taken) empty never = (tt, (tt, tt))
    acts_apart (Acts.claims doer heap chunk taken plan) empty never = (tt, (tt, tt))
    acts_apart (Acts.releases doer heap chunk taken) empty never = (tt, (tt, tt))
    acts_apart (Acts.maps_chunk doer heap chunk after ended did) empty never = tt
    acts_apart (Acts.shares doer heap chunk same) empty never = tt
    acts_apart (Acts.leaves doer heap chunk after did) empty never = tt
    acts_apart (Acts.and_then hand between last held more doer mid after first rest before behind one two) empty never =
        all_both (IsApart index) before behind
        (acts_apart one empty (λ early. never (Contains-append_left held more index early)))
        (acts_apart two (λ is. in_hand is (hand_held count one index is)) (λ late. never (Contains-append_right held more index late)))
      where
        in_hand : between ≡ Some index → (hand ≡ Some index) ⊎ Contains held index → ⊥
        in_hand is (inl was) = empty was
        in_hand is (inr took) = never (Contains-append_left held more index took)

    module _ (who : ℕ) (kept : Kept) (none : IsNoSegs kept) where
      beside : (slot : ℕ) (given last : Kept) (steps : List MailStep) → (slot ≡ index → ⊥) → (AreAlong index who kept steps last → last ≡ kept)
          → AreAlong index who (cond (slot == index) given kept) steps last → last ≡ kept
      beside slot given last steps never further along = by_test (slot == index) refl along
        where
          by_test : (b : Bool) → (slot == index) ≡ b → AreAlong index who (cond b given kept) steps last → last ≡ kept
          by_test true is along = absurd (never (eqb-true slot index is))
          by_test false is along = further along

      -- so its slot keeps what it did
      still : (steps : List MailStep) (last : Kept) → AllByRecursion (IsApart index) steps → AreAlong index who kept steps last → last ≡ kept
      still [] last apart along = along
      still (Posts to frame action posted ∷ steps) last apart along = still steps last apart.1 along.1
      still (Fetches frame ∷ steps) last apart along = still steps last apart.1 along.1
      still (Notes note ∷ steps) last apart along = still steps last apart.1 along.1
      still (Takes slot taken ∷ steps) last apart along = still steps last apart.1 along.1
      still (Gives slot (Heap heap pen) ∷ steps) last apart along =
          beside slot (Heap heap pen) last steps apart.0 (λ next. still steps last apart.1 next) along.1
      still (Gives slot (Names names) ∷ steps) last apart along =
          beside slot (Names names) last steps apart.0 (λ next. still steps last apart.1 next) along.1
      still (Gives slot (Segments segs) ∷ steps) last apart along =
          beside slot (Segments segs) last steps (λ is. no_segs_given who kept (Segments segs) (along.0 is) none)
          (λ next. still steps last apart.1 next) along.1

      split_along : (before : Kept) (xs ys : List MailStep) (last : Kept) → AreAlong index who before (xs ++ ys) last
          → (mid : Kept) × AreAlong index who before xs mid × AreAlong index who mid ys last
      split_along before [] ys last along = (before, refl, along)
      split_along before (step ∷ xs) ys last along =
          let rest = split_along (kept_after index before step) xs ys last along.1 in
          (rest.0, (along.0, rest.1), rest.2)

      -- THE STATE THAT IS HANDED

      abbrev IsCallOf : OwnCall → Type 0
      IsCallOf own = own.heap ≡ index

      abbrev IsSeenSo : List Done → Type 0
      IsSeenSo trace = (first rest : List Done) (history : List Entry) → trace ≡ first ++ HeapSeen index history ∷ rest
          → (history ≡ history_of kept) × ((own : OwnCall) → Contains (calls_in first) own → IsCallOf own → ⊥)

      unseen : (trace first rest : List Done) (history : List Entry) → trace ≡ first ++ HeapSeen index history ∷ rest
          → AllByRecursion IsUnseen trace → (history ≡ history_of kept) × ((own : OwnCall) → Contains (calls_in first) own → IsCallOf own → ⊥)
      unseen trace first rest history at all =
          absurd (all_at IsUnseen first (HeapSeen index history) rest (subst (AllByRecursion IsUnseen) at all))

      named_seen : (done : Done) (trace : List Done) → IsUnseen done → calls_in (done ∷ []) ≡ [] → IsSeenSo trace → IsSeenSo (done ∷ trace)
      named_seen done trace un no_call so [] rest history at =
          let same : done ≡ HeapSeen index history = cc in
          absurd (subst IsUnseen same un)
      named_seen done trace un no_call so (one ∷ first) rest history at =
          let same : one ≡ done = cc in
          let further : trace ≡ first ++ HeapSeen index history ∷ rest = cc in
          let its = so first rest history further in
          let calls : calls_in (one ∷ first) ≡ calls_in first =
          calls_on (one ∷ []) first ∙ ap (λ (calls : List OwnCall). calls ++ calls_in first)
          (ap (λ (one : Done). calls_in (one ∷ [])) same ∙ no_call) in
          (its.0, λ own among. its.1 own (subst (λ (calls : List OwnCall). Contains calls own) calls among))

      seen_one : (heap : ℕ) (was : List Entry) (held : Kept) → history_of held ≡ was → (heap ≡ index → held ≡ kept)
          → IsSeenSo (HeapSeen heap was ∷ [])
      seen_one heap was held its shown [] rest history at =
          let same : heap ≡ index = cc in
          let own : was ≡ history = cc in
          (sym own ∙ sym its ∙ ap history_of (shown same), λ own among is. Contains-none own among)
      seen_one heap was held its shown (one ∷ first) rest history at =
          let further : [] ≡ first ++ HeapSeen index history ∷ rest = cc in
          absurd (nothing_there first rest further)
        where
          nothing_there : (first rest : List Done) → [] ≡ first ++ HeapSeen index history ∷ rest → ⊥
          nothing_there [] rest is = cc
          nothing_there (done ∷ first) rest is = cc

      seen_both : (xs ys : List Done) → IsSeenSo xs → ((history : List Entry) → Contains ys (HeapSeen index history) → IsSeenSo ys)
          → ((history : List Entry) → Contains ys (HeapSeen index history) → (own : OwnCall) → Contains (calls_in xs) own → IsCallOf own → ⊥)
          → IsSeenSo (xs ++ ys)
      seen_both xs ys early late calls first rest history at = by_place (either_of xs ys first (HeapSeen index history) rest at)
        where
          by_place : IsEither xs ys first (HeapSeen index history) rest
              → (history ≡ history_of kept) × ((own : OwnCall) → Contains (calls_in first) own → IsCallOf own → ⊥)
          by_place (IsEither.in_first more is) = early first more history is
          by_place (IsEither.in_second mid first_is is) =
              let among : Contains ys (HeapSeen index history) =
              subst (λ (ys : List Done). Contains ys (HeapSeen index history)) (sym is) (among_at mid (HeapSeen index history) rest) in
              let its = late history among mid rest history is in (
                its.0,
                λ own there. by_call own (Contains-append_cases (calls_in xs) (calls_in mid) own
                    (subst (λ (calls : List OwnCall). Contains calls own) (ap calls_in first_is ∙ calls_on xs mid) there)) among its.1,
              )
            where
              by_call : (own : OwnCall) → Contains (calls_in xs) own ⊎ Contains (calls_in mid) own → Contains ys (HeapSeen index history)
                  → ((own : OwnCall) → Contains (calls_in mid) own → IsCallOf own → ⊥) → IsCallOf own → ⊥
              by_call own (inl here) among there is = calls history among own here is
              by_call own (inr here) among there is = there own here is

      pub acts_seen : {hand last : Option ℕ} {held : List ℕ} {doer after : ParticipantView} {trace : List Done} {steps : List MailStep}
          → Acts count hand last held doer after trace steps → (hand ≡ Some index → ⊥) → AreOnce held → (end : Kept)
          → AreAlong index who kept steps end → IsSeenSo trace
      acts_seen (Acts.nothing hand doer) empty once end along front back history at =
          unseen [] front back history at tt
      acts_seen (Acts.waits_turn until doer after moved steps turned) empty once end along front back history at =
          unseen [] front back history at tt
      acts_seen (Acts.takes_heap doer heap pen few) empty once end along front back history at =
          unseen [] front back history at tt
      acts_seen (Acts.gives_heap doer heap pen) empty once end along front back history at =
          unseen [] front back history at tt
      acts_seen (Acts.makes_call doer heap call answer none) empty once end along front back history at =
          unseen (Called heap call answer ∷ []) front back history at (tt, tt)
      acts_seen (Acts.cuts_run doer heap addr run taken) empty once end along front back history at =
          unseen (Called heap (heap_call.Cut addr) (gives.Pages run) ∷ []) front back history at (tt, tt)
      acts_seen (Acts.asks_pages doer after asked run steps does) empty once end along front back history at =
          unseen (Asked asked run ∷ []) front back history at (tt, tt)
      acts_seen (Acts.notifies_run doer after heap run steps does) empty once end along front back history at =
          unseen (GaveUp heap run ∷ []) front back history at (tt, tt)
      acts_seen (Acts.attaches doer after taken caught tried) empty once end along front back history at =
          unseen (Looked (length taken.log) ∷ CaughtUp (length taken.log) caught ∷ []) front back history at (tt, (tt, tt))
      acts_seen (Acts.detaches doer taken told above left bare heard) empty once end along front back history at =
          unseen [] front back history at tt
      acts_seen (Acts.notes_left doer elements) empty once end along front back history at =
          unseen [] front back history at tt
      acts_seen (Acts.reads_names doer names) empty once end along front back history at =
          unseen (NamesRead (shared_of names) ∷ []) front back history at (tt, tt)
      acts_seen (Acts.looks_up_lines doer other lines) empty once end along front back history at =
          unseen [] front back history at tt
      acts_seen (Acts.reads_stats doer heap pair) empty once end along front back history at =
          unseen (StatsRead heap (counted_in pair) ∷ []) front back history at (tt, tt)
      acts_seen (Acts.changes_names hand doer change) empty once end along front back history at =
          unseen (NamesChanged change ∷ []) front back history at (tt, tt)
      acts_seen (Acts.holds_names held doer after taken given trace steps inner changes) empty once end along front back history at =
          let parts = split_along kept steps (Gives NAMES_SLOT (Names given) ∷ []) end along.1 in
          named_seen (NamesRead (shared_of taken)) trace tt refl (acts_seen inner empty once parts.0 parts.1) front back history at
      acts_seen (Acts.sees_heap doer heap pen few) empty once end along front back history at =
          seen_one heap.plain.index heap.history (Heap heap pen) refl along.0 front back history at
      acts_seen (Acts.looks_at_segs doer heap taken) empty once end along front back history at =
          unseen [] front back history at tt
      acts_seen (Acts.plans_range doer heap addr len page taken) empty once end along front back history at =
          unseen (RangePlanned addr len page (range_plan addr len page taken) ∷ []) front back history at (tt, tt)
      acts_seen (Acts.claims doer heap chunk taken plan) empty once end along front back history at =
          unseen (RangePlanned chunk.addr chunk.len chunk.page (Ok chunk.list) ∷ NamesChanged (OfHeaps (Range heap chunk.addr chunk.len chunk.page))
          ∷ Called heap (heap_call.Chunk chunk) gives.Done ∷ []) front back history at (tt, (tt, (tt, tt)))
      acts_seen (Acts.releases doer heap chunk taken) empty once end along front back history at =
          unseen (NamesChanged (OfHeaps (RangeGone heap chunk.addr)) ∷ Called heap (heap_call.Unchunk chunk.addr chunk.len) gives.Done ∷ []) front back history at (tt, (tt, tt))
      acts_seen (Acts.maps_chunk doer heap chunk after ended did) empty once end along front back history at =
          unseen (ChunkMapped chunk ended ∷ []) front back history at (tt, tt)
      acts_seen (Acts.shares doer heap chunk same) empty once end along front back history at =
          unseen (Called heap (heap_call.Share chunk.addr chunk.len) gives.Done ∷ []) front back history at (tt, tt)
      acts_seen (Acts.leaves doer heap chunk after did) empty once end along front back history at =
          unseen (Called heap (heap_call.Unshare chunk.addr chunk.len) gives.Done ∷ []) front back history at (tt, tt)
      acts_seen (Acts.and_then hand between last held more doer mid after first rest before behind one two) empty once end along front back history at =
          let parts = split_along kept before behind end along in
          seen_both first rest (acts_seen one empty (once_front held more once) parts.0 parts.1)
          (λ history among.
          let took = (seen_held two history among).0 in
          let apart = acts_apart one empty (λ early. once_apart index held more once early took) in
          acts_seen two (λ is. in_hand took (hand_held count one index is)) (once_behind held more once) end
          (subst (λ (mid : Kept). AreAlong index who mid behind end) (still before parts.0 apart parts.1) parts.2))
          (λ history among own called is.
          let took = (seen_held two history among).0 in
          in_hand took (by_call own is (calls_held count one own called)))
          front back history at
        where
          in_hand : Contains more index → (hand ≡ Some index) ⊎ Contains held index → ⊥
          in_hand took (inl was) = empty was
          in_hand took (inr early) = once_apart index held more once early took

          by_call : (own : OwnCall) → own.heap ≡ index → (hand ≡ Some own.heap) ⊎ Contains held own.heap
              → (hand ≡ Some index) ⊎ Contains held index
          by_call own is (inl was) = inl (was ∙ ap Some is)
          by_call own is (inr early) = inr (subst (Contains held) is early)
