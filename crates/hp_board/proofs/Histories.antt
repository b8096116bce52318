-- Entries that are numbered on, and whose entries a history has.
use Rattle.std.proofs.Common.{◌≡◌, ◌≢◌, ℕ, suc, ◌+◌, ◌<◌, eqb, eq-eqb, ne_eqb, List, [], ◌∷◌, ◌++◌, drop, length, Some, refl, sym, ap, subst, ◌∙◌, arith}
use Rattle.std.specs.Prelude.{⊤}
use Rattle.std.specs.List.{All}
use Rattle.std.proofs.lemmas.Bool.{cond-true, cond-false}
use Rattle.std.proofs.lemmas.List.{append_assoc, append-nil}
use Rattle.std.proofs.lemmas.List.Elements.{filter-append}
use Rattle.std.proofs.Math.Seq.{drop-append_seam}
use Rattle.hp_heap.specs.declared.entry.Entry.{Entry}
use Rattle.hp_heap.specs.History.{HeapView, entries_of}
use Rattle.hp_hall.specs.declared.kept.Kept.{Kept}
use Rattle.hp_hall.specs.declared.kept.Kept.TheVariants.{Heap, Names, Segments}
use Rattle.hp_zone.specs.declared.names.Names.{Names as NamesView}
use Rattle.hp_hall.specs.HeapPairs.{KeepsPen}
use Rattle.hp_hall.specs.Views.{AreOfOneKind, HeldHeap}
use Rattle.hp_hall.proofs.OneKind.{by_kind}
use Rattle.hp_board.specs.declared.opening.Opening.{Opening}
use Rattle.hp_board.specs.Giving.{GivesAt, GivesHeldAt}
use Rattle.hp_board.specs.Knowing.{knows_of}
use Rattle.hp_board.specs.KeptValues.{IsKeptAt, entries_added}
use Rattle.hp_board.specs.declared.view.Mine.{Mine}
use Rattle.hp_hall.specs.Giving.{IsNumbered}
use Rattle.hp_segs.specs.SegsView.{SegsView}
use Rattle.hp_hall.specs.Values.{history_of, IsSoundKept}
use Rattle.hp_board.specs.declared.words.TheConstants.{SLOTS}
use Rattle.hp_board.specs.Views.{BeginsWith}
use Rattle.hp_board.proofs.Counted.{made_counted}
use Rattle.hp_board.proofs.OwnershipFacts.GivenTaken.{by_gives}

pub entries_of-append : (who : ℕ) (xs ys : List Entry) → entries_of who (xs ++ ys) ≡ entries_of who xs ++ entries_of who ys
unfolding entries_of
entries_of-append who xs ys = filter-append (λ (entry : Entry). eqb entry.caller.participant who) xs ys

pub entries_of-nil : (who : ℕ) → entries_of who [] ≡ []
unfolding entries_of
entries_of-nil who = refl

-- all entries that are numbered on are their maker's
pub entries_of-own : (who count : ℕ) (entries : List Entry) → IsNumbered who count entries → entries_of who entries ≡ entries
unfolding entries_of
entries_of-own who count [] numbered = refl
entries_of-own who count (entry ∷ entries) numbered =
    cond-true (eqb entry.caller.participant who) (entry ∷ entries_of who entries) (entries_of who entries) (eq-eqb entry.caller.participant who (ap (λ c. c.participant) numbered.0))
    ∙ ap (λ rest. entry ∷ rest) (entries_of-own who (count + 1) entries numbered.1)

-- and nobody else's
pub entries_of-other : (who other count : ℕ) (entries : List Entry) → other ≢ who → IsNumbered who count entries → entries_of other entries ≡ []
unfolding entries_of
entries_of-other who other count [] apart numbered = refl
entries_of-other who other count (entry ∷ entries) apart numbered =
    cond-false (eqb entry.caller.participant other) (entry ∷ entries_of other entries) (entries_of other entries)
    (ne_eqb entry.caller.participant other (λ same. apart (sym same ∙ ap (λ c. c.participant) numbered.0)))
    ∙ entries_of-other who other (count + 1) entries apart numbered.1

pub IsNumbered-append : (who count : ℕ) (xs ys : List Entry) → IsNumbered who count xs → IsNumbered who (count + length xs) ys → IsNumbered who count (xs ++ ys)
IsNumbered-append who count [] ys front rest = let same : count + 0 ≡ count = omega arith in subst (λ (n : ℕ). IsNumbered who n ys) same rest
IsNumbered-append who count (x ∷ xs) ys front rest =
    let same : count + suc (length xs) ≡ (count + 1) + length xs = omega arith in
    (front.0, IsNumbered-append who (count + 1) xs ys front.1 (subst (λ (n : ℕ). IsNumbered who n ys) same rest))

-- a heap opened as the taken one, and its history is that one's and entries of the giver alone, numbered on from those that it had made
pub record AddsCalls (who count : ℕ) (taken given : HeapView) : Type 0 where
  pub index : given.plain.index ≡ taken.plain.index
  pub serves : given.plain.serves ≡ taken.plain.serves
  pub own : List Entry
  pub history : given.history ≡ taken.history ++ own
  pub numbered : IsNumbered who count own

-- and nothing but pairs of it was published, by its own pen
pub record AddsHeld (who count : ℕ) (taken given : HeldHeap) : Type 0 where
  pub calls : AddsCalls who count taken.heap given.heap
  pub pen : KeepsPen taken.pen given.heap given.pen

-- names are of one directory's sockets
abbrev pub HaveOneSockets : NamesView → NamesView → Type 0
HaveOneSockets taken given = given.heaps.sockets ≡ taken.heaps.sockets

-- what histories ask of a give: entries of the giver alone come to that of a heap; a segment value has none, nor have names, which keep their
-- sockets
abbrev pub GivesCalls : ℕ → ℕ → Kept → Kept → Type 0
GivesCalls who count = AreOfOneKind (AddsHeld who count) (λ taken given. ⊤) HaveOneSockets

pub gives_calls : (mine : Mine) (taken given : Kept) → All (λ pair. pair.0 < SLOTS) mine.made → GivesAt (knows_of mine) taken given
    → GivesCalls mine.who (length mine.made) taken given
gives_calls mine taken given placed =
    by_gives (knows_of mine) (GivesCalls mine.who (length mine.made)) of_heap (λ taken given gives. tt) (λ taken given gives. gives.names.goes_on.sockets) taken given
  where
    of_heap : (taken given : HeldHeap) → GivesHeldAt (knows_of mine) taken given → AddsHeld mine.who (length mine.made) taken given
    of_heap taken given gives = record {
      calls = record {
        index = gives.heap.index;
        serves = gives.heap.serves;
        own = gives.heap.own;
        history = gives.heap.history;
        numbered = subst (λ (n : ℕ). IsNumbered mine.who n gives.heap.own) (made_counted mine placed) gives.heap.numbered;
      };
      pen = gives.pen;
    }

-- what follows from that for heaps, for segment values and for names follows
by_calls : (who count : ℕ) (P : Kept → Kept → Type 0)
    → ((taken given : HeldHeap) → AddsHeld who count taken given → P (Heap taken.heap taken.pen) (Heap given.heap given.pen))
    → ((taken given : SegsView) → P (Segments taken) (Segments given)) → ((taken given : NamesView) → HaveOneSockets taken given → P (Names taken) (Names given))
    → (taken given : Kept) → GivesCalls who count taken given → P taken given
by_calls who count P heaps segs names =
    by_kind (AddsHeld who count) (λ taken given. ⊤) HaveOneSockets P heaps (λ taken given _. segs taken given) names

-- what a giver added to the history of a taken value
pub record IsAdded (who count : ℕ) (taken given : Kept) : Type 0 where
  pub own : List Entry
  pub history : history_of given ≡ history_of taken ++ own
  pub numbered : IsNumbered who count own
  pub added : entries_added (Some taken) given ≡ own

pub added : (who count : ℕ) (taken given : Kept) → GivesCalls who count taken given → IsAdded who count taken given
added who count =
    by_calls who count (IsAdded who count) of_heap (λ taken given. record { own = []; history = refl; numbered = tt; added = refl })
    (λ taken given same. record { own = []; history = refl; numbered = tt; added = refl })
  where
    of_heap : (taken given : HeldHeap) → AddsHeld who count taken given → IsAdded who count (Heap taken.heap taken.pen) (Heap given.heap given.pen)
    of_heap taken given gives = record {
      own = gives.calls.own;
      history = gives.calls.history;
      numbered = gives.calls.numbered;
      added =
          ap (λ (entries : List Entry). drop (length taken.heap.history) entries) gives.calls.history
          ∙ drop-append_seam taken.heap.history gives.calls.own;
    }

-- a given value is the slot's, as the taken one was
pub given_at : (opening : Opening) (slot who count : ℕ) (taken given : Kept) → GivesCalls who count taken given → IsSoundKept given → IsKeptAt opening slot taken → IsKeptAt opening slot given
given_at opening slot who count =
    by_calls who count (λ taken given. IsSoundKept given → IsKeptAt opening slot taken → IsKeptAt opening slot given) of_heap
    (λ taken given sound at. record { last = at.last; sound = sound })
    (λ taken given same sound at. record { last = at.last; zones = sound.0; heaps = sound.1; sockets = same ∙ at.sockets })
  where
    of_heap : (taken given : HeldHeap) → AddsHeld who count taken given → IsSoundKept (Heap given.heap given.pen)
        → IsKeptAt opening slot (Heap taken.heap taken.pen) → IsKeptAt opening slot (Heap given.heap given.pen)
    of_heap taken given gives sound at = record {
      heap = record {
        below = at.heap.below;
        sound = sound;
        index = gives.calls.index ∙ at.heap.index;
        serves = at.heap.serves ∙ ap (λ s. Some s) (sym gives.calls.serves);
      };
      pen = record { cell = at.pen.cell ∙ ap (λ c. Some c) (sym gives.pen.cell); pairs = gives.pen.pairs };
    }

pub begins : (history : List Entry) → BeginsWith history history
begins history = ([], sym (append-nil history))

-- a history that goes on begins with what it began with
pub begins-on : (history own front : List Entry) → BeginsWith history front → BeginsWith (history ++ own) front
begins-on history own front is = (is.0 ++ own, ap (λ h. h ++ own) is.1 ∙ append_assoc front is.0 own)
