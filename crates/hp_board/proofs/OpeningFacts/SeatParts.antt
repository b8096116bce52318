-- What a participant's takes and gives are to a hall: its parts in the heaps after them.
use Rattle.std.proofs.Common.{◌≡◌, ◌≢◌, ◌∙◌, ℕ, zero, suc, List, [], ◌++◌, drop, length, Option, Some, None, unwrap_or, refl, sym, ap, subst}
use Rattle.std.specs.Option.{option_map}
use Rattle.std.proofs.lemmas.List.{append-nil}
use Rattle.hp_base.specs.declared.chunk.Chunk.{Chunk}
use Rattle.hp_heap.specs.History.{HeapView, entries_of}
use Rattle.hp_heap.specs.declared.entry.Entry.{Entry}
use Rattle.hp_stats.specs.StatViews.{PenView}
use Rattle.hp_segs.specs.Standing.{Holding}
use Rattle.hp_hall.specs.Holding.{HeapPart, IsGivenAs, IsTakenAs}
use Rattle.hp_hall.specs.Naming.{Naming, marked_by, naming_of}
use Rattle.hp_hall.specs.Values.{Fits, history_of}
use Rattle.hp_hall.specs.declared.kept.Kept.{Kept}
use Rattle.hp_hall.specs.declared.kept.Kept.TheVariants.{Heap, Names, Segments}
use Rattle.hp_board.specs.Handed.{HasTakenOut}
use Rattle.hp_board.specs.Knowing.{heap_part}
use Rattle.hp_board.specs.KeptValues.{entries_added}
use Rattle.hp_board.specs.Views.{Learned, after_give, after_take, made_in, marked_in, namings_after, under, value_of, values_of, without}
use Rattle.hp_board.specs.declared.view.Mine.{Mine}
use Rattle.hp_board.proofs.OwnershipFacts.Holders.{holdings_told}
use Rattle.hp_board.proofs.NamesFacts.Renamed.{renamed_else, renamed_here}
use Rattle.hp_board.proofs.Pairs.{value_of-else, value_of-here, value_of-without, value_of-without_else, values_of-append, values_of-under_else}

-- a part with other entries, other marks, another holding and another naming
abbrev part_with : HeapPart → List Entry → List Chunk → Option Holding → HeapPart
part_with part entries marked holding = record part { entries = entries; marked = marked; holding = holding }

abbrev part_named : HeapPart → List Entry → List Chunk → Option Holding → Option Naming → HeapPart
part_named part entries marked holding naming = record part { entries = entries; marked = marked; holding = holding; naming = naming }

-- a value was taken
taken_by : (mine : Mine) (slot : ℕ) (kept : Kept) (learned : Learned) → Fits slot kept → IsTakenAs kept (heap_part mine) (heap_part (after_take slot kept learned mine))
taken_by mine slot (Heap heap pen) learned fits = (
  record { entries = refl; marked = refl; serves = refl; untold = refl; naming = refl; armed = refl; claims = refl },
  λ other apart. ap (part_with (heap_part mine other) (made_in other mine) (marked_in other mine)) (value_of-else slot other learned.holding mine.holdings (λ same. apart (same ∙ sym fits.0))),
)
taken_by mine slot (Segments segs) learned fits = λ heap. refl
taken_by mine slot (Names names) learned fits = λ heap. record { entries = refl; marked = refl; serves = refl; holding = refl; told = refl; armed = refl }

pub parts_taken : (mine after : Mine) (slot : ℕ) (kept : Kept) → Fits slot kept → HasTakenOut slot kept mine after → IsTakenAs kept (heap_part mine) (heap_part after)
parts_taken mine after slot kept fits taken =
    subst (λ (m : Mine). IsTakenAs kept (heap_part mine) (heap_part m)) (sym taken.view) (taken_by mine slot kept taken.learned fits)

module _ (mine : Mine) (slot : ℕ) where
  -- a segment value brings no entry, nor do names
  none_dropped : (n : ℕ) → drop {A = Entry} n [] ≡ []
  none_dropped zero = refl
  none_dropped (suc n) = refl

  none_added : (given : Kept) → history_of given ≡ [] → (held : Option Kept) → entries_added held given ≡ []
  none_added given none None = refl
  none_added given none (Some taken) = ap (drop (length (history_of taken))) none ∙ none_dropped (length (history_of taken))

  made_still : (given : Kept) → history_of given ≡ [] → (heap : ℕ) → made_in heap (after_give slot given mine) ≡ made_in heap mine
  made_still given none heap =
      ap (λ (entries : List Entry). values_of heap (mine.made ++ under slot entries)) (none_added given none (value_of slot mine.held))
      ∙ ap (values_of heap) (append-nil mine.made)

  -- a heap brings entries to its own slot alone
  made_apart : (given : HeapView) (pen : PenView) (other : ℕ) → other ≢ slot → made_in other (after_give slot (Heap given pen) mine) ≡ made_in other mine
  made_apart given pen other apart =
      let more : List Entry = entries_added (value_of slot mine.held) (Heap given pen) in
      values_of-append other mine.made (under slot more)
      ∙ (ap (λ (l : List Entry). made_in other mine ++ l) (values_of-under_else slot other more apart) ∙ append-nil (made_in other mine))

  -- a value was given, which has of the giver the entries that it made there
  pub parts_given : (given : Kept) → Fits slot given → entries_of mine.who (history_of given) ≡ made_in slot (after_give slot given mine)
      → IsGivenAs mine.who given (heap_part mine) (heap_part (after_give slot given mine))
  parts_given (Heap given pen) fits own =
      let index = given.plain.index in
      let entries : made_in index (after_give slot (Heap given pen) mine) ≡ entries_of mine.who given.history =
      ap (λ (k : ℕ). made_in k (after_give slot (Heap given pen) mine)) fits.0 ∙ sym own in
      let none : value_of index (without slot mine.holdings) ≡ None = ap (λ (k : ℕ). value_of k (without slot mine.holdings)) fits.0 ∙ value_of-without slot mine.holdings in
      let marked : marked_in index (after_give slot (Heap given pen) mine) ≡ marked_by mine.who given.plain =
      ap (λ (k : ℕ). marked_in k (after_give slot (Heap given pen) mine)) fits.0
      ∙ ap (λ (o : Option (List Chunk)). unwrap_or o []) (value_of-here slot (marked_by mine.who given.plain) mine.marked) in
      let now : Option Naming = value_of index (namings_after slot (Heap given pen) mine.namings) in
      let naming : now ≡ option_map (λ (n : Naming). naming_of given.plain) (value_of index mine.namings) =
      ap (λ (k : ℕ). value_of k (namings_after slot (Heap given pen) mine.namings)) fits.0 ∙ renamed_here slot (naming_of given.plain) mine.namings
      ∙ ap (λ (k : ℕ). option_map (λ (n : Naming). naming_of given.plain) (value_of k mine.namings)) (sym fits.0) in (
        ap (λ (l : List Entry). part_named (heap_part mine index) l (marked_in index (after_give slot (Heap given pen) mine)) (value_of index (without slot mine.holdings)) now) entries
            ∙ ap (λ (l : List Chunk). part_named (heap_part mine index) (entries_of mine.who given.history) l (value_of index (without slot mine.holdings)) now) marked
            ∙ ap (λ (h : Option Holding). part_named (heap_part mine index) (entries_of mine.who given.history) (marked_by mine.who given.plain) h now) none
            ∙ ap (part_named (heap_part mine index) (entries_of mine.who given.history) (marked_by mine.who given.plain) None) naming,
        λ other apart.
            let away : other ≢ slot = λ same. apart (same ∙ sym fits.0) in
            let now : Option Naming = value_of other (namings_after slot (Heap given pen) mine.namings) in
            ap (λ (l : List Entry). part_named (heap_part mine other) l (marked_in other (after_give slot (Heap given pen) mine)) (value_of other (without slot mine.holdings)) now)
            (made_apart given pen other away)
            ∙ ap (λ (l : List Chunk). part_named (heap_part mine other) (made_in other mine) l (value_of other (without slot mine.holdings)) now)
            (ap (λ (o : Option (List Chunk)). unwrap_or o []) (value_of-else slot other (marked_by mine.who given.plain) mine.marked away))
            ∙ ap (λ (h : Option Holding). part_named (heap_part mine other) (made_in other mine) (marked_in other mine) h now)
            (value_of-without_else slot other mine.holdings away)
            ∙ ap (part_named (heap_part mine other) (made_in other mine) (marked_in other mine) (value_of other mine.holdings))
            (renamed_else slot other (naming_of given.plain) mine.namings away),
      )
  parts_given (Segments segs) fits own = λ heap.
      ap (λ (l : List Entry). record (heap_part (after_give slot (Segments segs) mine) heap) { entries = l }) (made_still (Segments segs) refl heap)
      ∙ ap (λ (h : Option Holding). record (heap_part (after_give slot (Segments segs) mine) heap) { entries = made_in heap mine; holding = h }) (holdings_told heap segs mine.holdings)
  parts_given (Names names) fits own =
      λ heap. record {
        beside = record { entries = made_still (Names names) refl heap; marked = refl; serves = refl; holding = refl; told = refl; armed = refl };
        naming = refl;
        claims = refl;
      }
