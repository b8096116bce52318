-- What was published of a heap stays among its pairs while the heap is called, and so is what is published of it then.
use Rattle.std.proofs.Common.{◌≡◌, List, [], ◌++◌, length, take, le_refl, refl, sym, ap, ap₂, subst, ◌∙◌, ⊎_elim, arith}
use Rattle.std.specs.Prelude.{Contains}
use Rattle.std.proofs.lemmas.List.{append-nil, length-append, take-append-le, take_all}
use Rattle.std.proofs.lemmas.List.Elements.{Contains-append_cases}
use Rattle.hp_heap.specs.declared.entry.Entry.{Entry}
use Rattle.hp_heap.specs.History.{HeapView, StandsFor, opening_of, replay}
use Rattle.hp_heap.specs.PlainHeap.{PlainHeap, opening_heap}
use Rattle.hp_heap.specs.Statistics.{statistics_of}
use Rattle.hp_stats.specs.StatViews.{PenView}
use Rattle.hp_stats.specs.declared.stat_pair.StatPair.{StatPair}
use Rattle.hp_hall.specs.HeapPairs.{ArePairsOf, IsPairOf, IsPenAfter, KeepsPen, pair_of}
use Rattle.hp_hall.proofs.HallStates.{more_then}

-- a heap that goes on from another has the pairs of that
pub pair_later : (old new : HeapView) (own : List Entry) (p : StatPair) → new.plain.index ≡ old.plain.index
    → new.plain.serves ≡ old.plain.serves → new.history ≡ old.history ++ own → IsPairOf old p → IsPairOf new p
pair_later old new own p index serves history is =
    let first : take p.entries new.history ≡ take p.entries old.history =
    ap (take p.entries) history ∙ take-append-le p.entries old.history own is.count in
    let opens : opening_of new.plain ≡ opening_of old.plain = ap₂ opening_heap index serves in
    record {
      count = omega (arith, is.count, ap length history, length-append old.history own);
      stats = is.stats ∙ sym (ap₂ (λ (heap : PlainHeap) (entries : List Entry). statistics_of (replay heap entries)) opens first);
    }

pub pairs_later : (old new : HeapView) (own : List Entry) (pen : PenView) → new.plain.index ≡ old.plain.index
    → new.plain.serves ≡ old.plain.serves → new.history ≡ old.history ++ own → ArePairsOf old pen → ArePairsOf new pen
pairs_later old new own pen index serves history are p has = pair_later old new own p index serves history (are p has)

-- the count of all its entries and its statistics are a pair of a heap
pub newest_pair : (heap : HeapView) → StandsFor heap.plain heap.history → IsPairOf heap (pair_of heap)
newest_pair heap stands =
    let all : take (length heap.history) heap.history ≡ heap.history =
    take_all (length heap.history) heap.history (le_refl (length heap.history)) in
    record {
      count = le_refl (length heap.history);
      stats = ap statistics_of (stands.left ∙ sym (ap (replay (opening_of heap.plain)) all));
    }

-- a pen by which nothing more was published, with the heap as it goes on
pub keeps_pen : (old new : HeapView) (own : List Entry) (pen : PenView) → new.plain.index ≡ old.plain.index
    → new.plain.serves ≡ old.plain.serves → new.history ≡ old.history ++ own → ArePairsOf old pen → KeepsPen pen new pen
keeps_pen old new own pen index serves history are = record {
  cell = refl;
  more = [];
  published = sym (append-nil pen.published);
  pairs = pairs_later old new own pen index serves history are;
}

-- after the pair of a heap is published the pen has still published nothing but pairs of the heap
pub keeps_published : (before pen after : PenView) (heap : HeapView) → StandsFor heap.plain heap.history → KeepsPen before heap pen
    → IsPenAfter (pair_of heap) pen after → KeepsPen before heap after
keeps_published before pen after heap stands keeps goes = record {
  cell = goes.cell ∙ keeps.cell;
  more = keeps.more ++ goes.more;
  published = more_then before.published pen.published after.published keeps.more goes.more keeps.published goes.published;
  pairs = λ p has.
      ⊎_elim
      (λ (early : Contains pen.published p). keeps.pairs p early)
      (λ (late : Contains goes.more p). subst (IsPairOf heap) (sym (goes.only p late)) (newest_pair heap stands))
      (Contains-append_cases pen.published goes.more p (subst (λ (l : List StatPair). Contains l p) goes.published has));
}
