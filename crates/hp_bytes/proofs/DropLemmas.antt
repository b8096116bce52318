-- `drop` does what it does in the plain session.
use Rattle.std.proofs.Common.{◌≡◌, ℕ, ◌+◌, ◌<◌, ◌≤◌, ◌&&◌, Bool, true, false, cond, not, List, length, Contains, Option, Some, None, refl, sym, ap, subst, ◌∙◌, arith}
use Rattle.std.proofs.lemmas.Bool.{and_parts, false≢true, not-true, cases_Bool, cond_both}
use Rattle.std.proofs.lemmas.Option.{same_Some, none-some}
use Rattle.std.proofs.lemmas.Slice.Eq.{bytes_eq-Decides}
use Rattle.std.specs.FinMap as finite
use Rattle.std.specs.List.{filter}
use Rattle.std.specs.Option.{option_map}
use Rattle.std.specs.Str.{bytes_eq}
use Rattle.hp_base.specs.declared.span.Span.{Span}
use Rattle.hp_base.specs.declared.span.SpanState.{SpanState}
use Rattle.hp_base.specs.declared.span.SpanState.TheVariants.{Free, Busy}
use Rattle.hp_base.specs.declared.tag.Caller.{Caller}
use Rattle.hp_heap.specs.PlainHeap.{PlainHeap, segments_of}
use Rattle.hp_heap.specs.Tiling.{IsTiled}
use Rattle.hp_heap.specs.Joining.{busy_at, busy_ranges, after_free, after_free_of, after_insertion, has_tag_state, is_zone_state, is_zone_range}
use Rattle.hp_heap.specs.Step.{after, found, free_answer}
use Rattle.hp_heap.specs.History.{HeapView, IsCall}
use Rattle.hp_heap.specs.declared.entry.HeapAnswer.{HeapAnswer}
use Rattle.hp_heap.specs.declared.entry.HeapAnswer.TheVariants as gives
use Rattle.hp_heap.specs.declared.entry.HeapCall.TheVariants as call
use Rattle.hp_heap.proofs.HistoryFacts.BusyLemmas.{elsewhere}
use Rattle.hp_heap.proofs.FreeFacts.FreeLaw.{frees_alone}
use Rattle.hp_bytes.specs.Stores.{bytes_from, size_at}
use Rattle.hp_bytes.specs.Places.{place_of}
use Rattle.hp_bytes.specs.PlainSession.{Held, PlainSession, Done, drop_done, without_at, without_element, tag_of}
use Rattle.hp_bytes.specs.Sessions.{held_at, labels_held, plain_of, IsSession, Does}
use Rattle.hp_bytes.specs.declared.answer.Answer.TheVariants as answer
use Rattle.hp_bytes.specs.declared.labels.Labels.{Labels}
use Rattle.hp_bytes.specs.declared.labels.Place.{Place}
use Rattle.hp_bytes.specs.declared.line.Line.TheVariants as line
use Rattle.hp_bytes.specs.declared.sessions.Session.{Session}
use Rattle.hp_bytes.proofs.LabelLemmas.{labels_without}
use Rattle.hp_bytes.proofs.LiveLemmas.{session_next, live, addresses_apart, held_is, held_none}
use Rattle.hp_bytes.proofs.StoreLemmas.{size_is}
use Rattle.hp_bytes.proofs.TagLemmas.{IsTaggedAt, tagged_at, others_there, found_others, tags_fewer}

-- a free leaves the segments
free_segments : (addr : ℕ) (zone : Bool) (heap : PlainHeap) → segments_of (after_free addr zone heap) ≡ segments_of heap
unfolding after_free after_insertion
free_segments addr zone heap = of (busy_at addr heap)
  where
    of : (o : Option Span) → segments_of (after_free_of o zone heap) ≡ segments_of heap
    of None = refl
    of (Some range) = cond_both (is_zone_range range && not zone) heap (after_insertion range heap) (λ next. segments_of next ≡ segments_of heap) (λ _. refl) (λ _. refl)

-- an element with the tag of a line is no memzone's
ordinary : (number : ℕ) (state : SpanState) → has_tag_state false number state ≡ true → is_zone_state state ≡ false
ordinary number (Free stamp) is = refl
ordinary number (Busy pad size tag) is = not-true tag.zone (and_parts (not tag.zone) (Rattle.std.proofs.Common.eqb tag.number number) is).0

-- what one more call of a free makes of a heap
pub record IsFree (addr : ℕ) (old new : HeapView) : Type 0 where
  pub heap : new.plain ≡ after_free addr false old.plain
  pub room : new.spare + 1 ≡ old.spare

pub is_free_call : (caller : Caller) (addr : ℕ) (given : HeapAnswer) (old new : HeapView) → IsCall caller (call.Free addr false) given old new → IsFree addr old new
unfolding after
is_free_call caller addr given old new is = record { heap = is.heap; room = is.spare }

module _ (number : ℕ) (label : List ℕ) (state : Session) (session : IsSession number state) (tiled : IsTiled state.heap.plain) where
  pub drop_missing : place_of state.labels label ≡ None → Does number (line.Drop label) state state answer.NoLabel
  drop_missing none = record {
    step = sym (ap (λ (o : Option Held). drop_done label o (plain_of state)) (held_none number state session tiled label none));
    session = session_next number state state.store session refl refl;
    room = omega arith;
  }

  module _ (place : Place) (is : place_of state.labels label ≡ Some place) (heap' : HeapView) (freed : IsFree place.addr state.heap heap') (tiled' : IsTiled heap'.plain)
      (labels' : Labels) (removed : (other : List ℕ) → place_of labels' other ≡ cond (bytes_eq label other) None (place_of state.labels other)) where
    abbrev heap : PlainHeap
    heap = state.heap.plain

    there : found (tag_of place.number) heap ≡ Some place.addr
    there = (session.placed label place is).there

    mine : IsTaggedAt place.number place.addr heap
    mine = tagged_at place.number place.addr heap tiled there

    done : free_answer (busy_at place.addr heap) false ≡ gives.Done
    done = rw (mine.there, ordinary place.number mine.range.state mine.tagged) refl

    fewer : busy_ranges heap'.plain ≡ filter (elsewhere place.addr) (busy_ranges heap)
    fewer = ap busy_ranges freed.heap ∙ (frees_alone place.addr false heap tiled).busy done

    other_place : (other : List ℕ) → bytes_eq other label ≡ false → place_of labels' other ≡ place_of state.labels other
    other_place other differ = removed other ∙ by_test (bytes_eq label other) refl
      where
        by_test : (b : Bool) → bytes_eq label other ≡ b → cond b None (place_of state.labels other) ≡ place_of state.labels other
        by_test true here = absurd (false≢true (sym differ ∙ (bytes_eq-Decides other label).1 (sym ((bytes_eq-Decides label other).0 here))))
        by_test false away = refl

    own_place : place_of labels' label ≡ None
    own_place = removed label ∙ rw ((bytes_eq-Decides label label).1 refl) refl

    -- the other labels' elements are still there
    other_there : (other : List ℕ) (place' : Place) → bytes_eq other label ≡ false → place_of state.labels other ≡ Some place' → size_at place'.addr heap'.plain ≡ size_at place'.addr heap
    other_there other place' differ is' =
        let its = live number state session tiled other place' is' in
        let kept = others_there place.number place.addr heap heap'.plain tiled tiled' there fewer place'.addr its.range (addresses_apart number state session tiled label other place place' is is' differ) its.there in
        size_is heap'.plain place'.addr its.range kept ∙ sym (size_is heap place'.addr its.range its.there)

    other_held : (other : List ℕ) → bytes_eq other label ≡ false
        → option_map (held_at state.store heap'.plain) (place_of labels' other) ≡ option_map (held_at state.store heap) (place_of state.labels other)
    other_held other differ = ap (option_map (held_at state.store heap'.plain)) (other_place other differ) ∙ of (place_of state.labels other) refl
      where
        of : (o : Option Place) → place_of state.labels other ≡ o → option_map (held_at state.store heap'.plain) o ≡ option_map (held_at state.store heap) o
        of None none = refl
        of (Some place') is' = ap (λ (size : ℕ). Some (record { number = place'.number; bytes = bytes_from place'.addr size state.store })) (other_there other place' differ is')

    labels_dropped : labels_held state.store heap'.plain labels' ≡ finite.remove (labels_held state.store heap state.labels) label
    labels_dropped =
        labels_without state.store state.store heap heap'.plain state.labels labels' label other_held (ap (option_map (held_at state.store heap'.plain)) own_place)

    abbrev dropped : Session
    dropped = record { heap = heap'; store = state.store; labels = labels' }

    -- a label that is live then was so before, and is another
    was_live : (other : List ℕ) (place' : Place) → place_of labels' other ≡ Some place' → (bytes_eq other label ≡ false) × (place_of state.labels other ≡ Some place')
    was_live other place' is' = by_test (bytes_eq other label) refl
      where
        by_test : (b : Bool) → bytes_eq other label ≡ b → (bytes_eq other label ≡ false) × (place_of state.labels other ≡ Some place')
        by_test true here = absurd (none-some place' (sym own_place ∙ ap (place_of labels') (sym ((bytes_eq-Decides other label).0 here)) ∙ is'))
        by_test false away = (away, sym (other_place other away) ∙ is')

    dropped_session : IsSession (number + 1) dropped
    dropped_session =
        let next = session_next number state state.store session refl refl in
        record {
          inside = λ segment has. session.inside segment (subst (λ segments. Contains segments segment) (ap segments_of freed.heap ∙ free_segments place.addr false heap) has);
          tags = tags_fewer place.number place.addr heap heap'.plain tiled tiled' there fewer (number + 1) next.tags;
          placed = λ other place' is'.
              let (differ, was) = was_live other place' is' in
              let its = session.placed other place' was in
              record {
                earlier = omega (arith, its.earlier);
                there = found_others place.number place.addr heap heap'.plain tiled tiled' there fewer place'.number
                    (λ same. false≢true (sym differ ∙ (bytes_eq-Decides other label).1 (session.apart other label place' place was is same))) ∙ its.there;
              };
          apart = λ one other place' place'' is' is''. session.apart one other place' place'' (was_live one place' is').1 (was_live other place'' is'').1;
        }

    -- the heap frees the element that the label's number finds
    heap_is : heap'.plain ≡ without_element place.number heap
    heap_is = freed.heap ∙ sym (ap (λ (o : Option ℕ). without_at o heap) there)

    pub dropped_does : Does number (line.Drop label) state dropped answer.Done
    dropped_does = record {
      step =
          ap (λ labels. record { answer = answer.Done; next = record { heap = heap'.plain; labels = labels } }) labels_dropped
          ∙ ap (λ (plain : PlainHeap). record { answer = answer.Done; next = record { heap = plain; labels = finite.remove (labels_held state.store heap state.labels) label } }) heap_is
          ∙ sym (ap (λ (o : Option Held). drop_done label o (plain_of state)) (held_is number state session tiled label place is));
      session = dropped_session;
      room = omega (arith, freed.room);
    }
