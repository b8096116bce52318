-- `put`, `copy` and `get` do what they do in the plain session.
use Rattle.std.proofs.Common.{◌≡◌, ℕ, ◌+◌, ◌≤◌, Bool, true, false, cond, List, length, take, drop, replicate, min, Option, Some, None, refl, sym, ap, subst, ◌∙◌, ◌-◌, arith}
use Rattle.std.specs.Prelude.{nat_lt}
use Rattle.std.proofs.lemmas.Bool.{cond_both, ltb-false}
use Rattle.std.proofs.lemmas.List.{length-replicate, length-take-le, length-drop}
use Rattle.std.proofs.lemmas.Option.{same_Some}
use Rattle.std.proofs.lemmas.Slice.Eq.{bytes_eq-Decides}
use Rattle.std.specs.FinMap as finite
use Rattle.std.specs.Str.{bytes_eq}
use Rattle.hex.specs.Hex.{encode_lower}
use Rattle.hp_heap.specs.PlainHeap.{PlainHeap, size_of_state}
use Rattle.hp_heap.specs.Tiling.{IsTiled}
use Rattle.hp_bytes.specs.StoreView.{StoreView}
use Rattle.hp_bytes.specs.Stores.{with_bytes, bytes_from, size_at, data_at, IsData}
use Rattle.hp_bytes.specs.Parts.{IsPartOf, shared_front}
use Rattle.hp_bytes.specs.Written.{written_over}
use Rattle.hp_bytes.specs.Places.{place_of}
use Rattle.hp_bytes.specs.PlainSession.{Held, PlainSession, Done, put_done, copy_done, get_done, copied, stays, with_held}
use Rattle.hp_bytes.specs.Sessions.{held_at, labels_held, plain_of, IsSession, Does}
use Rattle.hp_bytes.specs.Verbs.{put_answer, put_data, get_answer}
use Rattle.hp_bytes.specs.declared.answer.Answer.{Answer}
use Rattle.hp_bytes.specs.declared.answer.Answer.TheVariants as answer
use Rattle.hp_bytes.specs.declared.labels.Place.{Place}
use Rattle.hp_bytes.specs.declared.part.Part.{Part}
use Rattle.hp_bytes.specs.declared.line.Line.{Line}
use Rattle.hp_bytes.specs.declared.line.Line.TheVariants as line
use Rattle.hp_bytes.specs.declared.sessions.Session.{Session}
use Rattle.hp_bytes.proofs.LiveLemmas.{IsLive, session_next, live, addresses_apart, held_is, held_none, held_size, labels_written, labels_unwritten, session_written}
use Rattle.hp_bytes.proofs.StoreLemmas.{part_written, size_is}
use Rattle.hp_bytes.proofs.WrittenLemmas.{written-length, written-part, take_fewer}

module _ (number : ℕ) (state : Session) (session : IsSession number state) where
  -- nothing but an answer
  stayed : (given : Answer) (done : Done) → done ≡ stays (plain_of state) given → ◌≡◌ {A = Done} (record { answer = given; next = plain_of state }) done
  stayed given done is = sym is

  same_session : IsSession (number + 1) state
  same_session = session_next number state state.store session refl refl

  module _ (tiled : IsTiled state.heap.plain) where
    abbrev now : PlainSession
    now = plain_of state

    abbrev data_of : Place → List ℕ
    data_of place = data_at place.addr state.store state.heap.plain

    abbrev with_store : StoreView → Session
    with_store store = record state { store = store }

    pub put_missing : (label : List ℕ) (at byte len : ℕ) → place_of state.labels label ≡ None → Does number (line.Put label at byte len) state state answer.NoLabel
    put_missing label at byte len none = record {
      step = sym (ap (λ (o : Option Held). put_done label at byte len o now) (held_none number state session tiled label none));
      session = same_session;
      room = omega arith;
    }

    pub get_missing : (label : List ℕ) (at len : ℕ) → place_of state.labels label ≡ None → Does number (line.Get label at len) state state answer.NoLabel
    get_missing label at len none = record {
      step = sym (ap (λ (o : Option Held). get_done at len o now) (held_none number state session tiled label none));
      session = same_session;
      room = omega arith;
    }

    pub get_does : (label : List ℕ) (place : Place) (at len : ℕ) (part : List ℕ) → place_of state.labels label ≡ Some place → IsData place.addr state.store state.heap.plain part
        → Does number (line.Get label at len) state state (get_answer at len part)
    get_does label place at len part is data_is = record {
      step =
          rw data_is.bytes
          (by_test (nat_lt (length (data_of place)) (at + len))
          ∙ sym (ap (λ (o : Option Held). get_done at len o now) (held_is number state session tiled label place is)));
      session = same_session;
      room = omega arith;
    }
      where
        by_test : (b : Bool) → ◌≡◌ {A = Done} (record { answer = cond b (answer.Range (length (data_of place))) (answer.Bytes (encode_lower (take len (drop at (data_of place))))); next = now })
            (cond b (stays now (answer.Range (length (data_of place)))) (stays now (answer.Bytes (encode_lower (take len (drop at (data_of place)))))))
        by_test true = refl
        by_test false = refl

    module _ (label : List ℕ) (place : Place) (is : place_of state.labels label ≡ Some place) where
      -- the data of the label with others in their place
      abbrev put_in : List ℕ → Session
      put_in written = with_store (with_bytes place.addr written state.store)

      abbrev with_label : List ℕ → PlainSession
      with_label written = with_held label (record { number = place.number; bytes = written }) now

      plain_written : (written : List ℕ) → length written ≡ size_at place.addr state.heap.plain → plain_of (put_in written) ≡ with_label written
      plain_written written sized =
          ap (λ labels. record { heap = state.heap.plain; labels = labels }) (labels_written number state session tiled label place is written sized)

      plain_unwritten : (written : List ℕ) → length written ≡ size_at place.addr state.heap.plain → written ≡ data_of place → plain_of (put_in written) ≡ now
      plain_unwritten written sized same =
          ap (λ labels. record { heap = state.heap.plain; labels = labels }) (labels_unwritten number state session tiled label place is written sized same)

      pub put_does : (at byte len : ℕ) (part : List ℕ) → IsData place.addr state.store state.heap.plain part
          → Does number (line.Put label at byte len) state (put_in (put_data at byte len part)) (put_answer at len (length part))
      put_does at byte len part data_is = subst (λ (bytes : List ℕ). Does number (line.Put label at byte len) state (put_in (put_data at byte len bytes)) (put_answer at len (length bytes))) (sym data_is.bytes) does
        where
          data_sized : length (data_of place) ≡ size_at place.addr state.heap.plain
          data_sized = held_size number state session tiled place part data_is

          written : List ℕ
          written = written_over at (replicate len byte) (data_of place)

          chosen : Bool → List ℕ
          chosen b = cond b (data_of place) (written_over at (replicate len byte) (data_of place))

          sized : (b : Bool) → nat_lt (length (data_of place)) (at + len) ≡ b → length (chosen b) ≡ size_at place.addr state.heap.plain
          sized true over = data_sized
          sized false within =
              written-length at (replicate len byte) (data_of place) (omega (arith, length-replicate len byte, ltb-false (length (data_of place)) (at + len) within)) ∙ data_sized

          by_test : (b : Bool) → nat_lt (length (data_of place)) (at + len) ≡ b
              → ◌≡◌ {A = Done} (record { answer = cond b (answer.Range (length (data_of place))) answer.Done; next = plain_of (put_in (chosen b)) })
              (cond b (stays now (answer.Range (length (data_of place))))
              (record { answer = answer.Done; next = with_label (written_over at (replicate len byte) (data_of place)) }))
          by_test true over = ap (λ next. record { answer = answer.Range (length (data_of place)); next = next }) (plain_unwritten (data_of place) data_sized refl)
          by_test false within = ap (λ next. record { answer = answer.Done; next = next }) (plain_written (chosen false) (sized false within))

          does : Does number (line.Put label at byte len) state (put_in (put_data at byte len (data_of place))) (put_answer at len (length (data_of place)))
          does = record {
            step =
                by_test (nat_lt (length (data_of place)) (at + len)) refl
                ∙ sym (ap (λ (o : Option Held). put_done label at byte len o now) (held_is number state session tiled label place is));
            session = session_written number state session tiled label place is (put_data at byte len (data_of place)) (sized (nat_lt (length (data_of place)) (at + len)) refl);
            room = omega arith;
          }

    -- `copy`
    pub copy_missing : (from to : List ℕ) → place_of state.labels from ≡ None → Does number (line.Copy from to) state state answer.NoLabel
    copy_missing from to none = record {
      step = sym (ap (λ (o : Option Held). copy_done from to o (finite.get now.labels to) now) (held_none number state session tiled from none));
      session = same_session;
      room = omega arith;
    }

    pub copy_missing_too : (from to : List ℕ) (source : Place) → place_of state.labels from ≡ Some source → place_of state.labels to ≡ None
        → Does number (line.Copy from to) state state answer.NoLabel
    copy_missing_too from to source is none = record {
      step =
          sym (ap (λ (o : Option Held). copy_done from to o (finite.get now.labels to) now) (held_is number state session tiled from source is)
          ∙ ap (λ (o : Option Held). copy_done from to (Some (held_at state.store state.heap.plain source)) o now) (held_none number state session tiled to none));
      session = same_session;
      room = omega arith;
    }

    module _ (from to : List ℕ) (source target : Place) (is : place_of state.labels from ≡ Some source) (is' : place_of state.labels to ≡ Some target) where
      copy_held : (held held' : Held) → held ≡ held_at state.store state.heap.plain source → held' ≡ held_at state.store state.heap.plain target
          → copy_done from to (finite.get now.labels from) (finite.get now.labels to) now ≡ cond (bytes_eq from to) (stays now answer.Same) (copied to held held' now)
      copy_held held held' same same' =
          ap (λ (o : Option Held). copy_done from to o (finite.get now.labels to) now) (held_is number state session tiled from source is ∙ ap Some (sym same))
          ∙ ap (λ (o : Option Held). copy_done from to (Some held) o now) (held_is number state session tiled to target is' ∙ ap Some (sym same'))

      -- equal addresses are those of one label
      same_label : source.addr ≡ target.addr → bytes_eq from to ≡ true
      same_label same = by_test (bytes_eq from to) refl
        where
          by_test : (b : Bool) → bytes_eq from to ≡ b → b ≡ true
          by_test true here = refl
          by_test false differ = absurd (addresses_apart number state session tiled to from target source is' is differ same)

      pub copy_same : source.addr ≡ target.addr → Does number (line.Copy from to) state state answer.Same
      copy_same same = record {
        step = sym (copy_held (held_at state.store state.heap.plain source) (held_at state.store state.heap.plain target) refl refl ∙ rw (same_label same) refl);
        session = same_session;
        room = omega arith;
      }

      -- the first bytes of the one go over those of the other
      pub copy_does : (source.addr ≡ target.addr → ⊥) → bytes_eq from to ≡ false
          → Does number (line.Copy from to) state (with_store (with_bytes target.addr (shared_front source.addr target.addr state.store state.heap.plain) state.store)) answer.Done
      copy_does differ labels = subst (λ (store : StoreView). Does number (line.Copy from to) state (with_store store) answer.Done) (sym store_is) does
        where
          heap : PlainHeap
          heap = state.heap.plain

          its : IsLive number state session tiled source
          its = live number state session tiled from source is

          its' : IsLive number state session tiled target
          its' = live number state session tiled to target is'

          size : size_at source.addr heap ≡ size_of_state its.range.state
          size = size_is heap source.addr its.range its.there

          size' : size_at target.addr heap ≡ size_of_state its'.range.state
          size' = size_is heap target.addr its'.range its'.there

          within : (source.addr - state.store.base) + size_at source.addr heap ≤ length state.store.bytes
          within = omega (arith, its.inside.0, its.inside.1, size)

          within' : (target.addr - state.store.base) + size_at target.addr heap ≤ length state.store.bytes
          within' = omega (arith, its'.inside.0, its'.inside.1, size')

          long : length (data_of source) ≡ size_at source.addr heap
          long = length-take-le (size_at source.addr heap) (drop (source.addr - state.store.base) state.store.bytes) (omega (arith, within, length-drop (source.addr - state.store.base) state.store.bytes))

          long' : length (data_of target) ≡ size_at target.addr heap
          long' = length-take-le (size_at target.addr heap) (drop (target.addr - state.store.base) state.store.bytes) (omega (arith, within', length-drop (target.addr - state.store.base) state.store.bytes))

          both : ℕ
          both = min (size_at source.addr heap) (size_at target.addr heap)

          front : List ℕ
          front = shared_front source.addr target.addr state.store heap

          front_long : length front ≡ both
          front_long = length-take-le both (drop (source.addr - state.store.base) state.store.bytes) (omega (arith, within, length-drop (source.addr - state.store.base) state.store.bytes))

          -- it is the front of the data
          front_is : take (min (length (data_of source)) (length (data_of target))) (data_of source) ≡ front
          front_is =
              rw (long, long')
              (take_fewer both (size_at source.addr heap) (drop (source.addr - state.store.base) state.store.bytes) (omega arith) (omega (arith, within, length-drop (source.addr - state.store.base) state.store.bytes)))

          written : List ℕ
          written = written_over 0 front (data_of target)

          written_long : length written ≡ size_at target.addr heap
          written_long = written-length 0 front (data_of target) (omega (arith, front_long, long')) ∙ long'

          -- to write the front is to write the data with it
          store_is : with_bytes target.addr front state.store ≡ with_bytes target.addr written state.store
          store_is =
              ap (λ (bytes : List ℕ). record { base = state.store.base; bytes = bytes })
              (written-part (target.addr - state.store.base) (size_at target.addr heap) front state.store.bytes (omega (arith, front_long)) within')

          copied_is : copied to (held_at state.store heap source) (held_at state.store heap target) now ≡ record { answer = answer.Done; next = with_label to target is' written }
          copied_is = ap (λ (bytes : List ℕ). record { answer = answer.Done; next = with_label to target is' (written_over 0 bytes (data_of target)) }) front_is

          does : Does number (line.Copy from to) state (put_in to target is' written) answer.Done
          does = record {
            step =
                ap (λ next. record { answer = answer.Done; next = next }) (plain_written to target is' written written_long)
                ∙ sym copied_is
                ∙ sym (copy_held (held_at state.store heap source) (held_at state.store heap target) refl refl ∙ rw labels refl);
            session = session_written number state session tiled to target is' written written_long;
            room = omega arith;
          }

-- `put` by the part of the buffer
pub put_as : (number : ℕ) (label : List ℕ) (at byte len : ℕ) (state : Session) (place : Place) (there : Part) (part written : List ℕ) (given : Answer) → IsPartOf place.addr state.store state.heap.plain there
    → written ≡ put_data at byte len part → given ≡ put_answer at len (length part)
    → Does number (line.Put label at byte len) state (record state { store = with_bytes place.addr (put_data at byte len part) state.store }) (put_answer at len (length part))
    → Does number (line.Put label at byte len) state (record state { store = record { base = state.store.base; bytes = written_over there.from written state.store.bytes } }) given
put_as number label at byte len state place there part written given is written_is given_is does =
    let store_is : ◌≡◌ {A = StoreView} (record { base = state.store.base; bytes = written_over there.from written state.store.bytes }) (with_bytes place.addr (put_data at byte len part) state.store) =
    ap (λ (bytes : List ℕ). record { base = state.store.base; bytes = written_over there.from bytes state.store.bytes }) written_is
    ∙ part_written place.addr state.store state.heap.plain there (put_data at byte len part) is in
    subst (λ (a : Answer). Does number (line.Put label at byte len) state (record state { store = record { base = state.store.base; bytes = written_over there.from written state.store.bytes } }) a) (sym given_is)
    (subst (λ (store : StoreView). Does number (line.Put label at byte len) state (record state { store = store }) (put_answer at len (length part))) (sym store_is) does)

-- labels with different addresses differ
pub labels_differ : (state : Session) (from to : List ℕ) (source target : Place) → place_of state.labels from ≡ Some source → place_of state.labels to ≡ Some target
    → (source.addr ≡ target.addr → ⊥) → bytes_eq from to ≡ false
labels_differ state from to source target is is' differ = by_test (bytes_eq from to) refl
  where
    by_test : (b : Bool) → bytes_eq from to ≡ b → b ≡ false
    by_test true here =
        absurd (differ (ap (λ (p : Place). p.addr) (same_Some source target (sym is ∙ ap (place_of state.labels) ((bytes_eq-Decides from to).0 here) ∙ is'))))
    by_test false away = refl
