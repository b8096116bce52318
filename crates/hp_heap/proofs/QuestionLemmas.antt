-- Calls that leave the heap as it is, and what they find.
use Rattle.std.proofs.Common.{◌≡◌, ℕ, ◌+◌, Bool, cond, [], ◌∷◌, ◌++◌, Option, Some, None, refl, sym, ap, ◌∙◌, vec_len, vec_capacity}
use Rattle.std.specs.List.{find}
use Rattle.std.specs.Option.{option_map}
use Rattle.hp_base.specs.declared.span.Span.{Span}
use Rattle.hp_base.specs.declared.span.SpanState.{SpanState}
use Rattle.hp_base.specs.declared.span.SpanState.TheVariants.{Free, Busy}
use Rattle.hp_chain.specs.Chain.{Keyed, AreApart}
use Rattle.hp_elem.specs.declared.node.Node.{Node}
use Rattle.hp_elem.specs.Items.{Items, Stands, is_tagged, is_tagged_state}
use Rattle.hp_heap.specs.declared.body.Body.TheInside.{Inside}
use Rattle.hp_heap.specs.declared.entry.Entry.{Entry}
use Rattle.hp_heap.specs.Joining.{has_tag, has_tag_state}
use Rattle.hp_heap.specs.Headers.{spans_of}
use Rattle.hp_heap.specs.History.{after_entry, IsLegalEntry}
use Rattle.hp_heap.specs.Inside.{plain_of, IsHeap}
use Rattle.hp_heap.proofs.HistoryFacts.HeapLaw.{IsNext}
use Rattle.hp_heap.proofs.ChunkFacts.BesideLemmas.{beside}
use Rattle.hp_heap.proofs.FindingLemmas.{key_found, key_value, found_none, find-spans}

-- the fields after a call that leaves the heap as it is
pub record IsAsked (a b : Inside) (entry : Entry) : Type 0 where
  pub step : plain_of a ≡ after_entry (plain_of a) entry
  pub legal : IsLegalEntry (plain_of a) entry
  pub others : b ≡ record a { history = b.history; spare = b.spare }
  pub history : b.history.items ≡ a.history.items ++ entry ∷ []
  pub spare : b.spare + 1 ≡ a.spare
  pub len : vec_len b.history ≡ vec_len a.history + 1
  pub room : vec_capacity b.history ≡ vec_capacity a.history

pub asked : (a b : Inside) (entry : Entry) → IsHeap a → IsAsked a b entry → IsNext a b entry (plain_of a)
asked a b entry heap is =
    beside a b entry (plain_of a) heap
    (record {
      others = is.others ∙ sym (rw (ap (λ v. v.name) is.others, ap (λ v. v.socket) is.others, ap (λ v. v.chunks) is.others) refl);
      history = is.history;
      spare = is.spare;
      len = is.len;
      room = is.room;
      chunk_len = ap (λ v. vec_len v.chunks) is.others;
      chunk_room = ap (λ v. vec_capacity v.chunks) is.others;
    })
    (record {
      step = is.step;
      legal = is.legal;
      same = refl;
      name = ap (λ v. v.name) is.others ∙ heap.name;
      socket = ap (λ v. v.socket) is.others ∙ heap.socket;
      chunks = ap (λ v. v.chunks.items) is.others ∙ heap.chunks;
      tiled = heap.tiled;
    })

-- a search by a test that says the same
find-same : (p q : Keyed Span → Bool) → ((e : Keyed Span) → p e ≡ q e) → (items : Items) → find p items ≡ find q items
find-same p q same [] = refl
find-same p q same (e ∷ es) =
    ap (λ (b : Bool). cond b (Some e) (find p es)) (same e) ∙ ap (λ (o : Option (Keyed Span)). cond (q e) (Some e) o) (find-same p q same es)

tag_same : (zone : Bool) (number : ℕ) (state : SpanState) → is_tagged_state zone number state ≡ has_tag_state zone number state
tag_same zone number (Free stamp) = refl
tag_same zone number (Busy pad size tag) = refl

-- the element with a tag
module _ (items : Items) (zone : Bool) (number : ℕ) where
  tagged_is : find (has_tag zone number) (spans_of items) ≡ option_map (λ (e : Keyed Span). e.value) (find (is_tagged zone number) items)
  tagged_is = find-spans (has_tag zone number) items
      ∙ ap (λ (o : Option (Keyed Span)). option_map (λ (e : Keyed Span). e.value) o)
      (sym (find-same (is_tagged zone number) (λ e. has_tag zone number e.value) (λ e. tag_same zone number e.value.state) items))

  pub tagged_none : option_map (λ (e : Keyed Span). e.key) (find (is_tagged zone number) items) ≡ None → find (has_tag zone number) (spans_of items) ≡ None
  tagged_none is = tagged_is ∙ ap (λ (o : Option (Keyed Span)). option_map (λ (e : Keyed Span). e.value) o) (found_none (is_tagged zone number) items is)

  pub tagged_some : (key : ℕ) (node : Node) → option_map (λ (e : Keyed Span). e.key) (find (is_tagged zone number) items) ≡ Some key → AreApart items → Stands items key node
      → find (has_tag zone number) (spans_of items) ≡ Some node.span
  tagged_some key node is apart stands =
      let found = key_found (is_tagged zone number) items key is in
      tagged_is ∙ ap (λ (o : Option (Keyed Span)). option_map (λ (e : Keyed Span). e.value) o) found.found
      ∙ ap (λ (s : Span). Some s) (sym (key_value (is_tagged zone number) items key node found apart stands))

-- the element that passes a test
module _ (q : Span → Bool) (items : Items) where
  pub value_none : option_map (λ (e : Keyed Span). e.key) (find (λ e. q e.value) items) ≡ None → find q (spans_of items) ≡ None
  value_none is = find-spans q items ∙ ap (λ (o : Option (Keyed Span)). option_map (λ (e : Keyed Span). e.value) o) (found_none (λ e. q e.value) items is)

  pub value_some : (key : ℕ) (node : Node) → option_map (λ (e : Keyed Span). e.key) (find (λ e. q e.value) items) ≡ Some key → AreApart items → Stands items key node
      → find q (spans_of items) ≡ Some node.span
  value_some key node is apart stands =
      let found = key_found (λ e. q e.value) items key is in
      find-spans q items ∙ ap (λ (o : Option (Keyed Span)). option_map (λ (e : Keyed Span). e.value) o) found.found
      ∙ ap (λ (s : Span). Some s) (sym (key_value (λ e. q e.value) items key node found apart stands))
