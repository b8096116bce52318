-- The tokens that a line of memory or of heaps lends stand among its fields.
use Rattle.std.proofs.Common.{◌≡◌, ℕ, ◌+◌, List, [], ◌∷◌, length, refl, ◌⊎◌, inl, inr}
use Rattle.std.specs.Prelude.{Option, Some, None, Result, Ok, Err, IfOk, nat_lt}
use Rattle.std.specs.Option.{ok_or}
use denote.Ref.{Bor}
use Rattle.hp_script.specs.Part.{Part}
use Rattle.hp_script.specs.Judge.{refuse, number_field, party_field}
use Rattle.hp_script.specs.ShapeWords.Options.{options_of}
use Rattle.hp_script.specs.ShapeWords.ShapesMemory.{alloc_line, zone_line, resize_line}
use Rattle.hp_script.specs.ShapeWords.ShapesHeaps.{name_act, name_line, range_act, range_line, add_line}
use Rattle.hp_script.specs.Spans.{AreSlices, heap_tokens, tokens_of}
use Rattle.hp_script.specs.declared.bad_kind.BadKind.{BadKind}
use Rattle.hp_script.specs.declared.bad_kind.BadKind.TheVariants as bad
use Rattle.hp_script.specs.declared.options.Options.{Options}
use Rattle.hp_script.specs.declared.verb.NameCall.{NameCall}
use Rattle.hp_script.specs.declared.verb.NameCall.TheVariants as name_call
use Rattle.hp_script.specs.declared.verb.RangeCall.{RangeCall}
use Rattle.hp_script.specs.declared.verb.RangeCall.TheVariants as range_call
use Rattle.hp_script.specs.declared.shape.Shape.{Shape}
use Rattle.hp_script.specs.declared.shape.Shape.TheVariants.{Setup, Does, Awaits}
use Rattle.hp_script.proofs.TokenFacts.SliceLemmas.{bounds, skip}
use Rattle.hp_script.proofs.TokenFacts.HeapTokens.{heap_slices}

-- a step refuses, or goes on
pub outcome : {A : Type 0} (step : Result A BadKind) → ((x : A) × (step ≡ Ok x)) ⊎ ((kind : BadKind) × (step ≡ Err kind))
outcome (Ok x) = inl (x, refl)
outcome (Err kind) = inr (kind, refl)

-- what there is, where a step that asks for it goes on
from_ok_or : {A : Type 0} (o : Option A) (x : A) (kind : BadKind) → ok_or o kind ≡ Ok x → o ≡ Some x
from_ok_or None x kind same = absurd cc
from_ok_or (Some y) x kind same = cc

-- the tokens of what a line says
abbrev pub shape_tokens : Shape → List Part
shape_tokens (Setup setup) = []
shape_tokens (Does party act) = tokens_of act
shape_tokens (Awaits party other lines) = []

-- its tokens are slices between two places
abbrev pub SaysSlices : Bor (List ℕ) → ℕ → ℕ → Shape → Type 0
SaysSlices bytes a b said = AreSlices bytes a b (shape_tokens said)

module _ (bytes : Bor (List ℕ)) (a b : ℕ) where
  -- the only token is the first field
  pub only_first : (first : Part) (others : List Part) → AreSlices bytes a b (first ∷ others) → AreSlices bytes a b (first ∷ [])
  only_first first others slices = (slices.0, slices.1, bounds bytes (first.start + length first.text) b others slices.2)

  -- the first field, and an external heap among the words after the second
  first_and_heap : (first second : Part) (words : List Part) (options : Options) → options_of words ≡ Some options
      → AreSlices bytes a b (first ∷ second ∷ words) → AreSlices bytes a b (first ∷ heap_tokens options.heap)
  first_and_heap first second words options given slices =
      (slices.0, slices.1, heap_slices bytes (first.start + length first.text) b words options given (skip bytes (first.start + length first.text) b second words slices.2))

  name_first : (call : NameCall) (name : Part) → AreSlices bytes a b (name ∷ []) → AreSlices bytes a b (tokens_of (name_act call name))
  name_first name_call.Free name slices = slices
  name_first name_call.Lookup name slices = slices
  name_first name_call.Unzone name slices = slices
  name_first name_call.Heap name slices = slices
  name_first name_call.Unheap name slices = slices
  name_first name_call.Watch name slices = slices
  name_first name_call.Unwatch name slices = slices
  name_first name_call.Dump name slices = slices
  name_first name_call.Stats name slices = slices

  range_first : (call : RangeCall) (heap : Part) (addr len : ℕ) → AreSlices bytes a b (heap ∷ []) → AreSlices bytes a b (tokens_of (range_act call heap addr len))
  range_first range_call.Remove heap addr len slices = slices
  range_first range_call.Map heap addr len slices = slices
  range_first range_call.Unmap heap addr len slices = slices

  pub alloc_slices : (p : Part) (arguments : List Part) → AreSlices bytes a b arguments → IfOk (alloc_line p arguments) (SaysSlices bytes a b)
  unfolding alloc_line
  alloc_slices p [] slices = tt
  alloc_slices p (label ∷ []) slices = tt
  alloc_slices p (label ∷ n ∷ words) slices =
      elim (outcome (party_field p)) [
        | inr refused ↦ rw refused.1 tt
        | inl party ↦ rw party.1 (
            elim (outcome (number_field n)) [
              | inr refused ↦ rw refused.1 tt
              | inl size ↦ rw size.1 (
                  elim (outcome (ok_or (options_of words) bad.Option)) [
                    | inr refused ↦ rw refused.1 tt
                    | inl options ↦ rw options.1 (
                        first_and_heap label n words options.0 (from_ok_or (options_of words) options.0 bad.Option options.1) slices
                        )
                  ])
            ])
      ]

  pub zone_slices : (p : Part) (arguments : List Part) → AreSlices bytes a b arguments → IfOk (zone_line p arguments) (SaysSlices bytes a b)
  unfolding zone_line
  zone_slices p [] slices = tt
  zone_slices p (name ∷ []) slices = tt
  zone_slices p (name ∷ n ∷ words) slices =
      elim (outcome (party_field p)) [
        | inr refused ↦ rw refused.1 tt
        | inl party ↦ rw party.1 (
            elim (outcome (number_field n)) [
              | inr refused ↦ rw refused.1 tt
              | inl len ↦ rw len.1 (
                  elim (outcome (refuse (nat_lt len.0 1) bad.Range)) [
                    | inr refused ↦ rw refused.1 tt
                    | inl some ↦ rw some.1 (
                        elim (outcome (ok_or (options_of words) bad.Option)) [
                          | inr refused ↦ rw refused.1 tt
                          | inl options ↦ rw options.1 (
                              first_and_heap name n words options.0 (from_ok_or (options_of words) options.0 bad.Option options.1) slices
                              )
                        ])
                  ])
            ])
      ]

  pub resize_slices : (p : Part) (arguments : List Part) → AreSlices bytes a b arguments → IfOk (resize_line p arguments) (SaysSlices bytes a b)
  unfolding resize_line
  resize_slices p [] slices = tt
  resize_slices p (label ∷ []) slices = tt
  resize_slices p (label ∷ n ∷ []) slices =
      elim (outcome (party_field p)) [
        | inr refused ↦ rw refused.1 tt
        | inl party ↦ rw party.1 (
            elim (outcome (number_field n)) [
              | inr refused ↦ rw refused.1 tt
              | inl size ↦ rw size.1 (
                  only_first label (n ∷ []) slices
                  )
            ])
      ]
  resize_slices p (label ∷ n ∷ more ∷ others) slices = tt

  pub range_slices : (call : RangeCall) (p : Part) (arguments : List Part) → AreSlices bytes a b arguments → IfOk (range_line call p arguments) (SaysSlices bytes a b)
  unfolding range_line
  range_slices call p [] slices = tt
  range_slices call p (heap ∷ []) slices = tt
  range_slices call p (heap ∷ s ∷ []) slices = tt
  range_slices call p (heap ∷ s ∷ n ∷ []) slices =
      elim (outcome (party_field p)) [
        | inr refused ↦ rw refused.1 tt
        | inl party ↦ rw party.1 (
            elim (outcome (number_field s)) [
              | inr refused ↦ rw refused.1 tt
              | inl addr ↦ rw addr.1 (
                  elim (outcome (number_field n)) [
                    | inr refused ↦ rw refused.1 tt
                    | inl len ↦ rw len.1 (
                        range_first call heap addr.0 len.0 (only_first heap (s ∷ n ∷ []) slices)
                        )
                  ])
            ])
      ]
  range_slices call p (heap ∷ s ∷ n ∷ more ∷ others) slices = tt

  pub add_slices : (p : Part) (arguments : List Part) → AreSlices bytes a b arguments → IfOk (add_line p arguments) (SaysSlices bytes a b)
  unfolding add_line
  add_slices p [] slices = tt
  add_slices p (heap ∷ []) slices = tt
  add_slices p (heap ∷ s ∷ []) slices = tt
  add_slices p (heap ∷ s ∷ n ∷ []) slices = tt
  add_slices p (heap ∷ s ∷ n ∷ size ∷ []) slices =
      elim (outcome (party_field p)) [
        | inr refused ↦ rw refused.1 tt
        | inl party ↦ rw party.1 (
            elim (outcome (number_field s)) [
              | inr refused ↦ rw refused.1 tt
              | inl addr ↦ rw addr.1 (
                  elim (outcome (number_field n)) [
                    | inr refused ↦ rw refused.1 tt
                    | inl len ↦ rw len.1 (
                        elim (outcome (number_field size)) [
                          | inr refused ↦ rw refused.1 tt
                          | inl page ↦ rw page.1 (
                              only_first heap (s ∷ n ∷ size ∷ []) slices
                              )
                        ])
                  ])
            ])
      ]
  add_slices p (heap ∷ s ∷ n ∷ size ∷ more ∷ others) slices = tt

  pub name_slices : (call : NameCall) (p : Part) (arguments : List Part) → AreSlices bytes a b arguments → IfOk (name_line call p arguments) (SaysSlices bytes a b)
  unfolding name_line
  name_slices call p [] slices = tt
  name_slices call p (name ∷ []) slices =
      elim (outcome (party_field p)) [
        | inr refused ↦ rw refused.1 tt
        | inl party ↦ rw party.1 (
            name_first call name slices
            )
      ]
  name_slices call p (name ∷ more ∷ others) slices = tt
