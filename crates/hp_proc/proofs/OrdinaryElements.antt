-- What a line may do with the element that has its tag.
use Rattle.std.proofs.Common.{◌≡◌, ℕ, Bool, true, false, IfSome, IsSomeAnd, Option, Some, None, sym, subst, ◌∙◌, eqb, not}
use Rattle.std.proofs.lemmas.Bool.{and_parts, false≢true, not-true}
use Rattle.hp_base.specs.declared.span.Span.{Span}
use Rattle.hp_base.specs.declared.span.SpanState.{SpanState}
use Rattle.hp_base.specs.declared.span.SpanState.TheVariants.{Busy, Free}
use Rattle.hp_base.specs.declared.tag.Tag.{Tag}
use Rattle.hp_heap.proofs.TaggedLemmas.{tagged_busy}
use Rattle.hp_heap.specs.Joining.{busy_at, has_tag, has_tag_state, is_zone_range, is_zone_state}
use Rattle.hp_heap.specs.PlainHeap.{PlainHeap}
use Rattle.hp_heap.specs.Tagged.{HasTaggedAt}
use Rattle.hp_proc.specs.Freeing.{FitsTag, MayAct}
use Rattle.hp_proc.specs.declared.element_act.ElementAct.{ElementAct}
use Rattle.hp_proc.specs.declared.element_act.ElementAct.TheVariants as act

-- the element with the tag of an allocation is no memzone's
ordinary_state : (number : ℕ) (state : SpanState) → has_tag_state false number state ≡ true → is_zone_state state ≡ false
ordinary_state number (Free stamp) is = absurd (false≢true is)
ordinary_state number (Busy pad size tag) is = not-true tag.zone (and_parts (not tag.zone) (eqb tag.number number) is).0

tagged_ordinary : (tag : Tag) (address : ℕ) (heap : PlainHeap) → tag.zone ≡ false → HasTaggedAt tag address heap
    → IfSome (busy_at address heap) (λ range. is_zone_range range ≡ false)
tagged_ordinary tag address heap ordinary = of (busy_at address heap)
  where
    of : (o : Option Span) → IsSomeAnd o (λ range. has_tag tag.zone tag.number range ≡ true) → IfSome o (λ range. is_zone_range range ≡ false)
    of None none = tt
    of (Some r) is =
        ordinary_state tag.number r.state (subst (λ (zone : Bool). has_tag_state zone tag.number r.state ≡ true) ordinary is)

-- what is meant for a tag may be done with the element that has it
pub may_act : (tag : Tag) (action : ElementAct) (address : ℕ) (heap : PlainHeap) → FitsTag tag action → HasTaggedAt tag address heap
    → MayAct action address heap
may_act tag act.Free address heap fits there = tt
may_act tag (act.Resize zone size) address heap fits there = λ ordinary.
    let (same, (lines, some, most)) = fits in (
      record { busy = tagged_busy tag address heap there; some = some; lines = lines; most = most },
      tagged_ordinary tag address heap (sym same ∙ ordinary) there,
    )
