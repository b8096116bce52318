-- After every call chunks stand by rising address, marked by the participants 0 to 15 alone.
use Rattle.std.proofs.Common.{◌≡◌, ℕ, zero, suc, ◌+◌, ◌-◌, ◌*◌, ◌^◌, ◌<◌, ◌≤◌, Bool, true, false, cond, List, [], ◌∷◌, ◌++◌, map, refl, sym, ap, subst, ◌∙◌, arith, Option, Some, None, ltb, eqb}
use Rattle.std.proofs.Math.Pow.{pow-lt}
use Rattle.std.proofs.lemmas.Bool.{cond_both, ltb-true, false≢true}
use Rattle.std.proofs.lemmas.Nat.{or_lt}
use Rattle.std.proofs.lemmas.Nat.Bits.{and_pow, bit_at-lt}
use Rattle.std.specs.Int.{bit_at}
use Rattle.std.specs.Int.Bits.{bit_and, bit_or, or_add_and}
use Rattle.std.specs.List.{AllByRecursion, filter}
use Rattle.hp_base.specs.declared.chunk.Chunk.{Chunk}
use Rattle.hp_heap.specs.declared.entry.HeapCall.{HeapCall}
use Rattle.hp_heap.specs.declared.entry.HeapCall.TheVariants as call
use Rattle.hp_heap.specs.PlainHeap.{PlainHeap}
use Rattle.hp_base.specs.Flags.{has_bit}
use Rattle.hp_heap.specs.Cut.{PageCut, cut_at, after_cut_of, after_cut}
use Rattle.hp_heap.specs.Chunks.{with_chunk, is_chunk_at, chunk_at, without_chunk, with_mark, without_mark, with_marks, after_chunk, after_unchunk, after_share, after_unshare}
use Rattle.hp_heap.specs.ChunkOrder.{AreRisingFrom, AreInOrder}
use Rattle.hp_heap.specs.Step.{after, after_name}
use Rattle.hp_heap.specs.Allowed.{IsAllowed}
use Rattle.hp_heap.proofs.RangeLemmas.{AllByRecursion-append, AllByRecursion-weaker}
use Rattle.hp_heap.proofs.Members.{AllByRecursion-kept}
use Rattle.hp_heap.proofs.AllocFacts.AllocKept.{alloc_kept}
use Rattle.hp_heap.proofs.AddingLemmas.{grow-kept}
use Rattle.hp_heap.proofs.FreeFacts.FreeingLemmas.{after_free-kept}
use Rattle.hp_heap.proofs.ResizeFacts.ResizedLemmas.{resize_same}

-- chunks that rise from an address do so from a lower one, and from just above one that is below them all
rises_lower : (low from : ℕ) (cs : List Chunk) → low ≤ from → AreRisingFrom from cs → AreRisingFrom low cs
rises_lower low from [] within rising = tt
rises_lower low from (c ∷ cs) within rising = (omega (arith, within, rising.0), rising.1)

rises_above : (from at : ℕ) (cs : List Chunk) → AllByRecursion (λ (c : Chunk). at < c.addr) cs → AreRisingFrom from cs → AreRisingFrom (at + 1) cs
rises_above from at [] above rising = tt
rises_above from at (c ∷ cs) above rising = (omega (arith, above.0), rising.1)

filter_rises : (p : Chunk → Bool) (from : ℕ) (cs : List Chunk) → AreRisingFrom from cs → AreRisingFrom from (filter p cs)
filter_rises p from [] rising = tt
filter_rises p from (c ∷ cs) rising = cond_both (p c) (c ∷ filter p cs) (filter p cs) (AreRisingFrom from)
    (λ kept. (rising.0, filter_rises p (c.addr + 1) cs rising.1))
    (λ gone. rises_lower from (c.addr + 1) (filter p cs) (omega (arith, rising.0)) (filter_rises p (c.addr + 1) cs rising.1))

filter_passes : (p : Chunk → Bool) (cs : List Chunk) → AllByRecursion (λ (c : Chunk). p c ≡ true) (filter p cs)
filter_passes p [] = tt
filter_passes p (c ∷ cs) = cond_both (p c) (c ∷ filter p cs) (filter p cs) (AllByRecursion (λ (d : Chunk). p d ≡ true)) (λ kept. (kept, filter_passes p cs)) (λ gone. filter_passes p cs)

joined_rises : (from at : ℕ) (xs ys : List Chunk) → from ≤ at → AreRisingFrom from xs → AllByRecursion (λ (c : Chunk). c.addr < at) xs → AreRisingFrom at ys → AreRisingFrom from (xs ++ ys)
joined_rises from at [] ys within rising below back = rises_lower from at ys within back
joined_rises from at (x ∷ xs) ys within rising below back = (rising.0, joined_rises (x.addr + 1) at xs ys (omega (arith, below.0)) rising.1 below.1 back)

with_chunk_rises : (chunk : Chunk) (cs : List Chunk) → AreRisingFrom 0 cs → AreRisingFrom 0 (with_chunk chunk cs)
with_chunk_rises chunk cs rising =
    let low = filter (λ (o : Chunk). ltb o.addr chunk.addr) cs in
    let high = filter (λ (o : Chunk). ltb chunk.addr o.addr) cs in
    joined_rises 0 chunk.addr low (chunk ∷ high) (omega arith) (filter_rises (λ (o : Chunk). ltb o.addr chunk.addr) 0 cs rising)
    (AllByRecursion-weaker (λ (o : Chunk). ltb o.addr chunk.addr ≡ true) (λ (o : Chunk). o.addr < chunk.addr) (λ o is. ltb-true o.addr chunk.addr is) low (filter_passes (λ (o : Chunk). ltb o.addr chunk.addr) cs)) (
      omega arith,
      rises_above 0 chunk.addr high
          (AllByRecursion-weaker (λ (o : Chunk). ltb chunk.addr o.addr ≡ true) (λ (o : Chunk). chunk.addr < o.addr) (λ o is. ltb-true chunk.addr o.addr is) high (filter_passes (λ (o : Chunk). ltb chunk.addr o.addr) cs))
          (filter_rises (λ (o : Chunk). ltb chunk.addr o.addr) 0 cs rising),
    )

-- marks with one more, and without one, are of the same participants
unset_bit : (b : ℕ) → b < 2 → eqb b 1 ≡ false → b ≡ 0
unset_bit zero small off = refl
unset_bit (suc zero) small off = absurd (false≢true (sym off))
unset_bit (suc (suc n)) small off = absurd (omega (arith, small))

pub mark_is : (participant marks : ℕ) → has_bit marks participant ≡ false → bit_or marks (2 ^ participant) ≡ marks + 2 ^ participant
mark_is participant marks off =
    let none : bit_at marks participant ≡ 0 = unset_bit (bit_at marks participant) (bit_at-lt marks participant) off in
    let apart : bit_and marks (2 ^ participant) ≡ 0 = and_pow marks participant ∙ ap (λ (b : ℕ). b * 2 ^ participant) none ∙ Rattle.std.proofs.Math.Nat.zero-mul (2 ^ participant) in
    omega (arith, or_add_and marks (2 ^ participant), apart)

pub marked_within : (participant marks : ℕ) → participant < 16 → marks < 2 ^ 16 → with_mark participant marks < 2 ^ 16
marked_within participant marks small within = cond_both (has_bit marks participant) marks (marks + 2 ^ participant) (λ (m : ℕ). m < 2 ^ 16)
    (λ on. within) (λ off. subst (λ (m : ℕ). m < 2 ^ 16) (mark_is participant marks off) (or_lt 16 marks (2 ^ participant) within (pow-lt small)))

unmarked_within : (participant marks : ℕ) → marks < 2 ^ 16 → without_mark participant marks < 2 ^ 16
unmarked_within participant marks within = cond_both (has_bit marks participant) (marks - 2 ^ participant) marks (λ (m : ℕ). m < 2 ^ 16) (λ on. omega (arith, within)) (λ off. within)

-- other marks on one chunk
marks_rise : (marks : ℕ → ℕ) (addr len from : ℕ) (cs : List Chunk) → AreRisingFrom from cs
    → AreRisingFrom from (map (λ (c : Chunk). cond (is_chunk_at addr len c) (record c { attached = marks c.attached }) c) cs)
marks_rise marks addr len from [] rising = tt
marks_rise marks addr len from (c ∷ cs) rising =
    let same : (cond (is_chunk_at addr len c) (record c { attached = marks c.attached }) c).addr ≡ c.addr =
    cond_both (is_chunk_at addr len c) (record c { attached = marks c.attached }) c (λ (d : Chunk). d.addr ≡ c.addr) (λ here. refl) (λ other. refl) in
    (omega (arith, rising.0, same), subst (λ (n : ℕ). AreRisingFrom (n + 1) (map (λ (d : Chunk). cond (is_chunk_at addr len d) (record d { attached = marks d.attached }) d) cs)) (sym same) (marks_rise marks addr len (c.addr + 1) cs rising.1))

marks_stay : (marks : ℕ → ℕ) (addr len : ℕ) → ((m : ℕ) → m < 2 ^ 16 → marks m < 2 ^ 16) → (cs : List Chunk) → AllByRecursion (λ (c : Chunk). c.attached < 2 ^ 16) cs
    → AllByRecursion (λ (c : Chunk). c.attached < 2 ^ 16) (map (λ (c : Chunk). cond (is_chunk_at addr len c) (record c { attached = marks c.attached }) c) cs)
marks_stay marks addr len stay [] all = tt
marks_stay marks addr len stay (c ∷ cs) all = (
  cond_both (is_chunk_at addr len c) (record c { attached = marks c.attached }) c (λ (d : Chunk). d.attached < 2 ^ 16) (λ here. stay c.attached all.0) (λ other. all.0),
  marks_stay marks addr len stay cs all.1,
)

marks_kept : (marks : ℕ → ℕ) (addr len : ℕ) (heap : PlainHeap) → ((m : ℕ) → m < 2 ^ 16 → marks m < 2 ^ 16) → AreInOrder heap.chunks → AreInOrder (with_marks marks addr len heap).chunks
marks_kept marks addr len heap stay kept = record { rising = marks_rise marks addr len 0 heap.chunks kept.rising; marks = marks_stay marks addr len stay heap.chunks kept.marks }

left_kept : (o : Option Chunk) (heap : PlainHeap) → AreInOrder heap.chunks → AreInOrder (without_chunk o heap).chunks
left_kept None heap kept = kept
left_kept (Some chunk) heap kept = record {
  rising = filter_rises (λ (other : Chunk). Rattle.std.proofs.Common.not (eqb other.list chunk.list)) 0 heap.chunks kept.rising;
  marks = AllByRecursion-kept (λ (c : Chunk). c.attached < 2 ^ 16) (λ (other : Chunk). Rattle.std.proofs.Common.not (eqb other.list chunk.list)) heap.chunks kept.marks;
}

more_kept : (chunk : Chunk) (cs : List Chunk) → chunk.attached ≡ 0 → AreInOrder cs → AreInOrder (with_chunk chunk cs)
more_kept chunk cs unmarked kept = record {
  rising = with_chunk_rises chunk cs kept.rising;
  marks = AllByRecursion-append (λ (c : Chunk). c.attached < 2 ^ 16) (filter (λ (o : Chunk). ltb o.addr chunk.addr) cs) (chunk ∷ filter (λ (o : Chunk). ltb chunk.addr o.addr) cs)
      (AllByRecursion-kept (λ (c : Chunk). c.attached < 2 ^ 16) (λ (o : Chunk). ltb o.addr chunk.addr) cs kept.marks)
      (omega (arith, unmarked), AllByRecursion-kept (λ (c : Chunk). c.attached < 2 ^ 16) (λ (o : Chunk). ltb chunk.addr o.addr) cs kept.marks);
}

cut_kept_chunks : (o : Option PageCut) (heap : PlainHeap) → (after_cut_of o heap).chunks ≡ heap.chunks
cut_kept_chunks None heap = refl
cut_kept_chunks (Some cut) heap = refl

pub after-kept : (participant : ℕ) (step : HeapCall) (heap : PlainHeap) → AreInOrder heap.chunks → IsAllowed participant step heap → AreInOrder (after participant step heap).chunks
unfolding after after_name after_cut after_chunk after_unchunk after_share after_unshare
after-kept participant (call.Alloc request tag) heap kept allowed = subst AreInOrder (sym (alloc_kept heap participant request tag).chunks) kept
after-kept participant (call.Find tag) heap kept allowed = kept
after-kept participant (call.Free addr zone) heap kept allowed = subst AreInOrder (after_free-kept heap addr zone).chunks kept
after-kept participant (call.Resize addr size) heap kept allowed = subst AreInOrder (sym (resize_same heap addr size).chunks) kept
after-kept participant (call.Grow run) heap kept allowed = subst AreInOrder (grow-kept heap run).chunks kept
after-kept participant (call.Cut addr) heap kept allowed = subst AreInOrder (sym (cut_kept_chunks (cut_at addr heap) heap)) kept
after-kept participant call.Stats heap kept allowed = kept
after-kept participant (call.Name name socket) heap kept allowed = kept
after-kept participant call.Unname heap kept allowed = kept
after-kept participant (call.Chunk chunk) heap kept allowed = more_kept chunk heap.chunks allowed.1.unmarked kept
after-kept participant (call.Unchunk addr len) heap kept allowed = left_kept (chunk_at addr len heap) heap kept
after-kept participant (call.Share addr len) heap kept allowed = marks_kept (with_mark participant) addr len heap (λ m within. marked_within participant m allowed.0 within) kept
after-kept participant (call.Unshare addr len) heap kept allowed = marks_kept (without_mark participant) addr len heap (λ m within. unmarked_within participant m within) kept
