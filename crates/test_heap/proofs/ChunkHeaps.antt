-- The heap of two chunks that the tests begin with, and the calls that may be made of it.
use Rattle.std.proofs.Common.{◌≡◌, ℕ, ◌<◌, ◌+◌, false, Option, Some, None, refl, sym, ap, ◌∙◌, subst, arith, nat_le, ◌==◌, IsTrue}
use lib.Count.{ones}
use Rattle.std.proofs.lemmas.Bool.{lt-leb}
use Rattle.std.proofs.lemmas.Nat.{ones_cat}
use Rattle.std.specs.Int.{is_power_of_two}
use Rattle.std.specs.Option.{IsSomeAnd, IfSome}
use Rattle.hp_base.specs.declared.chunk.Chunk.{Chunk}
use Rattle.hp_base.specs.declared.tag.Caller.{Caller}
use Rattle.hp_heap.specs.declared.entry.HeapCall.{HeapCall}
use Rattle.hp_heap.specs.declared.entry.HeapCall.TheVariants as call
use Rattle.hp_heap.specs.declared.entry.HeapAnswer.TheVariants as answer
use Rattle.hp_heap.specs.PlainHeap.{PlainHeap, opening_heap}
use Rattle.hp_heap.specs.Chunks.{after_chunk, after_share, after_unshare, chunk_of, chunk_at, with_mark, CanAddChunk}
use Rattle.hp_heap.specs.Step.{after}
use Rattle.hp_heap.specs.Allowed.{IsAllowed}
use Rattle.hp_heap.specs.History.{HeapView, IsCall}

-- the two chunks
abbrev pub first : Chunk
first = record { list = 256; addr = 481036337152; len = 4194304; page = 2097152; socket = 256; attached = 0 }

abbrev pub second : Chunk
second = record { list = 257; addr = 481040531456; len = 2097152; page = 2097152; socket = 256; attached = 0 }

-- the heap with the second, with both, where participant 0 attached the first, where participant 3 did too, and where 0 left it
abbrev pub opening : PlainHeap
opening = opening_heap 32 None

abbrev pub one : PlainHeap
one = after_chunk second opening

abbrev pub both : PlainHeap
both = after_chunk first one

abbrev pub attached : PlainHeap
attached = after_share 0 first.addr first.len both

abbrev pub attached_twice : PlainHeap
attached_twice = after_share 3 first.addr first.len attached

abbrev pub left : PlainHeap
left = after_unshare 0 first.addr first.len attached_twice

-- the size of a page has one bit
one_of_one : ones 1 ≡ 1
unfolding ones
one_of_one = refl

none_of_zero : ones 0 ≡ 0
unfolding ones
none_of_zero = refl

page_power : IsTrue (is_power_of_two 2097152)
page_power =
    let bits : ones 2097152 ≡ ones 1 + ones 0 = ones_cat 21 1 0 (omega arith) in
    ap (λ (n : ℕ). n == 1) (let one_bit : ones 2097152 ≡ 1 = omega (arith, bits, one_of_one, none_of_zero) in one_bit)

pub second_comes : CanAddChunk second opening
second_comes = record {
  external = refl;
  memory = record { power = page_power; least = omega arith; greatest = omega arith; aligned = refl; whole = refl; some = omega arith; end = omega arith };
  unmarked = refl;
  own_list = tt;
  fresh = λ byte from to. refl;
}

pub first_comes : CanAddChunk first one
unfolding after_chunk
first_comes = record {
  external = refl;
  memory = record { power = page_power; least = omega arith; greatest = omega arith; aligned = refl; whole = refl; some = omega arith; end = omega arith };
  unmarked = refl;
  own_list = (λ same. omega (arith, same), tt);
  fresh = λ byte from to. (let below : nat_le 481040531456 byte ≡ false = lt-leb 481040531456 byte (omega (arith, to)) in rw below refl);
}

-- what holds of the chunk that a segment list has
module _ (h : PlainHeap) (list : ℕ) (chunk : Chunk) (has : chunk_of list h ≡ Some chunk) (made : Chunk → HeapCall) where
  pub may : (participant : ℕ) (now : PlainHeap) → now ≡ h → IsAllowed participant (made chunk) h → IsSomeAnd (chunk_of list now) (λ c. IsAllowed participant (made c) now)
  may participant now is allowed =
      subst (λ (p : PlainHeap). IsSomeAnd (chunk_of list p) (λ c. IsAllowed participant (made c) p)) (sym is)
      (subst (λ (o : Option Chunk). IsSomeAnd o (λ c. IsAllowed participant (made c) h)) (sym has) allowed)

  pub made_is : (caller : Caller) (old new : HeapView) → old.plain ≡ h → IfSome (chunk_of list old.plain) (λ c. IsCall caller (made c) answer.Done old new)
      → (new.plain ≡ after caller.participant (made chunk) h) × (new.spare + 1 ≡ old.spare)
  made_is caller old new is given =
      let one : IsCall caller (made chunk) answer.Done old new = subst (λ (o : Option Chunk). IfSome o (λ c. IsCall caller (made c) answer.Done old new)) (ap (chunk_of list) is ∙ has) given in
      (one.heap ∙ ap (after caller.participant (made chunk)) is, one.spare)

abbrev shares : Chunk → HeapCall
shares chunk = call.Share chunk.addr chunk.len

abbrev leaves : Chunk → HeapCall
leaves chunk = call.Unshare chunk.addr chunk.len

abbrev removes : Chunk → HeapCall
removes chunk = call.Unchunk chunk.addr chunk.len

-- the first chunk with other marks
abbrev marked : ℕ → Chunk
marked marks = record first { attached = marks }

-- the chunk of the first list in each of these heaps
marks_both : chunk_of 256 both ≡ Some first
unfolding chunk_of after_chunk
marks_both = refl

marks_attached : chunk_of 256 attached ≡ Some (marked (with_mark 0 0))
unfolding chunk_of after_chunk after_share
marks_attached = refl

marks_twice : chunk_of 256 attached_twice ≡ Some (marked (with_mark 3 (with_mark 0 0)))
unfolding chunk_of after_chunk after_share
marks_twice = refl

second_left : chunk_of 257 left ≡ Some second
unfolding chunk_of after_chunk after_share after_unshare
second_left = refl

-- what may be done with the chunks, one call after another
may_share : (participant : ℕ) → participant < 16 → IsAllowed participant (shares first) both
unfolding chunk_at after_chunk
may_share participant within = (within, record { external = refl; found = refl })

may_share_again : (participant : ℕ) → participant < 16 → IsAllowed participant (shares first) attached
unfolding chunk_at after_chunk after_share
may_share_again participant within = (within, record { external = refl; found = refl })

may_leave : (participant : ℕ) → participant < 16 → IsAllowed participant (leaves first) attached_twice
unfolding chunk_at after_chunk after_share
may_leave participant within = (within, record { external = refl; found = refl })

may_remove : (participant : ℕ) → participant < 16 → IsAllowed participant (removes second) left
unfolding chunk_at after_chunk after_share after_unshare
may_remove participant within = (within, record { external = refl; unused = record { unmarked = refl; free = (λ _. refl, (λ _. refl, tt)) } })

-- the same of a heap that is known to be one of these
module _ (now : PlainHeap) where
  pub shares_first : now ≡ both → IsSomeAnd (chunk_of 256 now) (λ chunk. IsAllowed 0 (shares chunk) now)
  shares_first is = may both 256 first marks_both shares 0 now is (may_share 0 (omega arith))

  pub shares_again : now ≡ attached → IsSomeAnd (chunk_of 256 now) (λ chunk. IsAllowed 3 (shares chunk) now)
  shares_again is = may attached 256 (marked (with_mark 0 0)) marks_attached shares 3 now is (may_share_again 3 (omega arith))

  pub leaves_first : now ≡ attached_twice → IsSomeAnd (chunk_of 256 now) (λ chunk. IsAllowed 0 (leaves chunk) now)
  leaves_first is = may attached_twice 256 (marked (with_mark 3 (with_mark 0 0))) marks_twice leaves 0 now is (may_leave 0 (omega arith))

  pub removes_second : now ≡ left → IsSomeAnd (chunk_of 257 now) (λ chunk. IsAllowed 0 (removes chunk) now)
  removes_second is = may left 257 second second_left removes 0 now is (may_remove 0 (omega arith))

-- and what comes of it
module _ (number : ℕ) (old new : HeapView) where
  abbrev by : ℕ → Caller
  by participant = record { participant = participant; number = number }

  pub shared_first : old.plain ≡ both → IfSome (chunk_of 256 old.plain) (λ chunk. IsCall (by 0) (shares chunk) answer.Done old new) → (new.plain ≡ attached) × (new.spare + 1 ≡ old.spare)
  unfolding after
  shared_first is given = made_is both 256 first marks_both shares (by 0) old new is given

  pub shared_again : old.plain ≡ attached → IfSome (chunk_of 256 old.plain) (λ chunk. IsCall (by 3) (shares chunk) answer.Done old new) → (new.plain ≡ attached_twice) × (new.spare + 1 ≡ old.spare)
  unfolding after
  shared_again is given = made_is attached 256 (marked (with_mark 0 0)) marks_attached shares (by 3) old new is given

  pub left_first : old.plain ≡ attached_twice → IfSome (chunk_of 256 old.plain) (λ chunk. IsCall (by 0) (leaves chunk) answer.Done old new) → (new.plain ≡ left) × (new.spare + 1 ≡ old.spare)
  unfolding after
  left_first is given = made_is attached_twice 256 (marked (with_mark 3 (with_mark 0 0))) marks_twice leaves (by 0) old new is given
