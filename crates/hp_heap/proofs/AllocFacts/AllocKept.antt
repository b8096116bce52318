-- What an allocation and a resize leave alone.
use Rattle.std.proofs.Common.{◌≡◌, ℕ, refl, Option, Some, None}
use Rattle.hp_base.specs.declared.span.Span.{Span}
use Rattle.hp_base.specs.declared.tag.Tag.{Tag}
use Rattle.hp_base.specs.declared.request.Request.{Request}
use Rattle.hp_heap.specs.PlainHeap.{PlainHeap}
use Rattle.hp_heap.specs.Choice.{chosen}
use Rattle.hp_heap.specs.Placing.{placed, after_choice, after_alloc}

-- all but the elements and the number of insertions is as it was
pub record SameButElements (old new : PlainHeap) : Type 0 where
  pub serves : new.serves ≡ old.serves
  pub name : new.name ≡ old.name
  pub socket : new.socket ≡ old.socket
  pub pages : new.pages ≡ old.pages
  pub chunks : new.chunks ≡ old.chunks

pub after_alloc-kept : (heap : PlainHeap) (request : Request) (tag : Tag) (o : Option Span) → SameButElements heap (after_choice o request tag heap)
unfolding placed
after_alloc-kept heap request tag None = record { serves = refl; name = refl; socket = refl; pages = refl; chunks = refl }
after_alloc-kept heap request tag (Some range) = record { serves = refl; name = refl; socket = refl; pages = refl; chunks = refl }

pub alloc_kept : (heap : PlainHeap) (participant : ℕ) (request : Request) (tag : Tag) → SameButElements heap (after_alloc participant request tag heap)
unfolding after_alloc
alloc_kept heap participant request tag = after_alloc-kept heap request tag (chosen participant request heap)
