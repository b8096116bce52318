use Rattle.std.proofs.Common.{◌≡◌, ℕ, Bool, Option, length, position, unwrap_or, nat_lt, ap, ◌∙◌, rules, tests}
use Rattle.std.proofs.lemmas.Iterator.{YieldsList-from_slice}
use Rattle.std.proofs.lemmas.Iterator.Search.{position_from_yields_List}
use Rattle.hp_base.specs.declared.chunk.Chunk.{Chunk}
use Rattle.hp_heap.proofs.ChunkFacts.ChunkListLemmas.{place_or_end}
use Rattle.hp_heap.proofs.chunk_list.place_above.Goals as goal

pub returns : goal.returns
returns c =
    let above : Chunk → Bool = λ chunk. nat_lt c.args.addr chunk.addr in
    let at : c.position-place.result ≡ position above c.args.chunks.now
    = position_from_yields_List above _ _ c.position-place.result c.position-place.ensures.ran (YieldsList-from_slice _ c.iter.ensures.rest) (λ x b q k. search (rules, tests)) in
    c.unwrap_or.ensures
    ∙ ap (λ (o : Option ℕ). unwrap_or o (length c.args.chunks.now)) at
    ∙ place_or_end above c.args.chunks.now
