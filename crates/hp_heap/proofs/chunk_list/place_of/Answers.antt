use Rattle.std.proofs.Common.{◌≡◌, ℕ, Option, length, position, unwrap_or, ap, ◌∙◌, rules, tests}
use Rattle.std.proofs.lemmas.Iterator.{YieldsList-from_slice}
use Rattle.std.proofs.lemmas.Iterator.Search.{position_from_yields_List}
use Rattle.hp_heap.specs.ChunkKeeping.{is_of}
use Rattle.hp_heap.proofs.ChunkFacts.ChunkListLemmas.{place_or_end}
use Rattle.hp_heap.proofs.chunk_list.place_of.Goals as goal

pub returns : goal.returns
returns c =
    let at : c.position-place.result ≡ position (is_of c.args.list) c.args.chunks.now
    = position_from_yields_List (is_of c.args.list) _ _ c.position-place.result c.position-place.ensures.ran (YieldsList-from_slice _ c.iter.ensures.rest) (λ x b q k. search (rules, tests)) in
    c.unwrap_or.ensures
    ∙ ap (λ (o : Option ℕ). unwrap_or o (length c.args.chunks.now)) at
    ∙ place_or_end (is_of c.args.list) c.args.chunks.now
