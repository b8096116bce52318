use Rattle.std.proofs.Common.{rules, tests, ◌≡◌, position}
use Rattle.std.proofs.lemmas.Iterator.{YieldsList-from_slice}
use Rattle.std.proofs.lemmas.Iterator.Search.{position_from_yields_List}
use Rattle.hp_heap.specs.PageLists.{is_of}
use Rattle.hp_heap.proofs.CutFacts.PageListLemmas.{place_found, place_missing}
use Rattle.hp_heap.proofs.page_list.place_of.Goals as goal

pub returns : goal.returns
returns c =
    let at : c.position.result ≡ position (is_of c.args.list) c.args.lists.now
    = position_from_yields_List (is_of c.args.list) _ _ c.position.result c.position.ensures.ran (YieldsList-from_slice _ c.iter.ensures.rest) (λ x b q k. search (rules, tests)) in
    record {
      found = place_found c.args.lists.now c.args.list c.position.result at;
      none = place_missing c.args.lists.now c.args.list c.position.result at;
    }
