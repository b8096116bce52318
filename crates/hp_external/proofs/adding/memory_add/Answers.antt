use Rattle.std.proofs.Common.{◌≡◌, ℕ, List, ◌∷◌, [], ◌++◌, Ok, refl, sym, ap, subst, ◌∙◌, arith, rules}
use Rattle.hp_base.specs.declared.chunk.Chunk.{Chunk}
use Rattle.hp_heap.specs.Chunks.{CanAddChunk, after_chunk}
use Rattle.hp_heap.specs.Step.{after}
use Rattle.hp_segs.specs.Ranges.{after_claim_range, range_plan}
use Rattle.hp_zone.specs.Directory.{with_more, with_room}
use Rattle.hp_zone.specs.declared.name_change.NameChange.TheVariants.{Range}
use Rattle.hp_external.specs.Adding.{IsAddFault, range_fault}
use Rattle.hp_external.proofs.AddLemmas.{answer_ok, can_add, given_back, if_err, lacks_memory, list_free, refused_plan}
use Rattle.hp_external.proofs.TieSteps.{tied_by, tied_more}
use Rattle.hp_external.proofs.adding.memory_add.Goals as goal

pub returns-in_err-list-clause-refused : goal.returns-in_err-list-clause-refused
returns-in_err-list-clause-refused c =
    if_err c.from_residual-in_err-list.result (range_fault c.in_err-list.field-0.0)
    (IsAddFault c.args.names.now.heaps.plain c.args.text.now (range_plan c.args.addr c.args.len c.args.page c.args.segs.now))
    c.from_residual-in_err-list.ensures.1
    (refused_plan c.args.names.now.heaps.plain c.args.text.now _ c.in_ok-socket.socket c.in_ok-socket.ensures.name c.in_ok-socket.ensures.found
    c.args.segs.now c.args.addr c.args.len c.args.page c.in_err-list.field-0.0 c.in_err-list.ensures.answer)

pub returns-then-is_err-clause-refused : goal.returns-then-is_err-clause-refused
returns-then-is_err-clause-refused c =
    lacks_memory c.args.names.now.heaps.plain c.args.text.now _ c.in_ok-socket.socket c.in_ok-socket.ensures.name c.in_ok-socket.ensures.found
    (range_plan c.args.addr c.args.len c.args.page c.args.segs.now) c.in_ok-list.list
    (answer_ok (range_plan c.args.addr c.args.len c.args.page c.args.segs.now) c.in_ok-list.list c.in_ok-list.ensures.answer)

pub returns-then-is_err-clause-err : goal.returns-then-is_err-clause-err
returns-then-is_err-clause-err c =
    let planned = answer_ok (range_plan c.args.addr c.args.len c.args.page c.args.segs.now) c.in_ok-list.list c.in_ok-list.ensures.answer in
    let same : c.reserve.new.self ≡ c.args.names.now.heaps = search rules in
    let released : c.release_range.new.self ≡ c.args.segs.now
    = c.release_range.ensures.step ∙ ap (Rattle.hp_segs.specs.Ranges.after_release_range c.in_ok-list.list) c.in_ok-list.ensures.ok
    ∙ given_back c.args.segs.now c.args.addr c.args.len c.args.page c.in_ok-list.list c.in_ok-socket.socket planned in
    (ap (λ heaps. record { zones = c.args.names.now.zones; heaps = heaps }) same, released, refl)

pub returns-then-is_err-clause-tied : goal.returns-then-is_err-clause-tied
returns-then-is_err-clause-tied c participant rows tied =
    let all = returns-then-is_err-clause-err c in
    let same : c.reserve.new.self ≡ c.args.names.now.heaps = search rules in
    tied_by _ _ _ _ participant rows rows _ _ (ap (λ d. d.plain.ranges) same) (ap (λ s. s.ranges) all.1) refl refl tied

pub add_chunk-requires-clause-allowed : goal.add_chunk-requires-clause-allowed
add_chunk-requires-clause-allowed c = (
  c.requires.caller.participant,
  can_add c.args.segs.now c.args.addr c.args.len c.args.page c.in_ok-list.list c.in_ok-socket.socket
      (answer_ok (range_plan c.args.addr c.args.len c.args.page c.args.segs.now) c.in_ok-list.list c.in_ok-list.ensures.answer)
      c.records-records.ensures.sound c.args.heap.now.plain c.sound.ensures.tiled
      (c.requires.named _ _ c.in_ok-socket.ensures.found).external c.requires.claimed,
)

pub returns-clause-added : goal.returns-clause-added
returns-clause-added c =
    let reserved : c.reserve.new.self ≡ with_room c.args.names.now.heaps = search rules in
    let that = c.requires.named _ _ c.in_ok-socket.ensures.found in
    record {
      name = c.in_ok-socket.ensures.name;
      list = c.in_ok-list.list;
      socket = c.in_ok-socket.socket;
      named = subst (λ i. Rattle.hp_external.specs.Naming.IsExternalName c.args.names.now.heaps.plain c.args.text.now i c.in_ok-socket.socket) (sym that.index_is) c.in_ok-socket.ensures.found;
      planned = answer_ok (range_plan c.args.addr c.args.len c.args.page c.args.segs.now) c.in_ok-list.list c.in_ok-list.ensures.answer;
      claimed = c.in_ok-list.ensures.ok;
      listed =
          c.add_range.ensures
          ∙ ap (λ d. with_more d (Range c.index.result c.args.addr c.args.len c.args.page)) reserved
          ∙ ap (λ i. with_more (with_room c.args.names.now.heaps) (Range i c.args.addr c.args.len c.args.page)) c.index.ensures;
      zones = refl;
      came = c.add_chunk.ensures;
    }

pub returns-clause-tied : goal.returns-clause-tied
unfolding after returns-clause-added
returns-clause-tied c participant rows tied =
    let added = returns-clause-added c in
    let chunk : Chunk = record { list = c.in_ok-list.list; addr = c.args.addr; len = c.args.len; page = c.args.page; socket = c.in_ok-socket.socket; attached = 0 } in
    tied_by _ c.add_range.new.self.plain.ranges _ c.claim_range.new.self.ranges participant rows rows _ c.add_chunk.new.self.plain
    (ap (λ d. d.plain.ranges) added.listed) (ap (λ s. s.ranges) added.claimed) refl c.add_chunk.ensures.heap
    (tied_more c.args.names.now.heaps.plain.ranges c.args.segs.now.ranges participant rows c.args.heap.now.plain chunk c.sound.ensures.tiled
    c.add_chunk.ensures.allowed.1
    (list_free c.args.segs.now c.args.addr c.args.len c.args.page c.in_ok-list.list c.in_ok-socket.socket added.planned) tied)
