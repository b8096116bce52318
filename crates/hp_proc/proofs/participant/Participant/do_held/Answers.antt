-- What the line did with the names and the heap in hand, by its act.
use Rattle.std.proofs.Common.{◌∙◌, IfOk, List, OnErr, Some, ap, subst, sym, ℕ}
use Rattle.hp_external.specs.Creating.{IsPlaceFor}
use Rattle.hp_heap.specs.ChunkOrder.{AreInOrder}
use Rattle.hp_heap.specs.Chunks.{chunk_at}
use Rattle.hp_proc.proofs.ExternalMeant.{directory_is, that_heap}
use Rattle.hp_proc.proofs.HandFacts.HandNamed.{listed_here}
use Rattle.hp_proc.proofs.HeldArms.{destroyed_arm, gone_notes, left_arm, left_notes, made_arm, made_notes, ok_any, still_halts}
use Rattle.hp_proc.proofs.ThereDone.{on_err_map}
use Rattle.hp_proc.proofs.participant.Participant.do_held.Goals as goal
use Rattle.hp_proc.specs.Doing.{Doing}
use Rattle.hp_proc.specs.ExternalAnswers.{IsMeant, IsNamedHeap}
use Rattle.hp_proc.specs.ExternalLines.{destroying, leaving_chunk, making}
use Rattle.hp_proc.specs.Handing.{shared_of}
use Rattle.hp_proc.specs.LineTrees.{doing_held}
use Rattle.hp_proc.specs.MarksInHand.{NotesAct, NotesLeft}
use Rattle.hp_proc.specs.NamesInHand.{DoesNamedHeld, HaltsNamedHeld, IsIndexMeant}
use Rattle.hp_proc.specs.declared.own_chunk.OwnChunk.{OwnChunk}
use Rattle.hp_script.specs.declared.answer.Answer.{Answer}
use Rattle.hp_script.specs.declared.line.Act.{Act}
use Rattle.hp_zone.specs.Directory.{PlainDirectory}

-- THE HEAP IS THAT OF ITS NAME

pub destroy_held-requires-clause-named : goal.destroy_held-requires-clause-named
destroy_held-requires-clause-named g c =
    let heap = c.args.heap.now in
    let plain = c.args.names.now.heaps.plain in
    let is = subst (λ (deed : Act). IsIndexMeant deed plain heap.plain.index) c.in-Unheap.is c.requires.meant in
    that_heap plain c.as_bytes-in-Unheap.result.now heap.plain
    (subst (λ (text : List ℕ). IsMeant plain text heap.plain.index) (sym c.as_bytes-in-Unheap.ensures.text) is.meant) c.requires.serves

pub destroy_held-requires-clause-listed : goal.destroy_held-requires-clause-listed
destroy_held-requires-clause-listed g c =
    listed_here c.args.heap.now ((g.H.Hall.state c.args.hall.now).part c.args.self.now.party.me) c.args.names.now c.requires.holds.agrees
    c.requires.holds.holds.in_hand.few

pub add_held-requires-clause-named : goal.add_held-requires-clause-named
add_held-requires-clause-named g c =
    let heap = c.args.heap.now in
    let plain = c.args.names.now.heaps.plain in
    let is = subst (λ (deed : Act). IsIndexMeant deed plain heap.plain.index) c.in-Add.is c.requires.meant in
    that_heap plain c.as_bytes-in-Add.result.now heap.plain
    (subst (λ (text : List ℕ). IsMeant plain text heap.plain.index) (sym c.as_bytes-in-Add.ensures.text) is.meant) c.requires.serves

pub remove_held-requires-clause-named : goal.remove_held-requires-clause-named
remove_held-requires-clause-named g c =
    let heap = c.args.heap.now in
    let plain = c.args.names.now.heaps.plain in
    let is = subst (λ (deed : Act). IsIndexMeant deed plain heap.plain.index) c.in-Remove.is c.requires.meant in
    that_heap plain c.as_bytes-in-Remove.result.now heap.plain
    (subst (λ (text : List ℕ). IsMeant plain text heap.plain.index) (sym c.as_bytes-in-Remove.ensures.text) is.meant) c.requires.serves

pub map_held-requires-clause-named : goal.map_held-requires-clause-named
map_held-requires-clause-named g c =
    let heap = c.args.heap.now in
    let plain = c.args.names.now.heaps.plain in
    let is = subst (λ (deed : Act). IsIndexMeant deed plain heap.plain.index) c.in-Map.is c.requires.meant in
    that_heap plain c.as_bytes-in-Map.result.now heap.plain
    (subst (λ (text : List ℕ). IsMeant plain text heap.plain.index) (sym c.as_bytes-in-Map.ensures.text) is) c.requires.serves

pub unmap_held-requires-clause-named : goal.unmap_held-requires-clause-named
unmap_held-requires-clause-named g c =
    let heap = c.args.heap.now in
    let plain = c.args.names.now.heaps.plain in
    let is = subst (λ (deed : Act). IsIndexMeant deed plain heap.plain.index) c.in-Unmap.is c.requires.meant in
    that_heap plain c.as_bytes-in-Unmap.result.now heap.plain
    (subst (λ (text : List ℕ). IsMeant plain text heap.plain.index) (sym c.as_bytes-in-Unmap.ensures.text) is) c.requires.serves

-- A HEAP IS MADE

pub returns-in-Heap-clause-does : goal.returns-in-Heap-clause-does
returns-in-Heap-clause-does g c =
    let doer = c.args.self.now in
    let names = c.args.names.now in
    let heap = c.args.heap.now in
    let state = g.H.Hall.state c.args.hall.now in
    let order = subst AreInOrder c.chunks.ensures.chunks c.chunks.ensures.order in
    let new = c.make_held.new.self in
    let given = c.make_held.new.names in
    let next = c.make_held.new.heap in
    let text = c.as_bytes.result.now in
    let its = c.make_held.ensures in
    let place = subst (λ (text : List ℕ). IsPlaceFor names.heaps.plain text heap.plain.index) (sym c.as_bytes.ensures.text)
    (subst (λ (deed : Act). IsIndexMeant deed names.heaps.plain heap.plain.index) c.in-Heap.is c.requires.meant) in
    let leaves = made_arm doer new names given heap next state c.requires.holds order text its.sound c.make_held.result c.made_answer.result
    c.made_answer.ensures its.made its.refused its.err place in
    let pools = doer.context.pools in
    let tree = ap (λ (text : List ℕ). making text names.heaps.plain.next (Some heap.plain.index)) c.as_bytes.ensures.text
    ∙ (ap (λ (d : PlainDirectory). making c.in-Heap.name.text d.next (Some heap.plain.index))
    (directory_is pools names c.requires.holds.sound.1 c.requires.holds.sockets)
    ∙ ap (λ (deed : Act). doing_held doer.party.me pools deed (shared_of names) heap.plain) (sym c.in-Heap.is)) in
    subst (λ (doing : Doing). IfOk c.made_answer.result
    (λ said. DoesNamedHeld doer.party.me doer new names given heap next state state doing (Doing.Ended said))) tree leaves.does

pub returns-in-Heap-clause-halts : goal.returns-in-Heap-clause-halts
returns-in-Heap-clause-halts g c =
    let doer = c.args.self.now in
    let names = c.args.names.now in
    let heap = c.args.heap.now in
    let state = g.H.Hall.state c.args.hall.now in
    let order = subst AreInOrder c.chunks.ensures.chunks c.chunks.ensures.order in
    let new = c.make_held.new.self in
    let given = c.make_held.new.names in
    let next = c.make_held.new.heap in
    let text = c.as_bytes.result.now in
    let its = c.make_held.ensures in
    let place = subst (λ (text : List ℕ). IsPlaceFor names.heaps.plain text heap.plain.index) (sym c.as_bytes.ensures.text)
    (subst (λ (deed : Act). IsIndexMeant deed names.heaps.plain heap.plain.index) c.in-Heap.is c.requires.meant) in
    let leaves = made_arm doer new names given heap next state c.requires.holds order text its.sound c.make_held.result c.made_answer.result
    c.made_answer.ensures its.made its.refused its.err place in
    let pools = doer.context.pools in
    let tree = ap (λ (text : List ℕ). making text names.heaps.plain.next (Some heap.plain.index)) c.as_bytes.ensures.text
    ∙ (ap (λ (d : PlainDirectory). making c.in-Heap.name.text d.next (Some heap.plain.index))
    (directory_is pools names c.requires.holds.sound.1 c.requires.holds.sockets)
    ∙ ap (λ (deed : Act). doing_held doer.party.me pools deed (shared_of names) heap.plain) (sym c.in-Heap.is)) in
    subst (λ (doing : Doing). OnErr c.made_answer.result (HaltsNamedHeld doer.party.me doer new names given heap next state state doing)) tree
    leaves.halts

pub returns-in-Heap-clause-keeps : goal.returns-in-Heap-clause-keeps
returns-in-Heap-clause-keeps g c =
    let doer = c.args.self.now in
    let names = c.args.names.now in
    let heap = c.args.heap.now in
    let state = g.H.Hall.state c.args.hall.now in
    let order = subst AreInOrder c.chunks.ensures.chunks c.chunks.ensures.order in
    let new = c.make_held.new.self in
    let given = c.make_held.new.names in
    let next = c.make_held.new.heap in
    let text = c.as_bytes.result.now in
    let its = c.make_held.ensures in
    let place = subst (λ (text : List ℕ). IsPlaceFor names.heaps.plain text heap.plain.index) (sym c.as_bytes.ensures.text)
    (subst (λ (deed : Act). IsIndexMeant deed names.heaps.plain heap.plain.index) c.in-Heap.is c.requires.meant) in
    let leaves = made_arm doer new names given heap next state c.requires.holds order text its.sound c.make_held.result c.made_answer.result
    c.made_answer.ensures its.made its.refused its.err place in
    leaves.keeps

pub returns-in-Heap-clause-noted : goal.returns-in-Heap-clause-noted
returns-in-Heap-clause-noted g c =
    let doer = c.args.self.now in
    let heap = c.args.heap.now in
    let its = c.make_held.ensures in
    let same = made_notes c.as_bytes.result.now doer c.make_held.new.self c.args.names.now c.make_held.new.names heap c.make_held.new.heap
    c.make_held.result its.made its.err in
    subst (λ (deed : Act). IfOk c.made_answer.result (λ said. NotesAct deed heap.plain.index said doer.context c.make_held.new.self.context))
    (sym c.in-Heap.is) (ok_any c.made_answer.result _ (λ said. same))

pub returns-in-Heap-clause-goes_on : goal.returns-in-Heap-clause-goes_on
returns-in-Heap-clause-goes_on g c = g.met.H.Hall.goes_on_same _

-- ONE IS DESTROYED

pub returns-in-Unheap-clause-does : goal.returns-in-Unheap-clause-does
returns-in-Unheap-clause-does g c =
    let doer = c.args.self.now in
    let names = c.args.names.now in
    let heap = c.args.heap.now in
    let state = g.H.Hall.state c.args.hall.now in
    let order = subst AreInOrder c.chunks.ensures.chunks c.chunks.ensures.order in
    let new = c.destroy_held.new.self in
    let given = c.destroy_held.new.names in
    let next = c.destroy_held.new.heap in
    let text = c.as_bytes-in-Unheap.result.now in
    let its = c.destroy_held.ensures in
    let named = subst (λ (text : List ℕ). IsNamedHeap names.heaps.plain text heap.plain.index) (sym c.as_bytes-in-Unheap.ensures.text)
    (subst (λ (deed : Act). IsIndexMeant deed names.heaps.plain heap.plain.index) c.in-Unheap.is c.requires.meant) in
    let ends = destroyed_arm doer new names given heap next state c.requires.holds order text its.sound c.destroy_held.result its.destroyed its.refused
    its.err named in
    subst (λ (deed : Act). DoesNamedHeld doer.party.me doer new names given heap next state state
    (doing_held doer.party.me doer.context.pools deed (shared_of names) heap.plain) (Doing.Ended c.destroy_answer.result)) (sym c.in-Unheap.is)
    (subst (λ (said : Answer). DoesNamedHeld doer.party.me doer new names given heap next state state (destroying heap.plain.index heap.plain)
    (Doing.Ended said)) (sym c.destroy_answer.ensures) ends.does)

pub returns-in-Unheap-clause-keeps : goal.returns-in-Unheap-clause-keeps
returns-in-Unheap-clause-keeps g c =
    let doer = c.args.self.now in
    let names = c.args.names.now in
    let heap = c.args.heap.now in
    let state = g.H.Hall.state c.args.hall.now in
    let order = subst AreInOrder c.chunks.ensures.chunks c.chunks.ensures.order in
    let new = c.destroy_held.new.self in
    let given = c.destroy_held.new.names in
    let next = c.destroy_held.new.heap in
    let text = c.as_bytes-in-Unheap.result.now in
    let its = c.destroy_held.ensures in
    let named = subst (λ (text : List ℕ). IsNamedHeap names.heaps.plain text heap.plain.index) (sym c.as_bytes-in-Unheap.ensures.text)
    (subst (λ (deed : Act). IsIndexMeant deed names.heaps.plain heap.plain.index) c.in-Unheap.is c.requires.meant) in
    let ends = destroyed_arm doer new names given heap next state c.requires.holds order text its.sound c.destroy_held.result its.destroyed its.refused
    its.err named in
    ends.keeps

pub returns-in-Unheap-clause-noted : goal.returns-in-Unheap-clause-noted
returns-in-Unheap-clause-noted g c =
    let doer = c.args.self.now in
    let heap = c.args.heap.now in
    let its = c.destroy_held.ensures in
    subst (λ (deed : Act). NotesAct deed heap.plain.index c.destroy_answer.result doer.context c.destroy_held.new.self.context) (sym c.in-Unheap.is)
    (gone_notes c.as_bytes-in-Unheap.result.now doer c.destroy_held.new.self c.args.names.now c.destroy_held.new.names heap c.destroy_held.new.heap
    c.destroy_held.result its.destroyed its.err)

pub returns-in-Unheap-clause-goes_on : goal.returns-in-Unheap-clause-goes_on
returns-in-Unheap-clause-goes_on g c = g.met.H.Hall.goes_on_same _

-- MEMORY COMES, AND GOES

pub returns-in-Add-clause-does : goal.returns-in-Add-clause-does
returns-in-Add-clause-does g c =
    let doer = c.args.self.now in
    let names = c.args.names.now in
    let heap = c.args.heap.now in
    subst (λ (deed : Act). IfOk c.add_held.result (λ said. DoesNamedHeld doer.party.me doer c.add_held.new.self names c.add_held.new.names heap
    c.add_held.new.heap (g.H.Hall.state c.args.hall.now) (g.H.Hall.state c.add_held.new.hall)
    (doing_held doer.party.me doer.context.pools deed (shared_of names) heap.plain) (Doing.Ended said))) (sym c.in-Add.is) c.add_held.ensures.does

pub returns-in-Add-clause-halts : goal.returns-in-Add-clause-halts
returns-in-Add-clause-halts g c =
    let doer = c.args.self.now in
    let names = c.args.names.now in
    let heap = c.args.heap.now in
    subst (λ (deed : Act). OnErr c.add_held.result (HaltsNamedHeld doer.party.me doer c.add_held.new.self names c.add_held.new.names heap
    c.add_held.new.heap (g.H.Hall.state c.args.hall.now) (g.H.Hall.state c.add_held.new.hall)
    (doing_held doer.party.me doer.context.pools deed (shared_of names) heap.plain))) (sym c.in-Add.is) c.add_held.ensures.halts

pub returns-in-Add-clause-noted : goal.returns-in-Add-clause-noted
returns-in-Add-clause-noted g c =
    let doer = c.args.self.now in
    subst (λ (deed : Act). IfOk c.add_held.result (λ said. NotesAct deed c.args.heap.now.plain.index said doer.context c.add_held.new.self.context))
    (sym c.in-Add.is) (ok_any c.add_held.result _ (λ said. c.add_held.ensures.noted))

pub returns-in-Remove-clause-noted : goal.returns-in-Remove-clause-noted
returns-in-Remove-clause-noted g c =
    let doer = c.args.self.now in
    subst (λ (deed : Act). NotesAct deed c.args.heap.now.plain.index c.remove_held.result doer.context c.remove_held.new.self.context)
    (sym c.in-Remove.is) c.remove_held.ensures.noted

-- A CHUNK IS ATTACHED, AND LEFT

pub returns-in-Map-clause-halts : goal.returns-in-Map-clause-halts
returns-in-Map-clause-halts g c =
    let doer = c.args.self.now in
    let names = c.args.names.now in
    let heap = c.args.heap.now in
    let state = g.H.Hall.state c.args.hall.now in
    let order = subst AreInOrder c.chunks.ensures.chunks c.chunks.ensures.order in
    let new = c.map_held.new.self in
    let next = c.map_held.new.heap in
    let tree = doing_held doer.party.me doer.context.pools c.args.act.now (shared_of names) heap.plain in
    on_err_map c.map_held.result
    (λ both.
    subst (λ hall. HaltsNamedHeld doer.party.me doer new names names heap next state (g.H.Hall.state hall) tree) (sym both.1)
    (still_halts doer new names names heap next state c.requires.holds order both.0 tree)) c.map_held.ensures.err

pub returns-in-Map-clause-noted : goal.returns-in-Map-clause-noted
returns-in-Map-clause-noted g c =
    let doer = c.args.self.now in
    subst (λ (deed : Act). IfOk c.map_held.result (λ said. NotesAct deed c.args.heap.now.plain.index said doer.context c.map_held.new.self.context))
    (sym c.in-Map.is) c.map_held.ensures.noted

pub returns-in-Unmap-clause-does : goal.returns-in-Unmap-clause-does
returns-in-Unmap-clause-does g c =
    let doer = c.args.self.now in
    let names = c.args.names.now in
    let heap = c.args.heap.now in
    let state = g.H.Hall.state c.args.hall.now in
    let order = subst AreInOrder c.chunks.ensures.chunks c.chunks.ensures.order in
    let new = c.unmap_held.new.self in
    let next = c.unmap_held.new.heap in
    let text = c.as_bytes-in-Unmap.result.now in
    let its = c.unmap_held.ensures in
    let meant = subst (λ (text : List ℕ). IsMeant names.heaps.plain text heap.plain.index) (sym c.as_bytes-in-Unmap.ensures.text)
    (subst (λ (deed : Act). IsIndexMeant deed names.heaps.plain heap.plain.index) c.in-Unmap.is c.requires.meant) in
    let ends = left_arm doer new names heap next state c.requires.holds order text c.in-Unmap.addr c.in-Unmap.len c.unmap_held.result its.left its.refused
    its.err meant in
    subst (λ (deed : Act). DoesNamedHeld doer.party.me doer new names names heap next state state
    (doing_held doer.party.me doer.context.pools deed (shared_of names) heap.plain) (Doing.Ended c.left_answer.result)) (sym c.in-Unmap.is)
    (subst (λ (said : Answer). DoesNamedHeld doer.party.me doer new names names heap next state state
    (leaving_chunk doer.party.me heap.plain.index c.in-Unmap.addr c.in-Unmap.len heap.plain (chunk_at c.in-Unmap.addr c.in-Unmap.len heap.plain))
    (Doing.Ended said)) (sym c.left_answer.ensures) ends.does)

pub returns-in-Unmap-clause-keeps : goal.returns-in-Unmap-clause-keeps
returns-in-Unmap-clause-keeps g c =
    let doer = c.args.self.now in
    let names = c.args.names.now in
    let heap = c.args.heap.now in
    let state = g.H.Hall.state c.args.hall.now in
    let order = subst AreInOrder c.chunks.ensures.chunks c.chunks.ensures.order in
    let new = c.unmap_held.new.self in
    let next = c.unmap_held.new.heap in
    let text = c.as_bytes-in-Unmap.result.now in
    let its = c.unmap_held.ensures in
    let meant = subst (λ (text : List ℕ). IsMeant names.heaps.plain text heap.plain.index) (sym c.as_bytes-in-Unmap.ensures.text)
    (subst (λ (deed : Act). IsIndexMeant deed names.heaps.plain heap.plain.index) c.in-Unmap.is c.requires.meant) in
    let ends = left_arm doer new names heap next state c.requires.holds order text c.in-Unmap.addr c.in-Unmap.len c.unmap_held.result its.left its.refused
    its.err meant in
    ends.keeps

pub returns-in-Unmap-clause-noted : goal.returns-in-Unmap-clause-noted
returns-in-Unmap-clause-noted g c =
    let doer = c.args.self.now in
    let heap = c.args.heap.now in
    let its = c.unmap_held.ensures in
    let note : OwnChunk = record { heap = heap.plain.index; addr = c.in-Unmap.addr; len = c.in-Unmap.len } in
    subst (λ (deed : Act). NotesAct deed heap.plain.index c.left_answer.result doer.context c.unmap_held.new.self.context) (sym c.in-Unmap.is)
    (subst (λ (said : Answer). NotesLeft said note doer.context c.unmap_held.new.self.context) (sym c.left_answer.ensures)
    (left_notes c.as_bytes-in-Unmap.result.now note doer c.unmap_held.new.self c.args.names.now heap c.unmap_held.new.heap c.unmap_held.result its.left
    its.err))

pub returns-in-Unmap-clause-goes_on : goal.returns-in-Unmap-clause-goes_on
returns-in-Unmap-clause-goes_on g c = g.met.H.Hall.goes_on_same _
