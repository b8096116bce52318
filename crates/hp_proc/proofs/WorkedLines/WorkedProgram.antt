-- Worked values, line by line: a program reserves a pool of objects and a ring, and two others await that. One looks the pool up, and one
-- allocates a table.
use Rattle.std.proofs.Common.{◌≡◌, ◌∙◌, refl, ap, subst, arith, ne_eqb, ℕ, ◌<◌, zero, suc, ◌^◌, true, List, [], ◌∷◌, filter_map, Option, Some, None, Contains}
use Rattle.std.specs.Prelude.{codes, slice_get}
use Rattle.std.specs.List.{All, slice_index_or}
use Rattle.std.specs.Option.{option_map}
use Rattle.std.proofs.lemmas.Option.{same_Some}
use lib.Count.{ones}
use Rattle.hp_base.specs.Flags as flags
use Rattle.hp_base.specs.Requests.{IsAccepted}
use Rattle.hp_base.specs.declared.pool_line.PoolLine.{PoolLine}
use Rattle.hp_base.specs.declared.request.Request.{Request}
use Rattle.hp_heap.proofs.AllocFacts.ChoiceLaw.{AllByRecursion-contains, Contains-none}
use Rattle.hp_heap.specs.History.{HeapView}
use Rattle.hp_heap.specs.declared.entry.Entry.{Entry}
use Rattle.hp_heap.specs.declared.entry.HeapAnswer.TheVariants as gives
use Rattle.hp_heap.specs.declared.entry.HeapCall.TheVariants as call
use Rattle.hp_script.specs.declared.answer.Answer.TheVariants as answer
use Rattle.hp_script.specs.declared.line.Act.{Act}
use Rattle.hp_script.specs.declared.line.Act.TheVariants as act
use Rattle.hp_script.specs.declared.line.Line.{Line}
use Rattle.hp_script.specs.declared.options.Options.{Options}
use Rattle.hp_script.specs.declared.options.SocketChoice.TheVariants as choose
use Rattle.hp_serve.specs.declared.pages_asked.PagesAsked.{PagesAsked}
use Rattle.hp_zone.specs.Directory as directory
use Rattle.hp_zone.specs.declared.zone.Zone.{Zone}
use Rattle.hp_zone.specs.declared.zone.ZoneChange.TheVariants.{Put}
use Rattle.hp_proc.specs.LineTrees.{doing_of}
use Rattle.hp_proc.specs.AwaitedNames.{AreAwaitedFor, HoldCallsOf, IsAwaitedFor, ReadsOn}
use Rattle.hp_proc.specs.Doing.{Doing, Done, Goes, Leads}
use Rattle.hp_proc.specs.Doing.Done.{Asked, Called, NamesChanged, NamesRead}
use Rattle.hp_proc.specs.Handed.{AreFrontNames, state_seen}
use Rattle.hp_proc.specs.Lines.{Facts, Maker}
use Rattle.hp_proc.specs.LinesDone.{Course, courses_of}
use Rattle.hp_proc.specs.SharedNames.{SharedNames, heaps_in, no_changes}
use Rattle.hp_proc.specs.SharedNames.NamesChange.{OfZones}
use Rattle.hp_proc.specs.ZoneLines.{continued}
use Rattle.hp_proc.proofs.WorkedLines.WorkedPools as worked
use Rattle.hp_proc.proofs.WorkedLines.WorkedWatching.{part}

abbrev line_of : ℕ → ℕ → Act → Line
line_of number who act = record { line = number; participant = who; act = act }

-- the line of the program that makes a name
abbrev made_by : ℕ → Maker
made_by line = record { line = line; participant = 0; zone = true }

abbrev pool_line : ℕ → PoolLine
pool_line socket = record { socket = socket; page = 2 ^ 21; pages = 1024; slots = 1024 }

-- two sockets with 1,024 pages each, and the line that makes the memzone's name, where a line has one
abbrev facts : Option Request → Option ℕ → Facts
facts request line = record {
  attached = true;
  own_socket = 0;
  pools = pool_line 0 ∷ pool_line 1 ∷ [];
  request = request;
  maker = option_map made_by line;
  own_heap = None;
  watchers = [];
  validators = [];
  chunks = [];
}

abbrev options : ℕ → Options
options align = record { socket = choose.Any; heap = None; align = align; bound = 0; flags = 0 }

-- the lines
abbrev reserves_pool : Act
reserves_pool = act.Zone (part (codes "MP_mbuf_pool")) 18872064 (options 0)

abbrev reserves_ring : Act
reserves_ring = act.Zone (part (codes "RG_rx")) 65920 (options 0)

abbrev looks_up : Act
looks_up = act.Lookup (part (codes "MP_mbuf_pool"))

abbrev allocates : Act
allocates = act.Alloc (part (codes "flow_table")) (2 ^ 20) (options 4096)

-- the names after the first line, and after the second one
abbrev pool_zone : Zone
pool_zone = record { name = codes "MP_mbuf_pool"; addr = 0x100000900; len = 18872064; socket = 0; heap = 0 }

abbrev ring_zone : Zone
ring_zone = record { name = codes "RG_rx"; addr = 0x1013efe80; len = 65920; socket = 0; heap = 0 }

abbrev with_pool : SharedNames
with_pool = record { zones = Put pool_zone ∷ []; heaps = [] }

abbrev with_both : SharedNames
with_both = record { zones = Put pool_zone ∷ Put ring_zone ∷ []; heaps = [] }

an_await : (who : ℕ) → Leads (doing_of (line_of 6 who (act.Await 0 2)) (act.Await 0 2) (facts None None)) [] (Doing.Ended answer.Done)
unfolding Leads doing_of
an_await who = refl

found : Leads (doing_of (line_of 7 1 looks_up) looks_up (facts None None)) (NamesRead with_both ∷ [])
    (Doing.Ended (answer.Found 0x100000900 18872064))
unfolding Goes Leads doing_of
found = (with_both, refl, refl)

module _ (of_pool : IsAccepted 18872064 64 0) (of_ring : IsAccepted 65920 64 0) (of_table : IsAccepted 1048576 4096 0) where
  abbrev asked : Request → PagesAsked
  asked request = record { heap = 0; socket = 0; page = 2 ^ 21; request = request }

  -- each of the two takes pages, as the heap answers it (WorkedPools)
  abbrev pool_trace : List Done
  pool_trace =
      NamesRead no_changes ∷ Called 0 (worked.pool of_pool of_ring of_table) gives.Nothing
      ∷ Asked (asked (worked.request 18872064 64 of_pool)) (Some (worked.run 0 9)) ∷ Called 0 (call.Grow (worked.run 0 9)) gives.Done
      ∷ Called 0 (worked.pool of_pool of_ring of_table) (gives.Address 0x100000900) ∷ NamesChanged (OfZones (Put pool_zone)) ∷ []

  a_pool : Leads (doing_of (line_of 4 0 reserves_pool) reserves_pool (facts (Some (worked.request 18872064 64 of_pool)) (Some 4))) pool_trace
      (Doing.Ended (answer.Address 0x100000900))
  unfolding Goes Leads doing_of continued directory.socket_name heaps_in flags.is_hint
  a_pool = (
    no_changes,
    refl,
    (
      gives.Nothing,
      refl,
      (
        Some (worked.run 0 9),
        refl,
        (
          gives.Done,
          refl,
          (
            gives.Address 0x100000900,
            refl,
            (tt, refl, refl),
          ),
        ),
      ),
    ),
  )

  abbrev ring_trace : List Done
  ring_trace =
      NamesRead with_pool ∷ Called 0 (worked.ring of_pool of_ring of_table) gives.Nothing
      ∷ Asked (asked (worked.request 65920 64 of_ring)) (Some (worked.run 9 1)) ∷ Called 0 (call.Grow (worked.run 9 1)) gives.Done
      ∷ Called 0 (worked.ring of_pool of_ring of_table) (gives.Address 0x1013efe80) ∷ NamesChanged (OfZones (Put ring_zone)) ∷ []

  a_ring : Leads (doing_of (line_of 5 0 reserves_ring) reserves_ring (facts (Some (worked.request 65920 64 of_ring)) (Some 5))) ring_trace
      (Doing.Ended (answer.Address 0x1013efe80))
  unfolding Goes Leads doing_of continued directory.socket_name heaps_in flags.is_hint
  a_ring = (
    with_pool,
    refl,
    (
      gives.Nothing,
      refl,
      (
        Some (worked.run 9 1),
        refl,
        (
          gives.Done,
          refl,
          (
            gives.Address 0x1013efe80,
            refl,
            (tt, refl, refl),
          ),
        ),
      ),
    ),
  )

  abbrev table_trace : List Done
  table_trace = Called 0 (worked.table of_pool of_ring of_table) (gives.Address 0x1012ef000) ∷ []

  -- the table has a place beside them
  a_table : Leads (doing_of (line_of 9 2 allocates) allocates (facts (Some (worked.request 1048576 4096 of_table)) None)) table_trace
      (Doing.Ended (answer.Address 0x1012ef000))
  unfolding Goes Leads doing_of flags.is_hint ones
  a_table = (gives.Address 0x1012ef000, refl, refl)

  -- who awaited both lines reads names that begin with all that these had seen
  abbrev await_of : ℕ → ℕ → Course
  await_of number who = record { line = line_of number who (act.Await 0 2); answer = answer.Done; trace = [] }

  -- the lines of who makes names, of who looks one up, and of who allocates
  abbrev of_pool_line : Course
  of_pool_line = record { line = line_of 4 0 reserves_pool; answer = answer.Address 0x100000900; trace = pool_trace }

  abbrev of_ring_line : Course
  of_ring_line = record { line = line_of 5 0 reserves_ring; answer = answer.Address 0x1013efe80; trace = ring_trace }

  abbrev of_lookup : Course
  of_lookup = record { line = line_of 7 1 looks_up; answer = answer.Found 0x100000900 18872064; trace = NamesRead with_both ∷ [] }

  abbrev of_table_line : Course
  of_table_line = record { line = line_of 9 2 allocates; answer = answer.Address 0x1012ef000; trace = table_trace }

  abbrev courses : List Course
  courses = of_pool_line ∷ of_ring_line ∷ await_of 6 1 ∷ of_lookup ∷ await_of 8 2 ∷ of_table_line ∷ []

  abbrev shown : List SharedNames
  shown = no_changes ∷ with_pool ∷ with_pool ∷ with_both ∷ []

  front : AreFrontNames with_both no_changes
  front = record { zones = refl; heaps = refl }

  first_front : AreFrontNames with_both with_pool
  first_front = record { zones = refl; heaps = refl }

  whole_front : AreFrontNames with_both with_both
  whole_front = record { zones = refl; heaps = refl }

  front_of_both : (before : SharedNames) → Contains shown before → AreFrontNames with_both before
  front_of_both before among =
      AllByRecursion-contains (AreFrontNames with_both) shown before (front, (first_front, (first_front, (whole_front, tt)))) among

  reads_both : ReadsOn shown (with_both ∷ [])
  reads_both before after among read =
      AllByRecursion-contains (λ (after : SharedNames). AreFrontNames after before) (with_both ∷ []) after
      (front_of_both before among, tt) read

  reads_nothing : ReadsOn shown []
  reads_nothing before after among read = absurd (Contains-none after read)

  -- none of them is handed a state of a heap
  no_states : (heaps : List HeapView) (other calls : ℕ) (trace : List Done) → ((heap : ℕ) → filter_map (state_seen heap) trace ≡ [])
      → All (HoldCallsOf other calls trace) heaps
  no_states heaps other calls trace none place heap within state among =
      absurd (Contains-none state (subst (λ (states : List (List Entry)). Contains states state)
      (none (slice_index_or heaps place heap).plain.index) among))

  as_awaited : (heaps : List HeapView) (who place other lines : ℕ) → act.Await 0 2 ≡ act.Await other lines
      → IsAwaitedFor courses heaps who place 0 2 → IsAwaitedFor courses heaps who place other lines
  as_awaited heaps who place other lines same orders =
      let first : 0 ≡ other = cc in
      let many : 2 ≡ lines = cc in
      subst (λ (other : ℕ). IsAwaitedFor courses heaps who place other lines) first
      (subst (λ (lines : ℕ). IsAwaitedFor courses heaps who place 0 lines) many orders)

  abbrev act_of : Course → Act
  act_of course = course.line.act

  not_await : (one course : Course) (other lines : ℕ) → (one.line.act ≡ act.Await other lines → ⊥) → Some one ≡ Some course
      → course.line.act ≡ act.Await other lines → ⊥
  not_await one course other lines differs there awaits = differs (ap act_of (same_Some one course there) ∙ awaits)

  of_nobody : (who : ℕ) → 2 < who → courses_of who courses ≡ []
  of_nobody who above =
      rw (ne_eqb 0 who (λ same. absurd (omega (arith, above, same)))) (rw (ne_eqb 1 who (λ same. absurd (omega (arith, above, same))))
      (rw (ne_eqb 2 who (λ same. absurd (omega (arith, above, same)))) refl))

  orders_both : (heaps : List HeapView) → AreAwaitedFor courses heaps
  orders_both heaps zero zero other lines course there awaits =
      absurd (not_await of_pool_line course other lines (λ is. cc) there awaits)
  orders_both heaps zero (suc zero) other lines course there awaits =
      absurd (not_await of_ring_line course other lines (λ is. cc) there awaits)
  orders_both heaps zero (suc (suc place)) other lines course there awaits = cc
  orders_both heaps (suc zero) zero other lines course there awaits =
      as_awaited heaps 1 0 other lines (ap act_of (same_Some (await_of 6 1) course there) ∙ awaits)
      (record { names = reads_both; states = no_states heaps 0 6 (NamesRead with_both ∷ []) (λ heap. refl) })
  orders_both heaps (suc zero) (suc zero) other lines course there awaits =
      absurd (not_await of_lookup course other lines (λ is. cc) there awaits)
  orders_both heaps (suc zero) (suc (suc place)) other lines course there awaits = cc
  orders_both heaps (suc (suc zero)) zero other lines course there awaits =
      as_awaited heaps 2 0 other lines (ap act_of (same_Some (await_of 8 2) course there) ∙ awaits)
      (record { names = reads_nothing; states = no_states heaps 0 6 table_trace (λ heap. refl) })
  orders_both heaps (suc (suc zero)) (suc zero) other lines course there awaits =
      absurd (not_await of_table_line course other lines (λ is. cc) there awaits)
  orders_both heaps (suc (suc zero)) (suc (suc place)) other lines course there awaits = cc
  orders_both heaps (suc (suc (suc who))) place other lines course there awaits =
      let nowhere : slice_get {X = Course} [] place ≡ Some course =
      subst (λ (its : List Course). slice_get its place ≡ Some course) (of_nobody (suc (suc (suc who))) (omega arith)) there in
      cc
