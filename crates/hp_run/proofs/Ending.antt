-- A run after its last line has come to an end of its workload.
use Rattle.std.proofs.Common.{◌≡◌, ◌∙◌, ℕ, zero, suc, ◌<◌, List, [], ◌∷◌, length, map, Option, Some, None, refl, sym, ap, subst, arith}
use Rattle.std.specs.List.{slice_get}
use Rattle.std.specs.Option.{IsSome, option_map, option_map_or}
use Rattle.std.specs.Prelude.{unwrap_or}
use Rattle.std.proofs.lemmas.List.{length-map}
use Rattle.std.proofs.lemmas.Option.{same_Some, slice_get-map}
use Rattle.hp_base.specs.Telling.{Listener}
use Rattle.hp_base.specs.declared.limits.TheConstants.{MAX_HEAPS}
use Rattle.hp_board.specs.Closing.{left_naming}
use Rattle.hp_hall.proofs.AgreedAlike.{agree_alike}
use Rattle.hp_hall.specs.AgreedNames.{AreAgreedNames}
use Rattle.hp_hall.specs.Later.{IsLaterKept, IsLaterSegs}
use Rattle.hp_events.specs.Watchers.{WatchersView}
use Rattle.hp_hall.specs.Naming.{Naming, naming_of}
use Rattle.hp_plain.specs.Course.{IsLater}
use Rattle.hp_plain.specs.HallSteps.{slots_of}
use Rattle.hp_plain.specs.HallView.{IsHall, SlotView, names_of_slot, naming_at, naming_in, segs_in, slot_at}
use Rattle.hp_plain.specs.Keeping.{values_in}
use Rattle.hp_plain.specs.Opening.{HandsOut, heaps_in}
use Rattle.hp_hall.specs.declared.slot.TheConstants.{NAMES_SLOT}
use Rattle.hp_hall.specs.declared.kept.Kept.{Kept}
use Rattle.hp_hall.specs.declared.kept.Kept.TheVariants.{Heap, Names, Segments}
use Rattle.hp_hall.specs.Views.{HeldHeap, names_of, segs_of}
use Rattle.hp_plain.proofs.Opened.{opened_segs}
use Rattle.hp_heap.specs.History.{HeapView}
use Rattle.hp_heap.specs.PlainHeap.{opening_heap}
use Rattle.hp_maps.specs.declared.table.Table.{Table}
use Rattle.hp_script.specs.declared.answer.Answer.{Answer}
use Rattle.hp_script.specs.declared.workload.Workload.{Workload}
use Rattle.hp_segs.specs.SegsView.{SegsView}
use Rattle.hp_segs.specs.Sound.{IsSound}
use Rattle.hp_zone.specs.declared.names.Names.{Names as NamesView}
use Rattle.hp_serve.specs.Ending.{LeavesTable}
use Rattle.hp_plain.proofs.Walks.{values_stay_sound}
use Rattle.hp_proc.specs.Ends.{IsSoloEnd}
use Rattle.hp_proc.specs.Heaps.{sockets_of}
use Rattle.hp_serve.specs.Party.{Party}
use Rattle.hp_solo.specs.Ending.{AreThere, LeaveTables, LeaveWatchers, LeavesListeners, LeavesThere}
use Rattle.hp_solo.specs.Solo.{SoloView, party_at}
use Rattle.thm_run.specs.EndLaws.{EndsSo, IsAtEnd, IsGiven}
use Rattle.thm_run.specs.Handing.{LeaveListeners, listeners_in}
use Rattle.thm_run.specs.SoFar.{AreSoundNames, first_hall, first_names, first_segs}
use Rattle.thm_run.proofs.HallFacts.HallEnds.{are_segs, out_many}
use Rattle.thm_run.proofs.HallFacts.HallHeaps.{values_sound}
use Rattle.thm_run.proofs.SeatFacts.FirstSegs.{armed_first}
use Rattle.thm_run.proofs.SlotAlong.{opened_names}
use Rattle.hp_run.specs.Running.{HaveDoneLines}
use Rattle.hp_run.proofs.Places.{party_there, there_below}

kept_segs : (old new : Kept) (first last : SegsView) → IsLaterKept old new → segs_of old ≡ Some first → segs_of new ≡ Some last
    → IsLaterSegs first last
kept_segs (Heap old pen) new first last later is_first is_last = cc
kept_segs (Names old) new first last later is_first is_last = cc
kept_segs (Segments old) (Heap new pen) first last later is_first is_last = elim later [ ]
kept_segs (Segments old) (Names new) first last later is_first is_last = elim later [ ]
kept_segs (Segments old) (Segments new) first last later is_first is_last =
    subst (λ (first : SegsView). IsLaterSegs first last) (same_Some old first is_first)
    (subst (λ (last : SegsView). IsLaterSegs old last) (same_Some new last is_last) later)

-- a segment value in its slot later on
later_segs : (old new : Option SlotView) (first last : SegsView) → IsLater old new → segs_in old ≡ Some first → segs_in new ≡ Some last
    → IsLaterSegs first last
later_segs None new first last later is_first is_last = cc
later_segs (Some old) None first last later is_first is_last = elim later [ ]
later_segs (Some old) (Some new) first last later is_first is_last = kept_segs old.kept new.kept first last later is_first is_last

-- the names of a slot whose value they are
kept_names : (slot : Option SlotView) (names : NamesView) → option_map (λ (slot : SlotView). slot.kept) slot ≡ Some (Names names)
    → names_of_slot slot ≡ Some names
kept_names None names is = absurd (let wrong : None ≡ Some (Names names) = is in cc)
kept_names (Some slot) names is = ap names_of (same_Some slot.kept (Names names) is)

-- what names speak of, of a heap that is handed out, is what they speak of in its slot
naming_stands : (segs : SegsView) (names : NamesView) (held : List HeldHeap) (index : ℕ) (other : Naming) → index < length held
    → option_map_or (λ (heap : HeapView). naming_of heap.plain) (slice_get (heaps_in held) index) other
    ≡ unwrap_or (naming_in (slice_get (slots_of held segs names) index)) other
naming_stands segs names [] index other below = absurd (omega (arith, below))
naming_stands segs names (one ∷ held) zero other below = refl
naming_stands segs names (one ∷ held) (suc index) other below = naming_stands segs names held index other (omega (arith, below))

leaves_one : (party : Option Party) (one : Party) (table : Table) → LeavesThere party table → party ≡ Some one → LeavesTable one table
leaves_one party one table leaves is = subst (λ (party : Option Party). LeavesThere party table) is leaves

listens_one : (party : Option Party) (one : Party) (listeners : List Listener) → LeavesListeners party listeners → party ≡ Some one
    → listeners ≡ one.listeners
listens_one party one listeners leaves is = subst (λ (party : Option Party). LeavesListeners party listeners) is leaves

-- the watchers whose listeners stand at a place
record AreListened (watchers : List WatchersView) (who : ℕ) (listeners : List Listener) : Type 0 where
  pub it : WatchersView
  pub there : slice_get watchers who ≡ Some it
  pub is : it.listeners ≡ listeners

map_from : (watchers : List WatchersView) (who : ℕ) (listeners : List Listener) → slice_get (listeners_in watchers) who ≡ Some listeners
    → AreListened watchers who listeners
map_from [] who listeners its = cc
map_from (one ∷ watchers) zero listeners its = record { it = one; there = refl; is = same_Some one.listeners listeners its }
map_from (one ∷ watchers) (suc who) listeners its =
    let rest = map_from watchers who listeners its in
    record { it = rest.it; there = rest.there; is = rest.is }

module _ (workload : Workload) (answers : List Answer) (hall : SoloView) (done : HaveDoneLines workload workload.lines.items answers hall)
  where
    -- each is in its place
    pub all_in : AreThere hall.servers
    all_in who below =
        let there = there_below done.parties who (omega (arith, below, done.are.count)) in
        subst IsSome (sym (party_there hall.servers done.parties done.are who ∙ there.1)) refl

    -- the first segment value is sound
    pub first_sound : IsSound (first_segs workload)
    first_sound = subst IsSound done.so_far.is_first.segs done.so_far.is_first.sound

    module _ (heaps : List HeapView) (segs : SegsView) (names : NamesView) (out : HandsOut hall.plain.slots heaps segs names) where
      many : length out.held ≡ MAX_HEAPS
      many = out_many workload done.courses done.parties hall.plain done.so_far heaps segs names out

      pub segs_there : segs_in (slot_at hall.plain MAX_HEAPS) ≡ Some segs
      segs_there =
          ap (λ (slots : List SlotView). segs_in (slice_get slots MAX_HEAPS)) out.slots_are ∙ opened_segs segs names out.held MAX_HEAPS many

      -- the names are those that the lines leave
      names_stand : slice_get (values_in hall.plain) NAMES_SLOT ≡ Some (Names names)
      names_stand =
          ap (λ (slots : List SlotView). slice_get (map (λ (slot : SlotView). slot.kept) slots) NAMES_SLOT) out.slots_are
          ∙ opened_names segs names out.held MAX_HEAPS many

      names_are : names ≡ done.so_far.names
      names_are =
          let same : Names names ≡ Names done.so_far.names =
          same_Some (Names names) (Names done.so_far.names) (sym names_stand ∙ done.so_far.named) in
          cc

      -- which opened with the heaps of the pools' sockets
      pub names_opened : names.heaps.sockets ≡ sockets_of workload.pools.items
      names_opened = ap (λ (names : NamesView). names.heaps.sockets) names_are ∙ done.so_far.opened

      -- their logs leave them
      pub names_sound : AreSoundNames names
      names_sound =
          let so = done.so_far in
          (values_stay_sound (first_hall workload so.held) hall.plain so.course (λ number kept there.
          values_sound so.held (first_segs workload) (first_names workload) number kept so.first_heaps.sound first_sound
          (armed_first workload.pools.items workload.participants workload.absent) so.names_sound there)).1
          NAMES_SLOT (Names names) names_stand

      -- and they agree with the heaps and with the external memory that is claimed
      naming_is : (index : ℕ) → index < MAX_HEAPS → left_naming heaps index ≡ naming_at hall.plain index
      naming_is index below =
          let other = naming_of (opening_heap index None) in
          ap
          (λ (all : List HeapView). option_map_or (λ (heap : HeapView). naming_of heap.plain) (slice_get all index) other)
          (sym out.heaps_are)
          ∙ naming_stands segs names out.held index other (omega (arith, below, many))
          ∙ ap (λ (slots : List SlotView). unwrap_or (naming_in (slice_get slots index)) other) (sym out.slots_are)

      pub names_agree : IsHall hall.plain → AreAgreedNames names (left_naming heaps) segs.ranges
      names_agree sound =
          let value : sound.segs ≡ segs = same_Some sound.segs segs (sym sound.there ∙ segs_there) in
          let same : sound.named.names ≡ names =
          same_Some sound.named.names names
          (sym sound.named.there
          ∙ kept_names (slot_at hall.plain NAMES_SLOT) names
          (sym (slice_get-map (λ (slot : SlotView). slot.kept) hall.plain.slots NAMES_SLOT) ∙ names_stand)) in
          subst (λ (names : NamesView). AreAgreedNames names (left_naming heaps) segs.ranges) same
          (subst (λ (value : SegsView). AreAgreedNames sound.named.names (left_naming heaps) value.ranges) value
          (agree_alike sound.named.names (naming_at hall.plain) (left_naming heaps) sound.segs.ranges naming_is
          (sound.named.agrees (done.so_far.home NAMES_SLOT (omega arith)))))

      -- the segment value came about by calls from the first one
      pub came_by : IsLaterSegs (first_segs workload) segs
      came_by =
          let so = done.so_far in
          later_segs (slot_at (first_hall workload so.held) MAX_HEAPS) (slot_at hall.plain MAX_HEAPS) (first_segs workload) segs
          (so.course.slots MAX_HEAPS) (are_segs workload done.courses done.parties hall.plain so).early segs_there

      -- these are its lines with their answers, and what the hall and the participants leave
      pub at_end : (tables : List Table) → IsHall hall.plain → LeaveTables hall.servers tables
          → IsAtEnd workload done.courses answers done.parties hall.plain heaps segs tables
      at_end tables sound leave = record {
        lines = done.lines_are;
        answered = done.answered;
        hall_is = sound;
        names = names;
        values = out;
        count = leave.count ∙ done.are.count;
        tables_are = λ who party table there its.
            leaves_one _ party table (leave.each who table its)
            (party_there hall.servers done.parties done.are who ∙ there);
      }

      -- its names are those that the hall hands out
      pub at_end_names : (tables : List Table) (sound : IsHall hall.plain) (leave : LeaveTables hall.servers tables)
          → (at_end tables sound leave).names ≡ names
      unfolding at_end
      at_end_names tables sound leave = refl

      pub ends_so : (tables : List Table) → EndsSo → IsGiven workload → IsHall hall.plain → LeaveTables hall.servers tables
          → (end : IsSoloEnd workload answers heaps segs tables) × (end.end.courses ≡ done.courses)
      ends_so tables law given sound leave =
          law workload done.courses answers done.parties hall.plain heaps segs tables given done.so_far (at_end tables sound leave)

      -- each leaves the watchers that it has
      pub leave_listeners : (watchers : List WatchersView) → LeaveWatchers hall.servers watchers
          → LeaveListeners done.parties (listeners_in watchers)
      leave_listeners watchers leaves = record {
        many = length-map watchers (λ (own : WatchersView). own.listeners) ∙ leaves.count ∙ done.are.count;
        are = λ who party listeners there its.
            let own = map_from watchers who listeners its in
            listens_one _ party listeners (subst (LeavesListeners (party_at hall.servers who)) own.is (leaves.each who own.it own.there))
            (party_there hall.servers done.parties done.are who ∙ there);
      }
