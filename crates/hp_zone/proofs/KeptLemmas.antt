-- How memzones are kept after a reservation and after a removal.
use Rattle.std.proofs.Common.{◌≡◌, ◌≢◌, ℕ, ◌+◌, ◌-◌, ◌<◌, not, List, [], ◌∷◌, ◌++◌, length, get_or, map, sym, ap, ◌∙◌, refl, arith}
use Rattle.std.specs.List.{All, Contains, remove}
use Rattle.std.proofs.lemmas.List.{get_or_default, get_or_append_left, get_or_push, length_push, length-append, length-map, get_or-map, map_push}
use Rattle.std.proofs.lemmas.List.Edits.{length-insert, length-remove}
use Rattle.std.proofs.lemmas.List.Elements.{All-get_or, All-from_get_or, All-push, All-map, All-filter, Contains-get_or}
use Rattle.hp_zone.specs.Places.{AreIndexes, AreKept, Files, IsAt, IsGap, IsPut, IsUnknown, TakesOut, is_put, name_at, view_of, zone_at, zone_put}
use Rattle.hp_zone.specs.Zones.{Frees, IsFound, IsNotFound, IsZones, IsZoneName, MayReserve, Reserves, has_name, without}
use Rattle.hp_zone.specs.declared.zone.Zone.{Zone}
use Rattle.hp_zone.specs.declared.zone.ZoneChange.{ZoneChange}
use Rattle.hp_zone.specs.declared.zone.ZoneChange.TheVariants.{Put, Gone}
use Rattle.hp_zone.proofs.IndexLemmas.{All-remove, All-same_indexes, AreSame-insert, AreSame-remove, contains_same, map-remove, map_agree}
use Rattle.hp_zone.proofs.ReplayLemmas.{zones_after-append}
use Rattle.hp_zone.proofs.SortedLemmas.{sorted_agree, sorted_insert, sorted_remove, unknown_in_gap}
use Rattle.hp_zone.proofs.ZoneLemmas.{AreApart-push, AreApart-remove, remove_is_without}

-- an index of a put zone is that of the same zone in a longer log
zone_at-append : (log more : List ZoneChange) (index : ℕ) → index < length log → zone_at (log ++ more) index ≡ zone_at log index
zone_at-append log more index within = ap zone_put (get_or_append_left log more (Gone []) index within)

IsPut-append : (log more : List ZoneChange) (index : ℕ) → IsPut log index → IsPut (log ++ more) index
IsPut-append log more index put = record {
  within = let long = length-append log more in omega (arith, long, put.within);
  put = ap is_put (get_or_append_left log more (Gone []) index put.within) ∙ put.put;
}

module _ (log more : List ZoneChange) (order : List ℕ) (puts : All (IsPut log) order) where
  -- indexes of a longer log give the same zones
  same_zones : All (λ index. zone_at (log ++ more) index ≡ zone_at log index) order
  same_zones = All-from_get_or (λ index. zone_at (log ++ more) index ≡ zone_at log index) order 0 (λ i within.
      zone_at-append log more (get_or order i 0) (All-get_or (IsPut log) order i 0 within puts).within)

  same_names : All (λ index. name_at (log ++ more) index ≡ name_at log index) order
  same_names = All-from_get_or (λ index. name_at (log ++ more) index ≡ name_at log index) order 0 (λ i within.
      ap (λ (zone : Zone). zone.name) (zone_at-append log more (get_or order i 0) (All-get_or (IsPut log) order i 0 within puts).within))

  more_puts : All (IsPut (log ++ more)) order
  more_puts = All-from_get_or (IsPut (log ++ more)) order 0 (λ i within.
      IsPut-append log more (get_or order i 0) (All-get_or (IsPut log) order i 0 within puts))

  map_zones : map (zone_at (log ++ more)) order ≡ map (zone_at log) order
  map_zones = map_agree (zone_at (log ++ more)) (zone_at log) order same_zones

module _ (order by_name : List ℕ) (log : List ZoneChange) (spare order_room by_name_room log_room : ℕ)
    (kept : AreKept order by_name log spare order_room by_name_room log_room) where
  puts_by_name : All (IsPut log) by_name
  puts_by_name = All-same_indexes (IsPut log) order by_name kept.indexes.same kept.indexes.puts

  -- a name of which no zone is found is unknown among the indexes, and the other way round
  pub unknown_names : (text : List ℕ) → IsNotFound (map (zone_at log) order) text → IsUnknown log by_name text
  unknown_names text fresh =
      All-same_indexes (λ index. name_at log index ≢ text) order by_name kept.indexes.same
      (All-from_get_or (λ index. name_at log index ≢ text) order 0 (λ i within.
      let other : (get_or (map (zone_at log) order) i (zone_at log 0)).name ≢ text
      = All-get_or (λ zone. zone.name ≢ text) (map (zone_at log) order) i (zone_at log 0) (rw (length-map order (zone_at log)) within) fresh in
      λ same. other (ap (λ (zone : Zone). zone.name) (get_or-map (zone_at log) order i 0 (zone_at log 0) within) ∙ same)))

  pub not_found_in_gap : (text : List ℕ) (at : ℕ) → IsGap log by_name text at → IsNotFound (map (zone_at log) order) text
  not_found_in_gap text at gap =
      All-map (λ zone. zone.name ≢ text) (zone_at log) order
      (All-same_indexes (λ index. name_at log index ≢ text) by_name order (λ index. sym (kept.indexes.same index)) (unknown_in_gap log by_name text at gap))

  module _ (text : List ℕ) (at : ℕ) (here : IsAt log by_name text at) where
    pub in_order : Contains order (get_or by_name at 0)
    in_order = contains_same by_name order (λ index. sym (kept.indexes.same index)) (get_or by_name at 0) (Contains-get_or by_name at 0 here.within)

    pub put_here : IsPut log (get_or by_name at 0)
    put_here = All-get_or (IsPut log) by_name at 0 here.within puts_by_name

    -- the zone at the index is the one of the name
    pub found_here : IsFound (map (zone_at log) order) text (zone_at log (get_or by_name at 0))
    found_here =
        let there = in_order in
        let within : there.0 < length (map (zone_at log) order) = rw (length-map order (zone_at log)) there.1 in
        record {
          there = (there.0, within, get_or-map (zone_at log) order there.0 (get_or by_name at 0) (zone_at log (get_or by_name at 0)) there.1 ∙ ap (zone_at log) there.2);
          named = here.named;
        }

  -- a zone that may be reserved is: the zones, the log and the room
  module _ (zone : Zone) (may : MayReserve (view_of order log spare) zone) (filed : List ℕ)
      (files : Files log by_name filed zone.name (length log)) where
    last_zone : zone_at (log ++ Put zone ∷ []) (length log) ≡ zone
    last_zone = ap zone_put (get_or_push log (Put zone) (Gone []) (length log) refl)

    zones_put : map (zone_at (log ++ Put zone ∷ [])) (order ++ length log ∷ []) ≡ map (zone_at log) order ++ zone ∷ []
    zones_put =
        map_push (zone_at (log ++ Put zone ∷ [])) order (length log)
        ∙ (ap (λ zones. zones ++ zone_at (log ++ Put zone ∷ []) (length log) ∷ []) (map_zones log (Put zone ∷ []) order kept.indexes.puts)
        ∙ ap (λ last. map (zone_at log) order ++ last ∷ []) last_zone)

    pub reserves : Reserves (view_of order log spare) (view_of (order ++ length log ∷ []) (log ++ Put zone ∷ []) (spare - 1)) zone
    reserves = record { zones = zones_put; log = refl; room = omega (arith, may.memory) }

    sound_put : IsZones (view_of (order ++ length log ∷ []) (log ++ Put zone ∷ []) (spare - 1))
    sound_put =
        let old = kept.sound in
        record {
          replayed = zones_put ∙ (ap (λ zones. zones ++ zone ∷ []) old.replayed ∙ sym (zones_after-append [] log (Put zone ∷ [])));
          apart = rw zones_put (AreApart-push (map (zone_at log) order) zone old.apart may.fresh);
          names = rw zones_put (All-push (λ z. IsZoneName z.name) (map (zone_at log) order) zone old.names may.name);
          few = rw zones_put (let long = length_push (map (zone_at log) order) zone in omega (arith, long, may.place));
        }

    indexes_put : AreIndexes (log ++ Put zone ∷ []) (order ++ length log ∷ []) filed
    indexes_put =
        let here : IsPut (log ++ Put zone ∷ []) (length log)
        = record {
          within = let long = length_push log (Put zone) in omega (arith, long);
          put = ap is_put (get_or_push log (Put zone) (Gone []) (length log) refl);
        } in
        let name_is : name_at (log ++ Put zone ∷ []) (length log) ≡ zone.name = ap (λ (z : Zone). z.name) last_zone in
        record {
          puts = All-push (IsPut (log ++ Put zone ∷ [])) order (length log) (more_puts log (Put zone ∷ []) order kept.indexes.puts) here;
          same = rw files.rest (AreSame-insert order by_name files.at (length log) kept.indexes.same);
          long = rw files.rest (length-insert by_name files.at (length log) files.gap.within ∙ (ap (λ n. n + 1) kept.indexes.long ∙ sym (length_push order (length log))));
          sorted = rw files.rest (sorted_insert (name_at log) (name_at (log ++ Put zone ∷ [])) by_name files.at (length log) files.gap.within
              (same_names log (Put zone ∷ []) by_name puts_by_name)
              (λ k d lower. rw name_is (files.gap.before k d lower))
              (λ k d from in_range. rw name_is (files.gap.after k d from in_range))
              kept.indexes.sorted);
        }

    pub kept_put : AreKept (order ++ length log ∷ []) filed (log ++ Put zone ∷ []) (spare - 1) order_room by_name_room log_room
    kept_put =
        let long_order = length_push order (length log) in
        let long_log = length_push log (Put zone) in
        let room = kept.room in
        record {
          sound = sound_put;
          indexes = indexes_put;
          room = record {
            one = omega (arith, room.one);
            order = omega (arith, long_order, room.order, may.memory);
            by_name = omega (arith, long_order, room.by_name, may.memory);
            log = omega (arith, long_order, long_log, room.log, may.memory);
          };
        }

  -- a zone that is found is freed
  module _ (text : List ℕ) (at : ℕ) (here : IsAt log by_name text at) (rest : List ℕ)
      (taken : TakesOut order rest (get_or by_name at 0)) where
    in_zones : taken.at < length (map (zone_at log) order)
    in_zones = rw (length-map order (zone_at log)) taken.within

    at_order : get_or order taken.at 0 ≡ get_or by_name at 0
    at_order = get_or_default order taken.at 0 (get_or by_name at 0) taken.within ∙ taken.here

    named : (get_or (map (zone_at log) order) taken.at (zone_at log 0)).name ≡ text
    named = ap (λ (zone : Zone). zone.name) (get_or-map (zone_at log) order taken.at 0 (zone_at log 0) taken.within)
        ∙ (ap (name_at log) at_order ∙ here.named)

    map_removed : map (zone_at log) (remove order taken.at) ≡ remove (map (zone_at log) order) taken.at
    map_removed = map-remove (zone_at log) order taken.at

    zones_gone : map (zone_at (log ++ Gone text ∷ [])) rest ≡ without text (map (zone_at log) order)
    zones_gone =
        ap (map (zone_at (log ++ Gone text ∷ []))) taken.rest
        ∙ (map_zones log (Gone text ∷ []) (remove order taken.at) (All-remove (IsPut log) order taken.at kept.indexes.puts)
        ∙ (map_removed ∙ remove_is_without (map (zone_at log) order) taken.at text (zone_at log 0) in_zones kept.sound.apart named))

    removed : remove (map (zone_at log) order) taken.at ≡ without text (map (zone_at log) order)
    removed = remove_is_without (map (zone_at log) order) taken.at text (zone_at log 0) in_zones kept.sound.apart named

    pub frees : Frees (view_of order log spare) (view_of rest (log ++ Gone text ∷ []) spare) text (zone_at log (get_or by_name at 0))
    frees = record { found = found_here text at here; zones = zones_gone; log = refl; room = refl }

    sound_gone : IsZones (view_of rest (log ++ Gone text ∷ []) spare)
    sound_gone =
        let old = kept.sound in
        record {
          replayed = zones_gone ∙ (ap (without text) old.replayed ∙ sym (zones_after-append [] log (Gone text ∷ [])));
          apart = rw (zones_gone, ← removed) (AreApart-remove (map (zone_at log) order) taken.at in_zones old.apart);
          names = rw zones_gone (All-filter (λ zone. not (has_name text zone)) (λ z. IsZoneName z.name) (map (zone_at log) order) old.names);
          few = rw (zones_gone, ← removed) (let long = length-remove (map (zone_at log) order) taken.at in_zones in omega (arith, long, old.few));
        }

    indexes_gone : AreIndexes (log ++ Gone text ∷ []) rest (remove by_name at)
    indexes_gone =
        let long_order : length (remove order taken.at) + 1 ≡ length order = length-remove order taken.at taken.within in
        let long_by_name : length (remove by_name at) + 1 ≡ length by_name = length-remove by_name at here.within in
        record {
          puts = rw taken.rest (more_puts log (Gone text ∷ []) (remove order taken.at) (All-remove (IsPut log) order taken.at kept.indexes.puts));
          same = rw taken.rest (AreSame-remove order by_name taken.at at (get_or by_name at 0) kept.indexes.same taken.within here.within at_order refl);
          long = rw taken.rest (omega (arith, long_order, long_by_name, kept.indexes.long));
          sorted = sorted_agree (name_at log) (name_at (log ++ Gone text ∷ [])) (remove by_name at)
              (same_names log (Gone text ∷ []) (remove by_name at) (All-remove (IsPut log) by_name at puts_by_name))
              (sorted_remove (name_at log) by_name at here.within kept.indexes.sorted);
        }

    pub kept_gone : AreKept rest (remove by_name at) (log ++ Gone text ∷ []) spare order_room by_name_room log_room
    kept_gone =
        let long_rest : length rest + 1 ≡ length order = rw taken.rest (length-remove order taken.at taken.within) in
        let long_log = length_push log (Gone text) in
        let room = kept.room in
        record {
          sound = sound_gone;
          indexes = indexes_gone;
          room = record {
            one = room.one;
            order = omega (arith, long_rest, room.order);
            by_name = omega (arith, long_rest, room.by_name);
            log = omega (arith, long_rest, long_log, room.log);
          };
        }
