-- Logs are replayed in parts, and by their fronts.
use Rattle.std.proofs.Common.{◌≡◌, ℕ, List, [], ◌∷◌, ◌++◌, length, sym, ap, ◌∙◌, refl, arith}
use Rattle.std.proofs.lemmas.List.{take_all, take_at}
use Rattle.hp_zone.specs.Directory.{DirectoryView, IsDirectory, PlainDirectory, after_change as directory_change, directory_after, opening}
use Rattle.hp_zone.specs.Laws.{DirectoryReplays, ZonesReplay}
use Rattle.hp_zone.specs.Zones.{after_change, zones_after}
use Rattle.hp_zone.specs.declared.name_change.NameChange.{NameChange}
use Rattle.hp_zone.specs.declared.zone.Zone.{Zone}
use Rattle.hp_zone.specs.declared.zone.ZoneChange.{ZoneChange}

-- changes of memzones, and then more
pub zones_after-append : (zones : List Zone) (log more : List ZoneChange)
    → zones_after zones (log ++ more) ≡ zones_after (zones_after zones log) more
zones_after-append zones [] more = refl
zones_after-append zones (change ∷ log) more = zones_after-append (after_change zones change) log more

-- changes of a directory, and then more
pub directory_after-append : (plain : PlainDirectory) (log more : List NameChange)
    → directory_after plain (log ++ more) ≡ directory_after (directory_after plain log) more
directory_after-append plain [] more = refl
directory_after-append plain (change ∷ log) more = directory_after-append (directory_change plain change) log more

-- the log of a directory with one change more leaves the directory after that change
pub replayed_push : (view : DirectoryView) → IsDirectory view → (change : NameChange)
    → directory_change view.plain change ≡ directory_after (opening view.sockets) (view.log ++ change ∷ [])
replayed_push view sound change =
    ap (λ plain. directory_change plain change) sound.replayed
    ∙ sym (directory_after-append (opening view.sockets) view.log (change ∷ []))

pub zones_replay : (log more : List ZoneChange) → ZonesReplay log more
zones_replay log more = record {
  parts = λ zones. zones_after-append zones log more;
  whole = ap (zones_after []) (take_all (length log) log (omega arith));
  front = ap (zones_after []) (take_at log more (length log) refl);
}

pub directory_replays : (sockets : List ℕ) (log more : List NameChange) → DirectoryReplays sockets log more
directory_replays sockets log more = record {
  parts = λ plain. directory_after-append plain log more;
  whole = ap (directory_after (opening sockets)) (take_all (length log) log (omega arith));
  front = ap (directory_after (opening sockets)) (take_at log more (length log) refl);
}
