-- A participant that attaches or detaches: its watchers were told, or it stopped and is as it was.
use Rattle.std.proofs.Common.{◌≡◌, ◌∙◌, ◌<◌, Bool, false, List, ap, sym, subst}
use Rattle.hp_base.specs.Mapping.{is_done}
use Rattle.hp_base.specs.Telling.{Listener}
use Rattle.hp_base.specs.declared.caught.Caught.{Caught}
use Rattle.hp_hall.specs.HallState.{HallState}
use Rattle.hp_hall.specs.Holding.{HeapPart}
use Rattle.hp_maps.specs.MapsView.{MapsView}
use Rattle.hp_serve.specs.Attaching.{AttachesIn, IsAttachedIn, LooksIn, table_left}
use Rattle.hp_serve.specs.InHall.{IsTiedIn, marked_in}
use Rattle.hp_serve.specs.Party.{Party}
use Rattle.hp_serve.specs.SegmentSlot.{StaysButRoster}
use Rattle.hp_serve.specs.Serving.{told_of}
use Rattle.hp_serve.proofs.Attached.{came_in}
use Rattle.hp_serve.proofs.Handed.{tied_still}

-- one that was out attached, or tried to, as its table and its watchers did
attached_so : (party : Party) (maps : MapsView) (listeners : List Listener) (joined : Bool) (caught : Caught) (old new : HallState) → 0 < party.me
    → party.joined ≡ false → IsTiedIn party.me party old
    → IsAttachedIn party.me caught party.maps maps party.listeners listeners old new → joined ≡ is_done caught
    → AttachesIn party.me party (record party { maps = maps; listeners = listeners; joined = joined }) caught old new
attached_so party maps listeners joined caught old new secondary out tied at noted = record {
  segs = at.segs;
  attaches = record {
    secondary = secondary;
    out = out;
    maps = at.mid;
    caught_up = at.caught_up;
    after_is = ap (λ (maps : MapsView). record party { maps = maps; listeners = listeners; joined = joined }) at.left
        ∙ (ap (λ (heard : List Listener). record party { maps = table_left caught at.mid; listeners = heard; joined = joined }) at.told_is
        ∙ ap (λ (joined : Bool). record party {
          maps = table_left caught at.mid;
          listeners = told_of at.segs.log caught party.maps party.listeners;
          joined = joined;
        }) noted);
  };
  did = at.did;
  failed = at.failed;
  roster = came_in (old.joined party.me) party.joined (new.joined party.me) (is_done caught) tied.same out at.roster;
}

pub attached_in : {inside party : Party} {maps : MapsView} {listeners : List Listener} {joined : Bool} {caught : Caught} {old new : HallState}
    → inside ≡ party → 0 < party.me → party.joined ≡ false → IsTiedIn party.me party old
    → IsAttachedIn inside.me caught inside.maps maps inside.listeners listeners old new → joined ≡ is_done caught
    → AttachesIn party.me party (record inside { maps = maps; listeners = listeners; joined = joined }) caught old new
attached_in {inside} {party} {maps} {listeners} {joined} {caught} {old} {new} same secondary out tied at noted =
    subst (λ (party : Party). AttachesIn party.me party (record inside { maps = maps; listeners = listeners; joined = joined }) caught old new) same
    (attached_so inside maps listeners joined caught old new (subst (λ (party : Party). 0 < party.me) (sym same) secondary)
    (ap (λ (party : Party). party.joined) same ∙ out) (subst (λ (party : Party). IsTiedIn party.me party old) (sym same) tied) at noted)

-- one that stopped is as it was
pub left_so : {inside party : Party} (maps : MapsView) (listeners : List Listener) → inside ≡ party → maps ≡ inside.maps
    → listeners ≡ inside.listeners → record inside { maps = maps; listeners = listeners } ≡ party
left_so {inside} maps listeners same maps_is listeners_is =
    ap (λ (maps : MapsView). record inside { maps = maps; listeners = listeners }) maps_is
    ∙ (ap (λ (heard : List Listener). record inside { listeners = heard }) listeners_is ∙ same)

-- and its table is tied still, once it has looked at the segment value
pub tied_looking : (party : Party) {old new : HallState} → IsTiedIn party.me party old → StaysButRoster party.me old new
    → LooksIn party.me old new → IsTiedIn party.me party new
tied_looking party {old} {new} tied stays looks =
    let seen = stays.others.later.seen party.me in
    record {
      table = tied_still (old.seen party.me) (new.seen party.me) seen.0 (old.own party.me) (new.own party.me) (marked_in party.me old)
          (marked_in party.me new) party.joined party.maps seen.1 looks.own (λ heap. ap (λ (part : HeapPart). part.marked) (stays.part heap)) tied.table;
      same = looks.joined ∙ tied.same;
      left = λ out heap. ap (λ (part : HeapPart). part.marked) (stays.part heap) ∙ tied.left out heap;
    }
