-- A participant that reserves a memzone has the names in hand still, as they are by then.
use Rattle.std.proofs.Common.{◌≡◌, ◌∙◌, ℕ, zero, suc, true, List, [], ◌∷◌, ◌++◌, Contains, Option, Some, None, inr, refl, ap, sym, subst, arith, append_assoc, ⊎_elim}
use Rattle.std.proofs.lemmas.List.Elements.{Contains-append_cases}
use Rattle.std.proofs.Math.Nat.{le-max_left}
use Rattle.hp_base.specs.declared.tag.Tag.{Tag}
use Rattle.hp_hall.specs.HallState.{HallState}
use Rattle.hp_hall.specs.Holding.{AgreeWith, HeapPart}
use Rattle.hp_hall.specs.Named.{GivesNames, IsAllocated}
use Rattle.hp_hall.specs.Values.{IsSoundKept}
use Rattle.hp_hall.specs.declared.kept.Kept.TheVariants.{Names}
use Rattle.hp_heap.specs.declared.entry.Entry.{Entry}
use Rattle.hp_script.specs.declared.answer.Answer.{Answer}
use Rattle.hp_script.specs.declared.answer.Answer.TheVariants as answer
use Rattle.hp_script.specs.declared.options.Options.{Options}
use Rattle.hp_zone.specs.Checking.{IsAcceptable}
use Rattle.hp_zone.specs.Directory.{DirectoryView}
use Rattle.hp_zone.specs.Zones.{Reserves, with_room}
use Rattle.hp_zone.specs.declared.names.Names.{Names as NamesView}
use Rattle.hp_zone.specs.declared.zone.Zone.{Zone}
use Rattle.hp_zone.specs.declared.zone.ZoneChange.{ZoneChange}
use Rattle.hp_zone.specs.declared.zone.ZoneChange.TheVariants.{Put}
use Rattle.hp_proc.specs.Contexts.{Context}
use Rattle.hp_proc.specs.Heaps.{sockets_of}
use Rattle.hp_proc.specs.LineInHall.{HasCalledBeside, HasNamesOut}
use Rattle.hp_proc.specs.NamesInHand.{HasCalledNamed, IsReadyNamed, entries_in}
use Rattle.hp_proc.specs.ParticipantView.{ParticipantView}
use Rattle.hp_proc.specs.VerbLaws.{asked_for}
use Rattle.hp_proc.specs.ZonesInHand.{AgreeOnceAnswered, HasFoundNone, MayPut, PutsZone, zone_for}
use Rattle.hp_proc.proofs.NamesAround.{names_give_on}

-- the names with room for one memzone more
abbrev pub roomy : NamesView → NamesView
roomy names = record { zones = with_room names.zones; heaps = names.heaps }

-- that changes nothing of what they say
pub roomy_sound : (names : NamesView) → IsSoundKept (Names names) → IsSoundKept (Names (roomy names))
roomy_sound names sound =
    (record { replayed = sound.0.replayed; apart = sound.0.apart; names = sound.0.names; few = sound.0.few }, sound.1)

pub roomy_agrees : (parts : ℕ → HeapPart) (names : NamesView) → AgreeWith parts names → AgreeWith parts (roomy names)
roomy_agrees parts names agree = record {
  namings = agree.namings;
  claims = agree.claims;
  known = agree.known;
  claimed = agree.claimed;
  agreed = record {
    each = λ index few.
        (let one = agree.agreed.each index few in
        record { name = one.name; ranges = one.ranges; zones = one.zones });
    zones = agree.agreed.zones;
    ranges = agree.agreed.ranges;
    claims = agree.agreed.claims;
  };
}

pub roomy_gives : (entries : ℕ → List Entry) (was names : NamesView) → GivesNames entries was names → GivesNames entries was (roomy names)
roomy_gives entries was names gives = record {
  goes_on = record {
    sockets = gives.goes_on.sockets;
    more_zones = gives.goes_on.more_zones;
    zones = gives.goes_on.zones;
    more_heaps = gives.goes_on.more_heaps;
    heaps = gives.goes_on.heaps;
  };
  allocated = gives.allocated;
}

-- who has the names in hand has them out, and may give a heap back beside them
pub names_out : {me : ℕ} {doer : ParticipantView} {names : NamesView} {state : HallState} → IsReadyNamed me doer names state → HasNamesOut me state
names_out {me} {doer} {names} {state} ready = record {
  told = ready.told;
  out = λ none. (let both : None ≡ Some (Names ready.was) = sym none ∙ ready.taken in cc);
}

-- nothing but room came
pub roomy_ready : {me : ℕ} {doer : ParticipantView} {names : NamesView} {state : HallState} → IsReadyNamed me doer names state
    → IsReadyNamed me doer (roomy names) state
roomy_ready {me} {doer} {names} {state} ready = record {
  but = ready.but;
  told = ready.told;
  was = ready.was;
  taken = ready.taken;
  sound = roomy_sound names ready.sound;
  goes_on = roomy_gives (entries_in me state) ready.was names ready.goes_on;
  agrees = roomy_agrees (state.part me) names ready.agrees;
  sockets = ready.sockets;
}

only : {A : Type 0} (x y : A) → Contains (x ∷ []) y → x ≡ y
only x y (zero, inside, is) = is
only x y (suc k, inside, is) = absurd (omega (arith, inside))

module _ {me : ℕ} {old new : ParticipantView} {from to : HallState} (names : NamesView) (ready : IsReadyNamed me old names from)
    (called : HasCalledBeside me old new from to)
    (grows : (heap : ℕ) → (more : List Entry) × ((to.part me heap).entries ≡ (from.part me heap).entries ++ more)) where
  gives_on : GivesNames (entries_in me to) ready.was names
  gives_on = names_give_on grows ready.goes_on

  named_by : (now : NamesView) → IsSoundKept (Names now) → GivesNames (entries_in me to) ready.was now → AgreeWith (to.part me) now
      → now.heaps.sockets ≡ names.heaps.sockets → HasCalledNamed me old new now to
  named_by now sound goes agrees sockets = record {
    same = called.same;
    ready = record {
      but = called.but;
      told = called.names.told ∙ ready.told;
      was = ready.was;
      taken = called.names.slot.taken ∙ ready.taken;
      sound = sound;
      goes_on = goes;
      agrees = agrees;
      sockets = sockets ∙ (ready.sockets ∙ sym (ap (λ (context : Context). sockets_of context.pools) called.context));
    };
    context = called.context;
  }

  module _ (tag : Tag) (given : Option Answer) (heap : ℕ) (agrees : AgreeOnceAnswered tag given heap (from.part me) (to.part me)) where
    -- no address was found
    pub named_none : HasFoundNone tag given → HasCalledNamed me old new (roomy names) to
    named_none none =
        named_by (roomy names) (roomy_sound names ready.sound) (roomy_gives (entries_in me to) ready.was names gives_on)
        (roomy_agrees (to.part me) names (agrees.still names none ready.agrees)) refl

    -- one was, and a memzone put there
    pub named_one : (addr : ℕ) → tag.zone ≡ true → given ≡ Some (answer.Address addr) → (zone : Zone) → zone.addr ≡ addr → zone.heap ≡ heap
        → (now : NamesView) → now.heaps ≡ names.heaps → Reserves (with_room names.zones) now.zones zone → IsSoundKept (Names now)
        → HasCalledNamed me old new now to
    named_one addr zoned is zone at there now heaps reserves sound =
        let answered : given ≡ Some (answer.Address zone.addr) = is ∙ ap (λ (addr : ℕ). Some (answer.Address addr)) (sym at) in
        let goes = gives_on.goes_on in
        named_by now sound
        (record {
          goes_on = record {
            sockets = ap (λ (heaps : DirectoryView). heaps.sockets) heaps ∙ goes.sockets;
            more_zones = goes.more_zones ++ Put zone ∷ [];
            zones = reserves.log
                ∙ (ap (λ (log : List ZoneChange). log ++ Put zone ∷ []) goes.zones ∙ append_assoc ready.was.zones.log goes.more_zones (Put zone ∷ []));
            more_heaps = goes.more_heaps;
            heaps = ap (λ (heaps : DirectoryView). heaps.log) heaps ∙ goes.heaps;
          };
          allocated = λ other among.
              ⊎_elim (λ (before : Contains goes.more_zones (Put other)). gives_on.allocated other before)
              (λ (last : Contains (Put zone ∷ []) (Put other)).
              (let both : Put zone ≡ Put other = only (Put zone) (Put other) last in
              let one : zone ≡ other = cc in
              subst (λ (zone : Zone). IsAllocated zone.addr (to.part me zone.heap).entries) one
              (subst (λ (heap : ℕ). IsAllocated zone.addr (to.part me heap).entries) (sym there) (agrees.allocated zone.addr answered))))
              (Contains-append_cases goes.more_zones (Put zone ∷ []) (Put other) among);
        })
        (agrees.with_more names now zone zoned answered there (record { zones = reserves.zones; heaps = heaps }) ready.agrees)
        (ap (λ (heaps : DirectoryView). heaps.sockets) heaps)

    -- so it is with what the memzones then have
    pub named_put : tag.zone ≡ true → (told : Answer) → given ≡ Some told → (kept : List ℕ) (size : ℕ) (now : NamesView)
        → PutsZone (roomy names) now kept size heap told → IsSoundKept (Names now) → HasCalledNamed me old new now to
    named_put zoned told is kept size now puts sound = other told refl puts
      where
        other : (ended : Answer) → told ≡ ended → PutsZone (roomy names) now kept size heap ended → HasCalledNamed me old new now to
        other (answer.Address addr) same puts =
            named_one addr zoned (is ∙ ap (λ (told : Answer). Some told) same) (zone_for (roomy names) kept size heap addr) refl refl now puts.0 puts.1 sound
        other _ same puts =
            subst (λ (now : NamesView). HasCalledNamed me old new now to) (sym puts)
            (named_none (inr (λ addr found. (let both : Some told ≡ Some (answer.Address addr) = sym is ∙ found in cc))))

-- where nothing stands against a reservation the memzones may get what it brings
pub may_put : (names : NamesView) (text : List ℕ) (len : ℕ) (options : Options) → IsAcceptable names.zones.zones (asked_for text len options)
    → (size heap : ℕ) (given : Answer) → MayPut (roomy names) text size heap given
may_put names text len options is size heap (answer.Address addr) = record {
  name = is.name;
  fresh = is.fresh;
  place = is.place;
  memory = le-max_left 1 names.zones.room;
}
may_put names text len options is size heap _ = tt
