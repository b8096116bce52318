-- Where values are taken and given back, each memzone that names ever had lies where an allocation of its heap was answered.
use Rattle.std.proofs.Common.{◌≡◌, ◌≢◌, ◌⊎◌, ◌∙◌, ◌==◌, ℕ, List, [], ◌∷◌, ◌++◌, append-nil, Option, Some, None, refl, ap, sym, subst, ⊎_elim, inl, inr}
use Rattle.std.specs.Prelude.{⊤, Contains, slice_get, slice_set}
use Rattle.std.specs.Option.{option_map_or}
use Rattle.std.proofs.lemmas.Bool.{cases_eq}
use Rattle.std.proofs.lemmas.List.Elements.{Contains-append_cases, Contains-append_left}
use Rattle.std.proofs.lemmas.Option.{same_Some, slice_get_within}
use Rattle.hp_heap.proofs.AllocFacts.ChoiceLaw.{Contains-filter, Contains-none}
use Rattle.hp_heap.specs.History.{entries_of}
use Rattle.hp_heap.specs.declared.entry.Entry.{Entry}
use Rattle.hp_hall.proofs.OneKind.{by_kind}
use Rattle.hp_hall.specs.Later.{AreLaterNames}
use Rattle.hp_hall.specs.Mail.{Fetches, Gives, MailStep, Notes, Posts, Takes}
use Rattle.hp_hall.specs.Named.{GivesNames, IsAllocated}
use Rattle.hp_hall.specs.Values.{history_of}
use Rattle.hp_hall.specs.Views.{HeldHeap}
use Rattle.hp_hall.specs.declared.kept.Kept.{Kept}
use Rattle.hp_hall.specs.declared.kept.Kept.TheVariants.{Heap, Names, Segments}
use Rattle.hp_hall.specs.declared.slot.TheConstants.{NAMES_SLOT}
use Rattle.hp_plain.proofs.Slotted.{slice_get-set_other, slice_get-set_same}
use Rattle.hp_plain.specs.Keeping.{AreAllocatedBy, AreSegsGivenBy, GivesInto, IsGivenBy, IsHeapGivenBy, IsKeptBy, IsStepOver, entries_among, values_after}
use Rattle.hp_segs.specs.SegsView.{SegsView}
use Rattle.hp_zone.specs.declared.names.Names.{Names as NamesView}
use Rattle.hp_zone.specs.declared.zone.Zone.{Zone}
use Rattle.hp_zone.specs.declared.zone.ZoneChange.{ZoneChange}
use Rattle.hp_zone.specs.declared.zone.ZoneChange.TheVariants.{Put}

-- the history of the value that a slot keeps
abbrev pub history_at : List Kept → ℕ → List Entry
history_at values slot = option_map_or history_of (slice_get values slot) []

-- each memzone that was ever put lies where an allocation was answered
abbrev pub AreReserved : List Kept → Type 0
AreReserved values = (names : NamesView) → slice_get values NAMES_SLOT ≡ Some (Names names) → (zone : Zone)
    → Contains names.zones.log (Put zone) → IsAllocated zone.addr (history_at values zone.heap)

more_allocated : (addr : ℕ) (entries more : List Entry) → IsAllocated addr entries → IsAllocated addr (entries ++ more)
more_allocated addr entries more is =
    record { entry = is.entry; there = Contains-append_left entries more is.entry is.there; at = is.at }

-- entries of a participant are entries
own_among : (who : ℕ) (values : List Kept) (slot : ℕ) (kept : Option Kept) (entry : Entry)
    → Contains (option_map_or (λ (kept : Kept). entries_of who (history_of kept)) kept []) entry
    → Contains (option_map_or history_of kept []) entry
unfolding entries_of
own_among who values slot None entry among = absurd (Contains-none entry among)
own_among who values slot (Some kept) entry among =
    (Contains-filter (λ (entry : Entry). entry.caller.participant == who) (history_of kept) entry among).1

-- a list goes on
record HasMore (old new : List Entry) : Type 0 where
  more : List Entry
  is : new ≡ old ++ more

no_more : (old new : List Entry) → new ≡ old → HasMore old new
no_more old new same = record { more = []; is = same ∙ sym (append-nil old) }

given_more : (who : ℕ) (before given : Kept) → IsGivenBy who before given → HasMore (history_of before) (history_of given)
given_more who before given by =
    by_kind (λ (taken given : HeldHeap). IsHeapGivenBy who taken.heap given.heap) (AreSegsGivenBy who) AreLaterNames
    (λ before given. HasMore (history_of before) (history_of given)) (λ before given by. record { more = by.own; is = by.history })
    (λ before given by. no_more [] [] refl) (λ before given by. no_more [] [] refl) before given by

module _ (who number : ℕ) (given : Kept) (values : List Kept) (gives : GivesInto who number given values) where
  abbrev later : List Kept
  later = slice_set values number given

  grows : (slot : ℕ) → HasMore (history_at values slot) (history_at later slot)
  grows slot =
      ⊎_elim
      (λ (same : slot ≡ number).
      let now : slice_get later slot ≡ Some given =
      ap (slice_get later) same ∙ slice_get-set_same values number given (slice_get_within values number gives.before gives.there) in
      let was : slice_get values slot ≡ Some gives.before = ap (slice_get values) same ∙ gives.there in
      let more = given_more who gives.before given gives.by in
      record {
        more = more.more;
        is = ap (λ (kept : Option Kept). option_map_or history_of kept []) now
            ∙ more.is
            ∙ ap (λ (kept : Option Kept). option_map_or history_of kept [] ++ more.more) (sym was);
      })
      (λ (apart : slot ≢ number).
      no_more (history_at values slot) (history_at later slot)
      (ap (λ (kept : Option Kept). option_map_or history_of kept []) (slice_get-set_other values number slot given apart)))
      (cases_eq slot number)

  -- where names come in, what came to their log was allocated
  names_given : AreReserved values → (before given : Kept) → AreAllocatedBy who values before given → (names : NamesView)
      → given ≡ Names names → slice_get values NAMES_SLOT ≡ Some before → (zone : Zone) → Contains names.zones.log (Put zone)
      → IsAllocated zone.addr (history_at values zone.heap)
  names_given reserved before given by =
      by_kind (λ (taken given : HeldHeap). ⊤) (λ (taken given : SegsView). ⊤) (GivesNames (entries_among who values))
      (λ before given. (names : NamesView) → given ≡ Names names → slice_get values NAMES_SLOT ≡ Some before → (zone : Zone)
      → Contains names.zones.log (Put zone) → IsAllocated zone.addr (history_at values zone.heap))
      (λ before given by names is there zone among. cc) (λ before given by names is there zone among. cc)
      (λ before given by names is there zone among.
      let same : given ≡ names = cc in
      let parts : Contains (before.zones.log ++ by.goes_on.more_zones) (Put zone) =
      subst (λ (log : List ZoneChange). Contains log (Put zone)) by.goes_on.zones
      (subst (λ (names : NamesView). Contains names.zones.log (Put zone)) (sym same) among) in
      elim (Contains-append_cases before.zones.log by.goes_on.more_zones (Put zone) parts) [
        | inl early ↦ reserved before there zone early
        | inr late ↦
            let its = by.allocated zone late in
            record {
              entry = its.entry;
              there = own_among who values zone.heap (slice_get values zone.heap) its.entry its.there;
              at = its.at;
            }
      ]) before given by

  pub still_reserved : AreReserved values → AreReserved later
  still_reserved reserved names there zone among =
      let more = grows zone.heap in
      subst (IsAllocated zone.addr) (sym more.is)
      (more_allocated zone.addr (history_at values zone.heap) more.more (was (cases_eq number NAMES_SLOT)))
    where
      was : (number ≡ NAMES_SLOT) ⊎ (number ≢ NAMES_SLOT) → IsAllocated zone.addr (history_at values zone.heap)
      was (inl same) =
          let now : slice_get later NAMES_SLOT ≡ Some given =
          ap (slice_get later) (sym same)
          ∙ slice_get-set_same values number given (slice_get_within values number gives.before gives.there) in
          names_given reserved gives.before given gives.allocated names (same_Some given (Names names) (sym now ∙ there))
          (ap (slice_get values) (sym same) ∙ gives.there) zone among
      was (inr apart) =
          reserved names (sym (slice_get-set_other values number NAMES_SLOT given (λ same. apart (sym same))) ∙ there) zone among

-- so it is along all steps
pub all_reserved : (count : ℕ) (steps : List (ℕ × MailStep)) (values last : List Kept) → IsKeptBy count steps values last
    → AreReserved values → AreReserved last
all_reserved count [] values last by reserved = subst AreReserved (sym by) reserved
all_reserved count (step ∷ steps) values last by reserved =
    all_reserved count steps (values_after step.1 values) last by.1 (step_reserved step.0 step.1 by.0)
  where
    step_reserved : (who : ℕ) (made : MailStep) → IsStepOver count (who, made) values → AreReserved (values_after made values)
    step_reserved who (Posts to frame action posted) over = reserved
    step_reserved who (Fetches frame) over = reserved
    step_reserved who (Notes note) over = reserved
    step_reserved who (Takes slot kept) over = reserved
    step_reserved who (Gives slot given) over = still_reserved who slot given values over.shows reserved
