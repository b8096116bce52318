-- A memzone is found by its name, and memory that goes by its address is that of its list.
use Rattle.std.proofs.Common.{◌≡◌, ◌∙◌, ℕ, ◌+◌, ◌<◌, true, false, not, ◌==◌, List, Option, Some, None, get_or, inl, inr, refl, ap, sym, subst, arith}
use Rattle.std.specs.Prelude.{Contains, find, nat_le, nat_lt}
use Rattle.std.proofs.lemmas.Bool.{and_from, cases_eq, eq-eqb, eqb-true, false_from_ne_true, le-leb, lt-ltb, true≢false}
use Rattle.std.proofs.lemmas.List.{get_or_default}
use Rattle.std.proofs.lemmas.Slice.Eq.{bytes_eq-Decides}
use Rattle.hp_base.proofs.MemoryLemmas.{good_memory}
use Rattle.hp_heap.proofs.AllocFacts.ChoiceLaw.{AllByRecursion-contains}
use Rattle.hp_heap.proofs.Members.{AllByRecursion-each, counted_once, filter_alike, find_none, find_some}
use Rattle.hp_segs.specs.Ranges.{range_contains}
use Rattle.hp_segs.specs.SegsView.{SegsView}
use Rattle.hp_segs.specs.Sound.{IsSound}
use Rattle.hp_segs.specs.SoundPlaces.{IsRange}
use Rattle.hp_segs.specs.declared.external_range.ExternalRange.{ExternalRange}
use Rattle.hp_zone.specs.Zones.{AreApart, IsFound, IsNotFound, has_name}
use Rattle.hp_zone.specs.declared.zone.Zone.{Zone}
use Rattle.hp_proc.specs.VerbLaws.{LookingAgrees, ReleasesAgree}

-- two memzones of one name are one
same_zone : (zones : List Zone) (one other : Zone) → AreApart zones → Contains zones one → Contains zones other → one.name ≡ other.name
    → one ≡ other
same_zone zones one other apart (i, below_i, is_i) (k, below_k, is_k) names =
    let its : get_or zones k one ≡ other = get_or_default zones k one other below_k ∙ is_k in
    let same : i ≡ k = apart i k one below_i below_k (ap (λ (zone : Zone). zone.name) is_i ∙ names ∙ sym (ap (λ (zone : Zone). zone.name) its)) in
    sym is_i ∙ ap (λ (place : ℕ). get_or zones place one) same ∙ its

module _ (zones : List Zone) (text : List ℕ) where
  found_one : (zone : Zone) → AreApart zones → IsFound zones text zone → (result : Option Zone) → find (has_name text) zones ≡ result
      → find (has_name text) zones ≡ Some zone
  found_one zone apart is None none =
      let other = AllByRecursion-contains (λ (other : Zone). has_name text other ≡ false) zones zone (find_none (has_name text) zones none) is.there in
      absurd (true≢false (sym ((bytes_eq-Decides zone.name text).1 is.named) ∙ other))
  found_one zone apart is (Some other) its =
      let found = find_some (has_name text) zones other its in
      its ∙ ap Some (same_zone zones other zone apart found.1 is.there ((bytes_eq-Decides other.name text).0 found.0 ∙ sym is.named))

  found_none : IsNotFound zones text → (result : Option Zone) → find (has_name text) zones ≡ result → find (has_name text) zones ≡ None
  found_none none None its = its
  found_none none (Some other) its =
      let (passes, among) = find_some (has_name text) zones other its in
      let (place, below, is) = among in
      absurd (none place other below (ap (λ (zone : Zone). zone.name) is ∙ (bytes_eq-Decides other.name text).0 passes))

  pub looking_agrees : LookingAgrees zones text
  looking_agrees = record {
    found = λ zone apart is. found_one zone apart is (find (has_name text) zones) refl;
    none = λ none. found_none none (find (has_name text) zones) refl;
  }

module _ (segs : SegsView) (sound : IsSound segs) where
  -- claimed memory has a byte at its address
  begins_there : (claim : ExternalRange) → Contains segs.ranges claim → range_contains claim.addr claim ≡ true
  begins_there claim (place, below, is) =
      let its : IsRange claim = subst IsRange is (sound.places.external.each place claim below) in
      let some : 0 < claim.len = (good_memory claim.addr claim.len claim.page its.good).some in
      and_from (nat_le claim.addr claim.addr) (nat_lt claim.addr (claim.addr + claim.len)) (le-leb claim.addr claim.addr (omega arith))
      (lt-ltb claim.addr (claim.addr + claim.len) (omega (arith, some)))

  one_address : (one other : ExternalRange) → Contains segs.ranges one → Contains segs.ranges other → one.addr ≡ other.addr → one ≡ other
  one_address one other there also same =
      counted_once (range_contains other.addr) segs.ranges one other (sound.places.external.apart other.addr)
      (ap (λ (byte : ℕ). range_contains byte one) (sym same) ∙ begins_there one there, there) (begins_there other also, also)

  one_list : (one other : ExternalRange) → Contains segs.ranges one → Contains segs.ranges other → one.list ≡ other.list → one ≡ other
  one_list one other there also same =
      counted_once (λ (range : ExternalRange). range.list == other.list) segs.ranges one other (sound.places.external.distinct other.list)
      (eq-eqb one.list other.list same, there) (eq-eqb other.list other.list refl, also)

  alike : (claim : ExternalRange) → Contains segs.ranges claim → (range : ExternalRange) → Contains segs.ranges range
      → (range.addr == claim.addr) ≡ (range.list == claim.list)
  alike claim its range there =
      elim (cases_eq range.addr claim.addr) [
        | inl same ↦
            eq-eqb range.addr claim.addr same
            ∙ sym (eq-eqb range.list claim.list (ap (λ (range : ExternalRange). range.list) (one_address range claim there its same)))
        | inr other ↦
            false_from_ne_true (range.addr == claim.addr) (λ is. other (eqb-true range.addr claim.addr is))
            ∙ sym (false_from_ne_true (range.list == claim.list)
            (λ is. other (ap (λ (range : ExternalRange). range.addr) (one_list range claim there its (eqb-true range.list claim.list is)))))
      ]

pub releases_agree : ReleasesAgree
releases_agree segs claim plain index sound its =
    filter_alike (λ (range : ExternalRange). not (range.addr == claim.addr)) (λ (range : ExternalRange). not (range.list == claim.list)) segs.ranges
    (AllByRecursion-each (λ (range : ExternalRange). not (range.addr == claim.addr) ≡ not (range.list == claim.list)) segs.ranges
    (λ range there. ap not (alike segs sound claim its range there)))
