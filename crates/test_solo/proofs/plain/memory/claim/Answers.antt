-- External memory that got a list was claimed by one call; where it got none, all is as it was.
use Rattle.std.proofs.Common.{◌≡◌, ◌∙◌, ℕ, Bool, true, false, ◌||◌, cond, not, List, [], ◌∷◌, ◌++◌, filter, length, Result, Ok, Err, IfOk, OnErr, inl, inr, eqb, eq-eqb, refl, sym, ap, subst}
use Rattle.std.specs.List.{list_any, range_with_len}
use Rattle.std.specs.Result.{result_ok}
use Rattle.std.proofs.lemmas.Bool.{and_parts, not-true, or_right}
use Rattle.std.proofs.lemmas.List.Folds.{list_any-append}
use Rattle.hp_segs.proofs.SlotFacts.ListFacts.{or_off_parts}
use Rattle.hp_segs.proofs.SlotFacts.RangeLemmas.{find_passes, planned_range}
use Rattle.hp_segs.specs.Ranges.{IsRangeAnswer, after_claim_range, after_release_range, is_claimed, is_free_number, range_plan}
use Rattle.hp_segs.specs.SegsView.{SegsView}
use Rattle.hp_segs.specs.declared.external_range.ExternalRange.{ExternalRange}
use Rattle.hp_segs.specs.declared.fault.RangeFault.{RangeFault}
use Rattle.hp_hall.specs.Giving.{Knows, GivesSegments}
use Rattle.hp_hall.proofs.Gives.{gives_claimed, segs_same}
use Rattle.test_solo.specs.Claiming.{IsClaimed}
use Rattle.test_solo.proofs.plain.memory.claim.Goals as goal

planned : (plan : Result ℕ RangeFault) (list : ℕ) → IsRangeAnswer plan (Ok list) → plan ≡ Ok list
planned (Ok other) list (inl is) = sym is
planned (Ok other) list (inr is) = cc
planned (Err fault) list is = cc

gives_by : (knows : Knows) (old new : SegsView) (addr len page socket : ℕ) (result : Result ℕ RangeFault)
    → IsRangeAnswer (range_plan addr len page old) result → IfOk result (λ list. new ≡ after_claim_range list addr len page socket old)
    → OnErr result (new ≡ old) → knows.naming ≡ true → GivesSegments knows old new
gives_by knows old new addr len page socket (Ok list) answer ok err naming =
    subst (GivesSegments knows old) (sym ok)
    (gives_claimed knows old list addr len page socket (planned (range_plan addr len page old) list answer) naming)
gives_by knows old new addr len page socket (Err fault) answer ok err naming = subst (GivesSegments knows old) (sym err) (segs_same knows old)

-- a list that a range got is claimed then, and once it is released the value is as it was
module _ (segs : SegsView) (list addr len page socket : ℕ) (plan : range_plan addr len page segs ≡ Ok list) where
  abbrev claimed : ExternalRange
  claimed = record { list = list; addr = addr; len = len; page = page; socket = socket }

  abbrev its : ExternalRange → Bool
  its range = eqb range.list list

  has_claimed : is_claimed (after_claim_range list addr len page socket segs) list ≡ true
  has_claimed =
      list_any-append its segs.ranges (claimed ∷ []) ∙ or_right (list_any its segs.ranges) (eqb list list || false)
      (ap (λ (own : Bool). own || false) (eq-eqb list list refl))

  nobody_had : list_any its segs.ranges ≡ false
  nobody_had =
      let free = find_passes (is_free_number (length segs.pools) segs.ranges) (range_with_len 0 128) list (planned_range segs addr len page list plan).free in
      not-true (list_any its segs.ranges) (and_parts _ _ free).1

  left_of : (ranges : List ExternalRange) → list_any its ranges ≡ false → filter (λ range. not (its range)) (ranges ++ claimed ∷ []) ≡ ranges
  left_of [] none = ap (λ (own : Bool). cond (not own) (claimed ∷ []) []) (eq-eqb list list refl)
  left_of (range ∷ ranges) none =
      let rest : List ExternalRange = filter (λ range. not (its range)) (ranges ++ claimed ∷ []) in
      let parts = or_off_parts (its range) (list_any its ranges) none in
      ap (λ (own : Bool). cond (not own) (range ∷ rest) rest) parts.0 ∙ ap (λ (l : List ExternalRange). range ∷ l) (left_of ranges parts.1)

  given_back : after_release_range list (after_claim_range list addr len page socket segs) ≡ segs
  given_back = ap (λ (ranges : List ExternalRange). record segs { ranges = ranges }) (left_of segs.ranges nobody_had)

claimed_by : (old new : SegsView) (addr len page socket : ℕ) (result : Result ℕ RangeFault) → IsRangeAnswer (range_plan addr len page old) result
    → IfOk result (λ list. new ≡ after_claim_range list addr len page socket old) → OnErr result (new ≡ old) → IsClaimed (result_ok result) old new
claimed_by old new addr len page socket (Ok list) answer ok err =
    let plan = planned (range_plan addr len page old) list answer in (
      ap (λ (segs : SegsView). is_claimed segs list) ok ∙ has_claimed old list addr len page socket plan,
      ap (after_release_range list) ok ∙ given_back old list addr len page socket plan,
    )
claimed_by old new addr len page socket (Err fault) answer ok err = err

pub returns-clause-gives : goal.returns-clause-gives
returns-clause-gives c = λ knows naming.
    let claimed = c.claim_range.ensures in
    gives_by knows c.args.segs.now c.claim_range.new.self _ _ _ _ c.claim_range.result claimed.answer claimed.ok claimed.err naming

pub returns-clause-claimed : goal.returns-clause-claimed
returns-clause-claimed c =
    let claimed = c.claim_range.ensures in
    claimed_by c.args.segs.now c.claim_range.new.self _ _ _ _ c.claim_range.result claimed.answer claimed.ok claimed.err
