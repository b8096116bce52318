-- Rows that are in use: the tables of members have them, and by which numbers they came to be agreed.
use Rattle.std.proofs.Common.{◌≡◌, ◌⊎◌, inl, inr, ⊎_elim, ◌∙◌, ℕ, ◌≤◌, Bool, true, false, eqb, eqb-true, eq-eqb, List, length, take, Option, Some, None, refl, sym, ap, subst}
use Rattle.std.specs.Prelude.{Contains}
use Rattle.std.proofs.Math.Seq.{take-append_seam}
use Rattle.std.proofs.lemmas.Bool.{false≢true}
use Rattle.std.proofs.lemmas.List.Elements.{All-contains}
use Rattle.hp_base.specs.declared.row.Row.{Row}
use Rattle.hp_heap.proofs.Members.{Contains-image, Contains-imaged}
use Rattle.hp_log.specs.Log.{table_of}
use Rattle.hp_log.specs.declared.log_record.LogRecord.{LogRecord}
use Rattle.hp_segs.specs.SegsView.{SegsView, granted_by, is_member, is_opened}
use Rattle.hp_segs.specs.Sound.{IsSound}
use Rattle.hp_segs.specs.SoundAsks.{IsUngranted, grants, is_grant_of, is_granted}
use Rattle.hp_segs.specs.SoundRows.{has_stamp}
use Rattle.hp_segs.specs.declared.growth.Growth.{Growth}
use Rattle.hp_segs.specs.declared.outcome.AskLog.{AskLog}
use Rattle.hp_segs.specs.declared.outcome.Outcome.{Outcome}
use Rattle.hp_segs.specs.declared.outcome.Outcome.TheVariants.{Granted, Refused, Stale, Freed}
use Rattle.hp_segs.specs.declared.row_state.Segment.{Segment}
use Rattle.hp_segs.proofs.GrowthSteps.GrantedRows.{rows_are_granted}
use Rattle.hp_hall.specs.Own.{rows_known}
use Rattle.hp_hall.specs.SegsGives.{Giver}
use Rattle.hp_hall.proofs.OwnedKnown.{IsGrantedBy, granted_entry}
use Rattle.hp_hall.proofs.StandingFacts.StandingLists.{any_contained}
use Rattle.hp_hall.proofs.TablesKnown.{row_known}
use Rattle.hp_board.specs.Agreement.{HasInUse}
use Rattle.hp_board.proofs.TakenIn.{HasTakenIn}
use Rattle.hp_board.specs.Left.{IsLeft}
use Rattle.hp_board.specs.Views.{own_of}
use Rattle.hp_board.specs.declared.view.Mine.{Mine}
use Rattle.hp_board.proofs.StepsOfSeats.AgreedSteps.{granted_within}
use Rattle.hp_board.proofs.OwnershipFacts.TablesKnown.{row_early}

grants_so : (outcome : Outcome) (generation : ℕ) → granted_by outcome ≡ Some generation → is_grant_of generation outcome ≡ true
grants_so (Granted stamp) generation is = let same : stamp ≡ generation = cc in eq-eqb stamp generation same
grants_so (Refused cause) generation is = absurd (cc)
grants_so (Stale done) generation is = absurd (cc)
grants_so (Freed stamp) generation is = absurd (cc)

-- the record of a row that is in use was granted
in_use_granted : (segs : SegsView) (row : Row) → IsSound segs → HasInUse segs row → IsGrantedBy segs.asks row.generation
in_use_granted segs row sound has =
    let stamp =
    All-contains (λ (segment : Segment). is_opened segment.state ≡ false → is_granted segs.asks segment.row.generation ≡ true) segs.segments has.segment
    (rows_are_granted segs sound) has.among has.used in
    granted_entry segs.asks row.generation (ap (λ (r : Row). is_granted segs.asks r.generation) (sym has.its_row) ∙ stamp)

-- and it is in the table of the log
in_use_logged : (segs : SegsView) (row : Row) → IsSound segs → HasInUse segs row → Contains (table_of segs.log) row
in_use_logged segs row sound has =
    subst (Contains (table_of segs.log)) has.its_row
    (subst (λ (rows : List Row). Contains rows has.segment.row) sound.rows.table.table (Contains-image (λ (segment : Segment). segment.row) segs.segments has.segment has.among))

-- the table of a member has each row that is in use
pub in_use_known : (segs : SegsView) (who : ℕ) (mine : Mine) (row : Row) → IsSound segs → is_member segs.roster who ≡ true → HasTakenIn segs who mine → HasInUse segs row
    → Contains (rows_known segs.log (own_of mine)) row
in_use_known segs who mine row sound its taken has =
    let by = in_use_granted segs row sound has in
    row_known segs.log (own_of mine) row (taken.granted its by.entry row.generation by.there by.granted) (in_use_logged segs row sound has)

-- the open growth is granted by none of the outcomes
unstamped : (asks : List AskLog) (growth : Option Growth) (row : Row) → IsUngranted asks growth → is_granted asks row.generation ≡ true → has_stamp growth row ≡ false
unstamped asks None row off granted = refl
unstamped asks (Some growth) row off granted = by (eqb row.generation growth.generation) refl
  where
    by : (same : Bool) → eqb row.generation growth.generation ≡ same → eqb row.generation growth.generation ≡ false
    by false is = is
    by true is =
        let wrong : true ≡ false = sym granted ∙ ap (is_granted asks) (eqb-true row.generation growth.generation is) ∙ off in
        absurd (false≢true (sym wrong))

-- a row of a granted record that is in the log's table is in use
granted_in_use : (segs : SegsView) (row : Row) (entry : AskLog) → IsSound segs → Contains segs.asks entry → granted_by entry.outcome ≡ Some row.generation
    → Contains (table_of segs.log) row → HasInUse segs row
granted_in_use segs row entry sound among granted logged =
    let rows = subst (λ (rows : List Row). Contains rows row) (sym sound.rows.table.table) logged in
    let of = Contains-imaged (λ (segment : Segment). segment.row) segs.segments row rows in
    let is : is_granted segs.asks row.generation ≡ true = any_contained (grants row.generation) segs.asks entry among (grants_so entry.outcome row.generation granted) in
    let stamp = unstamped segs.asks segs.growth of.0.row sound.asks.ungranted (ap (λ (r : Row). is_granted segs.asks r.generation) of.2 ∙ is) in
    record {
      segment = of.0;
      among = of.1;
      its_row = of.2;
      used = All-contains (λ (segment : Segment). is_opened segment.state ≡ has_stamp segs.growth segment.row) segs.segments of.0 sound.rows.stamped of.1 ∙ stamp;
    }

-- what is in use in a given value was in use in the taken one, or each member has taken in its record as far as the giver knows
pub agreed_by : (giver : Giver) (taken given : SegsView) → IsSound taken → IsSound given → IsLeft giver taken given → (row : Row) (member : ℕ) → HasInUse given row
    → is_member given.roster member ≡ true → HasInUse taken row ⊎ (row.generation ≤ giver.noted member)
agreed_by giver taken given sound-taken sound-given left row member has its =
    let by = in_use_granted given row sound-given has in
    ⊎_elim
    (λ old. inl (granted_in_use taken row by.entry sound-taken old by.granted
    (subst (λ (l : List LogRecord). Contains (table_of l) row) (ap (take (length taken.log)) left.log.1 ∙ take-append_seam taken.log left.log.0)
    (row_early given.log (length taken.log) row (granted_within taken sound-taken by.entry row.generation old by.granted) (in_use_logged given row sound-given has)))))
    (λ known. inr known)
    (left.agreed by.entry row.generation member by.there by.granted its)
