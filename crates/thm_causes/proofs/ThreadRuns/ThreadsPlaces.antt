-- Places of a hall of one thread: a sequence of calls makes none and takes none away; whoever leaves one or comes back to it.
use Rattle.std.proofs.Common.{◌≡◌, ◌∙◌, ℕ, zero, suc, Bool, true, false, List, [], ◌∷◌, length, refl, ap}
use Rattle.std.specs.Prelude.{slice_set}
use Rattle.std.proofs.Math.ListN.{length-set}
use Rattle.std.proofs.lemmas.Bool.{or_from, or_parts}
use Rattle.hp_hall.specs.Mail.{MailStep}
use Rattle.hp_solo.specs.Sequence.{Makes, Sequence, ServesOnce, ServesSome, Visit, Visits, VisitsBeside, going_place}
use Rattle.hp_serve.specs.Denials.{Denials}
use Rattle.hp_solo.specs.Solo.{AloneView, SoloView, denials_in, has_stopped, server_at}

-- AS MANY PLACES AS BEFORE

once_long : (denies : Denials) (who : ℕ) (moved : Bool) (old new : SoloView) → ServesOnce denies who moved old new
    → length new.servers ≡ length old.servers
once_long denies who moved old new once =
    ap (λ (servers : List AloneView). length servers) once.servers ∙ length-set old.servers who (going_place once.validators once.after)

some_long : (denies : Denials) (who : ℕ) (old new : SoloView) → ServesSome denies who old new → length new.servers ≡ length old.servers
some_long denies who _ _ (ServesSome.none hall) = refl
some_long denies who old new (ServesSome.more _ mid _ before once) =
    once_long denies who true mid new once ∙ some_long denies who old mid before

visit_long : (denies : Denials) (who : ℕ) (old new : SoloView) → Visit denies who old new → length new.servers ≡ length old.servers
visit_long denies who old new (Visit.serves between before once) =
    once_long denies who false between new once ∙ some_long denies who old between before
visit_long denies who old new (Visit.is_away away is) = ap (λ (hall : SoloView). length hall.servers) is

visits_long : (from upto : ℕ) (old new : SoloView) → Visits from upto old new → length new.servers ≡ length old.servers
visits_long from _ _ _ (Visits.none hall) = refl
visits_long from _ old new (Visits.next upto _ mid _ before visit) =
    visit_long (denials_in (server_at mid.servers upto)) upto mid new visit ∙ visits_long from upto old mid before

beside_long : (me : ℕ) (above : Bool) (old new : SoloView) → VisitsBeside me above old new → length new.servers ≡ length old.servers
beside_long me false old new visits = visits_long 0 me old new visits
beside_long me true old new visits = visits_long (suc me) (length old.servers) old new visits

makes_long : (me : ℕ) (old new : SoloView) (step : MailStep) → Makes me old new step → length new.servers ≡ length old.servers
makes_long me old new _ (Makes.calls step call made servers clock) = ap (λ (servers : List AloneView). length servers) servers
makes_long me old new _ (Makes.yields above moved between visits quiet is) =
    ap (λ (hall : SoloView). length hall.servers) is ∙ beside_long me above old between visits
makes_long me old new _ (Makes.pauses moved until is servers stands goes) = ap (λ (servers : List AloneView). length servers) servers

-- after a sequence of calls
pub sequence_long : (me : ℕ) (old new : SoloView) (steps : List MailStep) → Sequence me old steps new
    → length new.servers ≡ length old.servers
sequence_long me _ _ _ (Sequence.stands hall) = refl
sequence_long me old new _ (Sequence.goes_on _ mid _ step steps makes more) =
    sequence_long me mid new steps more ∙ makes_long me old mid step makes

-- NOBODY HAS STOPPED

-- nor has anybody, where one place came to one that hasn't
pub none_set : (servers : List AloneView) (who : ℕ) (place : AloneView) → place.stopped ≡ false → has_stopped servers ≡ false
    → has_stopped (slice_set servers who place) ≡ false
none_set [] who place going off = refl
none_set (server ∷ servers) zero place going off =
    or_from place.stopped (has_stopped servers) going (or_parts server.stopped (has_stopped servers) off).1
none_set (server ∷ servers) (suc who) place going off =
    let both = or_parts server.stopped (has_stopped servers) off in
    or_from server.stopped (has_stopped (slice_set servers who place)) both.0 (none_set servers who place going both.1)
