-- Sequences of calls, taken apart: what one that is away does in a row, and what it does next.
use Rattle.std.proofs.Common.{◌≡◌, ◌∙◌, ℕ, Bool, true, false, List, [], ◌∷◌, ◌++◌, Option, Some, refl, ap, subst}
use Rattle.std.specs.Prelude.{IfSome}
use Rattle.hp_plain.specs.HallSteps.{after_pause, with_note}
use Rattle.hp_hall.specs.Mail.{MailStep, Notes}
use Rattle.hp_hall.specs.declared.note.Note.TheVariants.{Paused, Yielded}
use Rattle.hp_solo.specs.Sequence.{IsCall, IsMadeBy, Makes, Sequence, VisitsBeside}
use Rattle.hp_solo.specs.Solo.{IsBeside, IsNextDue, IsQuiet, AloneView, SoloView}
use Rattle.thm_causes.specs.Shared.{IsSharedIn, Shared}
use Rattle.thm_causes.specs.RunStates.{AreCalls, CoursesGoAlong, IsInOrder, GoesAlong}
use Rattle.thm_causes.proofs.Sharing.{made_then}

-- one alone did this with what is shared, and the others stand as they stood
pub record IsOwn (me : ℕ) (steps : List MailStep) (old : List AloneView) (new : SoloView) (at : Shared) : Type 0 where
  pub along : GoesAlong me steps at new.plain
  pub servers : new.servers ≡ old

module _ (known : CoursesGoAlong) (me : ℕ) where
  -- from one state to a later one it alone did something
  own_more : (old mid new : SoloView) (first rest : List MailStep) (at : Shared) → IsMadeBy me first old.plain mid.plain → AreCalls first
      → mid.servers ≡ old.servers → IsInOrder old.plain → IsSharedIn old.plain at
      → ((at : Shared) → IsSharedIn mid.plain at → IsInOrder mid.plain → IsOwn me rest mid.servers new at) → IsOwn me (first ++ rest) old.servers new at
  own_more old mid new first rest at made calls servers order shared next =
      let here = known me first old.plain mid.plain at made calls order shared in
      let behind = next here.at here.shared here.order in
      record {
        along = record {
          at = behind.along.at;
          made = made_then me first rest at here.at behind.along.at here.made behind.along.made;
          shared = behind.along.shared;
          order = behind.along.order;
        };
        servers = behind.servers ∙ servers;
      }

  -- a call of its own
  call_made : (old new : SoloView) (step : MailStep) → IsCall step → Makes me old new step
      → IsMadeBy me (step ∷ []) old.plain new.plain × (new.servers ≡ old.servers)
  call_made old new _ call (Makes.calls step is made servers clock) = (made, servers)
  call_made old new _ call (Makes.yields above moved between visits quiet is) = absurd call
  call_made old new _ call (Makes.pauses moved until is servers stands goes) = absurd call

  -- calls in a row are its own
  pub calls_own : (old new : SoloView) (steps : List MailStep) (at : Shared) → Sequence me old steps new → AreCalls steps → IsInOrder old.plain
      → IsSharedIn old.plain at → IsOwn me steps old.servers new at
  calls_own _ new _ at (Sequence.stands _) calls order shared =
      record { along = record { at = at; made = refl; shared = shared; order = order }; servers = refl }
  calls_own old new _ at (Sequence.goes_on _ mid _ step steps makes more) calls order shared =
      let made = call_made old mid step calls.0 makes in
      own_more old mid new (step ∷ []) steps at made.0 (calls.0, tt) made.1 order shared
      (λ at shared order. calls_own mid new steps at more calls.1 order shared)

-- a sequence between two of its states
pub record IsCutIn (me : ℕ) (old : SoloView) (first rest : List MailStep) (new : SoloView) : Type 0 where
  pub mid : SoloView
  pub begins : Sequence me old first mid
  pub ends : Sequence me mid rest new

-- it is cut anywhere
cut_as : (me : ℕ) (old new : SoloView) (steps first rest : List MailStep) → Sequence me old steps new → steps ≡ first ++ rest
    → IsCutIn me old first rest new
cut_as me old new steps [] rest sequence is =
    record { mid = old; begins = Sequence.stands old; ends = subst (λ (steps : List MailStep). Sequence me old steps new) is sequence }
cut_as me _ new _ (step ∷ first) rest (Sequence.stands _) is = cc
cut_as me old new _ (step ∷ first) rest (Sequence.goes_on _ mid _ one more makes ends) is =
    let same : one ≡ step = cc in
    let all : more ≡ first ++ rest = cc in
    let behind = cut_as me mid new more first rest ends all in
    record {
      mid = behind.mid;
      begins = Sequence.goes_on old mid behind.mid step first (subst (Makes me old mid) same makes) behind.begins;
      ends = behind.ends;
    }

pub cut_in : (me : ℕ) (old new : SoloView) (steps first rest : List MailStep) → steps ≡ first ++ rest → Sequence me old steps new
    → IsCutIn me old first rest new
cut_in me old new steps first rest is sequence = cut_as me old new steps first rest sequence is

-- a call, and the rest
pub record BeginsWith (me : ℕ) (old : SoloView) (step : MailStep) (rest : List MailStep) (new : SoloView) : Type 0 where
  pub behind : SoloView
  pub makes : Makes me old behind step
  pub ends : Sequence me behind rest new

begins_at : (me : ℕ) (old new : SoloView) (steps : List MailStep) (step : MailStep) (rest : List MailStep) → Sequence me old steps new
    → steps ≡ step ∷ rest → BeginsWith me old step rest new
begins_at me _ new _ step rest (Sequence.stands _) is = cc
begins_at me old new _ step rest (Sequence.goes_on _ mid _ first more makes ends) is =
    let one : first ≡ step = cc in
    let all : more ≡ rest = cc in
    record {
      behind = mid;
      makes = subst (Makes me old mid) one makes;
      ends = subst (λ (steps : List MailStep). Sequence me mid steps new) all ends;
    }

-- a sequence begins with its first call
pub begins_with : (me : ℕ) (old new : SoloView) (steps : List MailStep) (step : MailStep) (rest : List MailStep) → steps ≡ step ∷ rest
    → Sequence me old steps new → BeginsWith me old step rest new
begins_with me old new steps step rest is sequence = begins_at me old new steps step rest sequence is

-- A YIELD, AND A PAUSE

-- others served meanwhile
pub record HasYieldedIn (me : ℕ) (above moved : Bool) (old new : SoloView) : Type 0 where
  pub between : SoloView
  pub visits : VisitsBeside me above old between
  pub quiet : moved ≡ false → IsQuiet (IsBeside me above) old between
  pub is : new ≡ record between { plain = with_note me (Yielded above (Some moved)) between.plain }

yields_as : (me : ℕ) (old new : SoloView) (step : MailStep) (above moved : Bool) → Makes me old new step → step ≡ Notes (Yielded above (Some moved))
    → HasYieldedIn me above moved old new
yields_as me old new _ above moved (Makes.calls step call made servers clock) is = absurd (subst IsCall is call)
yields_as me old new _ above moved (Makes.yields side any between visits quiet new_is) is =
    let sides : side ≡ above = cc in
    let all : any ≡ moved = cc in
    subst (λ (above : Bool). HasYieldedIn me above moved old new) sides
    (subst (λ (moved : Bool). HasYieldedIn me side moved old new) all
    (record { between = between; visits = visits; quiet = quiet; is = new_is }))
yields_as me old new _ above moved (Makes.pauses any until new_is servers stands goes) is =
    let never : Paused any until ≡ Yielded above (Some moved) = cc in
    absurd (cc never)

pub yields_in : (me : ℕ) (old new : SoloView) (above moved : Bool) → Makes me old new (Notes (Yielded above (Some moved)))
    → HasYieldedIn me above moved old new
yields_in me old new above moved makes = yields_as me old new (Notes (Yielded above (Some moved))) above moved makes refl

-- the clock stands, or has gone on
pub record HasPausedIn (me : ℕ) (moved : Bool) (until : ℕ) (old new : SoloView) : Type 0 where
  pub is : new.plain ≡ after_pause me moved (Some until) new.plain.clock old.plain
  pub servers : new.servers ≡ old.servers
  pub stands : moved ≡ true → new.plain.clock ≡ old.plain.clock
  pub goes : moved ≡ false → IsNextDue old.plain.clock old.servers until new.plain.clock

pauses_as : (me : ℕ) (old new : SoloView) (step : MailStep) (moved : Bool) (until : ℕ) → Makes me old new step
    → step ≡ Notes (Paused moved (Some until)) → HasPausedIn me moved until old new
pauses_as me old new _ moved until (Makes.calls step call made servers clock) is = absurd (subst IsCall is call)
pauses_as me old new _ moved until (Makes.yields side any between visits quiet new_is) is =
    let never : Yielded side (Some any) ≡ Paused moved (Some until) = cc in
    absurd (cc never)
pauses_as me old new _ moved until (Makes.pauses any «to» new_is servers stands goes) is =
    let all : any ≡ moved = cc in
    let ends : «to» ≡ Some until = cc in
    subst (λ (moved : Bool). HasPausedIn me moved until old new) all
    (record {
      is = new_is ∙ ap (λ (ends : Option ℕ). after_pause me any ends new.plain.clock old.plain) ends;
      servers = servers;
      stands = stands;
      goes = λ none. subst (λ (ends : Option ℕ). IfSome ends (λ deadline. IsNextDue old.plain.clock old.servers deadline new.plain.clock)) ends
          (goes none);
    })

pub pauses_in : (me : ℕ) (old new : SoloView) (moved : Bool) (until : ℕ) → Makes me old new (Notes (Paused moved (Some until)))
    → HasPausedIn me moved until old new
pauses_in me old new moved until makes = pauses_as me old new (Notes (Paused moved (Some until))) moved until makes refl
