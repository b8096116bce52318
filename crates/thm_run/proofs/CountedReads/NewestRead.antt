-- Where nobody publishes statistics, those that are read are the newest ones of before; and a line that takes no heap publishes none.
use Rattle.std.proofs.Common.{◌≡◌, ◌≢◌, ◌∙◌, ℕ, ◌<◌, List, [], ◌∷◌, ◌++◌, length, Option, Some, None, refl, ap, sym, subst, ⊎_elim}
use Rattle.std.specs.List.{AllByRecursion}
use Rattle.std.specs.Prelude.{⊤, slice_get}
use Rattle.std.proofs.lemmas.Bool.{cases_eq}
use Rattle.hp_hall.specs.Mail.{Gives, MailStep, Notes, steps_of}
use Rattle.hp_hall.specs.declared.kept.Kept.{Kept}
use Rattle.hp_hall.specs.declared.kept.Kept.TheVariants.{Names}
use Rattle.hp_hall.specs.declared.note.Note.TheVariants.{Published, ReadStats, Stored}
use Rattle.hp_hall.specs.declared.slot.TheConstants.{NAMES_SLOT}
use Rattle.hp_plain.specs.Keeping.{IsKeptBy, values_after}
use Rattle.hp_plain.specs.Told.{AreTold, ShowsTold, Told, told_after}
use Rattle.hp_proc.proofs.Joining.{calls_on}
use Rattle.hp_proc.specs.Acting.{Acts}
use Rattle.hp_proc.specs.Courses.{OwnCall, calls_in}
use Rattle.hp_proc.specs.Denying.{denials_of}
use Rattle.hp_proc.specs.Doing.{Done}
use Rattle.hp_proc.specs.Doing.Done.{StatsRead}
use Rattle.hp_proc.specs.Handing.{counted_in}
use Rattle.hp_proc.specs.ParticipantView.{ParticipantView}
use Rattle.hp_serve.specs.Attaching.{after_attaching}
use Rattle.hp_serve.specs.Serving.{acks_after, gives_segments, takes_segments}
use Rattle.hp_stats.specs.declared.stat_pair.StatPair.{StatPair}
use Rattle.thm_run.proofs.HeapGivers.{GiveNoHeap, IsNoGive}
use Rattle.thm_run.proofs.PathSteps.Walk.{steps_elsewhere, steps_here}
use Rattle.thm_run.proofs.ServesNoHeap.{none_both}
use Rattle.thm_run.proofs.WaitsNoHeap.{acks_none, notice_none, turn_none}

-- no pair is published
abbrev pub IsNoPair : MailStep → Type 0
IsNoPair (Notes (Published number pair)) = ⊥
IsNoPair _ = ⊤

abbrev pub PublishNothing : List MailStep → Type 0
PublishNothing steps = AllByRecursion IsNoPair steps

gives_none : (step : MailStep) → IsNoGive step → IsNoPair step
gives_none (Notes (Published number pair)) none = none
gives_none _ none = tt

pub gives_publish : (steps : List MailStep) → GiveNoHeap steps → PublishNothing steps
gives_publish [] none = tt
gives_publish (step ∷ steps) none = (gives_none step none.0, gives_publish steps none.1)

-- ALL AND ALL

pub all_both : {X : Type 0} (P : X → Type 0) (xs ys : List X) → AllByRecursion P xs → AllByRecursion P ys → AllByRecursion P (xs ++ ys)
all_both P [] ys here there = there
all_both P (x ∷ xs) ys here there = (here.0, all_both P xs ys here.1 there)

pub all_split : {X : Type 0} (P : X → Type 0) (xs ys : List X) → AllByRecursion P (xs ++ ys) → AllByRecursion P xs × AllByRecursion P ys
all_split P [] ys all = (tt, all)
all_split P (x ∷ xs) ys all =
    let rest = all_split P xs ys all.1 in
    ((all.0, rest.0), rest.1)

pub all_at : {X : Type 0} (P : X → Type 0) (xs : List X) (x : X) (ys : List X) → AllByRecursion P (xs ++ x ∷ ys) → P x
all_at P [] x ys all = all.0
all_at P (y ∷ xs) x ys all = all_at P xs x ys all.1

pub first_nil : {X : Type 0} (xs ys : List X) → xs ++ ys ≡ [] → xs ≡ []
first_nil [] ys is = refl
first_nil (x ∷ xs) ys is = cc

last_nil : {X : Type 0} (xs ys : List X) → xs ++ ys ≡ [] → ys ≡ []
last_nil [] ys is = is
last_nil (x ∷ xs) ys is = cc

no_front : {X : Type 0} (x : X) (xs : List X) → x ∷ xs ≡ [] → ⊥
no_front x xs is = cc

no_hand : (n : ℕ) → Some n ≡ None → ⊥
no_hand n is = cc

-- WHAT IS READ

-- a pair that is read is that one of these
abbrev pub IsReadOf : List StatPair → MailStep → Type 0
IsReadOf newest (Notes (ReadStats number pair)) = slice_get newest number ≡ Some pair
IsReadOf newest _ = ⊤

shown_read : (who : ℕ) (step : MailStep) (told : Told) → ShowsTold who step told → IsReadOf told.newest step
shown_read who (Notes (ReadStats number pair)) told shows = shows
shown_read who _ told shows = tt

newest_stays : (who : ℕ) (step : MailStep) (told : Told) → IsNoPair step → (told_after who step told).newest ≡ told.newest
newest_stays who (Notes (Published number pair)) told none = absurd none
newest_stays who (Notes (Stored lines)) told none = refl
newest_stays who _ told none = refl

-- so does who publishes nothing in the steps that are left
further : (count maker : ℕ) (step : MailStep) (steps : List (ℕ × MailStep))
    → ((who : ℕ) → who < count → PublishNothing (steps_of who ((maker, step) ∷ steps))) → (who : ℕ) → who < count
    → PublishNothing (steps_of who steps)
further count maker step steps nothing who below =
    ⊎_elim
    (λ (same : maker ≡ who).
    (subst PublishNothing (steps_here who step steps)
    (subst (λ (maker : ℕ). PublishNothing (steps_of who ((maker, step) ∷ steps))) same (nothing who below))).1)
    (λ (apart : maker ≢ who). subst PublishNothing (steps_elsewhere who maker step steps apart) (nothing who below))
    (cases_eq maker who)

pub all_read : (count : ℕ) (steps : List (ℕ × MailStep)) (values later : List Kept) (old new : Told) → IsKeptBy count steps values later
    → AreTold steps old new → ((who : ℕ) → who < count → PublishNothing (steps_of who steps)) → (who : ℕ)
    → AllByRecursion (IsReadOf old.newest) (steps_of who steps)
all_read count [] values later old new by told nothing who = tt
all_read count (step ∷ steps) values later old new by told nothing who =
    let none : IsNoPair step.1 = (subst PublishNothing (steps_here step.0 step.1 steps) (nothing step.0 by.0.declared)).0 in
    let rest : AllByRecursion (IsReadOf old.newest) (steps_of who steps) =
    subst (λ (newest : List StatPair). AllByRecursion (IsReadOf newest) (steps_of who steps)) (newest_stays step.0 step.1 old none)
    (all_read count steps (values_after step.1 values) later (told_after step.0 step.1 old) new by.1 told.1
    (further count step.0 step.1 steps nothing) who) in
    ⊎_elim
    (λ (same : step.0 ≡ who).
    subst (λ (maker : ℕ). AllByRecursion (IsReadOf old.newest) (steps_of who ((maker, step.1) ∷ steps))) (sym same)
    (subst (AllByRecursion (IsReadOf old.newest)) (sym (steps_here who step.1 steps)) (shown_read step.0 step.1 old told.0, rest)))
    (λ (apart : step.0 ≢ who). subst (AllByRecursion (IsReadOf old.newest)) (sym (steps_elsewhere who step.0 step.1 steps apart)) rest)
    (cases_eq step.0 who)

-- so it is handed to the line
abbrev pub IsReadSo : List StatPair → Done → Type 0
IsReadSo newest (StatsRead heap counted) = (pair : StatPair) × (slice_get newest heap ≡ Some pair) × (counted ≡ counted_in pair)
IsReadSo newest _ = ⊤

pub acts_read : {count : ℕ} {hand last : Option ℕ} {held : List ℕ} {doer after : ParticipantView} {trace : List Done} {steps : List MailStep}
    (newest : List StatPair) → Acts count hand last held doer after trace steps → AllByRecursion (IsReadOf newest) steps
    → AllByRecursion (IsReadSo newest) trace
acts_read newest (Acts.nothing hand doer) reads = tt
acts_read newest (Acts.waits_turn until doer after moved steps turned) reads = tt
acts_read newest (Acts.takes_heap doer heap pen few) reads = tt
acts_read newest (Acts.gives_heap doer heap pen) reads = tt
acts_read newest (Acts.makes_call doer heap call answer none) reads = (tt, tt)
acts_read newest (Acts.cuts_run doer heap addr run taken) reads = (tt, tt)
acts_read newest (Acts.asks_pages doer after asked run steps asks) reads = (tt, tt)
acts_read newest (Acts.notifies_run doer after heap run steps notifies) reads = (tt, tt)
acts_read newest (Acts.attaches doer after taken caught attaches) reads = (tt, (tt, tt))
acts_read newest (Acts.detaches doer taken told above left bare heard) reads = tt
acts_read newest (Acts.notes_left doer elements) reads = tt
acts_read newest (Acts.reads_names doer names) reads = (tt, tt)
acts_read newest (Acts.looks_up_lines doer other lines) reads = tt
acts_read newest (Acts.reads_stats doer heap pair) reads = ((pair, reads.0, refl), tt)
acts_read newest (Acts.changes_names hand doer change) reads = (tt, tt)
acts_read newest (Acts.holds_names held doer after taken given trace steps inner changes) reads =
    (tt, acts_read newest inner (all_split (IsReadOf newest) steps (Gives NAMES_SLOT (Names given) ∷ []) reads.1).0)
acts_read newest (Acts.sees_heap doer heap pen few) reads = (tt, tt)
acts_read newest (Acts.looks_at_segs doer heap taken) reads = tt
acts_read newest (Acts.plans_range doer heap addr len page taken) reads = (tt, tt)
acts_read newest (Acts.claims doer heap chunk taken plan) reads = (tt, (tt, (tt, tt)))
acts_read newest (Acts.releases doer heap chunk taken) reads = (tt, (tt, tt))
acts_read newest (Acts.maps_chunk doer heap chunk after ended is) reads = (tt, tt)
acts_read newest (Acts.shares doer heap chunk same) reads = (tt, tt)
acts_read newest (Acts.leaves doer heap chunk after is) reads = (tt, tt)
acts_read newest (Acts.and_then hand between last held more doer mid after first rest before later here next) reads =
    let parts = all_split (IsReadOf newest) before later reads in
    all_both (IsReadSo newest) first rest (acts_read newest here parts.0) (acts_read newest next parts.1)

-- who had no heap in hand and took none has none, called none and published nothing
pub record IsBare (last : Option ℕ) (trace : List Done) (steps : List MailStep) : Type 0 where
  pub hand : last ≡ None
  pub calls : calls_in trace ≡ []
  pub publishes : PublishNothing steps

pub acts_bare : {count : ℕ} {hand last : Option ℕ} {held : List ℕ} {doer after : ParticipantView} {trace : List Done} {steps : List MailStep}
    → Acts count hand last held doer after trace steps → held ≡ [] → hand ≡ None → IsBare last trace steps
acts_bare (Acts.nothing hand doer) none empty = record { hand = empty; calls = refl; publishes = tt }
acts_bare {count} (Acts.waits_turn until doer after moved steps turned) none empty = record {
  hand = refl;
  calls = refl;
  publishes = gives_publish steps (turn_none (denials_of doer.context.standing) count until doer.party after steps moved turned);
}
acts_bare (Acts.takes_heap doer heap pen few) none empty = absurd (no_front heap.plain.index [] none)
acts_bare (Acts.gives_heap doer heap pen) none empty = absurd (no_hand heap.plain.index empty)
acts_bare (Acts.makes_call doer heap call answer cuts) none empty = absurd (no_hand heap empty)
acts_bare (Acts.cuts_run doer heap addr run taken) none empty = absurd (no_hand heap empty)
acts_bare (Acts.asks_pages doer after asked run steps asks) none empty = absurd (no_hand asked.heap empty)
acts_bare {count} (Acts.notifies_run doer after heap run steps notifies) none empty = record {
  hand = refl;
  calls = refl;
  publishes = gives_publish steps (notice_none (denials_of doer.context.standing) count doer.party after heap run steps notifies);
}
acts_bare (Acts.attaches doer after taken caught attaches) none empty =
    let gives : List MailStep = gives_segments (after_attaching doer.party.me caught taken) ∷ [] in
    let steps : List MailStep = takes_segments taken ∷ (acks_after caught (length taken.log) ++ gives) in
    let last : GiveNoHeap gives = (tt, tt) in
    let no_heap : GiveNoHeap steps =
    (tt, none_both (acks_after caught (length taken.log)) gives (acks_none caught (length taken.log)) last) in
    record { hand = refl; calls = refl; publishes = gives_publish steps no_heap }
acts_bare (Acts.detaches doer taken told above left bare heard) none empty = record { hand = refl; calls = refl; publishes = (tt, (tt, (tt, tt))) }
acts_bare (Acts.notes_left doer elements) none empty = record { hand = refl; calls = refl; publishes = tt }
acts_bare (Acts.reads_names doer names) none empty = record { hand = refl; calls = refl; publishes = (tt, (tt, tt)) }
acts_bare (Acts.looks_up_lines doer other lines) none empty = record { hand = refl; calls = refl; publishes = (tt, tt) }
acts_bare (Acts.reads_stats doer heap pair) none empty = record { hand = refl; calls = refl; publishes = (tt, tt) }
acts_bare (Acts.changes_names hand doer change) none empty = record { hand = empty; calls = refl; publishes = tt }
acts_bare (Acts.holds_names held doer after taken given trace steps inner changes) none empty =
    let rest = acts_bare inner none refl in
    record {
      hand = refl;
      calls = rest.calls;
      publishes = (tt, all_both IsNoPair steps (Gives NAMES_SLOT (Names given) ∷ []) rest.publishes (tt, tt));
    }
acts_bare (Acts.sees_heap doer heap pen few) none empty = absurd (no_front heap.plain.index [] none)
acts_bare (Acts.looks_at_segs doer heap taken) none empty = absurd (no_hand heap empty)
acts_bare (Acts.plans_range doer heap addr len page taken) none empty = absurd (no_hand heap empty)
acts_bare (Acts.claims doer heap chunk taken plan) none empty = absurd (no_hand heap empty)
acts_bare (Acts.releases doer heap chunk taken) none empty = absurd (no_hand heap empty)
acts_bare (Acts.maps_chunk doer heap chunk after ended is) none empty = absurd (no_hand heap empty)
acts_bare (Acts.shares doer heap chunk same) none empty = absurd (no_hand heap empty)
acts_bare (Acts.leaves doer heap chunk after is) none empty = absurd (no_hand heap empty)
acts_bare (Acts.and_then hand between last held more doer mid after first rest before later here next) none empty =
    let early = acts_bare here (first_nil held more none) empty in
    let late = acts_bare next (last_nil held more none) early.hand in
    record {
      hand = late.hand;
      calls = calls_on first rest ∙ ap (λ (calls : List OwnCall). calls ++ calls_in rest) early.calls ∙ late.calls;
      publishes = all_both IsNoPair before later early.publishes late.publishes;
    }
