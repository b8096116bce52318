-- What the steps of a line are, where it is so of single calls and of servings: of waits, asks, notices, and all that a line does.
use Rattle.std.proofs.Common.{◌≡◌, ◌∙◌, ℕ, zero, suc, ◌+◌, Bool, true, false, ◌||◌, List, [], ◌∷◌, ◌++◌, length, Option, Some, None, refl, sym, ap, subst}
use Rattle.std.specs.Prelude.{⊤, if◌then◌else◌}
use Rattle.std.specs.List.{list_any}
use Rattle.std.proofs.lemmas.List.Folds.{list_any-append}
use Rattle.hp_proc.specs.Denying.{denials_of}
use Rattle.hp_base.specs.declared.caught.Caught.{Caught}
use Rattle.hp_base.specs.declared.plan.Action.{Action}
use Rattle.hp_base.specs.declared.row.Run.{Run}
use Rattle.hp_frame.specs.declared.frame.Frame.{Frame}
use Rattle.hp_hall.specs.Mail.{Gives, MailStep, Notes, Posts, Takes}
use Rattle.hp_hall.specs.declared.kept.Kept.TheVariants.{Heap, Names}
use Rattle.hp_hall.specs.declared.note.Note.{Note}
use Rattle.hp_hall.specs.declared.note.Note.TheVariants.{Emptied, LoadedDone, Paused, Published, Read, ReadStats, Yielded}
use Rattle.hp_hall.specs.declared.slot.TheConstants.{NAMES_SLOT}
use Rattle.hp_mail.specs.declared.posted.Posted.{Posted}
use Rattle.hp_hall.specs.HeapPairs.{pair_of}
use Rattle.hp_heap.specs.History.{HeapView}
use Rattle.hp_stats.specs.StatViews.{PenView}
use Rattle.hp_segs.specs.LaterSteps.{after_leave, after_withdraw, grows_for, withdrawn_growth, withdrawn_unless}
use Rattle.hp_segs.specs.SegsView.{SegsView, grant_of, grant_or_refusal_of}
use Rattle.hp_segs.specs.Steps.{after_claim, claimed_grant}
use Rattle.hp_segs.specs.declared.ask.Ask.{Ask}
use Rattle.hp_segs.specs.declared.growth.Growth.{Growth}
use Rattle.hp_segs.specs.declared.outcome.Cause.{Cause}
use Rattle.hp_segs.specs.declared.outcome.Cause.TheVariants.{Withdrawn}
use Rattle.hp_segs.specs.declared.outcome.Outcome.{Outcome}
use Rattle.hp_proc.specs.Acting.{Acts}
use Rattle.hp_serve.specs.Denials.{Denials}
use Rattle.hp_serve.specs.AskSteps.{DoesAsk, DoesNotify, IsAwaitedBy, IsSentAs, IsSettledLate}
use Rattle.hp_serve.specs.Asking.{after_settling}
use Rattle.hp_serve.specs.Attaching.{after_attaching}
use Rattle.hp_serve.specs.Coordinating.{IsServed}
use Rattle.hp_proc.specs.Doing.{Done}
use Rattle.hp_serve.specs.Asking.{ask_of}
use Rattle.hp_proc.specs.ParticipantView.{ParticipantView}
use Rattle.hp_serve.specs.Party.{Party, after_alloc, after_free}
use Rattle.hp_serve.specs.Serving.{acks_after, gives_segments, takes_segments}
use Rattle.hp_serve.specs.Waiting.{AreServings, AreTurns, HaveServed, IsServedOut, IsTurned, IsWaited, PausesAt}
use Rattle.hp_serve.specs.declared.pages_asked.PagesAsked.{PagesAsked}
use Rattle.hp_zone.specs.declared.names.Names.{Names as NamesView}
use Rattle.thm_causes.specs.Lines.{is_looked}

-- THE ROSTER STAYS

claimed_roster : (segs : SegsView) (grant : Option ℕ) → (claimed_grant segs grant).roster ≡ segs.roster
claimed_roster segs None = refl
claimed_roster segs (Some generation) = refl

pub claim_roster : (from number : ℕ) (segs : SegsView) → (after_claim from number segs).roster ≡ segs.roster
claim_roster from number segs = claimed_roster segs (grant_of segs.asks from number)

one_roster : (takes : Bool) (one other segs : SegsView) → one.roster ≡ segs.roster → other.roster ≡ segs.roster
    → (if takes then one else other).roster ≡ segs.roster
one_roster true one other segs first second = first
one_roster false one other segs first second = second

growth_roster : (from number : ℕ) (cause : Cause) (segs : SegsView) (growth : Option Growth)
    → (withdrawn_growth from number cause segs growth).roster ≡ segs.roster
growth_roster from number cause segs None = refl
growth_roster from number cause segs (Some growth) = one_roster (grows_for from number growth) _ _ segs refl refl

unless_roster : (from number : ℕ) (cause : Cause) (segs : SegsView) (outcome : Option Outcome)
    → (withdrawn_unless from number cause segs outcome).roster ≡ segs.roster
unless_roster from number cause segs (Some outcome) = refl
unless_roster from number cause segs None = growth_roster from number cause segs segs.growth

pub withdraw_roster : (from number since now : ℕ) (segs : SegsView) → (after_withdraw from number since now segs).roster ≡ segs.roster
withdraw_roster from number since now segs =
    unless_roster from number (Withdrawn since now) segs (grant_or_refusal_of segs.asks from number)

-- nor does a settling
settling_roster : (ask : Ask) (since now : ℕ) (segs : SegsView) → (after_settling ask since now segs).roster ≡ segs.roster
settling_roster ask since now segs =
    claim_roster ask.from ask.number (after_withdraw ask.from ask.number since now segs)
    ∙ withdraw_roster ask.from ask.number since now segs

either_way : (here : Bool) → (here || true) ≡ true
either_way true = refl
either_way false = refl

-- WALKS

-- a note names the deadline for which it pauses, where it is of a pause
abbrev pub IsNoteUntil : Note → Type 0
IsNoteUntil (Paused moved None) = ⊥
IsNoteUntil _ = ⊤

-- it is so of nothing, of one thing after another, of single calls, and of servings of a participant of such a number; and of an attach
-- where there may be one
pub record HoldsOfSteps (count : ℕ) (Is : ℕ → Type 0) (May : Type 0) (Q : List MailStep → Type 0) : Type 1 where
  pub none : Q []
  pub both : (first rest : List MailStep) → Q first → Q rest → Q (first ++ rest)
  pub notes : (note : Note) → IsNoteUntil note → Q (Notes note ∷ [])
  pub posts : (to : ℕ) (frame : Frame) (action : Action) (posted : Posted) → Q (Posts to frame action posted ∷ [])
  pub takes_heap : (heap : HeapView) (pen : PenView) → Q (Takes heap.plain.index (Heap heap pen) ∷ [])
  pub gives_heap : (heap : HeapView) (pen : PenView) → Q (Gives heap.plain.index (Heap heap pen) ∷ [])
  pub takes_names : (names : NamesView) → Q (Takes NAMES_SLOT (Names names) ∷ [])
  pub gives_names : (names : NamesView) → Q (Gives NAMES_SLOT (Names names) ∷ [])
  pub holds : (taken given : SegsView) → given.roster ≡ taken.roster → Q (takes_segments taken ∷ gives_segments given ∷ [])
  pub leaves : (who : ℕ) (taken : SegsView) → Is who → Q (takes_segments taken ∷ Notes Emptied ∷ gives_segments (after_leave who taken) ∷ [])
  pub attaches : (who : ℕ) (taken : SegsView) (ended : Caught) → May
      → Q (takes_segments taken ∷ (acks_after ended (length taken.log) ++ (gives_segments (after_attaching who ended taken) ∷ [])))
  pub serves : (denies : Denials) (party after : Party) (steps : List MailStep) (moved : Bool) → Is party.me
      → IsServed denies count party after steps (Some moved)
      → Q steps × Is after.me

module _ (count : ℕ) (Is : ℕ → Type 0) (May : Type 0) (Q : List MailStep → Type 0) (along : HoldsOfSteps count Is May Q) where
  -- steps after a single one
  behind_one : (step : MailStep) (steps : List MailStep) → Q (step ∷ []) → Q steps → Q (step ∷ steps)
  behind_one step steps first rest = along.both (step ∷ []) steps first rest

  servings_are : (denies : Denials) (times : ℕ) (party after : Party) (steps : List MailStep)
      → AreServings denies count times party after steps
      → Is party.me
      → Q steps × Is after.me
  unfolding AreServings
  servings_are denies zero party after steps are its =
      (subst Q (sym are.1) along.none, subst Is (sym (ap (λ (party : Party). party.me) are.0)) its)
  servings_are denies (suc n) party after steps are its =
      let first = servings_are denies n party are.0 are.1 are.3 its in
      let last = along.serves denies are.0 after are.2 true first.1 are.4 in
      (subst Q (sym are.5) (along.both are.1 are.2 first.0 last.0), last.1)

  served_out_are : (denies : Denials) (party after : Party) (steps : List MailStep) (own : Bool)
      → IsServedOut denies count party after steps (Some own) → Is party.me
      → Q steps × Is after.me
  served_out_are denies party after steps own (IsServedOut.rests times mid first last few are served did is) its =
      let begins = servings_are denies times party mid first are its in
      let ends = along.serves denies mid after last false begins.1 served in
      (subst Q (sym did) (along.both first last begins.0 ends.0), ends.1)
  served_out_are denies party after steps own (IsServedOut.stops times mid first last few are served did is) its = cc
  served_out_are denies party after steps own (IsServedOut.enough are is) its = servings_are denies _ party after steps are its

  all_served_are : (denies : Denials) (party after : Party) (steps : List MailStep) (moved : Bool)
      → HaveServed denies count party after steps (Some moved)
      → Is party.me → Q steps × Is after.me
  all_served_are denies party after steps moved (HaveServed.below_stops did after_is is) its = cc
  all_served_are denies party after steps moved (HaveServed.stops below own served did is) its = cc
  all_served_are denies party after steps moved (HaveServed.above_stops below mine own served did is) its = cc
  all_served_are denies party after steps moved (HaveServed.ends below mine above own served did is) its =
      let serves = served_out_are denies party after own mine served its in (
        subst Q (sym did)
            (behind_one (Notes (Yielded false (Some below))) (own ++ Notes (Yielded true (Some above)) ∷ [])
            (along.notes (Yielded false (Some below)) tt)
            (along.both own (Notes (Yielded true (Some above)) ∷ []) serves.0 (along.notes (Yielded true (Some above)) tt))),
        serves.1,
      )

  pauses_are : (until : ℕ) (due : Option ℕ) (moved : Bool) (steps : List MailStep) → PausesAt until due moved steps → Q steps
  pauses_are until due moved steps pauses =
      subst Q (sym pauses.are)
      (behind_one (Notes (Read pauses.now)) (Notes (Paused moved (Some pauses.next)) ∷ []) (along.notes (Read pauses.now) tt)
      (along.notes (Paused moved (Some pauses.next)) tt))

  -- a turn
  pub turned_are : (denies : Denials) (until : ℕ) (party after : Party) (steps : List MailStep) (moved : Bool)
      → IsTurned denies count until party after steps (Some moved) → Is party.me → Q steps × Is after.me
  turned_are denies until party after steps moved (IsTurned.stops served is) its = cc
  turned_are denies until party after steps moved (IsTurned.ends any served paused have pauses did is) its =
      let serves = all_served_are denies party after served any have its in
      (subst Q (sym did) (along.both served paused serves.0 (pauses_are until _ any paused pauses)), serves.1)

  turns_are : (denies : Denials) (until : ℕ) (heeds : Bool) (turns : ℕ) (party after : Party) (steps : List MailStep)
      → AreTurns denies count until heeds turns party after steps → Is party.me → Q steps × Is after.me
  unfolding AreTurns
  turns_are denies until heeds zero party after steps are its =
      (subst Q (sym are.1) along.none, subst Is (sym (ap (λ (party : Party). party.me) are.0)) its)
  turns_are denies until heeds (suc n) party after steps are its =
      let first = turns_are denies until heeds n party are.0 are.1 are.5 its in
      let last = turned_are denies until are.0 after are.2 are.4 are.7 first.1 in (
        subst Q (sym are.8)
            (along.both are.1 (Notes (Read are.3) ∷ are.2) first.0
            (behind_one (Notes (Read are.3)) are.2 (along.notes (Read are.3) tt) last.0)),
        last.1,
      )

  -- a wait
  pub waited_are : (denies : Denials) (until now : ℕ) (heeds : Bool) (party after : Party) (steps : List MailStep)
      → IsWaited denies count until heeds party after steps (Some now) → Is party.me → Q steps × Is after.me
  waited_are denies until now heeds party after steps (IsWaited.ends turns reading first are has did is) its =
      let begins = turns_are denies until heeds turns party after first are its in
      (subst Q (sym did) (along.both first (Notes (Read reading) ∷ []) begins.0 (along.notes (Read reading) tt)), begins.1)
  waited_are denies until now heeds party after steps (IsWaited.stops turns reading mid first last are on turned did is) its = cc

  sent_are : (party : Party) (ask : Ask) (since : ℕ) (steps : List MailStep) → IsSentAs party ask since steps → Q steps
  sent_are party ask since steps sent =
      subst Q (sym sent.are)
      (along.both (takes_segments sent.taken ∷ gives_segments _ ∷ []) (Notes (Read sent.now) ∷ _ ∷ []) (along.holds sent.taken _ refl)
      (behind_one (Notes (Read sent.now)) _ (along.notes (Read sent.now) tt) (along.posts 0 sent.frame _ sent.posted)))

  look_are : (steps : List MailStep) (taken given : SegsView) → steps ≡ takes_segments taken ∷ gives_segments given ∷ []
      → given.roster ≡ taken.roster → Q steps
  look_are steps taken given are roster = subst Q (sym are) (along.holds taken given roster)

  late_are : (denies : Denials) (party after : Party) (ask : Ask) (since : ℕ) (steps : List MailStep)
      → IsSettledLate denies count party after ask since steps
      → Is party.me → Q steps × Is after.me
  late_are denies party after ask since steps late its =
      let waits = waited_are denies _ late.now false party after late.waited late.waits its in (
        subst Q (sym late.are)
            (along.both late.waited _ waits.0
            (along.holds late.taken (after_settling ask since late.now late.taken) (settling_roster ask since late.now late.taken))),
        waits.1,
      )

  awaited_are : (denies : Denials) (party after : Party) (ask : Ask) (since : ℕ) (steps : List MailStep) (run : Option Run)
      → IsAwaitedBy denies count party after ask since steps run → Is party.me → Q steps × Is after.me
  awaited_are denies party after ask since steps run (IsAwaitedBy.finds now waited looked waits look are) its =
      let first = waited_are denies _ now true party after waited waits its in
      let looks = look_are looked look.taken _ look.are (claim_roster ask.from ask.number look.taken) in
      (subst Q (sym are) (along.both waited looked first.0 looks), first.1)
  awaited_are denies party after ask since steps run (IsAwaitedBy.settles mid now waited looked late waits look settles are) its =
      let first = waited_are denies _ now true party mid waited waits its in
      let last = late_are denies mid after ask since late settles first.1 in (
        subst Q (sym are)
            (along.both waited (looked ++ late) first.0
            (along.both looked late (look_are looked look.taken look.taken look.are refl) last.0)),
        last.1,
      )

  -- an ask, and a notice
  pub asks_are : (denies : Denials) (party after : Party) (asked : PagesAsked) (steps : List MailStep) (run : Option Run)
      → DoesAsk denies count party after asked steps run → Is party.me → Q steps × Is after.me
  asks_are denies party after asked steps run does its =
      let rest =
      awaited_are denies (after_alloc after.asked party) after
      (ask_of party.me after.asked asked) does.since does.rest run does.awaited its in (
        subst Q (sym does.are)
            (along.both does.sending does.rest
            (sent_are party (ask_of party.me after.asked asked) does.since does.sending does.sent) rest.0),
        rest.1,
      )

  pub notifies_are : (denies : Denials) (party after : Party) (heap : ℕ) (run : Run) (steps : List MailStep)
      → DoesNotify denies count party after heap run steps
      → Is party.me → Q steps × Is after.me
  notifies_are denies party after heap run steps does its =
      let rest = waited_are denies _ does.now true (after_free (party.asked + 1) party) after does.waited does.waits its in (
        subst Q (sym does.are)
            (behind_one _ (Notes (Read does.since) ∷ does.waited) (along.posts 0 does.frame _ does.posted)
            (behind_one (Notes (Read does.since)) does.waited (along.notes (Read does.since) tt) rest.0)),
        rest.1,
      )

  looks_first : (first rest : List Done) → list_any is_looked first ≡ true → list_any is_looked (first ++ rest) ≡ true
  looks_first first rest is = list_any-append is_looked first rest ∙ ap (λ (b : Bool). b || list_any is_looked rest) is

  looks_rest : (first rest : List Done) → list_any is_looked rest ≡ true → list_any is_looked (first ++ rest) ≡ true
  looks_rest first rest is =
      list_any-append is_looked first rest
      ∙ ap (λ (b : Bool). list_any is_looked first || b) is
      ∙ either_way (list_any is_looked first)

  -- all that a line does
  pub acts_are : (hand last : Option ℕ) (held : List ℕ) (doer after : ParticipantView) (trace : List Done) (steps : List MailStep)
      → Acts count hand last held doer after trace steps
      → (list_any is_looked trace ≡ true → May) → Is doer.party.me → Q steps × Is after.party.me
  acts_are _ _ _ doer after trace steps (Acts.nothing _ _) may its = (along.none, its)
  acts_are _ _ _ doer _ trace steps (Acts.waits_turn until _ after moved _ turned) may its =
      turned_are (denials_of doer.context.standing) until doer.party after steps moved turned its
  acts_are _ _ _ doer after trace steps (Acts.takes_heap _ heap pen few) may its = (along.takes_heap heap pen, its)
  acts_are _ _ _ doer after trace steps (Acts.gives_heap _ heap pen) may its =
      let given : List MailStep = Gives heap.plain.index (Heap heap pen) ∷ [] in
      let told : Note = Published heap.plain.index (pair_of heap) in
      (behind_one (Notes told) given (along.notes told tt) (along.gives_heap heap pen), its)
  acts_are _ _ _ doer after trace steps (Acts.makes_call _ heap call answer none) may its = (along.none, its)
  acts_are _ _ _ doer after trace steps (Acts.cuts_run _ heap addr run taken) may its = (along.holds taken _ refl, its)
  acts_are _ _ _ doer _ trace steps (Acts.asks_pages _ after asked run _ does) may its =
      asks_are (denials_of doer.context.standing) doer.party after asked steps run does its
  acts_are _ _ _ doer _ trace steps (Acts.notifies_run _ after heap run _ does) may its =
      notifies_are (denials_of doer.context.standing) doer.party after heap run steps does its
  acts_are _ _ _ doer _ trace steps (Acts.attaches _ after taken ended tries) may its =
      (along.attaches doer.party.me taken ended (may refl), subst Is (sym (ap (λ (party : Party). party.me) tries.after_is)) its)
  acts_are _ _ _ doer after trace steps (Acts.detaches _ taken told secondary left bare heard) may its =
      (along.leaves doer.party.me taken its, its)
  acts_are _ _ _ doer after trace steps (Acts.notes_left _ elements) may its = (along.none, its)
  acts_are _ _ _ doer after trace steps (Acts.reads_names _ names) may its =
      (behind_one (Takes NAMES_SLOT (Names names)) (Gives NAMES_SLOT (Names names) ∷ []) (along.takes_names names) (along.gives_names names), its)
  acts_are _ _ _ doer after trace steps (Acts.changes_names _ _ change) may its = (along.none, its)
  acts_are _ _ _ doer after trace steps (Acts.holds_names held _ _ taken given shown made inner changes) may its =
      let own = acts_are None None held doer after shown made inner may its in (
        behind_one (Takes NAMES_SLOT (Names taken)) (made ++ Gives NAMES_SLOT (Names given) ∷ []) (along.takes_names taken)
            (along.both made (Gives NAMES_SLOT (Names given) ∷ []) own.0 (along.gives_names given)),
        own.1,
      )
  acts_are _ _ _ doer after trace steps (Acts.sees_heap _ heap pen few) may its = (along.takes_heap heap pen, its)
  acts_are _ _ _ doer after trace steps (Acts.looks_at_segs _ heap taken) may its = (along.holds taken taken refl, its)
  acts_are _ _ _ doer after trace steps (Acts.plans_range _ heap addr len page taken) may its = (along.holds taken taken refl, its)
  acts_are _ _ _ doer after trace steps (Acts.claims _ heap chunk taken plan) may its = (along.holds taken _ refl, its)
  acts_are _ _ _ doer after trace steps (Acts.releases _ heap chunk taken) may its = (along.holds taken _ refl, its)
  acts_are _ _ _ doer after trace steps (Acts.maps_chunk _ heap chunk maps ended did) may its = (along.none, its)
  acts_are _ _ _ doer after trace steps (Acts.shares _ heap chunk same) may its = (along.none, its)
  acts_are _ _ _ doer after trace steps (Acts.leaves _ heap chunk maps did) may its = (along.none, its)
  acts_are _ _ _ doer after trace steps (Acts.looks_up_lines _ other lines) may its = (along.notes (LoadedDone other lines) tt, its)
  acts_are _ _ _ doer after trace steps (Acts.reads_stats _ heap pair) may its = (along.notes (ReadStats heap pair) tt, its)
  acts_are _ _ _ doer after trace steps (Acts.and_then hand between last held more _ mid _ first rest before behind here next) may its =
      let begins = acts_are hand between held doer mid first before here (λ looks. may (looks_first first rest looks)) its in
      let ends = acts_are between last more mid after rest behind next (λ looks. may (looks_rest first rest looks)) begins.1 in
      (along.both before behind begins.0 ends.0, ends.1)
