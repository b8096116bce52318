-- A participant's way is deeds of its own, of which the holds are those among its steps; so what all did between their holds comes together
-- to turns of all.
use Rattle.std.proofs.Common.{◌≡◌, ◌∙◌, ◌==◌, ℕ, ◌<◌, ◌≤◌, ⊎_elim, Bool, true, false, List, [], ◌∷◌, ◌++◌, cond, length, map, Option, Some, None, inl, inr, refl, ap, sym, subst, arith}
use Rattle.std.specs.Prelude.{slice_get}
use Rattle.std.specs.List.{All, filter}
use Rattle.std.proofs.lemmas.Bool.{cases_lt, eq-eqb}
use Rattle.std.proofs.lemmas.List.Elements.{All-cons, All-head, All-nil, All-tail}
use Rattle.std.proofs.lemmas.Option.{same_Some, slice_get_within}
use Rattle.hp_hall.specs.Mail.{Fetches, Gives, MailStep, Notes, Posts, Takes}
use Rattle.hp_hall.specs.declared.kept.Kept.TheVariants.{Heap, Names, Segments}
use Rattle.hp_hall.specs.declared.note.Note.{Note}
use Rattle.hp_segs.specs.SegsView.{SegsView}
use Rattle.hp_serve.specs.Serving.{gives_segments}
use Rattle.hp_weave.proofs.Interleaving.{together}
use Rattle.hp_weave.specs.Deeds.{Deed, Gathering, LeadTo, Turn, deeds_of, holds_in}
use Rattle.hp_weave.specs.Holds.{Hold}
use Rattle.hp_weave.specs.Laws.{GoApart}
use Rattle.thm_run.proofs.RunFacts.SoFarFacts.{at_place}
use Rattle.thm_run.specs.Apart.{CameTogether, ComeTogether, IsDeed, IsWayOf, WentApart, holds_from}
use Rattle.thm_run.specs.Seats.{IsOfHeapOrNames, Mails, SeatTrace, Seat}

-- WHAT IS NO HOLD OF THE SEGMENT VALUE

pub heap_skipped : (who : ℕ) (taken : Option SegsView) (step : MailStep) (steps : List MailStep) → IsOfHeapOrNames step
    → holds_from who taken (step ∷ steps) ≡ holds_from who taken steps
heap_skipped who None (Takes slot (Heap heap pen)) steps is = refl
heap_skipped who (Some taken) (Takes slot (Heap heap pen)) steps is = refl
heap_skipped who None (Gives slot (Heap heap pen)) steps is = refl
heap_skipped who (Some taken) (Gives slot (Heap heap pen)) steps is = refl
heap_skipped who taken (Takes slot (Segments segs)) steps is = absurd is
heap_skipped who taken (Gives slot (Segments segs)) steps is = absurd is
heap_skipped who None (Takes slot (Names names)) steps is = refl
heap_skipped who (Some taken) (Takes slot (Names names)) steps is = refl
heap_skipped who None (Gives slot (Names names)) steps is = refl
heap_skipped who (Some taken) (Gives slot (Names names)) steps is = refl
heap_skipped who taken (Posts to frame action posted) steps is = absurd is
heap_skipped who taken (Fetches frame) steps is = absurd is
heap_skipped who taken (Notes note) steps is = absurd is

pub mail_skipped : {who : ℕ} {old new : Seat} {step : MailStep} (steps : List MailStep) → Mails who old new step
    → holds_from who None (step ∷ steps) ≡ holds_from who None steps
mail_skipped steps (Mails.notes seat note) = refl
mail_skipped steps (Mails.finds_nothing seat) = refl
mail_skipped steps (Mails.fetches seat frame) = refl
mail_skipped steps (Mails.asks seat ask frame action posted its says) = refl
mail_skipped steps (Mails.tells seat heap run frame action posted says) = refl
mail_skipped steps (Mails.speaks seat to frame body action posted nothing says) = refl

pub notes_skipped : (who : ℕ) (taken : SegsView) (held : List Note) (steps : List MailStep)
    → holds_from who (Some taken) (map Notes held ++ steps) ≡ holds_from who (Some taken) steps
notes_skipped who taken [] steps = refl
notes_skipped who taken (note ∷ held) steps = notes_skipped who taken held steps

-- A WAY AS DEEDS

-- a participant went so by these deeds, and the holds among them are those among its steps
record IsByDeeds (count who : ℕ) (old new : Seat) (steps : List MailStep) : Type 0 where
  pub deeds : List (Deed Seat SegsView)
  pub leads : LeadTo old deeds new
  pub way : IsWayOf count who deeds steps
  pub each : All (IsDeed count who) deeds
  pub holds : holds_in who deeds ≡ holds_from who None steps

by_deeds : {count who : ℕ} {old new : Seat} {steps : List MailStep} → SeatTrace count who old new steps → IsByDeeds count who old new steps
by_deeds {count} {who} (SeatTrace.ends seat) =
    record { deeds = []; leads = refl; way = IsWayOf.ends; each = All-nil (IsDeed count who); holds = refl }
by_deeds {count} {who} (SeatTrace.quietly old mid new steps did path) =
    let rest = by_deeds path in
    record {
      deeds = Deed.Alone old mid ∷ rest.deeds;
      leads = (refl, rest.leads);
      way = IsWayOf.quietly old mid rest.deeds steps did rest.way;
      each = All-cons (IsDeed count who) (Deed.Alone old mid) rest.deeds (inl did) rest.each;
      holds = rest.holds;
    }
by_deeds {count} {who} (SeatTrace.holds old new step steps is path) =
    let rest = by_deeds path in
    record {
      deeds = rest.deeds;
      leads = rest.leads;
      way = IsWayOf.holds step rest.deeds steps is rest.way;
      each = rest.each;
      holds = rest.holds ∙ sym (heap_skipped who None step steps is);
    }
by_deeds {count} {who} (SeatTrace.mails old mid new step steps did path) =
    let rest = by_deeds path in
    record {
      deeds = Deed.Alone old mid ∷ rest.deeds;
      leads = (refl, rest.leads);
      way = IsWayOf.mails old mid step rest.deeds steps did rest.way;
      each = All-cons (IsDeed count who) (Deed.Alone old mid) rest.deeds (inr (step, did)) rest.each;
      holds = rest.holds ∙ sym (mail_skipped steps did);
    }
by_deeds {count} {who} (SeatTrace.handles old mid new taken given held steps did path) =
    let rest = by_deeds path in
    let hold : Hold SegsView = record { who = who; taken = taken; given = given } in
    record {
      deeds = Deed.Holding old mid taken given ∷ rest.deeds;
      leads = (refl, rest.leads);
      way = IsWayOf.handles old mid taken given held rest.deeds steps did rest.way;
      each = All-cons (IsDeed count who) (Deed.Holding old mid taken given) rest.deeds did rest.each;
      holds = ap (λ (holds : List (Hold SegsView)). hold ∷ holds) rest.holds
          ∙ sym (notes_skipped who taken held (gives_segments given ∷ steps));
    }

-- ALL TOGETHER

module _ (count : ℕ) (first last : Gathering Seat SegsView) (steps : ℕ → List MailStep) (holds : List (Hold SegsView))
    (went : WentApart count first last steps holds) where
  -- what one did, who is there or not
  record WasDone (who : ℕ) : Type 0 where
    pub deeds : List (Deed Seat SegsView)
    pub leads : (old new : Seat) → slice_get first.seats who ≡ Some old → slice_get last.seats who ≡ Some new → LeadTo old deeds new
    pub way : IsWayOf count who deeds (steps who)
    pub each : All (IsDeed count who) deeds
    pub none : length first.seats ≤ who → deeds ≡ []
    pub own : holds_in who deeds ≡ holds_from who None (steps who)

  one_there : (who : ℕ) → who < length first.seats → WasDone who
  one_there who below =
      let was = at_place first.seats who below in
      let now = at_place last.seats who (omega (arith, below, went.size)) in
      let by = by_deeds (went.ways who was.it now.it was.there now.there) in
      record {
        deeds = by.deeds;
        leads = λ old new there at.
            subst (λ (old : Seat). LeadTo old by.deeds new) (same_Some was.it old (sym was.there ∙ there))
            (subst (LeadTo was.it by.deeds) (same_Some now.it new (sym now.there ∙ at)) by.leads);
        way = by.way;
        each = by.each;
        none = λ beyond. absurd (omega (arith, beyond, below));
        own = by.holds;
      }

  nobody : (who : ℕ) → length first.seats ≤ who → WasDone who
  nobody who beyond = record {
    deeds = [];
    leads = λ old new there at. absurd (none_there first.seats who old beyond there);
    way = subst (IsWayOf count who []) (sym (went.nobody_else who beyond)) IsWayOf.ends;
    each = All-nil (IsDeed count who);
    none = λ beyond. refl;
    own = sym (ap (holds_from who None) (went.nobody_else who beyond));
  }
    where
      none_there : (seats : List Seat) (who : ℕ) (seat : Seat) → length seats ≤ who → slice_get seats who ≡ Some seat → ⊥
      none_there seats who seat beyond there = omega (arith, beyond, slice_get_within seats who seat there)

  done : (who : ℕ) → WasDone who
  done who = ⊎_elim (one_there who) (nobody who) (cases_lt who (length first.seats))

  abbrev deeds : ℕ → List (Deed Seat SegsView)
  deeds who = (done who).deeds

  apart : GoApart first last deeds holds
  apart = record {
    count = went.size;
    leads = λ who old new there at. (done who).leads old new there at;
    nobody_else = λ who beyond. (done who).none beyond;
    chain = went.chain;
    own = λ who. went.own who ∙ sym (done who).own;
  }

  -- each turn is a deed of its participant
  each_turn : (turns : List (Turn Seat SegsView)) → ((who : ℕ) → All (IsDeed count who) (deeds_of who turns))
      → All (λ turn. IsDeed count turn.who turn.deed) turns
  each_turn [] own = All-nil (λ (turn : Turn Seat SegsView). IsDeed count turn.who turn.deed)
  each_turn (turn ∷ turns) own =
      All-cons (λ (turn : Turn Seat SegsView). IsDeed count turn.who turn.deed) turn turns (first_own turn turns (own turn.who))
      (each_turn turns (λ who. rest_own who turn turns (own who)))
    where
      first_own : (turn : Turn Seat SegsView) (turns : List (Turn Seat SegsView)) → All (IsDeed count turn.who) (deeds_of turn.who (turn ∷ turns))
          → IsDeed count turn.who turn.deed
      first_own turn turns own =
          All-head (IsDeed count turn.who) turn.deed (deeds_of turn.who turns)
          (subst (λ (is : Bool). All (IsDeed count turn.who)
          (map (λ (turn : Turn Seat SegsView). turn.deed) (cond is (turn ∷ filter (λ (one : Turn Seat SegsView). one.who == turn.who) turns)
          (filter (λ (one : Turn Seat SegsView). one.who == turn.who) turns)))) (eq-eqb turn.who turn.who refl) own)

      rest_by : (who : ℕ) (turn : Turn Seat SegsView) (turns : List (Turn Seat SegsView)) (is : Bool)
          → All (IsDeed count who)
          (map (λ (turn : Turn Seat SegsView). turn.deed) (cond is (turn ∷ filter (λ (one : Turn Seat SegsView). one.who == who) turns)
          (filter (λ (one : Turn Seat SegsView). one.who == who) turns)))
          → All (IsDeed count who) (deeds_of who turns)
      rest_by who turn turns true own = All-tail (IsDeed count who) turn.deed (deeds_of who turns) own
      rest_by who turn turns false own = own

      rest_own : (who : ℕ) (turn : Turn Seat SegsView) (turns : List (Turn Seat SegsView)) → All (IsDeed count who) (deeds_of who (turn ∷ turns))
          → All (IsDeed count who) (deeds_of who turns)
      rest_own who turn turns own = rest_by who turn turns (turn.who == who) own

  pub came_together : CameTogether count first last steps holds
  came_together =
      let so = together holds first last deeds apart in
      record {
        turns = so.turns;
        runs = so.runs;
        own = λ who. subst (λ deeds. IsWayOf count who deeds (steps who)) (sym (so.own who)) (done who).way;
        deeds = each_turn so.turns (λ who. subst (All (IsDeed count who)) (sym (so.own who)) (done who).each);
        held = so.held;
      }

-- of all that went apart
pub come_together : ComeTogether
come_together count first last steps holds went = came_together count first last steps holds went
