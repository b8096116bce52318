-- An ask in its participant's own holds: it is armed with it in the first one, by a number above all that are closed for it then, and stays
-- so in the others, of which the last one has a grant or a refusal of it.
use Rattle.std.proofs.Common.{◌≡◌, ◌∙◌, ℕ, ◌+◌, ◌<◌, ◌==◌, ◌&&◌, ◌||◌, Bool, true, false, List, [], ◌∷◌, ◌++◌, Option, None, Some, refl, ap, sym, subst, append-nil, append_assoc, arith, eq-eqb}
use Rattle.std.specs.List.{All, list_any}
use Rattle.std.specs.Prelude.{length, slice_index_or, slice_set}
use Rattle.std.proofs.lemmas.Bool.{and_from}
use Rattle.std.proofs.lemmas.List.{get_or-set_same}
use Rattle.std.proofs.lemmas.List.Elements.{All-append, All-cons, All-head, All-nil, All-tail}
use Rattle.std.proofs.lemmas.List.Folds.{list_any-append}
use Rattle.hp_base.specs.declared.limits.TheConstants.{MAX_PARTICIPANTS}
use Rattle.hp_base.specs.declared.row.Run.{Run}
use Rattle.hp_hall.specs.Mail.{MailStep}
use Rattle.hp_heap.proofs.AllocFacts.ChoiceLaw.{Contains-here}
use Rattle.hp_segs.specs.GrowthLaws.{HasArmedGrowth}
use Rattle.hp_segs.specs.LaterSteps.{after_arm, after_withdraw, armed_ask}
use Rattle.hp_segs.specs.SegsView.{SegsView, closed_number, grant_or_refusal_of, grants_or_refuses, is_grant_or_refusal}
use Rattle.hp_segs.specs.Steps.{after_claim}
use Rattle.hp_segs.specs.declared.ask.Ask.{Ask}
use Rattle.hp_segs.specs.declared.outcome.AskLog.{AskLog}
use Rattle.hp_segs.specs.declared.outcome.Outcome.{Outcome}
use Rattle.hp_serve.proofs.AskingFacts.AskLooks.{any_of_found, grant_or_refusal_stands}
use Rattle.hp_serve.proofs.AskingFacts.AskWithdrawn.{is_refused_last, stands_as_it_was}
use Rattle.hp_serve.specs.AskSteps.{DoesAsk, IsAwaitedBy, IsSettledLate, waits_until}
use Rattle.hp_serve.specs.Asking.{after_settling, ask_of}
use Rattle.hp_proc.specs.Denying.{denials_of}
use Rattle.hp_serve.specs.Party.{Party, after_alloc}
use Rattle.hp_serve.specs.Waiting.{IsWaited}
use Rattle.hp_serve.specs.declared.pages_asked.PagesAsked.{PagesAsked}
use Rattle.hp_proc.specs.Outcomes.{IsAnsweredSo}
use Rattle.hp_proc.specs.Doing.{Done}
use Rattle.hp_proc.specs.Doing.Done.{Asked, Called, CaughtUp, ChunkMapped, GaveUp, HeapSeen, Looked, NamesChanged, NamesRead, RangePlanned, StatsRead}
use Rattle.hp_weave.specs.Holds.{Hold}
use Rattle.thm_run.proofs.InTurnByHolds.HoldsOfPaths.{AsksNone, done_in_holds, holds_then, none_at_all, rest_none}
use Rattle.thm_run.proofs.Leaving.{claim_leaves, withdraw_leaves}
use Rattle.thm_run.proofs.PathSteps.PathsWaiting.{wait_path}
use Rattle.thm_run.specs.Apart.{holds_from}
use Rattle.thm_run.specs.OwnHolds.{DoesInHolds, NoneGrows, StaysArmed}
use Rattle.thm_run.specs.OwnLines.{IsOfGood}
use Rattle.thm_run.specs.Seats.{Seat}

-- where nothing was asked for, all holds leave it armed as before
pub all_stay : {who number : ℕ} {trace : List Done} {holds : List (Hold SegsView)} → DoesInHolds who number trace holds → AsksNone trace
    → All (StaysArmed who) holds
all_stay {who} (DoesInHolds.ends number) none = All-nil (StaysArmed who)
all_stay {who} (DoesInHolds.passes number trace hold holds stays does) none =
    All-cons (StaysArmed who) hold holds stays (all_stay does none)
all_stay {who} (DoesInHolds.looks number trace hold holds stays does) none =
    All-cons (StaysArmed who) hold holds stays (all_stay does (rest_none (Looked (length hold.taken.log) ∷ []) trace none))
all_stay (DoesInHolds.asks number asked run trace arming between hearing holds its stays does) none =
    absurd (none asked run (Contains-here (Asked asked run) trace))
all_stay (DoesInHolds.gives_up number heap run trace holds does) none =
    all_stay does (rest_none (GaveUp heap run ∷ []) trace none)
all_stay (DoesInHolds.calls number heap call answer trace holds does) none =
    all_stay does (rest_none (Called heap call answer ∷ []) trace none)
all_stay (DoesInHolds.reads_names number names trace holds does) none =
    all_stay does (rest_none (NamesRead names ∷ []) trace none)
all_stay (DoesInHolds.reads_stats number heap counted trace holds does) none =
    all_stay does (rest_none (StatsRead heap counted ∷ []) trace none)
all_stay (DoesInHolds.changes_names number change trace holds does) none =
    all_stay does (rest_none (NamesChanged change ∷ []) trace none)
all_stay (DoesInHolds.sees_heap number heap history trace holds does) none =
    all_stay does (rest_none (HeapSeen heap history ∷ []) trace none)
all_stay (DoesInHolds.plans_range number addr len page plan trace holds does) none =
    all_stay does (rest_none (RangePlanned addr len page plan ∷ []) trace none)
all_stay (DoesInHolds.maps_chunk number chunk ended trace holds does) none =
    all_stay does (rest_none (ChunkMapped chunk ended ∷ []) trace none)
all_stay (DoesInHolds.catches_up number to caught trace holds does) none =
    all_stay does (rest_none (CaughtUp to caught ∷ []) trace none)

-- each of these holds takes the value with its growth of an armed ask
abbrev pub TakeArmed : List (Hold SegsView) → Type 0
TakeArmed holds = All (λ (hold : Hold SegsView). HasArmedGrowth hold.taken) holds

pub all_front : {X : Type 0} (P : X → Type 0) (first last : List X) → All P (first ++ last) → All P first
all_front P [] last all = All-nil P
all_front P (x ∷ first) last all =
    All-cons P x first (All-head P x (first ++ last) all) (all_front P first last (All-tail P x (first ++ last) all))

pub all_last : {X : Type 0} (P : X → Type 0) (first last : List X) → All P (first ++ last) → All P last
all_last P [] last all = all
all_last P (x ∷ first) last all = all_last P first last (All-tail P x (first ++ last) all)

pub armed_front : (first last : List (Hold SegsView)) → TakeArmed (first ++ last) → TakeArmed first
armed_front first last armed = all_front (λ (hold : Hold SegsView). HasArmedGrowth hold.taken) first last armed

armed_last : (first last : List (Hold SegsView)) → TakeArmed (first ++ last) → TakeArmed last
armed_last first last armed = all_last (λ (hold : Hold SegsView). HasArmedGrowth hold.taken) first last armed

-- so it is with holds of good values
pub armed_good : (holds : List (Hold SegsView)) → All IsOfGood holds → TakeArmed holds
armed_good holds good = λ k d within. (good k d within).taken

-- the holds of an ask
pub record IsAskedInHolds (who number : ℕ) (asked : PagesAsked) (holds : List (Hold SegsView)) : Type 0 where
  pub arming : Hold SegsView
  pub between : List (Hold SegsView)
  pub hearing : Hold SegsView
  pub are : holds ≡ arming ∷ (between ++ hearing ∷ [])
  pub its : armed_ask arming.given who ≡ Some (ask_of who number asked)
  pub fresh : closed_number arming.given.asks who < number
  pub growth : arming.given.growth ≡ arming.taken.growth
  pub stays : All (StaysArmed who) (between ++ hearing ∷ [])
  pub heard : list_any (grants_or_refuses who number) hearing.given.asks ≡ true

-- those in which it is awaited
record AreAwaitedIn (who : ℕ) (ask : Ask) (holds : List (Hold SegsView)) : Type 0 where
  pub between : List (Hold SegsView)
  pub hearing : Hold SegsView
  pub are : holds ≡ between ++ hearing ∷ []
  pub stays : All (StaysArmed who) (between ++ hearing ∷ [])
  pub heard : list_any (grants_or_refuses ask.from ask.number) hearing.given.asks ≡ true

-- WHAT IS HEARD

either_true : (first second : Bool) → second ≡ true → (first || second) ≡ true
either_true true second is = refl
either_true false second is = is

-- an outcome after the others
any_last : (from number : ℕ) (asks new : List AskLog) (entry : AskLog) → new ≡ asks ++ entry ∷ [] → grants_or_refuses from number entry ≡ true
    → list_any (grants_or_refuses from number) new ≡ true
any_last from number asks new entry are passes =
    let last : list_any (grants_or_refuses from number) (entry ∷ []) ≡ true =
    ap (λ (passes : Bool). passes || false) passes in
    ap (list_any (grants_or_refuses from number)) are
    ∙ (list_any-append (grants_or_refuses from number) asks (entry ∷ [])
    ∙ either_true (list_any (grants_or_refuses from number) asks) (list_any (grants_or_refuses from number) (entry ∷ [])) last)

-- an ask that is taken back has its answer, or is refused by that
withdrawn_by : (ask : Ask) (since now : ℕ) (segs : SegsView) (found : Option Outcome)
    → grant_or_refusal_of segs.asks ask.from ask.number ≡ found
    → list_any (grants_or_refuses ask.from ask.number) (after_withdraw ask.from ask.number since now segs).asks ≡ true
withdrawn_by ask since now segs (Some outcome) is =
    let stands = grant_or_refusal_stands segs.asks ask.from ask.number outcome is in
    ap (λ (value : SegsView). list_any (grants_or_refuses ask.from ask.number) value.asks)
    (stands_as_it_was segs ask.from ask.number since now outcome is)
    ∙ any_of_found (grants_or_refuses ask.from ask.number) segs.asks stands.entry stands.found
withdrawn_by ask since now segs None none =
    let last = is_refused_last segs ask.from ask.number since now none in
    any_last ask.from ask.number segs.asks (after_withdraw ask.from ask.number since now segs).asks last.entry last.asks
    (and_from (last.entry.from == ask.from) ((last.entry.number == ask.number) && is_grant_or_refusal last.entry.outcome)
    (eq-eqb last.entry.from ask.from last.who)
    (and_from (last.entry.number == ask.number) (is_grant_or_refusal last.entry.outcome)
    (eq-eqb last.entry.number ask.number last.which) (ap is_grant_or_refusal last.refused)))

settled_heard : (ask : Ask) (since now : ℕ) (segs : SegsView)
    → list_any (grants_or_refuses ask.from ask.number) (after_settling ask since now segs).asks ≡ true
settled_heard ask since now segs =
    ap (list_any (grants_or_refuses ask.from ask.number))
    (claim_leaves ask.from ask.number (after_withdraw ask.from ask.number since now segs)).asks
    ∙ withdrawn_by ask since now segs (grant_or_refusal_of segs.asks ask.from ask.number) refl

claimed_heard : (ask : Ask) (segs : SegsView) → list_any (grants_or_refuses ask.from ask.number) segs.asks ≡ true
    → list_any (grants_or_refuses ask.from ask.number) (after_claim ask.from ask.number segs).asks ≡ true
claimed_heard ask segs found =
    ap (list_any (grants_or_refuses ask.from ask.number)) (claim_leaves ask.from ask.number segs).asks ∙ found

-- IN WHICH HOLDS

module _ (count who : ℕ) (seat : Seat) where
  abbrev held : SegsView → SegsView → Hold SegsView
  held taken given = record { who = who; taken = taken; given = given }

  -- while it waits it stays armed as before; and its holds come before those of what follows
  record IsWaitIn (steps : List MailStep) : Type 0 where
    pub stays : TakeArmed (holds_from who None steps) → All (StaysArmed who) (holds_from who None steps)
    pub before : (more : List MailStep) → holds_from who None (steps ++ more) ≡ holds_from who None steps ++ holds_from who None more

  waited_in : (until now : ℕ) (heeds : Bool) (party after : Party) (steps : List MailStep)
      → IsWaited (denials_of seat.standing) count until heeds party after steps (Some now) → party.me ≡ who → IsWaitIn steps
  waited_in until now heeds party after steps waits me =
      let serves = wait_path count who seat.standing until now heeds party after steps waits me seat refl in
      record {
        stays = λ armed.
            all_stay
            (done_in_holds [] 0 serves.path armed (serves.trace ∙ sym (append-nil seat.trace)) none_at_all) none_at_all;
        before = λ more. holds_then more serves.path;
      }

  waited_me : (until now : ℕ) (heeds : Bool) (party after : Party) (steps : List MailStep)
      → IsWaited (denials_of seat.standing) count until heeds party after steps (Some now) → party.me ≡ who → after.me ≡ who
  waited_me until now heeds party after steps waits me =
      (wait_path count who seat.standing until now heeds party after steps waits me seat refl).me ∙ me

  claim_stays : (ask : Ask) (taken : SegsView) → StaysArmed who (held taken (after_claim ask.from ask.number taken))
  claim_stays ask taken = ap (λ armed. slice_index_or armed who None) (claim_leaves ask.from ask.number taken).armed

  settle_stays : (ask : Ask) (since now : ℕ) (taken : SegsView) → StaysArmed who (held taken (after_settling ask since now taken))
  settle_stays ask since now taken =
      ap (λ armed. slice_index_or armed who None)
      ((claim_leaves ask.from ask.number (after_withdraw ask.from ask.number since now taken)).armed
      ∙ (withdraw_leaves taken ask.from ask.number since now).armed)

  -- a wait, and then one hold
  wait_and_hold : (ask : Ask) (waited steps last : List MailStep) (hold : Hold SegsView) → IsWaitIn waited → steps ≡ waited ++ last
      → holds_from who None last ≡ hold ∷ [] → StaysArmed who hold
      → list_any (grants_or_refuses ask.from ask.number) hold.given.asks ≡ true → TakeArmed (holds_from who None steps)
      → AreAwaitedIn who ask (holds_from who None steps)
  wait_and_hold ask waited steps last hold wait are one stays heard armed =
      let first : List (Hold SegsView) = holds_from who None waited in
      let all : holds_from who None steps ≡ first ++ hold ∷ [] =
      ap (holds_from who None) are ∙ (wait.before last ∙ ap (λ (holds : List (Hold SegsView)). first ++ holds) one) in
      record {
        between = first;
        hearing = hold;
        are = all;
        stays = All-append (StaysArmed who) first (hold ∷ [])
            (wait.stays (armed_front first (hold ∷ []) (subst TakeArmed all armed)))
            (All-cons (StaysArmed who) hold [] stays (All-nil (StaysArmed who)));
        heard = heard;
      }

  -- a wait, a look that finds nothing, and then more
  wait_and_look : (ask : Ask) (waited steps looked late : List MailStep) (look : Hold SegsView) → IsWaitIn waited
      → steps ≡ waited ++ (looked ++ late)
      → ((more : List MailStep) → holds_from who None (looked ++ more) ≡ look ∷ holds_from who None more) → StaysArmed who look
      → TakeArmed (holds_from who None steps)
      → (TakeArmed (holds_from who None late) → AreAwaitedIn who ask (holds_from who None late))
      → AreAwaitedIn who ask (holds_from who None steps)
  wait_and_look ask waited steps looked late look wait are one stays armed further =
      let first : List (Hold SegsView) = holds_from who None waited in
      let last : List (Hold SegsView) = holds_from who None late in
      let all : holds_from who None steps ≡ first ++ look ∷ last =
      ap (holds_from who None) are
      ∙ (wait.before (looked ++ late) ∙ ap (λ (holds : List (Hold SegsView)). first ++ holds) (one late)) in
      let both : TakeArmed (first ++ look ∷ last) = subst TakeArmed all armed in
      let awaited = further
      (All-tail (λ (hold : Hold SegsView). HasArmedGrowth hold.taken) look last
      (armed_last first (look ∷ last) both)) in
      record {
        between = first ++ look ∷ awaited.between;
        hearing = awaited.hearing;
        are = all ∙ (ap (λ (holds : List (Hold SegsView)). first ++ look ∷ holds) awaited.are
            ∙ sym (append_assoc first (look ∷ awaited.between) (awaited.hearing ∷ [])));
        stays = subst (All (StaysArmed who)) (sym (append_assoc first (look ∷ awaited.between) (awaited.hearing ∷ [])))
            (All-append (StaysArmed who) first (look ∷ (awaited.between ++ awaited.hearing ∷ []))
            (wait.stays (armed_front first (look ∷ last) both))
            (All-cons (StaysArmed who) look (awaited.between ++ awaited.hearing ∷ []) stays awaited.stays));
        heard = awaited.heard;
      }

  settled_in : (party after : Party) (ask : Ask) (since : ℕ) (steps : List MailStep) → party.me ≡ who
      → IsSettledLate (denials_of seat.standing) count party after ask since steps → TakeArmed (holds_from who None steps)
      → AreAwaitedIn who ask (holds_from who None steps)
  settled_in party after ask since steps me late armed =
      wait_and_hold ask late.waited steps _ (held late.taken (after_settling ask since late.now late.taken))
      (waited_in (waits_until since party.deadline) late.now false party after late.waited late.waits me) late.are refl
      (settle_stays ask since late.now late.taken) (settled_heard ask since late.now late.taken) armed

  awaited_in : (party after : Party) (ask : Ask) (since : ℕ) (steps : List MailStep) (run : Option Run) → party.me ≡ who
      → IsAwaitedBy (denials_of seat.standing) count party after ask since steps run → TakeArmed (holds_from who None steps)
      → AreAwaitedIn who ask (holds_from who None steps)
  awaited_in party after ask since steps run me (IsAwaitedBy.finds now waited looked waits look did) armed =
      wait_and_hold ask waited steps looked (held look.taken (after_claim ask.from ask.number look.taken))
      (waited_in (waits_until since party.deadline) now true party after waited waits me) did (ap (holds_from who None) look.are)
      (claim_stays ask look.taken) (claimed_heard ask look.taken look.found) armed
  awaited_in party after ask since steps run me (IsAwaitedBy.settles mid now waited looked late waits look settled did) armed =
      wait_and_look ask waited steps looked late (held look.taken look.taken)
      (waited_in (waits_until since party.deadline) now true party mid waited waits me) did
      (λ more. ap (λ (looked : List MailStep). holds_from who None (looked ++ more)) look.are) refl armed
      (settled_in mid after ask since late (waited_me (waits_until since party.deadline) now true party mid waited waits me) settled)

  -- the whole ask
  pub asked_in : (party after : Party) (asked : PagesAsked) (steps : List MailStep) (run : Option Run) → party.me ≡ who
      → DoesAsk (denials_of seat.standing) count party after asked steps run → who < MAX_PARTICIPANTS
      → All IsOfGood (holds_from who None steps)
      → IsAskedInHolds who after.asked asked (holds_from who None steps)
  asked_in party after asked steps run me does few good =
      let sent = does.sent in
      let ask : Ask = ask_of party.me after.asked asked in
      let arming : Hold SegsView = held sent.taken (after_arm ask sent.taken) in
      let all : holds_from who None steps ≡ arming ∷ holds_from who None does.rest =
      ap (holds_from who None) does.are ∙ ap (λ (sending : List MailStep). holds_from who None (sending ++ does.rest)) sent.are in
      let rest : List (Hold SegsView) = holds_from who None does.rest in
      let both : All IsOfGood (arming ∷ rest) = subst (All IsOfGood) all good in
      let below : who < 16 = few in
      let within : who < length sent.taken.armed =
      omega (arith, (All-head IsOfGood arming rest both).sound.places.armed_places, below) in
      let awaited =
      awaited_in (after_alloc after.asked party) after ask does.since does.rest run me does.awaited
      (armed_good rest (All-tail IsOfGood arming rest both)) in
      record {
        arming = arming;
        between = awaited.between;
        hearing = awaited.hearing;
        are = all ∙ ap (λ (holds : List (Hold SegsView)). arming ∷ holds) awaited.are;
        its = ap (λ (armed : List (Option Ask)). slice_index_or armed who None)
            (ap (λ (from : ℕ). slice_set sent.taken.armed from (Some (ask_of from after.asked asked))) me)
            ∙ get_or-set_same sent.taken.armed who (Some (ask_of who after.asked asked)) None within;
        fresh = omega (arith, sent.number, ap (λ (from : ℕ). closed_number sent.taken.asks from) me);
        growth = refl;
        stays = awaited.stays;
        heard = ap (λ (from : ℕ). list_any (grants_or_refuses from after.asked) awaited.hearing.given.asks) (sym me) ∙ awaited.heard;
      }

-- so it is one of what is done in holds, where the last one shows its answer, and no growth is open for its heap in the first and the last
pub ask_in_holds : {who number : ℕ} {asked : PagesAsked} {holds : List (Hold SegsView)} (run : Option Run)
    (is : IsAskedInHolds who number asked holds) → NoneGrows asked.heap is.arming.given
    → IsAnsweredSo is.hearing.given.log is.hearing.given.asks who number asked run → NoneGrows asked.heap is.hearing.given
    → DoesInHolds who number (Asked asked run ∷ []) holds
ask_in_holds {who} {number} {asked} {holds} run is before answer after =
    subst (DoesInHolds who number (Asked asked run ∷ [])) (sym is.are)
    (DoesInHolds.asks number asked run [] is.arming is.between is.hearing []
    (record { its = is.its; fresh = is.fresh; before = before; answer = answer; after = after }) is.stays (DoesInHolds.ends (number + 1)))
