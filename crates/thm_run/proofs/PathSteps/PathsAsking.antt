-- What a participant does that asks for pages, or tells that it gave some up, is a path.
use Rattle.std.proofs.Common.{◌≡◌, ◌∙◌, ℕ, ◌+◌, ◌*◌, ◌^◌, ◌≤◌, true, false, List, [], ◌∷◌, ◌++◌, Option, Some, refl, sym, ap, subst, arith}
use Rattle.std.specs.Prelude.{min}
use Rattle.std.proofs.lemmas.List.{append-nil, append_assoc}
use Rattle.hp_base.specs.declared.limits.TheConstants.{MAX_READING}
use Rattle.hp_base.specs.declared.row.Run.{Run}
use Rattle.hp_hall.specs.Mail.{MailStep, Notes}
use Rattle.hp_hall.specs.declared.note.Note.TheVariants.{Read}
use Rattle.hp_segs.specs.LaterSteps.{after_arm, after_withdraw}
use Rattle.hp_segs.specs.SegsView.{SegsView}
use Rattle.hp_segs.specs.Steps.{after_claim}
use Rattle.hp_segs.specs.declared.ask.Ask.{Ask}
use Rattle.hp_proc.specs.Courses.{Standing}
use Rattle.hp_proc.specs.Denying.{denials_of}
use Rattle.hp_serve.specs.AskSteps.{DoesAsk, DoesNotify, IsAwaitedBy, IsSentAs, IsSettledLate, waits_until}
use Rattle.hp_serve.specs.Asking.{after_settling, alloc_body, free_body, next_number}
use Rattle.hp_proc.specs.Doing.{Done}
use Rattle.hp_proc.specs.Doing.Done.{Asked, GaveUp}
use Rattle.hp_serve.specs.Frames.{Says}
use Rattle.hp_serve.specs.Asking.{ask_of}
use Rattle.hp_serve.specs.Party.{Party, after_alloc, after_free}
use Rattle.hp_serve.specs.Serving.{gives_segments, takes_segments}
use Rattle.hp_serve.specs.declared.pages_asked.PagesAsked.{PagesAsked}
use Rattle.hp_serve.proofs.Waits.{waited_past}
use Rattle.thm_run.specs.Seats.{Handles, Mails, SeatTrace, Quietly, Seat, numbered_on, seated}
use Rattle.thm_run.proofs.PathSteps.Paths.{Serves, ServesFrom, ServesWith, path_by, path_handle, path_mail, path_notes, path_quietly, path_then, serves_noted, serves_then, serves_to}
use Rattle.thm_run.proofs.PathSteps.PathsWaiting.{wait_path}

-- the greatest deadline of a workload, in milliseconds: an hour
abbrev pub longest : ℕ
longest = 3600000

-- it comes from one to the other with that more in its trace: its number and its deadline stay
pub record Acted (count who : ℕ) (party after : Party) (more : List Done) (steps : List MailStep) (seat : Seat) : Type 0 where
  pub behind : Seat
  pub me : after.me ≡ party.me
  pub deadline : after.deadline ≡ party.deadline
  pub standing : behind.standing ≡ seat.standing
  pub lines : behind.lines ≡ seat.lines
  pub trace : behind.trace ≡ seat.trace ++ more
  pub path : SeatTrace count who (seated party seat) (seated after behind) steps

-- the segment value that was given back is the same under another name
pub exchanged : (taken one other : SegsView) (more : List MailStep) → one ≡ other
    → takes_segments taken ∷ gives_segments one ∷ more ≡ takes_segments taken ∷ gives_segments other ∷ more
exchanged taken one other more is = ap (λ (given : SegsView). takes_segments taken ∷ gives_segments given ∷ more) is

module _ (count who : ℕ) where
  -- what adds nothing to the trace
  pub acted_by : (party after : Party) (steps : List MailStep) (seat : Seat) → Serves count who party after steps seat
      → Acted count who party after [] steps seat
  acted_by party after steps seat serves = record {
    behind = serves.behind;
    me = serves.me;
    deadline = serves.deadline;
    standing = serves.standing;
    lines = serves.lines;
    trace = serves.trace ∙ sym (append-nil seat.trace);
    path = serves.path;
  }

  -- one after the other
  pub acted_then : (party mid after : Party) (more rest : List Done) (first last : List MailStep) (seat : Seat)
      (here : Acted count who party mid more first seat) → Acted count who mid after rest last here.behind
      → Acted count who party after (more ++ rest) (first ++ last) seat
  acted_then party mid after more rest first last seat here next = record {
    behind = next.behind;
    me = next.me ∙ here.me;
    deadline = next.deadline ∙ here.deadline;
    standing = next.standing ∙ here.standing;
    lines = next.lines ∙ here.lines;
    trace = next.trace ∙ ap (λ (trace : List Done). trace ++ rest) here.trace ∙ append_assoc seat.trace more rest;
    path = path_then count who (seated party seat) (seated mid here.behind) (seated after next.behind) first last here.path next.path;
  }

  -- and then it serves
  pub acted_on : (party mid after : Party) (more : List Done) (first last steps : List MailStep) (seat : Seat) → steps ≡ first ++ last
      → (here : Acted count who party mid more first seat) → Serves count who mid after last here.behind
      → Acted count who party after more steps seat
  acted_on party mid after more first last steps seat did here next = record {
    behind = next.behind;
    me = next.me ∙ here.me;
    deadline = next.deadline ∙ here.deadline;
    standing = next.standing ∙ here.standing;
    lines = next.lines ∙ here.lines;
    trace = next.trace ∙ here.trace;
    path = path_by count who (seated party seat) (seated after next.behind) (first ++ last) steps did
        (path_then count who (seated party seat) (seated mid here.behind) (seated after next.behind) first last here.path next.path);
  }

  -- AN ASK

  -- it is armed and posts its ask
  sent_path : (party : Party) (asked : PagesAsked) (number since : ℕ) (run : Option Run) (steps : List MailStep) → party.me ≡ who
      → IsSentAs party (ask_of party.me number asked) since steps → (seat : Seat)
      → Acted count who party (after_alloc number party) (Asked asked run ∷ []) steps seat
  sent_path party asked number since run steps me sent seat =
      let ask : Ask = ask_of who number asked in
      let mid : Party = numbered_on number party in
      let new : Party = after_alloc number party in
      let behind : Seat = record seat { trace = seat.trace ++ Asked asked run ∷ []; asking = Some ask } in
      let number_is : number ≡ next_number party.asked sent.taken.asks who =
      sent.number ∙ ap (next_number party.asked sent.taken.asks) me in
      let says : Says sent.frame (alloc_body ask) =
      subst (λ (from : ℕ). Says sent.frame (alloc_body (ask_of from number asked))) me sent.says in
      let arms =
      path_handle count who (seated party seat) (seated mid behind) sent.taken (after_arm ask sent.taken)
      (Handles.arms (seated party seat) sent.taken asked run number number_is) in
      let posts =
      path_mail count who (seated mid behind) (seated mid behind) _
      (Mails.asks (seated mid behind) ask sent.frame _ sent.posted refl says) in
      let reads = path_notes count who (seated mid behind) (Read sent.now ∷ []) in
      let did =
      sent.are
      ∙ exchanged sent.taken (after_arm (ask_of party.me number asked) sent.taken) (after_arm ask sent.taken) _
      (ap (λ (from : ℕ). after_arm (ask_of from number asked) sent.taken) me) in
      record {
        behind = behind;
        me = refl;
        deadline = refl;
        standing = refl;
        lines = refl;
        trace = refl;
        path = path_by count who (seated party seat) (seated new behind) _ steps did
            (path_quietly count who (seated party seat) (seated mid behind) (seated new behind) _
            (path_then count who (seated party seat) (seated mid behind) (seated mid behind) _ _ arms
            (path_then count who (seated mid behind) (seated mid behind) (seated mid behind) _ _ reads posts))
            (Quietly.counts (seated mid behind) new.sent));
      }

module _ (count who : ℕ) (ask : Ask) (party : Party) (from : ask.from ≡ who) (number : ask.number ≡ party.asked) where
  claim_is : (segs : SegsView) → after_claim ask.from ask.number segs ≡ after_claim who party.asked segs
  claim_is segs = ap (λ (n : ℕ). after_claim n ask.number segs) from ∙ ap (λ (n : ℕ). after_claim who n segs) number

  -- it made that of the segment value, and of nothing else
  handled_only : (taken one other : SegsView) (steps : List MailStep) → steps ≡ takes_segments taken ∷ gives_segments one ∷ []
      → one ≡ other → (seat : Seat) → Handles count who (seated party seat) (seated party seat) taken other
      → Serves count who party party steps seat
  handled_only taken one other steps are is seat handles =
      serves_to count who party party party _ steps seat refl (are ∙ exchanged taken one other [] is)
      (record {
        behind = seat;
        me = refl;
        deadline = refl;
        asked = refl;
        standing = refl;
        lines = refl;
        trace = refl;
        path = path_handle count who (seated party seat) (seated party seat) taken other handles;
      })

  -- a look that finds the answer
  claim_path : (taken : SegsView) (steps : List MailStep)
      → steps ≡ takes_segments taken ∷ gives_segments (after_claim ask.from ask.number taken) ∷ [] → ServesFrom count who party party steps
  claim_path taken steps are seat =
      handled_only taken _ (after_claim who party.asked taken) steps are (claim_is taken) seat (Handles.claims (seated party seat) taken)

  -- a look that finds nothing
  look_path : (taken : SegsView) (steps : List MailStep) → steps ≡ takes_segments taken ∷ gives_segments taken ∷ []
      → ServesFrom count who party party steps
  look_path taken steps are seat = handled_only taken taken taken steps are refl seat (Handles.looks (seated party seat) taken)

  -- what it does once its deadlines have passed
  settle_path : (since now : ℕ) (taken : SegsView) (steps : List MailStep) → since + 3 * party.deadline ≤ now
      → steps ≡ takes_segments taken ∷ gives_segments (after_settling ask since now taken) ∷ [] → ServesFrom count who party party steps
  settle_path since now taken steps late are seat =
      let is : after_settling ask since now taken ≡ after_claim who party.asked (after_withdraw who party.asked since now taken) =
      claim_is (after_withdraw ask.from ask.number since now taken)
      ∙ ap (λ (n : ℕ). after_claim who party.asked (after_withdraw n ask.number since now taken)) from
      ∙ ap (λ (n : ℕ). after_claim who party.asked (after_withdraw who n since now taken)) number in
      handled_only taken _ _ steps are is seat (Handles.settles (seated party seat) taken since now late)

-- the reading from which it waits is none of the last half of the clock's type
early_by : (since now : ℕ) → since ≡ min now MAX_READING → since ≤ 2 ^ 63
early_by since now is = omega (arith, is)

-- its deadlines have passed
late_by : (since deadline now : ℕ) → since ≤ 2 ^ 63 → deadline ≤ longest → waits_until since deadline ≤ now → since + 3 * deadline ≤ now
late_by since deadline now early long late = omega (arith, early, long, late)

-- by a judge that denies by what its lines left
module _ (count who : ℕ) (left : Standing) (ask : Ask) (since : ℕ) (from : ask.from ≡ who) (early : since ≤ 2 ^ 63) where
  settled_late : (party after : Party) (steps : List MailStep) → party.me ≡ who → ask.number ≡ party.asked → party.deadline ≤ longest
      → IsSettledLate (denials_of left) count party after ask since steps → ServesWith left count who party after steps
  settled_late party after steps me number long settled seat same =
      let until : ℕ = waits_until since party.deadline in
      let waits = wait_path count who left until settled.now false party after settled.waited settled.waits me seat same in
      let past = waited_past count until party after settled.waited settled.now settled.waits in
      let late = late_by since party.deadline settled.now early long past in
      serves_to count who party after after (settled.waited ++ _) steps seat refl settled.are
      (serves_then count who party after after settled.waited _ seat waits
      (settle_path count who ask after from (number ∙ sym waits.asked) since settled.now settled.taken _
      (omega (arith, late, waits.deadline)) refl waits.behind))

  awaited_path : (party after : Party) (steps : List MailStep) (run : Option Run) → party.me ≡ who → ask.number ≡ party.asked
      → party.deadline ≤ longest → IsAwaitedBy (denials_of left) count party after ask since steps run
      → ServesWith left count who party after steps
  awaited_path party after steps run me number long (IsAwaitedBy.finds now waited looked waits look did) seat same =
      let here = wait_path count who left (waits_until since party.deadline) now true party after waited waits me seat same in
      serves_to count who party after after (waited ++ looked) steps seat refl did
      (serves_then count who party after after waited looked seat here
      (claim_path count who ask after from (number ∙ sym here.asked) look.taken looked look.are here.behind))
  awaited_path party after steps run me number long (IsAwaitedBy.settles mid now waited looked late waits look settled did) seat same =
      let here = wait_path count who left (waits_until since party.deadline) now true party mid waited waits me seat same in
      let looks = look_path count who ask mid from (number ∙ sym here.asked) look.taken looked look.are here.behind in
      let behind =
      settled_late mid after late (here.me ∙ me) (number ∙ sym here.asked) (omega (arith, long, here.deadline)) settled looks.behind
      (looks.standing ∙ (here.standing ∙ same)) in
      serves_to count who party after after (waited ++ (looked ++ late)) steps seat refl did
      (serves_then count who party mid after waited (looked ++ late) seat here
      (serves_then count who mid mid after looked late here.behind looks behind))

module _ (count who : ℕ) (left : Standing) where
  -- it asks for pages
  pub ask_path : (party after : Party) (asked : PagesAsked) (run : Option Run) (steps : List MailStep) → party.me ≡ who
      → party.deadline ≤ longest → DoesAsk (denials_of left) count party after asked steps run → (seat : Seat)
      → seat.standing ≡ left → Acted count who party after (Asked asked run ∷ []) steps seat
  ask_path party after asked run steps me long does seat same =
      let here = sent_path count who party asked after.asked does.since run does.sending me does.sent seat in
      acted_on count who party (after_alloc after.asked party) after (Asked asked run ∷ []) does.sending does.rest steps seat does.are here
      (awaited_path count who left (ask_of party.me after.asked asked) does.since me (early_by does.since does.sent.now does.sent.read)
      (after_alloc after.asked party) after does.rest run
      me refl long does.awaited here.behind (here.standing ∙ same))

  -- it tells that it gave a run up
  pub notice_path : (party after : Party) (heap : ℕ) (run : Run) (steps : List MailStep) → party.me ≡ who
      → DoesNotify (denials_of left) count party after heap run steps → (seat : Seat)
      → seat.standing ≡ left → Acted count who party after (GaveUp heap run ∷ []) steps seat
  notice_path party after heap run steps me does seat same =
      let mid : Party = numbered_on (party.asked + 1) party in
      let new : Party = after_free (party.asked + 1) party in
      let behind : Seat = record seat { trace = seat.trace ++ GaveUp heap run ∷ [] } in
      let says : Says does.frame (free_body who (party.asked + 1) heap run) =
      subst (λ (n : ℕ). Says does.frame (free_body n (party.asked + 1) heap run)) me does.says in
      let posts =
      path_mail count who (seated party seat) (seated mid behind) _
      (Mails.tells (seated party seat) heap run does.frame _ does.posted says) in
      let here : Acted count who party new (GaveUp heap run ∷ []) _ seat =
      record {
        behind = behind;
        me = refl;
        deadline = refl;
        standing = refl;
        lines = refl;
        trace = refl;
        path = path_quietly count who (seated party seat) (seated mid behind) (seated new behind) _ posts
            (Quietly.counts (seated mid behind) new.sent);
      } in
      acted_on count who party new after (GaveUp heap run ∷ []) _ (Notes (Read does.since) ∷ does.waited) steps seat does.are here
      (serves_noted count who new after (Read does.since ∷ []) does.waited _ here.behind refl
      (wait_path count who left (waits_until does.since party.deadline) does.now true new after does.waited does.waits me here.behind
      (here.standing ∙ same)))
