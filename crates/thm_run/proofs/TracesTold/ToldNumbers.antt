-- The numbers under which a participant tells of runs are taken in its deeds, one by one, and are above its number before.
use Rattle.std.proofs.Common.{◌≡◌, ◌≢◌, ◌∙◌, ◌==◌, ℕ, ◌+◌, Bool, true, false, cond, List, [], ◌∷◌, ◌++◌, filter, length, map, max, Some, None, Contains, inl, inr, refl, ap, subst, arith, eq-eqb, length-append}
use Rattle.std.proofs.lemmas.Bool.{cases_eq, ne_eqb}
use Rattle.std.proofs.lemmas.List.Elements.{Contains-append_cases}
use Rattle.hp_base.specs.declared.plan.Action.{Action}
use Rattle.hp_base.specs.declared.row.Run.{Run}
use Rattle.hp_frame.specs.declared.frame.Frame.{Frame}
use Rattle.hp_hall.specs.Mail.{Fetches, MailStep, Notes, Posts}
use Rattle.hp_hall.specs.declared.note.Note.{Note}
use Rattle.hp_heap.proofs.AllocFacts.ChoiceLaw.{Contains-cases, Contains-none}
use Rattle.hp_mail.specs.declared.posted.Posted.{Posted}
use Rattle.hp_segs.specs.SegsView.{SegsView, closed_number}
use Rattle.hp_serve.specs.Asking.{alloc_body, free_body}
use Rattle.hp_serve.specs.Frames.{Says}
use Rattle.hp_serve.specs.Serving.{gives_segments, takes_segments}
use Rattle.hp_proc.specs.Courses.{numbered_in}
use Rattle.hp_proc.specs.Doing.{Done}
use Rattle.hp_proc.specs.Doing.Done.{Asked, Called, CaughtUp, ChunkMapped, GaveUp, HeapSeen, Looked, NamesChanged, NamesRead, RangePlanned, StatsRead}
use Rattle.hp_weave.specs.Deeds.{Deed, Turn, deeds_of}
use Rattle.thm_run.proofs.TracesTold.Numbers.{numbered_both}
use Rattle.thm_run.proofs.TracesTold.Posts.{says_one}
use Rattle.thm_run.specs.Apart.{IsWayOf}
use Rattle.thm_run.specs.Seats.{AsksNothing, Handles, IsOfHeapOrNames, Mails, Quietly, Seat}
use Rattle.thm_run.specs.Told.{TellsIn}

-- WHAT EACH DEED MAKES OF THE NUMBER

-- so many numbers more were taken, of the seat and of its trace
pub record TakesMore (old new : Seat) (more : ℕ) : Type 0 where
  pub asked : new.party.asked ≡ old.party.asked + more
  pub numbered : length (numbered_in new.trace) ≡ length (numbered_in old.trace) + more

none_more : (seat : Seat) → TakesMore seat seat 0
none_more seat = record { asked = omega arith; numbered = omega arith }

pub long : (trace more : List Done) → length (numbered_in (trace ++ more)) ≡ length (numbered_in trace) + length (numbered_in more)
long trace more = ap length (numbered_both trace more) ∙ length-append (numbered_in trace) (numbered_in more)

pub quiet_more : {old new : Seat} → Quietly old new → TakesMore old new 0
quiet_more (Quietly.hears seat answered) = record { asked = omega arith; numbered = omega arith }
quiet_more (Quietly.counts seat sent) = record { asked = omega arith; numbered = omega arith }
quiet_more (Quietly.calls seat heap call answer uncut) =
    record { asked = omega arith; numbered = long seat.trace (Called heap call answer ∷ []) }
quiet_more (Quietly.notes seat elements chunks) = record { asked = omega arith; numbered = omega arith }
quiet_more (Quietly.reads_names seat names) =
    record { asked = omega arith; numbered = long seat.trace (NamesRead names ∷ []) }
quiet_more (Quietly.reads_stats seat heap counted) =
    record { asked = omega arith; numbered = long seat.trace (StatsRead heap counted ∷ []) }
quiet_more (Quietly.changes_names seat change) =
    record { asked = omega arith; numbered = long seat.trace (NamesChanged change ∷ []) }
quiet_more (Quietly.sees_heap seat heap history) =
    record { asked = omega arith; numbered = long seat.trace (HeapSeen heap history ∷ []) }
quiet_more (Quietly.plans_range seat addr len page plan) =
    record { asked = omega arith; numbered = long seat.trace (RangePlanned addr len page plan ∷ []) }
quiet_more (Quietly.maps_chunk seat chunk maps ended is) =
    record { asked = omega arith; numbered = long seat.trace (ChunkMapped chunk ended ∷ []) }
quiet_more (Quietly.leaves_chunk seat chunk maps is) = record { asked = omega arith; numbered = omega arith }
quiet_more (Quietly.ends_line seat deed given) = record { asked = omega arith; numbered = omega arith }

-- with mailboxes none, or one by a notice
pub data MailMore (old new : Seat) : Type 0 where
  none : TakesMore old new 0 → MailMore old new
  one : TakesMore old new 1 → MailMore old new

pub mail_more : {who : ℕ} {old new : Seat} {step : MailStep} → Mails who old new step → MailMore old new
mail_more (Mails.notes seat note) = MailMore.none (none_more seat)
mail_more (Mails.finds_nothing seat) = MailMore.none (none_more seat)
mail_more (Mails.fetches seat frame) = MailMore.none (record { asked = omega arith; numbered = omega arith })
mail_more (Mails.asks seat ask frame action posted armed says) = MailMore.none (none_more seat)
mail_more (Mails.tells seat heap run frame action posted says) =
    MailMore.one (record { asked = refl; numbered = long seat.trace (GaveUp heap run ∷ []) })
mail_more (Mails.speaks seat to frame body action posted nothing says) = MailMore.none (none_more seat)

-- with the segment value none, or one by an ask, whose number is the next one after the last one and the closed one
pub data HoldMore (who : ℕ) (old new : Seat) (taken : SegsView) : Type 0 where
  none : TakesMore old new 0 → HoldMore who old new taken
  arms : new.party.asked ≡ max old.party.asked (closed_number taken.asks who) + 1
      → length (numbered_in new.trace) ≡ length (numbered_in old.trace) + 1 → HoldMore who old new taken

pub hold_more : {count who : ℕ} {old new : Seat} {taken given : SegsView} → Handles count who old new taken given
    → HoldMore who old new taken
hold_more (Handles.looks seat segs) = HoldMore.none (none_more seat)
hold_more (Handles.moves_ranges seat segs ranges moves) = HoldMore.none (none_more seat)
hold_more (Handles.steps seat segs event core zero has knows denied may) = HoldMore.none (record { asked = omega arith; numbered = omega arith })
hold_more (Handles.maps seat segs caught table now core zero has up) =
    HoldMore.none (record { asked = omega arith; numbered = omega arith })
hold_more (Handles.follows seat segs caught table member up) = HoldMore.none (record { asked = omega arith; numbered = omega arith })
hold_more (Handles.arms seat segs asked run number is) = HoldMore.arms is (long seat.trace (Asked asked run ∷ []))
hold_more (Handles.claims seat segs) = HoldMore.none (none_more seat)
hold_more (Handles.settles seat segs since now late) = HoldMore.none (none_more seat)
hold_more (Handles.cuts seat segs heap addr run) =
    HoldMore.none (record { asked = omega arith; numbered = long seat.trace (Called heap _ _ ∷ []) })
hold_more (Handles.attaches seat segs caught after tried) =
    HoldMore.none (record {
      asked = ap (λ (party : _). party.asked) tried.after_is ∙ omega arith;
      numbered = long seat.trace (Looked (length segs.log) ∷ CaughtUp (length segs.log) caught ∷ []);
    })
hold_more (Handles.detaches seat segs told secondary bare heard) = HoldMore.none (record { asked = omega arith; numbered = omega arith })

-- A NUMBER THAT IS TOLD

-- one of these deeds takes that number, the next one, by itself
pub data IsTold (number : ℕ) : List (Deed Seat SegsView) → Type 0 where
  here : (old new : Seat) (deeds : List (Deed Seat SegsView)) → old.party.asked + 1 ≡ number → new.party.asked ≡ number
      → IsTold number (Deed.Alone old new ∷ deeds)
  later : (deed : Deed Seat SegsView) (deeds : List (Deed Seat SegsView)) → IsTold number deeds → IsTold number (deed ∷ deeds)

-- a step tells of a run, under that number
pub record IsTelling (who number : ℕ) (old new : Seat) : Type 0 where
  pub before : old.party.asked + 1 ≡ number
  pub after : new.party.asked ≡ number

module _ (who number heap : ℕ) (run : Run) (frame : Frame) (action : Action) (posted : Posted)
    (says : Says frame (free_body who number heap run)) where
  abbrev told : MailStep
  told = Posts 0 frame action posted

  pub mail_tells : {old new : Seat} {step : MailStep} → Mails who old new step → step ≡ told → IsTelling who number old new
  mail_tells (Mails.notes seat note) same = absurd (never same)
    where
      never : {note : Note} → Notes note ≡ told → ⊥
      never same = cc
  mail_tells (Mails.finds_nothing seat) same = absurd (never same)
    where
      never : Fetches None ≡ told → ⊥
      never same = cc
  mail_tells (Mails.fetches seat other) same = absurd (never other same)
    where
      never : (other : Frame) → Fetches (Some other) ≡ told → ⊥
      never other same = cc
  mail_tells (Mails.asks seat ask other its_action its_posted armed speaks) same =
      let its : other ≡ frame = cc in
      let wrong : alloc_body ask ≡ free_body who number heap run =
      says_one frame (alloc_body ask) (free_body who number heap run) (subst (λ frame. Says frame (alloc_body ask)) its speaks) says in
      absurd (never wrong)
    where
      never : alloc_body ask ≡ free_body who number heap run → ⊥
      never wrong = cc
  mail_tells (Mails.tells seat its_heap its_run other its_action its_posted speaks) same =
      let its : other ≡ frame = cc in
      let one : free_body who (seat.party.asked + 1) its_heap its_run ≡ free_body who number heap run =
      says_one frame (free_body who (seat.party.asked + 1) its_heap its_run) (free_body who number heap run)
      (subst (λ frame. Says frame (free_body who (seat.party.asked + 1) its_heap its_run)) its speaks) says in
      let which : seat.party.asked + 1 ≡ number = cc in
      record { before = which; after = which }
  mail_tells (Mails.speaks seat to other body its_action its_posted nothing speaks) same =
      let its : other ≡ frame = cc in
      let one : body ≡ free_body who number heap run =
      says_one frame body (free_body who number heap run) (subst (λ frame. Says frame body) its speaks) says in
      absurd (subst AsksNothing one nothing)

  pub heap_tells : (step : MailStep) → IsOfHeapOrNames step → step ≡ told → ⊥
  heap_tells step is same = subst IsOfHeapOrNames same is

  pub takes_tells : (taken : SegsView) → takes_segments taken ≡ told → ⊥
  takes_tells taken same = cc

  pub gives_tells : (given : SegsView) → gives_segments given ≡ told → ⊥
  gives_tells given same = cc

  note_tells : (note : Note) → Notes note ≡ told → ⊥
  note_tells note same = cc

  pub notes_tell : (held : List Note) → Contains (map Notes held) told → ⊥
  notes_tell [] among = Contains-none told among
  notes_tell (note ∷ held) among = elim (Contains-cases (Notes note) told (map Notes held) among) [
    | inl same ↦ note_tells note same
    | inr rest ↦ notes_tell held rest
  ]

  way_told : (count : ℕ) {deeds : List (Deed Seat SegsView)} {steps : List MailStep} → IsWayOf count who deeds steps → Contains steps told
      → IsTold number deeds
  way_told count IsWayOf.ends among = absurd (Contains-none told among)
  way_told count (IsWayOf.quietly old new deeds steps did way) among =
      IsTold.later (Deed.Alone old new) deeds (way_told count way among)
  way_told count (IsWayOf.holds step deeds steps is way) among = elim (Contains-cases step told steps among) [
    | inl same ↦ absurd (heap_tells step is same)
    | inr rest ↦ way_told count way rest
  ]
  way_told count (IsWayOf.mails old new step deeds steps did way) among = elim (Contains-cases step told steps among) [
    | inl same ↦ (let is = mail_tells did same in IsTold.here old new deeds is.before is.after)
    | inr rest ↦ IsTold.later (Deed.Alone old new) deeds (way_told count way rest)
  ]
  way_told count (IsWayOf.handles old new taken given held deeds steps did way) among =
      IsTold.later (Deed.Holding old new taken given) deeds (elim (Contains-cases (takes_segments taken) told
      (map Notes held ++ (gives_segments given ∷ steps)) among) [
        | inl same ↦ absurd (takes_tells taken same)
        | inr rest ↦ elim (Contains-append_cases (map Notes held) (gives_segments given ∷ steps) told rest) [
          | inl noted ↦ absurd (notes_tell held noted)
          | inr more ↦ elim (Contains-cases (gives_segments given) told steps more) [
            | inl same ↦ absurd (gives_tells given same)
            | inr on ↦ way_told count way on
          ]
        ]
      ])

pub told_in : (count who number : ℕ) (deeds : List (Deed Seat SegsView)) (steps : List MailStep) → IsWayOf count who deeds steps
    → TellsIn who number steps → IsTold number deeds
told_in count who number deeds steps way tells =
    way_told who number tells.heap tells.run tells.frame tells.action tells.posted tells.says count way tells.there

-- a number that is told among the turns is so in the first one, or in a later one
pub data IsToldFirst (who number : ℕ) (turn : Turn Seat SegsView) (turns : List (Turn Seat SegsView)) : Type 0 where
  own : turn.who ≡ who → IsTold number (turn.deed ∷ deeds_of who turns) → IsToldFirst who number turn turns
  other : turn.who ≢ who → IsTold number (deeds_of who turns) → IsToldFirst who number turn turns

pub told_first : (who number : ℕ) (turn : Turn Seat SegsView) (turns : List (Turn Seat SegsView)) → IsTold number (deeds_of who (turn ∷ turns))
    → IsToldFirst who number turn turns
told_first who number turn turns told = elim (cases_eq turn.who who) [
  | inl mine ↦ IsToldFirst.own mine (subst (IsTold number) (by true (eq-eqb turn.who who mine)) told)
  | inr apart ↦ IsToldFirst.other apart (subst (IsTold number) (by false (ne_eqb turn.who who apart)) told)
]
  where
    by : (mine : Bool) → (turn.who == who) ≡ mine → deeds_of who (turn ∷ turns)
        ≡ map (λ (turn : Turn Seat SegsView). turn.deed)
        (cond mine (turn ∷ filter (λ (one : Turn Seat SegsView). one.who == who) turns)
        (filter (λ (one : Turn Seat SegsView). one.who == who) turns))
    by mine is =
        ap (λ mine. map (λ (turn : Turn Seat SegsView). turn.deed)
        (cond mine (turn ∷ filter (λ (one : Turn Seat SegsView). one.who == who) turns)
        (filter (λ (one : Turn Seat SegsView). one.who == who) turns))) is
