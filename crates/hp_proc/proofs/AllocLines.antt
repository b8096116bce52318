-- An allocation line was done: its request was refused, or served from the heaps that it tries.
use Rattle.std.proofs.Common.{◌≡◌, ◌≢◌, ◌∙◌, ℕ, Bool, true, List, [], ◌∷◌, ◌++◌, append-nil, Option, Some, None, is_some, refl, ap, sym, subst, inl, inr}
use Rattle.std.specs.Option.{option_map}
use Rattle.hp_base.specs.Requests.{refusal_of}
use Rattle.hp_base.specs.declared.pool_line.PoolLine.{PoolLine}
use Rattle.hp_base.specs.declared.request.BadRequest.{BadRequest}
use Rattle.hp_base.specs.declared.request.Request.{Request}
use Rattle.hp_hall.specs.HallState.{HallState}
use Rattle.hp_hall.specs.Holding.{HeapPart}
use Rattle.hp_hall.specs.Mail.{MailStep}
use Rattle.hp_hall.proofs.HallStates.{did_then}
use Rattle.hp_log.specs.declared.log_record.LogRecord.{LogRecord}
use Rattle.hp_script.specs.Part.{Part}
use Rattle.hp_script.specs.declared.answer.Answer.{Answer}
use Rattle.hp_script.specs.declared.answer.Answer.TheVariants as gives
use Rattle.hp_script.specs.declared.line.Act.{Act}
use Rattle.hp_script.specs.declared.line.Act.TheVariants as act
use Rattle.hp_script.specs.declared.line.Line.{Line}
use Rattle.hp_script.specs.declared.options.Options.{Options}
use Rattle.hp_segs.specs.declared.outcome.AskLog.{AskLog}
use Rattle.hp_zone.specs.declared.names.Names.{Names as NamesView}
use Rattle.hp_proc.specs.Acting.{Acts}
use Rattle.hp_proc.specs.Allocating.{serving}
use Rattle.hp_proc.specs.Awaiting.{HasAwaited}
use Rattle.hp_proc.specs.Contexts.{AreFactsOf, Context, with_element}
use Rattle.hp_proc.specs.Courses.{HasLineRequest, IsRequestFor, after_line, calls_in, last_heap}
use Rattle.hp_proc.specs.Doing.{Doing, Done}
use Rattle.hp_proc.specs.Halting.{Halts, HaltsLine}
use Rattle.hp_proc.specs.Handing.{shared_of}
use Rattle.hp_proc.specs.Heaps.{heaps_for, socket_heaps}
use Rattle.hp_proc.specs.LineInHall.{DoesHere, ReadsNames, did_in, moment}
use Rattle.hp_proc.specs.LineTrees.{allocating_line, doing_of}
use Rattle.hp_proc.specs.Lines.{Facts, if_attached, reading_names, tag_of}
use Rattle.hp_proc.specs.LockOrder.{GivesNamesFirst}
use Rattle.hp_proc.specs.NamesOfLines.{NamesOfLine}
use Rattle.hp_proc.specs.ParticipantView.{ParticipantView, after_answer, with_context, with_standing}
use Rattle.hp_proc.specs.Progress.{AreOnce, Brings, Does, DoesLine, HoldsNone, Moment, doer_at, moment_of, registered_at}
use Rattle.hp_proc.specs.SharedNames.{SharedNames, directory_in, heaps_in}
use Rattle.hp_proc.specs.declared.own_element.OwnElement.{OwnElement}
use Rattle.hp_proc.proofs.AllocFacts.{does_noted, left_none, left_one}
use Rattle.hp_proc.proofs.Halted.{line_halted}
use Rattle.hp_proc.proofs.HandFacts.HandTried.{calls_stay, none_done}
use Rattle.hp_proc.proofs.HandFacts.OnceHeld.{once_none}
use Rattle.hp_proc.proofs.Joining.{does_then}
use Rattle.hp_proc.proofs.LineEnds.{ends_as_it_was}
use Rattle.hp_proc.proofs.LineFacts.{IsNothing, awaits_none, facts_for, facts_known, hands_first, nothing_done}
use Rattle.hp_proc.proofs.LinesOrdered.{acts_apart, acts_ordered, acts_told, apart_both, names_first}
use Rattle.hp_proc.proofs.TreeDeeds.{IsAllocating, IsNameless, Only, acts_unnamed, allocating_nameless, names_none, names_once, nameless_read, only_leads, only_serving}

-- it came to an answer from a heap, and had the names in hand at most while it read them
pub record BringsApart (heap count : ℕ) (did : List MailStep → Type 0) (doing : Doing) (answer : Answer) (old new : Moment) : Type 0 where
  pub brings : Brings heap count did doing answer old new
  pub names : NamesOfLine brings.does.trace brings.does.steps
  pub apart : GivesNamesFirst brings.does.steps

-- what an allocation does by the heap that it names
abbrev pub alloc_by : ℕ → List PoolLine → Line → Options → Request → Option Part → Doing
alloc_by socket pools line options request None =
    serving pools request (tag_of line) (heaps_for socket (socket_heaps pools) None options.socket)
alloc_by socket pools line options request (Some name) =
    reading_names (λ names. serving pools request (tag_of line)
    (heaps_for socket (heaps_in (directory_in pools names)) (Some name.text) options.socket))

module _ (socket : ℕ) (pools : List PoolLine) (line : Line) (options : Options) (request : Request) where
  -- it named none
  pub brings_plain : {heap count : ℕ} {did : List MailStep → Type 0} {answer : Answer} {old new : Moment} → old.hand ≡ None → new.hand ≡ None
      → Brings heap count did (alloc_by socket pools line options request None) answer old new
      → BringsApart heap count did (alloc_by socket pools line options request None) answer old new
  brings_plain {heap} {count} {did} {answer} {old} {new} empty ends brings =
      let does = brings.does in
      let all = only_leads IsAllocating _ does.trace (Doing.Ended answer) (only_serving request (tag_of line) pools _) does.leads in
      let nameless = allocating_nameless does.trace all in
      let acts : Acts count None None brings.held (doer_at old) (doer_at new) does.trace does.steps =
      subst (λ (hand : Option ℕ). Acts count hand None brings.held (doer_at old) (doer_at new) does.trace does.steps) empty
      (subst (λ (hand : Option ℕ). Acts count old.hand hand brings.held (doer_at old) (doer_at new) does.trace does.steps) ends does.acts) in
      record {
        brings = brings;
        names = names_none does.trace does.steps does.acts nameless;
        apart = names_first does.steps (acts_apart acts (inr (nameless_read does.trace nameless)));
      }

  -- it named one, for which it read the names
  pub brings_named : (name : Part) (first second third : HallState) (me heap : ℕ) (doer mid after : ParticipantView) (names : NamesView)
      (answer : Answer) → ReadsNames me doer mid names first second
      (λ names. serving pools request (tag_of line) (heaps_for socket (heaps_in (directory_in pools names)) (Some name.text) options.socket))
      → Brings heap first.count (did_in me second third)
      (serving pools request (tag_of line) (heaps_for socket (heaps_in (directory_in pools (shared_of names))) (Some name.text) options.socket))
      answer (moment me mid second) (moment me after third)
      → BringsApart heap first.count (did_in me first third) (alloc_by socket pools line options request (Some name)) answer (moment me doer first)
      (moment me after third)
  unfolding does_then
  brings_named name first second third me heap doer mid after names answer reads brings =
      let here = reads.does in
      let does = brings.does in
      let all = only_leads IsAllocating _ does.trace (Doing.Ended answer) (only_serving request (tag_of line) pools _) does.leads in
      let nameless = allocating_nameless does.trace all in
      let unread = nameless_read does.trace nameless in
      record {
        brings = record {
          held = brings.held;
          once = brings.once;
          does = does_then first.count (did_in me first second) (did_in me second third) (did_in me first third)
              (alloc_by socket pools line options request (Some name)) _ (Doing.Ended answer) (moment me doer first) (moment me mid second)
              (moment me after third) (λ steps next one other. did_then one other) here does;
          last = λ address is.
              ap (λ (trace : List Done). last_heap (calls_in (trace ++ does.trace))) reads.trace ∙ brings.last address is;
        };
        names = names_once names here.trace does.trace here.steps does.steps reads.trace reads.steps nameless
            (acts_unnamed first.count None None brings.held mid after does.trace does.steps does.acts unread);
        apart = names_first (here.steps ++ does.steps)
            (apart_both here.steps does.steps (acts_apart here.acts (inl refl)) (acts_apart does.acts (inr unread)));
      }

module _ (line : Line) (label : Part) (size : ℕ) (options : Options) (its_act : line.act ≡ act.Alloc label size options) where
  -- the tree of such a line
  alloc_tree : (facts : Facts) → facts.attached ≡ true → allocating_line facts (tag_of line) size options ≡ doing_of line line.act facts
  unfolding doing_of
  alloc_tree facts attached =
      ap (λ (attached : Bool). if_attached attached (allocating_line facts (tag_of line) size options)) (sym attached)
      ∙ ap (λ (deed : Act). doing_of line deed facts) (sym its_act)

  by_heap : (facts : Facts) (heap : Option Part) → options.heap ≡ heap → (request : Request) → facts.request ≡ Some request
      → refusal_of size options.align options.bound ≡ None
      → alloc_by facts.own_socket facts.pools line options request heap ≡ allocating_line facts (tag_of line) size options
  by_heap facts None is request has accepted = rw is (rw accepted (rw has refl))
  by_heap facts (Some name) is request has accepted = rw is (rw accepted (rw has refl))

  by_refusal : (facts : Facts) (heap : Option Part) → options.heap ≡ heap → (kind : BadRequest)
      → refusal_of size options.align options.bound ≡ Some kind
      → Doing.Ended (gives.BadRequest kind) ≡ allocating_line facts (tag_of line) size options
  by_refusal facts None is kind refused = rw is (rw refused refl)
  by_refusal facts (Some name) is kind refused = rw is (rw refused refl)

  -- it may hold any heap
  holds_any : (held : List ℕ) → HoldsNone line.act held
  holds_any held = subst (λ (deed : Act). HoldsNone deed held) (sym its_act) tt

  -- it registers nothing, and awaits nobody
  ends_alloc : (given : Answer) (moment : Moment) → moment ≡ registered_at line.act given moment
  ends_alloc given moment = ends_as_it_was line (act.Alloc label size options) given moment its_act tt

  module _ (old : Moment) (attached : old.context.standing.attached ≡ true) (empty : old.hand ≡ None) (count : ℕ) (did : List MailStep → Type 0) where
    -- a request that is refused
    pub line_refused : (kind : BadRequest) → refusal_of size options.align options.bound ≡ Some kind → did []
        → DoesLine count did line (gives.BadRequest kind) old old
    line_refused kind refused none =
        let facts = facts_for old.party.socket old.context line.act None in
        let tree : Doing.Ended (gives.BadRequest kind) ≡ doing_of line line.act facts =
        by_refusal facts options.heap refl kind refused ∙ alloc_tree facts attached in
        let done : IsNothing count did (doing_of line line.act facts) (Doing.Ended (gives.BadRequest kind)) old =
        subst (λ (doing : Doing). IsNothing count did doing (Doing.Ended (gives.BadRequest kind)) old) tree
        (nothing_done count did (Doing.Ended (gives.BadRequest kind)) old none) in
        let does = done.does in
        let acts : Acts count None old.hand [] (doer_at old) (doer_at old) does.trace does.steps =
        subst (λ (hand : Option ℕ). Acts count hand old.hand [] (doer_at old) (doer_at old) does.trace does.steps) empty does.acts in
        record {
          facts = facts;
          known = facts_known old.party.socket old.context line None
              (subst (λ (deed : Act). HasLineRequest deed None) (sym its_act) (λ accepted. absurd (differs kind (sym refused ∙ accepted))));
          held = [];
          once = once_none;
          none = holds_any [];
          mid = old;
          does = does;
          names = done.names;
          order = acts_ordered acts;
          hands = hands_first line.act does.steps done.apart;
          tells = acts_told acts;
          awaited = subst (λ (deed : Act). HasAwaited deed does.steps) (sym its_act) tt;
          ended = ends_alloc (gives.BadRequest kind) old;
          left = left_none line label size options its_act (gives.BadRequest kind) does.trace old.context.standing
              (λ address same. bad_differs kind address same);
        }
      where
        differs : (kind : BadRequest) → Some kind ≡ None → ⊥
        differs kind equal = cc

        bad_differs : (kind : BadRequest) (address : ℕ) → gives.BadRequest kind ≡ gives.Address address → ⊥
        bad_differs kind address equal = cc

    module _ (request : Request) (accepted : refusal_of size options.align options.bound ≡ None) (is_for : IsRequestFor size options request)
        (name : Option Part) (named : options.heap ≡ name) where
      abbrev facts : Facts
      facts = facts_for old.party.socket old.context line.act (Some request)

      facts_are : AreFactsOf old.party.socket old.context line facts
      facts_are =
          facts_known old.party.socket old.context line (Some request)
          (subst (λ (deed : Act). HasLineRequest deed (Some request)) (sym its_act) (λ accepted. (request, refl, is_for)))

      its_tree : alloc_by old.party.socket old.context.pools line options request name ≡ doing_of line line.act facts
      its_tree = by_heap facts name named request refl accepted ∙ alloc_tree facts attached

      -- one that is served, and ends without an answer
      pub line_halts : (heaps : List ℕ) → AreOnce heaps → (new : Moment)
          → Halts heaps count did (alloc_by old.party.socket old.context.pools line options request name) old new → HaltsLine count did line old new
      line_halts heaps once new halts =
          line_halted count did line old new facts facts_are (alloc_by old.party.socket old.context.pools line options request name) its_tree empty
          (heaps, once, halts)

      module _ (heap : ℕ) (answer : Answer) (doer : ParticipantView) (parts : ℕ → HeapPart) (log : List LogRecord) (asks : List AskLog)
          (its : BringsApart heap count did (alloc_by old.party.socket old.context.pools line options request name) answer old
          (moment_of doer parts log asks)) (same : doer.context.standing ≡ old.context.standing) where
        abbrev mid : Moment
        mid = moment_of doer parts log asks

        abbrev doing : Doing
        doing = doing_of line line.act facts

        brought : BringsApart heap count did doing answer old mid
        brought = subst (λ (doing : Doing). BringsApart heap count did doing answer old mid) its_tree its

        -- one that is served, and brings no address
        line_served : ((address : ℕ) → answer ≢ gives.Address address) → DoesLine count did line answer old mid
        line_served other =
            let brings = brought.brings in
            let does = brings.does in
            let acts : Acts count None None brings.held (doer_at old) doer does.trace does.steps =
            subst (λ (hand : Option ℕ). Acts count hand None brings.held (doer_at old) doer does.trace does.steps) empty does.acts in
            record {
              facts = facts;
              known = facts_are;
              held = brings.held;
              once = brings.once;
              none = holds_any brings.held;
              mid = mid;
              does = does;
              names = brought.names;
              order = acts_ordered acts;
              hands = hands_first line.act does.steps brought.apart;
              tells = acts_told acts;
              awaited = subst (λ (deed : Act). HasAwaited deed does.steps) (sym its_act) tt;
              ended = ends_alloc answer mid;
              left = same ∙ left_none line label size options its_act answer does.trace old.context.standing other;
            }

        -- and one that brings one, once its element is noted
        module _ (address : ℕ) (is : answer ≡ gives.Address address) where
          abbrev elements : List OwnElement
          elements = doer.context.standing.elements ++ record { line = line.line; heap = heap } ∷ []

          abbrev after : ParticipantView
          after = with_standing (record doer.context.standing { elements = elements }) doer

          abbrev after_it : Moment
          after_it = moment_of after parts log asks

          behind : Does [] count (λ steps. steps ≡ []) (Doing.Ended answer) (Doing.Ended answer) mid after_it
          behind = does_noted count (λ steps. steps ≡ []) (Doing.Ended answer) doer parts log asks elements refl

          whole : Does (brought.brings.held ++ []) count did doing (Doing.Ended answer) old after_it
          whole =
              does_then count did (λ steps. steps ≡ []) did doing (Doing.Ended answer) (Doing.Ended answer) old mid after_it (none_done did)
              brought.brings.does behind

          trace_is : whole.trace ≡ brought.brings.does.trace
          unfolding whole behind does_then does_noted
          trace_is = append-nil brought.brings.does.trace

          steps_are : whole.steps ≡ brought.brings.does.steps
          unfolding whole behind does_then does_noted
          steps_are = append-nil brought.brings.does.steps

          line_noted : DoesLine count did line answer old after_it
          line_noted =
              let acts : Acts count None None (brought.brings.held ++ []) (doer_at old) after whole.trace whole.steps =
              subst (λ (hand : Option ℕ). Acts count hand None (brought.brings.held ++ []) (doer_at old) after whole.trace whole.steps) empty whole.acts in
              record {
                facts = facts;
                known = facts_are;
                held = brought.brings.held ++ [];
                once = subst AreOnce (sym (append-nil brought.brings.held)) brought.brings.once;
                none = holds_any (brought.brings.held ++ []);
                mid = after_it;
                does = whole;
                names = subst (λ (trace : List Done). NamesOfLine trace whole.steps) (sym trace_is)
                    (subst (λ (steps : List MailStep). NamesOfLine brought.brings.does.trace steps) (sym steps_are) brought.names);
                order = acts_ordered acts;
                hands = hands_first line.act whole.steps (subst GivesNamesFirst (sym steps_are) brought.apart);
                tells = acts_told acts;
                awaited = subst (λ (deed : Act). HasAwaited deed whole.steps) (sym its_act) tt;
                ended = ends_alloc answer after_it;
                left = left_one line label size options its_act address heap whole.trace doer.context.standing
                    (ap (λ (trace : List Done). last_heap (calls_in trace)) trace_is ∙ brought.brings.last address is)
                    ∙ ap (λ (given : Answer). after_line line given whole.trace doer.context.standing) (sym is)
                    ∙ ap (after_line line answer whole.trace) same;
              }

        -- so is one whose answer was noted
        pub line_answered : (after : ParticipantView) → after ≡ after_answer line.line heap answer doer
            → DoesLine count did line answer old (moment_of after parts log asks)
        line_answered after noted = by_answer answer refl (sym noted)
          where
            by_answer : (given : Answer) → answer ≡ given → after_answer line.line heap given doer ≡ after
                → DoesLine count did line answer old (moment_of after parts log asks)
            by_answer (gives.Address address) is noted =
                subst (λ (after : ParticipantView). DoesLine count did line answer old (moment_of after parts log asks)) noted (line_noted address is)
            by_answer _ is noted =
                subst (λ (after : ParticipantView). DoesLine count did line answer old (moment_of after parts log asks)) noted
                (line_served (λ address given. cc))
