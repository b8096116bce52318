-- One of the participants goes away for its line, and comes back.
use Rattle.std.proofs.Common.{◌≡◌, ◌∙◌, ℕ, ◌+◌, ◌<◌, ◌==◌, List, [], ◌∷◌, ◌++◌, Bool, false, length, length-set, set, take, Option, Some, None, refl, ap, sym, subst, arith}
use Rattle.std.specs.List.{slice_get}
use Rattle.std.specs.Option.{option_map}
use Rattle.std.proofs.lemmas.List.{length-map, length-take-le, take_more}
use Rattle.std.proofs.lemmas.List.Sums.{count_by-le-length, length-filter}
use Rattle.std.proofs.lemmas.Option.{same_Some, slice_get_within}
use Rattle.hp_base.specs.declared.limits.TheConstants.{MAX_LINES}
use Rattle.hp_hall.specs.HallState.{Did, HallState}
use Rattle.hp_hall.specs.Mail.{MailStep}
use Rattle.hp_events.specs.declared.validator.Validator.{Validator}
use Rattle.hp_plain.specs.HallView.{HallView, heard_in, joined_in, lines_at, own_at, part_in, seen_in}
use Rattle.hp_script.specs.declared.answer.Answer.{Answer}
use Rattle.hp_script.specs.declared.line.Line.{Line}
use Rattle.hp_script.specs.declared.workload.Workload.{Workload}
use Rattle.hp_serve.specs.Party.{Party}
use Rattle.hp_serve.specs.Tied.{IsTied}
use Rattle.hp_serve.specs.Watched.{names_of}
use Rattle.hp_proc.specs.Contexts.{Context, IsNextLine}
use Rattle.hp_proc.specs.LineInHall.{IsReadyIn}
use Rattle.hp_proc.specs.LinesDone.{Course}
use Rattle.hp_proc.specs.OwnChunks.{AreMarkedAs}
use Rattle.hp_proc.specs.ParticipantView.{ParticipantView, knowing, participant_of}
use Rattle.hp_proc.specs.Progress.{DoesLine, MayComeAndGo, MayDo, Moment, moment_of}
use Rattle.hp_solo.specs.Solo.{IsAway, IsTiedAt, IsTiedFor, SoloView, limits_at, limits_in, limits_of, party_of, server_at, with_party}
use Rattle.hp_solo.specs.SoloState.{solo_state}
use Rattle.thm_run.specs.EndLaws.{tells_one_more}
use Rattle.thm_run.specs.SoFar.{SoFar, context_of, doer_of, standing_of}
use Rattle.thm_run.specs.Watching.{WatchedSoFar}
use Rattle.thm_causes.specs.Threads.{validators_left}
use Rattle.hp_run.specs.AnswersKept.{counts_so_far}
use Rattle.hp_run.specs.Running.{CanGoOn, HaveDoneLines, taken_along}
use Rattle.hp_run.proofs.Coming.{given_by}
use Rattle.hp_run.proofs.NextLine.{all_count, all_there, line_awaits, line_can, line_declared, names_there, next_line, nothing_out}
use Rattle.hp_run.proofs.OneMore.{DoesFor, HasDoneIts, done_more, its_validators, knows_all, stay_validators}
use Rattle.hp_run.proofs.Places.{party_there, there_below, there_in_box}
use Rattle.hp_run.proofs.ReasonLemmas.{may_run_lines}
use Rattle.hp_run.proofs.Returning.{IsBackFrom}
use Rattle.hp_run.proofs.SummaryLemmas.{counted_on}
use Rattle.hp_run.proofs.doing.do_next.Goals as goal

-- who is at its place with its validators, and took along what its lines left, knows what these left
knows_so : (workload : Workload) (lines : List Line) (answers : List Answer) (hall : SoloView) (done : HaveDoneLines workload lines answers hall)
    (who : ℕ) (party : Party) → WatchedSoFar → slice_get done.parties who ≡ Some party
    → (limits : List (Validator Bool)) (context : Context) → limits ≡ limits_at hall.servers who
    → context ≡ taken_along workload who done.courses
    → (participant_of party limits context).context ≡ context_of workload who done.courses
knows_so workload lines answers hall done who party law there limits context given took =
    let watched = law workload done.courses done.parties hall.plain done.so_far who party there in
    ap (λ (context : Context). knowing (names_of party.listeners) limits context) took
    ∙ knows_all workload who done.courses party limits watched.names
    (given ∙ ap limits_in (done.are.each who party there))

-- the steps of a line are those that were added, before its participant told of it
line_made : {count me lines : ℕ} {a b : HallState} {line : Line} {answer : Answer} {old new : Moment}
    → DoesLine count (λ (steps : List MailStep). Did me (steps ++ tells_one_more me lines) a b) line answer old new
    → DoesLine count (λ (steps : List MailStep). b.done me ≡ a.done me ++ (steps ++ tells_one_more me lines)) line answer old new
line_made does =
    let it = does.does in
    record {
      facts = does.facts;
      known = does.known;
      held = does.held;
      once = does.once;
      none = does.none;
      mid = does.mid;
      does = record {
        trace = it.trace;
        steps = it.steps;
        leads = it.leads;
        made = it.made.made;
        acts = it.acts;
        entries = it.entries;
        serves = it.serves;
        counted = it.counted;
        same = it.same;
        asked = it.asked;
        more = it.more;
        log = it.log;
        outcomes = it.outcomes;
        asks = it.asks;
      };
      names = does.names;
      order = does.order;
      hands = does.hands;
      tells = does.tells;
      awaited = does.awaited;
      ended = does.ended;
      left = does.left;
    }

-- each line so far has an answer
as_many : {hall : SoloView} (workload : Workload) (place : ℕ) (answers : List Answer) → HaveDoneLines workload (take place workload.lines.items) answers hall
    → length (take place workload.lines.items) ≡ length answers
as_many workload place answers was =
    omega (
      arith,
      length-map was.courses (λ (course : Course). course.line),
      ap (λ (lines : List Line). length lines) was.lines_are,
      length-map was.courses (λ (course : Course). course.answer),
      ap (λ (answers : List Answer). length answers) was.answered,
    )

pub push-requires : goal.push-requires
push-requires g c = record {
  room =
      omega (
        arith,
        as_many c.args.workload.now c.args.place c.args.answers.now.items c.requires.so_far.done,
        length-take-le c.args.place c.args.workload.now.lines.items (omega (arith, c.requires.within)),
        c.requires.within,
        c.requires.runnable.limits.few_lines,
      );
}

pub unreachable-requires : goal.unreachable-requires
unreachable-requires g c =
    let workload = c.args.workload.now in
    let line = c.index-line.result.now in
    let was = c.requires.so_far.done in
    let declared = line_declared workload c.args.place line c.requires.runnable c.requires.within c.index-line.ensures in
    let there = there_below was.parties line.participant (omega (arith, declared, was.so_far.count)) in
    let boxed =
    there_in_box c.away.result there.0
    (c.away.ensures.party ∙ party_there c.args.hall.now.servers was.parties was.are line.participant ∙ there.1) in
    c.in_default.not-Some boxed.0 boxed.1

pub take-requires : goal.take-requires
take-requires g c =
    let workload = c.args.workload.now in
    let line = c.index-line.result.now in
    let declared = line_declared workload c.args.place line c.requires.runnable c.requires.within c.index-line.ensures in
    record { within = slice_get_within c.args.contexts.now line.participant _ (c.requires.so_far.know line.participant declared) }

pub unreachable-requires-in_default-take : goal.unreachable-requires-in_default-take
unreachable-requires-in_default-take g c =
    let workload = c.args.workload.now in
    let line = c.index-line.result.now in
    let declared = line_declared workload c.args.place line c.requires.runnable c.requires.within c.index-line.ensures in
    c.in_default-take.not-Some (taken_along workload line.participant c.requires.so_far.done.courses)
    (same_Some _ _ (sym c.take.ensures.taken ∙ c.requires.so_far.know line.participant declared))

pub do_told-answer-requires-clause-next : goal.do_told-answer-requires-clause-next
do_told-answer-requires-clause-next g c =
    let workload = c.args.workload.now in
    let line = c.index-line.result.now in
    let was = c.requires.so_far.done in
    let declared = line_declared workload c.args.place line c.requires.runnable c.requires.within c.index-line.ensures in
    let party = c.in-Some.judged.value.server in
    let there : slice_get was.parties line.participant ≡ Some party =
    sym (party_there c.args.hall.now.servers was.parties was.are line.participant) ∙ sym c.away.ensures.party ∙ ap party_of c.in-Some.is in
    let took : c.in-Some-take.context ≡ taken_along workload line.participant was.courses =
    same_Some _ _ (same_Some _ _ (ap Some (sym c.in-Some-take.is) ∙ sym c.take.ensures.taken ∙ c.requires.so_far.know line.participant declared)) in
    let knew : c.new-participant.result.context ≡ context_of workload line.participant was.courses =
    ap (λ (doer : ParticipantView). doer.context) c.new-participant.ensures
    ∙ knows_so workload (take c.args.place workload.lines.items) c.args.answers.now.items c.args.hall.now was line.participant party
    c.watch_law.ensures there c.in-Some.judged.value.limits c.in-Some-take.context (sym (ap limits_of c.in-Some.is) ∙ c.away.ensures.limits) took in
    subst (λ (context : Context). IsNextLine context line) (sym knew)
    (next_line workload was.courses was.parties c.args.hall.now.plain was.so_far line.participant c.args.place line c.requires.runnable
    was.lines_are c.requires.within c.index-line.ensures)

pub do_told-answer-requires-clause-own : goal.do_told-answer-requires-clause-own
do_told-answer-requires-clause-own g c =
    sym (ap (λ (doer : ParticipantView). doer.party.me) c.new-participant.ensures ∙ c.in-Some.ensures.tied.number)

pub do_told-answer-requires-clause-may : goal.do_told-answer-requires-clause-may
do_told-answer-requires-clause-may g c =
    let workload = c.args.workload.now in
    let line = c.index-line.result.now in
    let was = c.requires.so_far.done in
    let plain = c.away.new.self.plain in
    let so_far : SoFar workload was.courses was.parties plain =
    subst (λ (plain : HallView). SoFar workload was.courses was.parties plain) (sym c.away.ensures.plain) was.so_far in
    let number = ap (λ (doer : ParticipantView). doer.party.me) c.new-participant.ensures ∙ c.in-Some.ensures.tied.number in (
      subst (λ (me : ℕ). MayComeAndGo me line.act) (sym number)
          (line_can workload c.args.place line c.requires.runnable c.requires.within c.index-line.ensures),
      line_awaits workload was.courses was.parties plain so_far c.args.place line (solo_state c.away.new.self) c.requires.runnable was.lines_are
          c.requires.within c.index-line.ensures (all_count workload was.courses was.parties plain so_far) refl,
    )

pub do_told-answer-requires-clause-few : goal.do_told-answer-requires-clause-few
do_told-answer-requires-clause-few g c =
    let workload = c.args.workload.now in
    let line = c.index-line.result.now in
    let was = c.requires.so_far.done in
    let plain = c.away.new.self.plain in
    let so_far : SoFar workload was.courses was.parties plain =
    subst (λ (plain : HallView). SoFar workload was.courses was.parties plain) (sym c.away.ensures.plain) was.so_far in
    let declared = line_declared workload c.args.place line c.requires.runnable c.requires.within c.index-line.ensures in
    let number = ap (λ (doer : ParticipantView). doer.party.me) c.new-participant.ensures ∙ c.in-Some.ensures.tied.number in
    subst (λ (me : ℕ). lines_at plain me < MAX_LINES) (sym number)
    (omega (
      arith,
      so_far.told line.participant declared,
      length-filter (λ (course : Course). course.line.participant == line.participant) was.courses,
      count_by-le-length (λ (course : Course). course.line.participant == line.participant) was.courses,
      length-map was.courses (λ (course : Course). course.line),
      ap (λ (lines : List Line). length lines) was.lines_are,
      length-take-le c.args.place workload.lines.items (omega (arith, c.requires.within)),
      c.requires.within,
      c.requires.runnable.limits.few_lines,
    ))

pub do_told-answer-requires-clause-ready : goal.do_told-answer-requires-clause-ready
do_told-answer-requires-clause-ready g c =
    let workload = c.args.workload.now in
    let line = c.index-line.result.now in
    let was = c.requires.so_far.done in
    let party = c.in-Some.judged.value.server in
    let limits = c.in-Some.judged.value.limits in
    let away = c.away.new.self in
    let plain = away.plain in
    let so_far : SoFar workload was.courses was.parties plain =
    subst (λ (plain : HallView). SoFar workload was.courses was.parties plain) (sym c.away.ensures.plain) was.so_far in
    let there : slice_get was.parties line.participant ≡ Some party =
    sym (party_there c.args.hall.now.servers was.parties was.are line.participant) ∙ sym c.away.ensures.party ∙ ap party_of c.in-Some.is in
    let number = c.in-Some.ensures.tied.number in
    let its = so_far.each line.participant party there in
    let declared = line_declared workload c.args.place line c.requires.runnable c.requires.within c.index-line.ensures in
    let took : c.in-Some-take.context ≡ taken_along workload line.participant was.courses =
    same_Some _ _ (same_Some _ _ (ap Some (sym c.in-Some-take.is) ∙ sym c.take.ensures.taken ∙ c.requires.so_far.know line.participant declared)) in
    let knew : (participant_of party limits c.in-Some-take.context).context ≡ context_of workload line.participant was.courses =
    knows_so workload (take c.args.place workload.lines.items) c.args.answers.now.items c.args.hall.now was line.participant party
    c.watch_law.ensures there limits c.in-Some-take.context (sym (ap limits_of c.in-Some.is) ∙ c.away.ensures.limits) took in
    let doer_is : c.new-participant.result ≡ doer_of workload line.participant was.courses party =
    c.new-participant.ensures ∙ ap (λ (context : Context). record { party = party; context = context }) knew in
    subst (λ (doer : ParticipantView). IsReadyIn doer.party.me doer (solo_state away)) (sym doer_is)
    (record {
      idle = record {
        serves = subst (λ (me : ℕ). IsAway (server_at away.servers me)) (sym number) c.away.ensures.away;
        declared = omega (arith, number, declared, all_count workload was.courses was.parties plain so_far);
        free = nothing_out workload was.courses was.parties plain so_far;
        home = all_there workload was.courses was.parties plain so_far;
        tied = subst (λ (me : ℕ). IsTiedFor plain me party) (sym number) c.in-Some.ensures.tied.tied;
      };
      ready = subst (λ (me : ℕ). MayDo (moment_of (doer_of workload line.participant was.courses party) (part_in plain me) (seen_in plain) (heard_in plain)))
          (sym number) its.ready;
      attached = subst (λ (me : ℕ). joined_in plain me ≡ (standing_of workload line.participant was.courses).attached) (sym number)
          (c.in-Some.ensures.tied.tied.same ∙ its.joined);
      named = names_there workload was.courses was.parties plain so_far;
      chunks = subst (λ (me : ℕ). (heap : ℕ)
          → AreMarkedAs heap (part_in plain me heap).marked (standing_of workload line.participant was.courses).chunks) (sym number) its.chunks;
    })

pub back-requires-clause-tied : goal.back-requires-clause-tied
back-requires-clause-tied g c =
    let always = c.do_told-answer.ensures in
    let after : ParticipantView = c.do_told-answer.new.participant in
    let plain = c.do_told-answer.new.hall.plain in
    subst (λ (party : Party). IsTiedAt plain party.me party) (sym c.into_parts-judged.ensures.server)
    (record {
      number = refl;
      tied = subst (λ (who : ℕ). IsTiedFor plain who after.party) (sym always.ready.same.me) always.ready.ready.idle.tied;
    })

pub put-requires : goal.put-requires
put-requires g c =
    let workload = c.args.workload.now in
    let line = c.index-line.result.now in
    let before = c.args.contexts.now in
    let declared = line_declared workload c.args.place line c.requires.runnable c.requires.within c.index-line.ensures in
    record {
      within =
          omega (
            arith,
            slice_get_within before line.participant _ (c.requires.so_far.know line.participant declared),
            ap (λ (left : List (Option Context)). length left) c.take.ensures.left,
            length-set before line.participant None,
          );
    }

pub back-requires-clause-declared : goal.back-requires-clause-declared
back-requires-clause-declared g c =
    let workload = c.args.workload.now in
    let line = c.index-line.result.now in
    let was = c.requires.so_far.done in
    let did = c.do_told-answer.ensures in
    let declared = line_declared workload c.args.place line c.requires.runnable c.requires.within c.index-line.ensures in
    omega (
      arith,
      ap (λ (party : Party). party.me) c.into_parts-judged.ensures.server,
      did.ready.same.me,
      ap (λ (doer : ParticipantView). doer.party.me) c.new-participant.ensures,
      c.in-Some.ensures.tied.number,
      declared,
      did.goes_on.plain.count,
      ap (λ (plain : HallView). length plain.owns) c.away.ensures.plain,
      all_count workload was.courses was.parties c.args.hall.now.plain was.so_far,
    )

pub returns : goal.returns
returns g c =
    let workload = c.args.workload.now in
    let lines = workload.lines.items in
    let place = c.args.place in
    let line = c.index-line.result.now in
    let answer = c.in_ok-answer.field-0 in
    let can = c.requires.so_far in
    let was = can.done in
    let before = c.args.contexts.now in
    let doer : ParticipantView = c.new-participant.result in
    let after : ParticipantView = c.do_told-answer.new.participant in
    let first = c.args.hall.now in
    let away = c.away.new.self in
    let back = c.do_told-answer.new.hall in
    let last = c.back.new.self in
    let did = c.in_ok-answer.ensures in
    let always = c.do_told-answer.ensures in
    let parts = c.into_parts-judged in
    let declared = line_declared workload place line c.requires.runnable c.requires.within c.index-line.ensures in
    let party_is : doer.party ≡ c.in-Some.judged.value.server = ap (λ (doer : ParticipantView). doer.party) c.new-participant.ensures in
    let number : doer.party.me ≡ line.participant = ap (λ (party : Party). party.me) party_is ∙ c.in-Some.ensures.tied.number in
    let stood : slice_get was.parties line.participant ≡ Some c.in-Some.judged.value.server =
    sym (party_there first.servers was.parties was.are line.participant) ∙ sym c.away.ensures.party ∙ ap party_of c.in-Some.is in
    let there : slice_get was.parties line.participant ≡ Some doer.party = stood ∙ ap (λ (party : Party). Some party) (sym party_is) in
    let took : c.in-Some-take.context ≡ taken_along workload line.participant was.courses =
    same_Some _ _ (same_Some _ _ (ap Some (sym c.in-Some-take.is) ∙ sym c.take.ensures.taken ∙ can.know line.participant declared)) in
    let knew : doer.context ≡ context_of workload line.participant was.courses =
    ap (λ (doer : ParticipantView). doer.context) c.new-participant.ensures
    ∙ knows_so workload (take place lines) c.args.answers.now.items first was line.participant c.in-Some.judged.value.server
    c.watch_law.ensures stood c.in-Some.judged.value.limits c.in-Some-take.context (sym (ap limits_of c.in-Some.is) ∙ c.away.ensures.limits)
    took in
    let count : length away.plain.owns ≡ workload.participants =
    ap (λ (plain : HallView). length plain.owns) c.away.ensures.plain
    ∙ all_count workload was.courses was.parties first.plain was.so_far in
    let its : HasDoneIts workload.participants line answer doer after away.plain back.plain =
    record {
      may = line_can workload place line c.requires.runnable c.requires.within c.index-line.ensures;
      does = subst (λ (count : ℕ). DoesFor count line.participant doer after away.plain back.plain line answer) count
          (subst (λ (me : ℕ). DoesFor (length away.plain.owns) me doer after away.plain back.plain line answer) number (line_made did.does));
      ready = subst (λ (me : ℕ). MayDo (moment_of after (part_in back.plain me) (seen_in back.plain) (heard_in back.plain))) number
          always.ready.ready.ready;
      tied = subst (λ (me : ℕ). IsTied (seen_in back.plain) (own_at back.plain me) (λ (heap : ℕ). (part_in back.plain me heap).marked)
          after.party.joined after.party.maps) number always.ready.ready.idle.tied.table;
      left = subst (λ (me : ℕ). after.party.joined ≡ false → (heap : ℕ) → (part_in back.plain me heap).marked ≡ []) number
          always.ready.ready.idle.tied.left;
      chunks = subst (λ (me : ℕ). (heap : ℕ) → AreMarkedAs heap (part_in back.plain me heap).marked after.context.standing.chunks) number
          always.ready.ready.chunks;
      told = subst (λ (me : ℕ). lines_at back.plain me ≡ lines_at away.plain me + 1) number did.lines;
      same = always.ready.same;
      free = always.ready.ready.idle.free;
    } in
    let course : Course = record { line = line; answer = answer; trace = its.does.does.trace } in
    let now : ℕ → List (Validator Bool) = validators_left workload (was.courses ++ course ∷ []) in
    let validators : now line.participant ≡ after.context.standing.validators =
    its_validators workload was.courses line answer its.does.does.trace doer.context after.context knew its.does.left in
    let comes : IsBackFrom line.participant after.party (λ who. standing_of workload who was.courses) now was.parties first away back last =
    subst (λ (party : Party). IsBackFrom line.participant party (λ who. standing_of workload who was.courses) now was.parties first away back last)
    parts.ensures.server
    (record {
      are = was.are;
      stay = λ other differ. stay_validators workload was.courses course other differ;
      gone_others = c.away.ensures.others;
      gone_here = c.away.ensures.place;
      gone_plain = c.away.ensures.plain;
      course = always.goes_on;
      rises = always.clock;
      me = ap (λ (party : Party). party.me) parts.ensures.server ∙ always.ready.same.me ∙ number;
      here = c.back.ensures.party;
      came = c.back.ensures.place
          ∙ ap (λ (given : List (Validator Bool)). option_map (with_party (Some parts.result.0.value.server) given)
          (server_at back.servers parts.result.0.value.server.me)) (parts.ensures.limits ∙ sym validators);
      came_others = c.back.ensures.others;
      came_plain = c.back.ensures.plain;
      going = c.in_ok-all_going.ensures;
      sound = c.sound.ensures;
    }) in
    let more =
    done_more workload (take place lines) c.args.answers.now.items line answer doer after before first away back last
    c.line_law.ensures.goes_on c.drops_law.ensures.goes_on c.catch_up_law.ensures c.shown_law.ensures.goes_on c.in_time_law.ensures.lines
    c.judged_law.ensures.goes_on c.counted_law.ensures.goes_on (given_by workload c.requires.runnable) c.plain_sound.ensures can
    (place, c.requires.within, sym c.index-line.ensures)
    declared there knew its comes
    (λ courses long.
    may_run_lines workload courses c.requires.runnable
    (omega (
      arith,
      long,
      c.requires.within,
      length-map was.courses (λ (course : Course). course.line),
      ap (λ (lines : List Line). length lines) was.lines_are,
      length-take-le place lines (omega (arith, c.requires.within)),
    ))) in
    let one_more : take (place + 1) lines ≡ take place lines ++ line ∷ [] =
    take_more lines place line c.requires.within ∙ ap (λ (it : Line). take place lines ++ it ∷ []) (sym c.index-line.ensures) in
    let knows : set (set before line.participant None) line.participant (Some (knowing [] [] after.context)) ≡ c.put.new.self =
    ap (λ (context : Context). set (set before line.participant None) line.participant (Some context)) (sym parts.ensures.context)
    ∙ ap (λ (left : List (Option Context)). set left line.participant (Some parts.result.1)) (sym c.take.ensures.left)
    ∙ sym c.put.ensures in
    record {
      done = subst (λ (front : List Line). CanGoOn workload front c.push.new.self.items c.put.new.self last) (sym one_more)
          (subst (λ (answers : List Answer). CanGoOn workload (take place lines ++ line ∷ []) answers c.put.new.self last)
          (sym c.in_ok-push.ensures.items)
          (subst (λ (contexts : List (Option Context)). CanGoOn workload (take place lines ++ line ∷ [])
          (c.args.answers.now.items ++ answer ∷ []) contexts last) knows more.0));
      counts = λ counting so_far.
          c.in_ok-push.ensures.counts
          ∙ counted_on line answer counting (take place lines) c.args.answers.now.items c.args.answers.now.counts
          (as_many workload place c.args.answers.now.items was) so_far
          ∙ ap (λ (front : List Line). counts_so_far counting front (c.args.answers.now.items ++ answer ∷ [])) (sym one_more)
          ∙ ap (λ (answers : List Answer). counts_so_far counting (take (place + 1) lines) answers) (sym c.in_ok-push.ensures.items);
      may_fail = more.1;
    }
