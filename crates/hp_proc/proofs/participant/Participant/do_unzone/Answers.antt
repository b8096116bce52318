-- The names are taken, the memzone is freed, and the names are given back before anything is told.
use Rattle.std.proofs.Common.{◌≡◌, ◌∙◌, ℕ, [], Bool, List, None, true, ap, refl, sym, subst}
use Rattle.std.proofs.lemmas.Result.{on_err_weaker}
use Rattle.hp_base.specs.declared.pool_line.PoolLine.{PoolLine}
use Rattle.hp_hall.specs.HallCalls.{HasGiven}
use Rattle.hp_hall.specs.HallState.{HallState, OthersStay, SlotsStayBut}
use Rattle.hp_hall.specs.declared.kept.Kept.TheVariants.{Names}
use Rattle.hp_hall.specs.declared.slot.TheConstants.{NAMES_SLOT}
use Rattle.hp_script.specs.Part.{Part}
use Rattle.hp_script.specs.declared.line.Act.{Act}
use Rattle.hp_script.specs.declared.line.Act.TheVariants as act
use Rattle.hp_script.specs.declared.line.Line.{Line}
use Rattle.hp_zone.specs.declared.names.Names.{Names as NamesView}
use Rattle.hp_proc.specs.Contexts.{Context}
use Rattle.hp_proc.specs.Courses.{HasLineRequest, searched_heap_at}
use Rattle.hp_proc.specs.Doing.{Doing}
use Rattle.hp_proc.specs.Freeing.{left_of}
use Rattle.hp_proc.specs.Handing.{shared_of}
use Rattle.hp_proc.specs.LineInHall.{DoesLineHere, HoldsNames, IsReadyIn, did_in, moment}
use Rattle.hp_proc.specs.LineTrees.{doing_of}
use Rattle.hp_proc.specs.Lines.{Facts, if_attached, reading_names}
use Rattle.hp_proc.specs.NamesInHand.{DoesNamedOnce, GivesNamesBack, HaltsNamedOnce, HasCalledNamed, IsReadyNamed, MayGiveNames}
use Rattle.hp_proc.specs.ParticipantView.{ParticipantView}
use Rattle.hp_proc.specs.SharedNames.{SharedNames, zone_named}
use Rattle.hp_proc.specs.ZoneLines.{freeing_zone}
use Rattle.hp_serve.proofs.AskingFacts.AskedAlong.{if_ok, on_err_any}
use Rattle.hp_serve.proofs.Carrying.{same_then}
use Rattle.hp_proc.proofs.Halted.{line_halted}
use Rattle.hp_proc.proofs.HandFacts.OnceHeld.{once_none}
use Rattle.hp_proc.proofs.LineFacts.{facts_for, facts_known}
use Rattle.hp_proc.proofs.LinesFreed.{line_told, told_stopped}
use Rattle.hp_proc.proofs.LinesNamed.{MayHaveNames, line_stopped}
use Rattle.hp_proc.proofs.NamesAround.{may_give, named_ready, ready_around}
use Rattle.hp_proc.proofs.participant.Participant.do_unzone.Goals as goal

-- the tree of such a line, where its participant is attached
unzones : (line : Line) (name : Part) (facts : Facts) → line.act ≡ act.Unzone name → facts.attached ≡ true
    → reading_names (λ names. freeing_zone (searched_heap_at facts.pools) (zone_named name.text names)) ≡ doing_of line line.act facts
unfolding doing_of
unzones line name facts deed attached =
    ap (λ (attached : Bool). if_attached attached
    (reading_names (λ names. freeing_zone (searched_heap_at facts.pools) (zone_named name.text names)))) (sym attached)
    ∙ ap (λ (deed : Act). doing_of line deed facts) (sym deed)

-- it may have the names in hand beside heaps
may_have : (name : Part) → MayHaveNames (act.Unzone name)
may_have name = record { hands = λ steps. tt; holds = λ held. tt; brings = tt; alone = tt }

-- what it gave back, as its own
own_gave : {who me : ℕ} {after : ParticipantView} {given : NamesView} {between to : HallState} → who ≡ me → GivesNamesBack who after given between to
    → GivesNamesBack me after given between to
own_gave {who} {me} {after} {given} {between} {to} same gave = subst (λ (who : ℕ). GivesNamesBack who after given between to) same gave

pub unzone_named-freed-requires : goal.unzone_named-freed-requires
unzone_named-freed-requires g c =
    let held = c.in_ok-names.ensures.held in
    record {
      ready = subst (λ (who : ℕ). IsReadyNamed who c.take_names.new.self c.in_ok-names.names (g.H.Hall.state c.take_names.new.hall)) (sym held.same.me)
          (named_ready held);
    }

pub give_names-requires : goal.give_names-requires
give_names-requires g c =
    let freed = c.unzone_named-freed in
    let ready = freed.ensures.ready in
    record {
      may = subst (λ (who : ℕ). MayGiveNames who freed.new.self freed.new.names (g.H.Hall.state freed.new.hall)) (sym ready.same.me)
          (may_give ready.ready);
    }

pub tell-requires : goal.tell-requires
tell-requires g c =
    let doer = c.args.self.now in
    let me = doer.party.me in
    let mid = c.take_names.new.self in
    let after = c.unzone_named-freed.new.self in
    let given = c.unzone_named-freed.new.names in
    let between = g.H.Hall.state c.unzone_named-freed.new.hall in
    let to = g.H.Hall.state c.give_names.new.hall in
    let held = c.in_ok-names.ensures.held in
    let called = c.unzone_named-freed.ensures.ready in
    let mine = called.same.me ∙ held.same.me in
    let back = own_gave mine c.give_names.ensures.gave in
    record {
      ready = subst (λ (who : ℕ). IsReadyIn who after to) (sym mine)
          (ready_around held back.given back.slots back.others
          (subst (λ (who : ℕ). IsReadyNamed who after given between) held.same.me called.ready));
    }

pub returns-in_err-names-clause-halts : goal.returns-in_err-names-clause-halts
returns-in_err-names-clause-halts g c =
    let doer = c.args.self.now in
    let me = doer.party.me in
    let line = c.args.line.now in
    let from = g.H.Hall.state c.args.hall.now in
    let at = g.H.Hall.state c.take_names.new.hall in
    let facts = facts_for doer.party.socket doer.context line.act None in
    let known = facts_known doer.party.socket doer.context line None (subst (λ (deed : Act). HasLineRequest deed None) (sym c.requires.act) tt) in
    let goes : SharedNames → Doing = λ names. freeing_zone (searched_heap_at doer.context.pools) (zone_named c.args.name.now.text names) in
    on_err_any _ _
    (line_halted from.count (did_in me from at) line (moment me doer from) (moment me c.take_names.new.self at) facts known (reading_names goes)
    (unzones line c.args.name.now facts c.requires.act c.requires.attached) refl ([], once_none, c.in_err-names.ensures.halts (reading_names goes)))

pub returns-clause-does : goal.returns-clause-does
returns-clause-does g c =
    let doer = c.args.self.now in
    let me = doer.party.me in
    let mid = c.take_names.new.self in
    let after = c.unzone_named-freed.new.self in
    let last = c.tell.new.self in
    let line = c.args.line.now in
    let names = c.in_ok-names.names in
    let given = c.unzone_named-freed.new.names in
    let from = g.H.Hall.state c.args.hall.now in
    let at = g.H.Hall.state c.take_names.new.hall in
    let between = g.H.Hall.state c.unzone_named-freed.new.hall in
    let to = g.H.Hall.state c.give_names.new.hall in
    let end = g.H.Hall.state c.tell.new.hall in
    let held = c.in_ok-names.ensures.held in
    let called = c.unzone_named-freed.ensures.ready in
    let mine = called.same.me ∙ held.same.me in
    let back = own_gave mine c.give_names.ensures.gave in
    let facts = facts_for doer.party.socket doer.context line.act None in
    let known = facts_known doer.party.socket doer.context line None (subst (λ (deed : Act). HasLineRequest deed None) (sym c.requires.act) tt) in
    let goes : SharedNames → Doing = λ names. freeing_zone (searched_heap_at doer.context.pools) (zone_named c.args.name.now.text names) in
    let rest = left_of c.in_ok-left.heap c.in_ok-left.left in
    let did : DoesNamedOnce me mid after names given at between (goes (shared_of names)) rest =
    subst (λ (pools : List PoolLine). DoesNamedOnce me mid after names given at between
    (freeing_zone (searched_heap_at pools) (zone_named c.args.name.now.text (shared_of names))) rest)
    (ap (λ (context : Context). context.pools) held.context)
    (subst (λ (who : ℕ). DoesNamedOnce who mid after names given at between
    (freeing_zone (searched_heap_at mid.context.pools) (zone_named c.args.name.now.text (shared_of names))) rest) held.same.me
    c.in_ok-left.ensures.does) in
    let count =
    back.others.later.count
    ∙ ((g.met.H.Hall.goes_on_later _ _ c.unzone_named-freed.ensures.goes_on).count ∙ (g.met.H.Hall.goes_on_later _ _ c.take_names.ensures.goes_on).count) in
    if_ok _ (λ told. DoesLineHere me doer last from end line told) c.tell.result
    (λ told tells. line_told held back.given back.slots back.others line facts known goes
    (unzones line c.args.name.now facts c.requires.act c.requires.attached) after last end c.in_ok-left.left c.in_ok-left.heap did mine count told
    tells (act.Unzone c.args.name.now) c.requires.act (may_have c.args.name.now) called.context c.tell.ensures.ready.context) c.tell.ensures.does

pub returns-clause-halts : goal.returns-clause-halts
returns-clause-halts g c =
    let doer = c.args.self.now in
    let me = doer.party.me in
    let mid = c.take_names.new.self in
    let after = c.unzone_named-freed.new.self in
    let last = c.tell.new.self in
    let line = c.args.line.now in
    let names = c.in_ok-names.names in
    let given = c.unzone_named-freed.new.names in
    let from = g.H.Hall.state c.args.hall.now in
    let at = g.H.Hall.state c.take_names.new.hall in
    let between = g.H.Hall.state c.unzone_named-freed.new.hall in
    let to = g.H.Hall.state c.give_names.new.hall in
    let end = g.H.Hall.state c.tell.new.hall in
    let held = c.in_ok-names.ensures.held in
    let called = c.unzone_named-freed.ensures.ready in
    let mine = called.same.me ∙ held.same.me in
    let back = own_gave mine c.give_names.ensures.gave in
    let facts = facts_for doer.party.socket doer.context line.act None in
    let known = facts_known doer.party.socket doer.context line None (subst (λ (deed : Act). HasLineRequest deed None) (sym c.requires.act) tt) in
    let goes : SharedNames → Doing = λ names. freeing_zone (searched_heap_at doer.context.pools) (zone_named c.args.name.now.text names) in
    let rest = left_of c.in_ok-left.heap c.in_ok-left.left in
    let did : DoesNamedOnce me mid after names given at between (goes (shared_of names)) rest =
    subst (λ (pools : List PoolLine). DoesNamedOnce me mid after names given at between
    (freeing_zone (searched_heap_at pools) (zone_named c.args.name.now.text (shared_of names))) rest)
    (ap (λ (context : Context). context.pools) held.context)
    (subst (λ (who : ℕ). DoesNamedOnce who mid after names given at between
    (freeing_zone (searched_heap_at mid.context.pools) (zone_named c.args.name.now.text (shared_of names))) rest) held.same.me
    c.in_ok-left.ensures.does) in
    let count =
    back.others.later.count
    ∙ ((g.met.H.Hall.goes_on_later _ _ c.unzone_named-freed.ensures.goes_on).count ∙ (g.met.H.Hall.goes_on_later _ _ c.take_names.ensures.goes_on).count) in
    on_err_weaker c.tell.result
    (λ halts. told_stopped held back.given back.slots back.others line facts known goes
    (unzones line c.args.name.now facts c.requires.act c.requires.attached) after last end c.in_ok-left.left c.in_ok-left.heap did mine count halts)
    c.tell.ensures.halts

pub returns-clause-goes_on : goal.returns-clause-goes_on
returns-clause-goes_on g c =
    g.met.H.Hall.goes_on_then _ _ _
    (g.met.H.Hall.goes_on_then _ _ _ (g.met.H.Hall.goes_on_then _ _ _ c.take_names.ensures.goes_on c.unzone_named-freed.ensures.goes_on)
    c.give_names.ensures.goes_on) c.tell.ensures.goes_on

-- IT STOPPED MEANWHILE

pub returns-in_err-left-clause-goes_on : goal.returns-in_err-left-clause-goes_on
returns-in_err-left-clause-goes_on g c =
    g.met.H.Hall.goes_on_then _ _ _ (g.met.H.Hall.goes_on_then _ _ _ c.take_names.ensures.goes_on c.unzone_named-freed.ensures.goes_on)
    c.give_names.ensures.goes_on

pub returns-in_err-left-clause-ready : goal.returns-in_err-left-clause-ready
returns-in_err-left-clause-ready g c =
    let doer = c.args.self.now in
    let after = c.unzone_named-freed.new.self in
    let given = c.unzone_named-freed.new.names in
    let between = g.H.Hall.state c.unzone_named-freed.new.hall in
    let held = c.in_ok-names.ensures.held in
    let called = c.unzone_named-freed.ensures.ready in
    let mine = called.same.me ∙ held.same.me in
    let back = own_gave mine c.give_names.ensures.gave in
    record {
      same = same_then doer.party c.take_names.new.self.party after.party held.same called.same;
      ready = ready_around held back.given back.slots back.others
          (subst (λ (who : ℕ). IsReadyNamed who after given between) held.same.me called.ready);
    }

pub returns-in_err-left-clause-halts : goal.returns-in_err-left-clause-halts
returns-in_err-left-clause-halts g c =
    let doer = c.args.self.now in
    let me = doer.party.me in
    let mid = c.take_names.new.self in
    let after = c.unzone_named-freed.new.self in
    let line = c.args.line.now in
    let names = c.in_ok-names.names in
    let given = c.unzone_named-freed.new.names in
    let from = g.H.Hall.state c.args.hall.now in
    let at = g.H.Hall.state c.take_names.new.hall in
    let between = g.H.Hall.state c.unzone_named-freed.new.hall in
    let to = g.H.Hall.state c.give_names.new.hall in
    let held = c.in_ok-names.ensures.held in
    let called = c.unzone_named-freed.ensures.ready in
    let mine = called.same.me ∙ held.same.me in
    let back = own_gave mine c.give_names.ensures.gave in
    let facts = facts_for doer.party.socket doer.context line.act None in
    let known = facts_known doer.party.socket doer.context line None (subst (λ (deed : Act). HasLineRequest deed None) (sym c.requires.act) tt) in
    let goes : SharedNames → Doing = λ names. freeing_zone (searched_heap_at doer.context.pools) (zone_named c.args.name.now.text names) in
    let did : HaltsNamedOnce me mid after names given at between (goes (shared_of names)) =
    subst (λ (pools : List PoolLine). HaltsNamedOnce me mid after names given at between
    (freeing_zone (searched_heap_at pools) (zone_named c.args.name.now.text (shared_of names))))
    (ap (λ (context : Context). context.pools) held.context)
    (subst (λ (who : ℕ). HaltsNamedOnce who mid after names given at between
    (freeing_zone (searched_heap_at mid.context.pools) (zone_named c.args.name.now.text (shared_of names)))) held.same.me
    c.in_err-left.ensures.halts) in
    on_err_any _ _
    (line_stopped held back.given back.slots back.others line facts known goes
    (unzones line c.args.name.now facts c.requires.act c.requires.attached) did)
