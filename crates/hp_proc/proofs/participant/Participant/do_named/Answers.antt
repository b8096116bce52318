-- The line has its heap by the names, or ends with what its name means.
use Rattle.std.proofs.Common.{Err, inl, inr, refl}
use Rattle.hp_proc.proofs.NamedTrees.{few_at, refused_tree, refused_undone}
use Rattle.hp_proc.proofs.ThereDone.{halts_once, on_err_map, once_there, refused_once}
use Rattle.hp_proc.proofs.participant.Participant.do_named.Goals as goal
use Rattle.hp_proc.specs.Handing.{shared_of}
use Rattle.hp_proc.specs.LineTrees.{doing_named}
use Rattle.hp_serve.proofs.AskingFacts.AskedAlong.{if_ok}

pub do_there-requires-clause-few : goal.do_there-requires-clause-few
do_there-requires-clause-few g c =
    few_at c.args.self.now.party.me c.args.self.now.context.pools c.args.names.now c.requires.ready.sound.1 c.requires.ready.sockets c.args.act.now
    c.in-Ok.index c.requires.external c.in-Ok.ensures

pub returns-in-Ok-clause-does : goal.returns-in-Ok-clause-does
returns-in-Ok-clause-does g c = if_ok _ _ c.do_there.result (λ said was. once_there was) c.do_there.ensures.does

pub returns-in-Ok-clause-halts : goal.returns-in-Ok-clause-halts
returns-in-Ok-clause-halts g c = on_err_map c.do_there.result (λ was. halts_once was) c.do_there.ensures.halts

pub returns-in-Ok-clause-noted : goal.returns-in-Ok-clause-noted
returns-in-Ok-clause-noted g c = if_ok _ _ c.do_there.result (λ said was. inr (c.in-Ok.index, c.in-Ok.ensures, was)) c.do_there.ensures.noted

pub returns-in-Err-clause-does : goal.returns-in-Err-clause-does
returns-in-Err-clause-does g c =
    let doer = c.args.self.now in
    let names = c.args.names.now in
    refused_once doer names (g.H.Hall.state c.args.hall.now)
    (doing_named doer.party.me doer.context.pools c.args.act.now (shared_of names)) c.in-Err.answer
    (refused_tree doer.party.me doer.context.pools names c.requires.ready.sound.1 c.requires.ready.sockets c.args.act.now c.in-Err.answer
    c.requires.external c.in-Err.ensures)

pub returns-in-Err-clause-noted : goal.returns-in-Err-clause-noted
returns-in-Err-clause-noted g c =
    inl (refused_undone c.args.names.now.heaps.plain c.args.act.now c.in-Err.answer c.requires.external c.in-Err.ensures, refl)

pub returns-in-Err-clause-goes_on : goal.returns-in-Err-clause-goes_on
returns-in-Err-clause-goes_on g c = g.met.H.Hall.goes_on_same _
