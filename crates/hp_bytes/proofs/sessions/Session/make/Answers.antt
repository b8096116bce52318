-- The label is live, or the size is refused, or the heap was asked.
use Rattle.std.proofs.Common.{sym, ◌∙◌}
use Rattle.std.proofs.lemmas.Result.{IfOk-weaker}
use Rattle.hp_bytes.proofs.NewLemmas.{make_asked, make_bad, make_live, none_there}
use Rattle.hp_bytes.proofs.sessions.Session.make.Goals as goal

pub returns-then-is_some : goal.returns-then-is_some
returns-then-is_some c =
    make_live c.args.number c.args.label.now c.args.size c.args.self.now c.requires.session c.sound.ensures.tiled c.find.result c.find.ensures (sym c.is_some.ensures ∙ c.if-is_some.true)

pub returns-in-Ok : goal.returns-in-Ok
returns-in-Ok c =
    let fresh = none_there c.find.result _ c.find.ensures (sym c.is_some.ensures ∙ c.if-is_some.false) in
    IfOk-weaker c.allocate.result _ _
    (λ given is.
    make_asked c.args.number c.args.label.now c.args.size c.args.self.now c.requires.session c.sound.ensures.tiled fresh c.in-Ok.request c.allocate.new.self given (sym c.in-Ok.ensures.refused)
    (record { size = c.in-Ok.ensures.size; align = c.in-Ok.ensures.align; bound = c.in-Ok.ensures.bound; flags = c.in-Ok.ensures.flags }) is)
    c.allocate.ensures

pub returns-in-Err : goal.returns-in-Err
returns-in-Err c =
    let fresh = none_there c.find.result _ c.find.ensures (sym c.is_some.ensures ∙ c.if-is_some.false) in
    make_bad c.args.number c.args.label.now c.args.size c.args.self.now c.requires.session c.sound.ensures.tiled fresh c.in-Err.why (sym c.in-Err.ensures.refused)
