-- A SYNC weighs 3, and goes to each that is to be told.
use Rattle.hp_serve.proofs.Weighs.{sync_weighs}
use Rattle.hp_serve.proofs.posting.tell_all.Goals as goal

pub tell_each-requires-clause-weighs : goal.tell_each-requires-clause-weighs
tell_each-requires-clause-weighs g c = sync_weighs c.framed-frame.result c.args.generation c.args.round c.framed-frame.ensures

pub returns-clause-told : goal.returns-clause-told
returns-clause-told g c =
    let told = c.tell_each.ensures.told in
    (c.framed-frame.result, told.0, told.1, c.framed-frame.ensures, told.2)
