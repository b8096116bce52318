-- It has caught up with its own coordinator and table.
use Rattle.std.proofs.Common.{◌≡◌, ◌∙◌, refl, sym, subst}
use Rattle.std.specs.Prelude.{Some}
use Rattle.std.specs.Result.{result_ok}
use Rattle.hp_serve.specs.Coordinating.{IsMapped}
use Rattle.hp_serve.specs.Party.{Party, with_table}
use Rattle.hp_serve.proofs.Posted.{table_back}
use Rattle.hp_serve.specs.InHall.{IsTiedIn}
use Rattle.hp_serve.proofs.InHalls.{alone_of}
use Rattle.hp_serve.proofs.server.Server.map_again.Goals as goal

pub map_self-requires : goal.map_self-requires
map_self-requires g c = record {
  may_ask = c.requires.may_ask;
  may = c.requires.can.may;
  tied = subst (λ (party : Party). IsTiedIn 0 party (g.H.Hall.state c.args.hall.now)) (sym c.self.view_is) c.requires.can.tied;
}

pub returns-clause-mapped : goal.returns-clause-mapped
returns-clause-mapped g c =
    let inside : Party = record {
      me = c.self.inside.me;
      socket = c.self.inside.socket;
      joined = c.self.inside.joined;
      maps = c.self.inside.maps;
      listeners = c.self.inside.watchers.listeners;
      plan = c.self.inside.plan.now;
      deadline = c.self.inside.deadline;
      core = c.self.inside.coordinator;
      asked = c.self.inside.asked;
      answered = c.self.inside.answered;
      sent = c.self.inside.sent;
    } in
    let mapped = c.map_self.ensures.mapped in
    let is : c.self.inside.coordinator ≡ Some c.in-Some.core = cc in (
      mapped.0,
      mapped.1,
      subst
          (λ (party : Party). IsMapped party (with_table c.map_self.new.core c.map_self.new.maps c.map_self.new.watchers.listeners c.map_self.new.joined inside) mapped.0
          (result_ok c.map_self.result)) (table_back inside c.in-Some.core is ∙ c.self.view_is) (mapped.2 inside),
    )

pub returns-clause-measure : goal.returns-clause-measure
returns-clause-measure g c = c.map_self.ensures.stays.measure

pub returns-clause-alone : goal.returns-clause-alone
returns-clause-alone g c =
    let stays = c.map_self.ensures.stays in
    alone_of c.self.view_is (record { me = refl; socket = refl; plan = refl; deadline = refl }) c.map_self.ensures.tied
    stays.slots stays.parts stays.others
