use Rattle.std.proofs.Common.{◌≡◌, [], arith, rules}
use Rattle.std.proofs.lemmas.Grind.{common_steps}
use Rattle.hp_zone.specs.Directory.{AreApart}
use Rattle.hp_zone.proofs.NameLemmas.{opening_is_apart}
use Rattle.hp_zone.proofs.SocketLemmas.{fronts_opened, sockets_opened}
use Rattle.hp_zone.proofs.directory.Directory.new.Goals as goal

pub invariant_of-result : goal.invariant_of-result
invariant_of-result c =
    let apart : AreApart c.in_ok-heaps.heaps.items = rw c.in_ok-heaps.ensures (opening_is_apart c.args.sockets.now c.requires) in
    let same : c.in_ok-opened.opened.items ≡ c.args.sockets.now = search rules in
    let empty : c.reserve.new.self.items ≡ [] = search rules in
    rw c.in_ok-new.ensures.ok
    (record {
      sound = record {
        replayed = search rules;
        given = search rules;
        next = search rules;
        last = search rules;
        indexes = grind (arith, common_steps);
        apart = apart;
        opened = search rules;
        socket_heaps = rw (same, c.in_ok-heaps.ensures) (sockets_opened c.args.sockets.now);
        fronts = rw (same, empty) (fronts_opened c.args.sockets.now);
      };
      room = grind (arith, common_steps);
    })
