-- One participant more has left.
use Rattle.std.proofs.Common.{◌≡◌, ℕ, ◌<◌, [], ◌∷◌, List, drop, length, Option, Some, length-append, sym, ap, subst, refl, ◌∙◌, arith}
use Rattle.std.specs.List.{slice_get}
use Rattle.std.specs.Option.{IsSome}
use Rattle.hp_events.specs.Watchers.{WatchersView}
use Rattle.hp_maps.specs.declared.table.Table.{Table}
use Rattle.hp_serve.specs.Party.{Party}
use Rattle.hp_solo.specs.Ending.{LeavesListeners, LeavesThere}
use Rattle.hp_solo.specs.Solo.{AloneView, party_at, party_in, server_at}
use Rattle.hp_solo.proofs.Pushed.{each_pushed, first_left, one_less}
use Rattle.hp_solo.proofs.solo_hall.ending.ends_of.Goals as goal

pub remove-server-requires : goal.remove-server-requires
remove-server-requires g c =
    omega (arith, c.loop-number-test.true, c.len-many.ensures, c.args.servers.ok.0, c.loop-number.invariant.rest)

pub end-requires : goal.end-requires
end-requires g c =
    let all = c.args.servers.items in
    let number = c.loop-number._number in
    let below : number < length all = omega (arith, c.remove-server.ensures.len, c.loop-number.invariant.rest) in
    let here : server_at all number ≡ Some c.remove-server.result =
    first_left all c.loop-number.servers.items number c.remove-server.result below c.loop-number.invariant.left c.remove-server.ensures.value in
    subst IsSome (ap party_in here) (c.requires number below)

pub push_reserved-requires : goal.push_reserved-requires
push_reserved-requires g c =
    let was = c.loop-number.invariant in
    omega (arith, c.loop-number.tables.ok.0, c.remove-server.ensures.len, was.rest, was.count, was.room)

pub push_reserved-requires-in-loop-number : goal.push_reserved-requires-in-loop-number
push_reserved-requires-in-loop-number g c =
    let was = c.loop-number.invariant in
    omega (arith, c.loop-number.watchers.ok.0, was.told, c.remove-server.ensures.len, was.rest, was.more)

pub loop-number-init : goal.loop-number-init
loop-number-init g c = record {
  left = refl;
  rest = omega (arith, c.args.servers.ok.0);
  count = ap length c.in_ok-tables.ensures.items;
  room = omega (arith, c.in_ok-tables.ensures.capacity, c.len-many.ensures, c.args.servers.ok.0);
  more = omega (arith, c.in_ok-watchers.ensures.capacity, c.len-many.ensures, c.args.servers.ok.0);
  each = λ who table is.
      let nowhere : slice_get {X = Table} [] who ≡ Some table =
      subst (λ (tables : List Table). slice_get tables who ≡ Some table) c.in_ok-tables.ensures.items is in
      cc;
  told = ap length c.in_ok-watchers.ensures.items;
  heard = λ who own is.
      let nowhere : slice_get {X = WatchersView} [] who ≡ Some own =
      subst (λ (watchers : List WatchersView). slice_get watchers who ≡ Some own) c.in_ok-watchers.ensures.items is in
      cc;
}

pub loop-number-preserved : goal.loop-number-preserved
loop-number-preserved g c =
    let all = c.args.servers.items in
    let number = c.loop-number._number in
    let was = c.loop-number.invariant in
    let server = c.remove-server.result in
    let tables = c.loop-number.tables.items in
    let table = c.in_ok-end.end.table in
    let more = c.push_reserved.ensures.items in
    let below : number < length all = omega (arith, c.remove-server.ensures.len, was.rest) in
    let here : server_at all number ≡ Some server =
    first_left all c.loop-number.servers.items number server below was.left c.remove-server.ensures.value in
    let watchers = c.loop-number.watchers.items in
    let own = c.in_ok-end.end.watchers in
    let most = c.push_reserved-in-loop-number.ensures.items in
    let heard : LeavesListeners (party_at all number) own.listeners =
    subst (λ (party : Option Party). LeavesListeners party own.listeners) (sym (ap party_in here)) c.in_ok-end.ensures.watchers in
    let left : LeavesThere (party_at all number) table =
    subst (λ (party : Option Party). LeavesThere party table) (sym (ap party_in here)) c.in_ok-end.ensures.table in
    record {
      left = c.remove-server.ensures.items ∙ ap (λ (rest : List AloneView). drop 1 rest) was.left ∙ one_less all number;
      rest = omega (arith, c.remove-server.ensures.len, was.rest);
      count = omega (arith, ap length more, length-append tables (table ∷ []), was.count);
      room = omega (arith, c.push_reserved.ensures.capacity, was.room);
      more = omega (arith, c.push_reserved-in-loop-number.ensures.capacity, was.more);
      each = subst (λ (tables : List Table). (who : ℕ) (one : Table) → slice_get tables who ≡ Some one → LeavesThere (party_at all who) one)
          (sym more)
          (each_pushed (λ who one. LeavesThere (party_at all who) one) tables table was.each
          (subst (λ n. LeavesThere (party_at all n) table) (sym was.count) left));
      told = omega (arith, ap length most, length-append watchers (own ∷ []), was.told);
      heard = subst
          (λ (watchers : List WatchersView). (who : ℕ) (one : WatchersView) → slice_get watchers who ≡ Some one
          → LeavesListeners (party_at all who) one.listeners)
          (sym most)
          (each_pushed (λ who one. LeavesListeners (party_at all who) one.listeners) watchers own was.heard
          (subst (λ n. LeavesListeners (party_at all n) own.listeners) (sym was.told) heard));
    }

pub returns-clause-tables : goal.returns-clause-tables
returns-clause-tables g c = record {
  count = omega (arith, c.loop-number.invariant.count, c.loop-number-test.false, c.loop-number.auto._number-end, c.len-many.ensures, c.args.servers.ok.0);
  each = c.loop-number.invariant.each;
}

pub returns-clause-watchers : goal.returns-clause-watchers
returns-clause-watchers g c = record {
  count = omega (arith, c.loop-number.invariant.told, c.loop-number-test.false, c.loop-number.auto._number-end, c.len-many.ensures, c.args.servers.ok.0);
  each = c.loop-number.invariant.heard;
}
