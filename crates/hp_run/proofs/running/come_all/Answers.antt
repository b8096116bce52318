-- One participant more comes.
use Rattle.std.proofs.Common.{◌≡◌, ◌∙◌, ℕ, Bool, List, [], Some, drop, map, ap, sym, subst, arith}
use Rattle.std.specs.Option.{option_map}
use Rattle.std.proofs.lemmas.Option.{slice_get-map}
use Rattle.hp_events.specs.declared.validator.Validator.{Validator}
use Rattle.hp_serve.specs.Party.{Party}
use Rattle.hp_solo.specs.Solo.{server_at, with_party}
use Rattle.hp_solo.proofs.Pushed.{first_left, one_less}
use Rattle.hp_run.specs.Opening.{IsPartyOver, IsPlannedParty}
use Rattle.hp_run.proofs.Coming.{HaveComeBelow, all_come, first_stays, given_by, number_planned, one_comes, tied_planned}
use Rattle.hp_run.proofs.running.come_all.Goals as goal

pub back-requires-clause-tied : goal.back-requires-clause-tied
back-requires-clause-tied g c =
    let workload = c.args.workload.now in
    rw c.in_ok-judged.ensures.ok
    (tied_planned workload c.loop-who.who (g.M.Mapper.may_fail c.remove-mapper.result) c.in_ok-server.server
    c.in_ok-server.ensures (given_by workload c.requires.runnable)
    (omega (arith, c.loop-who-test.true, c.loop-who.auto.who-end)) c.loop-who.hall
    (first_stays workload c.args.hall.now c.loop-who.hall c.requires.empty.0 c.loop-who.invariant.plain))

pub loop-who-preserved : goal.loop-who-preserved
loop-who-preserved g c =
    let workload = c.args.workload.now in
    let tell = g.M.Mapper.may_fail in
    let all = c.args.mappers.items in
    let who = c.loop-who.who in
    let mapper = c.remove-mapper.result in
    let judged = c.in_ok-judged.judged.value in
    let party = judged.server in
    let made : judged ≡ record { server = c.in_ok-server.server; limits = c.new-limits.result } = c.in_ok-judged.ensures.ok in
    let planned : IsPlannedParty workload who (tell mapper) party =
    subst (λ (party : Party). IsPlannedParty workload who (tell mapper) party) (sym (ap (λ (it : _). it.server) made)) c.in_ok-server.ensures in
    let none : judged.limits ≡ [] = ap (λ (it : _). it.limits) made ∙ c.new-limits.ensures in
    let was = c.loop-who.invariant in
    let old = c.loop-who.hall.servers in
    let new = c.back.new.self.servers in
    let number : party.me ≡ who = number_planned workload who (tell mapper) party planned in
    let over : IsPartyOver workload (map tell all) who party =
    record {
      may_fail = tell mapper;
      its = slice_get-map tell all who
          ∙ ap (option_map tell)
          (first_left all c.loop-who.mappers.items who mapper (omega (arith, c.loop-who-test.true, c.loop-who.auto.who-end, c.requires.count))
          was.left c.remove-mapper.ensures.value);
      planned = planned;
    } in
    record {
      left = c.remove-mapper.ensures.items ∙ ap (λ (rest : List _). drop 1 rest) was.left ∙ one_less all who;
      come = one_comes workload (map tell all) who party old new (omega (arith, c.loop-who-test.true, c.loop-who.auto.who-end)) was.come over
          (subst (λ (limits : List (Validator Bool)). server_at new who ≡ option_map (with_party (Some party) limits) (server_at old who)) none
          (subst (λ (n : ℕ). server_at new n ≡ option_map (with_party (Some party) judged.limits) (server_at old n)) number
          c.back.ensures.place))
          (λ other differ. c.back.ensures.others other (λ same. differ (same ∙ number)));
      plain = c.back.ensures.plain ∙ was.plain;
    }

pub returns-clause-come : goal.returns-clause-come
returns-clause-come g c =
    let workload = c.args.workload.now in
    let mappers = map g.M.Mapper.may_fail c.args.mappers.items in
    let all : c.loop-who.who ≡ workload.participants = omega (arith, c.loop-who-test.false, c.loop-who.auto.who-end) in
    all_come workload mappers c.loop-who.hall.servers
    (subst (λ (n : ℕ). HaveComeBelow workload mappers n c.loop-who.hall.servers) all c.loop-who.invariant.come)
