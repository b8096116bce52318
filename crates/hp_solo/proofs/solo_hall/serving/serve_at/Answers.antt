-- One that served stands where it stood, and all others stay.
use Rattle.std.proofs.Common.{◌≡◌, ℕ, List, length, set, Option, Some, refl, sym, ap, subst, ◌∙◌, arith, length-set}
use Rattle.std.specs.List.{slice_get}
use Rattle.std.proofs.lemmas.Option.{slice_get_read}
use Rattle.hp_plain.proofs.Slotted.{slice_get-set_other, slice_get-set_same}
use Rattle.hp_plain.specs.Course.{done_same}
use Rattle.hp_serve.specs.Party.{Party}
use Rattle.hp_solo.specs.Served.{KeepsServingAt}
use Rattle.hp_solo.specs.Solo.{IsServerAtRest, AloneView, LooksLastAt, denials_in, party_at, party_in, server_at}
use Rattle.hp_solo.proofs.Keeping.{keeps_one}
use Rattle.hp_solo.proofs.SoloLooks.{last_one}
use Rattle.hp_solo.proofs.SoloRises.{rising_more, rising_same}
use Rattle.hp_solo.proofs.SoloQuiet.{quiet_one}
use Rattle.hp_solo.proofs.SoloTies.{served_later, served_one, tied_in}
use Rattle.hp_solo.proofs.SoloWeights.{served_falls}
use Rattle.hp_solo.proofs.Visited.{visit_one}
use Rattle.hp_solo.proofs.solo_hall.serving.serve_at.Goals as goal

-- what holds at one number holds at each that is it
at_one : (Holds : ℕ → Type 0) (number : ℕ) → Holds number → (who : ℕ) → who ≡ number → Holds who
at_one Holds number here who is = subst Holds (sym is) here

pub serve-requires-clause-tied : goal.serve-requires-clause-tied
serve-requires-clause-tied g c =
    let servers = c.args.servers.now.items in
    let server = c.index_mut-server.result.now in
    let there : slice_get servers c.args.number ≡ Some server =
    slice_get_read servers (length servers) c.args.number server refl c.requires.within c.index_mut-server.ensures.value in
    tied_in c.args.hall.now servers c.args.number server there (omega (arith, c.requires.within, c.requires.count)) c.requires.tied

pub returns : goal.returns
returns g c =
    let old = c.args.hall.now in
    let new = c.serve.new.hall in
    let servers = c.args.servers.now.items in
    let server = c.index_mut-server.result.now in
    let after = c.serve.new.self in
    let there : slice_get servers c.args.number ≡ Some server =
    slice_get_read servers (length servers) c.args.number server refl c.requires.within c.index_mut-server.ensures.value in
    let one = served_one old new servers c.args.number server after there c.requires.tied c.serve.ensures.served c.serve.ensures.limits c.serve.ensures.stopped
    c.serve.ensures.serves in
    let numbered : (party : Party) → server.party ≡ Some party → party.me ≡ c.args.number =
    λ party is. (c.requires.tied c.args.number party (ap party_in there ∙ is)).number in
    let behind : List AloneView = set servers c.args.number after in
    record {
      served = record {
        serving = one.serving;
        rising =
            rising_more c.args.number old old new (rising_same old) (λ who behind. done_same old who) one.serving.course one.serving.did;
        places = λ who apart. slice_get-set_other servers c.args.number who after apart;
        keeps =
            at_one (λ (who : ℕ). KeepsServingAt (denials_in (server_at servers who)) old new who (party_at servers who)) c.args.number
            (subst (λ (place : Option AloneView). KeepsServingAt (denials_in place) old new c.args.number (party_in place)) (sym there)
            (keeps_one (denials_in (Some server)) old new c.args.number server.party numbered c.serve.ensures.keeps));
        rests =
            at_one (λ (who : ℕ). IsServerAtRest new.clock (server_at behind who)) c.args.number
            (subst (IsServerAtRest new.clock) (sym (slice_get-set_same servers c.args.number after c.requires.within)) c.serve.ensures.rests);
        looks =
            at_one (λ (who : ℕ). LooksLastAt old new who (server_at behind who)) c.args.number
            (subst (LooksLastAt old new c.args.number) (sym (slice_get-set_same servers c.args.number after c.requires.within))
            (λ going some.
            last_one old new c.args.number server.party after.party numbered
            (served_later old new server.party after.party c.serve.ensures.served) (c.serve.ensures.looks going) some));
        quiet = λ nothing.
            quiet_one old new servers c.args.number server after there numbered
            (c.serve.ensures.idle nothing) (c.serve.ensures.found nothing);
      };
      tied = one.tied;
      later = one.later;
      count = length-set servers c.args.number after;
      measure = served_falls old new servers c.args.number server after c.serve.result there one.serving.clock c.serve.ensures.measure;
      visited =
          visit_one old new servers c.args.number server after there numbered c.serve.ensures.served c.serve.ensures.limits c.serve.ensures.stopped
          c.serve.ensures.visited;
    }
