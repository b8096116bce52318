-- Where all came home, the first segment value led to the last one by calls.
use Rattle.std.proofs.Common.{List, [], ◌∷◌, ◌++◌, subst}
use Rattle.std.specs.List.{All}
use Rattle.std.proofs.lemmas.List.Elements.{All-head, All-tail}
use Rattle.hp_segs.specs.Moved.{Leads, SegsCall, after}
use Rattle.hp_segs.specs.SegsView.{SegsView}
use Rattle.hp_weave.specs.Holds.{Chain, Hold}
use Rattle.thm_run.specs.SoFar.{first_segs}
use Rattle.thm_together.specs.CameHome.{IsLed, LedWhereHome}

-- calls after calls
leads_on : (calls more : List SegsCall) (first mid last : SegsView) → Leads calls first mid → Leads more mid last
    → Leads (calls ++ more) first last
leads_on [] more first mid last here next = subst (λ (segs : SegsView). Leads more segs last) here next
leads_on (call ∷ calls) more first mid last here next = (here.0, leads_on calls more (after call first) mid last here.1 next)

-- along a chain of holds
led_along : (first last : SegsView) (holds : List (Hold SegsView)) → Chain first holds last → All IsLed holds
    → (calls : List SegsCall) × Leads calls first last
led_along first last [] same led = ([], same)
led_along first last (hold ∷ holds) chain led =
    let here = All-head IsLed hold holds led in
    let later = led_along hold.given last holds chain.1 (All-tail IsLed hold holds led) in (
      here.0 ++ later.0,
      leads_on here.0 later.0 first hold.given last (subst (λ (taken : SegsView). Leads here.0 taken hold.given) chain.0 here.1) later.1,
    )

pub led_where_home : LedWhereHome
led_where_home workload answers heaps segs tables home = led_along (first_segs workload) segs home.holds home.held.chain home.held.led
