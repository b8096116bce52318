-- What stands between the servings of an ask stays where mailboxes alone change.
use Rattle.std.proofs.Common.{◌≡◌, ℕ, List, length}
use Rattle.hp_frame.specs.declared.frame.Frame.{Frame}
use Rattle.hp_frame.specs.declared.message.Body.{Body}
use Rattle.hp_serve.specs.Party.{Party}
use Rattle.thm_causes.specs.RoundTrip.{IsBase, IsInPlace, Setting, RunState}
use Rattle.thm_causes.specs.Shared.{with_boxes}
use Rattle.thm_causes.proofs.Said.{AreAllSaid}

-- a world of which the mailboxes alone have come to others
abbrev pub world_mailed : List (List Frame) → List (List Body) → RunState → RunState
world_mailed boxes mail world = record { shared = with_boxes boxes world.shared; mail = mail; parties = world.parties }

module _ (set : Setting) (world : RunState) (boxes : List (List Frame)) (mail : List (List Body)) where
  place_mailed : (who : ℕ) (party : Party) → IsInPlace set world who party → IsInPlace set (world_mailed boxes mail world) who party
  place_mailed who party is = record {
    me = is.me;
    deadline = is.deadline;
    plan = is.plan;
    joined = is.joined;
    number = is.number;
    within = is.within;
    granted = is.granted;
    failed = is.failed;
    closed = is.closed;
    follower = is.follower;
    syncs = is.syncs;
  }

  -- what holds at each moment holds where the mailboxes have come to others that say this
  pub base_mailed : IsBase set world → length boxes ≡ set.count → length mail ≡ set.count → AreAllSaid boxes mail
      → IsBase set (world_mailed boxes mail world)
  base_mailed base wide long said = record {
    boxes = wide;
    numbers = base.numbers;
    mail = long;
    parties = base.parties;
    said = said;
    sound = base.sound;
    armed = base.armed;
    primary = base.primary;
    declared = base.declared;
    places = λ who party there. place_mailed who party (base.places who party there);
    noted = λ cause is. (let noted = base.noted cause is in record {
      who = noted.who;
      call = noted.call;
      addr = noted.addr;
      got = noted.got;
      is = noted.is;
      made = noted.made;
    });
    excused = λ who primary party first there. (let excused = base.excused who primary party first there in
        record { late = excused.late; withdrawn = excused.withdrawn });
    apart = base.apart;
  }
