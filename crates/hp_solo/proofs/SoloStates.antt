-- What a call of the plain values leaves, the hall of one thread over them leaves.
use Rattle.std.proofs.Common.{◌≡◌, ℕ, ◌+◌, ◌≤◌, List, ap, arith}
use Rattle.hp_hall.specs.HallCalls.{HasComeTo, HasGiven, HasLoadedLines, HasPublished, HasReadPair, HasStored, HasTaken}
use Rattle.hp_hall.specs.HallState.{Did, MineStay, OthersStay, SlotsStay, SlotsStayBut, Stays}
use Rattle.hp_hall.specs.Mail.{MailStep}
use Rattle.hp_hall.specs.Own.{Own}
use Rattle.hp_hall.specs.Measures.{boxes_measure, pending_at}
use Rattle.hp_hall.specs.declared.kept.Kept.{Kept}
use Rattle.hp_stats.specs.declared.stat_pair.StatPair.{StatPair}
use Rattle.hp_plain.specs.HallView.{HallView}
use Rattle.hp_plain.specs.PlainState.{plain_state}
use Rattle.hp_solo.specs.Solo.{AloneView, SoloView, servers_measure, solo_measure}
use Rattle.hp_solo.specs.SoloCourse.{IsSoloCourse}
use Rattle.hp_solo.specs.SoloState.{solo_later, solo_state}

-- the values went from one state to another, and those who serve stayed
module _ (me : ℕ) (old new : HallView) (servers : List AloneView) where
  abbrev before : SoloView
  before = record { plain = old; servers = servers }

  abbrev after : SoloView
  after = record { plain = new; servers = servers }

  pub did_over : (steps : List MailStep) → Did me steps (plain_state old) (plain_state new) → Did me steps (solo_state before) (solo_state after)
  did_over steps did = record { made = did.made }

  pub slots_over : SlotsStay (plain_state old) (plain_state new) → SlotsStay (solo_state before) (solo_state after)
  slots_over slots = record { taken = slots.taken; home = slots.home }

  pub but_over : (slot : ℕ) → SlotsStayBut slot (plain_state old) (plain_state new) → SlotsStayBut slot (solo_state before) (solo_state after)
  but_over slot but = record { taken = but.taken; home = but.home }

  pub mine_over : MineStay me (plain_state old) (plain_state new) → MineStay me (solo_state before) (solo_state after)
  mine_over mine = record { parts = record { part = mine.parts.part; joined = mine.parts.joined; lines = mine.parts.lines }; own = mine.own }

  pub others_over : IsSoloCourse before after → OthersStay me (plain_state old) (plain_state new)
      → OthersStay me (solo_state before) (solo_state after)
  others_over course others = record {
    part = others.part;
    joined = others.joined;
    own = others.own;
    lines = others.lines;
    done = others.done;
    clock = others.clock;
    later = solo_later before after course;
  }

  pub stays_over : IsSoloCourse before after → Stays me (plain_state old) (plain_state new) → Stays me (solo_state before) (solo_state after)
  stays_over course stays = record {
    slots = slots_over stays.slots;
    mine = mine_over stays.mine;
    others = others_over course stays.others;
  }

  pub taken_over : (slot : ℕ) (kept : Kept) → HasTaken me slot kept (plain_state old) (plain_state new)
      → HasTaken me slot kept (solo_state before) (solo_state after)
  taken_over slot kept took = record {
    fits = took.fits;
    sound = took.sound;
    pairs = took.pairs;
    entries = took.entries;
    marks = took.marks;
    log = took.log;
    asks = took.asks;
    names = took.names;
    roster = took.roster;
    stands = took.stands;
    claimed = took.claimed;
    mapped = took.mapped;
    part = took.part;
    joined = took.joined;
    own = took.own;
    lines = took.lines;
    taken = took.taken;
    did = record { made = took.did.made };
  }

  pub given_over : (slot : ℕ) (kept : Kept) → HasGiven me slot kept (plain_state old) (plain_state new)
      → HasGiven me slot kept (solo_state before) (solo_state after)
  given_over slot kept gave = record {
    taken = gave.taken;
    home = gave.home;
    part = gave.part;
    joined = gave.joined;
    own = gave.own;
    lines = gave.lines;
    log = gave.log;
    sees = gave.sees;
    asks = gave.asks;
    names = gave.names;
    shown = gave.shown;
    mapped = gave.mapped;
    did = record { made = gave.did.made };
  }

  pub comes_over : (part : Own) (steps : List MailStep) → IsSoloCourse before after → HasComeTo me part steps (plain_state old) (plain_state new)
      → HasComeTo me part steps (solo_state before) (solo_state after)
  comes_over part steps course comes = record {
    own = comes.own;
    parts = record { part = comes.parts.part; joined = comes.parts.joined; lines = comes.parts.lines };
    slots = slots_over comes.slots;
    others = others_over course comes.others;
    did = did_over steps comes.did;
  }

  pub stored_over : (lines : ℕ) → IsSoloCourse before after → HasStored me lines (plain_state old) (plain_state new)
      → HasStored me lines (solo_state before) (solo_state after)
  stored_over lines course stored = record {
    lines_are = stored.lines_are;
    part = stored.part;
    joined = stored.joined;
    own = stored.own;
    slots = slots_over stored.slots;
    others = others_over course stored.others;
    did = record { made = stored.did.made };
  }

  pub loaded_over : (participant lines : ℕ) → IsSoloCourse before after → HasLoadedLines me participant lines (plain_state old) (plain_state new)
      → HasLoadedLines me participant lines (solo_state before) (solo_state after)
  loaded_over participant lines course loaded = record {
    known = loaded.known;
    noted = loaded.noted;
    mine = loaded.mine;
    did = record { made = loaded.did.made };
    stays = stays_over course loaded.stays;
  }

  pub read_over : (index : ℕ) (p : StatPair) → IsSoloCourse before after → HasReadPair me index p (plain_state old) (plain_state new)
      → HasReadPair me index p (solo_state before) (solo_state after)
  read_over index p course read = record {
    not_below = read.not_below;
    shown = read.shown;
    did = record { made = read.did.made };
    stays = stays_over course read.stays;
  }

  pub published_over : (index : ℕ) (kept late : Kept) → IsSoloCourse before after → HasPublished me index kept late (plain_state old) (plain_state new)
      → HasPublished me index kept late (solo_state before) (solo_state after)
  published_over index kept late course published = record {
    kept_after = published.kept_after;
    told = published.told;
    apart = published.apart;
    shown = published.shown;
    joined = published.joined;
    own = published.own;
    lines = published.lines;
    seen = published.seen;
    heard = published.heard;
    slots = slots_over published.slots;
    others = others_over course published.others;
    did = record { made = published.did.made };
  }

  pub measure_over : (more : ℕ) → new.clock ≡ old.clock → boxes_measure new.boxes ≤ boxes_measure old.boxes + more
      → solo_measure after ≤ solo_measure before + more
  measure_over more clock less = omega (arith, less, ap (λ (at : ℕ). servers_measure (pending_at at) servers) clock)

  pub measure_less : (less : ℕ) → new.clock ≡ old.clock → boxes_measure new.boxes + less ≤ boxes_measure old.boxes
      → solo_measure after + less ≤ solo_measure before
  measure_less less clock falls = omega (arith, falls, ap (λ (at : ℕ). servers_measure (pending_at at) servers) clock)

  pub measure_same : new.clock ≡ old.clock → boxes_measure new.boxes ≤ boxes_measure old.boxes → solo_measure after ≤ solo_measure before
  measure_same clock less = omega (arith, less, ap (λ (at : ℕ). servers_measure (pending_at at) servers) clock)
