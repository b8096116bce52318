use Rattle.std.proofs.Common.{sym}
use Rattle.test_solo.proofs.plain.values.number_of.Goals as goal

pub returns : goal.returns
returns c = record {
  home = λ number below. c.load_ack.ensures.stays.slots.home number (c.requires.home number below);
  count = c.load_ack.ensures.goes_on.count;
  number = sym c.load_ack.ensures.noted;
  did = c.load_ack.ensures.did;
  others = c.load_ack.ensures.stays.others;
}
