use Rattle.test_solo.proofs.plain.notes.read.Goals as goal

pub returns : goal.returns
returns c = record {
  count = c.now.ensures.goes_on.count;
  home = λ number below. c.now.ensures.stays.slots.home number (c.requires.home number below);
  did = c.now.ensures.did;
  others = c.now.ensures.stays.others;
}
