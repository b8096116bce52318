use Rattle.test_solo.proofs.plain.messages.fetch.Goals as goal

pub returns : goal.returns
returns c = record {
  count = c.fetch.ensures.goes_on.count;
  home = λ number below. c.fetch.ensures.stays.slots.home number (c.requires.home number below);
}
