use Rattle.test_solo.proofs.plain.messages.post.Goals as goal

pub returns : goal.returns
returns c = record {
  count = c.post.ensures.goes_on.count;
  home = λ number below. c.post.ensures.stays.slots.home number (c.requires.home number below);
}
