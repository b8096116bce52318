use Rattle.std.proofs.Common.{length, ap, ◌∙◌, refl}
use Rattle.hp_freelist.specs.Lists.{is_listed}
use Rattle.hp_freelist.proofs.ListedLemmas.{inserted_own, inserted_other}
use Rattle.test_low.proofs.tests.freelist.insert_four.Goals as goal

pub insert_head-requires-3-clause-unlisted : goal.insert_head-requires-3-clause-unlisted
insert_head-requires-3-clause-unlisted c =
    inserted_other 1 448 c.insert_head.new.self.lists c.insert_head-2.new.self.lists c.insert_head-2.ensures.lists 2 refl
    ∙ inserted_other 0 192 c.args.lists.now.lists c.insert_head.new.self.lists c.insert_head.ensures.lists 2 refl
    ∙ ap (is_listed 2) c.requires.nothing

pub insert_head-requires-4-clause-unlisted : goal.insert_head-requires-4-clause-unlisted
insert_head-requires-4-clause-unlisted c =
    inserted_other 2 384 c.insert_head-2.new.self.lists c.insert_head-3.new.self.lists c.insert_head-3.ensures.lists 3 refl
    ∙ inserted_other 1 448 c.insert_head.new.self.lists c.insert_head-2.new.self.lists c.insert_head-2.ensures.lists 3 refl
    ∙ inserted_other 0 192 c.args.lists.now.lists c.insert_head.new.self.lists c.insert_head.ensures.lists 3 refl
    ∙ ap (is_listed 3) c.requires.nothing

pub returns-clause-listed : goal.returns-clause-listed
returns-clause-listed c = (
  inserted_other 3 384 c.insert_head-3.new.self.lists c.insert_head-4.new.self.lists c.insert_head-4.ensures.lists 1 refl
      ∙ inserted_other 2 384 c.insert_head-2.new.self.lists c.insert_head-3.new.self.lists c.insert_head-3.ensures.lists 1 refl
      ∙ inserted_own 1 448 c.insert_head.new.self.lists c.insert_head-2.new.self.lists c.insert_head-2.ensures.lists c.insert_head.ensures.count,
  inserted_other 3 384 c.insert_head-3.new.self.lists c.insert_head-4.new.self.lists c.insert_head-4.ensures.lists 2 refl
      ∙ inserted_own 2 384 c.insert_head-2.new.self.lists c.insert_head-3.new.self.lists c.insert_head-3.ensures.lists c.insert_head-2.ensures.count,
  inserted_own 3 384 c.insert_head-3.new.self.lists c.insert_head-4.new.self.lists c.insert_head-4.ensures.lists c.insert_head-3.ensures.count,
  inserted_other 3 384 c.insert_head-3.new.self.lists c.insert_head-4.new.self.lists c.insert_head-4.ensures.lists 0 refl
      ∙ inserted_other 2 384 c.insert_head-2.new.self.lists c.insert_head-3.new.self.lists c.insert_head-3.ensures.lists 0 refl
      ∙ inserted_other 1 448 c.insert_head.new.self.lists c.insert_head-2.new.self.lists c.insert_head-2.ensures.lists 0 refl
      ∙ inserted_own 0 192 c.args.lists.now.lists c.insert_head.new.self.lists c.insert_head.ensures.lists (ap length c.requires.nothing),
)
