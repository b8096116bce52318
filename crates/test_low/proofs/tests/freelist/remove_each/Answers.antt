use Rattle.std.proofs.Common.{◌∙◌, refl, arith}
use Rattle.hp_freelist.proofs.ListedLemmas.{removed_own, removed_other}
use Rattle.test_low.proofs.tests.freelist.remove_each.Goals as goal

pub remove-requires : goal.remove-requires
remove-requires c = c.requires.listed.0

pub remove-requires-2 : goal.remove-requires-2
remove-requires-2 c = removed_other 1 c.args.lists.now.lists c.remove.new.self.lists c.remove.ensures.lists 2 refl ∙ c.requires.listed.1

pub remove-requires-3 : goal.remove-requires-3
remove-requires-3 c =
    removed_other 2 c.remove.new.self.lists c.remove-2.new.self.lists c.remove-2.ensures.lists 3 refl
    ∙ removed_other 1 c.args.lists.now.lists c.remove.new.self.lists c.remove.ensures.lists 3 refl ∙ c.requires.listed.2

pub remove-requires-4 : goal.remove-requires-4
remove-requires-4 c =
    removed_other 3 c.remove-2.new.self.lists c.remove-3.new.self.lists c.remove-3.ensures.lists 0 refl
    ∙ removed_other 2 c.remove.new.self.lists c.remove-2.new.self.lists c.remove-2.ensures.lists 0 refl
    ∙ removed_other 1 c.args.lists.now.lists c.remove.new.self.lists c.remove.ensures.lists 0 refl ∙ c.requires.listed.3

pub insert_head-requires-clause-room : goal.insert_head-requires-clause-room
insert_head-requires-clause-room c =
    omega (arith, c.remove-4.ensures.room, c.remove-3.ensures.room, c.remove-2.ensures.room, c.remove.ensures.room, c.requires.room)

pub insert_head-requires-clause-unlisted : goal.insert_head-requires-clause-unlisted
insert_head-requires-clause-unlisted c = removed_own 0 c.remove-3.new.self.lists c.remove-4.new.self.lists c.remove-4.ensures.lists
