-- What a contract sees of the elements of a heap.
use Rattle.std.specs.Prelude.{ℕ}
use Rattle.hp_elem.specs.Items.{Items}

-- the elements in address order, each under its key; the stamps given so far; how many more elements there is room for
-- without memory; and the number that every key is below
pub record ElemsView : Type 0 where
  pub items : Items
  pub stamps : ℕ
  pub spare : ℕ
  pub key_end : ℕ

-- the links alone: the elements in address order, each under its key, and the number that every key is below
pub record ChainView : Type 0 where
  pub items : Items
  pub key_end : ℕ
