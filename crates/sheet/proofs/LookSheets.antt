-- What looking a number up answers, over plain variables. Assumes nothing.
use Prim.Native.Nat.{ℕ, ◌≤◌, ◌<◌}
use mathlib.Core.Path.{◌≡◌}
use mathlib.Core.List.{List}
use borrow.Author.Tests.{lt-ltb, le-ltb}
use Rattle.meaning.specs.Answer.{given, refused}
use Rattle.meaning.specs.Limits.{no_place}
use Rattle.meaning.specs.Operations.{column, look_sheet}
use Rattle.meaning.specs.Plan.{plan_of}
use Rattle.meaning.specs.Sheet.{Column}
use Rattle.meaning.specs.Stages.{look}

module _ (sheet : List ℕ) (k place : ℕ) where
  pub look_none : (z : ℕ) → column sheet k ≡ refused z → look_sheet sheet k place ≡ refused z
  unfolding look_sheet
  look_none z e = rw e

  module _ (c : Column) (told : column sheet k ≡ given c) where
    pub look-past : c.count ≤ place → look_sheet sheet k place ≡ refused no_place
    unfolding look_sheet
    look-past h = rw (told, le-ltb place c.count h)

    pub look-there : place < c.count → look_sheet sheet k place ≡ look (plan_of c.plan) c.body c.count place
    unfolding look_sheet
    look-there h = rw (told, lt-ltb place c.count h)
