-- A sheet's own orders and lists: what it is written again from.
use Rattle.std.specs.Prelude.{ℕ, List, map}
use Rattle.meaning.specs.Answer.{list}
use Rattle.meaning.specs.Lists.{joined}
use Rattle.meaning.specs.Operations.{Order}
use Rattle.meaning.specs.Sheet.{Listed, Column, columns_of, read_column}

-- a column's order, and its list
abbrev pub order_for : Column → Order
order_for c = record { kind = c.kind; plan = c.plan; count = c.count }

abbrev pub numbers_for : Column → List ℕ
numbers_for c = list (read_column c)

-- those of all columns
abbrev pub own_orders : List ℕ → List Order
own_orders sheet = map order_for (columns_of sheet)

abbrev pub own_numbers : List ℕ → List ℕ
own_numbers sheet = joined numbers_for (columns_of sheet)

-- the orders taken apart
abbrev pub own_kinds : List ℕ → List ℕ
own_kinds sheet = map (λ c. c.kind) (columns_of sheet)

abbrev pub own_plans : List ℕ → List ℕ
own_plans sheet = joined (λ c. c.plan) (columns_of sheet)

abbrev pub own_counts : List ℕ → List ℕ
own_counts sheet = map (λ c. c.count) (columns_of sheet)

-- a column that was read, as one to be written
abbrev pub listed_for : Column → Listed
listed_for c = record { kind = c.kind; plan = c.plan; numbers = numbers_for c }
