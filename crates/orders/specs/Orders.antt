-- What an order of the source says: a column's kind, its plan and its count.
use Rattle.meaning.specs.Operations.{Order as OrderMeant}
use Rattle.orders.specs.declared.Order.{Order}

abbrev pub order_says : Order → OrderMeant
order_says o = record { kind = o.kind; plan = o.plan; count = o.count }
