-- The three kinds of key are in a total order: their fields tell them apart.
use Rattle.std.proofs.Common.{arith}
use Rattle.register.specs.Order.{Total}
use Rattle.register.specs.Fields.{by_fields, Telling}
use Rattle.register.specs.Keys.{price_fields, execution_fields, publication_fields}
use Rattle.register.specs.Lexical.{total_by_fields}

price_tells : Telling price_fields
price_tells x y e = grind arith

execution_tells : Telling execution_fields
execution_tells x y e = grind arith

publication_tells : Telling publication_fields
publication_tells x y e = grind arith

pub price_ordered : Total (by_fields price_fields)
price_ordered = total_by_fields price_fields price_tells

pub execution_ordered : Total (by_fields execution_fields)
execution_ordered = total_by_fields execution_fields execution_tells

pub publication_ordered : Total (by_fields publication_fields)
publication_ordered = total_by_fields publication_fields publication_tells
