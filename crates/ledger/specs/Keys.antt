-- The keys under which the registers keep a trade.
use Rattle.std.specs.Prelude.{ℕ}
use Rattle.register.specs.declared.execution.ExecutionKey.{ExecutionKey}
use Rattle.register.specs.declared.price.PriceKey.{PriceKey}
use Rattle.register.specs.declared.publication.PublicationKey.{PublicationKey}
use Rattle.rulebook.specs.declared.record.Record.{Record}

abbrev pub price_key : ℕ → Record → PriceKey
price_key security t = record { day = t.code.day; security = security; price = t.report.price; serial = t.code.serial }

abbrev pub execution_key : ℕ → Record → ExecutionKey
execution_key security t =
    record { day = t.code.day; security = security; moment = t.report.execution; serial = t.code.serial }

abbrev pub publication_key : Record → PublicationKey
publication_key t = record { moment = t.moment; day = t.code.day; serial = t.code.serial }
