-- The fields by which each kind of key is ordered, the weightiest first.
use Rattle.std.specs.Prelude.{ℕ, List, [], ◌∷◌}
use Rattle.register.specs.declared.price.PriceKey.{PriceKey}
use Rattle.register.specs.declared.execution.ExecutionKey.{ExecutionKey}
use Rattle.register.specs.declared.publication.PublicationKey.{PublicationKey}

abbrev pub price_fields : PriceKey → List ℕ
price_fields k = k.day ∷ k.security ∷ k.price ∷ k.serial ∷ []

abbrev pub execution_fields : ExecutionKey → List ℕ
execution_fields k = k.day ∷ k.security ∷ k.moment ∷ k.serial ∷ []

abbrev pub publication_fields : PublicationKey → List ℕ
publication_fields k = k.moment ∷ k.day ∷ k.serial ∷ []
