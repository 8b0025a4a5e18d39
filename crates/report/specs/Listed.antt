-- The grounds against listing a security.
use Rattle.std.specs.Prelude.{Bool, not, ◌&&◌, List, [], ◌∷◌, nat_le}
use Rattle.refusal.specs.declared.Refusal.TheVariants.{WrongIsin, ListingOutOfRange}
use Rattle.refusal.specs.Grounds.{Ground}
use Rattle.identifier.specs.Isin.{is_isin}
use Rattle.report.specs.declared.security.Security.{Security}

-- the largest numbers of a listing, and a cap of at least 1
abbrev pub listing_in_range : Security → Bool
listing_in_range s =
    nat_le s.daily 999999999999
    && (nat_le s.reference 999999999 && (nat_le s.tolerance 999999999 && (nat_le 1 s.cap && nat_le s.cap 999999999)))

abbrev pub listing_grounds : Security → List Ground
listing_grounds s =
    record { there = not (is_isin s.isin.bytes); refusal = WrongIsin }
    ∷ record { there = not (listing_in_range s); refusal = ListingOutOfRange } ∷ []
