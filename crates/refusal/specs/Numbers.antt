-- The number of each ground of refusal.
use Rattle.std.specs.Prelude.{ℕ}
use Rattle.refusal.specs.declared.Refusal.{Refusal}
use Rattle.refusal.specs.declared.Refusal.TheVariants.{Sizes, BeforeTheClock, AfterTheLastDay, TapeTooShort, WrongIsin, ListingOutOfRange, NoPlaceForSecurity, NoTradingDay, NoNeighbour, OpenedTooEarly, MarketClosed, NotListed, Suspended, OtherSegment, PriceOrQuantity, TurnoverTooLarge, ExecutionMoment, TooManyFlags, WrongCounterparty, NegotiatedNotLiquid, NegotiatedSuspended, IlliquidButLiquid, RisklessPrincipalAsAgent, NoFreeRecord, TapeFull, NoSuchTrade, ExecutionDiffers, BufferTooShort, DayNotHeld, AmountOutOfRange, AmountsFall, WrongCalendar}

abbrev pub number_of : Refusal → ℕ
number_of Sizes = 1
number_of BeforeTheClock = 2
number_of AfterTheLastDay = 3
number_of TapeTooShort = 4
number_of WrongIsin = 5
number_of ListingOutOfRange = 6
number_of NoPlaceForSecurity = 7
number_of NoTradingDay = 8
number_of NoNeighbour = 9
number_of OpenedTooEarly = 10
number_of MarketClosed = 11
number_of NotListed = 12
number_of Suspended = 13
number_of OtherSegment = 14
number_of PriceOrQuantity = 15
number_of TurnoverTooLarge = 16
number_of ExecutionMoment = 17
number_of TooManyFlags = 18
number_of WrongCounterparty = 19
number_of NegotiatedNotLiquid = 20
number_of NegotiatedSuspended = 21
number_of IlliquidButLiquid = 22
number_of RisklessPrincipalAsAgent = 23
number_of NoFreeRecord = 24
number_of TapeFull = 25
number_of NoSuchTrade = 26
number_of ExecutionDiffers = 27
number_of BufferTooShort = 28
number_of DayNotHeld = 29
number_of AmountOutOfRange = 30
number_of AmountsFall = 31
number_of WrongCalendar = 32
