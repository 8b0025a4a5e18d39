-- A day's line: date, kind, offset, opening, noon point and close.
use Rattle.std.specs.Prelude.{ℕ, cond, List, ◌++◌, Some, None, codes, decimal, Option}
use Rattle.civil.specs.Dates.{date_of}
use Rattle.civil.specs.Text.{date_text}
use Rattle.calendar.specs.Meaning.{Meaning, known, trading}
use Rattle.calendar.specs.Text.{kind_text}
use Rattle.calendar.specs.Trading.{opening, noon_point, close}

-- one word after another, with a space between them
abbrev pub spaced : List ℕ → List ℕ → List ℕ
spaced a b = a ++ (codes " " ++ b)

-- the three moments of a trading day, and hyphens for a closed one
abbrev pub moments_text : Meaning → ℕ → List ℕ
moments_text m day =
    cond (trading m day)
    (spaced (decimal (opening m day)) (spaced (decimal (noon_point m day)) (decimal (close m day))))
    (codes "- - -")

-- an unknown day has no line
abbrev pub day_line : Meaning → ℕ → Option (List ℕ)
day_line m day =
    cond (known m day)
    (Some (spaced (date_text (date_of day)) (spaced (kind_text (m.kind day)) (spaced (decimal (m.offset day)) (moments_text m day)))))
    None
