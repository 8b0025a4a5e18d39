-- The words for the kinds of a day.
use Rattle.std.specs.Prelude.{ℕ, List, codes}
use Rattle.calendar.specs.declared.day.Kind.{Kind}
use Rattle.calendar.specs.declared.day.Kind.TheVariants.{Closed, Half, Full}

abbrev pub kind_text : Kind → List ℕ
kind_text Closed = codes "closed"
kind_text Half = codes "half"
kind_text Full = codes "full"
