-- What a trade's state and an event give together.
use Rattle.std.specs.Prelude.{Bool, true, false}
use Rattle.report.specs.declared.state.State.{State}
use Rattle.report.specs.declared.state.State.TheVariants.{Waiting, Published, Dropped, Recalled}
use Rattle.report.specs.declared.state.Event.{Event}
use Rattle.report.specs.declared.state.Event.TheVariants.{Due, Withdrawn}

-- a waiting trade that falls due is published, one that is withdrawn is dropped, and a published one that is withdrawn is recalled;
-- nothing else changes a state
abbrev pub after : State → Event → State
after Waiting Due = Published
after Waiting Withdrawn = Dropped
after Published Due = Published
after Published Withdrawn = Recalled
after Dropped Due = Dropped
after Dropped Withdrawn = Dropped
after Recalled Due = Recalled
after Recalled Withdrawn = Recalled

-- a trade survives until it is withdrawn
abbrev pub survives : State → Bool
survives Waiting = true
survives Published = true
survives Dropped = false
survives Recalled = false
