-- The last line of a listing.
use Rattle.std.specs.Prelude.{ℕ, List, ◌++◌, Some, None, codes, decimal, Option}
use Rattle.tape.specs.declared.fault.TapeFault.{TapeFault}
use Rattle.tape.specs.Numbers.{tape_number}
use Rattle.tape_list.specs.declared.end.End.{End}

-- how many commands there are, or the fault's number and place
abbrev pub ending : ℕ → ℕ → Option TapeFault → List ℕ
ending count place None = codes "end " ++ decimal count
ending count place (Some fault) = codes "fault " ++ (decimal (tape_number fault) ++ (codes " at " ++ decimal place))

abbrev pub closing : End → List ℕ
closing e = ending e.count e.place e.fault
