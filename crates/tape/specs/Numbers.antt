-- The number under which each fault is reported.
use Rattle.std.specs.Prelude.{ℕ}
use Rattle.tape.specs.declared.fault.TapeFault.{TapeFault}
use Rattle.tape.specs.declared.fault.TapeFault.TheVariants.{OutOfBounds, UnknownCommand, Truncated, UnlistedByte}
use Rattle.tape.specs.declared.fault.WriteFault.{WriteFault}
use Rattle.tape.specs.declared.fault.WriteFault.TheVariants.{AccountLength, ShortOutput}

abbrev pub tape_number : TapeFault → ℕ
tape_number OutOfBounds = 1
tape_number UnknownCommand = 2
tape_number Truncated = 3
tape_number UnlistedByte = 4

abbrev pub write_number : WriteFault → ℕ
write_number AccountLength = 4
write_number ShortOutput = 14
