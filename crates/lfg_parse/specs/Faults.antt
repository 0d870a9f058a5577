-- A fault of the literals' making, as one of the parse.
use Rattle.lfg_instant.specs.declared.fault.InstantFault.{InstantFault}
use Rattle.lfg_instant.specs.declared.fault.InstantFault.TheVariants as instant
use Rattle.lfg_parse.specs.declared.fault.ParseFault.{ParseFault}
use Rattle.lfg_parse.specs.declared.fault.ParseFault.TheVariants as parse

abbrev pub as_parse_fault : InstantFault → ParseFault
as_parse_fault (instant.TooLarge count) = parse.TooLarge count
as_parse_fault instant.Memory = parse.Memory
