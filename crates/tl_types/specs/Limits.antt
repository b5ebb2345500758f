-- How much there may be of each thing.
use Rattle.tl_types.specs.declared.limits.Limits.{Limits}

-- the limits of the program
abbrev pub standard_limits : Limits
standard_limits = record {
  tables = 64;
  rows = 16777216;
  versions = 16777215;
  batch = 1000000;
  text = 65535;
  sessions = 64;
  line = 1048576;
  phase = 67108864;
  phases = 65536;
}
