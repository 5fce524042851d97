-- There are two ends that have attached a link to each other.
use Rattle.std.specs.Prelude.{true, refl}
use Rattle.crossing_laws.specs.Example.{attach, settings, EndsAreMet}

pub ends_are_met : EndsAreMet
ends_are_met = record {
  meet = record { attach = attach; verify = true; settings = settings; handle = 7; role = refl; sender = refl; receiver = refl; source = refl };
  sends = refl;
  receives = refl;
}
