-- Known as a domain: its validity, and what each call answers.
use Rattle.dt_domain.specs.Domain.{DomainOps}
use Rattle.dt_known.specs.declared.Known.{Known}
use Rattle.dt_known.specs.Known.{IsKnown, known_full, known_one, known_holds, known_pick, known_meet, known_with_bit}
use Rattle.dt_known.specs.Forward.{known_forward}
use Rattle.dt_known.specs.Backward.{known_backward}

abbrev pub known_ops : DomainOps Known
known_ops = record {
  IsDomain = IsKnown;
  full = known_full;
  one = known_one;
  width = λ a. a.width;
  holds = known_holds;
  is_empty = λ a. a.empty;
  known_mask = λ a. a.mask;
  known_value = λ a. a.value;
  pick = known_pick;
  meet = known_meet;
  with_bit = known_with_bit;
  forward = known_forward;
  backward = known_backward;
}
