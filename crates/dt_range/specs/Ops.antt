-- Range as a domain: its validity, and what each call answers.
use Rattle.dt_domain.specs.Domain.{DomainOps}
use Rattle.dt_range.specs.declared.Range.{Range}
use Rattle.dt_range.specs.Range.{IsRange, range_full, range_one, range_holds, range_is_empty, range_mask, range_value, range_pick, range_meet, range_with_bit}
use Rattle.dt_range.specs.Forward.{range_forward}
use Rattle.dt_range.specs.Backward.{range_backward}

abbrev pub range_ops : DomainOps Range
range_ops = record {
  IsDomain = IsRange;
  full = range_full;
  one = range_one;
  width = λ a. a.width;
  holds = range_holds;
  is_empty = range_is_empty;
  known_mask = range_mask;
  known_value = range_value;
  pick = range_pick;
  meet = range_meet;
  with_bit = range_with_bit;
  forward = range_forward;
  backward = range_backward;
}
