-- Pair as a domain: its validity, and what each call answers.
use Rattle.dt_domain.specs.Domain.{DomainOps}
use Rattle.dt_range.specs.Range.{range_pick}
use Rattle.dt_pair.specs.declared.Pair.{Pair}
use Rattle.dt_pair.specs.Pair.{IsPair, pair_full, pair_one, pair_holds, pair_meet, pair_with_bit, pair_forward, pair_backward}

abbrev pub pair_ops : DomainOps Pair
pair_ops = record {
  IsDomain = IsPair;
  full = pair_full;
  one = pair_one;
  width = λ a. a.known.width;
  holds = pair_holds;
  is_empty = λ a. a.known.empty;
  known_mask = λ a. a.known.mask;
  known_value = λ a. a.known.value;
  pick = λ a. range_pick a.range;
  meet = pair_meet;
  with_bit = pair_with_bit;
  forward = pair_forward;
  backward = pair_backward;
}
