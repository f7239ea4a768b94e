-- Sets as a domain: their validity, and what each call answers.
use Rattle.dt_domain.specs.Domain.{DomainOps}
use Rattle.dt_sets.specs.declared.Sets.{Sets}
use Rattle.dt_sets.specs.Sets.{IsSets, sets_full, sets_one, sets_holds, sets_is_empty, sets_mask, sets_value, sets_pick, sets_meet, sets_with_bit}
use Rattle.dt_sets.specs.Forward.{sets_forward}
use Rattle.dt_sets.specs.Backward.{sets_backward}

abbrev pub sets_ops : DomainOps Sets
sets_ops = record {
  IsDomain = IsSets;
  full = sets_full;
  one = sets_one;
  width = λ s. s.width;
  holds = sets_holds;
  is_empty = sets_is_empty;
  known_mask = sets_mask;
  known_value = sets_value;
  pick = sets_pick;
  meet = sets_meet;
  with_bit = sets_with_bit;
  forward = sets_forward;
  backward = sets_backward;
}
