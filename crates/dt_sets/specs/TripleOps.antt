-- Triple as a domain: its validity, and what each call answers.
use Rattle.dt_domain.specs.Domain.{DomainOps}
use Rattle.dt_range.specs.Range.{range_pick}
use Rattle.dt_sets.specs.declared.Triple.{Triple}
use Rattle.dt_sets.specs.Triple.{IsTriple, triple_full, triple_one, triple_holds, triple_meet, triple_with_bit, triple_forward, triple_backward}

abbrev pub triple_ops : DomainOps Triple
triple_ops = record {
  IsDomain = IsTriple;
  full = triple_full;
  one = triple_one;
  width = λ t. t.known.width;
  holds = triple_holds;
  is_empty = λ t. t.known.empty;
  known_mask = λ t. t.known.mask;
  known_value = λ t. t.known.value;
  pick = λ t. range_pick t.range;
  meet = triple_meet;
  with_bit = triple_with_bit;
  forward = triple_forward;
  backward = triple_backward;
}
