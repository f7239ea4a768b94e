use Rattle.std.proofs.Common.{◌≡◌, ◌∙◌, ◌^◌, ◌-◌, ◌/◌, ap, length, set, get_or, bit_and, rules}
use Rattle.dt_model.proofs.Lanes.{one_bit, without_lane, lane_has}
use Rattle.dt_model.proofs.set.VarSet.without.Goals as goal

pub returns : goal.returns
returns c = λ v l.
    let four : length c.args.self.now.lanes ≡ 4 = search rules in
    ap (λ m. lane_has (set c.args.self.now.lanes (c.args.var / 128) (bit_and (get_or c.args.self.now.lanes (c.args.var / 128) 0) (2 ^ 128 - 1 - m))) v) (one_bit c.args.var) ∙ without_lane c.args.self.now.lanes v c.args.var four l c.requires
