use Rattle.std.proofs.Common.{◌≡◌, ◌∙◌, ◌/◌, ap, length, set, get_or, bit_or, rules}
use Rattle.dt_model.proofs.Lanes.{one_bit, with_lane, lane_has}
use Rattle.dt_model.proofs.set.VarSet.with.Goals as goal

pub returns : goal.returns
returns c = λ v l.
    let a = c.args.self.now.lanes in
    let x = c.args.var in
    let four : length a ≡ 4 = search rules in
    ap (λ m. lane_has (set a (x / 128) (bit_or (get_or a (x / 128) 0) m)) v) (one_bit x) ∙ with_lane a v x four l c.requires
