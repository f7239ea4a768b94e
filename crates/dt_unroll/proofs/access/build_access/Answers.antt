use Rattle.std.proofs.Common.{ℕ, ◌+◌, ◌*◌, ap, ◌∙◌}
use Rattle.dt_lemmas.proofs.Equalities.{two}
use Rattle.dt_model.specs.Accepted.{accepted_data}
use Rattle.dt_unroll.proofs.Whole.{access_ok}
use Rattle.dt_unroll.proofs.access.build_access.Goals as goal

pub returns : goal.returns
returns c =
    access_ok c.walk_access.result (λ v. v.items) (accepted_data c.args.model.now) c.args.requests.now c.args.builder.now c.require_access.new.builder c.walk_access.new.builder c.in_ok-regs.regs c.in_ok-inputs.inputs c.args.k c.args.wish.now
    (c.in_ok-regs.ensures.value ∙ ap (λ (n : ℕ). c.args.wish.now.context * n) c.requires.regs)
    (c.in_ok-inputs.ensures.value ∙ two (λ (m n : ℕ). m + c.args.k * n) c.requires.first c.requires.step)
    c.in_ok-require_access.ensures c.walk_access.ensures.outs c.walk_access.ensures.terms c.walk_access.ensures.required
