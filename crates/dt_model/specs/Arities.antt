-- That operators have as many operands as they take is one fact, with one proof.
use Rattle.std.proofs.Props.{props}
use Rattle.dt_model.specs.ModelData.{ModelData, Tree, value, reg, input, var, apply1, apply2, apply3, ActData, bind, read, branch, fault, done}
use Rattle.dt_model.specs.Widths.{HasArities}
use Rattle.dt_model.specs.Faults.{StepArities, HaveArities}

pub HasArities-prop : (t : Tree) → IsProp (HasArities t)
HasArities-prop (value w n) = hlevel
HasArities-prop (reg i) = hlevel
HasArities-prop (input i) = hlevel
HasArities-prop (var i) = hlevel
HasArities-prop (apply1 op a) = let h = HasArities-prop a in hlevel (props, h)
HasArities-prop (apply2 op a b) = let h = HasArities-prop a in let k = HasArities-prop b in hlevel (props, h, k)
HasArities-prop (apply3 op a b c) = let h = HasArities-prop a in let k = HasArities-prop b in let l = HasArities-prop c in hlevel (props, h, k, l)

pub StepArities-prop : (p : ActData) → IsProp (StepArities p)
StepArities-prop (bind x e n) = HasArities-prop e
StepArities-prop (read x e g t o) = HasArities-prop e
StepArities-prop (branch e t o) = HasArities-prop e
StepArities-prop (fault c) = hlevel
StepArities-prop (done e p) = HasArities-prop e

pub HaveArities-prop : (d : ModelData) → IsProp (HaveArities d)
HaveArities-prop d = hlevel (HasArities-prop, StepArities-prop)
