-- A model as plain data: what it says, and not where it stands in memory.
use Rattle.std.specs.Prelude.{ℕ, List, map}
use Rattle.dt_bits.specs.declared.op.Op.{Op}
use Rattle.dt_lex.specs.declared.name.Name.{Name}
use Rattle.dt_model.specs.declared.expr.Expr.{Expr}
use Rattle.dt_model.specs.declared.expr.Expr.TheVariants.{Value, Reg, Input, Var, Apply1', Apply2', Apply3'}
use Rattle.dt_model.specs.declared.model.Act.{Act}
use Rattle.dt_model.specs.declared.model.Act.TheVariants.{Let, Read, If, Fault, Done}
use Rattle.dt_model.specs.declared.model.Named.{Named}
use Rattle.dt_model.specs.declared.model.Node.{Node}
use Rattle.dt_model.specs.declared.model.Model.{Model}

-- an expression
pub data Tree : Type 0 where
  value : (width bits : ℕ) → Tree
  reg : ℕ → Tree
  input : ℕ → Tree
  var : ℕ → Tree
  apply1 : Op → Tree → Tree
  apply2 : Op → Tree → Tree → Tree
  apply3 : Op → Tree → Tree → Tree → Tree

abbrev pub tree_of : Expr → Tree
tree_of (Value w n) = value w n
tree_of (Reg i) = reg i
tree_of (Input i) = input i
tree_of (Var i) = var i
tree_of (Apply1' op p a) = apply1 op (tree_of a)
tree_of (Apply2' op p a q b) = apply2 op (tree_of a) (tree_of b)
tree_of (Apply3' op p a q b r c) = apply3 op (tree_of a) (tree_of b) (tree_of c)

-- what a node does
pub data ActData : Type 0 where
  bind : (var : ℕ) (value : Tree) (next : ℕ) → ActData
  read : (var : ℕ) (cell : Tree) (granule then other : ℕ) → ActData
  branch : (test : Tree) (then other : ℕ) → ActData
  fault : (code : ℕ) → ActData
  done : (pa : Tree) (page : ℕ) → ActData

abbrev pub act_of : Act → ActData
act_of (Let x e n) = bind x (tree_of e) n
act_of (Read x e g t o) = read x (tree_of e) g t o
act_of (If e t o) = branch (tree_of e) t o
act_of (Fault c) = fault c
act_of (Done e p) = done (tree_of e) p

-- a node
pub record NodeData : Type 0 where
  pub name : Name
  pub step : ActData

abbrev pub node_of : Node → NodeData
node_of n = record { name = n.name; step = act_of n.act }

pub record ModelData : Type 0 where
  pub word : ℕ
  pub address : ℕ
  pub regs : List Named
  pub inputs : List Named
  pub vars : List Named
  pub legal_context : List Tree
  pub legal_access : List Tree
  pub nodes : List NodeData

abbrev pub data_of : Model → ModelData
data_of m = record { word = m.word; address = m.address; regs = m.regs; inputs = m.inputs; vars = m.vars; legal_context = map tree_of m.legal_context; legal_access = map tree_of m.legal_access; nodes = map node_of m.nodes }
