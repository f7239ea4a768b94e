-- The terms that stand for the walk of an access. The nodes are gone through in order, with a term for each variable and a term that tells whether the walk comes to a node.
use Rattle.dt_table.specs.declared.out.Out.{Out}
use Rattle.std.specs.Prelude.{ℕ, suc, ◌+◌, ◌-◌, ◌^◌, ◌==◌, nat_le, if◌then◌else◌, List, [], ◌∷◌, Option, Some, None}
use Rattle.dt_bits.specs.declared.op.Op.TheVariants.{Or, Slice, Ite}
use Rattle.dt_model.specs.ModelData.{ActData, bind, read, branch, fault, done}
use Rattle.dt_model.specs.Widths.{Scope}
use Rattle.dt_terms.specs.declared.term.Term.{Term}
use Rattle.dt_forms.specs.Placing.{Placed, placed_at}
use Rattle.dt_table.specs.Expressions.{Named}
use Rattle.dt_forms.specs.Forms.{Form, term, number, form1, form2, form3, form_placed, not_of, both_of, same_of, less_of}
use Rattle.dt_table.specs.Expressions.{form_of}

-- what doesn't change while an access's nodes are gone through: names, the first word, how many bytes a word has as a power of two, the bounds of table memory, and the constants 0 and 1
pub record Access : Type 0 where
  pub scope : Scope
  pub regs : ℕ
  pub inputs : ℕ
  pub address : ℕ
  pub align : ℕ
  pub lo : ℕ
  pub hi : ℕ
  pub zero_term : ℕ
  pub one_term : ℕ

pub record State : Type 0 where
  pub terms : List Term
  pub vars : ℕ → Option ℕ
  pub come : ℕ → ℕ
  pub word : ℕ
  pub away : ℕ

abbrev pub named : Access → State → Named
named a s = record { scope = a.scope; regs = a.regs; inputs = a.inputs; vars = s.vars }

abbrev pub with_terms : State → List Term → State
with_terms s terms = record { terms = terms; vars = s.vars; come = s.come; word = s.word; away = s.away }

-- ---- edges

-- the walk also comes to the node where this term is 1
abbrev pub join : State → ℕ → ℕ → State
join s to taken =
    let j = form_placed s.terms (form2 Or (term (s.come to)) (term taken)) in
    record { terms = j.terms; vars = s.vars; come = λ n. if n == to then j.at else s.come n; word = s.word; away = s.away }

-- a variable's term after one that has it where an edge is taken
abbrev pub chosen : List Term → Option ℕ → ℕ → ℕ → Placed
chosen terms None taken new = placed_at terms new
chosen terms (Some old) taken new = form_placed terms (form3 Ite (term taken) (term new) (term old))

-- the variable has this value where the edge is taken
abbrev pub assign : State → ℕ → ℕ → ℕ → State
assign s x taken new =
    let y = chosen s.terms (s.vars x) taken new in
    record { terms = y.terms; vars = λ v. if v == x then Some y.at else s.vars v; come = s.come; word = s.word; away = s.away }

-- ---- cells

-- the cell is a multiple of a word's bytes
abbrev pub aligned : Access → ℕ → Form
aligned a cell = if a.align == 0 then term a.one_term else same_of (form1 (Slice (a.align - 1) 0) (term cell)) (number a.align 0)

abbrev pub above : Access → ℕ → Form
above a cell = if nat_le (2 ^ a.address) a.lo then term a.zero_term else not_of (less_of (term cell) (number a.address a.lo))

abbrev pub below : Access → ℕ → Form
below a cell = if nat_le (2 ^ a.address) a.hi then term a.one_term else less_of (term cell) (number a.address a.hi)

-- there is a word of table memory at the cell
abbrev pub is_cell : Access → ℕ → Form
is_cell a cell = both_of (aligned a cell) (both_of (above a cell) (below a cell))

-- ---- nodes

pub record Passed : Type 0 where
  pub state : State
  pub out : Out

-- the two edges of a fork, where the walk comes to it and its test is 1, or isn't
pub record Forked : Type 0 where
  pub terms : List Term
  pub by_then : ℕ
  pub by_other : ℕ

abbrev pub fork : List Term → ℕ → ℕ → Forked
fork terms come test =
    let t = form_placed terms (both_of (term come) (term test)) in
    let o = form_placed t.terms (both_of (term come) (not_of (term test))) in
    record { terms = o.terms; by_then = t.at; by_other = o.at }

-- both edges of a fork
abbrev pub part : State → ℕ → ℕ → ℕ → ℕ → State
part s t then_taken o other_taken = join (join s t then_taken) o other_taken

abbrev pub next_word : State → State
next_word s = record { terms = s.terms; vars = s.vars; come = s.come; word = suc s.word; away = s.away }

abbrev pub passed : Access → State → ℕ → ActData → Passed
passed a s n (bind x e to) =
    let v = form_placed s.terms (form_of (named a s) e) in
    record {
      state = join (assign (with_terms s v.terms) x (s.come n) v.at) to (s.come n);
      out = record { come = s.come n; value = v.at; by_then = s.come n; by_other = a.zero_term; word = a.zero_term; away = s.away };
    }
passed a s n (branch e t o) =
    let v = form_placed s.terms (form_of (named a s) e) in
    let f = fork v.terms (s.come n) v.at in
    record {
      state = part (with_terms s f.terms) t f.by_then o f.by_other;
      out = record { come = s.come n; value = v.at; by_then = f.by_then; by_other = f.by_other; word = a.zero_term; away = s.away };
    }
passed a s n (read x e g t o) =
    let v = form_placed s.terms (form_of (named a s) e) in
    let c = form_placed v.terms (is_cell a v.at) in
    let f = fork c.terms (s.come n) c.at in
    record {
      state = next_word (part (assign (with_terms s f.terms) x f.by_then s.word) t f.by_then o f.by_other);
      out = record { come = s.come n; value = v.at; by_then = f.by_then; by_other = f.by_other; word = s.word; away = s.away };
    }
passed a s n (fault c) =
    record { state = s; out = record { come = s.come n; value = a.zero_term; by_then = a.zero_term; by_other = a.zero_term; word = a.zero_term; away = s.away } }
passed a s n (done e p) =
    let v = form_placed s.terms (form_of (named a s) e) in
    record {
      state = with_terms s v.terms;
      out = record { come = s.come n; value = v.at; by_then = a.zero_term; by_other = a.zero_term; word = a.zero_term; away = s.away };
    }

-- ---- walks

pub record Walked : Type 0 where
  pub terms : List Term
  pub outs : List Out

-- the nodes from position n on
-- with a term that tells that the walk doesn't come to the node
abbrev pub noted : State → ℕ → State
noted s n =
    let y = form_placed s.terms (not_of (term (s.come n))) in
    record { terms = y.terms; vars = s.vars; come = s.come; word = s.word; away = y.at }

abbrev pub walk_placed : Access → State → List ActData → ℕ → Walked
walk_placed a s [] n = record { terms = s.terms; outs = [] }
walk_placed a s (p ∷ ps) n =
    let q = passed a (noted s n) n p in
    let r = walk_placed a q.state ps (n + 1) in
    record { terms = r.terms; outs = q.out ∷ r.outs }
