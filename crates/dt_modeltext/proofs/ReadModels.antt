-- In a model that a text spells each operator has as many operands as it takes, and each name is spelled.
use Rattle.std.proofs.Common.{◌≡◌, ℕ, Bool, true, false, cond, eqb, List, length, [], ◌∷◌, Option, Some, None, Result, Ok, Err}
use Rattle.std.specs.Prelude.{IfSome, IfOk}
use Rattle.std.specs.List.{All, AllByRecursion}
use Rattle.std.proofs.lemmas.List.Concat.{flat_map-cons}
use Rattle.std.proofs.lemmas.List.Elements.{All-nil, All-append}
use Rattle.dt_lemmas.proofs.Lists.{all_of_one}
use Rattle.dt_lemmas.proofs.Options.{at_ok}
use Rattle.dt_lex.specs.declared.name.Name.{Name}
use Rattle.dt_lex.specs.Text.{lines_of}
use Rattle.dt_lex.specs.Names.{IsName}
use Rattle.dt_lex.specs.Sections.{may_follow}
use Rattle.dt_lex.proofs.Entries.{reading_holds}
use Rattle.dt_model.specs.declared.model.Named.{Named}
use Rattle.dt_model.specs.ModelData.{NodeData}
use Rattle.dt_model.specs.Widths.{HasArities}
use Rattle.dt_model.specs.Faults.{HaveArities, StepArities}
use Rattle.dt_model.specs.Positions.{position_of}
use Rattle.dt_model.specs.Spelled.{HaveNames}
use Rattle.dt_modeltext.specs.declared.fault.ModelFault.{ModelFault}
use Rattle.dt_modeltext.specs.declared.fault.ModelFault.TheVariants as faults
use Rattle.dt_modeltext.specs.Fault.{Cause, form, too_deep}
use Rattle.dt_modeltext.specs.Depth.{is_too_deep}
use Rattle.dt_modeltext.specs.Line.{LineData, header, word, address, new_reg, new_input, new_var, context_rule, access_rule, new_node, ended, spelled, node_names}
use Rattle.dt_modeltext.specs.Entry.{Entry, items, Declared, declared, sections, standing, reg_in, input_in, var_in, context_rule_in, access_rule_in, node_in, declared_positions, entry_of, entry_at}
use Rattle.dt_modeltext.specs.Read.{grammar, finished, reading}
use Rattle.dt_modeltext.proofs.LineArities.{LineHolds, spelled_arities}

-- ---- each entry

abbrev Holds : Entry → Type 0
Holds e = LineHolds e.line

kept_holds : (b : Bool) (e : Entry) → Holds e → IfOk (cond b (Ok e) (Err form)) Holds
kept_holds true e h = h
kept_holds false e h = tt

entry_holds : (n : ℕ) (d : Declared) (o : Option LineData) → IfSome o LineHolds → IfOk (entry_of n d o) Holds
entry_holds n d None h = tt
entry_holds n d (Some l) h = kept_holds (may_follow sections d.place (standing l)) (record { number = n; line = l }) h

unless_deep : (b : Bool) (r : Result Entry Cause) → IfOk r Holds → IfOk (cond b (Err too_deep) r) Holds
unless_deep true r h = tt
unless_deep false r h = h

each_holds : (nodes : Name → Option ℕ) (n : ℕ) (d : Declared) (t : List ℕ) (ts : List (List ℕ)) → IfOk (entry_at nodes n d t ts) Holds
each_holds nodes n d t ts =
    let s = declared_positions nodes d.model in
    unless_deep (is_too_deep (t ∷ ts)) (entry_of n d (spelled s t ts)) (entry_holds n d (spelled s t ts) (spelled_arities s t ts))

-- ---- the lists of the model

abbrev Lines : List Entry → Type 0
Lines es = AllByRecursion Holds es

All_in : {A : Type 0} (P : A → Type 0) (f : LineData → List A) → ((l : LineData) → LineHolds l → All P (f l)) → (es : List Entry) → Lines es → All P (items f es)
All_in P f h [] k = All-nil P
All_in P f h (e ∷ es) k = let is = flat_map-cons (λ x. f x.line) e es in rw is (All-append P (f e.line) (items f es) (h e.line k.0) (All_in P f h es k.1))

in_context : (l : LineData) → LineHolds l → All HasArities (context_rule_in l)
in_context (context_rule e) h = all_of_one HasArities e h
in_context header h = All-nil HasArities
in_context (word w) h = All-nil HasArities
in_context (address a) h = All-nil HasArities
in_context (new_reg n) h = All-nil HasArities
in_context (new_input n) h = All-nil HasArities
in_context (new_var n) h = All-nil HasArities
in_context (access_rule e) h = All-nil HasArities
in_context (new_node n) h = All-nil HasArities
in_context ended h = All-nil HasArities

in_access : (l : LineData) → LineHolds l → All HasArities (access_rule_in l)
in_access (access_rule e) h = all_of_one HasArities e h
in_access header h = All-nil HasArities
in_access (word w) h = All-nil HasArities
in_access (address a) h = All-nil HasArities
in_access (new_reg n) h = All-nil HasArities
in_access (new_input n) h = All-nil HasArities
in_access (new_var n) h = All-nil HasArities
in_access (context_rule e) h = All-nil HasArities
in_access (new_node n) h = All-nil HasArities
in_access ended h = All-nil HasArities

abbrev SpotArities : NodeData → Type 0
SpotArities n = StepArities n.step

in_nodes : (l : LineData) → LineHolds l → All SpotArities (node_in l)
in_nodes (new_node n) h = all_of_one SpotArities n h.1
in_nodes header h = All-nil SpotArities
in_nodes (word w) h = All-nil SpotArities
in_nodes (address a) h = All-nil SpotArities
in_nodes (new_reg n) h = All-nil SpotArities
in_nodes (new_input n) h = All-nil SpotArities
in_nodes (new_var n) h = All-nil SpotArities
in_nodes (context_rule e) h = All-nil SpotArities
in_nodes (access_rule e) h = All-nil SpotArities
in_nodes ended h = All-nil SpotArities

abbrev IsNamed : Named → Type 0
IsNamed n = IsName n.name

abbrev SpotNamed : NodeData → Type 0
SpotNamed n = IsName n.name

in_regs : (l : LineData) → LineHolds l → All IsNamed (reg_in l)
in_regs (new_reg n) h = all_of_one IsNamed n h
in_regs header h = All-nil IsNamed
in_regs (word w) h = All-nil IsNamed
in_regs (address a) h = All-nil IsNamed
in_regs (new_input n) h = All-nil IsNamed
in_regs (new_var n) h = All-nil IsNamed
in_regs (context_rule e) h = All-nil IsNamed
in_regs (access_rule e) h = All-nil IsNamed
in_regs (new_node n) h = All-nil IsNamed
in_regs ended h = All-nil IsNamed

in_inputs : (l : LineData) → LineHolds l → All IsNamed (input_in l)
in_inputs (new_input n) h = all_of_one IsNamed n h
in_inputs header h = All-nil IsNamed
in_inputs (word w) h = All-nil IsNamed
in_inputs (address a) h = All-nil IsNamed
in_inputs (new_reg n) h = All-nil IsNamed
in_inputs (new_var n) h = All-nil IsNamed
in_inputs (context_rule e) h = All-nil IsNamed
in_inputs (access_rule e) h = All-nil IsNamed
in_inputs (new_node n) h = All-nil IsNamed
in_inputs ended h = All-nil IsNamed

in_vars : (l : LineData) → LineHolds l → All IsNamed (var_in l)
in_vars (new_var n) h = all_of_one IsNamed n h
in_vars header h = All-nil IsNamed
in_vars (word w) h = All-nil IsNamed
in_vars (address a) h = All-nil IsNamed
in_vars (new_reg n) h = All-nil IsNamed
in_vars (new_input n) h = All-nil IsNamed
in_vars (context_rule e) h = All-nil IsNamed
in_vars (access_rule e) h = All-nil IsNamed
in_vars (new_node n) h = All-nil IsNamed
in_vars ended h = All-nil IsNamed

in_names : (l : LineData) → LineHolds l → All SpotNamed (node_in l)
in_names (new_node n) h = all_of_one SpotNamed n h.0
in_names header h = All-nil SpotNamed
in_names (word w) h = All-nil SpotNamed
in_names (address a) h = All-nil SpotNamed
in_names (new_reg n) h = All-nil SpotNamed
in_names (new_input n) h = All-nil SpotNamed
in_names (new_var n) h = All-nil SpotNamed
in_names (context_rule e) h = All-nil SpotNamed
in_names (access_rule e) h = All-nil SpotNamed
in_names ended h = All-nil SpotNamed

abbrev Sound : Declared → Type 0
Sound d = HaveArities d.model × HaveNames d.model

declared_sound : (es : List Entry) → Lines es → Sound (declared es)
unfolding declared
declared_sound es h = (record { context = All_in HasArities context_rule_in in_context es h; access = All_in HasArities access_rule_in in_access es h; nodes = All_in SpotArities node_in in_nodes es h }, record { regs = All_in IsNamed reg_in in_regs es h; inputs = All_in IsNamed input_in in_inputs es h; vars = All_in IsNamed var_in in_vars es h; nodes = All_in SpotNamed node_in in_names es h })

-- what holds of the declared holds at the end
pub finished_holds : (P : Declared → Type 0) (n : ℕ) (d : Declared) → P d → IfOk (finished n d) P
finished_holds P n d h = kept (eqb d.place (length sections)) d (faults.Form n) h
  where
    kept : (b : Bool) (e : Declared) (f : ModelFault) → P e → IfOk (cond b (Ok e) (Err f)) P
    kept true e f k = k
    kept false e f k = tt

reading_sound : (text : List ℕ) → IfOk (reading text) Sound
unfolding reading
reading_sound text =
    let nodes = position_of (node_names (lines_of text)) in
    reading_holds (grammar nodes) Holds (each_holds nodes) finished Sound (λ n es h. finished_holds Sound n (declared es) (declared_sound es h)) text

pub read_arities : (text : List ℕ) (d : Declared) → reading text ≡ Ok d → HaveArities d.model
read_arities text d h = (at_ok Sound (reading text) d (reading_sound text) h).0

pub read_names : (text : List ℕ) (d : Declared) → reading text ≡ Ok d → HaveNames d.model
read_names text d h = (at_ok Sound (reading text) d (reading_sound text) h).1
