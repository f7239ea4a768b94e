-- The lines of a printed text, none of which is bad after those before, declare the model again.
use Rattle.std.proofs.Common.{◌≡◌, ℕ, ◌+◌, ◌*◌, ◌<◌, ◌≤◌, true, false, eqb, List, [], ◌∷◌, ◌++◌, length, Option, Some, Result, Ok, refl, sym, ap, subst, ◌∙◌, append_assoc, arith}
use Rattle.std.specs.Prelude.{map, codes}
use Rattle.std.specs.List.{flat_map, AllByRecursion}
use Rattle.std.specs.Option.{option_to_list}
use Rattle.std.proofs.lemmas.Bool.{cond-true, eq-eqb}
use Rattle.std.proofs.lemmas.List.{append-nil, map-append, length-append, length-map}
use Rattle.std.proofs.lemmas.Simd.{map-map}
use Rattle.dt_lemmas.proofs.Numbers.{passes_from, passes_at}
use Rattle.dt_lex.specs.declared.name.Name.{Name}
use Rattle.dt_lex.specs.declared.section.Standing.TheVariants.{In}
use Rattle.dt_lex.specs.Names.{IsName}
use Rattle.dt_lex.specs.Text.{lines_of}
use Rattle.dt_lex.specs.Printing.{body_of, row_text, text_of}
use Rattle.dt_lex.specs.Reading.{◌>>=◌, grow, reading_of}
use Rattle.dt_lex.specs.Sections.{may_follow}
use Rattle.dt_lex.proofs.Blocks.{place_after, stays, within}
use Rattle.dt_lex.proofs.Loop.{run_from}
use Rattle.dt_lex.proofs.Printed.{HaveNoFeed, lines_text, IsLine, line_is_row, reading_lines}
use Rattle.dt_model.specs.declared.model.Named.{Named}
use Rattle.dt_model.specs.ModelData.{Tree, NodeData, ModelData}
use Rattle.dt_model.specs.Faults.{node_scope}
use Rattle.dt_model.specs.Positions.{position_of}
use Rattle.dt_modeltext.specs.declared.fault.ModelFault.{ModelFault}
use Rattle.dt_modeltext.specs.Expr.{Positions}
use Rattle.dt_modeltext.specs.Depth.{is_too_deep}
use Rattle.dt_modeltext.specs.Line.{LineData, header, word, address, new_reg, new_input, new_var, context_rule, access_rule, new_node, ended, node_name, node_names}
use Rattle.dt_modeltext.specs.Entry.{Entry, Declared, declared, sections, standing, place_behind, declared_positions}
use Rattle.dt_modeltext.specs.Read.{grammar, finished, reading, model_in}
use Rattle.dt_modeltext.specs.Draft.{model_with, with_line, added}
use Rattle.dt_modeltext.specs.Laws.{adds_up}
use Rattle.dt_modeltext.specs.Print.{rows_of, printed}
use Rattle.dt_modeltext.proofs.PrintedLines.{line_row, line_tokens, AreKnown, IsShort, IsSized, CanAct, CanLine, row_line, row_shallow, spelled_row, header_again, word_again, address_again, reg_again, input_again, new_var_again, ended_again, context_again, access_again, node_again, row_again}

abbrev Tokens : Type 0
Tokens = List (List ℕ)

-- ---- what lines declare, without where

abbrev models_added : ModelData → List LineData → ModelData
models_added m [] = m
models_added m (l ∷ ls) = models_added (model_with m l) ls

abbrev last_place : ℕ → List LineData → ℕ
last_place p [] = p
last_place p (l ∷ ls) = last_place (place_behind l) ls

abbrev all_added : ℕ → Declared → List LineData → Declared
all_added n d [] = d
all_added n d (l ∷ ls) = all_added (n + 1) (with_line d n l) ls

all_place : (n : ℕ) (d : Declared) (ls : List LineData) → (all_added n d ls).place ≡ last_place d.place ls
all_place n d [] = refl
all_place n d (l ∷ ls) = all_place (n + 1) (with_line d n l) ls

all_model : (n : ℕ) (d : Declared) (ls : List LineData) → (all_added n d ls).model ≡ models_added d.model ls
all_model n d [] = refl
all_model n d (l ∷ ls) = all_model (n + 1) (with_line d n l) ls

models_added-append : (m : ModelData) (xs ys : List LineData) → models_added m (xs ++ ys) ≡ models_added (models_added m xs) ys
models_added-append m [] ys = refl
models_added-append m (x ∷ xs) ys = models_added-append (model_with m x) xs ys

last_place-append : (p : ℕ) (xs ys : List LineData) → last_place p (xs ++ ys) ≡ last_place (last_place p xs) ys
last_place-append p [] ys = refl
last_place-append p (x ∷ xs) ys = last_place-append (place_behind x) xs ys

-- ---- lines, none of which is bad

-- no line of these is bad at place p, where m is declared
abbrev IsRun : ModelData → (Name → Option ℕ) → ℕ → ModelData → List LineData → Type 0
IsRun d nodes p m [] = Unit {0}
IsRun d nodes p m (l ∷ ls) = (may_follow sections p (standing l) ≡ true) × (spelled_row (declared_positions nodes m) (line_tokens d l) ≡ Some l) × IsRun d nodes (place_behind l) (model_with m l) ls

IsRun-append : (d : ModelData) (nodes : Name → Option ℕ) (p : ℕ) (m : ModelData) (xs ys : List LineData) → IsRun d nodes p m xs → IsRun d nodes (last_place p xs) (models_added m xs) ys → IsRun d nodes p m (xs ++ ys)
IsRun-append d nodes p m [] ys h k = k
IsRun-append d nodes p m (x ∷ xs) ys h k = (h.0, h.1, IsRun-append d nodes (place_behind x) (model_with m x) xs ys h.2 k)

-- a line is cut into its tokens again, and they are not too deep
record IsGood (d : ModelData) (l : LineData) : Type 0 where
  line : IsLine (body_of (line_row d l)) (line_tokens d l)
  shallow : is_too_deep (line_tokens d l) ≡ false

abbrev AreGood : ModelData → List LineData → Type 0
AreGood d ls = AllByRecursion (IsGood d) ls

abbrev rows : ModelData → List LineData → List (List (List ℕ))
rows d ls = map (line_row d) ls

lines_run : (d : ModelData) (nodes : Name → Option ℕ) (n : ℕ) (e : Declared) (ls : List LineData) → AreGood d ls → IsRun d nodes e.place e.model ls → run_from (grammar nodes) added n e (map body_of (rows d ls)) ≡ Ok (all_added n e ls)
unfolding run_from
lines_run d nodes n e [] good run = refl
lines_run d nodes n e (l ∷ ls) good run =
    let read = line_is_row (grammar nodes) n e (body_of (line_row d l)) (line_tokens d l) good.0.line ∙ row_again nodes n e (line_tokens d l) l good.0.shallow run.1 run.0 in
    ap (λ (r : Result (Option Entry) ModelFault). r >>= λ o. run_from (grammar nodes) added (n + 1) (grow added e o) (map body_of (rows d ls))) read ∙ lines_run d nodes (n + 1) (with_line e n l) ls good.1 run.2

good_feeds : (d : ModelData) (ls : List LineData) → AreGood d ls → HaveNoFeed (rows d ls)
good_feeds d [] h = tt
good_feeds d (l ∷ ls) h = (h.0.line.no_feed, good_feeds d ls h.1)

can_good : (s : Positions) (d : ModelData) → AreKnown s d → (ls : List LineData) → AllByRecursion (CanLine d) ls → AreGood d ls
can_good s d k [] h = tt
can_good s d k (l ∷ ls) h = (record { line = row_line s d k l h.0; shallow = row_shallow s d k l h.0 }, can_good s d k ls h.1)

-- ---- the lines of a model

abbrev from_nodes : ModelData → List LineData
from_nodes d = map (λ n. new_node n) d.nodes ++ ended ∷ []

abbrev from_access : ModelData → List LineData
from_access d = map (λ e. access_rule e) d.legal_access ++ from_nodes d

abbrev from_context : ModelData → List LineData
from_context d = map (λ e. context_rule e) d.legal_context ++ from_access d

abbrev from_vars : ModelData → List LineData
from_vars d = map (λ n. new_var n) d.vars ++ from_context d

abbrev from_inputs : ModelData → List LineData
from_inputs d = map (λ n. new_input n) d.inputs ++ from_vars d

abbrev from_regs : ModelData → List LineData
from_regs d = map (λ n. new_reg n) d.regs ++ from_inputs d

abbrev lines_in : ModelData → List LineData
lines_in d = header ∷ word d.word ∷ address d.address ∷ from_regs d

-- the rows of one kind of line, and of those after them
block : {X : Type 0} (d : ModelData) (f : X → LineData) (xs : List X) (ls : List LineData) (more : List (List (List ℕ))) → more ≡ rows d ls → map (λ x. line_row d (f x)) xs ++ more ≡ rows d (map f xs ++ ls)
block {X = X} d f xs ls more e =
    ap (λ (rs : List (List (List ℕ))). map (λ x. line_row d (f x)) xs ++ rs) e
    ∙ ap (λ (rs : List (List (List ℕ))). rs ++ rows d ls) (sym (map-map (line_row d) f xs))
    ∙ sym (map-append (line_row d) (map f xs) ls)

rows_are : (d : ModelData) → rows_of d ≡ rows d (lines_in d)
rows_are d =
    let nodes = block d (λ n. new_node n) d.nodes (ended ∷ []) ((codes "end" ∷ []) ∷ []) refl in
    let access = block d (λ e. access_rule e) d.legal_access (from_nodes d) _ nodes in
    let context = block d (λ e. context_rule e) d.legal_context (from_access d) _ access in
    let vars = block d (λ n. new_var n) d.vars (from_context d) _ context in
    let inputs = block d (λ n. new_input n) d.inputs (from_vars d) _ vars in
    let regs = block d (λ n. new_reg n) d.regs (from_inputs d) _ inputs in
    ap (λ (rs : List (List (List ℕ))). line_row d header ∷ line_row d (word d.word) ∷ line_row d (address d.address) ∷ rs) regs

-- ---- what is asked of a model

abbrev IsPlaced : ModelData → NodeData → Type 0
IsPlaced d n = IsName n.name × CanAct d n.step

pub record CanPrint (d : ModelData) : Type 0 where
  pub known : AreKnown (declared_positions (position_of (map (λ n. n.name) d.nodes)) d) d
  pub word : d.word ≤ 65535
  pub address : d.address ≤ 65535
  pub regs : AllByRecursion IsSized d.regs
  pub inputs : AllByRecursion IsSized d.inputs
  pub vars : AllByRecursion IsSized d.vars
  pub context : AllByRecursion (IsShort (node_scope d)) d.legal_context
  pub access : AllByRecursion (IsShort (node_scope d)) d.legal_access
  pub nodes : AllByRecursion (IsPlaced d) d.nodes

can_block : {X : Type 0} (d : ModelData) (f : X → LineData) (xs : List X) (ls : List LineData) → AllByRecursion (λ x. CanLine d (f x)) xs → AllByRecursion (CanLine d) ls → AllByRecursion (CanLine d) (map f xs ++ ls)
can_block d f [] ls h k = k
can_block d f (x ∷ xs) ls h k = (h.0, can_block d f xs ls h.1 k)

can_all : (d : ModelData) → CanPrint d → AllByRecursion (CanLine d) (lines_in d)
can_all d h =
    (tt, (h.word, (h.address, can_block d (λ n. new_reg n) d.regs (from_inputs d) h.regs (can_block d (λ n. new_input n) d.inputs (from_vars d) h.inputs (can_block d (λ n. new_var n) d.vars (from_context d) h.vars (can_block d (λ e. context_rule e) d.legal_context (from_access d) h.context (can_block d (λ e. access_rule e) d.legal_access (from_nodes d) h.access (can_block d (λ n. new_node n) d.nodes (ended ∷ []) h.nodes (tt, tt)))))))))

-- ---- blocks of lines

block_place : {X : Type 0} (f : X → LineData) (k p : ℕ) (xs : List X) → ((x : X) → place_behind (f x) ≡ k) → last_place p (map f xs) ≡ place_after p k xs
block_place f k p [] h = refl
block_place f k p (x ∷ xs) h = block_place f k (place_behind (f x)) xs h ∙ ap (λ (q : ℕ). place_after q k xs) (h x) ∙ stays k xs

-- lines of a section may stand at these places
follows : (section start count p : ℕ) → passes_from (λ q. may_follow sections q (In section)) start count ≡ true → start ≤ p → p < start + count → may_follow sections p (In section) ≡ true
follows section start count p h low high = passes_at (λ q. may_follow sections q (In section)) start count p h low high

regs_added : (m : ModelData) (ns : List Named) → models_added m (map (λ n. new_reg n) ns) ≡ record m { regs = m.regs ++ ns }
regs_added m [] = λ i. record m { regs = sym (append-nil m.regs) i }
regs_added m (n ∷ ns) = regs_added (model_with m (new_reg n)) ns ∙ (λ i. record m { regs = append_assoc m.regs (n ∷ []) ns i })

inputs_added : (m : ModelData) (ns : List Named) → models_added m (map (λ n. new_input n) ns) ≡ record m { inputs = m.inputs ++ ns }
inputs_added m [] = λ i. record m { inputs = sym (append-nil m.inputs) i }
inputs_added m (n ∷ ns) = inputs_added (model_with m (new_input n)) ns ∙ (λ i. record m { inputs = append_assoc m.inputs (n ∷ []) ns i })

vars_added : (m : ModelData) (ns : List Named) → models_added m (map (λ n. new_var n) ns) ≡ record m { vars = m.vars ++ ns }
vars_added m [] = λ i. record m { vars = sym (append-nil m.vars) i }
vars_added m (n ∷ ns) = vars_added (model_with m (new_var n)) ns ∙ (λ i. record m { vars = append_assoc m.vars (n ∷ []) ns i })

context_added : (m : ModelData) (es : List Tree) → models_added m (map (λ e. context_rule e) es) ≡ record m { legal_context = m.legal_context ++ es }
context_added m [] = λ i. record m { legal_context = sym (append-nil m.legal_context) i }
context_added m (e ∷ es) = context_added (model_with m (context_rule e)) es ∙ (λ i. record m { legal_context = append_assoc m.legal_context (e ∷ []) es i })

access_added : (m : ModelData) (es : List Tree) → models_added m (map (λ e. access_rule e) es) ≡ record m { legal_access = m.legal_access ++ es }
access_added m [] = λ i. record m { legal_access = sym (append-nil m.legal_access) i }
access_added m (e ∷ es) = access_added (model_with m (access_rule e)) es ∙ (λ i. record m { legal_access = append_assoc m.legal_access (e ∷ []) es i })

nodes_added : (m : ModelData) (ns : List NodeData) → models_added m (map (λ n. new_node n) ns) ≡ record m { nodes = m.nodes ++ ns }
nodes_added m [] = λ i. record m { nodes = sym (append-nil m.nodes) i }
nodes_added m (n ∷ ns) = nodes_added (model_with m (new_node n)) ns ∙ (λ i. record m { nodes = append_assoc m.nodes (n ∷ []) ns i })

regs_run : (d : ModelData) (nodes : Name → Option ℕ) (p : ℕ) (m : ModelData) (ns : List Named) → 3 ≤ p → p ≤ 4 → AllByRecursion IsSized ns → IsRun d nodes p m (map (λ n. new_reg n) ns)
regs_run d nodes p m [] low high h = tt
regs_run d nodes p m (n ∷ ns) low high h =
    (follows 3 3 2 p refl low (omega arith), reg_again (declared_positions nodes m) d n h.0, regs_run d nodes 4 (model_with m (new_reg n)) ns (omega arith) (omega arith) h.1)

inputs_run : (d : ModelData) (nodes : Name → Option ℕ) (p : ℕ) (m : ModelData) (ns : List Named) → 3 ≤ p → p ≤ 5 → AllByRecursion IsSized ns → IsRun d nodes p m (map (λ n. new_input n) ns)
inputs_run d nodes p m [] low high h = tt
inputs_run d nodes p m (n ∷ ns) low high h =
    (follows 4 3 3 p refl low (omega arith), input_again (declared_positions nodes m) d n h.0, inputs_run d nodes 5 (model_with m (new_input n)) ns (omega arith) (omega arith) h.1)

vars_run : (d : ModelData) (nodes : Name → Option ℕ) (p : ℕ) (m : ModelData) (ns : List Named) → 3 ≤ p → p ≤ 6 → AllByRecursion IsSized ns → IsRun d nodes p m (map (λ n. new_var n) ns)
vars_run d nodes p m [] low high h = tt
vars_run d nodes p m (n ∷ ns) low high h =
    (follows 5 3 4 p refl low (omega arith), new_var_again (declared_positions nodes m) d n h.0, vars_run d nodes 6 (model_with m (new_var n)) ns (omega arith) (omega arith) h.1)

context_run : (d : ModelData) (nodes : Name → Option ℕ) (p : ℕ) (m : ModelData) (es : List Tree) → 3 ≤ p → p ≤ 7 → AreKnown (declared_positions nodes m) d → AllByRecursion (IsShort (node_scope d)) es → IsRun d nodes p m (map (λ e. context_rule e) es)
context_run d nodes p m [] low high k h = tt
context_run d nodes p m (e ∷ es) low high k h =
    (follows 6 3 5 p refl low (omega arith), context_again (declared_positions nodes m) d k e h.0, context_run d nodes 7 (model_with m (context_rule e)) es (omega arith) (omega arith) k h.1)

access_run : (d : ModelData) (nodes : Name → Option ℕ) (p : ℕ) (m : ModelData) (es : List Tree) → 3 ≤ p → p ≤ 8 → AreKnown (declared_positions nodes m) d → AllByRecursion (IsShort (node_scope d)) es → IsRun d nodes p m (map (λ e. access_rule e) es)
access_run d nodes p m [] low high k h = tt
access_run d nodes p m (e ∷ es) low high k h =
    (follows 7 3 6 p refl low (omega arith), access_again (declared_positions nodes m) d k e h.0, access_run d nodes 8 (model_with m (access_rule e)) es (omega arith) (omega arith) k h.1)

nodes_run : (d : ModelData) (nodes : Name → Option ℕ) (p : ℕ) (m : ModelData) (ns : List NodeData) → 3 ≤ p → p ≤ 9 → AreKnown (declared_positions nodes m) d → AllByRecursion (IsPlaced d) ns → IsRun d nodes p m (map (λ n. new_node n) ns)
nodes_run d nodes p m [] low high k h = tt
nodes_run d nodes p m (n ∷ ns) low high k h =
    (follows 8 3 7 p refl low (omega arith), node_again (declared_positions nodes m) d k n h.0.0 h.0.1, nodes_run d nodes 9 (model_with m (new_node n)) ns (omega arith) (omega arith) k h.1)

-- ---- the whole run, block by block

abbrev empty_model : ModelData
empty_model = record { word = 0; address = 0; regs = []; inputs = []; vars = []; legal_context = []; legal_access = []; nodes = [] }

abbrev sized : ModelData → ModelData
sized d = record empty_model { word = d.word; address = d.address }

abbrev with_regs : ModelData → ModelData
with_regs d = record (sized d) { regs = d.regs }

abbrev with_inputs : ModelData → ModelData
with_inputs d = record (with_regs d) { inputs = d.inputs }

abbrev with_vars : ModelData → ModelData
with_vars d = record (with_inputs d) { vars = d.vars }

abbrev with_context : ModelData → ModelData
with_context d = record (with_vars d) { legal_context = d.legal_context }

abbrev with_access : ModelData → ModelData
with_access d = record (with_context d) { legal_access = d.legal_access }

abbrev place_4 : ModelData → ℕ
place_4 d = place_after 3 4 d.regs

abbrev place_5 : ModelData → ℕ
place_5 d = place_after (place_4 d) 5 d.inputs

abbrev place_6 : ModelData → ℕ
place_6 d = place_after (place_5 d) 6 d.vars

abbrev place_7 : ModelData → ℕ
place_7 d = place_after (place_6 d) 7 d.legal_context

abbrev place_8 : ModelData → ℕ
place_8 d = place_after (place_7 d) 8 d.legal_access

abbrev place_9 : ModelData → ℕ
place_9 d = place_after (place_8 d) 9 d.nodes

at_4 : (d : ModelData) → (3 ≤ place_4 d) × (place_4 d ≤ 4)
at_4 d = within 3 3 4 d.regs (omega arith) (omega arith)

at_5 : (d : ModelData) → (3 ≤ place_5 d) × (place_5 d ≤ 5)
at_5 d = within 3 (place_4 d) 5 d.inputs (at_4 d).0 (omega (arith, (at_4 d).1))

at_6 : (d : ModelData) → (3 ≤ place_6 d) × (place_6 d ≤ 6)
at_6 d = within 3 (place_5 d) 6 d.vars (at_5 d).0 (omega (arith, (at_5 d).1))

at_7 : (d : ModelData) → (3 ≤ place_7 d) × (place_7 d ≤ 7)
at_7 d = within 3 (place_6 d) 7 d.legal_context (at_6 d).0 (omega (arith, (at_6 d).1))

at_8 : (d : ModelData) → (3 ≤ place_8 d) × (place_8 d ≤ 8)
at_8 d = within 3 (place_7 d) 8 d.legal_access (at_7 d).0 (omega (arith, (at_7 d).1))

at_9 : (d : ModelData) → (3 ≤ place_9 d) × (place_9 d ≤ 9)
at_9 d = within 3 (place_8 d) 9 d.nodes (at_8 d).0 (omega (arith, (at_8 d).1))

-- a block, and what comes after it
then_run : {X : Type 0} (d : ModelData) (nodes : Name → Option ℕ) (p k : ℕ) (m n : ModelData) (f : X → LineData) (xs : List X) (ls : List LineData) → ((x : X) → place_behind (f x) ≡ k) → models_added m (map f xs) ≡ n → IsRun d nodes p m (map f xs) → IsRun d nodes (place_after p k xs) n ls → IsRun d nodes p m (map f xs ++ ls)
then_run d nodes p k m n f xs ls ranked e h more =
    let at_place : IsRun d nodes (last_place p (map f xs)) n ls = subst (λ (q : ℕ). IsRun d nodes q n ls) (sym (block_place f k p xs ranked)) more in
    IsRun-append d nodes p m (map f xs) ls h (subst (λ (x : ModelData). IsRun d nodes (last_place p (map f xs)) x ls) (sym e) at_place)

abbrev node_names_of : ModelData → List Name
node_names_of d = map (λ n. n.name) d.nodes

ends_run : (d : ModelData) → IsRun d (position_of (node_names_of d)) (place_9 d) d (ended ∷ [])
ends_run d = (follows 9 3 7 (place_9 d) refl (at_9 d).0 (omega (arith, (at_9 d).1)), ended_again (declared_positions (position_of (node_names_of d)) d) d, tt)

whole_run : (d : ModelData) → CanPrint d → IsRun d (position_of (node_names_of d)) 0 empty_model (lines_in d)
whole_run d h =
    let ns = position_of (node_names_of d) in
    let nodes = then_run d ns (place_8 d) 9 (with_access d) d (λ n. new_node n) d.nodes (ended ∷ []) (λ n. refl) (nodes_added (with_access d) d.nodes) (nodes_run d ns (place_8 d) (with_access d) d.nodes (at_8 d).0 (omega (arith, (at_8 d).1)) h.known h.nodes) (ends_run d) in
    let access = then_run d ns (place_7 d) 8 (with_context d) (with_access d) (λ e. access_rule e) d.legal_access (from_nodes d) (λ e. refl) (access_added (with_context d) d.legal_access) (access_run d ns (place_7 d) (with_context d) d.legal_access (at_7 d).0 (omega (arith, (at_7 d).1)) h.known h.access) nodes in
    let context = then_run d ns (place_6 d) 7 (with_vars d) (with_context d) (λ e. context_rule e) d.legal_context (from_access d) (λ e. refl) (context_added (with_vars d) d.legal_context) (context_run d ns (place_6 d) (with_vars d) d.legal_context (at_6 d).0 (omega (arith, (at_6 d).1)) h.known h.context) access in
    let vars = then_run d ns (place_5 d) 6 (with_inputs d) (with_vars d) (λ n. new_var n) d.vars (from_context d) (λ n. refl) (vars_added (with_inputs d) d.vars) (vars_run d ns (place_5 d) (with_inputs d) d.vars (at_5 d).0 (omega (arith, (at_5 d).1)) h.vars) context in
    let inputs = then_run d ns (place_4 d) 5 (with_regs d) (with_inputs d) (λ n. new_input n) d.inputs (from_vars d) (λ n. refl) (inputs_added (with_regs d) d.inputs) (inputs_run d ns (place_4 d) (with_regs d) d.inputs (at_4 d).0 (omega (arith, (at_4 d).1)) h.inputs) vars in
    let regs = then_run d ns 3 4 (sized d) (with_regs d) (λ n. new_reg n) d.regs (from_inputs d) (λ n. refl) (regs_added (sized d) d.regs) (regs_run d ns 3 (sized d) d.regs (omega arith) (omega arith) h.regs) inputs in
    (refl, header_again (declared_positions ns empty_model) d, (refl, word_again (declared_positions ns empty_model) d d.word h.word, (refl, address_again (declared_positions ns (record empty_model { word = d.word })) d d.address h.address, regs)))

then_model : {X : Type 0} (m n : ModelData) (f : X → LineData) (xs : List X) (ls : List LineData) (e : ModelData) → models_added m (map f xs) ≡ n → models_added n ls ≡ e → models_added m (map f xs ++ ls) ≡ e
then_model m n f xs ls e h more = models_added-append m (map f xs) ls ∙ ap (λ (x : ModelData). models_added x ls) h ∙ more

whole_model : (d : ModelData) → models_added empty_model (lines_in d) ≡ d
whole_model d =
    then_model (sized d) (with_regs d) (λ n. new_reg n) d.regs (from_inputs d) d (regs_added (sized d) d.regs)
    (then_model (with_regs d) (with_inputs d) (λ n. new_input n) d.inputs (from_vars d) d (inputs_added (with_regs d) d.inputs)
    (then_model (with_inputs d) (with_vars d) (λ n. new_var n) d.vars (from_context d) d (vars_added (with_inputs d) d.vars)
    (then_model (with_vars d) (with_context d) (λ e. context_rule e) d.legal_context (from_access d) d (context_added (with_vars d) d.legal_context)
    (then_model (with_context d) (with_access d) (λ e. access_rule e) d.legal_access (from_nodes d) d (access_added (with_context d) d.legal_access)
    (then_model (with_access d) d (λ n. new_node n) d.nodes (ended ∷ []) d (nodes_added (with_access d) d.nodes) refl)))))

then_place : {X : Type 0} (f : X → LineData) (xs : List X) (ls : List LineData) → ((q : ℕ) → last_place q ls ≡ 10) → (p : ℕ) → last_place p (map f xs ++ ls) ≡ 10
then_place f xs ls h p = last_place-append p (map f xs) ls ∙ h (last_place p (map f xs))

whole_place : (d : ModelData) → last_place 0 (lines_in d) ≡ 10
whole_place d =
    then_place (λ n. new_reg n) d.regs (from_inputs d) (then_place (λ n. new_input n) d.inputs (from_vars d) (then_place (λ n. new_var n) d.vars (from_context d) (then_place (λ e. context_rule e) d.legal_context (from_access d) (then_place (λ e. access_rule e) d.legal_access (from_nodes d) (then_place (λ n. new_node n) d.nodes (ended ∷ []) (λ q. refl)))))) 3

-- ---- the names of its nodes

abbrev names_on : LineData → List Name
names_on (new_node n) = n.name ∷ []
names_on _ = []

tokens_name : (d : ModelData) (l : LineData) → CanLine d l → node_name (line_tokens d l) ≡ names_on l
tokens_name d header c = refl
tokens_name d (word w) c = refl
tokens_name d (address a) c = refl
tokens_name d (new_reg n) c = refl
tokens_name d (new_input n) c = refl
tokens_name d (new_var n) c = refl
tokens_name d (context_rule e) c = refl
tokens_name d (access_rule e) c = refl
tokens_name d (new_node n) c = ap option_to_list c.0
tokens_name d ended c = refl

lines_names : (d : ModelData) (ls : List LineData) → AllByRecursion (CanLine d) ls → AreGood d ls → node_names (map body_of (rows d ls)) ≡ flat_map names_on ls
unfolding node_names
lines_names d [] c h = refl
lines_names d (l ∷ ls) c h =
    ap (λ (ts : Tokens). node_name ts ++ node_names (map body_of (rows d ls))) h.0.line.tokens
    ∙ ap (λ (ns : List Name). ns ++ node_names (map body_of (rows d ls))) (tokens_name d l c.0)
    ∙ ap (λ (ns : List Name). names_on l ++ ns) (lines_names d ls c.1 h.1)

nameless : {X : Type 0} (f : X → LineData) (xs : List X) (ls : List LineData) → ((x : X) → names_on (f x) ≡ []) → flat_map names_on (map f xs ++ ls) ≡ flat_map names_on ls
nameless f [] ls h = refl
nameless f (x ∷ xs) ls h = ap (λ (ns : List Name). ns ++ flat_map names_on (map f xs ++ ls)) (h x) ∙ nameless f xs ls h

nodes_named : (ns : List NodeData) → flat_map names_on (map (λ n. new_node n) ns ++ ended ∷ []) ≡ map (λ n. n.name) ns
nodes_named [] = refl
nodes_named (n ∷ ns) = ap (λ (xs : List Name). n.name ∷ xs) (nodes_named ns)

whole_names : (d : ModelData) → flat_map names_on (lines_in d) ≡ node_names_of d
whole_names d =
    nameless (λ n. new_reg n) d.regs (from_inputs d) (λ n. refl) ∙ nameless (λ n. new_input n) d.inputs (from_vars d) (λ n. refl) ∙ nameless (λ n. new_var n) d.vars (from_context d) (λ n. refl) ∙ nameless (λ e. context_rule e) d.legal_context (from_access d) (λ e. refl) ∙ nameless (λ e. access_rule e) d.legal_access (from_nodes d) (λ e. refl) ∙ nodes_named d.nodes

-- ---- the whole text

printed_lines : (d : ModelData) → printed d ≡ text_of (rows d (lines_in d))
unfolding printed
printed_lines d = ap text_of (rows_are d)

started : Declared
started = declared []

started_place : (declared []).place ≡ 0
unfolding declared
started_place = refl

started_model : (declared []).model ≡ empty_model
unfolding declared
started_model = refl

finished_at : (n : ℕ) (e : Declared) → e.place ≡ length sections → finished n e ≡ Ok e
finished_at n e h = cond-true (eqb e.place (length sections)) (Ok e) _ (eq-eqb e.place (length sections) h)

all_short : (d : ModelData) (ls : List LineData) → AreGood d ls → AllByRecursion (λ line. length line ≤ 16384) (map body_of (rows d ls))
all_short d [] h = tt
all_short d (l ∷ ls) h = (h.0.line.short, all_short d ls h.1)

-- no line of it is too long
pub printed_short : (d : ModelData) → CanPrint d → AllByRecursion (λ line. length line ≤ 16384) (lines_of (printed d))
printed_short d h =
    let ls = lines_in d in
    let good = can_good (declared_positions (position_of (node_names_of d)) d) d h.known ls (can_all d h) in
    let lines : lines_of (printed d) ≡ map body_of (rows d ls) = ap lines_of (printed_lines d) ∙ lines_text (rows d ls) (good_feeds d ls good) in
    subst (AllByRecursion (λ line. length line ≤ 16384)) (sym lines) (all_short d ls good)

rows_length : (d : ModelData) (ls : List LineData) → AreGood d ls → length (text_of (rows d ls)) ≤ length ls * 16385
rows_length d [] h = omega arith
rows_length d (l ∷ ls) h =
    omega (arith, length-append (row_text (line_row d l)) (text_of (rows d ls)), length-append (body_of (line_row d l)) (10 ∷ []), h.0.line.short, rows_length d ls h.1)

block_count : {X : Type 0} (f : X → LineData) (xs : List X) (ls : List LineData) → length (map f xs ++ ls) ≡ length xs + length ls
block_count f xs ls = omega (arith, length-append (map f xs) ls, length-map xs f)

lines_count : (d : ModelData) → length (lines_in d) ≡ 4 + length d.regs + length d.inputs + length d.vars + length d.legal_context + length d.legal_access + length d.nodes
lines_count d =
    omega (arith, block_count (λ n. new_reg n) d.regs (from_inputs d), block_count (λ n. new_input n) d.inputs (from_vars d), block_count (λ n. new_var n) d.vars (from_context d), block_count (λ e. context_rule e) d.legal_context (from_access d), block_count (λ e. access_rule e) d.legal_access (from_nodes d), block_count (λ n. new_node n) d.nodes (ended ∷ []))

-- it has at most so many bytes for each line
pub printed_length : (d : ModelData) → CanPrint d → length (printed d) ≤ (4 + length d.regs + length d.inputs + length d.vars + length d.legal_context + length d.legal_access + length d.nodes) * 16385
printed_length d h =
    let ls = lines_in d in
    let good = can_good (declared_positions (position_of (node_names_of d)) d) d h.known ls (can_all d h) in
    omega (arith, ap length (printed_lines d), rows_length d ls good, lines_count d)

-- the text of a model that can be printed is read as the model
pub printed_again : (d : ModelData) → CanPrint d → model_in (printed d) ≡ Ok d
unfolding reading
printed_again d h =
    let ls = lines_in d in
    let s = declared_positions (position_of (node_names_of d)) d in
    let can = can_all d h in
    let good = can_good s d h.known ls can in
    let feeds = good_feeds d ls good in
    let text = text_of (rows d ls) in
    let names : node_names (lines_of text) ≡ node_names_of d = ap node_names (lines_text (rows d ls) feeds) ∙ lines_names d ls can good ∙ whole_names d in
    let start : Declared = declared [] in
    let end = all_added 1 start ls in
    let run : IsRun d (position_of (node_names_of d)) start.place start.model ls = subst (λ (p : ℕ). IsRun d (position_of (node_names_of d)) p start.model ls) (sym started_place) (subst (λ (m : ModelData). IsRun d (position_of (node_names_of d)) 0 m ls) (sym started_model) (whole_run d h)) in
    let place : end.place ≡ 10 = all_place 1 start ls ∙ ap (λ (p : ℕ). last_place p ls) started_place ∙ whole_place d in
    let model : end.model ≡ d = all_model 1 start ls ∙ ap (λ (m : ModelData). models_added m ls) started_model ∙ whole_model d in
    let read : reading_of (grammar (position_of (node_names_of d))) finished text ≡ Ok end = reading_lines (grammar (position_of (node_names_of d))) added finished (rows d ls) end (adds_up (position_of (node_names_of d))) feeds (lines_run d (position_of (node_names_of d)) 1 start ls good run) ∙ finished_at (length (rows d ls) + 1) end place in
    ap model_in (printed_lines d)
    ∙ ap (λ (ns : List Name). reading_of (grammar (position_of ns)) finished text >>= λ e. Ok e.model) names
    ∙ ap (λ (r : Result Declared ModelFault). r >>= λ e. Ok e.model) read
    ∙ ap (λ (m : ModelData). Ok m) model
