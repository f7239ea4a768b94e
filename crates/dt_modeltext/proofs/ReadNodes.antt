-- The names of the node lines are the names of the model's.
use Rattle.std.proofs.Common.{◌≡◌, ℕ, Bool, true, false, cond, List, [], ◌∷◌, ◌++◌, Option, Some, None, Result, Ok, Err, refl, sym, ap, ◌∙◌}
use Rattle.std.specs.Prelude.{IfSome, IfOk, map, codes}
use Rattle.std.specs.List.{flat_map}
use Rattle.std.specs.Option.{option_map, option_to_list}
use Rattle.std.specs.Str.{bytes_eq}
use Rattle.std.proofs.lemmas.Bool.{cond-true, cond-false}
use Rattle.std.proofs.lemmas.List.{map-append}
use Rattle.std.proofs.lemmas.Slice.Eq.{bytes_eq-Decides}
use Rattle.dt_lemmas.proofs.Options.{at_some, at_ok, mapped_some, chosen_some}
use Rattle.dt_lex.specs.declared.name.Name.{Name}
use Rattle.dt_lex.specs.Names.{name_of}
use Rattle.dt_lex.specs.Text.{lines_of, tokens_of}
use Rattle.dt_lex.specs.Frame.{is_alone, lone}
use Rattle.dt_lex.specs.Sections.{may_follow}
use Rattle.dt_lex.proofs.Entries.{reading_seen}
use Rattle.dt_model.specs.ModelData.{Tree, NodeData}
use Rattle.dt_model.specs.Limits.{most_depth}
use Rattle.dt_model.specs.Positions.{position_of}
use Rattle.dt_modeltext.specs.Fault.{Cause, form, too_deep}
use Rattle.dt_modeltext.specs.Depth.{is_too_deep}
use Rattle.dt_modeltext.specs.Expr.{Positions, small_at, expr_at}
use Rattle.dt_modeltext.specs.Act.{act_at}
use Rattle.dt_modeltext.specs.Line.{LineData, header, word, address, new_reg, new_input, new_var, context_rule, access_rule, new_node, ended, node_name, node_names, named_at, node_at, plain_line, rule_of, spelled}
use Rattle.dt_modeltext.specs.Entry.{Entry, items, Declared, declared, sections, standing, node_in, declared_positions, entry_of, entry_at}
use Rattle.dt_modeltext.specs.Read.{grammar, finished, reading}
use Rattle.dt_modeltext.proofs.LineArities.{bound, alone_is}
use Rattle.dt_modeltext.proofs.ReadModels.{finished_holds}
use Rattle.dt_lex.proofs.Fronts.{given_some}

abbrev Tokens : Type 0
Tokens = List (List ℕ)

abbrev names : List NodeData → List Name
names ns = map (λ n. n.name) ns

-- ---- one line

-- a line that begins with another word gives no node
no_node : (t w : List ℕ) (ts : Tokens) → bytes_eq w (codes "node") ≡ false → bytes_eq t w ≡ true → node_name (t ∷ ts) ≡ []
no_node t w [] other is = refl
no_node t w (u ∷ us) other is =
    let same : t ≡ w = (bytes_eq-Decides t w).0 is in
    cond-false (bytes_eq t (codes "node")) (option_to_list (name_of u)) [] (ap (λ (x : List ℕ). bytes_eq x (codes "node")) same ∙ other)

abbrev Gives : Tokens → LineData → Type 0
Gives ts l = names (node_in l) ≡ node_name ts

rule_gives : (Q : LineData → Type 0) (s : Positions) (ts : Tokens) → ((e : Tree) → Q (context_rule e)) → ((e : Tree) → Q (access_rule e)) → IfSome (rule_of s ts) Q
unfolding rule_of
rule_gives Q s [] h k = tt
rule_gives Q s (t ∷ ts) h k =
    chosen_some Q (bytes_eq t (codes "context")) _ _ (λ _. mapped_some Q (λ e. context_rule e) (lone (expr_at s most_depth ts)) (λ e _. h e))
    (λ _. chosen_some Q (bytes_eq t (codes "access")) _ _ (λ _. mapped_some Q (λ e. access_rule e) (lone (expr_at s most_depth ts)) (λ e _. k e)) (λ _. tt))

first_is : (us : Tokens) (o : Option Name) (a : Name × Tokens) → option_map (λ x. (x, us)) o ≡ Some a → o ≡ Some a.0
first_is us None a h = absurd cc
first_is us (Some n) a h =
    let same : (n, us) ≡ a = cc in
    ap (λ (p : Name × Tokens). Some p.0) same

node_gives : (s : Positions) (t : List ℕ) (ts : Tokens) → bytes_eq t (codes "node") ≡ true → IfSome (node_at s ts) (λ x. x.0.name ∷ [] ≡ node_name (t ∷ ts))
unfolding node_at
node_gives s t [] is = tt
node_gives s t (u ∷ us) is =
    bound _ (option_map (λ x. (x, us)) (name_of u)) _ (λ a at. bound _ (act_at s a.1) _ (λ step _. sym (cond-true (bytes_eq t (codes "node")) (option_to_list (name_of u)) [] is ∙ ap option_to_list (first_is us (name_of u) a at))))

whole_gives : (s : Positions) (t : List ℕ) (ts : Tokens) → bytes_eq t (codes "node") ≡ true → IfSome (lone (node_at s ts)) (λ n. n.name ∷ [] ≡ node_name (t ∷ ts))
whole_gives s t ts is =
    bound _ (node_at s ts) _ (λ x at. alone_is (λ n. n.name ∷ [] ≡ node_name (t ∷ ts)) x.0 x.1 (at_some (λ y. y.0.name ∷ [] ≡ node_name (t ∷ ts)) (node_at s ts) x (node_gives s t ts is) at))

plain_gives : (t : List ℕ) (ts : Tokens) → IfSome (plain_line t ts) (Gives (t ∷ ts))
unfolding plain_line
plain_gives t ts =
    let Q = Gives (t ∷ ts) in
    chosen_some Q (bytes_eq t (codes "model")) _ _ (λ is. given_some Q (is_alone (codes "1") ts) header (sym (no_node t (codes "model") ts refl is)))
    (λ _. chosen_some Q (bytes_eq t (codes "word")) _ _ (λ is. mapped_some Q (λ w. word w) (lone (small_at ts)) (λ _ _. sym (no_node t (codes "word") ts refl is)))
    (λ _. chosen_some Q (bytes_eq t (codes "address")) _ _ (λ is. mapped_some Q (λ a. address a) (lone (small_at ts)) (λ _ _. sym (no_node t (codes "address") ts refl is)))
    (λ _. chosen_some Q (bytes_eq t (codes "reg")) _ _ (λ is. mapped_some Q (λ n. new_reg n) (lone (named_at ts)) (λ _ _. sym (no_node t (codes "reg") ts refl is)))
    (λ _. chosen_some Q (bytes_eq t (codes "input")) _ _ (λ is. mapped_some Q (λ n. new_input n) (lone (named_at ts)) (λ _ _. sym (no_node t (codes "input") ts refl is)))
    (λ _. chosen_some Q (bytes_eq t (codes "var")) _ _ (λ is. mapped_some Q (λ n. new_var n) (lone (named_at ts)) (λ _ _. sym (no_node t (codes "var") ts refl is)))
    (λ _. chosen_some Q (bytes_eq t (codes "end")) _ _ (λ is. alone_is Q ended ts (sym (no_node t (codes "end") ts refl is))) (λ _. tt)))))))

spelled_gives : (s : Positions) (t : List ℕ) (ts : Tokens) → IfSome (spelled s t ts) (Gives (t ∷ ts))
unfolding spelled
spelled_gives s t ts =
    let Q = Gives (t ∷ ts) in
    chosen_some Q (bytes_eq t (codes "legal")) _ _ (λ is. rule_gives Q s ts (λ e. sym (no_node t (codes "legal") ts refl is)) (λ e. sym (no_node t (codes "legal") ts refl is)))
    (λ _. chosen_some Q (bytes_eq t (codes "node")) _ _ (λ is. mapped_some Q (λ n. new_node n) (lone (node_at s ts)) (λ n at. at_some (λ m. m.name ∷ [] ≡ node_name (t ∷ ts)) (lone (node_at s ts)) n (whole_gives s t ts is) at)) (λ _. plain_gives t ts))

-- ---- all lines

-- the names that an entry gives
abbrev names_by : Entry → List Name
names_by e = names (node_in e.line)

abbrev GivesEntry : Tokens → Entry → Type 0
GivesEntry ts e = names_by e ≡ node_name ts

kept_gives : (b : Bool) (ts : Tokens) (e : Entry) → GivesEntry ts e → IfOk (cond b (Ok e) (Err form)) (GivesEntry ts)
kept_gives true ts e h = h
kept_gives false ts e h = tt

entry_gives : (n : ℕ) (d : Declared) (ts : Tokens) (o : Option LineData) → IfSome o (Gives ts) → IfOk (entry_of n d o) (GivesEntry ts)
entry_gives n d ts None h = tt
entry_gives n d ts (Some l) h = kept_gives (may_follow sections d.place (standing l)) ts (record { number = n; line = l }) h

unless_deep : (b : Bool) (ts : Tokens) (r : Result Entry Cause) → IfOk r (GivesEntry ts) → IfOk (cond b (Err too_deep) r) (GivesEntry ts)
unless_deep true ts r h = tt
unless_deep false ts r h = h

each_gives : (nodes : Name → Option ℕ) (n : ℕ) (d : Declared) (t : List ℕ) (ts : Tokens) → IfOk (entry_at nodes n d t ts) (GivesEntry (t ∷ ts))
each_gives nodes n d t ts =
    let s = declared_positions nodes d.model in
    unless_deep (is_too_deep (t ∷ ts)) (t ∷ ts) (entry_of n d (spelled s t ts)) (entry_gives n d (t ∷ ts) (spelled s t ts) (spelled_gives s t ts))

names_of_items : (es : List Entry) → names (items node_in es) ≡ flat_map names_by es
names_of_items [] = refl
names_of_items (e ∷ es) = map-append (λ (m : NodeData). m.name) (node_in e.line) (items node_in es) ∙ ap (λ (xs : List Name). names_by e ++ xs) (names_of_items es)

abbrev AreNamed : List (List ℕ) → Declared → Type 0
AreNamed lines d = node_names lines ≡ names d.model.nodes

all_named : (es : List Entry) (lines : List (List ℕ)) → flat_map names_by es ≡ flat_map (λ line. node_name (tokens_of line)) lines → AreNamed lines (declared es)
unfolding declared node_names
all_named es lines h = sym (names_of_items es ∙ h)

reading_named : (text : List ℕ) → IfOk (reading text) (AreNamed (lines_of text))
unfolding reading
reading_named text =
    let nodes = position_of (node_names (lines_of text)) in
    reading_seen (grammar nodes) names_by node_name refl (each_gives nodes) finished (AreNamed (lines_of text)) text (λ n es h. finished_holds (AreNamed (lines_of text)) n (declared es) (all_named es (lines_of text) h))

-- the names that a text's targets are looked up in are the names of its nodes
pub nodes_named : (text : List ℕ) (d : Declared) → reading text ≡ Ok d → node_names (lines_of text) ≡ names d.model.nodes
nodes_named text d h = at_ok (AreNamed (lines_of text)) (reading text) d (reading_named text) h
