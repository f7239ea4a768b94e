-- The names of a text's nodes, line by line.
use Rattle.std.proofs.Common.{◌≡◌, ℕ, ◌≤◌, Bool, true, false, cond, List, [], ◌∷◌, ◌++◌, length, Option, Some, None, sym, ap, ◌∙◌, append_assoc, arith}
use Rattle.std.specs.Prelude.{codes}
use Rattle.std.specs.List.{flat_map}
use Rattle.std.specs.Option.{option_to_list}
use Rattle.std.specs.Str.{bytes_eq}
use Rattle.std.proofs.lemmas.List.{append-nil}
use Rattle.std.proofs.lemmas.List.Concat.{flat_map-cons}
use Rattle.dt_lex.specs.declared.name.Name.{Name}
use Rattle.dt_lex.specs.Names.{name_of}
use Rattle.dt_lex.specs.Text.{tokens_of}
use Rattle.dt_modeltext.specs.Line.{node_name, node_names}

at_most : (b : Bool) (o : Option Name) → length (cond b (option_to_list o) []) ≤ 1
at_most true None = omega arith
at_most true (Some n) = omega arith
at_most false o = omega arith

-- a line names one node at most
pub few_named : (ts : List (List ℕ)) → length (node_name ts) ≤ 1
few_named [] = omega arith
few_named (t ∷ []) = omega arith
few_named (t ∷ u ∷ us) = at_most (bytes_eq t (codes "node")) (name_of u)

pub named_more : (names total : List Name) (line : List ℕ) (lines more : List (List ℕ)) → lines ≡ line ∷ more → names ++ node_names lines ≡ total → (names ++ node_name (tokens_of line)) ++ node_names more ≡ total
unfolding node_names
named_more names total line lines more cut so_far =
    append_assoc names (node_name (tokens_of line)) (flat_map (λ l. node_name (tokens_of l)) more)
    ∙ ap (λ (xs : List Name). names ++ xs) (sym (flat_map-cons (λ (l : List ℕ). node_name (tokens_of l)) line more) ∙ ap (flat_map (λ l. node_name (tokens_of l))) (sym cut))
    ∙ so_far

pub named_end : (names total : List Name) (lines : List (List ℕ)) → lines ≡ [] → names ++ node_names lines ≡ total → names ≡ total
unfolding node_names
named_end names total lines none so_far =
    sym (ap (λ (ls : List (List ℕ)). names ++ flat_map (λ l. node_name (tokens_of l)) ls) none ∙ append-nil names) ∙ so_far
