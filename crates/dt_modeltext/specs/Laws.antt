-- The laws of the reader of model texts.
use Rattle.std.proofs.Common.{◌≡◌, ℕ, ◌+◌, List, [], ◌∷◌, ◌++◌, Option, ap, ◌∙◌, arith}
use Rattle.std.specs.Prelude.{map}
use Rattle.std.specs.List.{flat_map}
use Rattle.std.proofs.lemmas.List.{append-nil, map_push}
use Rattle.std.proofs.lemmas.List.Concat.{flat_map-append}
use Rattle.dt_lex.specs.declared.name.Name.{Name}
use Rattle.dt_lex.specs.Reading.{last_of, AddsUp}
use Rattle.dt_lex.proofs.Loop.{last_append}
use Rattle.dt_model.specs.ModelData.{ModelData}
use Rattle.dt_modeltext.specs.declared.draft.Draft.{Draft}
use Rattle.dt_modeltext.specs.Line.{LineData, header, word, address, new_reg, new_input, new_var, context_rule, access_rule, new_node, ended}
use Rattle.dt_modeltext.specs.Entry.{Entry, items, numbers, OriginsData, Declared, place_behind, word_in, address_in, reg_in, input_in, var_in, context_rule_in, access_rule_in, node_in, declared}
use Rattle.dt_modeltext.specs.Read.{grammar}
use Rattle.dt_modeltext.specs.Draft.{IsDraft, with_line, added}

-- ---- one more line

-- a line declares what stands in it
abbrev grown : Declared → ℕ → LineData → Declared
grown d n l = record {
  place = place_behind l;
  model = record {
    word = last_of d.model.word (word_in l);
    address = last_of d.model.address (address_in l);
    regs = d.model.regs ++ reg_in l;
    inputs = d.model.inputs ++ input_in l;
    vars = d.model.vars ++ var_in l;
    legal_context = d.model.legal_context ++ context_rule_in l;
    legal_access = d.model.legal_access ++ access_rule_in l;
    nodes = d.model.nodes ++ node_in l;
  };
  origins = record {
    regs = d.origins.regs ++ map (λ x. n) (reg_in l);
    inputs = d.origins.inputs ++ map (λ x. n) (input_in l);
    vars = d.origins.vars ++ map (λ x. n) (var_in l);
    legal_context = d.origins.legal_context ++ map (λ x. n) (context_rule_in l);
    legal_access = d.origins.legal_access ++ map (λ x. n) (access_rule_in l);
    nodes = d.origins.nodes ++ map (λ x. n) (node_in l);
  };
}

same_model : (a b : ModelData) → a.word ≡ b.word → a.address ≡ b.address → a.regs ≡ b.regs → a.inputs ≡ b.inputs → a.vars ≡ b.vars → a.legal_context ≡ b.legal_context → a.legal_access ≡ b.legal_access → a.nodes ≡ b.nodes → a ≡ b
same_model a b w d r i v c x n = λ t. record { word = w t; address = d t; regs = r t; inputs = i t; vars = v t; legal_context = c t; legal_access = x t; nodes = n t }

same_origins : (a b : OriginsData) → a.regs ≡ b.regs → a.inputs ≡ b.inputs → a.vars ≡ b.vars → a.legal_context ≡ b.legal_context → a.legal_access ≡ b.legal_access → a.nodes ≡ b.nodes → a ≡ b
same_origins a b r i v c x n = λ t. record { regs = r t; inputs = i t; vars = v t; legal_context = c t; legal_access = x t; nodes = n t }

same : (a b : Declared) → a.place ≡ b.place → a.model ≡ b.model → a.origins ≡ b.origins → a ≡ b
same a b p m o = λ t. record { place = p t; model = m t; origins = o t }

grown_is : (d : Declared) (n : ℕ) (l : LineData) → grown d n l ≡ with_line d n l
grown_is d n header = simp append-nil
grown_is d n (word w) = simp append-nil
grown_is d n (address a) = simp append-nil
grown_is d n (new_reg x) = simp append-nil
grown_is d n (new_input x) = simp append-nil
grown_is d n (new_var x) = simp append-nil
grown_is d n (context_rule e) = simp append-nil
grown_is d n (access_rule e) = simp append-nil
grown_is d n (new_node x) = simp append-nil
grown_is d n ended = simp append-nil

in_push : {A : Type 0} (f : Entry → List A) (es : List Entry) (e : Entry) → flat_map f (es ++ e ∷ []) ≡ flat_map f es ++ f e
in_push {A = A} f es e = flat_map-append f es (e ∷ []) ∙ ap (λ (xs : List A). flat_map f es ++ xs) (append-nil (f e))

item_push : {A : Type 0} (f : LineData → List A) (es : List Entry) (e : Entry) → items f (es ++ e ∷ []) ≡ items f es ++ f e.line
item_push f es e = in_push (λ x. f x.line) es e

number_push : {A : Type 0} (f : LineData → List A) (es : List Entry) (e : Entry) → numbers f (es ++ e ∷ []) ≡ numbers f es ++ map (λ x. e.number) (f e.line)
number_push f es e = in_push (λ x. map (λ y. x.number) (f x.line)) es e

place_push : (es : List Entry) (e : Entry) → last_of 0 (map (λ x. place_behind x.line) (es ++ e ∷ [])) ≡ place_behind e.line
place_push es e = ap (last_of 0) (map_push (λ (x : Entry). place_behind x.line) es e) ∙ last_append 0 (map (λ (x : Entry). place_behind x.line) es) (place_behind e.line ∷ [])

last_push : (f : LineData → List ℕ) (es : List Entry) (e : Entry) → last_of 0 (items f (es ++ e ∷ [])) ≡ last_of (last_of 0 (items f es)) (f e.line)
last_push f es e = ap (last_of 0) (item_push f es e) ∙ last_append 0 (items f es) (f e.line)

declared_push : (es : List Entry) (e : Entry) → declared (es ++ e ∷ []) ≡ added (declared es) e
unfolding declared
declared_push es e =
    same _ (grown (declared es) e.number e.line) (place_push es e)
    (same_model _ (grown (declared es) e.number e.line).model (last_push word_in es e) (last_push address_in es e) (item_push reg_in es e) (item_push input_in es e) (item_push var_in es e) (item_push context_rule_in es e) (item_push access_rule_in es e) (item_push node_in es e))
    (same_origins _ (grown (declared es) e.number e.line).origins (number_push reg_in es e) (number_push input_in es e) (number_push var_in es e) (number_push context_rule_in es e) (number_push access_rule_in es e) (number_push node_in es e))
    ∙ grown_is (declared es) e.number e.line

-- what entries declare is found by adding them one by one
pub adds_up : (nodes : Name → Option ℕ) → AddsUp (grammar nodes) added
adds_up nodes = declared_push

-- a draft of the lines before the n-th is one of the lines before the next where the n-th has no token
pub valid_later : (n : ℕ) (d : Draft) → IsDraft n d → IsDraft (n + 1) d
valid_later n d h = record { regs = h.regs; inputs = h.inputs; vars = h.vars; few_regs = omega (arith, h.few_regs); few_inputs = omega (arith, h.few_inputs); few_vars = omega (arith, h.few_vars) }
