-- The problem of a list of an accepted model is a problem: its terms are well formed, what is required is one bit wide, and a list within the limits has room.
use Rattle.std.proofs.Common.{◌≡◌, ℕ, ◌+◌, ◌*◌, ◌<◌, ◌≤◌, Bool, true, false, cond, eqb, List, [], ◌∷◌, ◌++◌, length, Some, refl, sym, ap, subst, arith}
use Rattle.std.specs.List.{AllByRecursion}
use Rattle.std.proofs.lemmas.List.Elements.{recursion_from_All}
use Rattle.dt_lemmas.proofs.Lists.{each_has}
use Rattle.dt_bits.specs.Bits.{IsWidth}
use Rattle.dt_model.specs.ModelData.{ModelData, Tree}
use Rattle.dt_model.specs.Faults.{IsAccepted, HaveArities, context_scope, access_scope, steps}
use Rattle.dt_model.specs.Widths.{HasArities, tree_width}
use Rattle.dt_model.proofs.Accepting.{reg_widths, input_widths, var_widths, accepted_word, accepted_address, context_rule_width, access_rule_width, context_arities, access_arities}
use Rattle.dt_request.specs.declared.list.AccessWish.{AccessWish}
use Rattle.dt_request.specs.declared.list.Requests.{Requests}
use Rattle.dt_request.specs.Lists.{IsList, IsWish, IsDemand, IsLink, IsKept}
use Rattle.dt_terms.specs.Terms.{AreTerms}
use Rattle.dt_terms.specs.Problem.{IsTest}
use Rattle.dt_forms.proofs.Sizes.{grows_on}
use Rattle.dt_forms.proofs.Fine.{forms_size, size_append, fine_append}
use Rattle.dt_table.specs.declared.out.Out.{Out}
use Rattle.dt_forms.specs.Folding.{fold}
use Rattle.dt_forms.proofs.Folding.{fold_can}
use Rattle.dt_table.specs.Extras.{all_extras}
use Rattle.dt_table.specs.Unlike.{all_unlikes, unlike_forms}
use Rattle.dt_table.specs.Table.{align_of, access_of, list_access, with_claims, contexts_built, start, built, claim_forms, extra_forms, table}
use Rattle.dt_table.proofs.Accepted.{ready_from}
use Rattle.dt_table.proofs.Composed.{contexts_outs}
use Rattle.dt_table.proofs.Ranges.{within_all}
use Rattle.dt_table.proofs.FineChoices.{start_chosen, start_terms}
use Rattle.dt_table.proofs.FineWalks.{IsPlain}
use Rattle.dt_table.proofs.FineClaims.{AreBits, AreOutsSized, names_wide}
use Rattle.dt_table.proofs.FineUnlike.{unlikes_fine}
use Rattle.dt_table.proofs.FineLists.{rules_size, IsModel, IsAsked, IsBuilt, access_size, contexts_onward, accesses_onward, onward_by, claims_fine, extras_fine, extras_size, outs_counted}

-- ---- what an accepted model gives

pub word_wide : (d : ModelData) → IsAccepted d → IsWidth d.word
word_wide d a = let w = accepted_word d a in (omega (arith, w), omega (arith, w))

address_wide : (d : ModelData) → IsAccepted d → IsWidth d.address
address_wide d a = let w = accepted_address d a in (omega (arith, w.0), omega (arith, w.1))

pub model_is : (d : ModelData) → IsAccepted d → HaveArities d → IsModel d
model_is d a h = record {
  ready = ready_from d a h;
  wide = record { regs = reg_widths d a; inputs = input_widths d a; word = word_wide d a; address = address_wide d a };
  vars = λ x w e. names_wide d.vars x w (var_widths d a) e;
  context_rules = each_has (λ (t : Tree). HasArities t × (tree_width (context_scope d) t ≡ Some 1)) d.legal_context (λ i t e. (context_arities d i t h e, context_rule_width d i t a h e));
  access_rules = each_has (λ (t : Tree). HasArities t × (tree_width (access_scope d) t ≡ Some 1)) d.legal_access (λ i t e. (access_arities d i t h e, access_rule_width d i t a h e));
}

align_small : (w : ℕ) → align_of w ≤ 3
align_small w = by_size (eqb w 8) (eqb w 16) (eqb w 32)
  where
    by_size : (a b c : Bool) → cond a 0 (cond b 1 (cond c 2 3)) ≤ 3
    by_size true b c = omega arith
    by_size false true c = omega arith
    by_size false false true = omega arith
    by_size false false false = omega arith

plain_is : (d : ModelData) (r : Requests) (k : ℕ) (a : AccessWish) → IsAccepted d → IsList d r → IsPlain (access_of d r k a)
plain_is d r k a accepted list =
    let w = accepted_address d accepted in
    let s = align_small d.word in
    record { wide = address_wide d accepted; align = omega (arith, s, w.0); order = list.bounds.rising; within = list.bounds.within }

wish_contexts : (d : ModelData) (r : Requests) (wishes : List AccessWish) → AllByRecursion (IsWish d (length r.contexts)) wishes → AllByRecursion (λ (a : AccessWish). a.context < length r.contexts) wishes
wish_contexts d r [] h = tt
wish_contexts d r (a ∷ more) h = (h.0.context, wish_contexts d r more h.1)

wish_demands : (d : ModelData) (r : Requests) (wishes : List AccessWish) → AllByRecursion (IsWish d (length r.contexts)) wishes → AllByRecursion (λ (a : AccessWish). AllByRecursion (IsDemand d) a.demands) wishes
wish_demands d r [] h = tt
wish_demands d r (a ∷ more) h = (recursion_from_All (IsDemand d) a.demands h.0.demands, wish_demands d r more h.1)

pub wish_few : (d : ModelData) (r : Requests) (wishes : List AccessWish) → AllByRecursion (IsWish d (length r.contexts)) wishes → AllByRecursion (λ (a : AccessWish). length a.demands ≤ 64) wishes
wish_few d r [] h = tt
wish_few d r (a ∷ more) h = (h.0.few_demands, wish_few d r more h.1)

pub wishes_of : (d : ModelData) (r : Requests) → IsList d r → AllByRecursion (IsWish d (length r.contexts)) r.accesses
wishes_of d r list = recursion_from_All (IsWish d (length r.contexts)) r.accesses list.accesses

asked_is : (d : ModelData) (r : Requests) → IsList d r → IsAsked d r
asked_is d r list = record {
  contexts = wish_contexts d r r.accesses (wishes_of d r list);
  demands = wish_demands d r r.accesses (wishes_of d r list);
  links = recursion_from_All (IsLink d (length r.accesses)) r.links list.links;
  kept = within_all d r.kept (recursion_from_All (IsKept d) r.kept list.kept);
}

-- ---- the terms

-- how many terms the rules and walks take at most
abbrev pub base_size : ModelData → Requests → ℕ
base_size d r = length r.contexts * rules_size d.legal_context + length r.accesses * access_size d

-- how many terms the claims take at most, with the further forms
abbrev pub claims_size : ModelData → Requests → ℕ
claims_size d r = forms_size (claim_forms d r (built d r).outs) + length r.accesses * length (steps d) + forms_size (unlike_forms (list_access d r) (all_unlikes d r (built d r).terms (built d r).outs))

pub record IsWhole (d : ModelData) (r : Requests) : Type 0 where
  pub terms_are : AreTerms (table d r).terms
  pub tests : AllByRecursion (IsTest (table d r).terms) (table d r).required
  pub most : length (table d r).terms ≤ length (start d r).terms + base_size d r + claims_size d r
  pub count : length (built d r).outs ≡ length r.accesses
  pub built_are : AreTerms (built d r).terms

pub table_whole : (d : ModelData) (r : Requests) → IsAccepted d → HaveArities d → IsList d r → IsWhole d r
unfolding table
table_whole d r a h list =
    let model = model_is d a h in
    let asked = asked_is d r list in
    let s = start d r in
    let first : IsBuilt d r s = record { terms_are = start_terms d r (reg_widths d a) (input_widths d a) (word_wide d a); chosen = start_chosen d r; tests = tt } in
    let c = contexts_built d s (length r.contexts) 0 in
    let x = contexts_onward d r (length r.contexts) 0 s model.context_rules first (omega arith) in
    let none : [] ≡ c.outs = sym (contexts_outs d (length r.contexts) 0 s) in
    let y = accesses_onward d r r.accesses c 0 model (λ k w. plain_is d r k w a list) x.built_is (subst (λ (l : List (List Out)). AllByRecursion (AreOutsSized d c.terms) l) none tt) asked.contexts (omega arith) in
    let b = built d r in
    let zero_outs : length c.outs ≡ 0 = ap length (sym none) in
    let n : length b.outs ≡ length r.accesses = (let e = y.count in omega (arith, e, zero_outs)) in
    let claims = claim_forms d r b.outs ++ extra_forms d r b.terms b.outs in
    let a = list_access d r in
    let words = unlike_forms a (all_unlikes d r b.terms b.outs) in
    let chosen = y.onward.built_is.chosen in
    let bits : AreBits b.terms a = record { zero_is = chosen.zero_is; one_is = chosen.one_is; wide = model.wide.address } in
    let linked = subst (λ (m : ℕ). AllByRecursion (IsLink d m) r.links) (sym n) asked.links in
    let further = fine_append b.terms (all_extras d r 0 b.outs) words (extras_fine d r b.terms 0 b.outs y.outs) (unlikes_fine d r a b.terms b.outs refl y.onward.built_is.terms_are bits y.outs linked) in
    let f = fine_append b.terms (claim_forms d r b.outs) (extra_forms d r b.terms b.outs) (claims_fine d r b.terms b.outs model asked y.onward.built_is.chosen y.outs n) further in
    let nodes = length (steps d) in
    let more : forms_size (all_extras d r 0 b.outs) ≤ length r.accesses * nodes = subst (λ (k : ℕ). forms_size (all_extras d r 0 b.outs) ≤ k * nodes) n (extras_size d r 0 b.outs nodes (outs_counted d b.terms b.outs y.outs)) in
    let size : forms_size claims ≤ claims_size d r = (let e = size_append (claim_forms d r b.outs) (extra_forms d r b.terms b.outs) in let k = size_append (all_extras d r 0 b.outs) words in omega (arith, e, k, more)) in
    let z = onward_by fold fold_can d r b claims (claims_size d r) y.onward.built_is f size in
    let g = grows_on s.terms b.terms (with_claims b claims).terms (base_size d r) (claims_size d r) (grows_on s.terms c.terms b.terms (length r.contexts * rules_size d.legal_context) (length r.accesses * access_size d) x.grows y.onward.grows) z.grows in
    record {
      terms_are = z.built_is.terms_are;
      tests = z.built_is.tests;
      most = let m = g.most in omega (arith, m);
      count = n;
      built_are = y.onward.built_is.terms_are;
    }

-- what stands before the claims
pub built_terms : (d : ModelData) (r : Requests) → IsAccepted d → HaveArities d → IsList d r → AreTerms (built d r).terms
built_terms d r a h list = (table_whole d r a h list).built_are

pub table_terms : (d : ModelData) (r : Requests) → IsAccepted d → HaveArities d → IsList d r → AreTerms (table d r).terms
table_terms d r a h list = (table_whole d r a h list).terms_are
