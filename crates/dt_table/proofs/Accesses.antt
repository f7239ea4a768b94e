-- The terms of an access tell its walk over each memory that has the words.
use Rattle.std.proofs.Common.{◌≡◌, ℕ, ◌+◌, ◌<◌, Bool, true, false, cond, eqb, List, [], ◌∷◌, length, ◌⊎◌, inl, inr, refl, sym, ap, ◌∙◌, subst, arith}
use Rattle.std.proofs.lemmas.Bool.{cases_Bool, eqb-true, eqb-false, eq-eqb, ne_eqb}
use Rattle.std.proofs.lemmas.List.{length-map}
use Rattle.dt_bits.specs.Memory.{Memory, is_place}
use Rattle.dt_model.specs.ModelData.{ModelData, ActData}
use Rattle.dt_model.specs.Faults.{steps}
use Rattle.dt_terms.specs.declared.term.Term.{Term}
use Rattle.dt_walk.specs.Meaning.{env_of, unbound}
use Rattle.dt_walk.specs.Walks.{RunData, walk_of}
use Rattle.dt_table.specs.declared.out.Out.{Out}
use Rattle.dt_table.specs.Passing.{Access, State, passed, noted, walk_placed}
use Rattle.dt_table.specs.Table.{first_state}
use Rattle.dt_forms.specs.Meaning.{Valuation, IsLawful, flag}
use Rattle.dt_table.specs.Told.{told}
use Rattle.dt_table.proofs.Nodes.{IsOf, AreLeft, WordsWide, Follows, words_of, walk_told}
use Rattle.dt_table.proofs.Remembered.{Remembers, walk_remembered}

pub first_follows : (v : Valuation) (a : Access) (d : ModelData) (regs inputs : List ℕ) (cells : ℕ → Bool) (terms : List Term) (word : ℕ) → IsOf v a (env_of d regs inputs) cells → Follows v a (steps d) (first_state a terms word) 0 0 unbound
first_follows v a d regs inputs cells terms word i = record {
  comes = λ n l. by_node n (cases_Bool (eqb n 0));
  keeps = λ l x. inr ([], refl, refl);
  wide = λ x t w e f. absurd (cc);
}
  where
    by_node : (n : ℕ) → (eqb n 0 ≡ true) ⊎ (eqb n 0 ≡ false) → v (cond (eqb n 0) a.one_term a.zero_term) ≡ flag (eqb 0 n)
    by_node n (inl e) = ap (λ (b : Bool). v (cond b a.one_term a.zero_term)) e ∙ i.one_is ∙ ap flag (sym (eq-eqb 0 n (sym (eqb-true n 0 e))))
    by_node n (inr e) = ap (λ (b : Bool). v (cond b a.one_term a.zero_term)) e ∙ i.zero_is ∙ ap flag (sym (ne_eqb 0 n (λ z. eqb-false n 0 e (sym z))))

pub length_outs : (a : Access) (ps : List ActData) (s : State) (n : ℕ) → length (walk_placed a s ps n).outs ≡ length ps
length_outs a [] s n = refl
length_outs a (p ∷ ps) s n = let i = length_outs a ps (passed a (noted s n) n p).state (n + 1) in omega (arith, i)

-- from an assignment to the walk: over a memory that has the words that are told, the walk is what is told
pub access_walk : (v : Valuation) (a : Access) (d : ModelData) (regs inputs : List ℕ) (m : Memory) (terms : List Term) (word first : ℕ) → IsOf v a (env_of d regs inputs) (is_place m) → AreLeft a word (steps d) (steps d) 0
    → WordsWide v a word (first_state a terms first) (steps d) 0 → IsLawful v (walk_placed a (first_state a terms first) (steps d) 0).terms → 0 < length (steps d)
    → Remembers m (told v (steps d) (walk_placed a (first_state a terms first) (steps d) 0).outs 0).reads
    → walk_of d regs inputs m ≡ told v (steps d) (walk_placed a (first_state a terms first) (steps d) 0).outs 0
access_walk v a d regs inputs m terms word first i left wide h l r =
    let s = first_state a terms first in
    let outs = (walk_placed a s (steps d) 0).outs in
    let e = walk_told v a (env_of d regs inputs) (is_place m) word (steps d) (steps d) s 0 0 unbound i left wide h (omega arith) l (first_follows v a d regs inputs (is_place m) terms first i) in
    let n : length (words_of v outs) ≡ length (steps d) = length-map outs (λ (o : Out). (v o.word).bits) ∙ length_outs a (steps d) s 0 in
    walk_remembered (env_of d regs inputs) m (steps d) (words_of v outs) 0 0 unbound n (subst (λ (q : RunData). Remembers m q.reads) (sym e) r) ∙ e
