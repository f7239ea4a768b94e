-- What a search found on the problem of a list, as texts that are printed.
use Rattle.std.proofs.Common.{◌≡◌, ℕ, ◌+◌, ◌^◌, ◌≤◌, List, [], ◌∷◌, Ok, refl, sym, ap, subst, ◌∙◌}
use Rattle.std.specs.Prelude.{sum_by}
use Rattle.std.proofs.lemmas.List.Sums.{sum_by-cons}
use Rattle.dt_model.specs.ModelData.{ModelData}
use Rattle.dt_request.specs.declared.list.Requests.{Requests}
use Rattle.dt_terms.specs.declared.term.Term.{Term}
use Rattle.dt_terms.specs.Problem.{ProblemData, IsProblem}
use Rattle.dt_terms.specs.Terms.{bits_at, choices_of}
use Rattle.dt_box.specs.Unknown.{bits_of_choices}
use Rattle.dt_sets.specs.declared.Triple.{Triple}
use Rattle.dt_sets.specs.TripleOps.{triple_ops}
use Rattle.dt_sets.specs.TripleLaws.{triple_laws}
use Rattle.dt_log.specs.declared.line.Claim.{Claim}
use Rattle.dt_log.specs.declared.line.Line.{Line}
use Rattle.dt_log.specs.Print.{printed}
use Rattle.dt_log.specs.Read.{reading}
use Rattle.dt_check.proofs.Loop.{refuted_has_none}
use Rattle.dt_solve.specs.Outcomes.{IsRefuted, IsSpent}
use Rattle.dt_table.specs.Numbers.{numbers_of}
use Rattle.dt_table.specs.Table.{table}
use Rattle.dt_encode.specs.Encoding.{TakesImages, HasChoices}
use Rattle.dt_top.specs.Answers.{IsRefutedBy, IsRefutation, IsRecord}

pub refuted_text : (d : ModelData) (list : Requests) (p : ProblemData) → p ≡ table d list → TakesImages d list p → IsProblem p → (claim : Claim) (lines : List Line) (text : List ℕ)
    → IsRefuted triple_ops p claim lines → text ≡ printed (claim, lines) → reading text ≡ Ok (claim, lines) → IsRefutation d list text
refuted_text d list p is takes h claim lines text r spelled back = record {
  log = (claim, lines);
  splits = r.splits;
  text_is = record { spelled = spelled; reads_back = back };
  refutes = subst (λ (q : ProblemData). IsRefutedBy q (claim, lines) r.splits) is r.refutes;
  none = λ i m.
      let memory = m.memory in
      let taken = takes i memory.fit m.satisfies in
      refuted_has_none Triple triple_ops p triple_laws h claim lines r.splits (numbers_of d i) r.refutes taken.0 taken.1;
}

-- the bits of choices, as a sum
bits_by : (terms : List Term) (ts : List ℕ) → bits_of_choices terms ts ≡ sum_by (bits_at terms) ts
unfolding bits_of_choices
bits_by terms [] = refl
bits_by terms (t ∷ ts) = ap (λ (n : ℕ). bits_at terms t + n) (bits_by terms ts) ∙ sym (sum_by-cons (bits_at terms) t ts)

pub recorded_text : (d : ModelData) (list : Requests) (p : ProblemData) → p ≡ table d list → HasChoices d list p → (splits : ℕ) (claim : Claim) (lines : List Line) (text : List ℕ)
    → IsSpent triple_ops p splits claim lines → text ≡ printed (claim, lines) → reading text ≡ Ok (claim, lines) → IsRecord d list splits text
recorded_text d list p is choices splits claim lines text s spelled back = record {
  log = (claim, lines);
  text_is = record { spelled = spelled; reads_back = back };
  spent = subst (λ (q : ProblemData). IsSpent triple_ops q splits claim lines) is s;
  few = subst (λ (n : ℕ). splits + 2 ≤ 2 ^ n) (bits_by p.terms (choices_of p.terms) ∙ choices.bits) s.few_in_all;
}
