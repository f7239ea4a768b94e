-- Forms whose parts are placed by calls in turn.
use Rattle.std.proofs.Common.{◌≡◌, ℕ, ap, ◌∙◌}
use Rattle.dt_terms.specs.Problem.{ProblemData}
use Rattle.dt_forms.specs.Forms.{Form, term, both_of}
use Rattle.dt_forms.specs.Folding.{claim_placed}
use Rattle.dt_build.specs.Building.{placed_in}

-- the problem in which the claim stands
abbrev pub with_claim : ProblemData → Form → ProblemData
with_claim p f = placed_in p (claim_placed p.terms f)

abbrev pub claim_at : ProblemData → Form → ℕ
claim_at p f = (claim_placed p.terms f).at

second_here : (p q r : ProblemData) (f g : Form) → q ≡ with_claim p f → r ≡ with_claim q g → r ≡ with_claim (with_claim p f) g
second_here p q r f g e h = h ∙ ap (λ (s : ProblemData). with_claim s g) e

second_at : (p q : ProblemData) (f g : Form) (u : ℕ) → q ≡ with_claim p f → u ≡ claim_at q g → u ≡ claim_at (with_claim p f) g
second_at p q f g u e h = h ∙ ap (λ (s : ProblemData). claim_at s g) e

-- both parts stand, and then the whole
pub both_at : (p q r : ProblemData) (f g : Form) (t u : ℕ) → q ≡ with_claim p f → t ≡ claim_at p f → r ≡ with_claim q g → u ≡ claim_at q g → claim_at r (both_of (term t) (term u)) ≡ claim_at p (both_of f g)
both_at p q r f g t u e a h b = λ i. claim_at (second_here p q r f g e h i) (both_of (term (a i)) (term (second_at p q f g u e b i)))

pub both_here : (p q r : ProblemData) (f g : Form) (t u : ℕ) → q ≡ with_claim p f → t ≡ claim_at p f → r ≡ with_claim q g → u ≡ claim_at q g → with_claim r (both_of (term t) (term u)) ≡ with_claim p (both_of f g)
both_here p q r f g t u e a h b = λ i. with_claim (second_here p q r f g e h i) (both_of (term (a i)) (term (second_at p q f g u e b i)))
