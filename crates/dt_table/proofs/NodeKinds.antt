-- What holds of all nodes of an access holds of its results, and of its reads.
use Rattle.std.proofs.Common.{ℕ, List, [], ◌∷◌}
use Rattle.std.specs.List.{AllByRecursion}
use Rattle.dt_model.specs.ModelData.{Tree, ActData, bind, read, branch, fault, done}
use Rattle.dt_table.specs.declared.out.Out.{Out}
use Rattle.dt_table.specs.Claims.{reads_of}
use Rattle.dt_table.specs.Apart.{Sized, pages_at, tables_at}
use Rattle.dt_table.proofs.Flagged.{AllOuts}

pub pages_have : (P : ActData → Out → Type 0) (Q : Sized → Type 0) → ((e : Tree) (p : ℕ) (o : Out) → P (done e p) o → Q (record { exponent = p; out = o })) → (ps : List ActData) (os : List Out) → AllOuts P ps os → AllByRecursion Q (pages_at ps os)
pages_have P Q k [] os h = tt
pages_have P Q k (bind x e to ∷ ps) [] h = tt
pages_have P Q k (read x e g t f ∷ ps) [] h = tt
pages_have P Q k (branch e t f ∷ ps) [] h = tt
pages_have P Q k (fault c ∷ ps) [] h = tt
pages_have P Q k (done e p ∷ ps) [] h = tt
pages_have P Q k (bind x e to ∷ ps) (o ∷ os) h = pages_have P Q k ps os h.1
pages_have P Q k (read x e g t f ∷ ps) (o ∷ os) h = pages_have P Q k ps os h.1
pages_have P Q k (branch e t f ∷ ps) (o ∷ os) h = pages_have P Q k ps os h.1
pages_have P Q k (fault c ∷ ps) (o ∷ os) h = pages_have P Q k ps os h.1
pages_have P Q k (done e p ∷ ps) (o ∷ os) h = (k e p o h.0, pages_have P Q k ps os h.1)

pub tables_have : (P : ActData → Out → Type 0) (Q : Sized → Type 0) → ((x : ℕ) (e : Tree) (g t f : ℕ) (o : Out) → P (read x e g t f) o → Q (record { exponent = g; out = o })) → (ps : List ActData) (os : List Out) → AllOuts P ps os → AllByRecursion Q (tables_at ps os)
tables_have P Q k [] os h = tt
tables_have P Q k (bind x e to ∷ ps) [] h = tt
tables_have P Q k (read x e g t f ∷ ps) [] h = tt
tables_have P Q k (branch e t f ∷ ps) [] h = tt
tables_have P Q k (fault c ∷ ps) [] h = tt
tables_have P Q k (done e p ∷ ps) [] h = tt
tables_have P Q k (bind x e to ∷ ps) (o ∷ os) h = tables_have P Q k ps os h.1
tables_have P Q k (branch e t f ∷ ps) (o ∷ os) h = tables_have P Q k ps os h.1
tables_have P Q k (fault c ∷ ps) (o ∷ os) h = tables_have P Q k ps os h.1
tables_have P Q k (done e p ∷ ps) (o ∷ os) h = tables_have P Q k ps os h.1
tables_have P Q k (read x e g t f ∷ ps) (o ∷ os) h = (k x e g t f o h.0, tables_have P Q k ps os h.1)

pub reads_have : (P : ActData → Out → Type 0) (Q : Out → Type 0) → ((x : ℕ) (e : Tree) (g t f : ℕ) (o : Out) → P (read x e g t f) o → Q o) → (ps : List ActData) (os : List Out) → AllOuts P ps os → AllByRecursion Q (reads_of ps os)
reads_have P Q k [] os h = tt
reads_have P Q k (bind x e to ∷ ps) [] h = tt
reads_have P Q k (read x e g t f ∷ ps) [] h = tt
reads_have P Q k (branch e t f ∷ ps) [] h = tt
reads_have P Q k (fault c ∷ ps) [] h = tt
reads_have P Q k (done e p ∷ ps) [] h = tt
reads_have P Q k (bind x e to ∷ ps) (o ∷ os) h = reads_have P Q k ps os h.1
reads_have P Q k (branch e t f ∷ ps) (o ∷ os) h = reads_have P Q k ps os h.1
reads_have P Q k (fault c ∷ ps) (o ∷ os) h = reads_have P Q k ps os h.1
reads_have P Q k (done e p ∷ ps) (o ∷ os) h = reads_have P Q k ps os h.1
reads_have P Q k (read x e g t f ∷ ps) (o ∷ os) h = (k x e g t f o h.0, reads_have P Q k ps os h.1)

-- a fact of what stands for each node, whatever the steps
pub each_out : (R : Out → Type 0) (ps : List ActData) (os : List Out) → AllByRecursion R os → AllOuts (λ p o. R o) ps os
each_out R [] os h = tt
each_out R (p ∷ ps) [] h = tt
each_out R (p ∷ ps) (o ∷ os) h = (h.0, each_out R ps os h.1)
