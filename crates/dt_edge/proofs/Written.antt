-- What a writer took of a text, write by write.
use Rattle.std.proofs.Common.{◌≡◌, ℕ, List, [], ◌++◌, Option, Some, None, refl, sym, ap, subst, ◌∙◌, append_assoc, append-nil}
use Rattle.std.specs.Io.KnownBytes.{Appends, Keeps}
use Rattle.dt_edge.specs.Writers.{AppendsFirst}

-- a first part of the text was appended, and this is the rest
pub record Wrote (old new : Option (List ℕ)) (text rest : List ℕ) : Type 0 where
  pub part : List ℕ
  pub split : text ≡ part ++ rest
  pub now : Appends old new part

appends-nil : (old : Option (List ℕ)) → Appends old old []
appends-nil None = tt
appends-nil (Some xs) = sym (append-nil xs)

appends-more : (old mid new : Option (List ℕ)) (a b : List ℕ) → Appends old mid a → Appends mid new b → Appends old new (a ++ b)
appends-more None mid new a b p q = tt
appends-more (Some xs) None new a b p q = absurd p
appends-more (Some xs) (Some ys) None a b p q = absurd q
appends-more (Some xs) (Some ys) (Some zs) a b p q = q ∙ ap (λ l. l ++ b) p ∙ append_assoc xs a b

appends-kept : (old mid new : Option (List ℕ)) (a : List ℕ) → Appends old mid a → Keeps mid new → Appends old new a
appends-kept None mid new a p q = tt
appends-kept (Some xs) None new a p q = absurd p
appends-kept (Some xs) (Some ys) None a p q = absurd q
appends-kept (Some xs) (Some ys) (Some zs) a p q = q ∙ p

pub wrote_none : (old : Option (List ℕ)) (text : List ℕ) → Wrote old old text text
wrote_none old text = record { part = []; split = refl; now = appends-nil old }

pub wrote_more : (old mid new : Option (List ℕ)) (text rest piece more : List ℕ)
    → Wrote old mid text rest → rest ≡ piece ++ more → Appends mid new piece → Wrote old new text more
wrote_more old mid new text rest piece more w e n = record {
  part = w.part ++ piece;
  split = w.split ∙ ap (λ r. w.part ++ r) e ∙ sym (append_assoc w.part piece more);
  now = appends-more old mid new w.part piece w.now n;
}

pub wrote_kept : (old mid new : Option (List ℕ)) (text rest : List ℕ) → Wrote old mid text rest → Keeps mid new → Wrote old new text rest
wrote_kept old mid new text rest w k = record { part = w.part; split = w.split; now = appends-kept old mid new w.part w.now k }

pub wrote_first : (old new : Option (List ℕ)) (text rest : List ℕ) → Wrote old new text rest → AppendsFirst old new text
wrote_first old new text rest w = (w.part, rest, w.split, w.now)

pub wrote_all : (old new : Option (List ℕ)) (text rest : List ℕ) → Wrote old new text rest → rest ≡ [] → Appends old new text
wrote_all old new text rest w e = subst (Appends old new) (sym (append-nil w.part) ∙ ap (λ r. w.part ++ r) (sym e) ∙ sym w.split) w.now
