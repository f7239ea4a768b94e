-- Lists over the first positions, and one more.
use Rattle.std.proofs.Common.{◌≡◌, ℕ, zero, suc, ◌+◌, ◌-◌, ◌≤◌, List, [], ◌∷◌, ◌++◌, map, ap, ◌∙◌, arith}
use Rattle.std.specs.List.{flat_map, range_with_len}
use Rattle.std.proofs.lemmas.List.{append-nil}
use Rattle.std.proofs.lemmas.List.Concat.{flat_map-append}
use Rattle.std.proofs.lemmas.List.FromFn.{map-range_with_len_more}
use Rattle.dt_request.specs.declared.list.Link.{Link}
use Rattle.dt_make.specs.Made.{wish_at, links_at}

range_more : (a n : ℕ) → range_with_len a (n + 1) ≡ range_with_len a n ++ (a + n) ∷ []
range_more a zero = ap (λ (k : ℕ). k ∷ []) (let e : a ≡ a + 0 = omega arith in e)
range_more a (suc n) =
    let first : a ∷ range_with_len (a + 1) (n + 1) ≡ a ∷ (range_with_len (a + 1) n ++ (a + 1 + n) ∷ []) = ap (λ (ks : List ℕ). a ∷ ks) (range_more (a + 1) n) in
    let last : a + 1 + n ≡ a + suc n = omega arith in
    let rest : range_with_len a (suc n + 1) ≡ a ∷ range_with_len (a + 1) (n + 1) = ap (range_with_len a) (let e : suc n + 1 ≡ suc (n + 1) = omega arith in e) in
    rest ∙ first ∙ ap (λ (k : ℕ). a ∷ (range_with_len (a + 1) n ++ k ∷ [])) last

pub wishes_more : (k : ℕ) → map wish_at (range_with_len 0 (k + 1)) ≡ map wish_at (range_with_len 0 k) ++ wish_at k ∷ []
wishes_more k = map-range_with_len_more wish_at 0 k k (omega arith)

pub links_more : (k : ℕ) → 1 ≤ k → flat_map links_at (range_with_len 1 (k + 1 - 1)) ≡ flat_map links_at (range_with_len 1 (k - 1)) ++ links_at k
links_more k some =
    ap (λ (n : ℕ). flat_map links_at (range_with_len 1 n)) (let e : k + 1 - 1 ≡ k - 1 + 1 = omega arith in e)
    ∙ ap (λ (ks : List ℕ). flat_map links_at ks) (range_more 1 (k - 1))
    ∙ flat_map-append links_at (range_with_len 1 (k - 1)) ((1 + (k - 1)) ∷ [])
    ∙ ap (λ (ls : List Link). flat_map links_at (range_with_len 1 (k - 1)) ++ ls) (append-nil (links_at (1 + (k - 1))))
    ∙ ap (λ (j : ℕ). flat_map links_at (range_with_len 1 (k - 1)) ++ links_at j) (let e : 1 + (k - 1) ≡ k = omega arith in e)
